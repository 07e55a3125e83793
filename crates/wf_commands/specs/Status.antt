-- The exit status of each way in which the program ends.
use Rattle.std.specs.Prelude.{ℕ, List, codes, Option, None, Some}
use Rattle.wf_commands.specs.declared.status.Status.{Status}
use Rattle.wf_commands.specs.declared.status.Status.TheVariants.{Done, NoMemory, Usage, ReadFault, WriteFault, BadFrame, Cut, LongInput, TooLarge, Invalid}

abbrev pub status_code : Status → ℕ
status_code Done = 0
status_code NoMemory = 1
status_code Usage = 2
status_code ReadFault = 3
status_code WriteFault = 4
status_code (BadFrame o) = 7
status_code (Cut o) = 8
status_code LongInput = 9
status_code (TooLarge o) = 10
status_code Invalid = 13

abbrev pub status_name : Status → List ℕ
status_name Done = codes "Done"
status_name NoMemory = codes "NoMemory"
status_name Usage = codes "Usage"
status_name ReadFault = codes "ReadFault"
status_name WriteFault = codes "WriteFault"
status_name (BadFrame o) = codes "BadFrame"
status_name (Cut o) = codes "Cut"
status_name LongInput = codes "LongInput"
status_name (TooLarge o) = codes "TooLarge"
status_name Invalid = codes "Invalid"

abbrev pub status_offset : Status → Option ℕ
status_offset (BadFrame o) = Some o
status_offset (Cut o) = Some o
status_offset (TooLarge o) = Some o
status_offset _ = None
