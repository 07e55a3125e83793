-- The rules from one of them on, and what the next step of a flow asks for.
use Rattle.std.specs.Prelude.{Option, List, [], ◌∷◌}
use Rattle.wf_wire.specs.declared.limits.Limits.{Limits}
use Rattle.wf_machine.specs.declared.walking.Next.{Next}
use Rattle.wf_rules.specs.declared.acting.Act.{Act}
use Rattle.wf_rules.specs.Rules.{all_done, first_of, r1, r2, r3, r4, r5, r6, take_step}
use Rattle.wf_rules.specs.Sight.{Scene, Sight}

abbrev pub from_attempts : Limits → Scene → Sight → List (Option (List Act))
from_attempts limits scene s = r4 limits s ∷ r5 limits scene s ∷ r6 limits scene s ∷ []

abbrev pub from_children : Limits → Scene → Sight → List (Option (List Act))
from_children limits scene s = r3 limits scene s ∷ from_attempts limits scene s

abbrev pub from_deadlines : Limits → Scene → Sight → List (Option (List Act))
from_deadlines limits scene s = r2 s ∷ from_children limits scene s

abbrev pub from_timeout : Limits → Scene → Sight → List (Option (List Act))
from_timeout limits scene s = r1 s ∷ from_deadlines limits scene s

-- the next step is taken, or the flow completes
abbrev pub by_step : Limits → Scene → Sight → Next → Option (List Act)
by_step limits scene s next = first_of (take_step limits scene s next ∷ all_done limits scene s next ∷ [])
