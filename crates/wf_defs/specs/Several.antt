-- Lists of definitions: the first fault of an item, whose place begins with the item's.
use Rattle.std.specs.Prelude.{ℕ, suc, ◌==◌, if◌then◌else◌, List, [], ◌∷◌, ◌++◌, length, codes, Option, None, option_map}
use Rattle.std.specs.Fmt.{decimal}
use Rattle.std.specs.Option.{option_or}
use Rattle.wf_doc.specs.declared.doc.Doc.{Doc}
use Rattle.wf_defs.specs.declared.faults.DefFault.{DefFault}
use Rattle.wf_defs.specs.declared.faults.DefFault.TheVariants.{Rule, NoMemory}

-- the place of an item of the document, counted from 0
abbrev pub item_place : ℕ → List ℕ
item_place n = codes "[" ++ decimal n ++ codes "]"

-- a place in the item, or the item itself
abbrev pub place_in_item : ℕ → List ℕ → List ℕ
place_in_item n place = if length place == 0 then item_place n else item_place n ++ codes "." ++ place

-- the fault of an item as one of the list
abbrev pub in_item : ℕ → DefFault → DefFault
in_item n (Rule rule place) = Rule rule (place_in_item n place)
in_item n NoMemory = NoMemory

-- the first fault by these rules of documents that are the items from the n-th on
abbrev pub first_fault_in : (Doc → Option DefFault) → ℕ → List Doc → Option DefFault
first_fault_in rules n [] = None
first_fault_in rules n (d ∷ ds) = option_or (option_map (in_item n) (rules d)) (first_fault_in rules (suc n) ds)
