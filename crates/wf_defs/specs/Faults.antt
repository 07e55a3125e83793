-- The first broken rule, and how a place is written.
use Rattle.std.specs.Prelude.{ℕ, ◌==◌, if◌then◌else◌, List, [], ◌∷◌, ◌++◌, length, Option, None, Some, option_map}
use Rattle.wf_defs.specs.declared.faults.DefFault.{DefFault}
use Rattle.wf_defs.specs.declared.faults.DefFault.TheVariants.{Rule}

abbrev pub or_first_of : ℕ → Option (List ℕ) → Option (ℕ × List ℕ) → Option (ℕ × List ℕ)
or_first_of rule None later = later
or_first_of rule (Some place) later = Some (rule, place)

-- of rules, each with the first place in the table that breaks it: the first that is broken
abbrev pub first_broken : List (ℕ × Option (List ℕ)) → Option (ℕ × List ℕ)
first_broken [] = None
first_broken (r ∷ rs) = or_first_of r.0 r.1 (first_broken rs)

-- the place in a table that stands at a place itself
abbrev pub inside : List ℕ → List ℕ → List ℕ
inside table place =
    if length place == 0 then table
    else if length table == 0 then place
    else table ++ 46 ∷ place

-- the fault of a table at that place, where it breaks a rule
abbrev pub fault_at : List ℕ → Option (ℕ × List ℕ) → Option DefFault
fault_at table broken = option_map (λ b. Rule b.0 (inside table b.1)) broken
