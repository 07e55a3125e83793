-- Whether a new attempt can't start the flow that its node wants.
use Rattle.std.specs.Prelude.{Bool, false, ◌||◌}
use Rattle.wf_rules.specs.declared.acting.Child.{Child}
use Rattle.wf_rules.specs.declared.acting.Child.TheVariants.{Flow as NewFlow, TooLarge}
use Rattle.wf_rules.specs.Rules.{Room}

abbrev pub is_refused : Room → Child → Bool
is_refused r (NewFlow def input) = r.full || r.unnumbered
is_refused r TooLarge = r.full
is_refused r child = false
