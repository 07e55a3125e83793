use Rattle.std.proofs.Common.{◌≡◌, drop}
use Rattle.wf_machine.specs.Naming.{with_missing}
use Rattle.wf_setting.proofs.templates.with_missing.Given as goal

-- what is left of the template leads to what the whole makes
abbrev pub invariant-loop-entry : goal.invariant-loop-entry
invariant-loop-entry l = with_missing (drop l.entry-index l.missing) l.made ≡ with_missing l.missing l.fn.fields
