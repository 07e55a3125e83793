use Rattle.std.proofs.Common.{◌≡◌, drop, filter, option_map}
use Rattle.wf_doc.specs.Fields.{keys}
use Rattle.wf_defs.specs.Condition.{is_key, longest}
use Rattle.wf_defs.proofs.ConditionLemmas.{merged}
use Rattle.wf_defs.proofs.condition.longest_key.Given as goal

abbrev pub invariant-loop-entry : goal.invariant-loop-entry
invariant-loop-entry l =
    merged (option_map (λ key. key.now) l.found) (longest (filter (is_key l.bracketed l.text) (keys (drop l.entry-index l.entries)))) ≡ longest (filter (is_key l.bracketed l.text) (keys l.entries))
