use Rattle.std.proofs.Common.{◌∙◌, ap}
use Rattle.std.specs.Str.{bytes_eq}
use Rattle.wf_wire.specs.Reading.{significant}
use Rattle.wf_wire.proofs.NumberLemmas.{values_tested}
use Rattle.wf_wire.proofs.framing.same_value.Goals as goal

pub returns : goal.returns
returns c = c.eq.ensures ∙ ap (λ x. bytes_eq x c.significant-2.result.now) c.significant.ensures ∙ ap (λ x. bytes_eq (significant c.args.a.now) x) c.significant-2.ensures ∙ values_tested c.args.a.now c.args.b.now c.requires.a c.requires.b
