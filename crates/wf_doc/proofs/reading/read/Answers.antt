use Rattle.std.proofs.Common.{◌≡◌, ◌∙◌, ap, sym, Some}
use Rattle.wf_doc.specs.declared.scan.DocFault.TheVariants.{Syntax}
use Rattle.wf_doc.proofs.ReadLemmas.{no_syntax}
use Rattle.wf_doc.proofs.reading.read.Goals as goal

pub returns-in-Some-clause-syntax : goal.returns-in-Some-clause-syntax
returns-in-Some-clause-syntax c = λ is. let same : c.in-Some.fault ≡ Syntax = cc in absurd (no_syntax c.args.bytes.now (sym c.first_fault.ensures ∙ c.in-Some.is ∙ ap Some same))
