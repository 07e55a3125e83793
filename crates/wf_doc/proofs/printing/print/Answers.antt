use Rattle.std.proofs.Common.{◌∙◌, ap}
use Rattle.serde_json.specs.Written.{has_float, compact_text}
use Rattle.wf_doc.proofs.Floatless.{floatless}
use Rattle.wf_doc.proofs.PrintLemmas.{compact_text-data_of}
use Rattle.wf_doc.proofs.printing.print.Goals as goal

pub returns : goal.returns
returns c = c.from_string.ensures ∙ c.in_ok-text.ensures.text (ap has_float c.in_ok-value.ensures ∙ floatless c.args.doc.now) ∙ ap compact_text c.in_ok-value.ensures ∙ compact_text-data_of c.args.doc.now
