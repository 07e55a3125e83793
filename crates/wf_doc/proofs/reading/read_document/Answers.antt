use Rattle.wf_doc.proofs.ReadLemmas.{no_document_is_no_json}
use Rattle.std.proofs.Common.{refl}
use Rattle.wf_doc.proofs.reading.read_document.Goals as goal

pub returns-clause-err : goal.returns-clause-err
returns-clause-err c = λ _. (refl, no_document_is_no_json c.args.bytes.now _ c.requires c.in_ok-value.ensures.ok (c.in-Err-Numbers.ensures.err c.in-Err-Numbers.field-0-is))
