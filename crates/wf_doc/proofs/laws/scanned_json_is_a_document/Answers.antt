use Rattle.wf_doc.proofs.ReadLemmas.{json_is_document}
use Rattle.wf_doc.proofs.laws.scanned_json_is_a_document.Goals as goal

pub returns : goal.returns
returns c = λ bytes j none found. json_is_document bytes j none found
