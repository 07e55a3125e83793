use Rattle.wf_expr.proofs.PartLemmas.{parts_are_all, parts_end}
use Rattle.wf_expr.proofs.laws.a_text_is_its_parts.Goals as goal

pub returns-clause-whole : goal.returns-clause-whole
returns-clause-whole c = λ text. parts_are_all text 0

pub returns-clause-ends : goal.returns-clause-ends
returns-clause-ends c = λ text. parts_end text 0
