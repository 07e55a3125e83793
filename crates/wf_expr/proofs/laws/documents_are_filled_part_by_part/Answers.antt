use Rattle.wf_expr.proofs.FillLemmas.{filled_bool, filled_int, filled_list, filled_null, filled_of_text, filled_table}
use Rattle.wf_expr.proofs.laws.documents_are_filled_part_by_part.Goals as goal

pub returns-clause-list : goal.returns-clause-list
returns-clause-list c = filled_list

pub returns-clause-table : goal.returns-clause-table
returns-clause-table c = filled_table

pub returns-clause-text : goal.returns-clause-text
returns-clause-text c = filled_of_text

pub returns-clause-null : goal.returns-clause-null
returns-clause-null c = filled_null

pub returns-clause-bool : goal.returns-clause-bool
returns-clause-bool c = filled_bool

pub returns-clause-int : goal.returns-clause-int
returns-clause-int c = filled_int
