use Rattle.std.proofs.Common.{◌∙◌, None, sym, true≢false}
use Rattle.wf_names.proofs.IdLemmas.{exact_from_value, id_read-parsed, id_read-unparsed}
use Rattle.wf_names.proofs.ids.id_read.Goals as goal

pub returns-in-Ok-clause-value : goal.returns-in-Ok-clause-value
returns-in-Ok-clause-value c =
    c.id_in.ensures ∙ id_read-parsed c.args.text.now c.as_bytes.result.now (rw c.as_bytes.ensures c.in-Ok.ensures.bytes)

pub returns-in-Ok-clause-exact : goal.returns-in-Ok-clause-exact
returns-in-Ok-clause-exact c = exact_from_value c.id_in.result c.args.text.now (returns-in-Ok-clause-value c)

pub returns-in-Err-clause-value : goal.returns-in-Err-clause-value
returns-in-Err-clause-value c = id_read-unparsed c.args.text.now (λ parsed. true≢false (sym (c.in-Err.ensures.ok.1 parsed)))

pub returns-in-Err-clause-exact : goal.returns-in-Err-clause-exact
returns-in-Err-clause-exact c = exact_from_value None c.args.text.now (returns-in-Err-clause-value c)
