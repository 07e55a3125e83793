use Rattle.std.proofs.Common.{arith}
use Rattle.wf_doc.proofs.SizeLemmas.{one_digit, more_digits, few_digits}
use Rattle.wf_doc.proofs.print_size.digit_count.Goals as goal

pub overflow_add-count : goal.overflow_add-count
overflow_add-count c = omega (arith, few_digits c.args.n (omega arith))

pub loop-rest-preserved : goal.loop-rest-preserved
loop-rest-preserved c = omega (arith, more_digits c.loop-rest.rest (omega arith) (omega arith))

pub returns : goal.returns
returns c = record {
  count = omega (arith, one_digit c.loop-rest.rest (omega arith));
  few = omega (arith, one_digit c.loop-rest.rest (omega arith), few_digits c.args.n (omega arith));
}
