use Rattle.std.proofs.Common.{◌≡◌, true, false}
use Rattle.std.specs.Str.{bytes_eq}
use Rattle.wf_names.specs.declared.ids.IdKind.TheVariants.{Flow, Task}
use Rattle.wf_names.specs.Ids.{layout}
use Rattle.wf_names.proofs.IdLemmas.{id_in-flow, id_in-neither, id_in-task}
use Rattle.wf_names.proofs.ids.id_in.Goals as goal

pub returns-then-eq : goal.returns-then-eq
returns-then-eq c =
    let flow : bytes_eq (layout c.mark_in-mark.result Flow c.number_in-number.result) c.args.octets.now ≡ true = cc in
    id_in-flow c.args.octets.now c.mark_in-mark.result c.number_in-number.result c.mark_in-mark.ensures c.number_in-number.ensures flow

pub returns-then-eq-2 : goal.returns-then-eq-2
returns-then-eq-2 c =
    let flow : bytes_eq (layout c.mark_in-mark.result Flow c.number_in-number.result) c.args.octets.now ≡ false = cc in
    let task : bytes_eq (layout c.mark_in-mark.result Task c.number_in-number.result) c.args.octets.now ≡ true = cc in
    id_in-task c.args.octets.now c.mark_in-mark.result c.number_in-number.result c.mark_in-mark.ensures c.number_in-number.ensures flow task

pub returns-else-eq-2 : goal.returns-else-eq-2
returns-else-eq-2 c =
    let flow : bytes_eq (layout c.mark_in-mark.result Flow c.number_in-number.result) c.args.octets.now ≡ false = cc in
    let task : bytes_eq (layout c.mark_in-mark.result Task c.number_in-number.result) c.args.octets.now ≡ false = cc in
    id_in-neither c.args.octets.now c.mark_in-mark.result c.number_in-number.result c.mark_in-mark.ensures c.number_in-number.ensures flow task
