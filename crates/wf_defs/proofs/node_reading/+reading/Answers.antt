use Rattle.std.proofs.Common.{◌≡◌, ◌≢◌, ◌∙◌, ap, length, map, None, Some, arith, rules}
use Rattle.wf_defs.specs.declared.faults.DefFault.TheVariants.{NoMemory}
use Rattle.wf_defs.specs.FlowRules.{first_fault}
use Rattle.wf_defs.specs.Lists.{listed_as}
use Rattle.wf_defs.specs.NodeReading.{kind_at}
use Rattle.wf_defs.specs.Nodes.{sites_inside, sites_of, sites_of_lists}
use Rattle.wf_defs.proofs.ReadingLemmas.{on_err, fault_here, faults_step, noted_step, nodes_step, list_fault_here, list_faults_step, list_noted_step, list_nodes_step, kind_fault, kind_value}
use Rattle.wf_defs.proofs.node_reading.+reading.Goals as goal

pub read_kind-returns-in_err-made-clause-err : goal.read_kind-returns-in_err-made-clause-err
read_kind-returns-in_err-made-clause-err t c =
    let fault = c.in_err-made.field-0.0 in
    let same = ap (map listed_as) c.deref.ensures.value ∙ c.in_ok-lists.ensures in
    let found : (told : fault ≢ NoMemory) → first_fault c.args.most c.args.seen.now (sites_inside c.args.levels c.args.looped c.args.place.now c.args.node.now) ≡ Some fault
    = λ told. kind_fault c.args.levels c.args.looped c.args.place.now c.args.node.now c.deref.result.now c.args.most c.args.seen.now (Some fault) (c.in_err-made.ensures.err told) same (omega arith) in
    on_err c.from_residual-in_err-made.result fault _ c.from_residual-in_err-made.ensures.1 found

pub read_kind-returns-clause-valid : goal.read_kind-returns-clause-valid
read_kind-returns-clause-valid t c =
    let same = ap (map listed_as) c.deref.ensures.value ∙ c.in_ok-lists.ensures in
    kind_fault c.args.levels c.args.looped c.args.place.now c.args.node.now c.deref.result.now c.args.most c.args.seen.now None c.in_ok-made.ensures.valid same (omega arith)

pub read_kind-returns-clause-value : goal.read_kind-returns-clause-value
read_kind-returns-clause-value t c =
    let same = ap (map listed_as) c.deref.ensures.value ∙ c.in_ok-lists.ensures in
    kind_value c.args.levels c.args.looped c.args.place.now c.args.node.now c.deref.result.now (length c.args.seen.now) c.in_ok-made.made.items c.in_ok-kind_with.field-0 c.in_ok-made.ensures.value c.in_ok-kind_with.ensures same (omega arith)

pub read_list-returns-in_err-read_node-clause-err :
    goal.read_list-returns-in_err-read_node-clause-err
read_list-returns-in_err-read_node-clause-err t c =
    let fault = c.in_err-read_node.field-0.0 in
    let inside = sites_inside c.args.levels in
    let list = listed_as c.args.list.now in
    let found : (told : fault ≢ NoMemory) → first_fault c.args.most c.args.seen.now (sites_of inside list) ≡ Some fault
    = λ told. c.loop-n.invariant.faults ∙ fault_here c.args.most inside list c.args.list.now.items.now c.loop-n.n c.node-item.result c.loop-n.seen fault (c.in_err-read_node.ensures.err told) (grind arith) c.node-item.is in
    on_err c.from_residual.result fault _ c.from_residual.ensures.1 found

pub read_list-loop-n-preserved : goal.read_list-loop-n-preserved
read_list-loop-n-preserved t c =
    let l = c.loop-n in
    let done = c.in_ok-read_node.ensures in
    let inside = sites_inside c.args.levels in
    let list = listed_as c.args.list.now in
    record {
      faults = l.invariant.faults ∙ faults_step c.args.most inside list c.args.list.now.items.now l.n c.node-item.result l.seen _ done.valid done.seen (grind arith) c.node-item.is;
      noted = l.invariant.noted ∙ noted_step c.args.most inside list c.args.list.now.items.now l.n c.node-item.result l.seen _ done.seen (grind arith) c.node-item.is;
      nodes = l.invariant.nodes ∙ nodes_step c.args.most inside list c.args.list.now.items.now l.n c.node-item.result l.seen (kind_at c.args.levels) _ l.made c.push.new.self _ done.seen done.value c.in_ok-push.ensures.ok (grind arith) c.node-item.is;
    }

pub read_lists-returns-in_err-read_list-clause-err :
    goal.read_lists-returns-in_err-read_list-clause-err
read_lists-returns-in_err-read_list-clause-err t c =
    let fault = c.in_err-read_list.field-0.0 in
    let inside = sites_inside c.args.levels in
    let found : (told : fault ≢ NoMemory) → first_fault c.args.most c.args.seen.now (sites_of_lists inside (map listed_as c.args.lists.now)) ≡ Some fault
    = λ told. c.loop-list.invariant.faults ∙ list_fault_here c.args.most inside c.args.lists.now c.loop-list.list-index c.list-item.result c.loop-list.seen fault (c.in_err-read_list.ensures.err told) (grind arith) c.list-item.is in
    on_err c.from_residual.result fault _ c.from_residual.ensures.1 found

pub read_lists-loop-list-preserved : goal.read_lists-loop-list-preserved
read_lists-loop-list-preserved t c =
    let l = c.loop-list in
    let done = c.in_ok-read_list.ensures in
    let inside = sites_inside c.args.levels in
    record {
      faults = l.invariant.faults ∙ list_faults_step c.args.most inside c.args.lists.now l.list-index c.list-item.result l.seen _ done.valid done.seen (grind arith) c.list-item.is;
      noted = l.invariant.noted ∙ list_noted_step c.args.most inside c.args.lists.now l.list-index c.list-item.result l.seen _ done.seen (grind arith) c.list-item.is;
      nodes = l.invariant.nodes ∙ list_nodes_step c.args.most inside c.args.lists.now l.list-index c.list-item.result l.seen (kind_at c.args.levels) _ l.made.items c.push.new.self.items _ done.seen done.value (search rules) (grind arith) c.list-item.is;
    }
