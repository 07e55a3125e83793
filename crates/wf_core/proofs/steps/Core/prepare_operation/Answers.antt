use Rattle.std.proofs.Common.{◌≡◌, ◌+◌, ◌∙◌, true, false, sym, ap, subst}
use Rattle.wf_machine.specs.declared.calling.Reply.{Reply}
use Rattle.wf_steps.specs.Calls.{Stepped, next_after, operation_reply, stepped, stops_flow, with_decided, with_undecided}
use Rattle.wf_core.specs.Changes.{IsPrepared}
use Rattle.wf_core.specs.Grown.{HasGrown}
use Rattle.wf_core.specs.Operations.{begins_anew}
use Rattle.wf_core.specs.Store.{Store}
use Rattle.wf_core.proofs.GrowLemmas.{if_ok}
use Rattle.wf_core.proofs.OperateLemmas.{IsMade, anew_next, copied_changed, decided_as, made_at, operated_emptied, operated_found, operated_has_grown, reply_told, stopped_changed, undecided_by}
use Rattle.wf_core.proofs.steps.Core.prepare_operation.Goals as goal

pub prepare_undecided-requires-clause-changed : goal.prepare_undecided-requires-clause-changed
prepare_undecided-requires-clause-changed c =
    let store = c.args.self.now in
    let s = store.state in
    let f = c.args.flow.flow in
    let now = c.in-Ok.flow.flow in
    let next = c.next_task-next_task.ensures.value ∙ ap (λ (x : Store). x.state.next_task) c.self.view_is in
    let made : IsMade store.limits c.args.moment c.args.operation s f now =
    made_at store.limits c.self.inside.limits c.args.moment c.next_task-next_task.result c.args.operation s f now (ap (λ (x : Store). x.limits) c.self.view_is) next c.in-Ok.ensures.allowed c.in-Ok.ensures.done in
    let stops : stops_flow c.args.operation ≡ true = sym c.stops_flow-stops.ensures ∙ c.if-stops.true in
    stopped_changed c.args.moment c.args.operation f now s made.same stops (copied_changed f s c.requires.copied)

pub prepare_anew-requires-clause-emptied : goal.prepare_anew-requires-clause-emptied
prepare_anew-requires-clause-emptied c =
    let store = c.args.self.now in
    let s = store.state in
    let f = c.args.flow.flow in
    let now = c.in-Ok.flow.flow in
    let next = c.next_task-next_task.ensures.value ∙ ap (λ (x : Store). x.state.next_task) c.self.view_is in
    let made : IsMade store.limits c.args.moment c.args.operation s f now =
    made_at store.limits c.self.inside.limits c.args.moment c.next_task-next_task.result c.args.operation s f now (ap (λ (x : Store). x.limits) c.self.view_is) next c.in-Ok.ensures.allowed c.in-Ok.ensures.done in
    let anew : begins_anew c.args.operation ≡ true = sym c.begins_anew-anew.ensures ∙ c.if-anew.true in
    operated_emptied c.args.moment c.args.operation f now s made.same anew (copied_changed f s c.requires.copied)

pub prepare_grown-requires-clause-grown : goal.prepare_grown-requires-clause-grown
prepare_grown-requires-clause-grown c =
    let store = c.args.self.now in
    let s = store.state in
    let f = c.args.flow.flow in
    let now = c.in-Ok.flow.flow in
    let next = c.next_task-next_task.ensures.value ∙ ap (λ (x : Store). x.state.next_task) c.self.view_is in
    let made : IsMade store.limits c.args.moment c.args.operation s f now =
    made_at store.limits c.self.inside.limits c.args.moment c.next_task-next_task.result c.args.operation s f now (ap (λ (x : Store). x.limits) c.self.view_is) next c.in-Ok.ensures.allowed c.in-Ok.ensures.done in
    let goes_on : begins_anew c.args.operation ≡ false = sym c.begins_anew-anew.ensures ∙ c.if-anew.false in
    subst (λ n. HasGrown now n s) (sym (c.next_after-after.ensures ∙ ap (next_after c.args.operation) next))
    (operated_has_grown c.args.moment c.args.operation f now s made.same goes_on (copied_changed f s c.requires.copied))

pub returns-then-stops-clause-ok : goal.returns-then-stops-clause-ok
returns-then-stops-clause-ok c =
    let store = c.args.self.now in
    let s = store.state in
    let f = c.args.flow.flow in
    let now = c.in-Ok.flow.flow in
    let next = c.next_task-next_task.ensures.value ∙ ap (λ (x : Store). x.state.next_task) c.self.view_is in
    let made : IsMade store.limits c.args.moment c.args.operation s f now =
    made_at store.limits c.self.inside.limits c.args.moment c.next_task-next_task.result c.args.operation s f now (ap (λ (x : Store). x.limits) c.self.view_is) next c.in-Ok.ensures.allowed c.in-Ok.ensures.done in
    let found = operated_found c.args.moment c.args.operation f now s made.same c.requires.copied.old c.requires.copied.found in
    let reply =
    reply_told c.args.moment c.args.operation f now s made.same c.answers_id-names.result c.number.result c.reply_of-reply.result c.answers_id-names.ensures c.number.ensures c.reply_of-reply.ensures in
    let old = c.requires.copied.old.flow in
    let stops : stops_flow c.args.operation ≡ true = sym c.stops_flow-stops.ensures ∙ c.if-stops.true in
    let makes =
    ap (λ (r : Reply). stepped (with_undecided (store.entries + 1) c.args.moment old now s) r) reply
    ∙ undecided_by store.limits (store.entries + 1) c.args.moment c.args.operation s f made.none old now c.requires.copied.same made.same stops in
    subst (λ (m : Stepped). IsPrepared m store store c.prepare_undecided.result) makes (c.prepare_undecided.ensures c.requires.copied.old found)

pub returns-then-anew-clause-ok : goal.returns-then-anew-clause-ok
returns-then-anew-clause-ok c =
    let store = c.args.self.now in
    let s = store.state in
    let f = c.args.flow.flow in
    let now = c.in-Ok.flow.flow in
    let next = c.next_task-next_task.ensures.value ∙ ap (λ (x : Store). x.state.next_task) c.self.view_is in
    let made : IsMade store.limits c.args.moment c.args.operation s f now =
    made_at store.limits c.self.inside.limits c.args.moment c.next_task-next_task.result c.args.operation s f now (ap (λ (x : Store). x.limits) c.self.view_is) next c.in-Ok.ensures.allowed c.in-Ok.ensures.done in
    let found = operated_found c.args.moment c.args.operation f now s made.same c.requires.copied.old c.requires.copied.found in
    let reply =
    reply_told c.args.moment c.args.operation f now s made.same c.answers_id-names.result c.number.result c.reply_of-reply.result c.answers_id-names.ensures c.number.ensures c.reply_of-reply.ensures in
    let old = c.requires.copied.old.flow in
    let anew : begins_anew c.args.operation ≡ true = sym c.begins_anew-anew.ensures ∙ c.if-anew.true in
    let goes = anew_next c.args.operation s.next_task anew in
    let makes =
    ap (λ (r : Reply). stepped (with_decided store.limits (store.entries + 1) c.args.moment old now s) r) reply
    ∙ ap (λ n. stepped (with_decided store.limits (store.entries + 1) c.args.moment old now (record s { next_task = n })) (operation_reply c.args.operation f.number)) (sym goes.0)
    ∙ decided_as store.limits (store.entries + 1) c.args.moment c.args.operation s f made.none old now c.requires.copied.same made.same goes.1 in
    if_ok _ _ c.prepare_anew.result
    (λ change h. subst (λ (m : Stepped). IsPrepared m store c.prepare_anew.new.self change) makes (h c.requires.copied.old found))
    c.prepare_anew.ensures.ok

pub returns-else-anew-clause-ok : goal.returns-else-anew-clause-ok
returns-else-anew-clause-ok c =
    let store = c.args.self.now in
    let s = store.state in
    let f = c.args.flow.flow in
    let now = c.in-Ok.flow.flow in
    let next = c.next_task-next_task.ensures.value ∙ ap (λ (x : Store). x.state.next_task) c.self.view_is in
    let made : IsMade store.limits c.args.moment c.args.operation s f now =
    made_at store.limits c.self.inside.limits c.args.moment c.next_task-next_task.result c.args.operation s f now (ap (λ (x : Store). x.limits) c.self.view_is) next c.in-Ok.ensures.allowed c.in-Ok.ensures.done in
    let found = operated_found c.args.moment c.args.operation f now s made.same c.requires.copied.old c.requires.copied.found in
    let reply =
    reply_told c.args.moment c.args.operation f now s made.same c.answers_id-names.result c.number.result c.reply_of-reply.result c.answers_id-names.ensures c.number.ensures c.reply_of-reply.ensures in
    let old = c.requires.copied.old.flow in
    let goes_on : stops_flow c.args.operation ≡ false = sym c.stops_flow-stops.ensures ∙ c.if-stops.false in
    let after : c.next_after-after.result ≡ next_after c.args.operation s.next_task = c.next_after-after.ensures ∙ ap (next_after c.args.operation) next in
    let makes =
    ap (λ (r : Reply). stepped (with_decided store.limits (store.entries + 1) c.args.moment old now (record s { next_task = c.next_after-after.result })) r) reply
    ∙ ap (λ n. stepped (with_decided store.limits (store.entries + 1) c.args.moment old now (record s { next_task = n })) (operation_reply c.args.operation f.number)) after
    ∙ decided_as store.limits (store.entries + 1) c.args.moment c.args.operation s f made.none old now c.requires.copied.same made.same goes_on in
    if_ok _ _ c.prepare_grown.result
    (λ change h. subst (λ (m : Stepped). IsPrepared m store c.prepare_grown.new.self change) makes (h c.requires.copied.old found))
    c.prepare_grown.ensures.ok
