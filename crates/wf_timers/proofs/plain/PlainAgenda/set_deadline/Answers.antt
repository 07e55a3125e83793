use Rattle.std.proofs.Common.{◌≡◌, ◌∙◌, ◌∷◌, List, sym, ap, subst, rules}
use Rattle.std.proofs.lemmas.Fn.{filter_same}
use Rattle.wf_sorted.specs.declared.entry.Entry.{Entry}
use Rattle.wf_timers.specs.Agenda.{deadline_of, without_deadline}
use Rattle.wf_timers.specs.Kept.{EachOnce}
use Rattle.wf_timers.proofs.DateLemmas.{of_front, of_without, once_front, once_without}
use Rattle.wf_timers.proofs.plain.PlainAgenda.set_deadline.Goals as goal

pub returns-in_ok-insert-clause-each : goal.returns-in_ok-insert-clause-each
returns-in_ok-insert-clause-each c =
    let forgotten : c.retain.new.self.items ≡ without_deadline c.args.number c.self.inside.deadlines.items = filter_same _ _ _ (λ x b f' k. search rules) _ _ c.retain.ensures.filtered in
    rw (← c.self.view_is, c.in-Some.is)
    (λ n.
    ap (deadline_of n) (c.in_ok-insert.ensures.items ∙ ap (λ (ds : List Entry). record { moment = c.in-Some.moment; number = c.args.number } ∷ ds) forgotten)
    ∙ of_front n c.args.number c.in-Some.moment c.self.inside.deadlines.items)

pub returns-in_default-clause-each : goal.returns-in_default-clause-each
returns-in_default-clause-each c =
    let forgotten : c.retain.new.self.items ≡ without_deadline c.args.number c.self.inside.deadlines.items = filter_same _ _ _ (λ x b f' k. search rules) _ _ c.retain.ensures.filtered in
    rw (← c.self.view_is, c.in_default.is)
    (λ n. ap (deadline_of n) forgotten ∙ of_without n c.args.number c.self.inside.deadlines.items)

pub invariant_of-self : goal.invariant_of-self
invariant_of-self c =
    let forgotten : c.retain.new.self.items ≡ without_deadline c.args.number c.self.inside.deadlines.items = filter_same _ _ _ (λ x b f' k. search rules) _ _ c.retain.ensures.filtered in
    subst EachOnce (sym (c.in_ok-insert.ensures.items ∙ ap (λ (ds : List Entry). record { moment = c.in-Some.moment; number = c.args.number } ∷ ds) forgotten))
    (once_front c.args.number c.in-Some.moment c.self.inside.deadlines.items c.self.invariant)

pub invariant_of-self-in_err-insert : goal.invariant_of-self-in_err-insert
invariant_of-self-in_err-insert c =
    let forgotten : c.retain.new.self.items ≡ without_deadline c.args.number c.self.inside.deadlines.items = filter_same _ _ _ (λ x b f' k. search rules) _ _ c.retain.ensures.filtered in
    subst EachOnce (sym (c.in_err-insert.ensures.items ∙ forgotten)) (once_without c.args.number c.self.inside.deadlines.items c.self.invariant)

pub invariant_of-self-in_default : goal.invariant_of-self-in_default
invariant_of-self-in_default c =
    let forgotten : c.retain.new.self.items ≡ without_deadline c.args.number c.self.inside.deadlines.items = filter_same _ _ _ (λ x b f' k. search rules) _ _ c.retain.ensures.filtered in
    subst EachOnce (sym forgotten) (once_without c.args.number c.self.inside.deadlines.items c.self.invariant)
