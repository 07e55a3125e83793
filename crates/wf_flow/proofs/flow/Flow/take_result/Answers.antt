use Rattle.std.proofs.Common.{◌≡◌, ◌∙◌, IsSomeAnd, Some, sym, ap}
use Rattle.wf_machine.specs.State.{Attempt, attempt_numbered, with_attempt}
use Rattle.wf_machine.specs.Records.{is_kind_at, is_simple}
use Rattle.wf_machine.specs.Tasks.{result_applied}
use Rattle.wf_flow.specs.FlowFields.{flow_shown}
use Rattle.wf_flow.proofs.PlaceLemmas.{put_at}
use Rattle.wf_flow.proofs.RecordLemmas.{keeping_result, kept_found, kin_result, kind_found, some_and, taken_open}
use Rattle.wf_flow.proofs.flow.Flow.take_result.Goals as goal

-- the attempt at its place is the one of its number
put : (c : goal.After-apply_result) → IsSomeAnd (attempt_numbered c.args.task c.self.inside.attempts.items) (λ a. c.apply_result.new.self.items ≡ with_attempt (result_applied c.args.moment c.is_simple-simple.result c.args.outcome a) c.self.inside.attempts.items)
put c =
    put_at c.args.task c.self.inside.attempts.items c.apply_result.new.self.items c.in-Some.place (result_applied c.args.moment c.is_simple-simple.result c.args.outcome) (λ a. (kin_result c.args.outcome.status c.is_simple-simple.result c.args.moment c.args.outcome a).number) c.self.invariant.rising c.in-Some.ensures.some c.apply_result.ensures.items

-- the kind was looked up at that attempt's node
kind : (c : goal.After-apply_result) (a : Attempt) → attempt_numbered c.args.task c.self.inside.attempts.items ≡ Some a → c.is_simple-simple.result ≡ is_kind_at is_simple c.self.inside.def a.node
kind c a found = (rw (← c.self.view_is) at c.is_simple-simple.ensures) ∙ kind_found c.self.inside.def _ a found

-- the same, of the flow as it came
kind_before : (c : goal.After-apply_result) (a : Attempt) → attempt_numbered c.args.task c.self.inside.attempts.items ≡ Some a → c.is_simple-simple.result ≡ is_kind_at is_simple c.args.self.now.flow.def a.node
kind_before c a found =
    c.is_simple-simple.ensures
    ∙ kind_found c.args.self.now.flow.def (attempt_numbered c.args.task c.args.self.now.flow.attempts) a (sym (ap (λ room. attempt_numbered c.args.task room.flow.attempts) c.self.view_is) ∙ found)

pub invariant_of-self : goal.invariant_of-self
invariant_of-self c =
    let taken = rw (← c.self.view_is) at c.requires.taken in
    kept_found (flow_shown c.self.inside) c.args.task (result_applied c.args.moment c.is_simple-simple.result c.args.outcome) c.apply_result.new.self.items c.self.invariant (put c)
    (λ a found range sound. keeping_result c.self.inside.def c.args.moment c.is_simple-simple.result c.args.outcome a c.requires.status c.requires.callback c.requires.moment (kind c a found) (taken_open c.self.inside.def _ a taken found) range sound)

pub returns-in-Some-clause-flow : goal.returns-in-Some-clause-flow
returns-in-Some-clause-flow c =
    rw (← c.self.view_is)
    (some_and
    (λ a. c.apply_result.new.self.items ≡ with_attempt (result_applied c.args.moment c.is_simple-simple.result c.args.outcome a) c.self.inside.attempts.items)
    (λ a. record (flow_shown c.self.inside) { attempts = c.apply_result.new.self.items } ≡ record (flow_shown c.self.inside) { attempts = with_attempt (result_applied c.args.moment (is_kind_at is_simple c.args.self.now.flow.def a.node) c.args.outcome a) c.self.inside.attempts.items })
    (attempt_numbered c.args.task c.self.inside.attempts.items)
    (put c)
    (λ a found same. ap (λ attempts. record (flow_shown c.self.inside) { attempts = attempts }) (same ∙ ap (λ simple. with_attempt (result_applied c.args.moment simple c.args.outcome a) c.self.inside.attempts.items) (kind_before c a found))))
