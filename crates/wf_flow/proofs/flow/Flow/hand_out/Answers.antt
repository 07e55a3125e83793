use Rattle.std.proofs.Common.{◌≡◌, true, IsSomeAnd, refl, ap}
use Rattle.wf_machine.specs.State.{attempt_numbered, with_attempt}
use Rattle.wf_machine.specs.Records.{is_scheduled}
use Rattle.wf_machine.specs.Tasks.{handed_out}
use Rattle.wf_flow.specs.FlowFields.{flow_shown}
use Rattle.wf_flow.proofs.PlaceLemmas.{put_at}
use Rattle.wf_flow.proofs.RecordLemmas.{at_found, keeping_handed, kept_found, scheduled_open, some_and}
use Rattle.wf_flow.proofs.flow.Flow.hand_out.Goals as goal

-- the attempt at its place is the one of its number
put : (c : goal.After-hand_out) → IsSomeAnd (attempt_numbered c.args.task c.self.inside.attempts.items) (λ a. c.hand_out.new.self.items ≡ with_attempt (handed_out c.args.moment c.args.worker a) c.self.inside.attempts.items)
put c =
    put_at c.args.task c.self.inside.attempts.items c.hand_out.new.self.items c.in-Some.place (handed_out c.args.moment c.args.worker) (λ a. refl) c.self.invariant.rising c.in-Some.ensures.some c.hand_out.ensures.items

pub invariant_of-self : goal.invariant_of-self
invariant_of-self c =
    let scheduled = rw (← c.self.view_is) at c.requires.scheduled in
    kept_found (flow_shown c.self.inside) c.args.task (handed_out c.args.moment c.args.worker) c.hand_out.new.self.items c.self.invariant (put c)
    (λ a found range sound. keeping_handed c.self.inside.def c.args.moment c.args.worker a c.requires.moment (scheduled_open a.status (at_found (λ x. is_scheduled x.status ≡ true) _ a scheduled found)) range sound)

pub returns-in-Some-clause-flow : goal.returns-in-Some-clause-flow
returns-in-Some-clause-flow c =
    rw (← c.self.view_is)
    (some_and
    (λ a. c.hand_out.new.self.items ≡ with_attempt (handed_out c.args.moment c.args.worker a) c.self.inside.attempts.items)
    (λ a. record (flow_shown c.self.inside) { attempts = c.hand_out.new.self.items } ≡ record (flow_shown c.self.inside) { attempts = with_attempt (handed_out c.args.moment c.args.worker a) c.self.inside.attempts.items })
    (attempt_numbered c.args.task c.self.inside.attempts.items)
    (put c)
    (λ a found same. ap (λ attempts. record (flow_shown c.self.inside) { attempts = attempts }) same))
