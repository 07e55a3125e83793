use Rattle.std.proofs.Common.{◌≡◌, ◌∙◌, slice_set, sym}
use Rattle.wf_machine.specs.State.{with_attempt}
use Rattle.wf_machine.specs.Records.{IsInRange}
use Rattle.wf_flow.proofs.KinLemmas.{each_with}
use Rattle.wf_flow.proofs.PlaceLemmas.{numbered_at, rising_with, with_at}
use Rattle.wf_flow.proofs.flow.Flow.replace.Goals as goal

-- a write at its place puts the attempt in the place of the one of its number
replaced : (c : goal.After-replace) → slice_set c.self.inside.attempts.items c.in-Some.place c.args.attempt ≡ with_attempt c.args.attempt c.self.inside.attempts.items
replaced c = with_at 1 c.args.attempt _ c.in-Some.place c.self.invariant.rising (rw c.number.ensures at c.in-Some.ensures.some)

pub invariant_of-self : goal.invariant_of-self
invariant_of-self c =
    rw (c.replace.ensures.items, replaced c)
    (record {
      rising = rising_with 1 c.args.attempt _ c.self.invariant.rising;
      ranges = each_with IsInRange c.args.attempt _ c.self.invariant.ranges c.in_range.ensures;
      sound = rw (← c.self.view_is) at c.requires.kept;
    })

pub returns-in-Some-clause-old : goal.returns-in-Some-clause-old
returns-in-Some-clause-old c =
    rw (← c.self.view_is) (sym (numbered_at 1 c.args.attempt.number _ c.in-Some.place c.self.invariant.rising (rw c.number.ensures at c.in-Some.ensures.some)) ∙ c.replace.ensures.old)

pub returns-in-Some-clause-flow : goal.returns-in-Some-clause-flow
returns-in-Some-clause-flow c = rw (← c.self.view_is, c.replace.ensures.items, replaced c)
