use Rattle.std.proofs.Common.{◌≡◌, ◌≤◌, ◌∙◌, ℕ, List, length, Option, sym, ap, arith}
use Rattle.wf_sorted.specs.declared.entry.Entry.{Entry}
use Rattle.wf_sorted.specs.Order.{passed}
use Rattle.wf_timers.specs.Kept.{least_passed, lesser_of, ordered}
use Rattle.wf_timers.proofs.LeastLemmas.{IsLeast, count_by_moment, ended, ended_at, least_by_moment, looked_at, none_left, none_past, one_more}
use Rattle.wf_timers.proofs.deadlines.Deadlines.least_passed.Goals as goal

-- what holds of the entries by moment holds of those by number
turned : (first : Option ℕ) (moment : ℕ) (es ds : List Entry) (least : Option ℕ) → es ≡ ordered ds
    → least ≡ lesser_of first (least_passed moment es) → least ≡ lesser_of first (least_passed moment ds)
turned first moment es ds least same is = is ∙ ap (lesser_of first) (ap (least_passed moment) same ∙ least_by_moment moment ds)

counted : (first : Option ℕ) (moment : ℕ) (es ds : List Entry) (place : ℕ) (least : Option ℕ) → es ≡ ordered ds → IsLeast first moment es place least
    → place ≤ length es → place ≤ length (passed moment ds)
counted first moment es ds place least same is within =
    omega (arith, looked_at first moment es place least is within, ap (λ (xs : List Entry). length (passed moment xs)) same, count_by_moment moment ds)

pub returns-in_default-clause-value : goal.returns-in_default-clause-value
returns-in_default-clause-value g c =
    rw (← c.self.view_is)
    (turned c.args.first c.args.moment c.self.inside.by_moment.entries c.self.inside.by_number.items c.loop-place.least c.self.invariant.1
    (ended_at c.args.first c.args.moment c.self.inside.by_moment.entries c.loop-place.place c.loop-place.least c.in-Some.entry c.loop-place.invariant.least
    c.in-Some.ensures.order (sym c.in-Some.ensures.value) c.if-entry-moment.false))

pub returns-in_default-clause-cost : goal.returns-in_default-clause-cost
returns-in_default-clause-cost g c =
    let within : c.loop-place.place ≤ length c.self.inside.by_moment.entries = omega arith in
    let many = counted c.args.first c.args.moment c.self.inside.by_moment.entries c.self.inside.by_number.items c.loop-place.place c.loop-place.least c.self.invariant.1 c.loop-place.invariant.least within in
    rw (← c.self.view_is) (omega (arith, many, c.in-Some.ensures.cost, c.loop-place.invariant.cost))

pub returns-in_default-2-clause-value : goal.returns-in_default-2-clause-value
returns-in_default-2-clause-value g c =
    rw (← c.self.view_is)
    (turned c.args.first c.args.moment c.self.inside.by_moment.entries c.self.inside.by_number.items c.loop-place.least c.self.invariant.1
    (ended c.args.first c.args.moment c.self.inside.by_moment.entries c.loop-place.place c.loop-place.least c.loop-place.invariant.least
    (none_left c.args.moment c.self.inside.by_moment.entries c.loop-place.place (sym c.in_default.ensures.value))))

pub returns-in_default-2-clause-cost : goal.returns-in_default-2-clause-cost
returns-in_default-2-clause-cost g c =
    let within : c.loop-place.place ≤ length c.self.inside.by_moment.entries = omega arith in
    let many = counted c.args.first c.args.moment c.self.inside.by_moment.entries c.self.inside.by_number.items c.loop-place.place c.loop-place.least c.self.invariant.1 c.loop-place.invariant.least within in
    rw (← c.self.view_is) (omega (arith, many, c.in_default.ensures.cost, c.loop-place.invariant.cost))

pub loop-place-preserved : goal.loop-place-preserved
loop-place-preserved g c =
    record {
      least =
          rw c.lesser.ensures
          (one_more c.args.first c.args.moment c.self.inside.by_moment.entries c.loop-place.place c.loop-place.least c.in-Some.entry c.loop-place.invariant.least
          (sym c.in-Some.ensures.value) c.if-entry-moment.true);
      cost = omega (arith, c.in-Some.ensures.cost, c.loop-place.invariant.cost);
    }

pub returns-clause-value : goal.returns-clause-value
returns-clause-value g c =
    rw (← c.self.view_is)
    (turned c.args.first c.args.moment c.self.inside.by_moment.entries c.self.inside.by_number.items c.loop-place.least c.self.invariant.1
    (ended c.args.first c.args.moment c.self.inside.by_moment.entries c.loop-place.place c.loop-place.least c.loop-place.invariant.least
    (none_left c.args.moment c.self.inside.by_moment.entries c.loop-place.place (none_past c.self.inside.by_moment.entries c.loop-place.place (omega arith)))))

pub returns-clause-cost : goal.returns-clause-cost
returns-clause-cost g c =
    let within : c.loop-place.place ≤ length c.self.inside.by_moment.entries = omega arith in
    let many = counted c.args.first c.args.moment c.self.inside.by_moment.entries c.self.inside.by_number.items c.loop-place.place c.loop-place.least c.self.invariant.1 c.loop-place.invariant.least within in
    rw (← c.self.view_is) (omega (arith, many, c.loop-place.invariant.cost))
