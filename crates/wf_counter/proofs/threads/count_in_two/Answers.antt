use Rattle.std.proofs.Common.{rules, ◌≡◌, [], length, map, ap, ◌∙◌}
use Rattle.wf_counter.specs.Totals.{HasCounted}
use Rattle.wf_counter.proofs.AnswerLemmas.{answers_grow, counted_new, places_of_both, both_counted}
use Rattle.wf_counter.proofs.threads.count_in_two.Goals as goal

pub returns-clause-answers : goal.returns-clause-answers
returns-clause-answers g c =
    let first : HasCounted c.in_ok-lock.lock c.args.times c.split-second_pass.new.pass c.in_ok-first.first.items c.in_ok-first.pass = search rules in
    let second : HasCounted c.in_ok-lock.lock c.args.times c.split-second_pass.result c.in_ok-second.second.items c.in_ok-second.other = search rules in
    let start : c.in_ok-lock.lock.base ≡ c.args.start = search rules in
    rw (← start) (
      answers_grow c.in_ok-lock.lock.base c.in_ok-first.pass.seen c.join.new.pass.seen c.in_ok-first.first.items c.join.ensures.begins.0 first.3,
      answers_grow c.in_ok-lock.lock.base c.in_ok-second.other.seen c.join.new.pass.seen c.in_ok-second.second.items c.join.ensures.begins.1 second.3,
    )

pub returns-clause-places : goal.returns-clause-places
returns-clause-places g c =
    let first : HasCounted c.in_ok-lock.lock c.args.times c.split-second_pass.new.pass c.in_ok-first.first.items c.in_ok-first.pass = search rules in
    let second : HasCounted c.in_ok-lock.lock c.args.times c.split-second_pass.result c.in_ok-second.second.items c.in_ok-second.other = search rules in
    let no_first : c.split-second_pass.new.pass.own ≡ [] = search rules in
    let no_second : c.split-second_pass.result.own ≡ [] = search rules in
    places_of_both (length c.join.new.pass.seen) c.join.new.pass.own c.in_ok-first.pass.own c.in_ok-second.other.own (map (λ a. a.place) c.in_ok-first.first.items) (map (λ a. a.place) c.in_ok-second.second.items)
    (ap (λ s. s.own) c.join.ensures.join) (counted_new c.in_ok-lock.lock c.args.times c.split-second_pass.new.pass c.in_ok-first.pass c.in_ok-first.first.items first no_first)
    (counted_new c.in_ok-lock.lock c.args.times c.split-second_pass.result c.in_ok-second.other c.in_ok-second.second.items second no_second) c.join.ensures.own.0

pub returns-clause-own : goal.returns-clause-own
returns-clause-own g c =
    let first : HasCounted c.in_ok-lock.lock c.args.times c.split-second_pass.new.pass c.in_ok-first.first.items c.in_ok-first.pass = search rules in
    let second : HasCounted c.in_ok-lock.lock c.args.times c.split-second_pass.result c.in_ok-second.second.items c.in_ok-second.other = search rules in
    let no_first : c.split-second_pass.new.pass.own ≡ [] = search rules in
    let no_second : c.split-second_pass.result.own ≡ [] = search rules in
    c.join.ensures.count ∙ both_counted c.args.times c.in_ok-first.pass.own c.in_ok-second.other.own c.in_ok-first.first.items c.in_ok-second.second.items
    (counted_new c.in_ok-lock.lock c.args.times c.split-second_pass.new.pass c.in_ok-first.pass c.in_ok-first.first.items first no_first)
    (counted_new c.in_ok-lock.lock c.args.times c.split-second_pass.result c.in_ok-second.other c.in_ok-second.second.items second no_second) first.4 second.4
