use Rattle.std.proofs.Common.{inr, subst, rules}
use Rattle.wf_wire.specs.Items.{IsMessage, IsNext}
use Rattle.wf_commands.specs.declared.batch.Turn.TheVariants.{Stops}
use Rattle.wf_commands.specs.Turns.{IsTurn}
use Rattle.wf_commands.proofs.TurnLemmas.{coming_map, stop_of_next, turn_of_answer}
use Rattle.wf_commands.proofs.batch.take_turn.Goals as goal

pub returns-in_default : goal.returns-in_default
returns-in_default g c = record {
  turn =
      let limits = c.args.core.now.limits in
      let o = c.args.inbox.now.offset in
      let o' = c.next_message.new.inbox.offset in
      let old = g.W.Sink.taken c.args.sink.now in
      let new = g.W.Sink.taken c.stop.new.sink in
      coming_map _ _ _ _ (λ p left p'. IsNext c.limits.result.now o p left c.next_message.result o' p')
      (λ p left p'. IsTurn limits c.args.moment.now c.args.moment.now o p left o' p' c.args.core.now.state c.args.core.now.state old new (Stops c.stop.result))
      (λ p left p' is. inr (
        c.next_message.result,
        (
          stop_of_next limits o p left c.next_message.result o' p' old new c.stop.result c.stop.ensures.stopped
              (subst (λ L. IsNext L o p left c.next_message.result o' p') c.limits.ensures is),
          c.stop.ensures.stopped,
        ),
      ))
      c.next_message.ensures.next;
  moment = c.requires.moment;
  within = λ e. let no : ⊥ = cc in absurd no;
  limits = search rules;
  entries = search rules;
  source_count = search rules;
  sink_count = search rules;
  read_fault = λ e. c.next_message.ensures.cause (c.stop.ensures.read_fault (cc));
  write_fault = λ e. c.stop.ensures.cause (cc);
  own_status = λ e. c.stop.ensures.own_status (cc);
}

pub returns-in-Message-clause-turn : goal.returns-in-Message-clause-turn
returns-in-Message-clause-turn g c =
    let limits = c.args.core.now.limits in
    let m = c.in-Message.message in
    let o = c.args.inbox.now.offset in
    let o' = c.next_message.new.inbox.offset in
    let s = c.args.core.now.state in
    let s' = c.answer.new.core.state in
    let old = g.W.Sink.taken c.args.sink.now in
    let new = g.W.Sink.taken c.answer.new.sink in
    coming_map _ _ _ _ (λ p left p'. IsMessage c.limits.result.now o p m o' p')
    (λ p left p'. IsTurn limits c.args.moment.now c.moment_at.result o p left o' p' s s' old new c.answer.result)
    (λ p left p' is.
    turn_of_answer limits c.args.moment.now c.moment_at.result o p left o' p' m s s' old new c.answer.result
    c.moment_at.ensures.moment c.answer.ensures.turn (subst (λ L. IsMessage L o p m o' p') c.limits.ensures is))
    c.in-Message.ensures.next
