use Rattle.std.proofs.Common.{[], min, inl, refl, sym, ap, subst, ◌∙◌}
use Rattle.wf_commands.specs.Runs.{first_state}
use Rattle.wf_commands.specs.Standard.{IsStandard}
use Rattle.wf_rest.specs.Moments.{last_moment}
use Rattle.wf_commands.proofs.CompleteLemmas.{complete_run}
use Rattle.wf_commands.proofs.StandardLemmas.{standard, is_standard}
use Rattle.wf_commands.proofs.TurnLemmas.{over_start, over_starved}
use Rattle.wf_commands.proofs.batch.batch.Goals as goal

pub returns-in_default-clause-run : goal.returns-in_default-clause-run
returns-in_default-clause-run g c = λ command. (
  standard,
  c.min-moment.result,
  (
    is_standard,
    (λ readings told. c.min-moment.ensures ∙ ap (λ n. min n last_moment) (c.now.ensures.reading readings told).0),
    over_starved standard c.min-moment.result (g.R.Source.left c.args.source.now) (g.W.Sink.taken c.args.sink.now) 0 [] (g.R.Source.left c.args.source.now) first_state c.min-moment.result (g.W.Sink.taken c.args.sink.now)
        (over_start standard c.min-moment.result (g.R.Source.left c.args.source.now) (g.W.Sink.taken c.args.sink.now) 0 [] first_state refl refl refl),
  ),
)

pub returns-in_default-clause-complete : goal.returns-in_default-clause-complete
returns-in_default-clause-complete g c = λ command sound_source sound_sink. (
  standard,
  c.min-moment.result,
  (
    is_standard,
    (λ readings told. c.min-moment.ensures ∙ ap (λ n. min n last_moment) (c.now.ensures.reading readings told).0),
    (λ input messages told items. inl refl),
  ),
)

pub returns-in-Ok-new-clause-run : goal.returns-in-Ok-new-clause-run
returns-in-Ok-new-clause-run g c = λ command. (
  c.in-Ok-new.core.limits,
  c.min-moment.result,
  (
    subst IsStandard (sym c.in-Ok-new.ensures.limits) (record { body = refl; head = refl; fields = refl; depth = refl; nodes = refl; attempts = refl; flows = refl; batch = refl; document = refl; nesting = refl; input = refl }),
    (λ readings told. c.min-moment.ensures ∙ ap (λ n. min n last_moment) (c.now.ensures.reading readings told).0),
    c.serve.ensures.run,
  ),
)

pub returns-in-Ok-new-clause-complete : goal.returns-in-Ok-new-clause-complete
returns-in-Ok-new-clause-complete g c = λ command sound_source sound_sink. (
  c.in-Ok-new.core.limits,
  c.min-moment.result,
  (
    subst IsStandard (sym c.in-Ok-new.ensures.limits) (record { body = refl; head = refl; fields = refl; depth = refl; nodes = refl; attempts = refl; flows = refl; batch = refl; document = refl; nesting = refl; input = refl }),
    (λ readings told. c.min-moment.ensures ∙ ap (λ n. min n last_moment) (c.now.ensures.reading readings told).0),
    (λ input messages told items.
        let run = c.serve.ensures.run input told in
        complete_run c.items_are_unique.ensures c.read_messages_are_first.ensures c.in-Ok-new.core.limits c.min-moment.result input run.0
        (g.W.Sink.taken c.args.sink.now) (g.W.Sink.taken c.serve.new.sink) messages c.serve.result items
        (λ e. sound_source (c.serve.ensures.read_fault e)) (λ e. sound_sink (c.serve.ensures.write_fault e)) run.1.1),
  ),
)

pub returns-clause-run : goal.returns-clause-run
returns-clause-run g c = λ command. (
  standard,
  c.min-moment.result,
  (
    is_standard,
    (λ readings told. c.min-moment.ensures ∙ ap (λ n. min n last_moment) (c.now.ensures.reading readings told).0),
    over_starved standard c.min-moment.result (g.R.Source.left c.args.source.now) (g.W.Sink.taken c.args.sink.now) 0 [] (g.R.Source.left c.args.source.now) first_state c.min-moment.result (g.W.Sink.taken c.args.sink.now)
        (over_start standard c.min-moment.result (g.R.Source.left c.args.source.now) (g.W.Sink.taken c.args.sink.now) 0 [] first_state refl refl refl),
  ),
)

pub returns-clause-complete : goal.returns-clause-complete
returns-clause-complete g c = λ command sound_source sound_sink. (
  standard,
  c.min-moment.result,
  (
    is_standard,
    (λ readings told. c.min-moment.ensures ∙ ap (λ n. min n last_moment) (c.now.ensures.reading readings told).0),
    (λ input messages told items. inl refl),
  ),
)
