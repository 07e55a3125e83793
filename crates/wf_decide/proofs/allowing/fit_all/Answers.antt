use Rattle.std.proofs.Common.{◌≡◌, get_or}
use Rattle.std.proofs.lemmas.List.Edits.{map_over_more}
use Rattle.wf_rules.specs.Rules.{fitted}
use Rattle.wf_decide.proofs.allowing.fit_all.Goals as goal

pub loop-act-preserved : goal.loop-act-preserved
loop-act-preserved c =
    let made : c.fit.new.act ≡ fitted c.args.room.now (get_or c.loop-act.acts c.loop-act.act-index c.act-item.result) = c.in_ok-fit.ensures in
    rw (made, ← c.act-item.is)
    (map_over_more (fitted c.args.room.now) c.args.acts.now c.loop-act.acts c.loop-act.act-index c.act-item.result c.loop-act-test.true c.loop-act.invariant c.act-item.is)
