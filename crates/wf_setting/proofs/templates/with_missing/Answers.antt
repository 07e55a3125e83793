use Rattle.std.proofs.Common.{◌∙◌, sym}
use Rattle.wf_setting.proofs.TemplateLemmas.{missing_all, missing_more}
use Rattle.wf_setting.proofs.templates.with_missing.Goals as goal

pub loop-entry-preserved : goal.loop-entry-preserved
loop-entry-preserved c =
    missing_more c.args.missing.now c.loop-entry.entry-index c.entry-item.result c.loop-entry.made c.in_ok-made.made c.loop-entry-test.true c.entry-item.is c.in_ok-made.ensures
    ∙ c.loop-entry.invariant

pub returns : goal.returns
returns c = sym (missing_all c.args.missing.now c.loop-entry.entry-index c.loop-entry.made c.loop-entry-test.false) ∙ c.loop-entry.invariant
