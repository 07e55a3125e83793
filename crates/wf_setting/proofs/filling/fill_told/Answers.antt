use Rattle.wf_setting.proofs.filling.fill_told.Goals as goal

pub returns : goal.returns
returns c = rw (c.in_ok-scope.ensures.0, c.in_ok-scope.ensures.1) at c.fill_within.ensures
