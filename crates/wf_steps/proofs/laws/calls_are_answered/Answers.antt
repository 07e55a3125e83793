use Rattle.wf_steps.proofs.StepLemmas.{never_starved}
use Rattle.wf_steps.proofs.laws.calls_are_answered.Goals as goal

pub returns : goal.returns
returns c = never_starved
