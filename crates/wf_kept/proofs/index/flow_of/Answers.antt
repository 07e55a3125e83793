use Rattle.wf_kept.proofs.IndexLemmas.{placed_at}
use Rattle.wf_kept.proofs.index.flow_of.Goals as goal

pub returns : goal.returns
returns c = placed_at _ _ _ _ _ c.requires.1 c.in_ok-place.ensures.some
