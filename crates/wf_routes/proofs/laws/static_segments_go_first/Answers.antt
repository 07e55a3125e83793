use Rattle.std.proofs.Common.{refl}
use Rattle.wf_routes.proofs.laws.static_segments_go_first.Goals as goal

pub returns : goal.returns
returns c = refl
