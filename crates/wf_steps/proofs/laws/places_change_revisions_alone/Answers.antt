use Rattle.wf_steps.proofs.PlaceLemmas.{places_apart}
use Rattle.wf_steps.proofs.laws.places_change_revisions_alone.Goals as goal

pub returns : goal.returns
returns c = places_apart
