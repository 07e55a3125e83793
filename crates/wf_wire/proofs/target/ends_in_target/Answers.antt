use Rattle.std.proofs.Common.{◌∙◌, sym, refl}
use Rattle.wf_wire.proofs.TargetLemmas.{walk_ends}
use Rattle.wf_wire.proofs.target.ends_in_target.Goals as goal

pub returns-in-InTarget : goal.returns-in-InTarget
returns-in-InTarget c = (λ _. (walk_ends c.args.bytes.now).0 (sym c.in-InTarget.ensures), λ _. refl)

pub returns-in_default : goal.returns-in_default
returns-in_default c = (λ t. cc, λ h. absurd (c.in_default.not-InTarget (c.walk.ensures ∙ (walk_ends c.args.bytes.now).1 h)))
