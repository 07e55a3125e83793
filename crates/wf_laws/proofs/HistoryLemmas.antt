-- What each step keeps holds after every history.
use Rattle.std.proofs.Common.{ℕ, ◌+◌, List, [], ◌∷◌, refl}
use Rattle.std.proofs.lemmas.List.Elements.{All-head, All-tail}
use Rattle.std.specs.List.{All}
use Rattle.wf_wire.specs.declared.limits.Limits.{Limits}
use Rattle.wf_steps.specs.declared.calling.Entry.{Entry}
use Rattle.wf_machine.specs.State.{State}
use Rattle.wf_steps.specs.Calls.{step}
use Rattle.wf_steps.specs.History.{state_from}
use Rattle.wf_laws.specs.Sound.{BringsFitLoops, HasFitLoops, IsLater, IsSound}
use Rattle.wf_laws.proofs.HandLemmas.{step_later, step_sound}
use Rattle.wf_laws.proofs.LaterLemmas.{later_still, same_later}
use Rattle.wf_laws.proofs.LoopLemmas.{step_fit}

pub sound_after : (limits : Limits) (before : ℕ) (s : State) (history : List Entry) → IsSound s → IsSound (state_from limits before s history)
sound_after limits before s [] sound = sound
sound_after limits before s (x ∷ rest) sound =
    sound_after limits (before + 1) (step limits (before + 1) s x).state rest (step_sound limits (before + 1) s x sound)

pub later_after : (limits : Limits) (before : ℕ) (s : State) (history : List Entry) → IsSound s → IsLater s (state_from limits before s history)
later_after limits before s [] sound = same_later refl refl refl
later_after limits before s (x ∷ rest) sound =
    later_still (step_later limits (before + 1) s x sound)
    (later_after limits (before + 1) (step limits (before + 1) s x).state rest (step_sound limits (before + 1) s x sound))

abbrev BringsFit : Entry → Type 0
BringsFit x = BringsFitLoops x.call

pub fit_after : (limits : Limits) (before : ℕ) (s : State) (history : List Entry) → HasFitLoops s → All (λ (x : Entry). BringsFitLoops x.call) history
    → HasFitLoops (state_from limits before s history)
fit_after limits before s [] fit brings = fit
fit_after limits before s (x ∷ rest) fit brings =
    fit_after limits (before + 1) (step limits (before + 1) s x).state rest
    (step_fit limits (before + 1) s x fit (All-head BringsFit x rest brings)) (All-tail BringsFit x rest brings)
