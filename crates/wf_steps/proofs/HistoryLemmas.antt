-- A history that grows by one entry.
use Rattle.std.proofs.Common.{◌≡◌, ℕ, ◌+◌, List, [], ◌∷◌, ◌++◌, sym, ap, ◌∙◌}
use Rattle.wf_wire.specs.declared.limits.Limits.{Limits}
use Rattle.wf_machine.specs.declared.calling.Reply.{Reply}
use Rattle.wf_steps.specs.declared.calling.Entry.{Entry}
use Rattle.wf_machine.specs.State.{State}
use Rattle.wf_steps.specs.Calls.{Stepped, stepped, step}
use Rattle.wf_steps.specs.History.{stored, state_from, replies_from}
use Rattle.wf_steps.proofs.PlaceLemmas.{places_apart}

-- the state t is stored like that after the history, and the entry x leads from it to the state `new` with that reply
module _ (limits : Limits) (place : ℕ) (t new : State) (x : Entry) (reply : Reply) (made : stepped new reply ≡ step limits place t x) where
  one : (before : ℕ) (s : State) → stored s ≡ stored t → stepped (stored new) reply ≡ stepped (stored (step limits (before + 1) s x).state) (step limits (before + 1) s x).reply
  one before s same = ap (λ (y : Stepped). stepped (stored y.state) y.reply) made ∙ places_apart limits place (before + 1) t s x (sym same)

  pub state-more : (before : ℕ) (s : State) (history : List Entry) → stored (state_from limits before s history) ≡ stored t
      → stored (state_from limits before s (history ++ x ∷ [])) ≡ stored new
  state-more before s [] same = sym (ap (λ (y : Stepped). y.state) (one before s same))
  state-more before s (e ∷ rest) same = state-more (before + 1) (step limits (before + 1) s e).state rest same

  pub replies-more : (before : ℕ) (s : State) (history : List Entry) → stored (state_from limits before s history) ≡ stored t
      → replies_from limits before s (history ++ x ∷ []) ≡ replies_from limits before s history ++ reply ∷ []
  replies-more before s [] same = ap (λ r. r ∷ []) (sym (ap (λ (y : Stepped). y.reply) (one before s same)))
  replies-more before s (e ∷ rest) same =
      ap (λ rs. (step limits (before + 1) s e).reply ∷ rs) (replies-more (before + 1) (step limits (before + 1) s e).state rest same)
