-- Bytes that a sink took one piece after another.
use Rattle.std.proofs.Common.{◌≡◌, ◌∙◌, ℕ, List, ◌++◌, take, drop, sym, ap, append_assoc, Option, Some, Ok}
use Rattle.std.proofs.lemmas.List.{take-append-drop}
use Rattle.wf_wire.specs.Stream.{Takes}

-- where the sink tells what it took, it took all of the bytes but the rest
abbrev pub Sent : Option (List ℕ) → Option (List ℕ) → List ℕ → List ℕ → Type 0
Sent old new bytes rest = (taken : List ℕ) → old ≡ Some taken → (front : List ℕ) × ((bytes ≡ front ++ rest) × (new ≡ Some (taken ++ front)))

pub sent_more : (old mid new : Option (List ℕ)) (bytes rest rest' : List ℕ) (n : ℕ) → Sent old mid bytes rest → Takes mid new rest (Ok n) → rest' ≡ drop n rest → Sent old new bytes rest'
sent_more old mid new bytes rest rest' n sent takes left = λ taken told. let s = sent taken told in (
  s.0 ++ take n rest,
  (
    s.1.0 ∙ ap (λ xs. s.0 ++ xs) (sym (take-append-drop n rest) ∙ ap (λ xs. take n rest ++ xs) (sym left)) ∙ sym (append_assoc s.0 (take n rest) rest'),
    takes.2 (taken ++ s.0) s.1.1 ∙ ap Some (append_assoc taken s.0 (take n rest)),
  ),
)
