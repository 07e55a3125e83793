-- What a source of memory gives.
use Rattle.std.proofs.Common.{◌≡◌, ◌∙◌, ℕ, ◌<◌, List, [], ◌++◌, take, drop, refl, sym, ap, arith, Some, Ok}
use Rattle.std.specs.Option.{unwrap_or}
use Rattle.std.proofs.lemmas.List.{take-append-drop, nil_from_length}
use Rattle.wf_wire.specs.Stream.{Gives}
use Rattle.wf_wire.specs.Calls.{MemorySourceState, IsGiven}

some_is : (x y : List ℕ) → Some x ≡ Some y → x ≡ y
some_is x y e = ap (λ o. unwrap_or o []) e

pub gives : (s t : MemorySourceState) (room : List ℕ) (n : ℕ) → 0 < s.piece → IsGiven s room n t → Gives (Some s.left) (Some t.left) room (Ok n)
gives s t room n some given = (
  omega (arith, given.0),
  λ left told. let is = some_is s.left left told in (
    t.left,
    refl,
    sym is ∙ sym (take-append-drop n s.left) ∙ ap (λ xs. xs ++ drop n s.left) (sym given.1) ∙ ap (λ xs. take n room ++ xs) (sym (ap (λ (x : MemorySourceState). x.left) given.2)),
    λ none free. sym is ∙ nil_from_length s.left (omega (arith, none, free, some, given.0)),
  ),
)
