-- The place of the last attempt at a node, looked for from the end of the list on.
use Rattle.std.proofs.Common.{◌≡◌, refl, sym, ℕ, zero, suc, ◌+◌, ◌<◌, true, false, List, [], ◌∷◌, map, drop, length, get_or, None, Some, add-one, arith}
use Rattle.std.proofs.lemmas.List.{drop_more}
use Rattle.std.proofs.Math.Seq.{drop-length}
use Rattle.wf_machine.specs.State.{Attempt}
use Rattle.wf_machine.specs.Marks.{is_of}
use Rattle.wf_machine.specs.Sight.{seen}
use Rattle.wf_rules.specs.Rules.{last_place}

last_at : (node i : ℕ) (xs : List Attempt) (k : ℕ) (x : Attempt) → k < length xs → x ≡ get_or xs k x → is_of node i (seen x) ≡ true
    → last_place (map seen (drop (suc k) xs)) node i ≡ None → last_place (map seen xs) node i ≡ Some k
unfolding last_place
last_at node i [] k x lt is here none = absurd (omega arith)
last_at node i (a ∷ rest) zero x lt is here none = rw (none, ← is, here) refl
last_at node i (a ∷ rest) (suc k) x lt is here none = rw (last_at node i rest k x (omega arith) is here none) refl

-- none stands behind this one
pub last_here : (node i : ℕ) (xs : List Attempt) (k : ℕ) (x : Attempt) → k < length xs → x ≡ get_or xs k x → is_of node i (seen x) ≡ true
    → last_place (map seen (drop (k + 1) xs)) node i ≡ None → Some k ≡ last_place (map seen xs) node i
last_here node i xs k x lt is here none = sym (last_at node i xs k x lt is here (rw add-one at none))

-- nor is it this one
pub not_here : (node i : ℕ) (xs : List Attempt) (k : ℕ) (x : Attempt) → k < length xs → x ≡ get_or xs k x → is_of node i (seen x) ≡ false
    → last_place (map seen (drop (k + 1) xs)) node i ≡ None → last_place (map seen (drop k xs)) node i ≡ None
unfolding last_place
not_here node i xs k x lt is other none = rw (drop_more xs k x lt, ← is, none, other) refl

-- there is none behind the end
pub none_behind : (node i : ℕ) (xs : List Attempt) (k : ℕ) → k ≡ length xs → last_place (map seen (drop k xs)) node i ≡ None
unfolding last_place
none_behind node i xs k all = rw (all, drop-length xs) refl
