-- The entries of an ordered map from texts.
use Rattle.std.specs.Prelude.{ℕ, List, [], ◌∷◌, map, Option, Some, None}
use Rattle.std.specs.Ordering.{nat_cmp, match_ordering}
use Rattle.std.specs.Cmp.Lexicographic.{slice_cmp}
use Rattle.std.specs.List.Sorted.{IsStrictlySortedBy}
use Rattle.wf_doc.specs.declared.fields.Entry.{Entry}

-- the keys, in the order of the entries
abbrev pub keys : {T : Type 0} → List (Entry T) → List (List ℕ)
keys es = map (λ e. e.key) es

-- the keys rise in the order of their bytes
abbrev pub IsOrdered : {T : Type 0} → List (Entry T) → Type 0
IsOrdered es = IsStrictlySortedBy (slice_cmp nat_cmp) (keys es)

-- an entry of this key and value
abbrev pub entry : {T : Type 0} → List ℕ → T → Entry T
entry k v = record { key = k; value = v }

-- the value at the key, None where the key isn't there
abbrev pub get : {T : Type 0} → List ℕ → List (Entry T) → Option T
get k [] = None
get k (e ∷ es) = match_ordering (slice_cmp nat_cmp k e.key) None (Some e.value) (get k es)

-- the entries with the value at the key, in the place of one that was there
abbrev pub put : {T : Type 0} → List ℕ → T → List (Entry T) → List (Entry T)
put k v [] = entry k v ∷ []
put k v (e ∷ es) = match_ordering (slice_cmp nat_cmp k e.key) (entry k v ∷ e ∷ es) (entry k v ∷ es) (e ∷ put k v es)
