-- Blocks before and after an entry is put into one of them or taken out.
use Rattle.std.proofs.Common.{◌≡◌, ◌∙◌, ℕ, zero, suc, ◌+◌, ◌<◌, ◌≤◌, ◌==◌, true, false, ◌&&◌, if◌then◌else◌, List, [], ◌∷◌, ◌++◌, length, get_or, slice_get, slice_set, drop, refl, sym, ap, true≢false, arith}
use Rattle.std.specs.List.{insert, remove}
use Rattle.std.specs.List.Sorted.{IsPartitionedBy, IsPartitionPoint}
use Rattle.std.proofs.lemmas.Bool.Decides.{nat_tests}
use Rattle.std.proofs.lemmas.List.{append_assoc, at_drop_more, get_or-set_same}
use Rattle.wf_sorted.specs.declared.entry.Entry.{Entry}
use Rattle.wf_sorted.specs.Order.{is_before, NoneBefore, Rising, holds, put, without}
use Rattle.wf_sorted.specs.Blocks.{IsBlockFor, NoneEmpty, all_before, entries_of}
use Rattle.wf_sorted.proofs.OrderLemmas.{before_all}
use Rattle.wf_sorted.proofs.AppendLemmas.{none_back, rising_back, put_behind, put_within, put_last, holds_behind, holds_within, without_behind, without_within}

-- ---- the search

one_before : (e x : Entry) (bs : List (List Entry)) (j : ℕ) (d : List Entry) → NoneBefore x (entries_of bs) → NoneEmpty bs → j < length bs
    → all_before e (get_or bs j d) ≡ true → is_before x e ≡ true
one_before e x [] j d none some within all = absurd (omega arith)
one_before e x ([] ∷ bs) zero d none some within all = absurd (omega (arith, some.0))
one_before e x ((y ∷ ys) ∷ bs) zero d none some within all =
    elim (is_before y e) as (λ b. is_before y e ≡ b → (b && all_before e ys) ≡ true → is_before x e ≡ true) [
      | true ↦ λ before all. before_all x y e none.0 before
      | false ↦ λ after all. absurd (true≢false (sym all))
    ] refl all
one_before e x (b ∷ bs) (suc j) d none some within all = one_before e x bs j d (none_back x b (entries_of bs) none) some.1 (omega arith) all

front_before : (e : Entry) (xs : List Entry) (bs : List (List Entry)) (j : ℕ) (d : List Entry) → Rising (xs ++ entries_of bs) → NoneEmpty bs
    → j < length bs → all_before e (get_or bs j d) ≡ true → all_before e xs ≡ true
front_before e [] bs j d rising some within all = refl
front_before e (x ∷ xs) bs j d rising some within all =
    rw (one_before e x bs j d (none_back x xs (entries_of bs) rising.0) some within all) (front_before e xs bs j d rising.1 some within all)

pub parted_by : (e : Entry) (bs : List (List Entry)) → Rising (entries_of bs) → NoneEmpty bs → IsPartitionedBy (λ b. all_before e b) bs
parted_by e [] rising some i j d order within all = absurd (omega arith)
parted_by e (b ∷ bs) rising some zero zero d order within all = all
parted_by e (b ∷ bs) rising some zero (suc j) d order within all = front_before e b bs j d rising some.1 (omega arith) all
parted_by e (b ∷ bs) rising some (suc i) zero d order within all = absurd (omega arith)
parted_by e (b ∷ bs) rising some (suc i) (suc j) d order within all =
    parted_by e bs (rising_back b (entries_of bs) rising) some.1 i j d (omega arith) (omega arith) all

pub is_block_for : (e : Entry) (bs : List (List Entry)) (n i : ℕ) → i ≤ n → n ≤ i + 1 → (suc i < length bs → n ≡ i)
    → IsPartitionPoint (λ b. all_before e b ≡ true) (λ b. all_before e b ≡ false) bs n → IsBlockFor e bs i
is_block_for e bs n i low high is parted =
    record {
      before = λ j d h. parted.0 j d (omega arith) (omega arith);
      here = λ d h. parted.1 i d (omega (arith, is h)) (omega arith);
    }

next_block : (e : Entry) (b : List Entry) (bs : List (List Entry)) (i : ℕ) → IsBlockFor e (b ∷ bs) (suc i) → IsBlockFor e bs i
next_block e b bs i place = record { before = λ j d h. place.before (suc j) d (omega arith); here = λ d h. place.here d (omega arith) }

-- the block at a place is followed by the blocks that are left
pub next_entries : (bs : List (List Entry)) (i left : ℕ) (b : List Entry) → i < length bs → b ≡ get_or bs i b
    → slice_get (entries_of (drop i bs)) left ≡ slice_get (b ++ entries_of (drop (i + 1) bs)) left
next_entries bs i left b within is =
    at_drop_more (λ cs. slice_get (entries_of cs) left) bs i b within ∙ sym (ap (λ c. slice_get (c ++ entries_of (drop (i + 1) bs)) left) is)

-- ---- an entry that is put in

put_here : (e : Entry) (b : List Entry) (bs : List (List Entry)) → IsBlockFor e (b ∷ bs) 0 → put e (b ++ entries_of bs) ≡ put e b ++ entries_of bs
put_here e b [] place = put_last e b
put_here e b (c ∷ bs) place = put_within e b (c ++ entries_of bs) (place.here b (omega arith))

-- putting an entry into its block puts it among all entries
pub put_at : (e : Entry) (d new : List Entry) (bs : List (List Entry)) (i : ℕ) → i < length bs → IsBlockFor e bs i → new ≡ put e (get_or bs i d)
    → entries_of (slice_set bs i new) ≡ put e (entries_of bs)
put_at e d new [] i within place is = absurd (omega arith)
put_at e d new (b ∷ bs) zero within place is = ap (λ c. c ++ entries_of bs) is ∙ sym (put_here e b bs place)
put_at e d new (b ∷ bs) (suc i) within place is =
    ap (λ es. b ++ es) (put_at e d new bs i (omega arith) (next_block e b bs i place) is) ∙ sym (put_behind e b (entries_of bs) (place.before 0 d (omega arith)))

-- a block's two parts one after the other
pub two_parts : (lower upper : List Entry) (bs : List (List Entry)) (i : ℕ) → i < length bs
    → entries_of (insert (slice_set bs i lower) (suc i) upper) ≡ entries_of (slice_set bs i (lower ++ upper))
two_parts lower upper [] i within = absurd (omega arith)
two_parts lower upper (b ∷ bs) zero within = sym (append_assoc lower upper (entries_of bs))
two_parts lower upper (b ∷ bs) (suc i) within = ap (λ es. b ++ es) (two_parts lower upper bs i (omega arith))

pub some_set : (new : List Entry) (bs : List (List Entry)) (i : ℕ) → 0 < length new → NoneEmpty bs → NoneEmpty (slice_set bs i new)
some_set new [] i has some = tt
some_set new (b ∷ bs) zero has some = (has, some.1)
some_set new (b ∷ bs) (suc i) has some = (some.0, some_set new bs i has some.1)

pub some_insert : (new : List Entry) (bs : List (List Entry)) (i : ℕ) → 0 < length new → NoneEmpty bs → NoneEmpty (insert bs i new)
some_insert new [] zero has some = (has, tt)
some_insert new [] (suc i) has some = (has, tt)
some_insert new (b ∷ bs) zero has some = (has, some)
some_insert new (b ∷ bs) (suc i) has some = (some.0, some_insert new bs i has some.1)

-- ---- an entry that is taken out

-- the blocks in front of the place end before the entry, and the one at the place doesn't
pub record IsFoundAt (e : Entry) (bs : List (List Entry)) (i : ℕ) : Type 0 where
  pub before : (j : ℕ) (d : List Entry) → j < i → all_before e (get_or bs j d) ≡ true
  pub here : (d : List Entry) → i < length bs → all_before e (get_or bs i d) ≡ false

pub is_found_at : (e : Entry) (bs : List (List Entry)) (i : ℕ)
    → IsPartitionPoint (λ b. all_before e b ≡ true) (λ b. all_before e b ≡ false) bs i → IsFoundAt e bs i
is_found_at e bs i parted = record { before = λ j d h. parted.0 j d (omega arith) h; here = λ d h. parted.1 i d (omega arith) h }

next_found : (e : Entry) (b : List Entry) (bs : List (List Entry)) (i : ℕ) → IsFoundAt e (b ∷ bs) (suc i) → IsFoundAt e bs i
next_found e b bs i place = record { before = λ j d h. place.before (suc j) d (omega arith); here = λ d h. place.here d (omega arith) }

pub held_at : (e : Entry) (d : List Entry) (bs : List (List Entry)) (i : ℕ) → Rising (entries_of bs) → i < length bs → IsFoundAt e bs i
    → holds e (entries_of bs) ≡ holds e (get_or bs i d)
held_at e d [] i rising within place = absurd (omega arith)
held_at e d (b ∷ bs) zero rising within place = holds_within e b (entries_of bs) rising (place.here b within)
held_at e d (b ∷ bs) (suc i) rising within place =
    holds_behind e b (entries_of bs) (place.before 0 d (omega arith))
    ∙ held_at e d bs i (rising_back b (entries_of bs) rising) (omega arith) (next_found e b bs i place)

pub missing_at : (e : Entry) (bs : List (List Entry)) (i : ℕ) → length bs ≤ i → IsFoundAt e bs i → holds e (entries_of bs) ≡ false
missing_at e [] i past place = refl
missing_at e (b ∷ bs) zero past place = absurd (omega arith)
missing_at e (b ∷ bs) (suc i) past place =
    holds_behind e b (entries_of bs) (place.before 0 b (omega arith)) ∙ missing_at e bs i (omega arith) (next_found e b bs i place)

pub taken_at : (e : Entry) (d new : List Entry) (bs : List (List Entry)) (i : ℕ) → Rising (entries_of bs) → i < length bs → IsFoundAt e bs i
    → new ≡ without e (get_or bs i d) → entries_of (slice_set bs i new) ≡ without e (entries_of bs)
taken_at e d new [] i rising within place is = absurd (omega arith)
taken_at e d new (b ∷ bs) zero rising within place is =
    ap (λ c. c ++ entries_of bs) is ∙ sym (without_within e b (entries_of bs) rising (place.here b within))
taken_at e d new (b ∷ bs) (suc i) rising within place is =
    ap (λ es. b ++ es) (taken_at e d new bs i (rising_back b (entries_of bs) rising) (omega arith) (next_found e b bs i place) is)
    ∙ sym (without_behind e b (entries_of bs) (place.before 0 d (omega arith)))

-- ---- a block that became empty

-- the blocks without the one at the place, if that is empty
abbrev pub without_empty : List (List Entry) → ℕ → List (List Entry)
without_empty bs i = if length (get_or bs i []) == 0 then remove bs i else bs

removed_empty : (bs : List (List Entry)) (i : ℕ) → i < length bs → length (get_or bs i []) ≡ 0 → entries_of (remove bs i) ≡ entries_of bs
removed_empty [] i within none = absurd (omega arith)
removed_empty ([] ∷ bs) zero within none = refl
removed_empty ((x ∷ xs) ∷ bs) zero within none = absurd (omega arith)
removed_empty (b ∷ bs) (suc i) within none = ap (λ es. b ++ es) (removed_empty bs i (omega arith) none)

pub entries_left : (bs : List (List Entry)) (i : ℕ) → i < length bs → entries_of (without_empty bs i) ≡ entries_of bs
entries_left bs i within =
    elim (length (get_or bs i []) == 0) as (λ t. (length (get_or bs i []) == 0) ≡ t → entries_of (if t then remove bs i else bs) ≡ entries_of bs) [
      | true ↦ λ none. removed_empty bs i within (grind (arith, nat_tests))
      | false ↦ λ has. refl
    ] refl

some_removed : (new : List Entry) (bs : List (List Entry)) (i : ℕ) → NoneEmpty bs → NoneEmpty (remove (slice_set bs i new) i)
some_removed new [] zero some = tt
some_removed new [] (suc i) some = tt
some_removed new (b ∷ bs) zero some = some.1
some_removed new (b ∷ bs) (suc i) some = (some.0, some_removed new bs i some.1)

pub some_left : (new : List Entry) (bs : List (List Entry)) (i : ℕ) → i < length bs → NoneEmpty bs → NoneEmpty (without_empty (slice_set bs i new) i)
some_left new bs i within some =
    elim (length (get_or (slice_set bs i new) i []) == 0) as (λ t. (length (get_or (slice_set bs i new) i []) == 0) ≡ t
    → NoneEmpty (if t then remove (slice_set bs i new) i else slice_set bs i new)) [
      | true ↦ λ none. some_removed new bs i some
      | false ↦ λ has.
          let is : length (get_or (slice_set bs i new) i []) ≡ length new = ap length (get_or-set_same bs i new [] within) in
          some_set new bs i (grind (arith, nat_tests)) some
    ] refl
