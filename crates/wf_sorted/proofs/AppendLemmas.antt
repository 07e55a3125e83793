-- An entry among rising entries that are the parts of one list.
use Rattle.std.proofs.Common.{◌≡◌, ◌∙◌, ℕ, zero, suc, ◌+◌, ◌-◌, ◌<◌, ◌≤◌, true, false, ◌&&◌, ◌||◌, if◌then◌else◌, List, [], ◌∷◌, ◌++◌, length, get_or, slice_get, take, drop, Some, refl, sym, ap, true≢false, arith}
use Rattle.std.proofs.lemmas.List.{append-nil}
use Rattle.wf_sorted.specs.declared.entry.Entry.{Entry}
use Rattle.wf_sorted.specs.Order.{is_before, is_same, NoneBefore, Rising, holds, put, without}
use Rattle.wf_sorted.specs.Blocks.{all_before}
use Rattle.wf_sorted.proofs.OrderLemmas.{before_all, before_not_same, next_after, none_at, none_later, without_missing}

-- ---- parts of a rising list

none_take : (x : Entry) (n : ℕ) (xs : List Entry) → NoneBefore x xs → NoneBefore x (take n xs)
none_take x zero xs none = tt
none_take x (suc n) [] none = tt
none_take x (suc n) (y ∷ ys) none = (none.0, none_take x n ys none.1)

pub rising_take : (n : ℕ) (xs : List Entry) → Rising xs → Rising (take n xs)
rising_take zero xs rising = tt
rising_take (suc n) [] rising = tt
rising_take (suc n) (x ∷ xs) rising = (none_take x n xs rising.0, rising_take n xs rising.1)

pub rising_drop : (n : ℕ) (xs : List Entry) → Rising xs → Rising (drop n xs)
rising_drop zero xs rising = rising
rising_drop (suc n) [] rising = tt
rising_drop (suc n) (x ∷ xs) rising = rising_drop n xs rising.1

none_front : (x : Entry) (xs ys : List Entry) → NoneBefore x (xs ++ ys) → NoneBefore x xs
none_front x [] ys none = tt
none_front x (z ∷ xs) ys none = (none.0, none_front x xs ys none.1)

pub none_back : (x : Entry) (xs ys : List Entry) → NoneBefore x (xs ++ ys) → NoneBefore x ys
none_back x [] ys none = none
none_back x (z ∷ xs) ys none = none_back x xs ys none.1

pub rising_back : (xs ys : List Entry) → Rising (xs ++ ys) → Rising ys
rising_back [] ys rising = rising
rising_back (x ∷ xs) ys rising = rising_back xs ys rising.1

-- ---- whether all come before

read_at : (xs : List Entry) (i : ℕ) (y d : Entry) → Some y ≡ slice_get xs i → get_or xs i d ≡ y
read_at [] i y d some = absurd cc
read_at (x ∷ xs) zero y d some = cc
read_at (x ∷ xs) (suc i) y d some = read_at xs i y d some

last_of : (e x d : Entry) (xs : List Entry) → Rising (x ∷ xs) → all_before e (x ∷ xs) ≡ is_before (get_or (x ∷ xs) (length xs) d) e
last_of e x d [] rising = elim (is_before x e) as (λ b. (b && true) ≡ b) [ true ↦ refl | false ↦ refl ]
last_of e x d (y ∷ ys) rising =
    let last : Entry = get_or (y ∷ ys) (length ys) d in
    ap (λ b. is_before x e && b) (last_of e y d ys rising.1)
    ∙ elim (is_before last e) as (λ b. is_before last e ≡ b → (is_before x e && b) ≡ b) [
      | true ↦ λ before. rw (before_all x last e (none_at x (y ∷ ys) (length ys) d rising.0 (omega arith)) before) refl
      | false ↦ λ after. elim (is_before x e) as (λ a. (a && false) ≡ false) [ true ↦ refl | false ↦ refl ]
    ] refl

-- all rising entries come before one where the last does
pub by_last : (e last : Entry) (xs : List Entry) → Rising xs → Some last ≡ slice_get xs (length xs - 1) → is_before last e ≡ all_before e xs
by_last e last [] rising some = absurd cc
by_last e last (x ∷ xs) rising some =
    let n : suc (length xs) - 1 ≡ length xs = omega arith in
    let at : Some last ≡ slice_get (x ∷ xs) (length xs) = some ∙ ap (slice_get (x ∷ xs)) n in
    sym (last_of e x last xs rising ∙ ap (λ y. is_before y e) (read_at (x ∷ xs) (length xs) last last at))

-- ---- an entry that is put in

pub put_behind : (e : Entry) (xs ys : List Entry) → all_before e xs ≡ true → put e (xs ++ ys) ≡ xs ++ put e ys
put_behind e [] ys all = refl
put_behind e (x ∷ xs) ys all =
    elim (is_before x e) as (λ b. (b && all_before e xs) ≡ true → (if b then x ∷ put e (xs ++ ys) else e ∷ x ∷ xs ++ ys) ≡ x ∷ xs ++ put e ys) [
      | true ↦ λ all. ap (λ zs. x ∷ zs) (put_behind e xs ys all)
      | false ↦ λ all. absurd (true≢false (sym all))
    ] all

pub put_within : (e : Entry) (xs ys : List Entry) → all_before e xs ≡ false → put e (xs ++ ys) ≡ put e xs ++ ys
put_within e [] ys some = absurd (true≢false some)
put_within e (x ∷ xs) ys some =
    elim (is_before x e) as (λ b. (b && all_before e xs) ≡ false
    → (if b then x ∷ put e (xs ++ ys) else e ∷ x ∷ xs ++ ys) ≡ (if b then x ∷ put e xs else e ∷ x ∷ xs) ++ ys) [
      | true ↦ λ some. ap (λ zs. x ∷ zs) (put_within e xs ys some)
      | false ↦ λ some. refl
    ] some

pub put_last : (e : Entry) (xs : List Entry) → put e (xs ++ []) ≡ put e xs ++ []
put_last e xs = ap (put e) (append-nil xs) ∙ sym (append-nil (put e xs))

pub length_put : (e : Entry) (xs : List Entry) → length (put e xs) ≡ length xs + 1
length_put e [] = refl
length_put e (x ∷ xs) =
    elim (is_before x e) as (λ b. length (if b then x ∷ put e xs else e ∷ x ∷ xs) ≡ suc (length xs) + 1) [
      | true ↦ omega (arith, length_put e xs)
      | false ↦ omega arith
    ]

-- ---- an entry that is taken out

pub holds_behind : (e : Entry) (xs ys : List Entry) → all_before e xs ≡ true → holds e (xs ++ ys) ≡ holds e ys
holds_behind e [] ys all = refl
holds_behind e (x ∷ xs) ys all =
    elim (is_before x e) as (λ b. is_before x e ≡ b → (b && all_before e xs) ≡ true → (is_same x e || holds e (xs ++ ys)) ≡ holds e ys) [
      | true ↦ λ before all. rw (before_not_same x e before) (holds_behind e xs ys all)
      | false ↦ λ after all. absurd (true≢false (sym all))
    ] refl all

pub holds_within : (e : Entry) (xs ys : List Entry) → Rising (xs ++ ys) → all_before e xs ≡ false → holds e (xs ++ ys) ≡ holds e xs
holds_within e [] ys rising some = absurd (true≢false some)
holds_within e (x ∷ xs) ys rising some =
    elim (is_before x e) as (λ b. is_before x e ≡ b → (b && all_before e xs) ≡ false
    → (is_same x e || holds e (xs ++ ys)) ≡ (is_same x e || holds e xs)) [
      | true ↦ λ before some. rw (before_not_same x e before) (holds_within e xs ys rising.1 some)
      | false ↦ λ after some.
          elim (is_same x e) as (λ s. is_same x e ≡ s → (s || holds e (xs ++ ys)) ≡ (s || holds e xs)) [
            | true ↦ λ same. refl
            | false ↦ λ other.
                let next = next_after x e after other in
                none_later e x (xs ++ ys) next rising.0 ∙ sym (none_later e x xs next (none_front x xs ys rising.0))
          ] refl
    ] refl some

pub without_behind : (e : Entry) (xs ys : List Entry) → all_before e xs ≡ true → without e (xs ++ ys) ≡ xs ++ without e ys
without_behind e [] ys all = refl
without_behind e (x ∷ xs) ys all =
    elim (is_before x e) as (λ b. is_before x e ≡ b → (b && all_before e xs) ≡ true
    → (if is_same x e then xs ++ ys else x ∷ without e (xs ++ ys)) ≡ x ∷ xs ++ without e ys) [
      | true ↦ λ before all. rw (before_not_same x e before) (ap (λ zs. x ∷ zs) (without_behind e xs ys all))
      | false ↦ λ after all. absurd (true≢false (sym all))
    ] refl all

pub without_within : (e : Entry) (xs ys : List Entry) → Rising (xs ++ ys) → all_before e xs ≡ false → without e (xs ++ ys) ≡ without e xs ++ ys
without_within e [] ys rising some = absurd (true≢false some)
without_within e (x ∷ xs) ys rising some =
    elim (is_before x e) as (λ b. is_before x e ≡ b → (b && all_before e xs) ≡ false
    → (if is_same x e then xs ++ ys else x ∷ without e (xs ++ ys)) ≡ (if is_same x e then xs else x ∷ without e xs) ++ ys) [
      | true ↦ λ before some. rw (before_not_same x e before) (ap (λ zs. x ∷ zs) (without_within e xs ys rising.1 some))
      | false ↦ λ after some.
          elim (is_same x e) as (λ s. is_same x e ≡ s → (if s then xs ++ ys else x ∷ without e (xs ++ ys)) ≡ (if s then xs else x ∷ without e xs) ++ ys) [
            | true ↦ λ same. refl
            | false ↦ λ other.
                let next = next_after x e after other in
                ap (λ zs. x ∷ zs)
                (without_missing e (xs ++ ys) (none_later e x (xs ++ ys) next rising.0)
                ∙ sym (ap (λ zs. zs ++ ys) (without_missing e xs (none_later e x xs next (none_front x xs ys rising.0)))))
          ] refl
    ] refl some

pub length_without : (e : Entry) (xs : List Entry) → holds e xs ≡ true → length (without e xs) + 1 ≡ length xs
length_without e [] there = absurd (true≢false (sym there))
length_without e (x ∷ xs) there =
    elim (is_same x e) as (λ s. (s || holds e xs) ≡ true → length (if s then xs else x ∷ without e xs) + 1 ≡ suc (length xs)) [
      | true ↦ λ there. omega arith
      | false ↦ λ there. omega (arith, length_without e xs there)
    ] there

-- ---- the entry at a place

pub get_front : (xs ys : List Entry) (n : ℕ) → n < length xs → slice_get (xs ++ ys) n ≡ slice_get xs n
get_front [] ys n within = absurd (omega arith)
get_front (x ∷ xs) ys zero within = refl
get_front (x ∷ xs) ys (suc n) within = get_front xs ys n (omega arith)

pub get_back : (xs ys : List Entry) (n : ℕ) → length xs ≤ n → slice_get (xs ++ ys) n ≡ slice_get ys (n - length xs)
get_back [] ys n past = let same : n - 0 ≡ n = omega arith in rw same refl
get_back (x ∷ xs) ys zero past = absurd (omega arith)
get_back (x ∷ xs) ys (suc n) past =
    let same : suc n - suc (length xs) ≡ n - length xs = omega arith in
    rw same (get_back xs ys n (omega arith))
