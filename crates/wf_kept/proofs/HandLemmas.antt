-- Rows of hand-outs in the order of their names: what is found, and what a write or a new row leaves.
use Rattle.std.proofs.Common.{◌≡◌, ◌∙◌, ℕ, zero, suc, ◌-◌, ◌<◌, true, false, if◌then◌else◌, cond, List, [], ◌∷◌, ◌++◌, length, get_or, take, drop, slice_set, map, filter, length-append, length-drop, add-one, None, Some, Result, Ok, Err, IfOk, IfErr, inl, inr, refl, sym, ap, subst, arith}
use Rattle.std.specs.List.{All, Contains, insert}
use Rattle.std.specs.List.Sorted.{IsSearchInRange, IsBinarySearchResult, IsNonDecreasingBy}
use Rattle.std.specs.Ordering.{nat_cmp, match_ordering, ordering_index, ordering_reverse, is_eq, is_lt}
use Rattle.std.specs.Cmp.Lexicographic.{slice_cmp, texts_ties, same_text as told_same}
use Rattle.std.specs.declared.cmp.Ordering.{Ordering}
use Rattle.std.specs.declared.cmp.Ordering.TheVariants.{Less, Equal, Greater}
use Rattle.std.proofs.Math.ListN.{get_or-map}
use Rattle.std.proofs.lemmas.Bool.{cases_lt}
use Rattle.std.proofs.lemmas.Bool.Decides.{nat_tests}
use Rattle.std.proofs.lemmas.Cmp.{nat_list_cmp_total, tied_itself}
use Rattle.std.proofs.lemmas.List.{length-map, take-append-drop}
use Rattle.std.proofs.lemmas.List.Elements.{All-append, All-cons, All-drop, All-filter, All-head, All-nil, All-tail, All-take, Contains-append_cases, Contains-append_left, Contains-append_right, filter-append}
use Rattle.std.proofs.lemmas.List.Sorted.{searchable_from_sorted}
use Rattle.circular_buffer.specs.Buffer.{keep_last}
use Rattle.wf_machine.specs.declared.sight.HandList.{HandList}
use Rattle.wf_machine.specs.Queues.{moments_kept, with_hand}
use Rattle.wf_machine.specs.Text.{same_text}
use Rattle.wf_kept.specs.Hands.{IsGap, IsNameAt, IsNameBefore, NamesRise, hands_of, row_name, was_handed_out}

-- ---- names

turned : (a b : List ℕ) (o : Ordering) → slice_cmp nat_cmp a b ≡ o → slice_cmp nat_cmp b a ≡ ordering_reverse o
turned a b o told = nat_list_cmp_total.antisymm b a ∙ ap ordering_reverse told

tied : (name : List ℕ) → slice_cmp nat_cmp name name ≡ Equal
tied name = tied_itself nat_list_cmp_total name

same_if_tied : (a b : List ℕ) (o : Ordering) → slice_cmp nat_cmp a b ≡ o → same_text a b ≡ is_eq o
same_if_tied a b o told = texts_ties a b ∙ ap is_eq told

tied_names : (a b : List ℕ) → slice_cmp nat_cmp a b ≡ Equal → a ≡ b
tied_names a b told = told_same a b (sym (same_if_tied a b Equal told))

-- a property of all is one of that at a place
all_at : (P : List ℕ → Type 0) (names : List (List ℕ)) (i : ℕ) (name : List ℕ) → All P names → IsNameAt name names i → P name
all_at P [] i name all there = absurd cc
all_at P (n ∷ ns) zero name all there = let same : n ≡ name = cc in subst P same (All-head P n ns all)
all_at P (n ∷ ns) (suc i) name all there = all_at P ns i name (All-tail P n ns all) there

all_rows : (P : List ℕ → Type 0) (rows : List HandList) → All P (map row_name rows) → All (λ (h : HandList). P h.name) rows
all_rows P [] all = All-nil (λ (h : HandList). P h.name)
all_rows P (x ∷ xs) all = All-cons (λ (h : HandList). P h.name) x xs (All-head P x.name (map row_name xs) all) (all_rows P xs (All-tail P x.name (map row_name xs) all))

-- ---- the search

sorted_at : (rows : List HandList) → NamesRise (map row_name rows) → (k : ℕ) (d : HandList) → suc k < length rows → is_lt (slice_cmp nat_cmp (get_or rows (suc k) d).name (get_or rows k d).name) ≡ false
sorted_at [] rise k d within = absurd (omega arith)
sorted_at (x ∷ []) rise k d within = absurd (omega arith)
sorted_at (x ∷ y ∷ zs) rise zero d within = ap is_lt (turned x.name y.name Less (All-head (IsNameBefore x.name) y.name (map row_name zs) rise.0))
sorted_at (x ∷ y ∷ zs) rise (suc k) d within = sorted_at (y ∷ zs) rise.1 k d (omega arith)

named_at : (name : List ℕ) (rows : List HandList) (i : ℕ) → i < length rows → ((d : HandList) → (get_or rows i d).name ≡ name) → IsNameAt name (map row_name rows) i
named_at name [] i within same = absurd (omega arith)
named_at name (x ∷ xs) zero within same = ap Some (same x)
named_at name (x ∷ xs) (suc i) within same = named_at name xs i (omega arith) same

-- what a search by name answers: the place of the name, or the place where it belongs
pub record SearchedName (name : List ℕ) (names : List (List ℕ)) (r : Result ℕ ℕ) : Type 0 where
  pub found : IfOk r (λ place. IsNameAt name names place)
  pub gap : IfErr r (λ place. IsGap name names place)

module _ (rows : List HandList) (rise : NamesRise (map row_name rows)) (name : List ℕ) where
  comparisons_rise : IsNonDecreasingBy (λ (h : HandList). ordering_index (slice_cmp nat_cmp h.name name)) rows
  comparisons_rise = searchable_from_sorted nat_list_cmp_total row_name rows name (λ k d low high. rw (add-one k) (sorted_at rows rise k d (omega (arith, add-one k))))

  compared : (o : Ordering) (j : ℕ) (d : List ℕ) → ((e : HandList) → slice_cmp nat_cmp (get_or rows j e).name name ≡ o) → slice_cmp nat_cmp (get_or (map row_name rows) j d) name ≡ o
  compared o j d told = ap (λ n. slice_cmp nat_cmp n name) (get_or-map row_name rows j (record { name = d; moments = [] })) ∙ told (record { name = d; moments = [] })

  pub searched_name : (r : Result ℕ ℕ) → IsSearchInRange r (length rows) → IsBinarySearchResult (λ (h : HandList). slice_cmp nat_cmp h.name name) rows r → SearchedName name (map row_name rows) r
  searched_name (Ok i) within equal = record { found = named_at name rows i within (λ d. tied_names _ name (equal d)); gap = tt }
  searched_name (Err i) within parted =
      let point = parted comparisons_rise in
      let count = length-map rows row_name in
      record {
        found = tt;
        gap = record {
          within = omega (arith, count);
          lesser = λ j d in_range below. compared Less j d (λ e. point.0 j e (omega (arith, count)) below);
          greater = λ j d above in_range. compared Greater j d (λ e. point.1 j e above (omega (arith, count)));
        };
      }

-- a name that has a row has no gap
pub no_gap : {A : Type 0} (name : List ℕ) (names : List (List ℕ)) (i : ℕ) → IsGap name names i → Contains names name → A
no_gap name names i gap there =
    elim (cases_lt there.0 i) [
      | inl below ↦
          let less = gap.lesser there.0 name there.1 below in
          let no : Less ≡ Equal = sym less ∙ ap (λ n. slice_cmp nat_cmp n name) there.2 ∙ tied name in absurd cc
      | inr above ↦
          let greater = gap.greater there.0 name above there.1 in
          let no : Greater ≡ Equal = sym greater ∙ ap (λ n. slice_cmp nat_cmp n name) there.2 ∙ tied name in absurd cc
    ]

-- a name at a place is one of the names
pub contains_at : (name : List ℕ) (names : List (List ℕ)) (i : ℕ) → IsNameAt name names i → Contains names name
contains_at name [] i there = absurd cc
contains_at name (n ∷ ns) zero there = let same : n ≡ name = cc in (0, omega arith, same)
contains_at name (n ∷ ns) (suc i) there = let rest = contains_at name ns i there in (suc rest.0, omega (arith, rest.1), rest.2)

pub row_within : (name : List ℕ) (rows : List HandList) (i : ℕ) → IsNameAt name (map row_name rows) i → i < length rows
row_within name [] i there = absurd cc
row_within name (x ∷ xs) zero there = omega arith
row_within name (x ∷ xs) (suc i) there = omega (arith, row_within name xs i there)

-- ---- what is found of a name

none_named : (name : List ℕ) (hs : List HandList) → All (λ (h : HandList). same_text h.name name ≡ false) hs → hands_of name hs ≡ None
none_named name [] all = refl
none_named name (h ∷ hs) all =
    rw (All-head (λ (h : HandList). same_text h.name name ≡ false) h hs all) (none_named name hs (All-tail (λ (h : HandList). same_text h.name name ≡ false) h hs all))

above_differ : (name : List ℕ) (rows : List HandList) → All (λ (h : HandList). IsNameBefore name h.name) rows → All (λ (h : HandList). same_text h.name name ≡ false) rows
above_differ name rows all = λ k d within. same_if_tied (get_or rows k d).name name Greater (turned name (get_or rows k d).name Less (all k d within))

pub hands_at : (name : List ℕ) (rows : List HandList) (i : ℕ) (row : HandList) → NamesRise (map row_name rows) → IsNameAt name (map row_name rows) i → row ≡ get_or rows i row
    → hands_of name (filter was_handed_out rows) ≡ (if was_handed_out row then Some row.moments else None)
hands_at name [] i row rise there read = absurd cc
hands_at name (x ∷ xs) zero row rise there read =
    let same : x.name ≡ name = cc in
    let found : same_text x.name name ≡ true = same_if_tied x.name name Equal (ap (λ n. slice_cmp nat_cmp n name) same ∙ tied name) in
    let above : All (λ (h : HandList). IsNameBefore name h.name) xs = subst (λ n. All (λ (h : HandList). IsNameBefore n h.name) xs) same (all_rows (IsNameBefore x.name) xs rise.0) in
    rw read
    (elim (was_handed_out x) as (λ b. hands_of name (cond b (x ∷ filter was_handed_out xs) (filter was_handed_out xs)) ≡ (if b then Some x.moments else None)) [
      | true ↦ rw found refl
      | false ↦ none_named name (filter was_handed_out xs) (All-filter was_handed_out (λ (h : HandList). same_text h.name name ≡ false) xs (above_differ name xs above))
    ])
hands_at name (x ∷ xs) (suc i) row rise there read =
    let less : IsNameBefore x.name name = all_at (IsNameBefore x.name) (map row_name xs) i name rise.0 there in
    let differs : same_text x.name name ≡ false = same_if_tied x.name name Less less in
    elim (was_handed_out x) as (λ b. hands_of name (cond b (x ∷ filter was_handed_out xs) (filter was_handed_out xs)) ≡ (if was_handed_out row then Some row.moments else None)) [
      | true ↦ rw differs (hands_at name xs i row rise.1 there read)
      | false ↦ hands_at name xs i row rise.1 there read
    ]

pub hands_gap : (name : List ℕ) (rows : List HandList) (i : ℕ) → IsGap name (map row_name rows) i → hands_of name (filter was_handed_out rows) ≡ None
hands_gap name rows i gap =
    none_named name (filter was_handed_out rows) (All-filter was_handed_out (λ (h : HandList). same_text h.name name ≡ false) rows
    (all_rows (λ n. same_text n name ≡ false) rows (λ k d within.
    elim (cases_lt k i) [
      | inl below ↦ same_if_tied (get_or (map row_name rows) k d) name Less (gap.lesser k d within below)
      | inr above ↦ same_if_tied (get_or (map row_name rows) k d) name Greater (gap.greater k d above within)
    ])))

-- ---- a hand-out is noted

with_front : (name : List ℕ) (e : ℕ) (hs : List HandList) → All (λ (h : HandList). IsNameBefore name h.name) hs → with_hand name e hs ≡ record { name = name; moments = e ∷ [] } ∷ hs
with_front name e [] all = refl
with_front name e (h ∷ hs) all =
    ap (λ o. match_ordering o (record { name = name; moments = e ∷ [] } ∷ h ∷ hs) (record { name = name; moments = keep_last moments_kept (h.moments ++ e ∷ []) } ∷ hs) (h ∷ with_hand name e hs))
    (All-head (λ (h : HandList). IsNameBefore name h.name) h hs all)

with_at : (name : List ℕ) (e : ℕ) (h : HandList) (hs : List HandList) (o : Ordering) → slice_cmp nat_cmp name h.name ≡ o
    → with_hand name e (h ∷ hs)
    ≡ match_ordering o (record { name = name; moments = e ∷ [] } ∷ h ∷ hs) (record { name = name; moments = keep_last moments_kept (h.moments ++ e ∷ []) } ∷ hs) (h ∷ with_hand name e hs)
with_at name e h hs o told =
    ap (λ o. match_ordering o (record { name = name; moments = e ∷ [] } ∷ h ∷ hs) (record { name = name; moments = keep_last moments_kept (h.moments ++ e ∷ []) } ∷ hs) (h ∷ with_hand name e hs)) told

some_kept : (ms : List ℕ) (e : ℕ) → 0 < length (keep_last moments_kept (ms ++ e ∷ []))
some_kept ms e = omega (arith, length-drop (length (ms ++ e ∷ []) - moments_kept) (ms ++ e ∷ []), length-append ms (e ∷ []))

-- a row with one more hand-out
abbrev pub noted_row : ℕ → HandList → HandList
noted_row e h = record h { moments = keep_last moments_kept (h.moments ++ e ∷ []) }

noted_counts : (e : ℕ) (h : HandList) → was_handed_out (noted_row e h) ≡ true
noted_counts e h = let some = some_kept h.moments e in grind (arith, nat_tests)

abbrev with_moments : List ℕ → List ℕ → HandList
with_moments name ms = record { name = name; moments = ms }

first_noted : (e : ℕ) (h : HandList) → was_handed_out h ≡ false → noted_row e h ≡ with_moments h.name (e ∷ [])
first_noted e h never = ap (λ ms. with_moments h.name (keep_last moments_kept (ms ++ e ∷ []))) (none h.moments never)
  where
    none : (ms : List ℕ) → was_handed_out (with_moments h.name ms) ≡ false → ms ≡ []
    none [] never = refl
    none (m ∷ ms) never = let some : 0 < length (m ∷ ms) = omega arith in grind (arith, nat_tests)

pub noted : (name : List ℕ) (e : ℕ) (rows : List HandList) (i : ℕ) (row : HandList) → NamesRise (map row_name rows) → IsNameAt name (map row_name rows) i → row ≡ get_or rows i row
    → filter was_handed_out (slice_set rows i (noted_row e row)) ≡ with_hand name e (filter was_handed_out rows)
noted name e [] i row rise there read = absurd cc
noted name e (x ∷ xs) zero row rise there read =
    let same : x.name ≡ name = cc in
    let above : All (λ (h : HandList). IsNameBefore name h.name) xs = subst (λ n. All (λ (h : HandList). IsNameBefore n h.name) xs) same (all_rows (IsNameBefore x.name) xs rise.0) in
    let equal : slice_cmp nat_cmp name x.name ≡ Equal = ap (λ n. slice_cmp nat_cmp name n) same ∙ tied name in
    rw (read, noted_counts e x)
    (elim (was_handed_out x) as (λ b. was_handed_out x ≡ b → noted_row e x ∷ filter was_handed_out xs ≡ with_hand name e (cond b (x ∷ filter was_handed_out xs) (filter was_handed_out xs))) [
      | true ↦ λ has. ap (λ n. record { name = n; moments = keep_last moments_kept (x.moments ++ e ∷ []) } ∷ filter was_handed_out xs) same ∙ sym (with_at name e x (filter was_handed_out xs) Equal equal)
      | false ↦ λ never.
          ap (λ h. h ∷ filter was_handed_out xs) (first_noted e x never)
          ∙ ap (λ n. record { name = n; moments = e ∷ [] } ∷ filter was_handed_out xs) same
          ∙ sym (with_front name e (filter was_handed_out xs) (All-filter was_handed_out (λ (h : HandList). IsNameBefore name h.name) xs above))
    ] refl)
noted name e (x ∷ xs) (suc i) row rise there read =
    let less : IsNameBefore x.name name = all_at (IsNameBefore x.name) (map row_name xs) i name rise.0 there in
    let greater : slice_cmp nat_cmp name x.name ≡ Greater = turned x.name name Less less in
    let rest = noted name e xs i row rise.1 there read in
    elim (was_handed_out x) as (λ b. cond b (x ∷ filter was_handed_out (slice_set xs i (noted_row e row))) (filter was_handed_out (slice_set xs i (noted_row e row)))
    ≡ with_hand name e (cond b (x ∷ filter was_handed_out xs) (filter was_handed_out xs))) [
      | true ↦ ap (λ l. x ∷ l) rest ∙ sym (with_at name e x (filter was_handed_out xs) Greater greater)
      | false ↦ rest
    ]

pub names_noted : (e : ℕ) (rows : List HandList) (i : ℕ) (row : HandList) → row ≡ get_or rows i row → map row_name (slice_set rows i (noted_row e row)) ≡ map row_name rows
names_noted e [] i row read = refl
names_noted e (x ∷ xs) zero row read = ap (λ (h : HandList). h.name ∷ map row_name xs) read
names_noted e (x ∷ xs) (suc i) row read = ap (λ l. x.name ∷ l) (names_noted e xs i row read)

-- ---- a row is made

pub lists_kept : (name : List ℕ) (rows : List HandList) (i : ℕ) → filter was_handed_out (insert rows i (record { name = name; moments = [] })) ≡ filter was_handed_out rows
lists_kept name rows i =
    filter-append was_handed_out (take i rows) (record { name = name; moments = [] } ∷ drop i rows)
    ∙ sym (filter-append was_handed_out (take i rows) (drop i rows))
    ∙ ap (filter was_handed_out) (take-append-drop i rows)

pub names_inserted : (name : List ℕ) (rows : List HandList) (i : ℕ) → map row_name (insert rows i (record { name = name; moments = [] })) ≡ insert (map row_name rows) i name
names_inserted name [] zero = refl
names_inserted name [] (suc i) = refl
names_inserted name (x ∷ xs) zero = refl
names_inserted name (x ∷ xs) (suc i) = ap (λ l. x.name ∷ l) (names_inserted name xs i)

gap_tail : (name n : List ℕ) (ns : List (List ℕ)) (i : ℕ) → IsGap name (n ∷ ns) (suc i) → IsGap name ns i
gap_tail name n ns i gap = record {
  within = let most = gap.within in omega arith;
  lesser = λ j d within below. gap.lesser (suc j) d (omega arith) (omega arith);
  greater = λ j d above within. gap.greater (suc j) d (omega arith) (omega arith);
}

pub names_still_rise : (name : List ℕ) (names : List (List ℕ)) (i : ℕ) → NamesRise names → IsGap name names i → NamesRise (insert names i name)
names_still_rise name [] zero rise gap = (All-nil (IsNameBefore name), tt)
names_still_rise name [] (suc i) rise gap = (All-nil (IsNameBefore name), tt)
names_still_rise name (n ∷ ns) zero rise gap =
    (λ k d within. turned (get_or (n ∷ ns) k d) name Greater (gap.greater k d (omega arith) within), rise)
names_still_rise name (n ∷ ns) (suc i) rise gap =
    let less : IsNameBefore n name = gap.lesser 0 n (omega arith) (omega arith) in (
      All-append (IsNameBefore n) (take i ns) (name ∷ drop i ns) (All-take (IsNameBefore n) i ns rise.0)
          (All-cons (IsNameBefore n) name (drop i ns) less (All-drop (IsNameBefore n) i ns rise.0)),
      names_still_rise name ns i rise.1 (gap_tail name n ns i gap),
    )

pub still_contains : (name other : List ℕ) (names : List (List ℕ)) (i : ℕ) → Contains names other → Contains (insert names i name) other
still_contains name other names i there =
    elim (Contains-append_cases (take i names) (drop i names) other (subst (λ l. Contains l other) (sym (take-append-drop i names)) there)) [
      | inl left ↦ Contains-append_left (take i names) (name ∷ drop i names) other left
      | inr right ↦ Contains-append_right (take i names) (name ∷ drop i names) other (Contains-append_right (name ∷ []) (drop i names) other right)
    ]
