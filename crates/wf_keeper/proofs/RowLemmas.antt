-- What a search by key finds among rows in order, and what a change at that place makes of them.
use Rattle.std.proofs.Common.{◌≡◌, ℕ, zero, suc, ◌<◌, ◌≤◌, List, [], ◌∷◌, length, get_or, set, Some, None, Result, Ok, Err, refl, sym, ap, subst, ◌∙◌, inl, inr, arith}
use Rattle.std.specs.declared.cmp.Ordering.{Ordering}
use Rattle.std.specs.declared.cmp.Ordering.TheVariants.{Less, Equal, Greater}
use Rattle.std.specs.Ordering.{match_ordering, ordering_index, ordering_reverse}
use Rattle.std.specs.Cmp.{IsTotalOrder}
use Rattle.std.specs.List.{insert, remove}
use Rattle.std.specs.List.Sorted.{IsBinarySearchResult, IsNonDecreasingBy, IsSearchInRange}
use Rattle.std.proofs.lemmas.Bool.{cases_lt}
use Rattle.std.proofs.lemmas.Cmp.{nat_list_cmp_total}
use Rattle.wf_keeper.specs.Keys.{Key, Row, key_cmp}
use Rattle.wf_keeper.specs.Rows.{Rows, row, AllAfter, IsOrdered, IsAt, IsGap, IsSearched, get, put, without}

-- ---- the order of keys

-- a key as one list, whose order it has
abbrev word : Key → List ℕ
word k = k.kind ∷ k.text

pub key_order : IsTotalOrder key_cmp
key_order = record {
  antisymm = λ x y. nat_list_cmp_total.antisymm (word x) (word y);
  trans = λ x y z. nat_list_cmp_total.trans (word x) (word y) (word z);
  congr = λ x y z. nat_list_cmp_total.congr (word x) (word y) (word z);
}

turned : (a b : Key) (o : Ordering) → key_cmp a b ≡ o → key_cmp b a ≡ ordering_reverse o
turned a b o is = key_order.antisymm b a ∙ ap ordering_reverse is

-- what comes before an equal of k comes before k
before_equal : (a b k : Key) → key_cmp a b ≡ Less → key_cmp b k ≡ Equal → key_cmp a k ≡ Less
before_equal a b k less same =
    key_order.antisymm a k ∙ ap ordering_reverse (sym (key_order.congr b k a same) ∙ turned a b Less less)

index_below : (o : Ordering) → ordering_index o ≤ 2
index_below Less = omega arith
index_below Equal = omega arith
index_below Greater = omega arith

index_rises_to : (a b k : Key) (o : Ordering) → key_cmp a b ≡ Less → key_cmp b k ≡ o → ordering_index (key_cmp a k) ≤ ordering_index o
index_rises_to a b k Less less is = rw (key_order.trans a b k less is) (omega arith)
index_rises_to a b k Equal less is = rw (before_equal a b k less is) (omega arith)
index_rises_to a b k Greater less is = index_below (key_cmp a k)

-- ---- the search

after_at : (k : Key) (rows : Rows) (j : ℕ) (d : Row) → AllAfter k rows → j < length rows → key_cmp k (get_or rows j d).key ≡ Less
after_at k [] j d after within = absurd (omega arith)
after_at k (r ∷ rest) zero d after within = after.0
after_at k (r ∷ rest) (suc j) d after within = after_at k rest j d after.1 (omega arith)

keys_rise : (rows : Rows) (i j : ℕ) (d : Row) → IsOrdered rows → i < j → j < length rows → key_cmp (get_or rows i d).key (get_or rows j d).key ≡ Less
keys_rise [] i j d ordered lt within = absurd (omega arith)
keys_rise (r ∷ rest) i zero d ordered lt within = absurd (omega arith)
keys_rise (r ∷ rest) zero (suc j) d ordered lt within = after_at r.key rest j d ordered.0 (omega arith)
keys_rise (r ∷ rest) (suc i) (suc j) d ordered lt within = keys_rise rest i j d ordered.1 (omega arith) (omega arith)

comparisons_rise : (k : Key) (rows : Rows) → IsOrdered rows → IsNonDecreasingBy (λ r. ordering_index (key_cmp r.key k)) rows
comparisons_rise k rows ordered i j d le within = elim (cases_lt i j) [
  | inl lt ↦ index_rises_to (get_or rows i d).key (get_or rows j d).key k (key_cmp (get_or rows j d).key k) (keys_rise rows i j d ordered lt within) refl
  | inr ge ↦ subst (λ n. ordering_index (key_cmp (get_or rows i d).key k) ≤ ordering_index (key_cmp (get_or rows n d).key k)) {x = i} (omega arith) (omega arith)
]

pub searched : (k : Key) (rows : Rows) (result : Result ℕ ℕ) → IsOrdered rows → IsSearchInRange result (length rows)
    → IsBinarySearchResult (λ r. key_cmp r.key k) rows result → IsSearched k rows result
searched k rows (Ok i) ordered within same = record { bound = within; same = same }
searched k rows (Err i) ordered within parted =
    let sides = parted (comparisons_rise k rows ordered) in
    record { bound = within; below = λ j d lt. sides.0 j d (omega arith) lt; above = λ j d le lt. sides.1 j d le lt }

-- ---- at the place of the key

-- the rows in front of place i come before the key
abbrev FrontBefore : Key → Rows → ℕ → Type 0
FrontBefore k rows i = (j : ℕ) (d : Row) → j < i → key_cmp (get_or rows j d).key k ≡ Less

front_before : (k : Key) (rows : Rows) (i : ℕ) → IsOrdered rows → IsAt k rows i → FrontBefore k rows i
front_before k rows i ordered at j d lt =
    before_equal (get_or rows j d).key (get_or rows i d).key k (keys_rise rows j i d ordered lt at.bound) (at.same d)

front_tail : (k : Key) (r : Row) (rest : Rows) (i : ℕ) → FrontBefore k (r ∷ rest) (suc i) → FrontBefore k rest i
front_tail k r rest i front j d lt = front (suc j) d (omega arith)

at_tail : (k : Key) (r : Row) (rest : Rows) (i : ℕ) → IsAt k (r ∷ rest) (suc i) → IsAt k rest i
at_tail k r rest i at = record { bound = omega (arith, at.bound); same = λ d. at.same d }

module _ (k : Key) where
  first_before : (r : Row) (rest : Rows) (i : ℕ) → FrontBefore k (r ∷ rest) (suc i) → key_cmp k r.key ≡ Greater
  first_before r rest i front = turned r.key k Less (front 0 r (omega arith))

  first_same : (r : Row) (rest : Rows) → IsAt k (r ∷ rest) zero → key_cmp k r.key ≡ Equal
  first_same r rest at = turned r.key k Equal (at.same r)

  get_in_front : (rows : Rows) (i : ℕ) (d : Row) → IsAt k rows i → FrontBefore k rows i → get k rows ≡ Some (get_or rows i d).body
  get_in_front [] i d at front = absurd (omega (arith, at.bound))
  get_in_front (r ∷ rest) zero d at front = rw (first_same r rest at) refl
  get_in_front (r ∷ rest) (suc i) d at front =
      rw (first_before r rest i front) (get_in_front rest i d (at_tail k r rest i at) (front_tail k r rest i front))

  put_in_front : (body : List ℕ) (rows : Rows) (i : ℕ) → IsAt k rows i → FrontBefore k rows i → put k body rows ≡ set rows i (row k body)
  put_in_front body [] i at front = absurd (omega (arith, at.bound))
  put_in_front body (r ∷ rest) zero at front = rw (first_same r rest at) refl
  put_in_front body (r ∷ rest) (suc i) at front =
      rw (first_before r rest i front) (ap (λ t. r ∷ t) (put_in_front body rest i (at_tail k r rest i at) (front_tail k r rest i front)))

  without_in_front : (rows : Rows) (i : ℕ) → IsAt k rows i → FrontBefore k rows i → without k rows ≡ remove rows i
  without_in_front [] i at front = absurd (omega (arith, at.bound))
  without_in_front (r ∷ rest) zero at front = rw (first_same r rest at) refl
  without_in_front (r ∷ rest) (suc i) at front =
      rw (first_before r rest i front) (ap (λ t. r ∷ t) (without_in_front rest i (at_tail k r rest i at) (front_tail k r rest i front)))

  pub get_at : (rows : Rows) (i : ℕ) (d : Row) → IsOrdered rows → IsAt k rows i → get k rows ≡ Some (get_or rows i d).body
  get_at rows i d ordered at = get_in_front rows i d at (front_before k rows i ordered at)

  pub put_at : (body : List ℕ) (rows : Rows) (i : ℕ) → IsOrdered rows → IsAt k rows i → put k body rows ≡ set rows i (row k body)
  put_at body rows i ordered at = put_in_front body rows i at (front_before k rows i ordered at)

  pub without_at : (rows : Rows) (i : ℕ) → IsOrdered rows → IsAt k rows i → without k rows ≡ remove rows i
  without_at rows i ordered at = without_in_front rows i at (front_before k rows i ordered at)

-- ---- at the gap for the key

gap_tail : (k : Key) (r : Row) (rest : Rows) (i : ℕ) → IsGap k (r ∷ rest) (suc i) → IsGap k rest i
gap_tail k r rest i gap =
    record {
      bound = omega (arith, gap.bound);
      below = λ j d lt. gap.below (suc j) d (omega arith);
      above = λ j d le lt. gap.above (suc j) d (omega arith) (omega arith);
    }

module _ (k : Key) where
  first_after : (r : Row) (rest : Rows) → IsGap k (r ∷ rest) zero → key_cmp k r.key ≡ Less
  first_after r rest gap = turned r.key k Greater (gap.above 0 r (omega arith) (omega arith))

  first_passed : (r : Row) (rest : Rows) (i : ℕ) → IsGap k (r ∷ rest) (suc i) → key_cmp k r.key ≡ Greater
  first_passed r rest i gap = turned r.key k Less (gap.below 0 r (omega arith))

  pub get_gap : (rows : Rows) (i : ℕ) → IsGap k rows i → get k rows ≡ None
  get_gap [] i gap = refl
  get_gap (r ∷ rest) zero gap = rw (first_after r rest gap) refl
  get_gap (r ∷ rest) (suc i) gap = rw (first_passed r rest i gap) (get_gap rest i (gap_tail k r rest i gap))

  pub put_gap : (body : List ℕ) (rows : Rows) (i : ℕ) → IsGap k rows i → put k body rows ≡ insert rows i (row k body)
  put_gap body [] zero gap = refl
  put_gap body [] (suc i) gap = absurd (omega (arith, gap.bound))
  put_gap body (r ∷ rest) zero gap = rw (first_after r rest gap) refl
  put_gap body (r ∷ rest) (suc i) gap =
      rw (first_passed r rest i gap) (ap (λ t. r ∷ t) (put_gap body rest i (gap_tail k r rest i gap)))

  pub without_gap : (rows : Rows) (i : ℕ) → IsGap k rows i → without k rows ≡ rows
  without_gap [] i gap = refl
  without_gap (r ∷ rest) zero gap = rw (first_after r rest gap) refl
  without_gap (r ∷ rest) (suc i) gap =
      rw (first_passed r rest i gap) (ap (λ t. r ∷ t) (without_gap rest i (gap_tail k r rest i gap)))

-- ---- changes keep the order

all_after_earlier : (a b : Key) (rows : Rows) → key_cmp a b ≡ Less → AllAfter b rows → AllAfter a rows
all_after_earlier a b [] less after = tt
all_after_earlier a b (r ∷ rest) less after = (key_order.trans a b r.key less after.0, all_after_earlier a b rest less after.1)

all_after_equal : (a b : Key) (rows : Rows) → key_cmp a b ≡ Equal → AllAfter b rows → AllAfter a rows
all_after_equal a b [] same after = tt
all_after_equal a b (r ∷ rest) same after = (key_order.congr a b r.key same ∙ after.0, all_after_equal a b rest same after.1)

module _ (k : Key) (body : List ℕ) where
  after_put_by : (a : Key) (r : Row) (rest : Rows) (o : Ordering) → key_cmp a k ≡ Less → AllAfter a (r ∷ rest) → AllAfter a (put k body rest)
      → AllAfter a (match_ordering o (row k body ∷ r ∷ rest) (row k body ∷ rest) (r ∷ put k body rest))
  after_put_by a r rest Less less after more = (less, after)
  after_put_by a r rest Equal less after more = (less, after.1)
  after_put_by a r rest Greater less after more = (after.0, more)

  after_put : (a : Key) (rows : Rows) → key_cmp a k ≡ Less → AllAfter a rows → AllAfter a (put k body rows)
  after_put a [] less after = (less, tt)
  after_put a (r ∷ rest) less after = after_put_by a r rest (key_cmp k r.key) less after (after_put a rest less after.1)

  ordered_put_by : (r : Row) (rest : Rows) (o : Ordering) → key_cmp k r.key ≡ o → IsOrdered (r ∷ rest) → IsOrdered (put k body rest)
      → IsOrdered (match_ordering o (row k body ∷ r ∷ rest) (row k body ∷ rest) (r ∷ put k body rest))
  ordered_put_by r rest Less is ordered more = ((is, all_after_earlier k r.key rest is ordered.0), ordered)
  ordered_put_by r rest Equal is ordered more = (all_after_equal k r.key rest is ordered.0, ordered.1)
  ordered_put_by r rest Greater is ordered more = (after_put r.key rest (turned k r.key Greater is) ordered.0, more)

  pub ordered_put : (rows : Rows) → IsOrdered rows → IsOrdered (put k body rows)
  ordered_put [] ordered = (tt, tt)
  ordered_put (r ∷ rest) ordered = ordered_put_by r rest (key_cmp k r.key) refl ordered (ordered_put rest ordered.1)

module _ (k : Key) where
  after_without_by : (a : Key) (r : Row) (rest : Rows) (o : Ordering) → AllAfter a (r ∷ rest) → AllAfter a (without k rest)
      → AllAfter a (match_ordering o (r ∷ rest) rest (r ∷ without k rest))
  after_without_by a r rest Less after more = after
  after_without_by a r rest Equal after more = after.1
  after_without_by a r rest Greater after more = (after.0, more)

  after_without : (a : Key) (rows : Rows) → AllAfter a rows → AllAfter a (without k rows)
  after_without a [] after = tt
  after_without a (r ∷ rest) after = after_without_by a r rest (key_cmp k r.key) after (after_without a rest after.1)

  ordered_without_by : (r : Row) (rest : Rows) (o : Ordering) → IsOrdered (r ∷ rest) → IsOrdered (without k rest)
      → IsOrdered (match_ordering o (r ∷ rest) rest (r ∷ without k rest))
  ordered_without_by r rest Less ordered more = ordered
  ordered_without_by r rest Equal ordered more = ordered.1
  ordered_without_by r rest Greater ordered more = (after_without r.key rest ordered.0, more)

  pub ordered_without : (rows : Rows) → IsOrdered rows → IsOrdered (without k rows)
  ordered_without [] ordered = tt
  ordered_without (r ∷ rest) ordered = ordered_without_by r rest (key_cmp k r.key) ordered (ordered_without rest ordered.1)

-- ---- what the code makes of the rows

module _ (k : Key) (rows given new : Rows) (i : ℕ) (same : given ≡ rows) (ordered : IsOrdered rows) where
  pub removed : IsAt k given i → new ≡ remove rows i → (new ≡ without k rows) × IsOrdered new
  removed there is =
      let equal = is ∙ sym (without_at k rows i ordered (rw same at there)) in
      (equal, subst IsOrdered (sym equal) (ordered_without k rows ordered))

  pub replaced : (body : List ℕ) → IsAt k given i → new ≡ set rows i (row k body) → (new ≡ put k body rows) × IsOrdered new
  replaced body there is =
      let equal = is ∙ sym (put_at k body rows i ordered (rw same at there)) in
      (equal, subst IsOrdered (sym equal) (ordered_put k body rows ordered))

  pub inserted : (body : List ℕ) → IsGap k given i → new ≡ insert rows i (row k body) → (new ≡ put k body rows) × IsOrdered new
  inserted body gap is =
      let equal = is ∙ sym (put_gap k body rows i (rw same at gap)) in
      (equal, subst IsOrdered (sym equal) (ordered_put k body rows ordered))
