-- What a search finds among sorted names, and what an edit at that place does.
use Rattle.std.proofs.Common.{◌≡◌, ◌≢◌, ℕ, zero, suc, ◌+◌, ◌-◌, ◌<◌, ◌≤◌, List, [], ◌∷◌, length, get_or, set, Some, None, Result, Ok, Err, IfOk, IfErr, refl, sym, ap, inl, inr, ◌∙◌, subst, arith}
use Rattle.std.specs.List.{insert}
use Rattle.std.specs.List.Sorted.{IsSearchInRange, IsBinarySearchResult, IsNonDecreasingBy}
use Rattle.std.specs.Ordering.{nat_cmp, ordering_index, is_lt, ordering_reverse}
use Rattle.std.specs.Cmp.Lexicographic.{slice_cmp, same_text, texts_ties}
use Rattle.std.specs.declared.cmp.Ordering.{Ordering}
use Rattle.std.specs.declared.cmp.Ordering.TheVariants.{Less, Equal, Greater}
use Rattle.std.proofs.lemmas.Cmp.{nat_list_cmp_total, tied_itself}
use Rattle.std.proofs.lemmas.List.Sorted.{searchable_from_sorted}
use Rattle.std.proofs.lemmas.List.{get_or_default}
use Rattle.std.proofs.lemmas.Bool.{cases_lt}
use Rattle.std.proofs.lemmas.List.Edits.{length-insert, get_or-insert_below, get_or-insert_at, get_or-insert_above}
use Rattle.std.proofs.lemmas.Grind.{common_steps}
use Rattle.wf_limits.specs.Hands.{HandOuts, ChangesOnly, hand_outs_of, name_at, nameless, AreSorted, IsAt, IsFirstAt, IsGapFor, moments_of, count_of}
use Rattle.wf_limits.proofs.Lookups.{NotBefore, found-insert, found_at, not_found, changes_only, named_first, moments_first, count_first, writes_first}

tied : (name : List ℕ) → slice_cmp nat_cmp name name ≡ Equal
tied name = tied_itself nat_list_cmp_total name

equal_names : (xs ys : List ℕ) → slice_cmp nat_cmp xs ys ≡ Equal → xs ≡ ys
equal_names xs ys equal = same_text xs ys (sym (texts_ties xs ys ∙ rw equal refl))

less_differs : (xs ys : List ℕ) → slice_cmp nat_cmp xs ys ≡ Less → xs ≢ ys
less_differs xs ys less same =
    let impossible : Less ≡ Equal = sym less ∙ rw same (tied ys) in
    absurd cc

turned : (xs ys : List ℕ) (o : Ordering) → slice_cmp nat_cmp xs ys ≡ o → slice_cmp nat_cmp ys xs ≡ ordering_reverse o
turned xs ys o told = nat_list_cmp_total.antisymm ys xs ∙ ap ordering_reverse told

module _ (hands : List HandOuts) (sorted : AreSorted hands) (name : List ℕ) where
  -- the comparisons with the name rise along the list, as a binary search asks
  comparisons_rise : IsNonDecreasingBy (λ h. ordering_index (slice_cmp nat_cmp h.name name)) hands
  comparisons_rise = searchable_from_sorted nat_list_cmp_total (λ h. h.name) hands name (λ k d low high.
      rw (get_or_default hands (k + 1) d nameless high, get_or_default hands k d nameless (omega arith))
      (ap is_lt (turned (name_at hands k) (name_at hands (k + 1)) Less (sorted k (k + 1) (omega arith) high))))

  -- a binary search by name ends at the name, or at the gap for it
  pub searched : (r : Result ℕ ℕ) → IsSearchInRange r (length hands) → IsBinarySearchResult (λ h. slice_cmp nat_cmp h.name name) hands r
      → record { found : IfOk r (λ place. IsAt hands name place); absent : IfErr r (λ gap. IsGapFor hands name gap) }
  searched (Ok at) in_range equal = record { found = record { in_range = in_range; has_name = equal_names _ name (equal nameless) }; absent = tt }
  searched (Err at) in_range parted = record {
    found = tt;
    absent = record {
      in_range = in_range;
      lesser_before = λ j lt. (parted comparisons_rise).0 j nameless (omega arith) lt;
      greater_after = λ j le lt. (parted comparisons_rise).1 j nameless le lt;
    };
  }

-- a hand of the same name leaves the names as they are
name_at-set : (hands : List HandOuts) (at : ℕ) (hand : HandOuts) → at < length hands → name_at hands at ≡ hand.name → (k : ℕ) → name_at (set hands at hand) k ≡ name_at hands k
name_at-set [] at hand within same k = refl
name_at-set (x ∷ hands) zero hand within same zero = sym same
name_at-set (x ∷ hands) zero hand within same (suc k) = refl
name_at-set (x ∷ hands) (suc at) hand within same zero = refl
name_at-set (x ∷ hands) (suc at) hand within same (suc k) = name_at-set hands at hand (omega arith) same k

module _ (hands : List HandOuts) (sorted : AreSorted hands) (name : List ℕ) (at : ℕ) (is_at : IsAt hands name at) where
  -- the names before the place are lesser, so none is the name
  not_before : NotBefore hands name at
  not_before j lt same = less_differs _ _ (sorted j at lt is_at.in_range) (same ∙ sym is_at.has_name)

  -- the name is found at its place
  pub found_here : hand_outs_of hands name ≡ Some (get_or hands at nameless)
  found_here = found_at hands name at is_at.in_range is_at.has_name not_before

  -- a hand of the name that is written there keeps the order
  pub sorted_set : (hand : HandOuts) → name ≡ hand.name → AreSorted (set hands at hand)
  sorted_set hand own i j lt in_range =
      rw (name_at-set hands at hand is_at.in_range (is_at.has_name ∙ own) i, name_at-set hands at hand is_at.in_range (is_at.has_name ∙ own) j)
      (sorted i j lt (grind (arith, common_steps)))

module _ (hands : List HandOuts) (name : List ℕ) (at : ℕ) (gap : IsGapFor hands name at) where
  unlike_greater : (j : ℕ) → at ≤ j → j < length hands → slice_cmp nat_cmp name (name_at hands j) ≡ Less
  unlike_greater j le lt = turned (name_at hands j) name Greater (gap.greater_after j le lt)

  not_before_gap : NotBefore hands name at
  not_before_gap j lt = less_differs _ _ (gap.lesser_before j lt)

  -- a name that has a gap isn't found
  pub not_found_here : hand_outs_of hands name ≡ None
  not_found_here = not_found hands name (λ j lt same. elim (cases_lt j at) [
    | inl below ↦ not_before_gap j below same
    | inr above ↦ less_differs _ _ (unlike_greater j above lt) (sym same)
  ])

  -- a hand of the name that is put in the gap changes that name alone
  pub inserts_only : (hand : HandOuts) → name ≡ hand.name → ChangesOnly hands (insert hands at hand) name hand.moments hand.count
  inserts_only hand own = subst (λ n. ChangesOnly hands (insert hands at hand) n hand.moments hand.count) (sym own)
      (changes_only _ _ hand (found-insert hands at hand (subst (λ n. NotBefore hands n at) own not_before_gap)))

  -- it keeps the order: each name is an old one below the gap, the new one at it, or an old one moved up by one
  pub sorted_insert : (hand : HandOuts) → name ≡ hand.name → AreSorted hands → AreSorted (insert hands at hand)
  sorted_insert hand own sorted i j lt in_range =
      let new = insert hands at hand in
      let named = λ (h : HandOuts). h.name in
      let longer = length-insert hands at hand gap.in_range in
      let below : (i : ℕ) → i < at → name_at new i ≡ name_at hands i = λ i lt. ap named (get_or-insert_below hands at hand nameless i lt gap.in_range) in
      let here : (i : ℕ) → i ≡ at → name_at new i ≡ name = λ i same. rw same (ap named (get_or-insert_at hands at hand nameless gap.in_range) ∙ sym own) in
      let above : (i : ℕ) → at < i → name_at new i ≡ name_at hands (i - 1) = λ i lt. subst (λ q. name_at new q ≡ name_at hands (i - 1)) {x = i - 1 + 1} (omega arith) (ap named (get_or-insert_above hands at hand nameless (i - 1) (omega arith) gap.in_range)) in
      grind (arith, below i, here i, above i, below j, here j, above j, sorted i j, sorted i (j - 1), sorted (i - 1) (j - 1), gap.lesser_before i, unlike_greater (j - 1))

-- a new name has no moments and no attempts, as before
pub reserves : (hands : List HandOuts) (name : List ℕ) (at : ℕ) (gap : IsGapFor hands name at) → ChangesOnly hands (insert hands at (record { name = name; moments = []; count = 0 })) name (moments_of hands name) (count_of hands name)
reserves hands name at gap = rw (not_found_here hands name at gap) (inserts_only hands name at gap (record { name = name; moments = []; count = 0 }) refl)

-- what is read at the name's place, and what a write of it leaves
module _ (hands seen : List HandOuts) (seen_is : hands ≡ seen) (sorted : AreSorted hands) (name : List ℕ) (at : ℕ) (is_at : IsAt seen name at) (hand d : HandOuts) (read : hand ≡ get_or hands at d) where
  here : IsAt hands name at
  here = subst (λ hs. IsAt hs name at) (sym seen_is) is_at

  first : IsFirstAt hands name at
  first = record { at = here; not_before = not_before hands sorted name at here }

  pub moments_read : moments_of seen name ≡ hand.moments
  moments_read = moments_first hands seen seen_is name at first hand d read

  pub count_read : count_of seen name ≡ hand.count
  count_read = count_first hands seen seen_is name at first hand d read

  pub writes_only : (new : HandOuts) → hand.name ≡ new.name → ChangesOnly seen (set hands at new) name new.moments new.count
  writes_only = writes_first hands seen seen_is name at first hand d read

  pub sorted_write : (new : HandOuts) → hand.name ≡ new.name → AreSorted (set hands at new)
  sorted_write new same = sorted_set hands sorted name at here new (named_first hands seen seen_is name at first hand d read ∙ same)
