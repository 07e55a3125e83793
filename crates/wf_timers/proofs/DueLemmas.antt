-- The least of the numbers with marks and of those with passed deadlines is the least that is due.
use Rattle.std.proofs.Common.{◌≡◌, ◌∙◌, ℕ, ◌+◌, ◌<◌, min, true, false, leb, cond, Bool, List, [], ◌∷◌, ◌++◌, Option, None, Some, refl, sym, ap, subst, arith, inl, inr}
use Rattle.std.proofs.lemmas.Bool.{cases_lt}
use Rattle.std.proofs.lemmas.Bool.Decides.{nat_tests}
use Rattle.std.specs.Prelude.{◌==◌, ◌||◌, if◌then◌else◌, option_map}
use Rattle.std.specs.List.{find}
use Rattle.wf_sorted.specs.declared.entry.Entry.{Entry}
use Rattle.wf_sorted.specs.Order.{passed}
use Rattle.wf_timers.specs.Agenda.{IsLeastDue, Planned, deadline_of, has_passed, is_due, is_marked}
use Rattle.wf_timers.specs.Kept.{EachOnce, RiseFrom, least_number, least_passed, lesser_of, numbers_of}

-- ---- the least of a list of numbers

-- the number stands in the list and no lesser one does; or the list is empty
abbrev IsLeastOf : List ℕ → Option ℕ → Type 0
IsLeastOf ns None = (n : ℕ) → is_marked n ns ≡ false
IsLeastOf ns (Some least) = (is_marked least ns ≡ true) × ((n : ℕ) → n < least → is_marked n ns ≡ false)

differs : (m n : ℕ) → n < m → (m == n) ≡ false
differs m n less = grind (arith, nat_tests)

itself : (n : ℕ) → (n == n) ≡ true
itself n = grind (arith, nat_tests)

or_true : (p : Bool) → (p || true) ≡ true
or_true true = refl
or_true false = refl

more : (m : ℕ) (ns : List ℕ) (o : Option ℕ) → IsLeastOf ns o → IsLeastOf (m ∷ ns) (lesser_of (Some m) o)
more m ns None none = (rw (itself m) refl, λ n less. rw (differs m n less) (none n))
more m ns (Some k) least =
    elim (cases_lt k m) [
      | inl below ↦
          let is : min m k ≡ k = omega arith in
          subst (λ x. IsLeastOf (m ∷ ns) (Some x)) (sym is) (ap (λ q. (m == k) || q) least.0 ∙ or_true (m == k), λ n less. rw (differs m n (omega arith)) (least.1 n less))
      | inr above ↦
          let is : min m k ≡ m = omega arith in
          subst (λ x. IsLeastOf (m ∷ ns) (Some x)) (sym is) (rw (itself m) refl, λ n less. rw (differs m n less) (least.1 n (omega arith)))
    ]

least_is : (ns : List ℕ) → IsLeastOf ns (least_number ns)
least_is [] = λ n. refl
least_is (m ∷ ns) = more m ns (least_number ns) (least_is ns)

-- ---- two lists one after the other

lesser_assoc : (m : ℕ) (a b : Option ℕ) → lesser_of (Some m) (lesser_of a b) ≡ lesser_of (lesser_of (Some m) a) b
lesser_assoc m None b = refl
lesser_assoc m (Some n) None = refl
lesser_assoc m (Some n) (Some k) = ap Some (omega arith)

least_both : (ms ns : List ℕ) → least_number (ms ++ ns) ≡ lesser_of (least_number ms) (least_number ns)
least_both [] ns = refl
least_both (m ∷ ms) ns = ap (lesser_of (Some m)) (least_both ms ns) ∙ lesser_assoc m (least_number ms) (least_number ns)

or_assoc : (p q r : Bool) → (p || (q || r)) ≡ ((p || q) || r)
or_assoc true q r = refl
or_assoc false q r = refl

marked_both : (n : ℕ) (ms ns : List ℕ) → is_marked n (ms ++ ns) ≡ (is_marked n ms || is_marked n ns)
marked_both n [] ns = refl
marked_both n (m ∷ ms) ns = ap (λ q. (m == n) || q) (marked_both n ms ns) ∙ or_assoc (m == n) (is_marked n ms) (is_marked n ns)

-- ---- the numbers with a passed deadline

none_above : (low n : ℕ) (ds : List Entry) → RiseFrom low ds → n < low → deadline_of n ds ≡ None
none_above low n [] rise above = refl
none_above low n (d ∷ ds) rise above =
    rw (differs d.number n (omega (arith, rise.0))) (none_above (d.number + 1) n ds rise.1 (omega (arith, rise.0)))

is_number : (x n : ℕ) → (x == n) ≡ true → x ≡ n
is_number x n h = grind (arith, nat_tests)

pub once_rising : (low : ℕ) (ds : List Entry) → RiseFrom low ds → EachOnce ds
once_rising low [] rise = tt
once_rising low (d ∷ ds) rise = (none_above (d.number + 1) d.number ds rise.1 (omega arith), once_rising (d.number + 1) ds rise.1)

passed_is : (moment n : ℕ) (ds : List Entry) → EachOnce ds → is_marked n (numbers_of (passed moment ds)) ≡ has_passed moment (deadline_of n ds)
passed_is moment n [] once = refl
passed_is moment n (d ∷ ds) once = cases (d.number == n) (leb d.moment moment) refl refl (passed_is moment n ds once.1)
  where
    cases : (p q : Bool) → (d.number == n) ≡ p → leb d.moment moment ≡ q
        → is_marked n (numbers_of (passed moment ds)) ≡ has_passed moment (deadline_of n ds)
        → is_marked n (numbers_of (if q then d ∷ passed moment ds else passed moment ds)) ≡ has_passed moment (option_map (λ (e : Entry). e.moment) (cond p (Some d) (find (λ (e : Entry). e.number == n) ds)))
    cases true true is due rest = rw (is, due) refl
    cases true false is due rest =
        let none : deadline_of n ds ≡ None = ap (λ m. deadline_of m ds) (sym (is_number d.number n is)) ∙ once.0 in
        rw due (rest ∙ ap (has_passed moment) none)
    cases false true is due rest = rw is rest
    cases false false is due rest = rest

-- ---- both

due_is : (moment n : ℕ) (planned : Planned) → EachOnce planned.deadlines
    → is_due moment n planned ≡ is_marked n (planned.marks ++ numbers_of (passed moment planned.deadlines))
due_is moment n planned once =
    sym (marked_both n planned.marks (numbers_of (passed moment planned.deadlines)) ∙ ap (λ q. is_marked n planned.marks || q) (passed_is moment n planned.deadlines once))

turned : (moment : ℕ) (planned : Planned) (least : Option ℕ) → EachOnce planned.deadlines
    → IsLeastOf (planned.marks ++ numbers_of (passed moment planned.deadlines)) least → IsLeastDue moment planned least
turned moment planned None once none = λ n. due_is moment n planned once ∙ none n
turned moment planned (Some least) once is =
    (due_is moment least planned once ∙ is.0, λ n less. due_is moment n planned once ∙ is.1 n less)

pub least_due : (moment : ℕ) (planned : Planned) → EachOnce planned.deadlines
    → IsLeastDue moment planned (lesser_of (least_number planned.marks) (least_passed moment planned.deadlines))
least_due moment planned once =
    subst (IsLeastDue moment planned) (least_both planned.marks (numbers_of (passed moment planned.deadlines)))
    (turned moment planned (least_number (planned.marks ++ numbers_of (passed moment planned.deadlines))) once (least_is (planned.marks ++ numbers_of (passed moment planned.deadlines))))
