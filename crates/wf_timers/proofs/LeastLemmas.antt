-- The least number with a passed deadline, found over the entries by moment.
use Rattle.std.proofs.Common.{◌≡◌, ◌∙◌, ℕ, zero, suc, ◌+◌, ◌<◌, ◌≤◌, true, false, leb, Bool, List, [], ◌∷◌, ◌++◌, length, get_or, take, slice_get, Option, None, Some, refl, sym, ap, arith}
use Rattle.std.proofs.lemmas.Bool.Decides.{nat_tests}
use Rattle.std.proofs.lemmas.List.{take_more, length-take-le}
use Rattle.std.proofs.lemmas.List.Elements.{filter-append}
use Rattle.std.specs.Prelude.{if◌then◌else◌}
use Rattle.wf_sorted.specs.declared.entry.Entry.{Entry}
use Rattle.wf_sorted.specs.Order.{Rising, is_before, passed, put}
use Rattle.wf_sorted.proofs.LeastLemmas.{nothing_passed}
use Rattle.wf_timers.specs.Kept.{ordered, least_number, least_passed, lesser, lesser_of, numbers_of}

-- ---- the lesser of numbers that may not be there

swapped : (a b : ℕ) (o : Option ℕ) → lesser_of (Some a) (lesser_of (Some b) o) ≡ lesser_of (Some b) (lesser_of (Some a) o)
swapped a b None = ap Some (omega arith)
swapped a b (Some c) = ap Some (omega arith)

last_lesser : (n : ℕ) (ns : List ℕ) → least_number (ns ++ n ∷ []) ≡ lesser_of (Some n) (least_number ns)
last_lesser n [] = refl
last_lesser n (m ∷ ns) = ap (lesser_of (Some m)) (last_lesser n ns) ∙ swapped m n (least_number ns)

through : (first : Option ℕ) (n : ℕ) (o : Option ℕ) → lesser_of first (lesser_of (Some n) o) ≡ lesser_of (Some n) (lesser_of first o)
through None n o = refl
through (Some m) n o = swapped m n o

-- a number is taken into the least so far
pub taken_in : (least : Option ℕ) (n : ℕ) (rest : Option ℕ) → lesser_of least (lesser_of (Some n) rest) ≡ lesser_of (lesser_of (Some n) least) rest
taken_in None n rest = refl
taken_in (Some m) n None = ap Some (omega arith)
taken_in (Some m) n (Some k) = ap Some (omega arith)

pub lesser_of_none : (least : Option ℕ) → lesser_of least None ≡ least
lesser_of_none None = refl
lesser_of_none (Some n) = refl

-- ---- one entry more

-- the least of the first number and the entries in front of that place, all of which have passed
pub record IsLeast (first : Option ℕ) (moment : ℕ) (es : List Entry) (place : ℕ) (least : Option ℕ) : Type 0 where
  pub value : least ≡ lesser_of first (least_number (numbers_of (take place es)))
  pub all_passed : passed moment (take place es) ≡ take place es

pub none_yet : (first : Option ℕ) (moment : ℕ) (es : List Entry) → IsLeast first moment es 0 first
none_yet None moment es = record { value = refl; all_passed = refl }
none_yet (Some n) moment es = record { value = refl; all_passed = refl }

one_passed : (moment : ℕ) (e : Entry) → e.moment ≤ moment → passed moment (e ∷ []) ≡ e ∷ []
one_passed moment e due = let has : leb e.moment moment ≡ true = grind (arith, nat_tests) in rw has refl

map_last : (es : List Entry) (e : Entry) → numbers_of (es ++ e ∷ []) ≡ numbers_of es ++ e.number ∷ []
map_last [] e = refl
map_last (x ∷ es) e = ap (λ ns. x.number ∷ ns) (map_last es e)

got : (es : List Entry) (place : ℕ) (e : Entry) → slice_get es place ≡ Some e → (place < length es) × (get_or es place e ≡ e)
got [] place e is = absurd cc
got (x ∷ es) zero e is = (omega arith, cc)
got (x ∷ es) (suc place) e is = let rest = got es place e is in (omega (arith, rest.0), rest.1)

pub one_more : (first : Option ℕ) (moment : ℕ) (es : List Entry) (place : ℕ) (least : Option ℕ) (e : Entry) → IsLeast first moment es place least
    → slice_get es place ≡ Some e → e.moment ≤ moment → IsLeast first moment es (place + 1) (Some (lesser e.number least))
one_more first moment es place least e is at due =
    let here = got es place e at in
    let more : take (place + 1) es ≡ take place es ++ e ∷ [] = take_more es place e here.0 ∙ ap (λ (x : Entry). take place es ++ x ∷ []) here.1 in
    record {
      value =
          ap (lesser_of (Some e.number)) is.value ∙ sym (through first e.number (least_number (numbers_of (take place es))))
          ∙ ap (lesser_of first) (sym (last_lesser e.number (numbers_of (take place es))))
          ∙ ap (λ ns. lesser_of first (least_number ns)) (sym (map_last (take place es) e))
          ∙ ap (λ xs. lesser_of first (least_number (numbers_of xs))) (sym more);
      all_passed =
          ap (passed moment) more ∙ filter-append (λ (x : Entry). leb x.moment moment) (take place es) (e ∷ [])
          ∙ ap (λ xs. xs ++ passed moment (e ∷ [])) is.all_passed ∙ ap (λ xs. take place es ++ xs) (one_passed moment e due)
          ∙ sym more;
    }

-- ---- the end: no entry is left, or the next hasn't passed

rest_later : (moment : ℕ) (es : List Entry) (place : ℕ) (e : Entry) → Rising es → slice_get es place ≡ Some e → moment < e.moment → passed moment es ≡ passed moment (take place es)
rest_later moment [] place e rising at later = absurd cc
rest_later moment (x ∷ es) zero e rising at later =
    let same : x ≡ e = cc in let has_not : moment < x.moment = rw same later in nothing_passed moment x es rising has_not
rest_later moment (x ∷ es) (suc place) e rising at later =
    ap (λ xs. if leb x.moment moment then x ∷ xs else xs) (rest_later moment es place e rising.1 at later)

pub none_left : (moment : ℕ) (es : List Entry) (place : ℕ) → slice_get es place ≡ None → passed moment es ≡ passed moment (take place es)
none_left moment [] zero none = refl
none_left moment [] (suc place) none = refl
none_left moment (x ∷ es) zero none = absurd cc
none_left moment (x ∷ es) (suc place) none = ap (λ xs. if leb x.moment moment then x ∷ xs else xs) (none_left moment es place none)

pub none_past : (es : List Entry) (place : ℕ) → length es ≤ place → slice_get es place ≡ None
none_past [] zero past = refl
none_past [] (suc place) past = refl
none_past (x ∷ es) zero past = absurd (omega arith)
none_past (x ∷ es) (suc place) past = none_past es place (omega arith)

pub ended : (first : Option ℕ) (moment : ℕ) (es : List Entry) (place : ℕ) (least : Option ℕ) → IsLeast first moment es place least
    → passed moment es ≡ passed moment (take place es) → least ≡ lesser_of first (least_passed moment es)
ended first moment es place least is all =
    is.value ∙ ap (λ xs. lesser_of first (least_number (numbers_of xs))) (sym (all ∙ is.all_passed))

pub ended_at : (first : Option ℕ) (moment : ℕ) (es : List Entry) (place : ℕ) (least : Option ℕ) (e : Entry) → IsLeast first moment es place least
    → Rising es → slice_get es place ≡ Some e → moment < e.moment → least ≡ lesser_of first (least_passed moment es)
ended_at first moment es place least e is rising at later = ended first moment es place least is (rest_later moment es place e rising at later)

count_front : (moment : ℕ) (es : List Entry) (place : ℕ) → length (passed moment (take place es)) ≤ length (passed moment es)
count_front moment [] zero = omega arith
count_front moment [] (suc place) = omega arith
count_front moment (x ∷ es) zero = omega arith
count_front moment (x ∷ es) (suc place) =
    elim (leb x.moment moment) as (λ p. length (if p then x ∷ passed moment (take place es) else passed moment (take place es)) ≤ length (if p then x ∷ passed moment es else passed moment es)) [
      | true ↦ omega (arith, count_front moment es place)
      | false ↦ count_front moment es place
    ]

-- as many entries have passed as were looked at
pub looked_at : (first : Option ℕ) (moment : ℕ) (es : List Entry) (place : ℕ) (least : Option ℕ) → IsLeast first moment es place least
    → place ≤ length es → place ≤ length (passed moment es)
looked_at first moment es place least is within =
    omega (arith, count_front moment es place, ap length is.all_passed, length-take-le place es within)

-- ---- the same over the entries by number

abbrev pub weigh : ℕ → Entry → Option ℕ → Option ℕ
weigh moment e o = if leb e.moment moment then lesser_of (Some e.number) o else o

pub weighed : (moment : ℕ) (e : Entry) (es : List Entry) → least_passed moment (e ∷ es) ≡ weigh moment e (least_passed moment es)
weighed moment e es =
    elim (leb e.moment moment) as (λ p. least_number (numbers_of (if p then e ∷ passed moment es else passed moment es)) ≡ (if p then lesser_of (Some e.number) (least_passed moment es) else least_passed moment es)) [
      | true ↦ refl
      | false ↦ refl
    ]

weigh_both : (moment : ℕ) (a b : Entry) (o : Option ℕ) → weigh moment a (weigh moment b o) ≡ weigh moment b (weigh moment a o)
weigh_both moment a b o = cases (leb a.moment moment) (leb b.moment moment)
  where
    cases : (p q : Bool) → (if p then lesser_of (Some a.number) (if q then lesser_of (Some b.number) o else o) else (if q then lesser_of (Some b.number) o else o))
        ≡ (if q then lesser_of (Some b.number) (if p then lesser_of (Some a.number) o else o) else (if p then lesser_of (Some a.number) o else o))
    cases true true = swapped a.number b.number o
    cases true false = refl
    cases false true = refl
    cases false false = refl

weigh_put : (moment : ℕ) (e : Entry) (es : List Entry) → least_passed moment (put e es) ≡ weigh moment e (least_passed moment es)
weigh_put moment e [] = weighed moment e []
weigh_put moment e (x ∷ es) =
    elim (is_before x e) as (λ p. least_passed moment (if p then x ∷ put e es else e ∷ x ∷ es) ≡ weigh moment e (least_passed moment (x ∷ es))) [
      | true ↦
          weighed moment x (put e es) ∙ ap (weigh moment x) (weigh_put moment e es) ∙ weigh_both moment x e (least_passed moment es)
          ∙ ap (weigh moment e) (sym (weighed moment x es))
      | false ↦ weighed moment e (x ∷ es)
    ]

pub least_by_moment : (moment : ℕ) (es : List Entry) → least_passed moment (ordered es) ≡ least_passed moment es
least_by_moment moment [] = refl
least_by_moment moment (e ∷ es) =
    weigh_put moment e (ordered es) ∙ ap (weigh moment e) (least_by_moment moment es) ∙ sym (weighed moment e es)

count_put : (moment : ℕ) (e : Entry) (es : List Entry) → length (passed moment (put e es)) ≡ length (passed moment (e ∷ es))
count_put moment e [] = refl
count_put moment e (x ∷ es) =
    elim (is_before x e) as (λ p. length (passed moment (if p then x ∷ put e es else e ∷ x ∷ es)) ≡ length (passed moment (e ∷ x ∷ es))) [
      | true ↦ cases (leb x.moment moment) (leb e.moment moment) (count_put moment e es)
      | false ↦ refl
    ]
  where
    cases : (p q : Bool) → length (passed moment (put e es)) ≡ length (if q then e ∷ passed moment es else passed moment es)
        → length (if p then x ∷ passed moment (put e es) else passed moment (put e es))
        ≡ length (if q then e ∷ (if p then x ∷ passed moment es else passed moment es) else (if p then x ∷ passed moment es else passed moment es))
    cases true true h = omega (arith, h)
    cases true false h = omega (arith, h)
    cases false true h = h
    cases false false h = h

pub count_by_moment : (moment : ℕ) (es : List Entry) → length (passed moment (ordered es)) ≡ length (passed moment es)
count_by_moment moment [] = refl
count_by_moment moment (e ∷ es) = count_put moment e (ordered es) ∙ more (leb e.moment moment) (count_by_moment moment es)
  where
    more : (p : Bool) → length (passed moment (ordered es)) ≡ length (passed moment es)
        → length (if p then e ∷ passed moment (ordered es) else passed moment (ordered es)) ≡ length (if p then e ∷ passed moment es else passed moment es)
    more true h = omega (arith, h)
    more false h = h
