-- Words behind blanks: the place where a key is looked for.
use Rattle.std.proofs.Common.{◌≡◌, ◌∙◌, ap, sym, refl, ℕ, zero, suc, ◌+◌, ◌-◌, ◌<◌, ◌≤◌, Bool, true, false, List, [], ◌∷◌, length, drop, None, arith, nat_eq}
use Rattle.std.specs.Prelude.{nat_le, ◌&&◌, ◌||◌, ◌==◌}
use Rattle.std.specs.List.{starts_with}
use Rattle.std.specs.Cmp.Lexicographic.{unequal}
use Rattle.std.proofs.lemmas.Bool.Decides.{nat_tests}
use Rattle.wf_machine.specs.Text.{same_text}
use Rattle.wf_defs.specs.Condition.{after_word, after_blanks, is_blank, blank_count, stands_last}

count_blank : (b : ℕ) (bs : List ℕ) → is_blank b ≡ true → blank_count (b ∷ bs) ≡ suc (blank_count bs)
count_blank b bs e =
    let next : 1 + blank_count bs ≡ suc (blank_count bs) = omega arith in
    rw (e, next) refl

count_other : (b : ℕ) (bs : List ℕ) → is_blank b ≡ false → blank_count (b ∷ bs) ≡ 0
count_other b bs e = rw e refl

-- ---- the end of the text

neither : (here blank later : Bool) → here ≡ false → later ≡ false → (here || (blank && later)) ≡ false
neither false true later e f = f
neither false false later e f = refl
neither true blank later e f = e

some_left : (n : ℕ) → (suc n == 0) ≡ false
some_left n = grind (arith, nat_tests)

-- no text ends in a longer key
pub too_long : (k t : List ℕ) → length t < length k → stands_last k t ≡ false
too_long [] t long = absurd (omega (arith, long))
too_long (x ∷ k) [] long = some_left (length k)
too_long (x ∷ k) (b ∷ bs) long =
    neither (same_text (b ∷ bs) (x ∷ k)) (b == 32) (stands_last (x ∷ k) bs)
    (unequal nat_eq (b ∷ bs) (x ∷ k) (λ e. omega (arith, long, e)))
    (too_long (x ∷ k) bs (omega (arith, long)))

here_alone : (here blank later : Bool) → later ≡ false → (here || (blank && later)) ≡ here
here_alone true blank later f = refl
here_alone false true later f = f
here_alone false false later f = refl

later_alone : (here blank later : Bool) → here ≡ false → (here || (blank && later)) ≡ (blank && later)
later_alone false blank later e = refl
later_alone true blank later e = let no : ⊥ = cc in absurd no

below_more : (m n : ℕ) → nat_le (suc m) (suc n) ≡ nat_le m n
below_more m n = grind (arith, nat_tests)

zero_least : (n : ℕ) → nat_le 0 n ≡ true
zero_least n = grind (arith, nat_tests)

not_below : (m : ℕ) → nat_le (suc m) 0 ≡ false
not_below m = grind (arith, nat_tests)

behind_blank : (b : ℕ) (bs k : List ℕ) (m : ℕ) (v : Bool) → is_blank b ≡ v → (v && (nat_le m (blank_count bs) && same_text (drop m bs) k)) ≡ (nat_le (suc m) (blank_count (b ∷ bs)) && same_text (drop (suc m) (b ∷ bs)) k)
behind_blank b bs k m true e = rw (count_blank b bs e, below_more m (blank_count bs)) refl
behind_blank b bs k m false e = rw (count_other b bs e, not_below m) refl

-- the key is the text behind the first n bytes, and these are blanks
pub stands_behind : (k t : List ℕ) (n : ℕ) → n + length k ≡ length t → stands_last k t ≡ (nat_le n (blank_count t) && same_text (drop n t) k)
stands_behind [] [] n long = let none : n ≡ 0 = omega (arith, long) in rw none refl
stands_behind (x ∷ k) [] n long = absurd (omega (arith, long))
stands_behind k (b ∷ bs) zero long =
    here_alone (same_text (b ∷ bs) k) (b == 32) (stands_last k bs) (too_long k bs (omega (arith, long)))
    ∙ ap (λ v. v && same_text (b ∷ bs) k) (sym (zero_least (blank_count (b ∷ bs))))
stands_behind k (b ∷ bs) (suc m) long =
    later_alone (same_text (b ∷ bs) k) (b == 32) (stands_last k bs) (unequal nat_eq (b ∷ bs) k (λ e. omega (arith, long, e)))
    ∙ ap (λ l. (b == 32) && l) (stands_behind k bs m (omega (arith, long)))
    ∙ behind_blank b bs k m (is_blank b) refl

-- the text ends in the key where nothing but blanks is before it
pub stands_here : (k t : List ℕ) (blanks : ℕ) → blanks ≡ blank_count t → length k ≤ length t → length t - length k ≤ blanks → same_text (drop (length t - length k) t) k ≡ stands_last k t
stands_here k t blanks count long few =
    let low : nat_le (length t - length k) (blank_count t) ≡ true = grind (arith, nat_tests) in
    sym (stands_behind k t (length t - length k) (omega (arith, long)) ∙ ap (λ v. v && same_text (drop (length t - length k) t) k) low)

pub stands_nowhere : (k t : List ℕ) (blanks : ℕ) → blanks ≡ blank_count t → length k ≤ length t → blanks < length t - length k → stands_last k t ≡ false
stands_nowhere k t blanks count long many =
    let high : nat_le (length t - length k) (blank_count t) ≡ false = grind (arith, nat_tests) in
    stands_behind k t (length t - length k) (omega (arith, long)) ∙ ap (λ v. v && same_text (drop (length t - length k) t) k) high

-- ---- a word of blanks

both : (p q : Bool) → (p && q) ≡ true → (p ≡ true) × (q ≡ true)
both true true e = (refl, refl)
both true false e = let no : ⊥ = cc in absurd no
both false q e = let no : ⊥ = cc in absurd no

same_blank : (x b : ℕ) → is_blank x ≡ true → nat_eq x b ≡ is_blank b
same_blank x b e = grind (arith, nat_tests)

blank_next_case : (x : ℕ) (k : List ℕ) (v : Bool) → is_blank x ≡ v → blank_count (x ∷ k) ≡ suc (length k) → (is_blank x ≡ true) × (blank_count k ≡ length k)
blank_next_case x k true e all =
    let more = count_blank x k e in
    (e, omega (arith, more, all))
blank_next_case x k false e all =
    let none = count_other x k e in
    absurd (omega (arith, none, all))

blank_next : (x : ℕ) (k : List ℕ) → blank_count (x ∷ k) ≡ suc (length k) → (is_blank x ≡ true) × (blank_count k ≡ length k)
blank_next x k all = blank_next_case x k (is_blank x) refl all

begin_case : (x : ℕ) (k : List ℕ) (b : ℕ) (bs : List ℕ) (v : Bool) → is_blank b ≡ v → is_blank x ≡ true → starts_with nat_eq bs k ≡ nat_le (length k) (blank_count bs)
    → starts_with nat_eq (b ∷ bs) (x ∷ k) ≡ nat_le (suc (length k)) (blank_count (b ∷ bs))
begin_case x k b bs true e ex more =
    ap (λ v. v && starts_with nat_eq bs k) (same_blank x b ex ∙ e)
    ∙ more
    ∙ sym (below_more (length k) (blank_count bs))
    ∙ sym (ap (nat_le (suc (length k))) (count_blank b bs e))
begin_case x k b bs false e ex more =
    ap (λ v. v && starts_with nat_eq bs k) (same_blank x b ex ∙ e)
    ∙ sym (not_below (length k))
    ∙ sym (ap (nat_le (suc (length k))) (count_other b bs e))

-- a text begins with blanks where it has as many
pub blanks_begin : (k t : List ℕ) → blank_count k ≡ length k → starts_with nat_eq t k ≡ nat_le (length k) (blank_count t)
blanks_begin [] t all = grind (arith, nat_tests)
blanks_begin (x ∷ k) [] all = sym (not_below (length k))
blanks_begin (x ∷ k) (b ∷ bs) all =
    let f = blank_next x k all in
    begin_case x k b bs (is_blank b) refl f.0 (blanks_begin k bs f.1)

no_word : (k t : List ℕ) → starts_with nat_eq t k ≡ false → after_word k t ≡ None
no_word k t e = rw e refl

fewer : (a m : ℕ) → nat_le a (suc m) ≡ false → nat_le a m ≡ false
fewer a m e = grind (arith, nat_tests)

blank_word_case : (k : List ℕ) (b : ℕ) (bs : List ℕ) (s v : Bool) → starts_with nat_eq (b ∷ bs) k ≡ s → is_blank b ≡ v → blank_count k ≡ length k → after_blanks k bs ≡ after_word k bs → after_blanks k (b ∷ bs) ≡ after_word k (b ∷ bs)
blank_word_case k b bs true v e ev all more = rw e refl
blank_word_case k b bs false false e ev all more = rw (e, ev) refl
blank_word_case k b bs false true e ev all more =
    let few : nat_le (length k) (suc (blank_count bs)) ≡ false = ap (nat_le (length k)) (sym (count_blank b bs ev)) ∙ sym (blanks_begin k (b ∷ bs) all) ∙ e in
    let none = more ∙ no_word k bs (blanks_begin k bs all ∙ fewer (length k) (blank_count bs) few) in
    rw (e, ev) none

-- a word of blanks stands at the front or nowhere
pub blank_word : (k t : List ℕ) → blank_count k ≡ length k → after_blanks k t ≡ after_word k t
blank_word k [] all = refl
blank_word k (b ∷ bs) all = blank_word_case k b bs (starts_with nat_eq (b ∷ bs) k) (is_blank b) refl refl all (blank_word k bs all)

-- ---- other words

begins_case : (x : ℕ) (k : List ℕ) (b : ℕ) (bs : List ℕ) (v : Bool) → is_blank x ≡ v → nat_eq x b ≡ true → blank_count (x ∷ k) < suc (length k) → (blank_count k < length k → blank_count bs ≡ blank_count k) → blank_count (b ∷ bs) ≡ blank_count (x ∷ k)
begins_case x k b bs true e same some more =
    let c = count_blank x k e in
    count_blank b bs (sym (same_blank x b e) ∙ same) ∙ ap suc (more (omega (arith, c, some))) ∙ sym c
begins_case x k b bs false e same some more =
    let other : is_blank b ≡ false = grind (arith, nat_tests) in
    count_other b bs other ∙ sym (count_other x k e)

-- a text that begins with a word has its blanks
pub begins : (k t : List ℕ) → blank_count k < length k → starts_with nat_eq t k ≡ true → blank_count t ≡ blank_count k
begins [] t some e = absurd (omega (arith, some))
begins (x ∷ k) [] some e = let no : ⊥ = cc in absurd no
begins (x ∷ k) (b ∷ bs) some e =
    let f = both (nat_eq x b) (starts_with nat_eq bs k) e in
    begins_case x k b bs (is_blank x) refl f.0 some (λ less. begins k bs less f.1)

missing_case : (k : List ℕ) (b : ℕ) (bs : List ℕ) (s v : Bool) → starts_with nat_eq (b ∷ bs) k ≡ s → is_blank b ≡ v → blank_count k < length k → blank_count (b ∷ bs) < blank_count k → (blank_count bs < blank_count k → after_blanks k bs ≡ None) → after_blanks k (b ∷ bs) ≡ None
missing_case k b bs true v e ev some few more =
    let same = begins k (b ∷ bs) some e in
    absurd (omega (arith, same, few))
missing_case k b bs false false e ev some few more = rw (e, ev) refl
missing_case k b bs false true e ev some few more =
    let c = count_blank b bs ev in
    rw (e, ev) (more (omega (arith, c, few)))

-- where there are fewer blanks than the word begins with, it isn't there
pub word_missing : (k t : List ℕ) → blank_count k < length k → blank_count t < blank_count k → after_blanks k t ≡ None
word_missing [] t some few = absurd (omega (arith, some))
word_missing (x ∷ k) [] some few = refl
word_missing k (b ∷ bs) some few = missing_case k b bs (starts_with nat_eq (b ∷ bs) k) (is_blank b) refl refl some few (word_missing k bs some)

at_case : (k : List ℕ) (b : ℕ) (bs : List ℕ) (s v : Bool) → starts_with nat_eq (b ∷ bs) k ≡ s → is_blank b ≡ v → blank_count k < length k → blank_count k ≡ blank_count (b ∷ bs) → after_blanks k (b ∷ bs) ≡ after_word k (b ∷ bs)
at_case k b bs true v e ev some same = rw e refl
at_case k b bs false false e ev some same = rw (e, ev) refl
at_case k b bs false true e ev some same =
    let c = count_blank b bs ev in
    rw (e, ev) (word_missing k bs some (omega (arith, c, same)))

behind_case : (k : List ℕ) (b : ℕ) (bs : List ℕ) (m : ℕ) (s v : Bool) → starts_with nat_eq (b ∷ bs) k ≡ s → is_blank b ≡ v → blank_count k < length k → suc m + blank_count k ≡ blank_count (b ∷ bs) → (m + blank_count k ≡ blank_count bs → after_blanks k bs ≡ after_word k (drop m bs)) → after_blanks k (b ∷ bs) ≡ after_word k (drop m bs)
behind_case k b bs m true v e ev some same more =
    let own = begins k (b ∷ bs) some e in
    absurd (omega (arith, own, same))
behind_case k b bs m false false e ev some same more =
    let none = count_other b bs ev in
    absurd (omega (arith, none, same))
behind_case k b bs m false true e ev some same more =
    let c = count_blank b bs ev in
    rw (e, ev) (more (omega (arith, c, same)))

-- the blanks that a word begins with are the last of those before it
pub word_behind : (k t : List ℕ) (n : ℕ) → blank_count k < length k → n + blank_count k ≡ blank_count t → after_blanks k t ≡ after_word k (drop n t)
word_behind k [] n some same = let none : n ≡ 0 = omega (arith, same) in rw none refl
word_behind k (b ∷ bs) zero some same = at_case k b bs (starts_with nat_eq (b ∷ bs) k) (is_blank b) refl refl some (omega (arith, same))
word_behind k (b ∷ bs) (suc m) some same = behind_case k b bs m (starts_with nat_eq (b ∷ bs) k) (is_blank b) refl refl some same (word_behind k bs m some)
