-- The part of a condition that closes its brackets begins at the last `)`.
use Rattle.std.proofs.Common.{◌≡◌, ◌∙◌, ap, refl, ℕ, zero, suc, Bool, true, false, List, [], ◌∷◌, length, drop, Option, None, Some, arith, nat_eq, codes}
use Rattle.std.specs.Prelude.{◌&&◌, ◌||◌, ◌==◌, if◌then◌else◌, option_and_then, unwrap_or}
use Rattle.std.specs.Option.{option_map_or}
use Rattle.std.specs.List.{starts_with, list_any}
use Rattle.std.proofs.lemmas.Bool.Decides.{nat_tests}
use Rattle.wf_defs.specs.Condition.{is_empty, after_blanks, after_words, after_optional, after_braces, after_else, after_rest, is_end}

abbrev is_paren : ℕ → Bool
is_paren b = b == 41

abbrev has_paren : List ℕ → Bool
has_paren t = list_any is_paren t

-- the function takes no `)` away
abbrev Keeps : (List ℕ → Option (List ℕ)) → Type 0
Keeps f = (t rest : List ℕ) → f t ≡ Some rest → has_paren t ≡ has_paren rest

some_is : (a b : List ℕ) → Some a ≡ Some b → a ≡ b
some_is a b e = cc

closed_blank : (r : List ℕ) → is_end true (32 ∷ r) ≡ is_end true r
closed_blank r = refl

closed_paren : (r : List ℕ) → is_end true (41 ∷ r) ≡ option_map_or is_empty (after_rest r) false
closed_paren r = refl

keeps_case : (g : List ℕ → Option (List ℕ)) → Keeps g → (t rest : List ℕ) (o : Option (List ℕ)) → ((r : List ℕ) → o ≡ Some r → has_paren t ≡ has_paren r) → option_and_then g o ≡ Some rest → has_paren t ≡ has_paren rest
keeps_case g kg t rest None first e = let no : ⊥ = cc in absurd no
keeps_case g kg t rest (Some r) first e = first r refl ∙ kg r rest e

keeps_then : (f g : List ℕ → Option (List ℕ)) → Keeps f → Keeps g → Keeps (λ t. option_and_then g (f t))
keeps_then f g kf kg t rest e = keeps_case g kg t rest (f t) (λ r here. kf t r here) e

both : (p q : Bool) → (p && q) ≡ true → (p ≡ true) × (q ≡ true)
both true true e = (refl, refl)
both true false e = let no : ⊥ = cc in absurd no
both false q e = let no : ⊥ = cc in absurd no

neither : (p q : Bool) → (p || q) ≡ false → (p ≡ false) × (q ≡ false)
neither false false e = (refl, refl)
neither false true e = let no : ⊥ = cc in absurd no
neither true q e = let no : ⊥ = cc in absurd no

same_byte : (x b : ℕ) → nat_eq x b ≡ true → is_paren x ≡ false → is_paren b ≡ false
same_byte x b e no_x = grind (arith, nat_tests)

begin_keeps : (w t : List ℕ) → has_paren w ≡ false → starts_with nat_eq t w ≡ true → has_paren t ≡ has_paren (drop (length w) t)
begin_keeps [] t none e = refl
begin_keeps (x ∷ w) [] none e = let no : ⊥ = cc in absurd no
begin_keeps (x ∷ w) (b ∷ bs) none e =
    let f = both (nat_eq x b) (starts_with nat_eq bs w) e in
    let g = neither (is_paren x) (has_paren w) none in
    ap (λ v. v || has_paren bs) (same_byte x b f.0 g.0) ∙ begin_keeps w bs g.1 f.1

word_case : (w t rest : List ℕ) (s : Bool) → starts_with nat_eq t w ≡ s → has_paren w ≡ false → (if s then Some (drop (length w) t) else None) ≡ Some rest → has_paren t ≡ has_paren rest
word_case w t rest true e none found = begin_keeps w t none e ∙ ap has_paren (some_is (drop (length w) t) rest found)
word_case w t rest false e none found = let no : ⊥ = cc in absurd no

blank_case : (w : List ℕ) (b : ℕ) (bs rest : List ℕ) (s v : Bool) → starts_with nat_eq (b ∷ bs) w ≡ s → (b == 32) ≡ v → has_paren w ≡ false → (after_blanks w bs ≡ Some rest → has_paren bs ≡ has_paren rest)
    → (if s then Some (drop (length w) (b ∷ bs)) else if v then after_blanks w bs else None) ≡ Some rest → has_paren (b ∷ bs) ≡ has_paren rest
blank_case w b bs rest true v e ev none more found = word_case w (b ∷ bs) rest true e none found
blank_case w b bs rest false false e ev none more found = let no : ⊥ = cc in absurd no
blank_case w b bs rest false true e ev none more found =
    let blank : is_paren b ≡ false = grind (arith, nat_tests) in
    ap (λ v. v || has_paren bs) blank ∙ more found

blanks_keep : (w : List ℕ) → has_paren w ≡ false → Keeps (after_blanks w)
blanks_keep w none [] rest found = word_case w [] rest (starts_with nat_eq [] w) refl none found
blanks_keep w none (b ∷ bs) rest found = blank_case w b bs rest (starts_with nat_eq (b ∷ bs) w) (b == 32) refl refl none (blanks_keep w none bs rest) found

optional_case : (t : List ℕ) (o : Option (List ℕ)) → ((r : List ℕ) → o ≡ Some r → has_paren t ≡ has_paren r) → has_paren t ≡ has_paren (unwrap_or o t)
optional_case t None found = refl
optional_case t (Some r) found = found r refl

optional_keeps : (w : List ℕ) → has_paren w ≡ false → (t : List ℕ) → has_paren t ≡ has_paren (after_optional w t)
optional_keeps w none t = optional_case t (after_blanks w t) (λ r e. blanks_keep w none t r e)

closes_braces : Keeps (λ rest. after_blanks (codes "}") (after_optional (codes ";") rest))
closes_braces t rest e = optional_keeps (codes ";") refl t ∙ blanks_keep (codes "}") refl (after_optional (codes ";") t) rest e

word_alone : (w : List ℕ) → has_paren w ≡ false → Keeps (after_words (w ∷ []))
word_alone w none = keeps_then (after_blanks w) Some (blanks_keep w none) (λ t rest e. ap has_paren (some_is t rest e))

opens_braces : (word : List ℕ) → has_paren word ≡ false → Keeps (after_words (codes "{" ∷ word ∷ []))
opens_braces word none = keeps_then (after_blanks (codes "{")) (after_words (word ∷ [])) (blanks_keep (codes "{") refl) (word_alone word none)

braces_keep : (word : List ℕ) → has_paren word ≡ false → Keeps (after_braces word)
braces_keep word none = keeps_then (after_words (codes "{" ∷ word ∷ [])) (λ rest. after_blanks (codes "}") (after_optional (codes ";") rest)) (opens_braces word none) closes_braces

else_keeps : Keeps after_else
else_keeps = keeps_then (after_blanks (codes "else")) (after_braces (codes "false")) (blanks_keep (codes "else") refl) (braces_keep (codes "false") refl)

rest_keeps : Keeps after_rest
rest_keeps = keeps_then (after_braces (codes "true")) after_else (braces_keep (codes "true") refl) else_keeps

some_left : (n : ℕ) → (suc n == 0) ≡ false
some_left n = grind (arith, nat_tests)

ends_case : (t : List ℕ) (o : Option (List ℕ)) → ((r : List ℕ) → o ≡ Some r → has_paren t ≡ has_paren r) → option_map_or is_empty o false ≡ true → has_paren t ≡ false
ends_case t None keeps e = let no : ⊥ = cc in absurd no
ends_case t (Some []) keeps e = keeps [] refl
ends_case t (Some (x ∷ xs)) keeps e =
    let more = some_left (length xs) in
    let no : ⊥ = cc in
    absurd no

-- behind the last `)` of a condition there is no other
pub rest_has_none : (r : List ℕ) → option_map_or is_empty (after_rest r) false ≡ true → has_paren r ≡ false
rest_has_none r e = ends_case r (after_rest r) (λ x here. rest_keeps r x here) e

open_case : (b : ℕ) (bs : List ℕ) (v : Bool) → (b == 32) ≡ v → is_paren b ≡ false → (v ≡ true → is_end true bs ≡ false) → is_end true (b ∷ bs) ≡ false
open_case b bs true e none more =
    let no_paren : nat_eq 41 b ≡ false = grind (arith, nat_tests) in
    rw (no_paren, e) (more refl)
open_case b bs false e none more =
    let no_paren : nat_eq 41 b ≡ false = grind (arith, nat_tests) in
    rw (no_paren, e) refl

-- a text without `)` closes no bracket
pub open_without : (r : List ℕ) → has_paren r ≡ false → is_end true r ≡ false
open_without [] none = refl
open_without (b ∷ bs) none =
    let g = neither (is_paren b) (has_paren bs) none in
    open_case b bs (b == 32) refl g.0 (λ _. open_without bs g.1)

pub open_later : (r : List ℕ) (p : ℕ) → has_paren r ≡ false → is_end true (drop p r) ≡ false
open_later r zero none = open_without r none
open_later [] (suc p) none = refl
open_later (b ∷ bs) (suc p) none = open_later bs p (neither (is_paren b) (has_paren bs) none).1

-- another sign closes no bracket
pub open_at : (b : ℕ) (r : List ℕ) → (b == 32) ≡ false → is_paren b ≡ false → is_end true (b ∷ r) ≡ false
open_at b r e none = open_case b r false e none (λ no. let bad : ⊥ = cc in absurd bad)
