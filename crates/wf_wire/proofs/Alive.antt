-- What can't become a head and ends in no target stays so, whatever follows.
use Rattle.std.proofs.Common.{◌≡◌, ◌∙◌, ℕ, ◌<◌, Bool, true, false, List, [], ◌∷◌, ◌++◌, length, refl, sym, ap, subst, arith, append_assoc, append-nil, IsTrue}
use Rattle.std.specs.Bool.{◌==◌}
use Rattle.std.specs.Prelude.{if◌then◌else◌}
use Rattle.std.proofs.lemmas.List.Elements.{All-from_recursion}
use Rattle.httparse.specs.Grammar.{is_token_byte, is_uri_byte, LineEnd, crlf, lf, print_blank, print_version, EndsInTarget, RequestHead, print_request, IsRequestHead, IsField, HasNoRequest, NeverHasRequest}
use lib.Utf8.{encode}
use Rattle.wf_wire.specs.declared.target.Part.{Part}
use Rattle.wf_wire.specs.declared.target.Part.TheVariants.{AtStart, AfterCr, InMethod, InTarget, Elsewhere}
use Rattle.wf_wire.specs.Front.{step, walk, IsBad}
use Rattle.wf_wire.proofs.TargetLemmas.{Token, elsewhere, same, walk_ends}

walk-append : (p : Part) (xs ys : List ℕ) → walk p (xs ++ ys) ≡ walk (walk p xs) ys
walk-append p [] ys = refl
walk-append p (x ∷ xs) ys = walk-append (step p x) xs ys

stays_elsewhere : (bs : List ℕ) → walk Elsewhere bs ≡ Elsewhere
stays_elsewhere [] = refl
stays_elsewhere (b ∷ bs) = stays_elsewhere bs

-- ---- what the bytes are where the walk stands

abbrev Shape : Part → List ℕ → Type 0
Shape AtStart bs = (es : List LineEnd) × (bs ≡ print_blank es)
Shape AfterCr bs = (es : List LineEnd) × (bs ≡ print_blank es ++ 13 ∷ [])
Shape InMethod bs = (es : List LineEnd) × (m : List ℕ) × ((0 < length m) × Token m × (bs ≡ print_blank es ++ m))
Shape InTarget bs = Unit {0}
Shape Elsewhere bs = Unit {0}

behind : (e : LineEnd) (p : Part) (bs : List ℕ) → Shape p bs → Shape p (print_blank (e ∷ []) ++ bs)
behind crlf AtStart bs s = (crlf ∷ s.0, ap (λ xs. 13 ∷ 10 ∷ xs) s.1)
behind lf AtStart bs s = (lf ∷ s.0, ap (λ xs. 10 ∷ xs) s.1)
behind crlf AfterCr bs s = (crlf ∷ s.0, ap (λ xs. 13 ∷ 10 ∷ xs) s.1)
behind lf AfterCr bs s = (lf ∷ s.0, ap (λ xs. 10 ∷ xs) s.1)
behind crlf InMethod bs s = (crlf ∷ s.0, s.1, (s.2.0, s.2.1, ap (λ xs. 13 ∷ 10 ∷ xs) s.2.2))
behind lf InMethod bs s = (lf ∷ s.0, s.1, (s.2.0, s.2.1, ap (λ xs. 10 ∷ xs) s.2.2))
behind e InTarget bs s = tt
behind e Elsewhere bs s = tt

gone : (bs cs : List ℕ) → Shape (walk Elsewhere bs) cs
gone bs cs = subst (λ p. Shape p cs) (sym (stays_elsewhere bs)) tt

-- the same inside a method
abbrev Within : Part → List ℕ → Type 0
Within AtStart bs = ⊥
Within AfterCr bs = ⊥
Within InMethod bs = Token bs
Within InTarget bs = Unit {0}
Within Elsewhere bs = Unit {0}

gone_within : (bs cs : List ℕ) → Within (walk Elsewhere bs) cs
gone_within bs cs = subst (λ p. Within p cs) (sym (stays_elsewhere bs)) tt

uri_within : (v : Bool) (bs cs : List ℕ) → Within (walk InTarget bs) cs → Within (walk (if v then InTarget else Elsewhere) bs) cs
uri_within true bs cs s = s
uri_within false bs cs s = gone_within bs cs

target_within : (bs cs : List ℕ) → Within (walk InTarget bs) cs
target_within [] cs = tt
target_within (b ∷ bs) cs = uri_within (is_uri_byte b) bs cs (target_within bs cs)

one_more : (p : Part) (b : ℕ) (bs : List ℕ) → is_token_byte b ≡ true → Within p bs → Within p (b ∷ bs)
one_more AtStart b bs is s = s
one_more AfterCr b bs is s = s
one_more InMethod b bs is s = (is, s)
one_more InTarget b bs is s = tt
one_more Elsewhere b bs is s = tt

method_at : (v w : Bool) (b : ℕ) (bs : List ℕ) → is_token_byte b ≡ v → Within (walk InMethod bs) bs → Within (walk (if v then InMethod else (if w then InTarget else Elsewhere)) bs) (b ∷ bs)
method_at true w b bs is s = one_more (walk InMethod bs) b bs is s
method_at false true b bs is s = target_within bs (b ∷ bs)
method_at false false b bs is s = gone_within bs (b ∷ bs)

method_within : (bs : List ℕ) → Within (walk InMethod bs) bs
method_within [] = tt
method_within (b ∷ bs) = method_at (is_token_byte b) (b == 32) b bs refl (method_within bs)

from_within : (p : Part) (b : ℕ) (bs : List ℕ) → is_token_byte b ≡ true → Within p bs → Shape p (b ∷ bs)
from_within AtStart b bs is s = absurd s
from_within AfterCr b bs is s = absurd s
from_within InMethod b bs is s = ([], b ∷ bs, (omega arith, (is, s), refl))
from_within InTarget b bs is s = tt
from_within Elsewhere b bs is s = tt

start_at : (u v w : Bool) (b : ℕ) (bs : List ℕ) → (b == 13) ≡ u → (b == 10) ≡ v → is_token_byte b ≡ w → Shape (walk AtStart bs) bs → Shape (walk AfterCr bs) (13 ∷ bs)
    → Shape (walk (if u then AfterCr else (if v then AtStart else (if w then InMethod else Elsewhere))) bs) (b ∷ bs)
start_at true v w b bs cr nl is more after = subst (λ x. Shape (walk AfterCr bs) (x ∷ bs)) (sym (same b 13 cr)) after
start_at false true w b bs cr nl is more after = subst (λ x. Shape (walk AtStart bs) (x ∷ bs)) (sym (same b 10 nl)) (behind lf (walk AtStart bs) bs more)
start_at false false true b bs cr nl is more after = from_within (walk InMethod bs) b bs is (method_within bs)
start_at false false false b bs cr nl is more after = gone bs (b ∷ bs)

cr_at : (v : Bool) (b : ℕ) (bs : List ℕ) → (b == 10) ≡ v → Shape (walk AtStart bs) bs → Shape (walk (if v then AtStart else Elsewhere) bs) (13 ∷ b ∷ bs)
cr_at true b bs nl more = subst (λ x. Shape (walk AtStart bs) (13 ∷ x ∷ bs)) (sym (same b 10 nl)) (behind crlf (walk AtStart bs) bs more)
cr_at false b bs nl more = gone bs (13 ∷ b ∷ bs)

shapes : (bs : List ℕ) → Shape (walk AtStart bs) bs × Shape (walk AfterCr bs) (13 ∷ bs)
shapes [] = (([], refl), ([], refl))
shapes (b ∷ bs) = let more = shapes bs in (
  start_at (b == 13) (b == 10) (is_token_byte b) b bs refl refl refl more.0 more.1,
  cr_at (b == 10) b bs refl more.0,
)

-- ---- such bytes have a continuation that is a head

abbrev short_head : List LineEnd → List ℕ → RequestHead
short_head es m = record { blank = es; method = m; target = 47 ∷ []; minor = 1; line_end = lf; fields = []; last = lf }

valid : (es : List LineEnd) (m : List ℕ) → 0 < length m → Token m → IsRequestHead (short_head es m)
unfolding encode
valid es m some t = record {
  method = (some, All-from_recursion _ m t);
  target = (omega arith, All-from_recursion (λ b. IsTrue (is_uri_byte b)) (47 ∷ []) (refl, tt));
  target_text = (47 ∷ [], (refl, refl));
  minor = omega arith;
  fields = All-from_recursion IsField [] tt;
}

abbrev tail : List ℕ
tail = 32 ∷ 47 ∷ 32 ∷ (print_version 1 ++ (10 ∷ 10 ∷ []))

printed : (es : List LineEnd) (m : List ℕ) → (print_blank es ++ m) ++ tail ≡ print_request (short_head es m) ++ []
unfolding print_request
printed es m = simp (append_assoc, append-nil)

pub never_more : (p q : List ℕ) → NeverHasRequest p → NeverHasRequest (p ++ q)
never_more p q never more = subst HasNoRequest (sym (append_assoc p q more)) (never (q ++ more))

in_method : (es : List LineEnd) (m bs : List ℕ) → 0 < length m → Token m → bs ≡ print_blank es ++ m → NeverHasRequest bs → ⊥
in_method es m bs some t is never = never tail (short_head es m) [] (valid es m some t, ap (λ xs. xs ++ tail) is ∙ printed es m)

letter : Token (65 ∷ [])
unfolding is_token_byte
letter = (refl, tt)

blank_push : (es : List LineEnd) → print_blank (es ++ crlf ∷ []) ≡ print_blank es ++ 13 ∷ 10 ∷ []
blank_push [] = refl
blank_push (crlf ∷ es) = ap (λ xs. 13 ∷ 10 ∷ xs) (blank_push es)
blank_push (lf ∷ es) = ap (λ xs. 10 ∷ xs) (blank_push es)

by_part : (bs : List ℕ) (p : Part) → walk AtStart bs ≡ p → Shape p bs → NeverHasRequest bs → ¬ (EndsInTarget bs) → p ≡ Elsewhere
by_part bs AtStart e s never not = absurd (in_method s.0 (65 ∷ []) (bs ++ 65 ∷ []) (omega arith) letter (ap (λ xs. xs ++ 65 ∷ []) s.1) (never_more bs (65 ∷ []) never))
by_part bs AfterCr e s never not = absurd (in_method (s.0 ++ crlf ∷ []) (65 ∷ []) (bs ++ 10 ∷ 65 ∷ []) (omega arith) letter
    (ap (λ xs. xs ++ 10 ∷ 65 ∷ []) s.1 ∙ append_assoc (print_blank s.0) (13 ∷ []) (10 ∷ 65 ∷ []) ∙ sym (append_assoc (print_blank s.0) (13 ∷ 10 ∷ []) (65 ∷ [])) ∙ ap (λ xs. xs ++ 65 ∷ []) (sym (blank_push s.0)))
    (never_more bs (10 ∷ 65 ∷ []) never))
by_part bs InMethod e s never not = absurd (in_method s.0 s.1 bs s.2.0 s.2.1 s.2.2 never)
by_part bs InTarget e s never not = absurd (not ((walk_ends bs).0 e))
by_part bs Elsewhere e s never not = refl

pub dead : (bs : List ℕ) → IsBad bs → walk AtStart bs ≡ Elsewhere
dead bs bad = by_part bs (walk AtStart bs) refl (shapes bs).0 bad.0 bad.1

-- bad bytes stay bad
pub bad_more : (p q : List ℕ) → IsBad p → IsBad (p ++ q)
bad_more p q bad = (never_more p q bad.0, λ t. elsewhere q (sym (walk-append AtStart p q ∙ ap (λ s. walk s q) (dead p bad)) ∙ (walk_ends (p ++ q)).1 t))
