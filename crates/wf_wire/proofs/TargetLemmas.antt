-- The walk ends in a target exactly where the bytes do.
use Rattle.std.proofs.Common.{◌≡◌, ◌∙◌, ℕ, ◌<◌, Bool, true, false, List, [], ◌∷◌, ◌++◌, length, refl, sym, ap, subst, arith, append_assoc, IsTrue, ◌↔◌}
use Rattle.std.specs.Bool.{◌==◌}
use Rattle.std.specs.Prelude.{if◌then◌else◌}
use Rattle.std.specs.List.{AllByRecursion}
use Rattle.std.proofs.lemmas.List.Elements.{All-from_recursion, recursion_from_All}
use Rattle.std.proofs.lemmas.Bool.Decides.{nat_tests}
use Rattle.httparse.specs.Grammar.{is_token_byte, is_uri_byte, LineEnd, crlf, lf, print_blank, EndsInTarget}
use Rattle.httparse.proofs.PieceLemmas.{space_ends_token, token_is_no_newline}
use Rattle.wf_wire.specs.declared.target.Part.TheVariants.{AtStart, AfterCr, InMethod, InTarget, Elsewhere}
use Rattle.wf_wire.specs.Front.{walk}

abbrev pub Uri : List ℕ → Type 0
Uri = AllByRecursion (λ b. IsTrue (is_uri_byte b))

abbrev pub Token : List ℕ → Type 0
Token = AllByRecursion (λ b. IsTrue (is_token_byte b))

pub elsewhere : (bs : List ℕ) → walk Elsewhere bs ≡ InTarget → ⊥
elsewhere [] e = cc
elsewhere (b ∷ bs) e = elsewhere bs e

pub same : (b n : ℕ) → (b == n) ≡ true → b ≡ n
same b n h = grind (arith, nat_tests)

-- ---- from the walk

uri_step : (b : ℕ) (bs : List ℕ) (v : Bool) → is_uri_byte b ≡ v → (walk InTarget bs ≡ InTarget → Uri bs) → walk (if v then InTarget else Elsewhere) bs ≡ InTarget → Uri (b ∷ bs)
uri_step b bs true is more e = (is, more e)
uri_step b bs false is more e = absurd (elsewhere bs e)

target_found : (bs : List ℕ) → walk InTarget bs ≡ InTarget → Uri bs
target_found [] e = tt
target_found (b ∷ bs) e = uri_step b bs (is_uri_byte b) refl (target_found bs) e

abbrev IsMethod : List ℕ → Type 0
IsMethod bs = (m : List ℕ) × (t : List ℕ) × (Token m × Uri t × (bs ≡ m ++ 32 ∷ t))

method_step : (b : ℕ) (bs : List ℕ) (v w : Bool) → is_token_byte b ≡ v → (b == 32) ≡ w → (walk InMethod bs ≡ InTarget → IsMethod bs)
    → walk (if v then InMethod else (if w then InTarget else Elsewhere)) bs ≡ InTarget → IsMethod (b ∷ bs)
method_step b bs true w is sp more e = let r = more e in (b ∷ r.0, r.1, ((is, r.2.0), r.2.1, ap (λ xs. b ∷ xs) r.2.2))
method_step b bs false true is sp more e = ([], bs, (tt, target_found bs e, ap (λ x. x ∷ bs) (same b 32 sp)))
method_step b bs false false is sp more e = absurd (elsewhere bs e)

method_found : (bs : List ℕ) → walk InMethod bs ≡ InTarget → IsMethod bs
method_found [] e = cc
method_found (b ∷ bs) e = method_step b bs (is_token_byte b) (b == 32) refl refl (method_found bs) e

abbrev Ends : List ℕ → Type 0
Ends bs = (es : List LineEnd) × (m : List ℕ) × (t : List ℕ) × ((0 < length m) × Token m × Uri t × (bs ≡ print_blank es ++ (m ++ 32 ∷ t)))

after : (e : LineEnd) (bs : List ℕ) → Ends bs → Ends (print_blank (e ∷ []) ++ bs)
after crlf bs r = (crlf ∷ r.0, r.1, r.2, (r.3.0, r.3.1, r.3.2, ap (λ xs. 13 ∷ 10 ∷ xs) r.3.3))
after lf bs r = (lf ∷ r.0, r.1, r.2, (r.3.0, r.3.1, r.3.2, ap (λ xs. 10 ∷ xs) r.3.3))

cr_step : (b : ℕ) (bs : List ℕ) (v : Bool) → (b == 10) ≡ v → (walk AtStart bs ≡ InTarget → Ends bs) → walk (if v then AtStart else Elsewhere) bs ≡ InTarget → Ends (13 ∷ b ∷ bs)
cr_step b bs true is more e = subst (λ x. Ends (13 ∷ x ∷ bs)) (sym (same b 10 is)) (after crlf bs (more e))
cr_step b bs false is more e = absurd (elsewhere bs e)

start_step : (b : ℕ) (bs : List ℕ) (u v w : Bool) → (b == 13) ≡ u → (b == 10) ≡ v → is_token_byte b ≡ w → (walk AtStart bs ≡ InTarget → Ends bs) → (walk AfterCr bs ≡ InTarget → Ends (13 ∷ bs))
    → walk (if u then AfterCr else (if v then AtStart else (if w then InMethod else Elsewhere))) bs ≡ InTarget → Ends (b ∷ bs)
start_step b bs true v w cr nl is more behind e = subst (λ x. Ends (x ∷ bs)) (sym (same b 13 cr)) (behind e)
start_step b bs false true w cr nl is more behind e = subst (λ x. Ends (x ∷ bs)) (sym (same b 10 nl)) (after lf bs (more e))
start_step b bs false false true cr nl is more behind e = let r = method_found bs e in ([], b ∷ r.0, r.1, (omega arith, (is, r.2.0), r.2.1, ap (λ xs. b ∷ xs) r.2.2))
start_step b bs false false false cr nl is more behind e = absurd (elsewhere bs e)

found : (bs : List ℕ) → (walk AtStart bs ≡ InTarget → Ends bs) × (walk AfterCr bs ≡ InTarget → Ends (13 ∷ bs))
found [] = (λ e. cc, λ e. cc)
found (b ∷ bs) = let more = found bs in (
  start_step b bs (b == 13) (b == 10) (is_token_byte b) refl refl refl more.0 more.1,
  cr_step b bs (b == 10) refl more.0,
)

-- ---- to the walk

target_walks : (t : List ℕ) → Uri t → walk InTarget t ≡ InTarget
target_walks [] a = refl
target_walks (b ∷ t) a = rw a.0 (target_walks t a.1)

method_walks : (m t : List ℕ) → Token m → Uri t → walk InMethod (m ++ 32 ∷ t) ≡ InTarget
method_walks [] t a u = ap (λ v. walk (if v then InMethod else InTarget) t) space_ends_token ∙ target_walks t u
method_walks (b ∷ m) t a u = ap (λ v. walk (if v then InMethod else (if b == 32 then InTarget else Elsewhere)) (m ++ 32 ∷ t)) a.0 ∙ method_walks m t a.1 u

neither : (b : ℕ) → is_token_byte b ≡ true → ((b == 13) ≡ false) × ((b == 10) ≡ false)
neither b h = let none = token_is_no_newline b h in (grind (arith, none), grind (arith, none))

first_walks : (m t : List ℕ) → 0 < length m → Token m → Uri t → walk AtStart (m ++ 32 ∷ t) ≡ InTarget
first_walks [] t some a u = absurd (omega arith)
first_walks (b ∷ m) t some a u = let none = neither b a.0 in
    ap (λ v. walk (if v then AfterCr else (if b == 10 then AtStart else (if is_token_byte b then InMethod else Elsewhere))) (m ++ 32 ∷ t)) none.0
    ∙ ap (λ v. walk (if v then AtStart else (if is_token_byte b then InMethod else Elsewhere)) (m ++ 32 ∷ t)) none.1
    ∙ ap (λ v. walk (if v then InMethod else Elsewhere) (m ++ 32 ∷ t)) a.0 ∙ method_walks m t a.1 u

blank_walks : (es : List LineEnd) (bs : List ℕ) → walk AtStart (print_blank es ++ bs) ≡ walk AtStart bs
blank_walks [] bs = refl
blank_walks (crlf ∷ es) bs = blank_walks es bs
blank_walks (lf ∷ es) bs = blank_walks es bs

pub walk_ends : (bs : List ℕ) → (walk AtStart bs ≡ InTarget) ↔ EndsInTarget bs
walk_ends bs = (
  λ e. let r = (found bs).0 e in (r.0, r.1, r.2, (r.3.0, All-from_recursion _ _ r.3.1), All-from_recursion _ _ r.3.2, r.3.3 ∙ sym (append_assoc (print_blank r.0) r.1 (32 ∷ r.2))),
  λ h. subst (λ xs. walk AtStart xs ≡ InTarget) (sym (h.5 ∙ append_assoc (print_blank h.0) h.1 (32 ∷ h.2)))
      (blank_walks h.0 (h.1 ++ 32 ∷ h.2) ∙ first_walks h.1 h.2 h.3.0 (recursion_from_All _ _ h.3.1) (recursion_from_All _ _ h.4)),
)
