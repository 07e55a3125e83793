-- Where the text of a path is cut.
use Rattle.std.proofs.Common.{◌≡◌, ◌∙◌, ap, sym, refl, ℕ, suc, ◌+◌, ◌<◌, ◌≤◌, Bool, true, false, not, List, [], ◌∷◌, ◌++◌, length, take, drop, get_or, Option, Some, None, option_map, option_and_then, append_assoc, arith}
use Rattle.std.specs.Prelude.{if◌then◌else◌, slice_range}
use Rattle.std.proofs.lemmas.List.{take_all}
use Rattle.std.specs.List.{prefix_len}
use Rattle.std.specs.Str.{IsUtf8, IsCharBoundary}
use Rattle.std.proofs.lemmas.Bool.Decides.{nat_tests}
use Rattle.std.proofs.lemmas.List.Sums.{prefix_len_stops}
use Rattle.std.proofs.lemmas.Str.{IsCharBoundary-before_ascii, IsCharBoundary-after_ascii}
use Rattle.wf_doc.specs.declared.path.Step.{Step}
use Rattle.wf_doc.specs.Path.{begins_step, is_inside, pieces, pieces_after, with_byte, all_steps, step_of, path_of}

sign_is_ascii : (b : ℕ) → begins_step b ≡ true → b < 128
sign_is_ascii b e = grind (arith, nat_tests)

begins_of : (b : Bool) → not b ≡ false → b ≡ true
begins_of true e = refl
begins_of false e = cc

pub sign_at : (bs : List ℕ) (n : ℕ) → n ≡ prefix_len is_inside bs → n < length bs → get_or bs n 0 < 128
sign_at bs n is within = sign_is_ascii _ (begins_of _ (ap (λ k. is_inside (get_or bs k 0)) is ∙ prefix_len_stops is_inside bs 0 (omega (arith, is))))

pub boundary_at : (bs : List ℕ) (n : ℕ) → n ≡ prefix_len is_inside bs → n < length bs → IsCharBoundary bs n
boundary_at bs n is within = IsCharBoundary-before_ascii bs n within (sign_at bs n is within)

pub boundary_after : (bs : List ℕ) (n : ℕ) → IsUtf8 bs → n ≡ prefix_len is_inside bs → n < length bs → IsCharBoundary bs (n + 1)
boundary_after bs n utf8 is within = IsCharBoundary-after_ascii bs n utf8 within (sign_at bs n is within)

-- a text with no sign is one piece
whole_from : (sign b : ℕ) (bs : List ℕ) (t : Bool) → (prefix_len is_inside bs ≡ length bs → pieces sign bs ≡ (sign, bs) ∷ []) → (if not t then 1 + prefix_len is_inside bs else 0) ≡ suc (length bs)
    → (if t then (sign, []) ∷ pieces b bs else with_byte b (pieces sign bs)) ≡ (sign, b ∷ bs) ∷ []
whole_from sign b bs true again e = absurd (omega arith)
whole_from sign b bs false again e = ap (with_byte b) (again (omega arith))

pub pieces_whole : (sign : ℕ) (bs : List ℕ) → prefix_len is_inside bs ≡ length bs → pieces sign bs ≡ (sign, bs) ∷ []
pieces_whole sign [] e = refl
pieces_whole sign (b ∷ bs) e = whole_from sign b bs (begins_step b) (pieces_whole sign bs) e

-- else the piece up to the first sign, and the pieces from it on
abbrev CutAt : ℕ → List ℕ → List (ℕ × List ℕ) → ℕ → Type 0
CutAt sign bs ps n = ps ≡ (sign, take n bs) ∷ pieces (get_or bs n 0) (drop (n + 1) bs)

cut_from : (sign b : ℕ) (bs : List ℕ) (t : Bool) → (prefix_len is_inside bs < length bs → CutAt sign bs (pieces sign bs) (prefix_len is_inside bs)) → (if not t then 1 + prefix_len is_inside bs else 0) < suc (length bs)
    → CutAt sign (b ∷ bs) (if t then (sign, []) ∷ pieces b bs else with_byte b (pieces sign bs)) (if not t then 1 + prefix_len is_inside bs else 0)
cut_from sign b bs true again l = refl
cut_from sign b bs false again l =
    let n : ℕ = prefix_len is_inside bs in
    let one : suc n ≡ 1 + n = omega arith in
    let two : suc (n + 1) ≡ 1 + n + 1 = omega arith in
    ap (with_byte b) (again (omega arith)) ∙ (λ i. (sign, take (one i) (b ∷ bs)) ∷ pieces (get_or (b ∷ bs) (one i) 0) (drop (two i) (b ∷ bs)))

pub pieces_cut : (sign : ℕ) (bs : List ℕ) → prefix_len is_inside bs < length bs → CutAt sign bs (pieces sign bs) (prefix_len is_inside bs)
pieces_cut sign [] l = absurd (omega arith)
pieces_cut sign (b ∷ bs) l = cut_from sign b bs (begins_step b) (pieces_cut sign bs) l

-- what one piece is, as the code cuts it
pub boundary_here : (bs : List ℕ) (n : ℕ) → n ≡ prefix_len is_inside bs → n ≤ length bs → IsCharBoundary bs n
boundary_here bs n is within = (within, λ less high. absurd (omega (arith, sign_at bs n is less)))

front : (bs : List ℕ) (n : ℕ) → slice_range bs 0 n ≡ take n bs
front bs n = grind arith

pub whole_piece : (sign : ℕ) (bs piece : List ℕ) (n : ℕ) → n ≡ prefix_len is_inside bs → n ≡ length bs → piece ≡ slice_range bs 0 n → pieces sign bs ≡ (sign, piece) ∷ []
whole_piece sign bs piece n is all cut = pieces_whole sign bs (sym is ∙ all) ∙ ap (λ p. (sign, p) ∷ []) (sym (cut ∙ front bs n ∙ take_all n bs (omega (arith, all))))

pub cut_piece : (sign : ℕ) (bs bytes piece rest : List ℕ) (n : ℕ) → n ≡ prefix_len is_inside bs → n ≤ length bs → ¬ (n ≡ length bs) → piece ≡ slice_range bs 0 n → bytes ≡ bs → rest ≡ drop (n + 1) bs
    → pieces sign bs ≡ (sign, piece) ∷ pieces (get_or bytes n 0) rest
cut_piece sign bs bytes piece rest n is within some cut same after =
    let less : n < length bs = omega arith in
    pieces_cut sign bs (omega (arith, is))
    ∙ (λ i. (sign, (ap (λ k. take k bs) (sym is) ∙ sym (front bs n) ∙ sym cut) i) ∷ pieces (get_or (sym same i) (sym is i) 0) ((ap (λ k. drop (k + 1) bs) (sym is) ∙ sym after) i))

-- one step more of a path
one_more : (o : Option (List Step)) (made : List Step) (step : Step) → option_map (λ more. made ++ more) (option_map (λ steps. step ∷ steps) o) ≡ option_map (λ more. (made ++ step ∷ []) ++ more) o
one_more None made step = refl
one_more (Some steps) made step = ap Some (sym (append_assoc made (step ∷ []) steps))

pub step_more : (text rest piece : List ℕ) (sign : ℕ) (after : Option (ℕ × List ℕ)) (next_sign : ℕ) (next : List ℕ) (made new : List Step) (step : Step)
    → path_of text ≡ option_map (λ more. made ++ more) (all_steps (pieces sign rest)) → pieces sign rest ≡ (sign, piece) ∷ pieces_after after → after ≡ Some (next_sign, next)
    → Some step ≡ step_of sign piece → new ≡ made ++ step ∷ [] → path_of text ≡ option_map (λ more. new ++ more) (all_steps (pieces next_sign next))
step_more text rest piece sign after next_sign next made new step so_far cut some read pushed =
    so_far ∙ ap (λ ps. option_map (λ more. made ++ more) (all_steps ps)) (cut ∙ ap (λ o. (sign, piece) ∷ pieces_after o) some)
    ∙ ap (λ o. option_map (λ more. made ++ more) (option_and_then (λ s. option_map (λ steps. s ∷ steps) (all_steps (pieces next_sign next))) o)) (sym read)
    ∙ one_more (all_steps (pieces next_sign next)) made step ∙ ap (λ xs. option_map (λ more. xs ++ more) (all_steps (pieces next_sign next))) (sym pushed)
