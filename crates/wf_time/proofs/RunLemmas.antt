-- The first run of a text is as long as its bytes are alike.
use Rattle.std.proofs.Common.{◌≡◌, ◌∙◌, ℕ, suc, ◌+◌, ◌<◌, true, false, cond, if◌then◌else◌, Bool, List, [], ◌∷◌, length, take, drop, get_or, ◌-◌, slice_index, filter, refl, sym, ap, arith}
use Rattle.std.proofs.lemmas.List.{take_all}
use Rattle.std.specs.Prelude.{◌&&◌, not}
use Rattle.std.specs.Char.{is_ascii_digit}
use Rattle.std.specs.List.{prefix_len}
use Rattle.wf_time.specs.Durations.{same_answer, is_space, are_alike, run_on, runs, is_word, words}

same_as : (p q r : Bool) → same_answer p q ≡ true → same_answer p r ≡ same_answer q r
same_as true true r h = refl
same_as true false r h = cc
same_as false true r h = cc
same_as false false r h = refl

both : (p q : Bool) → (p && q) ≡ true → (p ≡ true) × (q ≡ true)
both true q h = (refl, h)
both false q h = cc

alike_as : (a b c : ℕ) → are_alike a b ≡ true → are_alike a c ≡ are_alike b c
alike_as a b c h =
    let p = both (same_answer (is_ascii_digit a) (is_ascii_digit b)) (same_answer (is_space a) (is_space b)) h in
    ap (λ q. q && same_answer (is_space a) (is_space c)) (same_as (is_ascii_digit a) (is_ascii_digit b) (is_ascii_digit c) p.0)
    ∙ ap (λ q. same_answer (is_ascii_digit b) (is_ascii_digit c) && q) (same_as (is_space a) (is_space b) (is_space c) p.1)

prefix_as : (a b : ℕ) → are_alike a b ≡ true → (xs : List ℕ) → prefix_len (are_alike a) xs ≡ prefix_len (are_alike b) xs
prefix_as a b h [] = refl
prefix_as a b h (x ∷ xs) =
    ap (λ n. cond (are_alike a x) (1 + n) 0) (prefix_as a b h xs) ∙ ap (λ q. cond q (1 + prefix_len (are_alike b) xs) 0) (alike_as a b x h)

-- the first run of a text that begins with this byte
pub first_run : (b : ℕ) (bs : List ℕ) → runs (b ∷ bs) ≡ (b ∷ take (prefix_len (are_alike b) bs) bs) ∷ runs (drop (prefix_len (are_alike b) bs) bs)
first_run b [] = refl
first_run b (c ∷ cs) =
    ap (run_on b) (first_run c cs)
    ∙ elim (are_alike b c) as (λ q. are_alike b c ≡ q
    → (if q then (b ∷ c ∷ take (prefix_len (are_alike c) cs) cs) ∷ runs (drop (prefix_len (are_alike c) cs) cs)
    else (b ∷ []) ∷ (c ∷ take (prefix_len (are_alike c) cs) cs) ∷ runs (drop (prefix_len (are_alike c) cs) cs))
    ≡ (b ∷ take (cond q (1 + prefix_len (are_alike b) cs) 0) (c ∷ cs)) ∷ runs (drop (cond q (1 + prefix_len (are_alike b) cs) 0) (c ∷ cs))) [
      | true ↦ λ h. let one : 1 + prefix_len (are_alike b) cs ≡ suc (prefix_len (are_alike c) cs) = omega (arith, prefix_as b c h cs) in rw one refl
      | false ↦ λ h. ap (λ rs. (b ∷ []) ∷ rs) (sym (first_run c cs))
    ] refl

pub run_at : (n : ℕ) (text : List ℕ) → 0 < length text → n ≡ prefix_len (are_alike (get_or text 0 0)) (take (length text - 1) (drop 1 text)) → runs text ≡ take (1 + n) text ∷ runs (drop (1 + n) text)
run_at n [] some is = absurd (omega arith)
run_at n (b ∷ bs) some is =
    let all : take (length (b ∷ bs) - 1) bs ≡ bs = take_all (length (b ∷ bs) - 1) bs (omega arith) in
    let more : 1 + n ≡ suc (prefix_len (are_alike b) bs) = omega (arith, is ∙ ap (prefix_len (are_alike b)) all) in
    rw more (first_run b bs)

pub space_skipped : (run : List ℕ) (text rest : List ℕ) → runs text ≡ run ∷ runs rest → is_space (slice_index run 0) ≡ true → words text ≡ words rest
space_skipped run text rest is space = ap (filter is_word) is ∙ ap (λ q. cond (not q) (run ∷ words rest) (words rest)) space

pub word_found : (run : List ℕ) (text rest : List ℕ) → runs text ≡ run ∷ runs rest → is_space (slice_index run 0) ≡ false → words text ≡ run ∷ words rest
word_found run text rest is space = ap (filter is_word) is ∙ ap (λ q. cond (not q) (run ∷ words rest) (words rest)) space
