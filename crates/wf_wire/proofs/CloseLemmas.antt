-- Texts between commas.
use Rattle.std.proofs.Common.{◌≡◌, ◌∙◌, ℕ, ◌+◌, ◌-◌, ◌<◌, ◌≤◌, Bool, true, false, List, [], ◌∷◌, ◌++◌, length, get_or, take, drop, refl, sym, ap, arith, append_assoc, append-nil, length-drop}
use Rattle.std.specs.Prelude.{if◌then◌else◌, ◌||◌, ◌==◌, slice_range}
use Rattle.std.proofs.lemmas.List.{at_drop_more, take_more, get_or-drop}
use Rattle.std.specs.List.{list_any}
use Rattle.wf_wire.specs.Closing.{is_close, holds_close, onto, parts}

-- whether a text between two commas is the token, where `text` is what stood since the last comma
abbrev pub some_close : List ℕ → List ℕ → Bool
some_close text [] = is_close text
some_close text (b ∷ bs) = if b == 44 then is_close text || some_close [] bs else some_close (text ++ b ∷ []) bs

abbrev behind : List ℕ → List (List ℕ) → List (List ℕ)
behind text [] = text ∷ []
behind text (p ∷ ps) = (text ++ p) ∷ ps

or_false : (v : Bool) → (v || false) ≡ v
or_false true = refl
or_false false = refl

behind_byte : (text : List ℕ) (b : ℕ) (ps : List (List ℕ)) → behind (text ++ b ∷ []) ps ≡ behind text (onto b ps)
behind_byte text b [] = refl
behind_byte text b (p ∷ ps) = ap (λ xs. xs ∷ ps) (append_assoc text (b ∷ []) p)

abbrev IsSome : List (List ℕ) → Type 0
IsSome [] = ⊥
IsSome (p ∷ ps) = Unit {0}

onto_some : (b : ℕ) (ps : List (List ℕ)) → IsSome (onto b ps)
onto_some b [] = tt
onto_some b (p ∷ ps) = tt

some_at : (v : Bool) (b : ℕ) (ps : List (List ℕ)) → IsSome (if v then [] ∷ ps else onto b ps)
some_at true b ps = tt
some_at false b ps = onto_some b ps

some_parts : (bs : List ℕ) → IsSome (parts bs)
some_parts [] = tt
some_parts (b ∷ bs) = some_at (b == 44) b (parts bs)

behind_none : (ps : List (List ℕ)) → IsSome ps → behind [] ps ≡ ps
behind_none [] some = absurd some
behind_none (p ∷ ps) some = refl

close_at : (v : Bool) (text : List ℕ) (b : ℕ) (bs : List ℕ) → some_close [] bs ≡ list_any is_close (behind [] (parts bs)) → some_close (text ++ b ∷ []) bs ≡ list_any is_close (behind (text ++ b ∷ []) (parts bs))
    → (if v then is_close text || some_close [] bs else some_close (text ++ b ∷ []) bs) ≡ list_any is_close (behind text (if v then [] ∷ parts bs else onto b (parts bs)))
close_at true text b bs more after = ap (λ t. is_close text || t) (more ∙ ap (list_any is_close) (behind_none (parts bs) (some_parts bs))) ∙ ap (λ xs. is_close xs || list_any is_close (parts bs)) (sym (append-nil text))
close_at false text b bs more after = after ∙ ap (list_any is_close) (behind_byte text b (parts bs))

close_behind : (text bs : List ℕ) → some_close text bs ≡ list_any is_close (behind text (parts bs))
close_behind text [] = sym (or_false (is_close text)) ∙ ap (λ xs. is_close xs || false) (sym (append-nil text))
close_behind text (b ∷ bs) = close_at (b == 44) text b bs (close_behind [] bs) (close_behind (text ++ b ∷ []) bs)

pub by_parts : (value : List ℕ) → holds_close value ≡ some_close [] value
by_parts value = ap (list_any is_close) (sym (behind_none (parts value) (some_parts value))) ∙ sym (close_behind [] value)

range_push : (xs : List ℕ) (a b : ℕ) → a ≤ b → b < length xs → slice_range xs a (b + 1) ≡ slice_range xs a b ++ get_or xs b 0 ∷ []
range_push xs a b order inside =
    let n : b + 1 - a ≡ (b - a) + 1 = omega (arith, order) in
    let more = take_more (drop a xs) (b - a) 0 (omega (arith, length-drop a xs, order, inside)) in
    ap (λ k. take k (drop a xs)) n ∙ more ∙ ap (λ x. take (b - a) (drop a xs) ++ x ∷ []) (get_or-drop a xs (b - a) 0 ∙ ap (λ k. get_or xs k 0) (let e : a + (b - a) ≡ b = omega (arith, order) in e))

range_none : (xs : List ℕ) (a : ℕ) → slice_range xs a a ≡ []
range_none xs a = ap (λ k. take k (drop a xs)) (let e : a - a ≡ 0 = omega arith in e)

here : (value : List ℕ) (start at : ℕ) (v : Bool) → at < length value → (get_or value at 0 == 44) ≡ v
    → some_close (slice_range value start at) (drop at value) ≡ (if v then is_close (slice_range value start at) || some_close [] (drop (at + 1) value) else some_close (slice_range value start at ++ get_or value at 0 ∷ []) (drop (at + 1) value))
here value start at v inside is = at_drop_more (some_close (slice_range value start at)) value at 0 inside
    ∙ ap (λ t. if t then is_close (slice_range value start at) || some_close [] (drop (at + 1) value) else some_close (slice_range value start at ++ get_or value at 0 ∷ []) (drop (at + 1) value)) is

pub after_comma : (value : List ℕ) (start at : ℕ) → at < length value → (get_or value at 0 == 44) ≡ true → is_close (slice_range value start at) ≡ false
    → some_close (slice_range value start at) (drop at value) ≡ some_close (slice_range value (at + 1) (at + 1)) (drop (at + 1) value)
after_comma value start at inside comma not_close = here value start at true inside comma ∙ ap (λ t. t || some_close [] (drop (at + 1) value)) not_close
    ∙ ap (λ xs. some_close xs (drop (at + 1) value)) (sym (range_none value (at + 1)))

pub after_byte : (value : List ℕ) (start at : ℕ) → start ≤ at → at < length value → (get_or value at 0 == 44) ≡ false
    → some_close (slice_range value start at) (drop at value) ≡ some_close (slice_range value start (at + 1)) (drop (at + 1) value)
after_byte value start at order inside other = here value start at false inside other ∙ ap (λ xs. some_close xs (drop (at + 1) value)) (sym (range_push value start at order inside))
