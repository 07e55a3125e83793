-- The parts of a text.
use Rattle.std.proofs.Common.{◌≡◌, ◌≢◌, ◌∙◌, ap, sym, refl, ℕ, zero, suc, ◌+◌, ◌<◌, Bool, true, false, true≢false, not, List, [], ◌∷◌, ◌++◌, length, take, drop, get_or, map, append_assoc, arith}
use Rattle.std.specs.Prelude.{if◌then◌else◌, ◌&&◌, ◌||◌, ◌==◌}
use Rattle.std.specs.List.{flat_map, list_all, list_any}
use Rattle.std.proofs.lemmas.Bool.{eqb-true}
use Rattle.std.proofs.lemmas.List.{take-append-drop}
use Rattle.std.specs.Prelude.{None}
use Rattle.std.specs.Str.Pattern.{FindsText, LacksTextAt, SplitsAroundMatch}
use denote.Ref.{Bor}
use Rattle.wf_expr.specs.Parts.{Part, byte, expression, is_closing, opens, before_closing, enclosed, parts_behind, parts, part_bytes, ends_at_once, only_expression}

-- ---- tests

not_true : (t : Bool) → (t ≡ true → ⊥) → t ≡ false
not_true true never = absurd (never refl)
not_true false never = refl

both_left : (t u : Bool) → (t && u) ≡ true → t ≡ true
both_left true u e = refl
both_left false u e = e

both_right : (t u : Bool) → (t && u) ≡ true → u ≡ true
both_right true u e = e
both_right false u e = absurd (true≢false (sym e))

not_both : (t u : Bool) → u ≡ false → (t && u) ≡ false
not_both true u e = e
not_both false u e = refl

either : (t u : Bool) → u ≡ true → (t || u) ≡ true
either true u e = refl
either false u e = e

neither_left : (t u : Bool) → (t || u) ≡ false → t ≡ false
neither_left true u e = e
neither_left false u e = refl

neither_right : (t u : Bool) → (t || u) ≡ false → u ≡ false
neither_right true u e = absurd (true≢false e)
neither_right false u e = e

-- ---- a closing brace

abbrev pub HasNone : List ℕ → Type 0
HasNone bs = list_any is_closing bs ≡ false

pub none_here : (bs : List ℕ) → ((i : ℕ) → i < length bs → get_or bs i 0 ≢ 125) → HasNone bs
none_here [] never = refl
none_here (b ∷ bs) never =
    ap (λ t. t || list_any is_closing bs) (not_true (is_closing b) (λ e. never 0 (omega arith) (eqb-true b 125 e)))
    ∙ none_here bs (λ i l. never (suc i) (omega arith))

none_later : (n : ℕ) (bs : List ℕ) → HasNone bs → HasNone (drop n bs)
none_later zero bs never = never
none_later (suc n) [] never = refl
none_later (suc n) (b ∷ bs) never = none_later n bs (neither_right (is_closing b) (list_any is_closing bs) never)

closed : (e rest : List ℕ) → list_any is_closing (e ++ 125 ∷ rest) ≡ true
closed [] rest = refl
closed (b ∷ bs) rest = either (is_closing b) _ (closed bs rest)

before_from : (b : ℕ) (bs rest : List ℕ) (t : Bool) → t ≡ false → before_closing (bs ++ 125 ∷ rest) ≡ bs → (if t then [] else b ∷ before_closing (bs ++ 125 ∷ rest)) ≡ b ∷ bs
before_from b bs rest t never again = ap (λ v. if v then [] else b ∷ before_closing (bs ++ 125 ∷ rest)) never ∙ ap (λ xs. b ∷ xs) again

before_is : (e rest : List ℕ) → HasNone e → before_closing (e ++ 125 ∷ rest) ≡ e
before_is [] rest never = refl
before_is (b ∷ bs) rest never =
    before_from b bs rest (is_closing b) (neither_left (is_closing b) (list_any is_closing bs) never) (before_is bs rest (neither_right (is_closing b) (list_any is_closing bs) never))

-- what is put before a closing brace holds none
before_holds_none_from : (b : ℕ) (bs : List ℕ) (t : Bool) → is_closing b ≡ t → HasNone (before_closing bs) → HasNone (if t then [] else b ∷ before_closing bs)
before_holds_none_from b bs true is again = refl
before_holds_none_from b bs false is again = ap (λ v. v || list_any is_closing (before_closing bs)) is ∙ again

before_holds_none : (bs : List ℕ) → HasNone (before_closing bs)
before_holds_none [] = refl
before_holds_none (b ∷ bs) = before_holds_none_from b bs (is_closing b) refl (before_holds_none bs)

-- a list with a closing brace is what stands before the first one, it, and what follows
abbrev SplitsAtClosing : List ℕ → List ℕ → Type 0
SplitsAtClosing bs front = bs ≡ front ++ 125 ∷ drop (length front + 1) bs

splits_from : (b : ℕ) (bs : List ℕ) (t : Bool) → is_closing b ≡ t → (t || list_any is_closing bs) ≡ true → (list_any is_closing bs ≡ true → SplitsAtClosing bs (before_closing bs))
    → SplitsAtClosing (b ∷ bs) (if t then [] else b ∷ before_closing bs)
splits_from b bs true is has again = ap (λ x. x ∷ bs) (eqb-true b 125 is)
splits_from b bs false is has again =
    let n : ℕ = length (before_closing bs) in
    let next : n + 1 ≡ suc n = omega arith in
    let more : suc n + 1 ≡ suc (suc n) = omega arith in
    ap (λ xs. b ∷ xs) (again has ∙ ap (λ k. before_closing bs ++ 125 ∷ drop k bs) next) ∙ sym (ap (λ k. b ∷ (before_closing bs ++ 125 ∷ drop k (b ∷ bs))) more)

splits_at_closing : (bs : List ℕ) → list_any is_closing bs ≡ true → SplitsAtClosing bs (before_closing bs)
splits_at_closing [] has = absurd (true≢false (sym has))
splits_at_closing (b ∷ bs) has = splits_from b bs (is_closing b) refl has (splits_at_closing bs)

-- ---- one part

behind-drop : (n : ℕ) (text : List ℕ) → parts_behind n text ≡ parts (drop n text)
behind-drop zero text = refl
behind-drop (suc n) [] = refl
behind-drop (suc n) (b ∷ bs) = behind-drop n bs

abbrev step : ℕ → List ℕ → Bool → List Part
step b bs v = if v then expression (enclosed (b ∷ bs)) ∷ parts_behind (length (enclosed (b ∷ bs)) + 2) bs else byte b ∷ parts bs

plain : (b : ℕ) (bs : List ℕ) → opens (b ∷ bs) ≡ false → parts (b ∷ bs) ≡ byte b ∷ parts bs
plain b bs never = ap (step b bs) never

past : (x : ℕ) (e rest : List ℕ) → drop (length e + 2) (x ∷ (e ++ 125 ∷ rest)) ≡ rest
past x [] rest = refl
past x (b ∷ bs) rest = let more : suc (length bs) + 2 ≡ suc (length bs + 2) = omega arith in ap (λ k. drop k (x ∷ b ∷ (bs ++ 125 ∷ rest))) more ∙ past b bs rest

enclosed_part : (e rest : List ℕ) → HasNone e → parts (36 ∷ 123 ∷ (e ++ 125 ∷ rest)) ≡ expression e ∷ parts rest
enclosed_part e rest never =
    ap (step 36 (123 ∷ (e ++ 125 ∷ rest))) (closed e rest)
    ∙ ap (λ x. expression x ∷ parts_behind (length x + 2) (123 ∷ (e ++ 125 ∷ rest))) (before_is e rest never)
    ∙ ap (λ ps. expression e ∷ ps) (behind-drop (length e + 2) (123 ∷ (e ++ 125 ∷ rest)) ∙ ap parts (past 123 e rest))

opens_with : (text : List ℕ) → opens text ≡ true → text ≡ 36 ∷ 123 ∷ drop 2 text
opens_with [] does = absurd (true≢false (sym does))
opens_with (a ∷ []) does = absurd (true≢false (sym (both_right (a == 36) false (both_left _ _ does))))
opens_with (a ∷ b ∷ bs) does =
    let signs : ((a == 36) && (b == 123)) ≡ true = both_left _ _ does in
    λ i. eqb-true a 36 (both_left (a == 36) (b == 123) signs) i ∷ eqb-true b 123 (both_right (a == 36) (b == 123) signs) i ∷ bs

-- ---- the first expression

pub lacks_opening : (text : List ℕ) (i : ℕ) → LacksTextAt (36 ∷ 123 ∷ []) text i → opens (drop i text) ≡ false
lacks_opening text i lacks = not_true (opens (drop i text)) (λ does. lacks (drop 2 (drop i text)) (opens_with (drop i text) does))

pub plain_front : (before rest : List ℕ) → ((i : ℕ) → i < length before → opens (drop i (before ++ rest)) ≡ false) → parts (before ++ rest) ≡ map byte before ++ parts rest
plain_front [] rest never = refl
plain_front (b ∷ bs) rest never = plain b (bs ++ rest) (never 0 (omega arith)) ∙ ap (λ ps. byte b ∷ ps) (plain_front bs rest (λ i l. never (suc i) (omega arith)))

pub all_plain : (text : List ℕ) → ((i : ℕ) → i < length text → opens (drop i text) ≡ false) → parts text ≡ map byte text
all_plain [] never = refl
all_plain (b ∷ bs) never = plain b bs (never 0 (omega arith)) ∙ ap (λ ps. byte b ∷ ps) (all_plain bs (λ i l. never (suc i) (omega arith)))

pub unclosed : (text : List ℕ) → HasNone text → parts text ≡ map byte text
unclosed [] never = refl
unclosed (b ∷ bs) never =
    plain b bs (not_both _ _ (none_later 2 (b ∷ bs) never)) ∙ ap (λ ps. byte b ∷ ps) (unclosed bs (neither_right (is_closing b) (list_any is_closing bs) never))

map_front : (before rest : List ℕ) → map byte before ++ map byte rest ≡ map byte (before ++ rest)
map_front [] rest = refl
map_front (b ∷ bs) rest = ap (λ ps. byte b ∷ ps) (map_front bs rest)

-- no `}` behind the first `${`
pub left_open : (text before rest : List ℕ) → text ≡ before ++ 36 ∷ 123 ∷ rest → ((i : ℕ) → i < length before → opens (drop i text) ≡ false) → HasNone rest → parts text ≡ map byte text
left_open text before rest is never none =
    ap parts is ∙ plain_front before (36 ∷ 123 ∷ rest) (λ i l. ap (λ t. opens (drop i t)) (sym is) ∙ never i l)
    ∙ ap (λ ps. map byte before ++ ps) (unclosed (36 ∷ 123 ∷ rest) none) ∙ map_front before (36 ∷ 123 ∷ rest) ∙ ap (map byte) (sym is)

-- around the first `${` and the next `}`
pub around : (text before rest e after : List ℕ) → text ≡ before ++ 36 ∷ 123 ∷ rest → rest ≡ e ++ 125 ∷ after → ((i : ℕ) → i < length before → opens (drop i text) ≡ false) → HasNone e
    → parts text ≡ map byte before ++ expression e ∷ parts after
around text before rest e after is cut never none =
    let whole : text ≡ before ++ 36 ∷ 123 ∷ (e ++ 125 ∷ after) = is ∙ ap (λ r. before ++ 36 ∷ 123 ∷ r) cut in
    ap parts whole ∙ plain_front before (36 ∷ 123 ∷ (e ++ 125 ∷ after)) (λ i l. ap (λ t. opens (drop i t)) (sym whole) ∙ never i l)
    ∙ ap (λ ps. map byte before ++ ps) (enclosed_part e after none)

-- ---- the laws

-- where an expression opens, it and its signs are the front of the text
opened : (b : ℕ) (bs : List ℕ) → opens (b ∷ bs) ≡ true → b ∷ bs ≡ 36 ∷ 123 ∷ (enclosed (b ∷ bs) ++ 125 ∷ drop (length (enclosed (b ∷ bs)) + 2) bs)
opened b [] does = absurd (true≢false (sym (both_right (b == 36) false (both_left _ _ does))))
opened b (c ∷ bs) does =
    let n : ℕ = length (before_closing bs) in
    let more : suc (n + 1) ≡ n + 2 = omega arith in
    opens_with (b ∷ c ∷ bs) does ∙ ap (λ r. 36 ∷ 123 ∷ r) (splits_at_closing bs (both_right _ _ does) ∙ ap (λ k. before_closing bs ++ 125 ∷ drop k (c ∷ bs)) more)

whole_from : (b : ℕ) (bs : List ℕ) (v : Bool) → opens (b ∷ bs) ≡ v → ((n : ℕ) → flat_map part_bytes (parts_behind n bs) ≡ drop n bs) → flat_map part_bytes (step b bs v) ≡ b ∷ bs
whole_from b bs true is again =
    let e : List ℕ = enclosed (b ∷ bs) in
    ap (λ r. part_bytes (expression e) ++ r) (again (length e + 2)) ∙ ap (λ r. 36 ∷ 123 ∷ r) (append_assoc e (125 ∷ []) (drop (length e + 2) bs)) ∙ sym (opened b bs is)
whole_from b bs false is again = ap (λ r. b ∷ r) (again 0)

pub parts_are_all : (text : List ℕ) (n : ℕ) → flat_map part_bytes (parts_behind n text) ≡ drop n text
parts_are_all [] zero = refl
parts_are_all [] (suc n) = refl
parts_are_all (b ∷ bs) zero = whole_from b bs (opens (b ∷ bs)) refl (parts_are_all bs)
parts_are_all (b ∷ bs) (suc n) = parts_are_all bs n

ends_from : (b : ℕ) (bs : List ℕ) (v : Bool) → ((n : ℕ) → list_all ends_at_once (parts_behind n bs) ≡ true) → list_all ends_at_once (step b bs v) ≡ true
ends_from b bs true again = ap (λ t. not t && list_all ends_at_once (parts_behind (length (enclosed (b ∷ bs)) + 2) bs)) (before_holds_none (drop 2 (b ∷ bs))) ∙ again (length (enclosed (b ∷ bs)) + 2)
ends_from b bs false again = again 0

pub parts_end : (text : List ℕ) (n : ℕ) → list_all ends_at_once (parts_behind n text) ≡ true
parts_end [] n = refl
parts_end (b ∷ bs) zero = ends_from b bs (opens (b ∷ bs)) (parts_end bs)
parts_end (b ∷ bs) (suc n) = parts_end bs n

-- a text that is split nowhere has no expression
pub split_nowhere : (text : List ℕ) → ((before e after : List ℕ) → text ≢ before ++ 36 ∷ 123 ∷ (e ++ 125 ∷ after)) → parts text ≡ map byte text
split_nowhere text never = all_plain text (λ i l. not_true (opens (drop i text)) (λ does.
    let rest : List ℕ = drop 2 (drop i text) in
    never (take i text) (before_closing rest) (drop (length (before_closing rest) + 1) rest)
    (sym (take-append-drop i text) ∙ ap (λ r. take i text ++ r) (opens_with (drop i text) does ∙ ap (λ r. 36 ∷ 123 ∷ r) (splits_at_closing rest (both_right _ _ does))))))

-- ---- what the code finds

abbrev Texts : Type 0
Texts = Bor (List ℕ) × Bor (List ℕ)

-- the text is cut at the first `${`
abbrev OpenedAt : List ℕ → List ℕ → List ℕ → Type 0
OpenedAt text before rest = (text ≡ before ++ 36 ∷ 123 ∷ rest) × ((i : ℕ) → i < length before → opens (drop i text) ≡ false)

pub opened_at : (text : List ℕ) (x : Texts) → SplitsAroundMatch (FindsText (36 ∷ 123 ∷ [])) text x.0.now x.1.now → OpenedAt text x.0.now x.1.now
opened_at text x cut =
    let i : ℕ = cut.0 in (
      sym (take-append-drop i text) ∙ (λ k. sym cut.3 k ++ (cut.2.1.split ∙ ap (λ r. 36 ∷ 123 ∷ r) (sym cut.4)) k),
      λ k l. lacks_opening text k (cut.2.0 k (omega (arith, cut.6))),
    )

-- no `${` at all
pub never_opened : (text : List ℕ) → FindsText (36 ∷ 123 ∷ []) text None → parts text ≡ map byte text
never_opened text lacks = all_plain text (λ i l. lacks_opening text i (lacks i (omega arith)))

-- bytes alone are no expression
pub only_bytes : (text : List ℕ) → only_expression (map byte text) ≡ None
only_bytes [] = refl
only_bytes (b ∷ bs) = refl

-- a text with something before its first expression, or behind it, isn't one expression
pub more_before : (before e after : List ℕ) → false ≡ (length before == 0) → only_expression (map byte before ++ expression e ∷ parts after) ≡ None
more_before [] e after some = absurd (true≢false (sym some))
more_before (b ∷ bs) e after some = refl

behind_step : (b : ℕ) (bs e : List ℕ) (v : Bool) → only_expression (expression e ∷ step b bs v) ≡ None
behind_step b bs e true = refl
behind_step b bs e false = refl

pub more_behind : (before e after : List ℕ) → false ≡ (length after == 0) → only_expression (map byte before ++ expression e ∷ parts after) ≡ None
more_behind [] e [] some = absurd (true≢false (sym some))
more_behind [] e (b ∷ bs) some = behind_step b bs e (opens (b ∷ bs))
more_behind (c ∷ cs) e after some = refl
