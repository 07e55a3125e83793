-- An id reads back from its text, and what a text names is what `id_read` gives.
use Rattle.std.proofs.Common.{◌≡◌, ◌↔◌, ◌<◌, ◌+◌, ◌*◌, ◌/◌, ◌%◌, ◌^◌, ℕ, List, [], ◌∷◌, length, get_or, take, drop, find, All, Bool, true, false, true≢false, zero, suc, Option, Some, None, if◌then◌else◌, ◌==◌, ◌&&◌, refl, sym, ap, subst, ◌∙◌, arith, inl, inr, lit<}
use Rattle.std.specs.Prelude.{option_and_then, bytes_eq, IsUtf8}
use Rattle.std.specs.Str.{IsAscii}
use Rattle.std.specs.Int.{w32, w64, byte_at, bytes_high_first, to_be_bytes, from_be_bytes}
use Rattle.std.specs.List.{list_all}
use Rattle.std.proofs.lemmas.Bool.{and_parts, cases_lt}
use Rattle.std.proofs.lemmas.Bool.Decides.{nat_tests}
use Rattle.std.proofs.lemmas.List.{get_or-take, get_or-drop, get_or_past}
use Rattle.std.proofs.lemmas.List.Sums.{AllPass-from_list_all}
use Rattle.std.proofs.lemmas.List.Elements.{All-append, All-cons, All-nil}
use Rattle.std.proofs.lemmas.Nat.{from_be_bytes-to_be_bytes_4, from_be_bytes-to_be_bytes_8}
use Rattle.std.proofs.lemmas.Str.{IsUtf8-from_ascii}
use Rattle.std.proofs.lemmas.Slice.Eq.{bytes_eq-Decides}
use Rattle.uuid.specs.Text.{lower, by_index, is_hex_digit, value_of, byte_of_digits, digits_of, has_hyphens, parsed, parsed_simple, parsed_hyphenated, parsed_braced, parsed_urn}
use Rattle.uuid.proofs.TextLemmas.{by_index_length, by_index_at, hyphenated_ascii}
use Rattle.uuid.proofs.RoundTrips.{parses_hyphenated}
use Rattle.wf_names.specs.declared.ids.IdKind.{IdKind}
use Rattle.wf_names.specs.declared.ids.IdKind.TheVariants.{Flow, Task}
use Rattle.wf_names.specs.Ids.{Names, id_in, id_read, id_text, kind_octet, layout, mark_in, number_in}
use Rattle.wf_names.proofs.SearchLemmas.{found_passes, found_of_two, find-first, find-second, find-neither}

-- ---- what a text parses to is sixteen octets

pub record AreOctets (xs : List ℕ) : Type 0 where
  pub sixteen : length xs ≡ 16
  pub small : (i : ℕ) → get_or xs i 0 < 256

value_small : (c : ℕ) → is_hex_digit c ≡ true → value_of c < 16
value_small c hex = grind (arith, nat_tests)

digit_small : (hex : List ℕ) (k : ℕ) → list_all is_hex_digit hex ≡ true → k < length hex → value_of (get_or hex k 0) < 16
digit_small hex k digits inside = value_small (get_or hex k 0) (AllPass-from_list_all is_hex_digit hex digits k 0 inside)

byte_small : (hex : List ℕ) (i : ℕ) → length hex ≡ 32 → list_all is_hex_digit hex ≡ true → i < 16 → byte_of_digits hex i < 256
byte_small hex i long digits inside =
    let high = digit_small hex (2 * i) digits (omega arith) in
    let low = digit_small hex (2 * i + 1) digits (omega arith) in
    omega arith

bytes_small : (hex : List ℕ) (i : ℕ) → length hex ≡ 32 → list_all is_hex_digit hex ≡ true → get_or (by_index 16 (byte_of_digits hex)) i 0 < 256
bytes_small hex i long digits =
    elim (cases_lt i 16) [
      | inl inside ↦ rw (by_index_at 16 (byte_of_digits hex) i 0 inside) (byte_small hex i long digits inside)
      | inr past ↦ rw (get_or_past (by_index 16 (byte_of_digits hex)) i 0 (rw (by_index_length 16 (byte_of_digits hex)) past)) (lit< tt)
    ]

-- a guarded answer that is there
guarded : (b : Bool) (o : Option (List ℕ)) (xs : List ℕ) → (if b then o else None) ≡ Some xs → (b ≡ true) × (o ≡ Some xs)
guarded true o xs there = (refl, there)
guarded false o xs there = cc

octets_of_simple : (hex xs : List ℕ) → parsed_simple hex ≡ Some xs → AreOctets xs
octets_of_simple hex xs there =
    let bytes = by_index 16 (byte_of_digits hex) in
    let held = guarded ((length hex == 32) && list_all is_hex_digit hex) (Some bytes) xs there in
    let tests = and_parts (length hex == 32) (list_all is_hex_digit hex) held.0 in
    let long : length hex ≡ 32 = grind (arith, nat_tests, tests.0) in
    let same : bytes ≡ xs = cc (held.1) in
    subst AreOctets same (record { sixteen = by_index_length 16 (byte_of_digits hex); small = λ i. bytes_small hex i long tests.1 })

octets_of_hyphenated : (s xs : List ℕ) → parsed_hyphenated s ≡ Some xs → AreOctets xs
octets_of_hyphenated s xs there =
    octets_of_simple (digits_of s) xs (guarded ((length s == 36) && has_hyphens s) (parsed_simple (digits_of s)) xs there).1

octets_of_braced : (s xs : List ℕ) → parsed_braced s ≡ Some xs → AreOctets xs
octets_of_braced s xs there = octets_of_hyphenated (take 36 (drop 1 s)) xs (guarded _ (parsed_hyphenated (take 36 (drop 1 s))) xs there).1

octets_of_urn : (s xs : List ℕ) → parsed_urn s ≡ Some xs → AreOctets xs
octets_of_urn s xs there = octets_of_hyphenated (drop 9 s) xs (guarded _ (parsed_hyphenated (drop 9 s)) xs there).1

either : (b : Bool) (o p : Option (List ℕ)) (xs : List ℕ) → (o ≡ Some xs → AreOctets xs) → (p ≡ Some xs → AreOctets xs) → (if b then o else p) ≡ Some xs → AreOctets xs
either true o p xs of_o of_p there = of_o there
either false o p xs of_o of_p there = of_p there

pub AreOctets-parsed : (s xs : List ℕ) → parsed s ≡ Some xs → AreOctets xs
AreOctets-parsed s xs there =
    let urn = either (length s == 45) (parsed_urn s) None xs (octets_of_urn s xs) (λ none. cc) in
    let braced = either (length s == 38) (parsed_braced s) _ xs (octets_of_braced s xs) urn in
    let hyphenated = either (length s == 36) (parsed_hyphenated s) _ xs (octets_of_hyphenated s xs) braced in
    either (length s == 32) (parsed_simple s) _ xs (octets_of_simple s xs) hyphenated there

-- ---- marks and numbers at their places

pub mark_in-places : (xs : List ℕ) → from_be_bytes w32 (get_or xs 0 0 ∷ get_or xs 1 0 ∷ get_or xs 2 0 ∷ get_or xs 3 0 ∷ []) ≡ mark_in xs
mark_in-places xs =
    rw (get_or-take 4 xs 0 0 (lit< tt), get_or-take 4 xs 1 0 (lit< tt), get_or-take 4 xs 2 0 (lit< tt), get_or-take 4 xs 3 0 (lit< tt)) refl

pub number_in-places : (xs : List ℕ)
    → from_be_bytes w64 (0 ∷ get_or xs 9 0 ∷ get_or xs 10 0 ∷ get_or xs 11 0 ∷ get_or xs 12 0 ∷ get_or xs 13 0 ∷ get_or xs 14 0 ∷ get_or xs 15 0 ∷ []) ≡ number_in xs
number_in-places xs =
    rw (get_or-drop 9 xs 0 0, get_or-drop 9 xs 1 0, get_or-drop 9 xs 2 0, get_or-drop 9 xs 3 0, get_or-drop 9 xs 4 0, get_or-drop 9 xs 5 0, get_or-drop 9 xs 6 0) refl

mark_fits : (xs : List ℕ) → AreOctets xs → mark_in xs < 2 ^ 32
mark_fits xs are =
    rw (← mark_in-places xs) (omega (arith, are.small 0, are.small 1, are.small 2, are.small 3))

number_fits : (xs : List ℕ) → AreOctets xs → number_in xs < 2 ^ 56
number_fits xs are =
    rw (← number_in-places xs) (omega (arith, are.small 9, are.small 10, are.small 11, are.small 12, are.small 13, are.small 14, are.small 15))

-- ---- the layout of an id and back

mark_in-layout : (mark : ℕ) (kind : IdKind) (number : ℕ) → mark < 2 ^ 32 → mark_in (layout mark kind number) ≡ mark
mark_in-layout mark kind number fits = from_be_bytes-to_be_bytes_4 mark fits

-- the highest octet of a number below 2^56 is 0
high_octet : (number : ℕ) → number < 2 ^ 56 → 0 ≡ number / 256 ^ 7 % 256
high_octet number fits = omega arith

number_in-layout : (mark : ℕ) (kind : IdKind) (number : ℕ) → number < 2 ^ 56 → number_in (layout mark kind number) ≡ number
number_in-layout mark kind number fits =
    ap (λ high. from_be_bytes w64 (high ∷ drop 1 (to_be_bytes w64 number))) (high_octet number fits) ∙ from_be_bytes-to_be_bytes_8 number (omega arith)

octet : (n : ℕ) → n % 256 < 256
octet n = omega arith

kind_small : (kind : IdKind) → kind_octet kind < 256
kind_small Flow = lit< tt
kind_small Task = lit< tt

abbrev IsOctet : ℕ → Type 0
IsOctet o = o < 256

byte_at_small : (i n : ℕ) → byte_at i n < 256
byte_at_small zero n = octet n
byte_at_small (suc i) n = octet (n / 256 ^ suc i)

high_first_small : (k n : ℕ) → All IsOctet (bytes_high_first k n)
high_first_small zero n = All-nil IsOctet
high_first_small (suc k) n = All-cons IsOctet (byte_at k n) (bytes_high_first k n) (byte_at_small k n) (high_first_small k n)

layout_small : (mark : ℕ) (kind : IdKind) (number : ℕ) → All IsOctet (layout mark kind number)
layout_small mark kind number =
    let low = bytes_high_first 7 number in
    let from_variant = All-cons IsOctet 128 low (lit< tt) (high_first_small 7 number) in
    let from_version = All-cons IsOctet 128 (0 ∷ 128 ∷ low) (lit< tt) (All-cons IsOctet 0 (128 ∷ low) (lit< tt) from_variant) in
    let from_kind = All-cons IsOctet (kind_octet kind) (0 ∷ 128 ∷ 0 ∷ 128 ∷ low) (kind_small kind) (All-cons IsOctet 0 (128 ∷ 0 ∷ 128 ∷ low) (lit< tt) from_version) in
    All-append IsOctet (bytes_high_first 4 mark) (kind_octet kind ∷ 0 ∷ 128 ∷ 0 ∷ 128 ∷ low) (high_first_small 4 mark) from_kind

-- ---- what octets name

-- a flow's layout and a task's are two
layouts_apart : (mark number : ℕ) (xs : List ℕ) → layout mark Task number ≡ xs → bytes_eq (layout mark Flow number) xs ≡ false
layouts_apart mark number xs is_task =
    by_test (bytes_eq (layout mark Flow number) xs) (bytes_eq-Decides (layout mark Flow number) xs).0 where
      by_test : (b : Bool) → (b ≡ true → layout mark Flow number ≡ xs) → b ≡ false
      by_test false is_flow = refl
      by_test true is_flow = absurd (true≢false (ap (λ (l : List ℕ). get_or l 4 0 == 1) (is_flow refl ∙ sym is_task)))

abbrev named_among : List ℕ → ℕ → ℕ → Option (ℕ × IdKind × ℕ)
named_among xs mark number = find (λ (id : ℕ × IdKind × ℕ). bytes_eq (layout id.0 id.1 id.2) xs) ((mark, Flow, number) ∷ (mark, Task, number) ∷ [])

named_among-layout : (xs : List ℕ) (mark : ℕ) (kind : IdKind) (number : ℕ) → layout mark kind number ≡ xs → named_among xs mark number ≡ Some (mark, kind, number)
named_among-layout xs mark Flow number same =
    find-first (λ (id : ℕ × IdKind × ℕ). bytes_eq (layout id.0 id.1 id.2) xs) (mark, Flow, number) (mark, Task, number) ((bytes_eq-Decides (layout mark Flow number) xs).1 same)
named_among-layout xs mark Task number same =
    find-second (λ (id : ℕ × IdKind × ℕ). bytes_eq (layout id.0 id.1 id.2) xs) (mark, Flow, number) (mark, Task, number) (layouts_apart mark number xs same) ((bytes_eq-Decides (layout mark Task number) xs).1 same)

id_in-named_among : (xs : List ℕ) (mark number : ℕ) → mark_in xs ≡ mark → number_in xs ≡ number → id_in xs ≡ named_among xs mark number
unfolding id_in
id_in-named_among xs mark number is_mark is_number =
    ap (λ m. named_among xs m (number_in xs)) is_mark ∙ ap (λ n. named_among xs mark n) is_number

-- the two tests of `id_in`, on a mark and a number that were read from the octets
pub id_in-flow : (xs : List ℕ) (mark number : ℕ) → mark ≡ mark_in xs → number ≡ number_in xs → bytes_eq (layout mark Flow number) xs ≡ true → Some (mark, Flow, number) ≡ id_in xs
id_in-flow xs mark number is_mark is_number flow =
    sym (id_in-named_among xs mark number (sym is_mark) (sym is_number)
    ∙ find-first (λ (id : ℕ × IdKind × ℕ). bytes_eq (layout id.0 id.1 id.2) xs) (mark, Flow, number) (mark, Task, number) flow)

pub id_in-task : (xs : List ℕ) (mark number : ℕ) → mark ≡ mark_in xs → number ≡ number_in xs → bytes_eq (layout mark Flow number) xs ≡ false
    → bytes_eq (layout mark Task number) xs ≡ true → Some (mark, Task, number) ≡ id_in xs
id_in-task xs mark number is_mark is_number flow task =
    sym (id_in-named_among xs mark number (sym is_mark) (sym is_number)
    ∙ find-second (λ (id : ℕ × IdKind × ℕ). bytes_eq (layout id.0 id.1 id.2) xs) (mark, Flow, number) (mark, Task, number) flow task)

pub id_in-neither : (xs : List ℕ) (mark number : ℕ) → mark ≡ mark_in xs → number ≡ number_in xs → bytes_eq (layout mark Flow number) xs ≡ false
    → bytes_eq (layout mark Task number) xs ≡ false → None ≡ id_in xs
id_in-neither xs mark number is_mark is_number flow task =
    sym (id_in-named_among xs mark number (sym is_mark) (sym is_number)
    ∙ find-neither (λ (id : ℕ × IdKind × ℕ). bytes_eq (layout id.0 id.1 id.2) xs) (mark, Flow, number) (mark, Task, number) flow task)

-- octets with the layout of an id name it
pub id_in-layout : (mark : ℕ) (kind : IdKind) (number : ℕ) → mark < 2 ^ 32 → number < 2 ^ 56 → id_in (layout mark kind number) ≡ Some (mark, kind, number)
id_in-layout mark kind number mark_fits number_fits =
    id_in-named_among (layout mark kind number) mark number (mark_in-layout mark kind number mark_fits) (number_in-layout mark kind number number_fits)
    ∙ named_among-layout (layout mark kind number) mark kind number refl

-- and no others do
id_in-fits : (xs : List ℕ) (mark : ℕ) (kind : IdKind) (number : ℕ) → AreOctets xs → id_in xs ≡ Some (mark, kind, number) → (mark < 2 ^ 32) × (number < 2 ^ 56)
unfolding id_in
id_in-fits xs mark kind number are named =
    found_of_two (λ (id : ℕ × IdKind × ℕ). (id.0 < 2 ^ 32) × (id.2 < 2 ^ 56)) (λ (id : ℕ × IdKind × ℕ). bytes_eq (layout id.0 id.1 id.2) xs)
    (mark_in xs, Flow, number_in xs) (mark_in xs, Task, number_in xs) (mark, kind, number) named
    (mark_fits xs are, number_fits xs are) (mark_fits xs are, number_fits xs are)

id_in-has_layout : (xs : List ℕ) (mark : ℕ) (kind : IdKind) (number : ℕ) → id_in xs ≡ Some (mark, kind, number) → layout mark kind number ≡ xs
unfolding id_in
id_in-has_layout xs mark kind number named =
    (bytes_eq-Decides (layout mark kind number) xs).0 (found_passes (λ (id : ℕ × IdKind × ℕ). bytes_eq (layout id.0 id.1 id.2) xs)
    ((mark_in xs, Flow, number_in xs) ∷ (mark_in xs, Task, number_in xs) ∷ []) (mark, kind, number) named)

-- ---- what texts name

names_by : (text : List ℕ) (mark : ℕ) (kind : IdKind) (number : ℕ) (o : Option (List ℕ)) → parsed text ≡ o → option_and_then id_in o ≡ Some (mark, kind, number) → Names text mark kind number
names_by text mark kind number None is named = cc
names_by text mark kind number (Some xs) is named =
    let fits = id_in-fits xs mark kind number (AreOctets-parsed text xs is) named in
    record { mark_fits = fits.0; number_fits = fits.1; octets = is ∙ ap Some (sym (id_in-has_layout xs mark kind number named)) }

-- `id_read` gives an id exactly where the text names it
pub id_read-exact : (text : List ℕ) (mark : ℕ) (kind : IdKind) (number : ℕ) → (id_read text ≡ Some (mark, kind, number)) ↔ Names text mark kind number
unfolding id_read
id_read-exact text mark kind number = (
  λ named. names_by text mark kind number (parsed text) refl named,
  λ names. ap (option_and_then id_in) names.octets ∙ id_in-layout mark kind number names.mark_fits names.number_fits,
)

pub exact_from_value : (r : Option (ℕ × IdKind × ℕ)) (text : List ℕ) → r ≡ id_read text → (mark number : ℕ) (kind : IdKind) → (r ≡ Some (mark, kind, number)) ↔ Names text mark kind number
exact_from_value r text value mark number kind = rw value (id_read-exact text mark kind number)

no_octets : (o : Option (List ℕ)) → ¬ ((xs : List ℕ) × (o ≡ Some xs)) → None ≡ option_and_then id_in o
no_octets None none = refl
no_octets (Some xs) none = absurd (none (xs, refl))

-- a text that is no UUID names nothing
pub id_read-unparsed : (text : List ℕ) → ¬ ((xs : List ℕ) × (parsed text ≡ Some xs)) → None ≡ id_read text
unfolding id_read
id_read-unparsed text none = no_octets (parsed text) none

-- the reader's own path: a text that is a UUID names what its octets do
pub id_read-parsed : (text xs : List ℕ) → Some xs ≡ parsed text → id_in xs ≡ id_read text
unfolding id_read
id_read-parsed text xs is = ap (option_and_then id_in) is

-- the text of an id is 36 ASCII characters
pub length-id_text : (mark : ℕ) (kind : IdKind) (number : ℕ) → length (id_text mark kind number) ≡ 36
unfolding id_text
length-id_text mark kind number = by_index_length 36 _

pub IsAscii-id_text : (mark : ℕ) (kind : IdKind) (number : ℕ) → IsAscii (id_text mark kind number)
unfolding id_text
IsAscii-id_text mark kind number = hyphenated_ascii lower (layout mark kind number) (inl refl)

pub IsUtf8-id_text : (mark : ℕ) (kind : IdKind) (number : ℕ) → IsUtf8 (id_text mark kind number)
IsUtf8-id_text mark kind number = IsUtf8-from_ascii (id_text mark kind number) (IsAscii-id_text mark kind number)

-- the text of an id names it
pub Names-id_text : (mark : ℕ) (kind : IdKind) (number : ℕ) → mark < 2 ^ 32 → number < 2 ^ 56 → Names (id_text mark kind number) mark kind number
unfolding id_text
Names-id_text mark kind number mark_fits number_fits =
    record { mark_fits = mark_fits; number_fits = number_fits; octets = sym (parses_hyphenated lower (layout mark kind number) (inl refl) refl (layout_small mark kind number)) }

-- the text of an id reads back
pub id_read-id_text : (mark : ℕ) (kind : IdKind) (number : ℕ) → mark < 2 ^ 32 → number < 2 ^ 56 → id_read (id_text mark kind number) ≡ Some (mark, kind, number)
id_read-id_text mark kind number mark_fits number_fits =
    (id_read-exact (id_text mark kind number) mark kind number).1 (Names-id_text mark kind number mark_fits number_fits)
