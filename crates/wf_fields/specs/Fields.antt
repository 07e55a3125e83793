-- The fields of tables, and the forms of their values. A field that is null counts as absent.
use Rattle.std.specs.Prelude.{ℕ, ℤ, pos, negsuc, ◌&&◌, ◌||◌, nat_le, not, Bool, true, false, if◌then◌else◌, List, [], ◌∷◌, Option, None, Some, is_some, option_map, option_and_then, unwrap_or}
use Rattle.std.specs.List.{find, list_all}
use Rattle.std.specs.Option.{option_map_or}
use Rattle.wf_doc.specs.declared.doc.Doc.{Doc}
use Rattle.wf_doc.specs.declared.doc.Doc.TheOpen.{Doc-F}
use Rattle.wf_doc.specs.declared.doc.Doc.TheViews.{out-Doc}
use Rattle.wf_doc.specs.declared.fields.Entry.{Entry}
use Rattle.wf_doc.specs.Doc.{as_bool, as_int, as_text, as_list, as_table, field}
use Rattle.wf_machine.specs.State.{empty_table}
use Rattle.wf_machine.specs.Text.{same_text}
use Rattle.wf_fields.specs.declared.fields.Form.{Form}
use Rattle.wf_fields.specs.declared.fields.Form.TheVariants.{Truth, AText, Texts, AList, Lists, ATable, Cases}

-- ---- fields

abbrev unless_null : Doc → Doc-F Doc → Option Doc
unless_null d Doc-F.Null = None
unless_null d other = Some d

-- the document, unless it is null
abbrev pub not_null : Doc → Option Doc
not_null d = unless_null d (out-Doc d)

-- the value of the field, where it is there
abbrev pub given : List ℕ → Doc → Option Doc
given key d = option_and_then not_null (field key d)

-- the field isn't there, or its value passes
abbrev pub is_absent_or : (Doc → Bool) → List ℕ → Doc → Bool
is_absent_or test key d = option_map_or test (given key d) true

-- the field is there, and its value passes
abbrev pub is_given : (Doc → Bool) → List ℕ → Doc → Bool
is_given test key d = option_map_or test (given key d) false

-- ---- values

-- a number of at least 0
abbrev pub whole : ℤ → Option ℕ
whole (pos n) = Some n
whole (negsuc n) = None

abbrev pub as_whole : Doc → Option ℕ
as_whole v = option_and_then whole (as_int v)

abbrev pub is_between : ℕ → ℕ → ℕ → Bool
is_between least most n = nat_le least n && nat_le n most

-- a whole number in this range
abbrev pub is_number : ℕ → ℕ → Doc → Bool
is_number least most v = option_map_or (is_between least most) (as_whole v) false

abbrev pub count : ℕ → Option ℕ
count n = if nat_le n 2147483647 then Some n else None

-- a whole number that is no greater than that
abbrev pub as_count : Doc → Option ℕ
as_count v = option_and_then count (as_whole v)

-- the word is one of these
abbrev pub is_among : List ℕ → List (List ℕ) → Bool
is_among w [] = false
is_among w (v ∷ vs) = same_text w v || is_among w vs

-- a text that is one of these words
abbrev pub is_one_of : List (List ℕ) → Doc → Bool
is_one_of words v = option_map_or (λ t. is_among t words) (as_text v) false

abbrev pub is_list : Doc → Bool
is_list v = is_some (as_list v)

abbrev pub is_text : Doc → Bool
is_text v = is_some (as_text v)

-- a list whose items pass
abbrev pub is_list_of : (Doc → Bool) → Doc → Bool
is_list_of test v = option_map_or (list_all test) (as_list v) false

abbrev pub has_case_list : Entry Doc → Bool
has_case_list e = is_list e.value

-- a table whose values are lists
abbrev pub is_table_of_lists : Doc → Bool
is_table_of_lists v = option_map_or (list_all has_case_list) (as_table v) false

-- the value has the form
abbrev pub has_form : Form → Doc → Bool
has_form Truth v = is_some (as_bool v)
has_form AText v = is_text v
has_form Texts v = is_list_of is_text v
has_form AList v = is_list v
has_form Lists v = is_list_of is_list v
has_form ATable v = is_some (as_table v)
has_form Cases v = is_table_of_lists v

-- ---- the first field that breaks a rule, of several in their order

-- the first of these that is there and no whole number in its range
abbrev pub first_misnumbered : Doc → List (List ℕ × ℕ × ℕ) → Option (List ℕ)
first_misnumbered d fields = option_map (λ f. f.0) (find (λ f. not (is_absent_or (is_number f.1 f.2) f.0 d)) fields)

-- the first of these that is there and hasn't its form
abbrev pub first_misformed : Doc → List (List ℕ × Form) → Option (List ℕ)
first_misformed d fields = option_map (λ f. f.0) (find (λ f. not (is_absent_or (has_form f.1) f.0 d)) fields)

-- the place, unless the rule holds there
abbrev pub unless : Bool → List ℕ → Option (List ℕ)
unless true place = None
unless false place = Some place

-- ---- values of fields, or what stands for an absent one

-- the text of the field, empty where there is none
abbrev pub text_in : List ℕ → Doc → List ℕ
text_in key d = unwrap_or (option_and_then as_text (given key d)) []

abbrev pub number_or : ℕ → List ℕ → Doc → ℕ
number_or otherwise key d = unwrap_or (option_and_then as_count (given key d)) otherwise

abbrev pub truth_or : Bool → List ℕ → Doc → Bool
truth_or otherwise key d = unwrap_or (option_and_then as_bool (given key d)) otherwise

abbrev pub table_in : List ℕ → Doc → Doc
table_in key d = unwrap_or (given key d) empty_table

-- the items of the list, none where there is no list
abbrev pub items_of : Doc → List Doc
items_of d = unwrap_or (as_list d) []

abbrev pub items_in : List ℕ → Doc → List Doc
items_in key d = unwrap_or (option_and_then as_list (given key d)) []
