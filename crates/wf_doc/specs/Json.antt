-- Documents as JSON: the data that each is, and the one text that is printed for it.
use Rattle.std.specs.Prelude.{ℕ, List, [], ◌∷◌, ◌++◌, map, Option, Some, option_map, option_and_then, codes, if◌then◌else◌}
use Rattle.std.specs.List.{join_with_byte}
use Rattle.std.specs.Fmt.{signed_decimal}
use Rattle.json.specs.Print.{quoted}
use Rattle.serde_json.specs.Data.{Data, null, boolean, number, string, array, object, Items, no_items, item, Members, no_members, member}
use Rattle.serde_json.specs.Find.{as_i64, of_integer}
use Rattle.serde_json.specs.View.{items_of}
use Rattle.wf_doc.specs.declared.fields.Entry.{Entry}
use Rattle.wf_doc.specs.declared.doc.Doc.{Doc}
use Rattle.wf_doc.specs.declared.doc.Doc as doc
use Rattle.wf_doc.specs.declared.doc.Doc.TheOpen.{Doc-F}
use Rattle.wf_doc.specs.declared.doc.Doc.TheFolds.{fold-Doc}

-- ---- the printed text

-- a key, a colon and the value's text
abbrev pub member_text : Entry (List ℕ) → List ℕ
member_text e = quoted e.key ++ 58 ∷ e.value

-- the text of a document, from those of its parts: no spaces, a comma between two parts
abbrev pub printed_step : Doc-F (List ℕ) → List ℕ
printed_step Doc-F.Null = codes "null"
printed_step (Doc-F.Bool b) = if b then codes "true" else codes "false"
printed_step (Doc-F.Int z) = signed_decimal z
printed_step (Doc-F.Text t) = quoted t
printed_step (Doc-F.List texts) = 91 ∷ (join_with_byte 44 texts ++ 93 ∷ [])
printed_step (Doc-F.Table texts) = 123 ∷ (join_with_byte 44 (map member_text texts) ++ 125 ∷ [])

-- the compact text of a document, its keys in order
abbrev pub printed : Doc → List ℕ
printed = fold-Doc (List ℕ) printed_step

-- ---- the JSON data

-- the members that the entries are
abbrev pub members_of : List (Entry Data) → Members
members_of [] = no_members
members_of (e ∷ es) = member e.key e.value (members_of es)

-- the data of a document, from those of its parts
abbrev pub data_step : Doc-F Data → Data
data_step Doc-F.Null = null
data_step (Doc-F.Bool b) = boolean b
data_step (Doc-F.Int z) = number (of_integer z)
data_step (Doc-F.Text t) = string t
data_step (Doc-F.List ds) = array (items_of ds)
data_step (Doc-F.Table es) = object (members_of es)

-- the JSON data that a document is
abbrev pub data_of : Doc → Data
data_of = fold-Doc Data data_step

-- the document that JSON data is, where each number is whole and fits 64 signed bits
abbrev mutual
  pub doc_of : Data → Option Doc
  doc_of null = Some doc.Null
  doc_of (boolean b) = Some (doc.Bool b)
  doc_of (number n) = option_map doc.Int (as_i64 n)
  doc_of (string s) = Some (doc.Text s)
  doc_of (array ds) = option_map doc.List (docs_of ds)
  doc_of (object ms) = option_map doc.Table (entries_of ms)

  -- the documents that the items are
  pub docs_of : Items → Option (List Doc)
  docs_of no_items = Some []
  docs_of (item d ds) = option_and_then (λ x. option_map (λ xs. x ∷ xs) (docs_of ds)) (doc_of d)

  -- the entries that the members are
  pub entries_of : Members → Option (List (Entry Doc))
  entries_of no_members = Some []
  entries_of (member k d ms) = option_and_then (λ x. option_map (λ es. record { key = k; value = x } ∷ es) (entries_of ms)) (doc_of d)
