-- What bytes are as JSON.
use Rattle.std.proofs.Common.{◌≡◌, ◌∙◌, ℕ, List, [], ◌∷◌, Bool, true, false, Option, Some, None, refl, sym, subst}
use Rattle.std.specs.Prelude.{if◌then◌else◌}
use Rattle.std.specs.Str.{IsUtf8, is_utf8}
use Rattle.std.proofs.lemmas.Str.{IsUtf8-from_is_utf8, is_utf8-from_IsUtf8}
use Rattle.serde_json.specs.Data.{Data}
use Rattle.serde_json.specs.Read as json
use Rattle.wf_doc.specs.declared.doc.Doc.{Doc}
use Rattle.wf_doc.specs.Json.{doc_of}
use Rattle.wf_doc.specs.Read.{json_of}
use Rattle.std.specs.List.{list_any}
use Rattle.wf_doc.specs.declared.scan.DocFault.{DocFault}
use Rattle.wf_doc.specs.declared.scan.DocFault.TheVariants.{Syntax, Fraction, Range, TooDeep, NoMemory}
use Rattle.wf_doc.specs.declared.scan.Place.{Place}
use Rattle.wf_doc.specs.Scan.{first_fault, outside, token_fault, token_at, or_later, next, begins_token, is_fraction_sign}
use Rattle.wf_doc.proofs.WholeJson.{scanned_is_document}

pub json_of-text : (bytes : List ℕ) (j : Data) → IsUtf8 bytes → json.read bytes ≡ Some j → json_of bytes ≡ Some j
json_of-text bytes j utf8 found = rw (is_utf8-from_IsUtf8 bytes utf8) found

none_at : (bytes : List ℕ) (b : Bool) → is_utf8 bytes ≡ b → (IsUtf8 bytes → json.read bytes ≡ None) → (if b then json.read bytes else None) ≡ None
none_at bytes true is none = none (IsUtf8-from_is_utf8 bytes is)
none_at bytes false is none = refl

pub json_of-none : (bytes : List ℕ) → (IsUtf8 bytes → json.read bytes ≡ None) → json_of bytes ≡ None
json_of-none bytes none = none_at bytes (is_utf8 bytes) refl none

text_of : (bytes : List ℕ) (b : Bool) (j : Data) → (if b then json.read bytes else None) ≡ Some j → json.read bytes ≡ Some j
text_of bytes true j found = found
text_of bytes false j found = absurd (cc)

pub json_is_document : (bytes : List ℕ) (j : Data) → first_fault outside bytes ≡ None → json_of bytes ≡ Some j → (d : Doc) × (doc_of j ≡ Some d)
json_is_document bytes j none found = scanned_is_document bytes j none (text_of bytes (is_utf8 bytes) j found)

-- so the bytes are no JSON data that is no document
pub no_document_is_no_json : (bytes : List ℕ) (j : Data) → first_fault outside bytes ≡ None → json_of bytes ≡ Some j → doc_of j ≡ None → json_of bytes ≡ None
no_document_is_no_json bytes j none found e = let d = json_is_document bytes j none found in let both : Some d.0 ≡ None = sym d.1 ∙ e in absurd (cc)

-- ---- the scan finds bad numbers alone

abbrev IsOfNumber : Option DocFault → Type 0
IsOfNumber None = Unit {0}
IsOfNumber (Some Syntax) = ⊥
IsOfNumber (Some Fraction) = Unit {0}
IsOfNumber (Some Range) = Unit {0}
IsOfNumber (Some TooDeep) = ⊥
IsOfNumber (Some NoMemory) = ⊥

of_token : (b c : Bool) → IsOfNumber (if b then Some Fraction else (if c then Some Range else None))
of_token true c = tt
of_token false true = tt
of_token false false = tt

of_begun : (b : Bool) (o : Option DocFault) → IsOfNumber o → IsOfNumber (if b then o else None)
of_begun true o h = h
of_begun false o h = tt

of_later : (o later : Option DocFault) → IsOfNumber o → IsOfNumber later → IsOfNumber (or_later o later)
of_later None later h k = k
of_later (Some f) later h k = h

of_scan : (p : Place) (bs : List ℕ) → IsOfNumber (first_fault p bs)
of_scan p [] = tt
of_scan p (b ∷ bs) = of_later _ _ (of_begun (begins_token p b) (token_fault (token_at (b ∷ bs))) (of_token (list_any is_fraction_sign (token_at (b ∷ bs))) _)) (of_scan (next p b) bs)

pub no_syntax : (bytes : List ℕ) → first_fault outside bytes ≡ Some Syntax → ⊥
no_syntax bytes e = subst IsOfNumber e (of_scan outside bytes)
