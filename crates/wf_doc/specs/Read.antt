-- Which document bytes are, or why they are none.
use Rattle.std.specs.Prelude.{ℕ, nat_le, List, Option, Some, None, option_and_then, Result, Ok, Err, if◌then◌else◌}
use Rattle.std.specs.Str.{is_utf8}
use Rattle.serde_json.specs.Data.{Data}
use Rattle.serde_json.specs.Read as json
use Rattle.wf_doc.specs.declared.doc.Doc.{Doc}
use Rattle.wf_doc.specs.declared.scan.DocFault.{DocFault}
use Rattle.wf_doc.specs.declared.scan.DocFault.TheVariants.{Syntax, TooDeep}
use Rattle.wf_doc.specs.Doc.{depth}
use Rattle.wf_doc.specs.Json.{doc_of}
use Rattle.wf_doc.specs.Scan.{first_fault, outside}

-- the JSON data that the bytes are, where they are one JSON text in UTF-8 that nests at most 127 deep
abbrev pub json_of : List ℕ → Option Data
json_of bytes = if is_utf8 bytes then json.read bytes else None

-- the document that the bytes are
abbrev pub document : List ℕ → Option Doc
document bytes = option_and_then doc_of (json_of bytes)

-- a bad number token goes first, then the syntax, then the depth
abbrev pub judged : Option DocFault → Option Doc → ℕ → Result Doc DocFault
judged (Some fault) found most = Err fault
judged None None most = Err Syntax
judged None (Some d) most = if nat_le (depth d) most then Ok d else Err TooDeep

-- the document, nested at most so deep, or the first fault
abbrev pub read : List ℕ → ℕ → Result Doc DocFault
read bytes most = judged (first_fault outside bytes) (document bytes) most
