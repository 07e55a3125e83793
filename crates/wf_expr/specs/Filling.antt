-- What documents become where their expressions are filled.
use Rattle.std.specs.Prelude.{ℕ, ◌≤◌, List, [], ◌∷◌, length, codes, if◌then◌else◌, Option, Some, None, option_and_then, unwrap_or}
use Rattle.std.specs.List.{flat_map}
use Rattle.std.specs.Fmt.{signed_decimal}
use Rattle.wf_doc.specs.declared.doc.Doc.{Doc}
use Rattle.wf_doc.specs.declared.doc.Doc as doc
use Rattle.wf_doc.specs.declared.doc.Doc.TheOpen.{Doc-F}
use Rattle.wf_doc.specs.declared.doc.Doc.TheViews.{out-Doc}
use Rattle.wf_doc.specs.declared.doc.Doc.TheFolds.{fold-Doc}
use Rattle.wf_doc.specs.declared.fields.Entry.{Entry}
use Rattle.wf_doc.specs.declared.path.Step.{Step}
use Rattle.wf_doc.specs.Doc.{depth}
use Rattle.wf_doc.specs.Json.{printed}
use Rattle.wf_doc.specs.Path.{path_of}
use Rattle.wf_expr.specs.Parts.{Part, byte, expression, only_expression, parts}

-- what each path names
abbrev pub Names : Type 0
Names = List Step → Option Doc

-- what an expression names; a text that is no path names nothing
abbrev pub named : Names → List ℕ → Option Doc
named names e = option_and_then names (path_of e)

-- ---- the text of a value

abbrev text_here : Doc-F Doc → List ℕ
text_here Doc-F.Null = []
text_here (Doc-F.Bool b) = if b then codes "true" else codes "false"
text_here (Doc-F.Int z) = signed_decimal z
text_here (Doc-F.Text t) = t
text_here (Doc-F.List ds) = printed (doc.List ds)
text_here (Doc-F.Table es) = printed (doc.Table es)

-- null has the empty text, a truth value its name, a number its digits, a text itself; a list or a table has its printed text
abbrev pub text_of : Doc → List ℕ
text_of d = text_here (out-Doc d)

-- nothing has the empty text
abbrev pub text_of_any : Option Doc → List ℕ
text_of_any None = []
text_of_any (Some d) = text_of d

-- ---- texts

-- what a part of a text becomes
abbrev pub part_text : Names → Part → List ℕ
part_text names (byte b) = b ∷ []
part_text names (expression e) = text_of_any (named names e)

-- the parts' texts, one after another
abbrev pub joined : Names → List Part → List ℕ
joined names ps = flat_map (part_text names) ps

-- a text that is one expression becomes what it names, null where that is nothing; another one is its parts' texts
abbrev pub filled_as : Names → Option (List ℕ) → List Part → Doc
filled_as names (Some e) ps = unwrap_or (named names e) doc.Null
filled_as names None ps = doc.Text (joined names ps)

-- what a text becomes
abbrev pub filled_text : Names → List ℕ → Doc
filled_text names text = filled_as names (only_expression (parts text)) (parts text)

-- ---- documents

-- what a document becomes, from what its items and values become; keys stay
abbrev pub filled_step : Names → Doc-F Doc → Doc
filled_step names Doc-F.Null = doc.Null
filled_step names (Doc-F.Bool b) = doc.Bool b
filled_step names (Doc-F.Int z) = doc.Int z
filled_step names (Doc-F.Text t) = filled_text names t
filled_step names (Doc-F.List ds) = doc.List ds
filled_step names (Doc-F.Table es) = doc.Table es

-- the document with each text filled
abbrev pub filled : Names → Doc → Doc
filled names = fold-Doc Doc (filled_step names)

-- a table's value is filled, its key stays
abbrev pub filled_entry : Names → Entry Doc → Entry Doc
filled_entry names e = record { key = e.key; value = filled names e.value }

-- ---- limits

-- the printed text is at most so long, and lists and tables nest at most so deep
abbrev pub Fits : ℕ → ℕ → Doc → Type 0
Fits long deep d = (length (printed d) ≤ long) × (depth d ≤ deep)
