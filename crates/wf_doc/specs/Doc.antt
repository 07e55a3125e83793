-- Documents: their parts and their depth.
use Rattle.std.specs.Prelude.{ℕ, suc, max, ℤ, Bool, List, [], ◌∷◌, map, Option, Some, None, option_and_then}
use Rattle.wf_doc.specs.Fields.{get}
use Rattle.wf_doc.specs.declared.fields.Entry.{Entry}
use Rattle.wf_doc.specs.declared.doc.Doc.{Doc}
use Rattle.wf_doc.specs.declared.doc.Doc.TheOpen.{Doc-F}
use Rattle.wf_doc.specs.declared.doc.Doc.TheViews.{out-Doc}
use Rattle.wf_doc.specs.declared.doc.Doc.TheFolds.{fold-Doc}

-- ---- what a document is

abbrev truth_here : Doc-F Doc → Option Bool
truth_here (Doc-F.Bool b) = Some b
truth_here _ = None

abbrev number_here : Doc-F Doc → Option ℤ
number_here (Doc-F.Int z) = Some z
number_here _ = None

abbrev text_here : Doc-F Doc → Option (List ℕ)
text_here (Doc-F.Text t) = Some t
text_here _ = None

abbrev list_here : Doc-F Doc → Option (List Doc)
list_here (Doc-F.List ds) = Some ds
list_here _ = None

abbrev table_here : Doc-F Doc → Option (List (Entry Doc))
table_here (Doc-F.Table es) = Some es
table_here _ = None

-- the truth value, where the document is one
abbrev pub as_bool : Doc → Option Bool
as_bool d = truth_here (out-Doc d)

-- the number, where the document is one
abbrev pub as_int : Doc → Option ℤ
as_int d = number_here (out-Doc d)

-- the bytes of the text, where the document is one
abbrev pub as_text : Doc → Option (List ℕ)
as_text d = text_here (out-Doc d)

-- the items, where the document is a list
abbrev pub as_list : Doc → Option (List Doc)
as_list d = list_here (out-Doc d)

-- the entries, where the document is a table
abbrev pub as_table : Doc → Option (List (Entry Doc))
as_table d = table_here (out-Doc d)

-- the value at the key, where the document is a table that has it
abbrev pub field : List ℕ → Doc → Option Doc
field key d = option_and_then (get key) (as_table d)

-- ---- depth

-- the largest number, 0 where there is none
abbrev pub largest : List ℕ → ℕ
largest [] = 0
largest (n ∷ ns) = max n (largest ns)

-- the depth of a document, from those of its parts
abbrev pub depth_step : Doc-F ℕ → ℕ
depth_step Doc-F.Null = 0
depth_step (Doc-F.Bool b) = 0
depth_step (Doc-F.Int z) = 0
depth_step (Doc-F.Text t) = 0
depth_step (Doc-F.List depths) = suc (largest depths)
depth_step (Doc-F.Table depths) = suc (largest (map (λ e. e.value) depths))

-- how deep lists and tables nest: 0 for anything else, 1 for an empty one
abbrev pub depth : Doc → ℕ
depth = fold-Doc ℕ depth_step
