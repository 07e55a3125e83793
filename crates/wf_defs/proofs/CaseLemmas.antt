-- Cases by their keys, one list after another.
use Rattle.std.proofs.Common.{◌≡◌, ℕ, ap, refl, sym, ◌∙◌, ◌<◌, ◌≤◌, List, [], ◌∷◌, ◌++◌, length, get_or, arith}
use Rattle.wf_doc.specs.declared.doc.Doc.{Doc}
use Rattle.wf_doc.specs.declared.fields.Entry.{Entry}
use Rattle.wf_machine.specs.declared.definition.Node.{Node}
use Rattle.wf_defs.specs.NodeReading.{case_of, cases_of}

pub cases_of_none : (es : List (Entry Doc)) → cases_of es [] ≡ []
cases_of_none [] = refl
cases_of_none (e ∷ es) = refl

-- a list more, for which there is a key
pub cases_of_more : (es : List (Entry Doc)) (lists : List (List Node)) (nodes : List Node) (e : Entry Doc) → length lists < length es → e ≡ get_or es (length lists) e → cases_of es (lists ++ nodes ∷ []) ≡ cases_of es lists ++ case_of e.key nodes ∷ []
cases_of_more [] lists nodes e within here = absurd (omega (arith, within))
cases_of_more (x ∷ es) [] nodes e within here =
    ap (λ rest. case_of x.key nodes ∷ rest) (cases_of_none es) ∙ ap (λ (y : Entry Doc). case_of y.key nodes ∷ []) (sym here)
cases_of_more (x ∷ es) (y ∷ lists) nodes e within here = ap (λ rest. case_of x.key y ∷ rest) (cases_of_more es lists nodes e (omega (arith, within)) here)

-- a list more, for which there is none
pub cases_of_over : (es : List (Entry Doc)) (lists : List (List Node)) (nodes : List Node) → length es ≤ length lists → cases_of es (lists ++ nodes ∷ []) ≡ cases_of es lists
cases_of_over [] lists nodes over = refl
cases_of_over (x ∷ es) [] nodes over = absurd (omega (arith, over))
cases_of_over (x ∷ es) (y ∷ lists) nodes over = ap (λ rest. case_of x.key y ∷ rest) (cases_of_over es lists nodes (omega (arith, over)))

-- an entry at a place that is named in two ways
pub at_place : (es : List (Entry Doc)) (n m : ℕ) (e : Entry Doc) → n ≡ m → e ≡ get_or es n e → e ≡ get_or es m e
at_place es n m e same here = here ∙ ap (λ k. get_or es k e) same
