-- The keys of a template, one after another.
use Rattle.std.proofs.Common.{◌≡◌, ℕ, ◌+◌, ◌<◌, ◌≤◌, if◌then◌else◌, List, drop, length, get_or, refl}
use Rattle.std.specs.Prelude.{is_some}
use Rattle.std.proofs.lemmas.List.{drop_more}
use Rattle.std.proofs.Math.ListN.{drop_of_length-le}
use Rattle.wf_doc.specs.declared.doc.Doc.{Doc}
use Rattle.wf_doc.specs.declared.fields.Entry.{Entry}
use Rattle.wf_doc.specs.Fields.{get, put}
use Rattle.wf_machine.specs.Naming.{with_missing}

pub missing_more : (ts : List (Entry Doc)) (k : ℕ) (t : Entry Doc) (es more : List (Entry Doc)) → k < length ts → t ≡ get_or ts k t
    → more ≡ (if is_some (get t.key es) then es else put t.key t.value es) → with_missing (drop (k + 1) ts) more ≡ with_missing (drop k ts) es
missing_more ts k t es more within is made = rw (drop_more ts k t within, ← is, made) refl

pub missing_all : (ts : List (Entry Doc)) (k : ℕ) (es : List (Entry Doc)) → length ts ≤ k → with_missing (drop k ts) es ≡ es
missing_all ts k es past = rw (drop_of_length-le ts past) refl
