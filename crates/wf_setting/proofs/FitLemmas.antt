-- Documents within the limits, and beyond them.
use Rattle.std.proofs.Common.{◌≡◌, ◌≤◌, Bool, true, false, if◌then◌else◌, ◌||◌, nat_lt, length, None, Some, refl, arith}
use Rattle.std.proofs.lemmas.Bool.Decides.{nat_tests}
use Rattle.wf_doc.specs.declared.doc.Doc.{Doc}
use Rattle.wf_doc.specs.Doc.{depth}
use Rattle.wf_doc.specs.Json.{printed}
use Rattle.wf_expr.specs.Filling.{Fits}
use Rattle.wf_rules.specs.Outputs.{is_too_large}
use Rattle.wf_wire.specs.declared.limits.Limits.{Limits}

not_beyond : (limits : Limits) (d : Doc) → Fits limits.document limits.depth d → is_too_large limits d ≡ false
not_beyond limits d fits =
    let deep : nat_lt limits.depth (depth d) ≡ false = let h = fits.1 in grind (arith, nat_tests) in
    let long : nat_lt limits.document (length (printed d)) ≡ false = let h = fits.0 in grind (arith, nat_tests) in
    rw (deep, long) refl

pub within : (limits : Limits) (d : Doc) → Fits limits.document limits.depth d → Some d ≡ (if is_too_large limits d then None else Some d)
within limits d fits = rw (not_beyond limits d fits) refl

by_tests : (limits : Limits) (d : Doc) (a b : Bool) → nat_lt limits.depth (depth d) ≡ a → nat_lt limits.document (length (printed d)) ≡ b → (Fits limits.document limits.depth d → ⊥) → (a || b) ≡ true
by_tests limits d true b e f unfit = refl
by_tests limits d false true e f unfit = refl
by_tests limits d false false e f unfit =
    let deep : depth d ≤ limits.depth = grind (arith, nat_tests) in
    let long : length (printed d) ≤ limits.document = grind (arith, nat_tests) in
    absurd (unfit (long, deep))

pub beyond : (limits : Limits) (d : Doc) → (Fits limits.document limits.depth d → ⊥) → None ≡ (if is_too_large limits d then None else Some d)
beyond limits d unfit =
    let large : is_too_large limits d ≡ true = by_tests limits d _ _ refl refl unfit in
    rw large refl

large_of : (t : Bool) (d : Doc) → None ≡ (if t then None else Some d) → t ≡ true
large_of true d e = refl
large_of false d e = cc

within_of : (t : Bool) (made d : Doc) → Some made ≡ (if t then None else Some d) → t ≡ false
within_of true made d e = cc
within_of false made d e = refl

filled_of : (t : Bool) (made d : Doc) → Some made ≡ (if t then None else Some d) → made ≡ d
filled_of true made d e = cc
filled_of false made d e = cc

-- what the answer tells
pub was_large : (limits : Limits) (d : Doc) → None ≡ (if is_too_large limits d then None else Some d) → is_too_large limits d ≡ true
was_large limits d e = large_of (is_too_large limits d) d e

pub was_within : (limits : Limits) (made d : Doc) → Some made ≡ (if is_too_large limits d then None else Some d) → is_too_large limits d ≡ false
was_within limits made d e = within_of (is_too_large limits d) made d e

pub is_filled : (limits : Limits) (made d : Doc) → Some made ≡ (if is_too_large limits d then None else Some d) → made ≡ d
is_filled limits made d e = filled_of (is_too_large limits d) made d e
