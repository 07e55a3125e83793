-- Fields take room, so that a short head has few.
use Rattle.std.proofs.Common.{◌≡◌, ◌∙◌, ℕ, ◌+◌, ◌*◌, ◌<◌, ◌≤◌, List, [], ◌∷◌, ◌++◌, length, ap, subst, arith, append-nil, length-append, inl, inr}
use Rattle.std.specs.List.{flat_map, All}
use Rattle.std.proofs.lemmas.List.Elements.{All-head, All-tail}
use Rattle.httparse.specs.Grammar.{LineEnd, crlf, lf, print_end, print_blank, print_version, Field, print_field, IsField, print_section, RequestHead, print_request, HasNoRequest, NeverHasRequest, MayBecomeRequest}
use Rattle.httparse.specs.Spans.{RequestExceeds}
use Rattle.wf_wire.specs.Front.{IsBad}

one_end : (e : LineEnd) → 1 ≤ length (print_end e)
one_end crlf = omega arith
one_end lf = omega arith

one_field : (f : Field) → IsField f → 3 ≤ length (print_field f)
one_field f is = omega (arith, one_end f.end, is.name.0, length-append (f.name ++ 58 ∷ f.raw) (print_end f.end), length-append f.name (58 ∷ f.raw))

fields_room : (fs : List Field) → All IsField fs → 3 * length fs ≤ length (flat_map print_field fs)
fields_room [] a = omega arith
fields_room (f ∷ fs) a = omega (arith, one_field f (All-head IsField f fs a), fields_room fs (All-tail IsField f fs a), length-append (print_field f) (flat_map print_field fs))

pub head_room : (h : RequestHead) → All IsField h.fields → 3 * length h.fields + 1 ≤ length (print_request h)
unfolding print_request
head_room h a = omega (
  arith,
  fields_room h.fields a,
  one_end h.last,
  length-append (print_blank h.blank ++ h.method ++ 32 ∷ h.target ++ 32 ∷ print_version h.minor ++ print_end h.line_end) (print_section h.fields h.last),
  length-append (flat_map print_field h.fields) (print_end h.last),
)

pub few : (room : ℕ) (buf : List ℕ) → RequestExceeds room buf → length buf < 3 * room → ⊥
few room buf x wide =
    let h = x.3 in
    let size : length (x.0 ++ print_end lf) ≡ length (print_request h) = ap length (x.4.1 ∙ append-nil (print_request h)) in
    absurd (omega (arith, size, length-append x.0 (print_end lf), length-append x.0 x.1, ap length x.2, head_room h x.4.0.fields, x.5))

pub open_if_partial : (buf : List ℕ) → MayBecomeRequest buf → ¬ (IsBad buf)
open_if_partial buf may bad = elim may [ inl x ↦ bad.0 x.0 x.1 [] x.2 | inr t ↦ bad.1 t ]

pub none_here : (buf : List ℕ) → NeverHasRequest buf → HasNoRequest buf
none_here buf never = subst HasNoRequest (append-nil buf) (never [])
