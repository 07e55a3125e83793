-- From what was found in the held bytes to what stands in the input.
use Rattle.std.proofs.Common.{length-append, length-drop, ◌≡◌, ◌∙◌, ℕ, ◌+◌, ◌<◌, ◌≤◌, List, [], ◌++◌, length, map, drop, sym, ap, subst, arith, append_assoc, Option}
use Rattle.std.specs.Prelude.{IsUtf8}
use Rattle.std.proofs.Math.Seq.{drop-append_seam}
use Rattle.std.proofs.lemmas.List.{take-append-drop, length-take, length-take-le, drop-drop}
use Rattle.httparse.specs.Grammar.{RequestHead, print_request, ReadsRequest}
use Rattle.httparse.specs.Spans.{IsRequestAt, name_and_value}
use Rattle.httparse.specs.declared.spans.RequestSpans.{RequestSpans}
use Rattle.httparse.specs.declared.spans.HeaderSpan.{HeaderSpan}
use Rattle.wf_wire.specs.declared.framing.Frame.{Frame}
use Rattle.wf_wire.specs.declared.framing.Frame.TheVariants as frame
use Rattle.wf_wire.specs.declared.message.Head.{Head}
use Rattle.wf_wire.specs.declared.limits.Limits.{Limits}
use Rattle.wf_wire.specs.Fields.{framing}
use Rattle.wf_wire.specs.Front.{window}
use Rattle.wf_wire.specs.Framing.{IsHead, IsOf, Says, frame_of_head, IsWhole}
use Rattle.wf_wire.specs.Reading.{pairs, Kept, Pending}
use Rattle.wf_wire.specs.MessageReading.{request_of, IsCopy, IsTaken}
use Rattle.wf_wire.proofs.ReaderLemmas.{head_here, reads_more}

pub of_copy : (buf : List ℕ) (room : List HeaderSpan) (spans : RequestSpans) (h : RequestHead) (head : Head) → IsRequestAt buf room spans h → IsCopy buf room spans head → (o : ℕ) (body : List ℕ) → IsOf h (request_of o head body)
of_copy buf room spans h head at copy o body = record {
  method = copy.method ∙ at.method;
  target = copy.target ∙ at.path;
  minor = copy.minor ∙ at.version;
  fields = copy.fields ∙ at.fields;
}

-- a head that was found in the first bytes, and what it says of the body
pub record Found (limits : Limits) (held : List ℕ) (h : RequestHead) (head : Head) (len : ℕ) : Type 0 where
  pub is : IsHead limits held h (drop len held)
  pub size : len ≡ length (print_request h)
  pub parts : (o : ℕ) (body : List ℕ) → IsOf h (request_of o head body)

window_fits : (most : ℕ) (held : List ℕ) → length (window most held) ≤ most
window_fits most held = omega (arith, length-take most held)

pub found_here : (limits : Limits) (held bytes more now : List ℕ) (room : List HeaderSpan) (spans : RequestSpans) (h : RequestHead) (head : Head) → bytes ≡ window limits.head held → IsRequestAt (window limits.head held) room spans h → length h.fields ≤ limits.fields → IsCopy bytes room spans head → now ≡ held ++ more
    → Found limits now h head spans.len
found_here limits held bytes more now room spans h head same at few copy is =
    let r : ReadsRequest (held ++ more) h (drop spans.len held ++ more) = head_here limits.head held more (drop spans.len (window limits.head held)) h spans.len at.reads at.len in
    let here : ReadsRequest now h (drop spans.len held ++ more) = subst (λ xs. ReadsRequest xs h (drop spans.len held ++ more)) (sym is) r in
    let left : drop spans.len now ≡ drop spans.len held ++ more = ap (drop spans.len) here.1 ∙ ap (λ k. drop k (print_request h ++ (drop spans.len held ++ more))) at.len ∙ drop-append_seam (print_request h) (drop spans.len held ++ more) in
    record {
      is = (subst (λ xs. ReadsRequest now h xs) (sym left) here, omega (arith, ap length at.reads.1, length-append (print_request h) (drop spans.len (window limits.head held)), window_fits limits.head held), few);
      size = at.len;
      parts = of_copy (window limits.head held) room spans h head at (subst (λ xs. IsCopy xs room spans head) same copy);
    }

pub frame_here : (limits : Limits) (h : RequestHead) (head : Head) (f : Frame) → ((o : ℕ) (body : List ℕ) → IsOf h (request_of o head body)) → framing limits.body head.minor (pairs head.fields.items) ≡ f → frame_of_head limits h ≡ f
frame_here limits h head f parts is = ap (λ m. framing limits.body m (map name_and_value h.fields)) (sym (parts 0 []).minor) ∙ ap (λ fs. framing limits.body head.minor fs) (sym (parts 0 []).fields) ∙ is

pub says_here : (limits : Limits) (held : List ℕ) (h : RequestHead) (head : Head) (len : ℕ) (f : Frame) → Found limits held h head len → framing limits.body head.minor (pairs head.fields.items) ≡ f → Says limits held f (drop len held)
says_here limits held h head len f found is = (h, (found.is, frame_here limits h head f found.parts is))

pub head_fits : (limits : Limits) (held : List ℕ) (h : RequestHead) (head : Head) (len : ℕ) → Found limits held h head len → len ≤ length held
head_fits limits held h head len found = omega (arith, found.size, ap length found.is.0.1, length-append (print_request h) (drop len held))

pub part_of_body : (limits : Limits) (held : List ℕ) (h : RequestHead) (head : Head) (len size : ℕ) → Found limits held h head len → length held < len + size → length (drop len held) < size
part_of_body limits held h head len size found short = omega (arith, short, head_fits limits held h head len found, length-drop len held)

taken_body : (held now body : List ℕ) (len size : ℕ) → IsTaken held len size body now → drop len held ≡ body ++ now
taken_body held now body len size taken = sym (take-append-drop size (drop len held)) ∙ ap (λ xs. xs ++ drop size (drop len held)) (sym taken.0) ∙ ap (λ xs. body ++ xs) (drop-drop size len held ∙ sym taken.1)

taken_size : (held now body : List ℕ) (len size : ℕ) → IsTaken held len size body now → len + size ≤ length held → length body ≡ size
taken_size held now body len size taken fits = ap length taken.0 ∙ length-take-le size (drop len held) (omega (arith, fits, length-drop len held))

whole_front : (limits : Limits) (o : ℕ) (held now body rest : List ℕ) (h : RequestHead) (head : Head) (len size : ℕ) → Found limits held h head len → framing limits.body head.minor (pairs head.fields.items) ≡ frame.Sized size → len + size ≤ length held → IsTaken held len size body now
    → IsWhole limits (held ++ rest) (request_of o head body) (now ++ rest)
whole_front limits o held now body rest h head len size found says fits taken =
    let split : drop len held ++ rest ≡ body ++ (now ++ rest) = ap (λ xs. xs ++ rest) (taken_body held now body len size taken) ∙ append_assoc body now rest in
    let reads : ReadsRequest (held ++ rest) h (body ++ (now ++ rest)) = subst (λ xs. ReadsRequest (held ++ rest) h xs) split (reads_more held rest (drop len held) h found.is.0) in
    (h, ((reads, found.is.1, found.is.2), found.parts o body, frame_here limits h head (frame.Sized size) found.parts says ∙ ap frame.Sized (sym (taken_size held now body len size taken fits))))

pub whole_here : (limits : Limits) (a c d body : List ℕ) (L N : Option (List ℕ)) (i k : ℕ) (h : RequestHead) (head : Head) (len size : ℕ) → Kept a L i c N k → Found limits c h head len → framing limits.body head.minor (pairs head.fields.items) ≡ frame.Sized size
    → len + size ≤ length c → IsTaken c len size body d
    → (length d + k ≤ length a + i) × Pending a L d N (λ p p'. ((o : ℕ) → IsWhole limits p (request_of o head body) p') × (length p + (length d + k) ≡ length p' + (length a + i)))
whole_here limits a c d body L N i k h head len size kept found says fits taken = (
  omega (arith, kept.size, ap length taken.1, length-drop (len + size) c),
  λ l told. let p = kept.same l told in (
    p.0,
    p.1,
    (
      λ o. subst (λ xs. IsWhole limits xs (request_of o head body) (d ++ p.0)) p.2 (whole_front limits o c d body p.0 h head len size found says fits taken),
      omega (arith, kept.size, ap length p.2, length-append a l, length-append c p.0, length-append d p.0),
    ),
  ),
)

-- the target of a head that was found is text
pub target_text : (limits : Limits) (held : List ℕ) (h : RequestHead) (head : Head) (len : ℕ) → Found limits held h head len → IsUtf8 head.target.items
target_text limits held h head len found = subst IsUtf8 (sym (found.parts 0 []).target) found.is.0.0.target_text
