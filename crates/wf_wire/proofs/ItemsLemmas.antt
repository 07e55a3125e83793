-- An input has one list of messages and one end.
use Rattle.std.proofs.Common.{length-append, ◌≡◌, ◌∙◌, ℕ, zero, suc, ◌+◌, ◌-◌, ◌<◌, ◌≤◌, max, List, [], ◌∷◌, ◌++◌, length, map, take, drop, refl, sym, ap, subst, arith, append_assoc, inl, inr}
use Rattle.std.specs.Prelude.{if◌then◌else◌, nat_le}
use Rattle.std.proofs.lemmas.Bool.Decides.{nat_tests}
use Rattle.std.proofs.lemmas.List.{take_all, nil_from_length, length-take}
use Rattle.std.proofs.Math.Seq.{drop-append_seam, take-append_seam}
use Rattle.httparse.specs.Grammar.{RequestHead, print_request, ReadsRequest}
use Rattle.httparse.specs.Spans.{name_and_value}
use Rattle.httparse.proofs.GrammarLemmas.{request_unique}
use Rattle.wf_wire.specs.declared.limits.Limits.{Limits}
use Rattle.wf_wire.specs.declared.framing.Frame.{Frame}
use Rattle.wf_wire.specs.declared.framing.Frame.TheVariants as frame
use Rattle.wf_wire.specs.declared.target.Part.TheVariants as Part
use Rattle.wf_wire.specs.declared.inbox.Next.{Next}
use Rattle.wf_wire.specs.declared.inbox.Next.TheVariants as next
use Rattle.wf_wire.specs.Request.{Request}
use Rattle.wf_wire.specs.Front.{window, IsBad, IsOpen, IsPart, IsLargeHead}
use Rattle.wf_wire.specs.Framing.{Says, frame_of_head, IsWhole, IsBadFrame, IsUnfinished}
use Rattle.wf_wire.specs.Items.{seen, IsMessage, IsEnd, Leads, IsItems}
use Rattle.wf_wire.proofs.RoomLemmas.{none_here, head_room}
use Rattle.wf_wire.proofs.ReaderLemmas.{take-more}
use Rattle.wf_wire.proofs.Alive.{dead}

-- ---- what stands at the front of bytes: one of six kinds

data Kind : Type 0 where
  whole : Kind
  unfinished : Kind
  bad_frame : Kind
  bad_coding : Kind
  large_head : Kind
  large_body : Kind

data Verdict : Type 0 where
  open' : Verdict
  bad : Verdict
  head : RequestHead → Verdict

abbrev Sees : ℕ → List ℕ → Verdict → Type 0
Sees most q open' = IsOpen most q
Sees most q bad = IsBad (window most q)
Sees most q (head h) = (rest : List ℕ) × ReadsRequest (window most q) h rest

sees_one : (most : ℕ) (q : List ℕ) (v w : Verdict) → Sees most q v → Sees most q w → v ≡ w
sees_one most q open' open' x y = refl
sees_one most q open' bad x y = absurd (x.1 y)
sees_one most q open' (head h) x y = absurd (x.0 h y.0 y.1)
sees_one most q bad open' x y = absurd (y.1 x)
sees_one most q bad bad x y = refl
sees_one most q bad (head h) x y = absurd (none_here (window most q) x.0 h y.0 y.1)
sees_one most q (head h) open' x y = absurd (y.0 h x.0 x.1)
sees_one most q (head h) bad x y = absurd (none_here (window most q) y.0 h x.0 x.1)
sees_one most q (head h) (head k) x y = ap head (request_unique (window most q) h k x.0 y.0 x.1 y.1).0

abbrev by_frame : ℕ → ℕ → Frame → Kind
by_frame size len (frame.Sized n) = if nat_le (len + n) size then whole else unfinished
by_frame size len frame.BadFrame = bad_frame
by_frame size len frame.BadCoding = bad_coding
by_frame size len frame.LargeBody = large_body

abbrev kind_of : Limits → ℕ → Verdict → Kind
kind_of limits size open' = if nat_le (max 1 limits.head) size then large_head else unfinished
kind_of limits size bad = bad_frame
kind_of limits size (head h) = if nat_le (length h.fields) limits.fields then by_frame size (length (print_request h)) (frame_of_head limits h) else large_head

abbrev Is : Limits → List ℕ → Kind → Type 0
Is limits q k = (v : Verdict) × (Sees limits.head q v × (kind_of limits (length q) v ≡ k))

is_one : (limits : Limits) (q : List ℕ) (k j : Kind) → Is limits q k → Is limits q j → k ≡ j
is_one limits q k j x y = sym x.1.1 ∙ ap (kind_of limits (length q)) (sees_one limits.head q x.0 y.0 x.1.0 y.1.0) ∙ y.1.1

within : {X : Type 0} (a b : ℕ) (x y : X) → a ≤ b → (if nat_le a b then x else y) ≡ x
within a b x y le = grind (arith, nat_tests)

beyond : {X : Type 0} (a b : ℕ) (x y : X) → b < a → (if nat_le a b then x else y) ≡ y
beyond a b x y lt = grind (arith, nat_tests)

-- a head that fits is seen
in_window : (most : ℕ) (q rest : List ℕ) (h : RequestHead) → ReadsRequest q h rest → length (print_request h) ≤ most → ReadsRequest (window most q) h (take (most - length (print_request h)) rest)
in_window most q rest h reads fits = (reads.0, ap (take most) reads.1 ∙ take-more most (print_request h) rest ∙ ap (λ xs. xs ++ take (most - length (print_request h)) rest) (take_all most (print_request h) fits))

of_says : (limits : Limits) (q rest : List ℕ) (f : Frame) (s : Says limits q f rest) → Is limits q (by_frame (length q) (length (print_request s.0)) f)
of_says limits q rest f s = (
  head s.0,
  (
    (take (limits.head - length (print_request s.0)) rest, in_window limits.head q rest s.0 s.1.0.0 s.1.0.1),
    within (length s.0.fields) limits.fields (by_frame (length q) (length (print_request s.0)) (frame_of_head limits s.0)) large_head s.1.0.2 ∙ ap (by_frame (length q) (length (print_request s.0))) s.1.1,
  ),
)

size_of : (q rest : List ℕ) (h : RequestHead) → ReadsRequest q h rest → length q ≡ length (print_request h) + length rest
size_of q rest h reads = ap length reads.1 ∙ length-append (print_request h) rest

of_part : (limits : Limits) (q : List ℕ) → IsPart limits q → Is limits q unfinished
of_part limits q x = (open', (x.0, beyond (max 1 limits.head) (length q) large_head unfinished x.1))

of_unfinished : (limits : Limits) (q : List ℕ) → IsUnfinished limits q → Is limits q unfinished
of_unfinished limits q x = elim x [
  | inl y ↦ of_part limits q y
  | inr y ↦ subst (Is limits q) (beyond (length (print_request y.2.0.0) + y.0) (length q) whole unfinished (omega (arith, y.2.1, size_of q y.1 y.2.0.0 y.2.0.1.0.0))) (of_says limits q y.1 (frame.Sized y.0) y.2.0)
]

of_bad_frame : (limits : Limits) (q : List ℕ) → IsBadFrame limits q → Is limits q bad_frame
of_bad_frame limits q x = elim x [ inl y ↦ (bad, (y, refl)) | inr y ↦ of_says limits q y.0 frame.BadFrame y.1 ]

of_large_head : (limits : Limits) (q : List ℕ) → IsLargeHead limits q → Is limits q large_head
of_large_head limits q x = elim x [
  | inl y ↦ (open', (y.0, within (max 1 limits.head) (length q) large_head unfinished y.1))
  | inr y ↦ (head y.0, ((y.1, y.2.0), beyond (length y.0.fields) limits.fields (by_frame (length q) (length (print_request y.0)) (frame_of_head limits y.0)) large_head y.2.1))
]

of_whole : (limits : Limits) (q rest : List ℕ) (m : Request) → IsWhole limits q m rest → Is limits q whole
of_whole limits q rest m x = subst (Is limits q) (within (length (print_request x.0) + length m.body) (length q) whole unfinished (omega (arith, size_of q (m.body ++ rest) x.0 x.1.0.0, length-append m.body rest)))
    (of_says limits q (m.body ++ rest) (frame.Sized (length m.body)) (x.0, (x.1.0, x.1.2)))

-- ---- messages

append_same : (a b c d : List ℕ) → length a ≡ length c → a ++ b ≡ c ++ d → (a ≡ c) × (b ≡ d)
append_same a b c d l e = (
  sym (take-append_seam a b) ∙ ap (take (length a)) e ∙ ap (λ k. take k (c ++ d)) l ∙ take-append_seam c d,
  sym (drop-append_seam a b) ∙ ap (drop (length a)) e ∙ ap (λ k. drop k (c ++ d)) l ∙ drop-append_seam c d,
)

made : ℕ → List ℕ → List ℕ → ℕ → List (List ℕ × List ℕ) → List ℕ → Request
made o method target minor fields body = record { offset = o; method = method; target = target; minor = minor; fields = fields; body = body }

same_request : (m n : Request) → m.offset ≡ n.offset → m.method ≡ n.method → m.target ≡ n.target → m.minor ≡ n.minor → m.fields ≡ n.fields → m.body ≡ n.body → m ≡ n
unfolding made
same_request m n offset method target minor fields body =
    ap (λ x. made x m.method m.target m.minor m.fields m.body) offset ∙ ap (λ x. made n.offset x m.target m.minor m.fields m.body) method ∙ ap (λ x. made n.offset n.method x m.minor m.fields m.body) target
    ∙ ap (λ x. made n.offset n.method n.target x m.fields m.body) minor ∙ ap (λ x. made n.offset n.method n.target n.minor x m.body) fields ∙ ap (λ x. made n.offset n.method n.target n.minor n.fields x) body

sized_same : (a b : ℕ) → frame.Sized a ≡ frame.Sized b → a ≡ b
sized_same a b e = cc

one_message : (limits : Limits) (o o1 o2 : ℕ) (p p1 p2 : List ℕ) (m n : Request) → IsMessage limits o p m o1 p1 → IsMessage limits o p n o2 p2 → (m ≡ n) × (o1 ≡ o2) × (p1 ≡ p2)
one_message limits o o1 o2 p p1 p2 m n x y =
    let same = request_unique p x.1.0 y.1.0 (m.body ++ p1) (n.body ++ p2) x.1.1.0.0 y.1.1.0.0 in
    let sizes : length m.body ≡ length n.body = sized_same (length m.body) (length n.body) (sym x.1.1.2 ∙ ap (frame_of_head limits) same.0 ∙ y.1.1.2) in
    let parts = append_same m.body p1 n.body p2 sizes same.1 in (
      same_request m n (x.0 ∙ sym y.0) (x.1.1.1.method ∙ ap (λ (h : RequestHead). h.method) same.0 ∙ sym y.1.1.1.method) (x.1.1.1.target ∙ ap (λ (h : RequestHead). h.target) same.0 ∙ sym y.1.1.1.target)
          (x.1.1.1.minor ∙ ap (λ (h : RequestHead). h.minor) same.0 ∙ sym y.1.1.1.minor) (x.1.1.1.fields ∙ ap (λ (h : RequestHead). map name_and_value h.fields) same.0 ∙ sym y.1.1.1.fields) parts.0,
      omega (arith, x.2, y.2, ap length parts.1),
      parts.1,
    )

-- a message within the limit is seen whole
seen_whole : (limits : Limits) (o o1 : ℕ) (p p1 : List ℕ) (m : Request) → IsMessage limits o p m o1 p1 → Is limits (seen limits o p) whole
seen_whole limits o o1 p p1 m x =
    let h = x.1.0 in
    let front : List ℕ = print_request h ++ m.body in
    let after : List ℕ = take (limits.input - o - length front) p1 in
    let all : p ≡ front ++ p1 = x.1.1.0.0.1 ∙ sym (append_assoc (print_request h) m.body p1) in
    let fits : length front ≤ limits.input - o = omega (arith, x.2, x.3, ap length all, length-append front p1) in
    let is : seen limits o p ≡ print_request h ++ (m.body ++ after) = ap (take (limits.input - o)) all ∙ take-more (limits.input - o) front p1 ∙ ap (λ xs. xs ++ after) (take_all (limits.input - o) front fits) ∙ append_assoc (print_request h) m.body after in
    of_whole limits (seen limits o p) after m (h, (((x.1.1.0.0.0, is), x.1.1.0.1, x.1.1.0.2), x.1.1.1, x.1.1.2))

-- ---- ends

abbrev kind_of_end : Next → Kind
kind_of_end (next.Message m) = whole
kind_of_end next.End = unfinished
kind_of_end (next.Cut a) = unfinished
kind_of_end (next.BadFrame a) = bad_frame
kind_of_end (next.BadCoding a) = bad_coding
kind_of_end (next.LargeHead a) = large_head
kind_of_end (next.LargeBody a) = large_body
kind_of_end next.LongInput = unfinished
kind_of_end next.ReadFault = whole
kind_of_end next.NoMemory = whole

at_elsewhere : Part.AtStart ≡ Part.Elsewhere → ⊥
at_elsewhere e = cc

abbrev no_list : List ℕ
no_list = []

take_none : (n : ℕ) → take n no_list ≡ no_list
take_none n = nil_from_length (take n []) (omega (arith, length-take {A = ℕ} n []))

no_bytes : (limits : Limits) → IsPart limits []
no_bytes limits = (
  (
    λ h rest x. omega (arith, size_of (take limits.head []) rest h x, head_room h x.0.fields, length-take {A = ℕ} limits.head []),
    λ b. at_elsewhere (dead [] (subst IsBad (take_none limits.head) b)),
  ),
  omega arith,
)

seen_all : (limits : Limits) (o : ℕ) (p : List ℕ) → o + length p ≤ limits.input → seen limits o p ≡ p
seen_all limits o p fits = take_all (limits.input - o) p (omega (arith, fits))

kind_at_end : (limits : Limits) (o : ℕ) (p : List ℕ) (e : Next) → IsEnd limits o p e → Is limits (seen limits o p) (kind_of_end e)
kind_at_end limits o p (next.Message m) x = absurd x
kind_at_end limits o p next.End x = subst (λ q. Is limits q unfinished) (sym (seen_all limits o p (omega (arith, x.1, ap length x.0)))) (subst (λ q. Is limits q unfinished) (sym x.0) (of_part limits [] (no_bytes limits)))
kind_at_end limits o p (next.Cut a) x = subst (λ q. Is limits q unfinished) (sym (seen_all limits o p (omega (arith, x.3)))) (of_unfinished limits p x.2)
kind_at_end limits o p (next.BadFrame a) x = of_bad_frame limits (seen limits o p) x.1
kind_at_end limits o p (next.BadCoding a) x = of_says limits (seen limits o p) x.1.0 frame.BadCoding x.1.1
kind_at_end limits o p (next.LargeHead a) x = of_large_head limits (seen limits o p) x.1
kind_at_end limits o p (next.LargeBody a) x = of_says limits (seen limits o p) x.1.0 frame.LargeBody x.1.1
kind_at_end limits o p next.LongInput x = of_unfinished limits (seen limits o p) x.1
kind_at_end limits o p next.ReadFault x = absurd x
kind_at_end limits o p next.NoMemory x = absurd x

abbrev ended : ℕ → ℕ → Next
ended o zero = next.End
ended o (suc n) = next.Cut o

-- the end at o, of a kind of what is seen there
abbrev end_of : Limits → ℕ → List ℕ → Kind → Next
end_of limits o p whole = next.NoMemory
end_of limits o p unfinished = if nat_le limits.input (o + length p) then next.LongInput else ended o (length p)
end_of limits o p bad_frame = next.BadFrame o
end_of limits o p bad_coding = next.BadCoding o
end_of limits o p large_head = next.LargeHead o
end_of limits o p large_body = next.LargeBody o

cut_here : (o : ℕ) (p : List ℕ) → ¬ (p ≡ []) → next.Cut o ≡ ended o (length p)
cut_here o [] some = absurd (some refl)
cut_here o (b ∷ p) some = refl

end_is : (limits : Limits) (o : ℕ) (p : List ℕ) (e : Next) → IsEnd limits o p e → e ≡ end_of limits o p (kind_of_end e)
end_is limits o p (next.Message m) x = absurd x
end_is limits o p next.End x = sym (beyond limits.input (o + length p) next.LongInput (ended o (length p)) (omega (arith, x.1, ap length x.0)) ∙ ap (λ q. ended o (length q)) x.0)
end_is limits o p (next.Cut a) x = ap next.Cut x.0 ∙ cut_here o p x.1 ∙ sym (beyond limits.input (o + length p) next.LongInput (ended o (length p)) x.3)
end_is limits o p (next.BadFrame a) x = ap next.BadFrame x.0
end_is limits o p (next.BadCoding a) x = ap next.BadCoding x.0
end_is limits o p (next.LargeHead a) x = ap next.LargeHead x.0
end_is limits o p (next.LargeBody a) x = ap next.LargeBody x.0
end_is limits o p next.LongInput x = sym (within limits.input (o + length p) next.LongInput (ended o (length p)) x.0)
end_is limits o p next.ReadFault x = absurd x
end_is limits o p next.NoMemory x = absurd x

one_end : (limits : Limits) (o : ℕ) (p : List ℕ) (e e' : Next) → IsEnd limits o p e → IsEnd limits o p e' → e ≡ e'
one_end limits o p e e' x y = end_is limits o p e x ∙ ap (end_of limits o p) (is_one limits (seen limits o p) (kind_of_end e) (kind_of_end e') (kind_at_end limits o p e x) (kind_at_end limits o p e' y)) ∙ sym (end_is limits o p e' y)

abbrev IsNotWhole : Kind → Type 0
IsNotWhole whole = ⊥
IsNotWhole _ = Unit {0}

not_whole : (limits : Limits) (o : ℕ) (p : List ℕ) (e : Next) → IsEnd limits o p e → IsNotWhole (kind_of_end e)
not_whole limits o p (next.Message m) x = x
not_whole limits o p next.End x = tt
not_whole limits o p (next.Cut a) x = tt
not_whole limits o p (next.BadFrame a) x = tt
not_whole limits o p (next.BadCoding a) x = tt
not_whole limits o p (next.LargeHead a) x = tt
not_whole limits o p (next.LargeBody a) x = tt
not_whole limits o p next.LongInput x = tt
not_whole limits o p next.ReadFault x = x
not_whole limits o p next.NoMemory x = x

-- where a message stands no input ends
no_end : (limits : Limits) (o o1 : ℕ) (p p1 : List ℕ) (m : Request) (e : Next) → IsMessage limits o p m o1 p1 → IsEnd limits o p e → ⊥
no_end limits o o1 p p1 m e x y = subst IsNotWhole (is_one limits (seen limits o p) (kind_of_end e) whole (kind_at_end limits o p e y) (seen_whole limits o o1 p p1 m x)) (not_whole limits o p e y)

-- ---- all of an input

one_list : (limits : Limits) (o o1 o2 : ℕ) (p q r : List ℕ) (ms ns : List Request) (e e' : Next) → Leads limits o p ms o1 q → IsEnd limits o1 q e → Leads limits o p ns o2 r → IsEnd limits o2 r e' → (ms ≡ ns) × (e ≡ e')
one_list limits o o1 o2 p q r [] [] e e' x d y d' = (refl, one_end limits o p e e' (subst (λ k. IsEnd limits k p e) (sym x.0) (subst (λ xs. IsEnd limits o1 xs e) (sym x.1) d)) (subst (λ k. IsEnd limits k p e') (sym y.0) (subst (λ xs. IsEnd limits o2 xs e') (sym y.1) d')))
one_list limits o o1 o2 p q r [] (n ∷ ns) e e' x d y d' = absurd (no_end limits o y.0 p y.1 n e y.2.0 (subst (λ k. IsEnd limits k p e) (sym x.0) (subst (λ xs. IsEnd limits o1 xs e) (sym x.1) d)))
one_list limits o o1 o2 p q r (m ∷ ms) [] e e' x d y d' = absurd (no_end limits o x.0 p x.1 m e' x.2.0 (subst (λ k. IsEnd limits k p e') (sym y.0) (subst (λ xs. IsEnd limits o2 xs e') (sym y.1) d')))
one_list limits o o1 o2 p q r (m ∷ ms) (n ∷ ns) e e' x d y d' =
    let first = one_message limits o x.0 y.0 p x.1 y.1 m n x.2.0 y.2.0 in
    let more = one_list limits x.0 o1 o2 x.1 q r ms ns e e' x.2.1 d (subst (λ k. Leads limits k x.1 ns o2 r) (sym first.1) (subst (λ xs. Leads limits y.0 xs ns o2 r) (sym first.2) y.2.1)) d' in
    (ap (λ z. z ∷ ms) first.0 ∙ ap (λ zs. n ∷ zs) more.0, more.1)

pub unique : (limits : Limits) (input : List ℕ) (ms ns : List Request) (e e' : Next) → IsItems limits input ms e → IsItems limits input ns e' → (ms ≡ ns) × (e ≡ e')
unique limits input ms ns e e' x y = one_list limits 0 x.0 y.0 input x.1 y.1 ms ns e e' x.2.0 x.2.1 y.2.0 y.2.1

first_list : (limits : Limits) (o o1 o2 : ℕ) (p q r : List ℕ) (ns ms : List Request) (e : Next) → Leads limits o p ns o1 q → Leads limits o p ms o2 r → IsEnd limits o2 r e → (rest : List Request) × (ms ≡ ns ++ rest)
first_list limits o o1 o2 p q r [] ms e x y d = (ms, refl)
first_list limits o o1 o2 p q r (n ∷ ns) [] e x y d = absurd (no_end limits o x.0 p x.1 n e x.2.0 (subst (λ k. IsEnd limits k p e) (sym y.0) (subst (λ xs. IsEnd limits o2 xs e) (sym y.1) d)))
first_list limits o o1 o2 p q r (n ∷ ns) (m ∷ ms) e x y d =
    let first = one_message limits o x.0 y.0 p x.1 y.1 n m x.2.0 y.2.0 in
    let more = first_list limits x.0 o1 o2 x.1 q r ns ms e x.2.1 (subst (λ k. Leads limits k x.1 ms o2 r) (sym first.1) (subst (λ xs. Leads limits y.0 xs ms o2 r) (sym first.2) y.2.1)) d in
    (more.0, ap (λ z. z ∷ ms) (sym first.0) ∙ ap (λ zs. n ∷ zs) more.1)

-- messages that were read stand first among those of the input
pub read_first : (limits : Limits) (input q : List ℕ) (ns ms : List Request) (o : ℕ) (e : Next) → IsItems limits input ms e → Leads limits 0 input ns o q → (rest : List Request) × (ms ≡ ns ++ rest)
read_first limits input q ns ms o e x y = first_list limits 0 o x.0 input q x.1 ns ms e y x.2.0 x.2.1
