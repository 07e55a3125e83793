-- What was read of the held bytes is the next message of the input, or its end.
use Rattle.std.proofs.Common.{length-append, ◌≡◌, ◌∙◌, ℕ, ◌+◌, ◌-◌, ◌<◌, List, [], ◌++◌, length, take, refl, sym, ap, subst, arith, append-nil, Option, Some, inl, inr}
use Rattle.std.specs.Option.{unwrap_or}
use Rattle.std.proofs.lemmas.List.{take_all}
use Rattle.wf_wire.specs.declared.framing.Frame.{Frame}
use Rattle.wf_wire.specs.declared.limits.Limits.{Limits}
use Rattle.wf_wire.specs.declared.inbox.Next.{Next}
use Rattle.wf_wire.specs.declared.inbox.Next.TheVariants as next
use Rattle.wf_wire.specs.Framing.{Says, IsWhole, IsBadFrame, IsBadCoding, IsLargeBody, IsUnfinished}
use Rattle.wf_wire.specs.declared.message.Head.{Head}
use Rattle.wf_wire.specs.Request.{Request}
use Rattle.wf_wire.specs.Inbox.{InboxState, inbox_of}
use Rattle.wf_wire.specs.Items.{seen, IsMessage, IsNext, Coming}
use Rattle.wf_wire.specs.Reading.{Kept, IsAtEnd, Pending}
use Rattle.wf_wire.specs.MessageReading.{request_of, IsEnded}
use Rattle.wf_wire.proofs.ReaderLemmas.{take-more, bad_lifts, reads_more}

says_more : (limits : Limits) (b rest : List ℕ) (f : Frame) (r : List ℕ) → Says limits b f r → Says limits (b ++ rest) f (r ++ rest)
says_more limits b rest f r s = (s.0, ((reads_more b rest r s.0 s.1.0.0, s.1.0.1, s.1.0.2), s.1.1))

pub bad_frame_lifts : (limits : Limits) (b rest : List ℕ) → IsBadFrame limits b → IsBadFrame limits (b ++ rest)
bad_frame_lifts limits b rest x = elim x [ inl y ↦ inl (bad_lifts limits.head b rest y) | inr y ↦ inr (y.0 ++ rest, says_more limits b rest _ y.0 y.1) ]

pub bad_coding_lifts : (limits : Limits) (b rest : List ℕ) → IsBadCoding limits b → IsBadCoding limits (b ++ rest)
bad_coding_lifts limits b rest x = (x.0 ++ rest, says_more limits b rest _ x.0 x.1)

pub large_body_lifts : (limits : Limits) (b rest : List ℕ) → IsLargeBody limits b → IsLargeBody limits (b ++ rest)
large_body_lifts limits b rest x = (x.0 ++ rest, says_more limits b rest _ x.0 x.1)

seen_of : (limits : Limits) (o : ℕ) (b p rest : List ℕ) (cap : ℕ) → o + (length b + cap) ≡ limits.input → b ++ rest ≡ p → seen limits o p ≡ b ++ take cap rest
seen_of limits o b p rest cap sum is =
    ap (take (limits.input - o)) (sym is) ∙ take-more (limits.input - o) b rest
    ∙ ap (λ xs. xs ++ take (limits.input - o - length b) rest) (take_all (limits.input - o) b (omega (arith, sum)))
    ∙ ap (λ k. b ++ take k rest) (let e : limits.input - o - length b ≡ cap = omega (arith, sum) in e)

-- a fault of the held bytes is one of those that are seen
pub faulty : (limits : Limits) (s : InboxState) (o : ℕ) (a b : List ℕ) (L M : Option (List ℕ)) (i j : ℕ) (Q : List ℕ → Type 0) → inbox_of o a ≡ s → ((rest : List ℕ) → Q (b ++ rest)) → o + (length a + i) ≡ limits.input → Kept a L i b M j
    → Coming s.held L b M (λ p left p'. (o ≡ s.offset) × Q (seen limits s.offset p))
faulty limits s o a b L M i j Q is holds sum kept = subst (λ x. Coming x.held L b M (λ p left p'. (o ≡ x.offset) × Q (seen limits x.offset p))) is (λ l told. let same = kept.same l told in
    (same.0, same.1, (refl, subst Q (sym (seen_of limits o b (a ++ l) same.0 j (omega (arith, sum, kept.size)) same.2)) (holds (take j same.0)))))

some_is : (x y : List ℕ) → Some x ≡ Some y → x ≡ y
some_is x y e = ap (λ o. unwrap_or o []) e

nothing_left : (L M : Option (List ℕ)) (j : ℕ) (l rest : List ℕ) → 0 < j → IsAtEnd L j M → L ≡ Some l → M ≡ Some rest → rest ≡ []
nothing_left L M j l rest some end told told' = elim end [ inl z ↦ absurd (omega (arith, some, z)) | inr none ↦ some_is rest [] (sym told' ∙ none l told) ]

ended_here : (limits : Limits) (o o' : ℕ) (a b : List ℕ) (L M : Option (List ℕ)) (i j : ℕ) (r : Next) → o + (length a + i) ≡ limits.input → Kept a L i b M j → IsUnfinished limits b → IsAtEnd L j M → IsEnded b j o r
    → Coming a L b M (λ p left p'. IsNext limits o p left r o' p')
ended_here limits o o' a b L M i j next.LongInput sum kept part end none = λ l told. let s = kept.same l told in (
  s.0,
  s.1,
  (
    omega (arith, sum, kept.size, none, ap length s.2, length-append b s.0),
    subst (IsUnfinished limits) (sym (seen_of limits o b (a ++ l) s.0 j (omega (arith, sum, kept.size)) s.2 ∙ ap (λ k. b ++ take k s.0) none ∙ append-nil b)) part,
  ),
)
ended_here limits o o' a b L M i j next.End sum kept part end none = λ l told. let s = kept.same l told in
    let empty : s.0 ≡ [] = nothing_left L M j l s.0 none.0 end told s.1 in
    (s.0, s.1, (sym s.2 ∙ ap (λ xs. xs ++ s.0) none.1 ∙ empty, omega (arith, sum, kept.size, none.0)))
ended_here limits o o' a b L M i j (next.Cut k) sum kept part end none = λ l told. let s = kept.same l told in
    let empty : s.0 ≡ [] = nothing_left L M j l s.0 none.0 end told s.1 in
    let all : b ≡ a ++ l = sym (append-nil b) ∙ ap (λ xs. b ++ xs) (sym empty) ∙ s.2 in
    (s.0, s.1, (none.2, λ e. none.1 (all ∙ e), subst (IsUnfinished limits) all part, omega (arith, sum, kept.size, none.0, ap length all)))
ended_here limits o o' a b L M i j (next.Message m) sum kept part end none = absurd none
ended_here limits o o' a b L M i j (next.BadFrame k) sum kept part end none = absurd none
ended_here limits o o' a b L M i j (next.BadCoding k) sum kept part end none = absurd none
ended_here limits o o' a b L M i j (next.LargeHead k) sum kept part end none = absurd none
ended_here limits o o' a b L M i j (next.LargeBody k) sum kept part end none = absurd none
ended_here limits o o' a b L M i j next.ReadFault sum kept part end none = absurd none
ended_here limits o o' a b L M i j next.NoMemory sum kept part end none = absurd none

pub ended_next : (limits : Limits) (s s' : InboxState) (o : ℕ) (a b : List ℕ) (L M : Option (List ℕ)) (i j : ℕ) (r : Next) → inbox_of o a ≡ s → s'.held ≡ b → o + (length a + i) ≡ limits.input → Kept a L i b M j → IsUnfinished limits b → IsAtEnd L j M → IsEnded b j o r
    → Coming s.held L s'.held M (λ p left p'. IsNext limits s.offset p left r s'.offset p')
ended_next limits s s' o a b L M i j r is now sum kept part end none =
    subst (λ x. Coming x.held L s'.held M (λ p left p'. IsNext limits x.offset p left r s'.offset p')) is
    (subst (λ xs. Coming a L xs M (λ p left p'. IsNext limits o p left r s'.offset p')) (sym now) (ended_here limits o s'.offset a b L M i j r sum kept part end none))

pub whole_next : (limits : Limits) (s : InboxState) (o o' : ℕ) (a d : List ℕ) (L N : Option (List ℕ)) (i k : ℕ) (head : Head) (body : List ℕ) (m : Request) → inbox_of o a ≡ s → m ≡ request_of o head body
    → o + (length a + i) ≡ limits.input → o' + (length d + k) ≡ limits.input
    → Pending a L d N (λ p p'. ((n : ℕ) → IsWhole limits p (request_of n head body) p') × (length p + (length d + k) ≡ length p' + (length a + i)))
    → Coming s.held L d N (λ p left p'. IsMessage limits s.offset p m o' p')
whole_next limits s o o' a d L N i k head body m is made sum sum' found =
    subst (λ x. Coming x.held L d N (λ p left p'. IsMessage limits x.offset p m o' p')) is
    (λ l told. let f = found l told in (f.0, f.1, subst (λ x. IsMessage limits o (a ++ l) x o' (d ++ f.0)) (sym made) (refl, f.2.0 o, omega (arith, sum, sum', f.2.1), omega (arith, sum'))))
