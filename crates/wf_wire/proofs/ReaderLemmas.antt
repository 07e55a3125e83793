-- Bytes that go from a source to the held ones.
use Rattle.std.proofs.Common.{length-append, ◌≡◌, ◌∙◌, ℕ, zero, suc, ◌-◌, ◌<◌, ◌≤◌, max, List, [], ◌∷◌, ◌++◌, length, take, drop, refl, sym, ap, subst, arith, append_assoc, append-nil, Option, Some, Ok, inl, inr}
use Rattle.std.proofs.Math.Seq.{drop-append_seam}
use Rattle.std.proofs.lemmas.List.{take-append-drop, length-take}
use Rattle.httparse.specs.Grammar.{RequestHead, print_request, ReadsRequest, HasNoRequest}
use Rattle.wf_wire.specs.declared.limits.Limits.{Limits}
use Rattle.wf_wire.specs.Front.{IsBad, window, IsPart, IsLargeHead}
use Rattle.wf_wire.specs.Stream.{Gives}
use Rattle.wf_wire.specs.Reading.{Kept, IsAtEnd, Tells}
use Rattle.wf_wire.proofs.Alive.{bad_more}

pub kept_none : (held : List ℕ) (left : Option (List ℕ)) (cap : ℕ) → Kept held left cap held left cap
kept_none held left cap = record { size = refl; grown = ([], sym (append-nil held)); same = λ l told. (l, told, refl) }

pub kept_more : (a b c : List ℕ) (L M N : Option (List ℕ)) (i j k : ℕ) → Kept a L i b M j → Kept b M j c N k → Kept a L i c N k
kept_more a b c L M N i j k x y = record {
  size = omega (arith, x.size, y.size);
  grown = (x.grown.0 ++ y.grown.0, y.grown.1 ∙ ap (λ xs. xs ++ y.grown.0) x.grown.1 ∙ append_assoc a x.grown.0 y.grown.0);
  same = λ l told. let p = x.same l told in let q = y.same p.0 p.1 in (q.0, q.1, q.2 ∙ p.2);
}

pub tells : (a b : List ℕ) (L M : Option (List ℕ)) (i j : ℕ) → Kept a L i b M j → Tells L M
tells a b L M i j x = λ l told. let p = x.same l told in (p.0, p.1)

pub tells_more : (a b : List ℕ) (L M N : Option (List ℕ)) (i j : ℕ) → Kept a L i b M j → Tells M N → Tells L N
tells_more a b L M N i j x t = λ l told. let p = x.same l told in t p.0 p.1

pub ends_more : (a b : List ℕ) (L M N : Option (List ℕ)) (i j k : ℕ) → Kept a L i b M j → IsAtEnd M k N → IsAtEnd L k N
ends_more a b L M N i j k x t = elim t [ inl z ↦ inl z | inr e ↦ inr (λ l told. let p = x.same l told in e p.0 p.1) ]

pub none_given : (held : List ℕ) (cap n : ℕ) (L M : Option (List ℕ)) (room : List ℕ) → n ≡ 0 → 0 < length room → Gives L M room (Ok n)
    → Kept held L cap held M cap × IsAtEnd L cap M
none_given held cap n L M room none some gives =
    let empty : (l : List ℕ) → (told : L ≡ Some l) → (gives.1 l told).0 ≡ [] = λ l told. let g = gives.1 l told in
    sym (ap (λ k. take k room ++ g.0) none) ∙ sym g.2 ∙ g.3 none some in (
      record {
        size = refl;
        grown = ([], sym (append-nil held));
        same = λ l told. let g = gives.1 l told in (g.0, g.1, ap (λ xs. held ++ xs) (empty l told ∙ sym (g.3 none some)));
      },
      inr (λ l told. (gives.1 l told).1 ∙ ap Some (empty l told)),
    )

-- ---- what is seen of the first bytes

pub window_short : (most : ℕ) (held bytes : List ℕ) → bytes ≡ window most held → length bytes ≤ most
window_short most held bytes is = omega (arith, ap length is, length-take most held)

pub part_here : (limits : Limits) (held bytes : List ℕ) → bytes ≡ window limits.head held → HasNoRequest bytes → ¬ (IsBad bytes) → length held < max 1 limits.head → IsPart limits held
part_here limits held bytes is none not_bad short = ((subst HasNoRequest is none, λ b. not_bad (subst IsBad (sym is) b)), short)

pub full_here : (limits : Limits) (held bytes : List ℕ) → bytes ≡ window limits.head held → HasNoRequest bytes → ¬ (IsBad bytes) → max 1 limits.head ≤ length held → IsLargeHead limits held
full_here limits held bytes is none not_bad full = inl ((subst HasNoRequest is none, λ b. not_bad (subst IsBad (sym is) b)), full)

pub many_here : (limits : Limits) (held bytes : List ℕ) (h : RequestHead) (rest : List ℕ) → bytes ≡ window limits.head held → ReadsRequest bytes h rest → limits.fields < length h.fields → IsLargeHead limits held
many_here limits held bytes h rest is reads many = inr (h, rest, (subst (λ xs. ReadsRequest xs h rest) is reads, many))

-- ---- what holds of the held bytes holds of all that is pending

pub take-more : (n : ℕ) (xs ys : List ℕ) → take n (xs ++ ys) ≡ take n xs ++ take (n - length xs) ys
take-more zero xs ys = ap (λ k. take k ys) (let e : 0 ≡ 0 - length xs = omega arith in e)
take-more (suc n) [] ys = ap (λ k. take k ys) (let e : suc n ≡ suc n - 0 = omega arith in e)
take-more (suc n) (x ∷ xs) ys = ap (λ zs. x ∷ zs) (take-more n xs ys ∙ ap (λ k. take n xs ++ take k ys) (let e : n - length xs ≡ suc n - suc (length xs) = omega arith in e))

pub bad_lifts : (most : ℕ) (held rest : List ℕ) → IsBad (window most held) → IsBad (window most (held ++ rest))
bad_lifts most held rest bad = subst IsBad (sym (take-more most held rest)) (bad_more (window most held) (take (most - length held) rest) bad)

pub reads_more : (bytes more rest : List ℕ) (h : RequestHead) → ReadsRequest bytes h rest → ReadsRequest (bytes ++ more) h (rest ++ more)
reads_more bytes more rest h r = (r.0, ap (λ xs. xs ++ more) r.1 ∙ append_assoc (print_request h) rest more)

window_full : (most : ℕ) (held rest : List ℕ) → most ≤ length held → window most held ≡ window most (held ++ rest)
window_full most held rest full =
    let no_more : most - length held ≡ 0 = omega (arith, full) in
    sym (append-nil (window most held)) ∙ ap (λ k. window most held ++ take k rest) (sym no_more) ∙ sym (take-more most held rest)

pub large_lifts : (limits : Limits) (held rest : List ℕ) → IsLargeHead limits held → IsLargeHead limits (held ++ rest)
large_lifts limits held rest large = elim large [
  | inl x ↦ (let same = window_full limits.head held rest (omega (arith, x.1)) in
      inl ((subst HasNoRequest same x.0.0, λ b. x.0.1 (subst IsBad (sym same) b)), omega (arith, x.1, length-append held rest)))
  | inr y ↦ inr (y.0, y.1 ++ take (limits.head - length held) rest, (subst (λ xs. ReadsRequest xs y.0 (y.1 ++ take (limits.head - length held) rest)) (sym (take-more limits.head held rest)) (reads_more (window limits.head held) (take (limits.head - length held) rest) y.1 y.0 y.2.0), y.2.1))
]

-- a head of the first bytes is one of the held bytes
pub head_here : (most : ℕ) (held rest after : List ℕ) (h : RequestHead) (n : ℕ) → ReadsRequest (window most held) h after → n ≡ length (print_request h) → ReadsRequest (held ++ rest) h (drop n held ++ rest)
head_here most held rest after h n r size =
    let all : held ≡ print_request h ++ (after ++ drop most held) = sym (take-append-drop most held) ∙ ap (λ xs. xs ++ drop most held) r.1 ∙ append_assoc (print_request h) after (drop most held) in
    let left : drop n held ≡ after ++ drop most held = ap (λ k. drop k held) size ∙ ap (drop (length (print_request h))) all ∙ drop-append_seam (print_request h) (after ++ drop most held) in
    reads_more held rest (drop n held) h (r.0, all ∙ ap (λ xs. print_request h ++ xs) (sym left))
