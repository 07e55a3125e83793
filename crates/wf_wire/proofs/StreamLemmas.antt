-- Messages one after another.
use Rattle.std.proofs.Common.{◌≡◌, ℕ, List, [], ◌∷◌, ◌++◌, refl, sym, ap, subst, Option, Some}
use Rattle.wf_wire.specs.declared.limits.Limits.{Limits}
use Rattle.wf_wire.specs.declared.inbox.Next.{Next}
use Rattle.wf_wire.specs.declared.inbox.Next.TheVariants.{NoMemory}
use Rattle.wf_wire.specs.Request.{Request}
use Rattle.wf_wire.specs.Inbox.{InboxState, empty_inbox}
use Rattle.wf_wire.specs.Items.{IsMessage, IsStop, Leads, AllRead, Coming}

one_more : (limits : Limits) (o o1 o2 : ℕ) (p q r : List ℕ) (ms : List Request) (m : Request) → Leads limits o p ms o1 q → IsMessage limits o1 q m o2 r → Leads limits o p (ms ++ m ∷ []) o2 r
one_more limits o o1 o2 p q r [] m so next = (o2, r, (subst (λ k. IsMessage limits k p m o2 r) (sym so.0) (subst (λ x. IsMessage limits o1 x m o2 r) (sym so.1) next), (refl, refl)))
one_more limits o o1 o2 p q r (n ∷ ms) m so next = (so.0, so.1, (so.2.0, one_more limits so.0 o1 o2 so.1 q r ms m so.2.1 next))

-- what was found leads from the whole input to what is pending
abbrev pub SoFar : Limits → Option (List ℕ) → List Request → InboxState → Option (List ℕ) → Type 0
SoFar limits L ms inbox M = (input : List ℕ) → L ≡ Some input → (rest : List ℕ) × (M ≡ Some rest) × Leads limits 0 input ms inbox.offset (inbox.held ++ rest)

pub start : (limits : Limits) (L : Option (List ℕ)) (ms : List Request) (inbox : InboxState) → ms ≡ [] → inbox ≡ empty_inbox → SoFar limits L ms inbox L
start limits L ms inbox none fresh = λ input told. (input, told, subst (λ xs. Leads limits 0 input xs inbox.offset (inbox.held ++ input)) (sym none) (sym (ap (λ (i : InboxState). i.offset) fresh), ap (λ (i : InboxState). i.held ++ input) (sym fresh)))

pub step : (limits : Limits) (L M N : Option (List ℕ)) (ms new : List Request) (m : Request) (a b : InboxState) → SoFar limits L ms a M → Coming a.held M b.held N (λ p left p'. IsMessage limits a.offset p m b.offset p') → new ≡ ms ++ m ∷ []
    → SoFar limits L new b N
step limits L M N ms new m a b so next made = λ input told. let x = so input told in let y = next x.0 x.1 in
    (y.0, y.1, subst (λ xs. Leads limits 0 input xs b.offset (b.held ++ y.0)) (sym made) (one_more limits 0 a.offset b.offset input (a.held ++ x.0) (b.held ++ y.0) ms m x.2 y.2))

pub finish : (limits : Limits) (L M N : Option (List ℕ)) (ms : List Request) (a b : InboxState) (end : Next) → SoFar limits L ms a M → Coming a.held M b.held N (λ p left p'. IsStop limits a.offset p left end) → AllRead limits L N ms end
finish limits L M N ms a b end so next = λ input told. let x = so input told in let y = next x.0 x.1 in
    (y.0, y.1, (a.offset, a.held ++ x.0, (x.2, y.2)))

pub starved : (limits : Limits) (L M : Option (List ℕ)) (ms : List Request) (a : InboxState) → SoFar limits L ms a M → AllRead limits L M ms NoMemory
starved limits L M ms a so = λ input told. let x = so input told in (x.0, x.1, (a.offset, a.held ++ x.0, (x.2, tt)))
