-- What stands beside a flow that is decided.
use Rattle.std.proofs.Common.{◌≡◌, ◌∙◌, ℕ, ◌+◌, ◌<◌, ◌≤◌, Bool, true, false, ◌&&◌, not, if◌then◌else◌, cond, List, [], ◌∷◌, map, filter, Option, None, Some, refl, ap, arith}
use Rattle.std.proofs.lemmas.Bool.Decides.{nat_tests}
use Rattle.wf_names.specs.FlowStatus.{flow_is_open}
use Rattle.wf_names.specs.declared.ids.FlowNo.{FlowNo}
use Rattle.wf_machine.specs.declared.sight.ChildState.{ChildState}
use Rattle.wf_machine.specs.State.{Kept}
use Rattle.wf_machine.specs.Flows.{flow_numbered, is_flow}
use Rattle.wf_rules.specs.Plans.{AllBelow}
use Rattle.wf_rules.specs.Sight.{child_state, ended_child, is_child_of}
use Rattle.wf_kept.specs.Flows.{flow_number}
use Rattle.wf_kept.specs.Rising.{RisesTo}
use Rattle.wf_kept.proofs.SearchLemmas.{rises_range}

-- children have numbers below the next one
pub children_below : (low high : ℕ) (p : Kept → Bool) (ks : List Kept) → RisesTo flow_number low high ks → AllBelow high (map child_state (filter p ks))
children_below low high p [] rising = tt
children_below low high p (k ∷ ks) rising = by_test (p k) (children_below (flow_number k + 1) high p ks rising.1) where
  by_test : (b : Bool) → AllBelow high (map child_state (filter p ks)) → AllBelow high (map child_state (if b then k ∷ filter p ks else filter p ks))
  by_test true rest = (let h = rises_range flow_number (flow_number k + 1) high ks rising.1 in omega (arith, h), rest)
  by_test false rest = rest

pub below_more : (n m : ℕ) (cs : List ChildState) → n ≤ m → AllBelow n cs → AllBelow m cs
below_more n m [] order below = tt
below_more n m (c ∷ cs) order below = (omega (arith, order, below.0), below_more n m cs order below.1)

-- ---- an ended child is found by its number

module _ (parent number : FlowNo) where
  children : List Kept → List ChildState
  children ks = map child_state (filter (is_child_of parent) ks)

  none_above : (low high : ℕ) (ks : List Kept) → RisesTo flow_number low high ks → number.0 < low → ended_child (map child_state (filter (is_child_of parent) ks)) number ≡ None
  none_above low high [] rising above = refl
  none_above low high (k ∷ ks) rising above =
      let first = rising.0 in
      let other : is_flow number k ≡ false = grind (arith, nat_tests) in
      by_test (is_child_of parent k) other (none_above (flow_number k + 1) high ks rising.1 (omega (arith, first, above)))
    where
      by_test : (b : Bool) → is_flow number k ≡ false → ended_child (map child_state (filter (is_child_of parent) ks)) number ≡ None
          → ended_child (map child_state (if b then k ∷ filter (is_child_of parent) ks else filter (is_child_of parent) ks)) number ≡ None
      by_test true other rest = ap (λ b. cond (b && not (flow_is_open k.flow.status)) (Some (child_state k)) (ended_child (map child_state (filter (is_child_of parent) ks)) number)) other ∙ rest
      by_test false other rest = rest

  pub not_kept : (low high : ℕ) (ks : List Kept) → RisesTo flow_number low high ks → flow_numbered number ks ≡ None → ended_child (map child_state (filter (is_child_of parent) ks)) number ≡ None
  not_kept low high [] rising none = refl
  not_kept low high (k ∷ ks) rising none = by_flow (is_flow number k) refl none (not_kept (flow_number k + 1) high ks rising.1) where
    by_test : (b : Bool) → is_flow number k ≡ false → ended_child (map child_state (filter (is_child_of parent) ks)) number ≡ None
        → ended_child (map child_state (if b then k ∷ filter (is_child_of parent) ks else filter (is_child_of parent) ks)) number ≡ None
    by_test true other rest = ap (λ b. cond (b && not (flow_is_open k.flow.status)) (Some (child_state k)) (ended_child (map child_state (filter (is_child_of parent) ks)) number)) other ∙ rest
    by_test false other rest = rest

    by_flow : (b : Bool) → is_flow number k ≡ b → cond b (Some k) (flow_numbered number ks) ≡ None
        → (flow_numbered number ks ≡ None → ended_child (map child_state (filter (is_child_of parent) ks)) number ≡ None)
        → ended_child (map child_state (filter (is_child_of parent) (k ∷ ks))) number ≡ None
    by_flow true e none on = cc
    by_flow false e none on = by_test (is_child_of parent k) e (on none)

  -- what is found of the child of that number
  ended : Kept → Option ChildState
  ended k = if is_child_of parent k && not (flow_is_open k.flow.status) then Some (child_state k) else None

  is_kept : (low high : ℕ) (ks : List Kept) (x : Kept) → RisesTo flow_number low high ks → flow_numbered number ks ≡ Some x
      → ended_child (map child_state (filter (is_child_of parent) ks)) number ≡ (if is_child_of parent x && not (flow_is_open x.flow.status) then Some (child_state x) else None)
  is_kept low high [] x rising found = cc
  is_kept low high (k ∷ ks) x rising found = by_flow (is_flow number k) refl found (is_kept (flow_number k + 1) high ks x rising.1) where
    rest : Option ChildState
    rest = ended_child (map child_state (filter (is_child_of parent) ks)) number

    other : (b : Bool) → is_flow number k ≡ false
        → ended_child (map child_state (if b then k ∷ filter (is_child_of parent) ks else filter (is_child_of parent) ks)) number ≡ ended_child (map child_state (filter (is_child_of parent) ks)) number
    other true e = ap (λ b. cond (b && not (flow_is_open k.flow.status)) (Some (child_state k)) (ended_child (map child_state (filter (is_child_of parent) ks)) number)) e
    other false e = refl

    mine : (b c : Bool) → is_flow number k ≡ true → ended_child (map child_state (filter (is_child_of parent) ks)) number ≡ None → not (flow_is_open k.flow.status) ≡ c
        → ended_child (map child_state (if b then k ∷ filter (is_child_of parent) ks else filter (is_child_of parent) ks)) number ≡ (if b && c then Some (child_state k) else None)
    mine true c e none is =
        ap (λ b. cond (b && not (flow_is_open k.flow.status)) (Some (child_state k)) (ended_child (map child_state (filter (is_child_of parent) ks)) number)) e
        ∙ ap (λ b. cond b (Some (child_state k)) (ended_child (map child_state (filter (is_child_of parent) ks)) number)) is
        ∙ ap (cond c (Some (child_state k))) none
    mine false c e none is = none

    by_flow : (b : Bool) → is_flow number k ≡ b → cond b (Some k) (flow_numbered number ks) ≡ Some x
        → (flow_numbered number ks ≡ Some x → ended_child (map child_state (filter (is_child_of parent) ks)) number ≡ (if is_child_of parent x && not (flow_is_open x.flow.status) then Some (child_state x) else None))
        → ended_child (map child_state (filter (is_child_of parent) (k ∷ ks))) number ≡ (if is_child_of parent x && not (flow_is_open x.flow.status) then Some (child_state x) else None)
    by_flow true e found on =
        let same : k ≡ x = cc in
        let above : number.0 < flow_number k + 1 = grind (arith, nat_tests) in
        let none = none_above (flow_number k + 1) high ks rising.1 above in
        mine (is_child_of parent k) (not (flow_is_open k.flow.status)) e none refl
        ∙ ap (λ (y : Kept). if is_child_of parent y && not (flow_is_open y.flow.status) then Some (child_state y) else None) same
    by_flow false e found on = other (is_child_of parent k) e ∙ on found

pub kept_ended : (parent number : FlowNo) (high : ℕ) (ks : List Kept) (x : Kept) → RisesTo flow_number 1 high ks → flow_numbered number ks ≡ Some x
    → (is_child_of parent x && not (flow_is_open x.flow.status)) ≡ true → ended_child (map child_state (filter (is_child_of parent) ks)) number ≡ Some (child_state x)
kept_ended parent number high ks x rising found passed = is_kept parent number 1 high ks x rising found ∙ ap (λ b. if b then Some (child_state x) else None) passed

pub kept_open : (parent number : FlowNo) (high : ℕ) (ks : List Kept) (x : Kept) → RisesTo flow_number 1 high ks → flow_numbered number ks ≡ Some x
    → (is_child_of parent x && not (flow_is_open x.flow.status)) ≡ false → ended_child (map child_state (filter (is_child_of parent) ks)) number ≡ None
kept_open parent number high ks x rising found failed = is_kept parent number 1 high ks x rising found ∙ ap (λ b. if b then Some (child_state x) else None) failed
