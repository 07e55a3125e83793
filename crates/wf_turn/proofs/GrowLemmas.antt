-- A turn after acts has come further: its flow is the same one, with more attempts and more children.
use Rattle.std.proofs.Common.{◌≡◌, ℕ, zero, suc, ◌+◌, Bool, true, false, if◌then◌else◌, List, [], ◌∷◌, ◌++◌, map, length, Some, refl, sym, ap, ◌∙◌, append_assoc, subst, arith}
use Rattle.std.proofs.lemmas.List.{append-nil, length-append, map-append}
use Rattle.wf_names.specs.TaskStatus.{task_is_open}
use Rattle.wf_names.specs.declared.statuses.TaskStatus.TheVariants as task
use Rattle.wf_rules.specs.declared.acting.Act.{Act}
use Rattle.wf_rules.specs.declared.acting.Act.TheVariants.{Add, Close, Note, Forgive, Turn as TurnOn, Variables, NoteFlow, End}
use Rattle.wf_rules.specs.declared.acting.Alert.{Alert}
use Rattle.wf_rules.specs.declared.acting.Alert.TheVariants.{Poll as PollAlert, Total as TotalAlert}
use Rattle.wf_rules.specs.declared.acting.Child.{Child}
use Rattle.wf_rules.specs.declared.acting.Child.TheVariants.{Nothing, Flow as NewFlow, TooLarge, Refused}
use Rattle.wf_machine.specs.State.{Attempt, Flow, RisingTo, canceled}
use Rattle.wf_rules.specs.Acts.{Turn, make, made, at_place, added, births, closed, forgiven, noted, started, turned}
use Rattle.wf_rules.proofs.MakeLemmas.{rising_added, rising_at, rising_through}
use Rattle.wf_turn.specs.Growing.{AreMoreAttempts, AreMoreChildren, AreNewFlows, IsLaterTurn, attempt_number}

-- ---- attempts

-- a change leaves each number
abbrev KeepsNumber : (Attempt → Attempt) → Type 0
KeepsNumber change = (a : Attempt) → (change a).number ≡ a.number

numbers_at : (p : ℕ) (change : Attempt → Attempt) (xs : List Attempt) → KeepsNumber change → map attempt_number (at_place p change xs) ≡ map attempt_number xs
numbers_at p change [] keeps = refl
numbers_at zero change (x ∷ xs) keeps = ap (λ n. n.0 ∷ map attempt_number xs) (keeps x)
numbers_at (suc p) change (x ∷ xs) keeps = ap (λ ns. attempt_number x ∷ ns) (numbers_at p change xs keeps)

numbers_through : (change : Attempt → Attempt) (xs : List Attempt) → KeepsNumber change → map attempt_number (map change xs) ≡ map attempt_number xs
numbers_through change [] keeps = refl
numbers_through change (x ∷ xs) keeps =
    ap (λ n. n.0 ∷ map attempt_number (map change xs)) (keeps x) ∙ ap (λ ns. attempt_number x ∷ ns) (numbers_through change xs keeps)

-- a place stands in the first list, or in the one behind it
split_at : (p : ℕ) (change : Attempt → Attempt) (old first more : List Attempt) (low high : ℕ) → KeepsNumber change → map attempt_number first ≡ map attempt_number old → RisingTo low high more
    → AreMoreAttempts old (at_place p change (first ++ more)) low high
split_at p change old [] more low high keeps numbers rising =
    record { first = []; more = at_place p change more; is = refl; numbers = numbers; rising = rising_at low high p change more keeps rising }
split_at zero change old (x ∷ first) more low high keeps numbers rising =
    record { first = change x ∷ first; more = more; is = refl; numbers = ap (λ n. n.0 ∷ map attempt_number first) (keeps x) ∙ numbers; rising = rising }
split_at (suc p) change [] (x ∷ first) more low high keeps numbers rising = cc
split_at (suc p) change (y ∷ old) (x ∷ first) more low high keeps numbers rising =
    let head : attempt_number x ≡ attempt_number y = cc in
    let tail : map attempt_number first ≡ map attempt_number old = cc in
    let h = split_at p change old first more low high keeps tail rising in
    record {
      first = x ∷ h.first;
      more = h.more;
      is = ap (λ xs. x ∷ xs) h.is;
      numbers = ap (λ n. n ∷ map attempt_number h.first) head ∙ ap (λ ns. attempt_number y ∷ ns) h.numbers;
      rising = h.rising;
    }

more_at : (p : ℕ) (change : Attempt → Attempt) (old xs : List Attempt) (low high : ℕ) → KeepsNumber change → AreMoreAttempts old xs low high → AreMoreAttempts old (at_place p change xs) low high
more_at p change old xs low high keeps h =
    subst (λ ys. AreMoreAttempts old (at_place p change ys) low high) (sym h.is) (split_at p change old h.first h.more low high keeps h.numbers h.rising)

more_through : (change : Attempt → Attempt) (old xs : List Attempt) (low high : ℕ) → KeepsNumber change → AreMoreAttempts old xs low high → AreMoreAttempts old (map change xs) low high
more_through change old xs low high keeps h = record {
  first = map change h.first;
  more = map change h.more;
  is = ap (map change) h.is ∙ map-append change h.first h.more;
  numbers = numbers_through change h.first keeps ∙ h.numbers;
  rising = rising_through low high change h.more keeps h.rising;
}

pub more_none : (xs : List Attempt) (n : ℕ) → AreMoreAttempts xs xs n n
more_none xs n = record { first = xs; more = []; is = sym (append-nil xs); numbers = refl; rising = omega arith }

noted_number : (e : ℕ) (alert : Alert) (r : List ℕ) → KeepsNumber (noted e alert r)
noted_number e PollAlert r a = refl
noted_number e TotalAlert r a = refl

canceled_number : (e : ℕ) → KeepsNumber (canceled e)
canceled_number e a = by_open (task_is_open a.status) where
  by_open : (b : Bool) → (if b then record a { status = task.Canceled; updated = e; ended = Some e } else a).number ≡ a.number
  by_open true = refl
  by_open false = refl

attempts_made : (e low : ℕ) (old : List Attempt) (act : Act) (t : Turn) → AreMoreAttempts old t.flow.attempts low t.next_task → AreMoreAttempts old (make e act t).flow.attempts low (make e act t).next_task
attempts_made e low old (Add n) t h = record {
  first = h.first;
  more = h.more ++ added e n t ∷ [];
  is = ap (λ xs. xs ++ added e n t ∷ []) h.is ∙ append_assoc h.first h.more (added e n t ∷ []);
  numbers = h.numbers;
  rising = rising_added low t.next_task h.more (added e n t) h.rising (omega arith);
}
attempts_made e low old (Close p o r out) t h = more_at p (closed e o r out) old t.flow.attempts low t.next_task (λ a. refl) h
attempts_made e low old (Note p alert r) t h = more_at p (noted e alert r) old t.flow.attempts low t.next_task (noted_number e alert r) h
attempts_made e low old (Forgive p) t h = more_at p (forgiven e) old t.flow.attempts low t.next_task (λ a. refl) h
attempts_made e low old (TurnOn p out turn) t h = more_at p (turned e out turn) old t.flow.attempts low t.next_task (λ a. refl) h
attempts_made e low old (Variables v) t h = h
attempts_made e low old (NoteFlow r) t h = h
attempts_made e low old (End status r out) t h = more_through (canceled e) old t.flow.attempts low t.next_task (canceled_number e) h

-- ---- children

new_append : (first : ℕ) (xs ys : List Flow) → AreNewFlows first xs → AreNewFlows (first + length xs) ys → AreNewFlows first (xs ++ ys)
new_append first [] ys h k = subst (λ n. AreNewFlows n ys) (omega arith) k
new_append first (x ∷ xs) ys h k =
    (h.0, h.1, new_append (first + 1) xs ys h.2 (subst (λ n. AreNewFlows n ys) (omega arith) k))

new_started : (e : ℕ) (t : Turn) (child : Child) → AreNewFlows t.next_flow (started e t child)
new_started e t Nothing = tt
new_started e t (NewFlow def input) = (refl, refl, tt)
new_started e t TooLarge = tt
new_started e t Refused = tt

count_started : (e : ℕ) (t : Turn) (child : Child) → length (started e t child) ≡ births child
count_started e t Nothing = refl
count_started e t (NewFlow def input) = refl
count_started e t TooLarge = refl
count_started e t Refused = refl

children_made : (e : ℕ) (act : Act) (old t : Turn) → AreMoreChildren old t → AreMoreChildren old (make e act t)
children_made e (Add n) old t h = record {
  more = h.more ++ started e t n.child;
  is = ap (λ xs. xs ++ started e t n.child) h.is ∙ append_assoc old.children h.more (started e t n.child);
  fresh = new_append old.next_flow h.more (started e t n.child) h.fresh (subst (λ k. AreNewFlows k (started e t n.child)) h.next_flow (new_started e t n.child));
  next_flow =
      let so_far = h.next_flow in
      let count = count_started e t n.child in
      let sum = length-append h.more (started e t n.child) in
      omega (arith, so_far, count, sum);
}
children_made e (Close p o r out) old t h = record { more = h.more; is = h.is; fresh = h.fresh; next_flow = h.next_flow }
children_made e (Note p alert r) old t h = record { more = h.more; is = h.is; fresh = h.fresh; next_flow = h.next_flow }
children_made e (Forgive p) old t h = record { more = h.more; is = h.is; fresh = h.fresh; next_flow = h.next_flow }
children_made e (TurnOn p out turn) old t h = record { more = h.more; is = h.is; fresh = h.fresh; next_flow = h.next_flow }
children_made e (Variables v) old t h = record { more = h.more; is = h.is; fresh = h.fresh; next_flow = h.next_flow }
children_made e (NoteFlow r) old t h = record { more = h.more; is = h.is; fresh = h.fresh; next_flow = h.next_flow }
children_made e (End status r out) old t h = record { more = h.more; is = h.is; fresh = h.fresh; next_flow = h.next_flow }

-- ---- turns

abbrev IsSameFlow : Flow → Flow → Type 0
IsSameFlow f g = (g.number ≡ f.number) × (g.parent ≡ f.parent) × (g.def ≡ f.def)

same_made : (e : ℕ) (act : Act) (t : Turn) → IsSameFlow t.flow (make e act t).flow
same_made e (Add n) t = (refl, refl, refl)
same_made e (Close p o r out) t = (refl, refl, refl)
same_made e (Note p alert r) t = (refl, refl, refl)
same_made e (Forgive p) t = (refl, refl, refl)
same_made e (TurnOn p out turn) t = (refl, refl, refl)
same_made e (Variables v) t = (refl, refl, refl)
same_made e (NoteFlow r) t = (refl, refl, refl)
same_made e (End status r out) t = (refl, refl, refl)

pub later_itself : (t : Turn) → IsLaterTurn t t
later_itself t = record {
  number = refl;
  parent = refl;
  def = refl;
  attempts = more_none t.flow.attempts t.next_task;
  children = record { more = []; is = sym (append-nil t.children); fresh = tt; next_flow = omega arith };
}

later_make : (e : ℕ) (act : Act) (old t : Turn) → IsLaterTurn old t → IsLaterTurn old (make e act t)
later_make e act old t h =
    let same = same_made e act t in
    record {
      number = same.0 ∙ h.number;
      parent = same.1 ∙ h.parent;
      def = same.2 ∙ h.def;
      attempts = attempts_made e old.next_task old.flow.attempts act t h.attempts;
      children = children_made e act old t h.children;
    }

later_all : (e : ℕ) (acts : List Act) (old t : Turn) → IsLaterTurn old t → IsLaterTurn old (made e acts t)
later_all e [] old t h = h
later_all e (act ∷ rest) old t h = later_all e rest old (make e act t) (later_make e act old t h)

-- what acts make is a later turn
pub later_made : (e : ℕ) (acts : List Act) (t : Turn) → IsLaterTurn t (made e acts t)
later_made e acts t = later_all e acts t t (later_itself t)
