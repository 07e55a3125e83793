-- What a decision makes of the numbers in a state.
use Rattle.std.proofs.Common.{◌≡◌, ℕ, zero, suc, ◌+◌, ◌<◌, ◌≤◌, Bool, true, false, if◌then◌else◌, ◌&&◌, ◌||◌, All, List, [], ◌∷◌, ◌++◌, map, length, Option, Some, ◌⊎◌, inl, inr, refl, sym, ap, ◌∙◌, subst, arith}
use Rattle.std.proofs.lemmas.Bool.{cases_lt}
use Rattle.std.proofs.lemmas.Bool.Decides.{nat_tests}
use Rattle.std.specs.Prelude.{filter}
use Rattle.std.proofs.lemmas.List.{append-nil}
use Rattle.std.proofs.lemmas.List.Elements.{All-append, All-cons, All-head, All-nil, All-tail, All-weaker}
use Rattle.wf_doc.specs.declared.doc.Doc.{Doc}
use Rattle.wf_names.specs.TaskStatus.{task_is_open}
use Rattle.wf_names.specs.declared.ids.TaskNo.{TaskNo}
use Rattle.wf_names.specs.declared.statuses.TaskStatus.TheVariants.{Canceled}
use Rattle.wf_wire.specs.declared.limits.Limits.{Limits}
use Rattle.wf_machine.specs.State.{Attempt, Flow, Kept, State, RisingTo, is_numbered, canceled}
use Rattle.wf_machine.specs.Records.{Held, is_scheduled}
use Rattle.wf_machine.specs.Flows.{is_flow, is_concerned, new_kept, revised}
use Rattle.wf_rules.specs.declared.acting.Act.{Act}
use Rattle.wf_rules.specs.declared.acting.Act.TheVariants.{Add, Close, Note, Forgive, Turn as TurnOn, Variables, NoteFlow, End}
use Rattle.wf_rules.specs.declared.acting.Alert.{Alert}
use Rattle.wf_rules.specs.declared.acting.Alert.TheVariants.{Poll as PollAlert, Total as TotalAlert}
use Rattle.wf_rules.specs.declared.acting.Child.{Child}
use Rattle.wf_rules.specs.declared.acting.Child.TheVariants.{Nothing, Flow as NewFlow, TooLarge, Refused}
use Rattle.wf_rules.specs.declared.acting.Outcome.{Outcome}
use Rattle.wf_rules.specs.declared.acting.Outcome.TheVariants.{Completed, Failed, FailedWithTerminalError, TimedOut}
use Rattle.wf_rules.specs.Acts.{Turn, make, made, at_place, added, started, births, status_of, closed, noted, forgiven, turned}
use Rattle.wf_rules.specs.Plans.{turn_at, plan}
use Rattle.wf_rules.specs.Sight.{scene_in}
use Rattle.wf_rules.proofs.MakeLemmas.{rising_length, rising_made}
use Rattle.wf_rules.proofs.PlanLemmas.{made_flows, made_tasks, plan_decides}
use Rattle.wf_steps.specs.Calls.{decided, with_decided}
use Rattle.wf_laws.specs.Sound.{FlowsRise, IsSound, IsSoundFlow, tally, tally_in}

-- ---- counts

abbrev pub one_if : Bool → ℕ
one_if b = if b then 1 else 0

-- the attempt has that number, and is SCHEDULED unless `all` count
abbrev pub one : Bool → TaskNo → Attempt → ℕ
one all task a = if (all || is_scheduled a.status) && is_numbered task a then 1 else 0

abbrev pub count : Bool → TaskNo → List Attempt → ℕ
count all task [] = 0
count all task (a ∷ rest) = one all task a + count all task rest

abbrev pub count_all : Bool → TaskNo → List Kept → ℕ
count_all all task [] = 0
count_all all task (k ∷ ks) = count all task k.flow.attempts + count_all all task ks

counts_tally_in : (task : TaskNo) (xs : List Attempt) → count true task xs ≡ tally_in task xs
counts_tally_in task [] = refl
counts_tally_in task (x ∷ xs) = ap (λ n. one true task x + n) (counts_tally_in task xs)

pub counts_tally : (task : TaskNo) (ks : List Kept) → count_all true task ks ≡ tally task ks
counts_tally task [] = refl
counts_tally task (k ∷ ks) = rw (counts_tally_in task k.flow.attempts, counts_tally task ks) refl

pub count_append : (all : Bool) (task : TaskNo) (xs ys : List Attempt) → count all task (xs ++ ys) ≡ count all task xs + count all task ys
count_append all task [] ys = omega arith
count_append all task (x ∷ xs) ys = let h = count_append all task xs ys in omega (arith, h)

pub count_all_append : (all : Bool) (task : TaskNo) (xs ys : List Kept) → count_all all task (xs ++ ys) ≡ count_all all task xs + count_all all task ys
count_all_append all task [] ys = omega arith
count_all_append all task (x ∷ xs) ys = let h = count_all_append all task xs ys in omega (arith, h)

pub count_filter : (all : Bool) (task : TaskNo) (p : Kept → Bool) (ks : List Kept) → count_all all task (filter p ks) ≤ count_all all task ks
count_filter all task p [] = omega arith
count_filter all task p (x ∷ xs) = by_test (p x) (count_filter all task p xs) where
  by_test : (b : Bool) → count_all all task (filter p xs) ≤ count_all all task xs → count_all all task (if b then x ∷ filter p xs else filter p xs) ≤ count_all all task (x ∷ xs)
  by_test true more = omega (arith, more)
  by_test false more = omega (arith, more)

pub one_numbered : (all : Bool) (task : TaskNo) (a : Attempt) → is_numbered task a ≡ false → one all task a ≡ 0
one_numbered all task a h = rw h (by_tests (all || is_scheduled a.status)) where
  by_tests : (b : Bool) → one_if (b && false) ≡ 0
  by_tests true = refl
  by_tests false = refl

one_at_most : (all : Bool) (task : TaskNo) (a : Attempt) → one all task a ≤ 1
one_at_most all task a = by_tests ((all || is_scheduled a.status) && is_numbered task a) where
  by_tests : (b : Bool) → one_if b ≤ 1
  by_tests true = omega arith
  by_tests false = omega arith

-- what stands below or above a number hasn't it
count_outside : (all : Bool) (task : TaskNo) (low high : ℕ) (xs : List Attempt) → RisingTo low high xs → (task.0 < low) ⊎ (high ≤ task.0) → count all task xs ≡ 0
count_outside all task low high [] rising out = refl
count_outside all task low high (x ∷ xs) rising (inl below) =
    let first = rising.0 in
    let other : is_numbered task x ≡ false = grind (arith, nat_tests) in
    let none = one_numbered all task x other in
    let h = count_outside all task (x.number.0 + 1) high xs rising.1 (inl (omega (arith, below, first))) in
    omega (arith, none, h)
count_outside all task low high (x ∷ xs) rising (inr above) =
    let room = rising_length (x.number.0 + 1) high xs rising.1 in
    let other : is_numbered task x ≡ false = grind (arith, nat_tests) in
    let none = one_numbered all task x other in
    let h = count_outside all task (x.number.0 + 1) high xs rising.1 (inr above) in
    omega (arith, none, h)

-- no number stands twice
count_once : (all : Bool) (task : TaskNo) (low high : ℕ) (xs : List Attempt) → RisingTo low high xs → count all task xs ≤ 1
count_once all task low high [] rising = omega arith
count_once all task low high (x ∷ xs) rising = by_test (is_numbered task x) refl (one_at_most all task x) (count_once all task (x.number.0 + 1) high xs rising.1) where
  by_test : (b : Bool) → is_numbered task x ≡ b → one all task x ≤ 1 → count all task xs ≤ 1 → one all task x + count all task xs ≤ 1
  by_test true is most more =
      let same : x.number.0 ≡ task.0 = grind (arith, nat_tests) in
      let none = count_outside all task (x.number.0 + 1) high xs rising.1 (inl (omega (arith, same))) in
      omega (arith, most, none)
  by_test false is most more = let none = one_numbered all task x is in omega (arith, none, more)

-- ---- changed attempts

-- the number stays, and what is SCHEDULED now was it before
record IsTame (a b : Attempt) : Type 0 where
  number : b.number ≡ a.number
  scheduled : is_scheduled b.status ≡ true → is_scheduled a.status ≡ true

one_tame : (all : Bool) (task : TaskNo) (a b : Attempt) → IsTame a b → one all task b ≤ one all task a
one_tame all task a b h = rw h.number (by_tests all (is_scheduled b.status) (is_scheduled a.status) (is_numbered task a) h.scheduled) where
  by_tests : (all s r n : Bool) → (s ≡ true → r ≡ true) → one_if ((all || s) && n) ≤ one_if ((all || r) && n)
  by_tests true s r n h = omega arith
  by_tests false false r n h = omega arith
  by_tests false true r n h = rw (h refl) (omega arith)

count_at : (all : Bool) (task : TaskNo) (p : ℕ) (c : Attempt → Attempt) (xs : List Attempt) → ((a : Attempt) → IsTame a (c a)) → count all task (at_place p c xs) ≤ count all task xs
count_at all task p c [] tame = omega arith
count_at all task zero c (x ∷ xs) tame = let h = one_tame all task x (c x) (tame x) in omega (arith, h)
count_at all task (suc p) c (x ∷ xs) tame = let h = count_at all task p c xs tame in omega (arith, h)

count_through : (all : Bool) (task : TaskNo) (c : Attempt → Attempt) (xs : List Attempt) → ((a : Attempt) → IsTame a (c a)) → count all task (map c xs) ≤ count all task xs
count_through all task c [] tame = omega arith
count_through all task c (x ∷ xs) tame = let h = one_tame all task x (c x) (tame x) in let k = count_through all task c xs tame in omega (arith, h, k)

closed_tame : (e : ℕ) (o : Outcome) (r : Option (List ℕ)) (out : Option Doc) (a : Attempt) → IsTame a (closed e o r out a)
closed_tame e o r out a = record { number = refl; scheduled = λ x. by_outcome o x } where
  by_outcome : (o : Outcome) → is_scheduled (status_of o) ≡ true → is_scheduled a.status ≡ true
  by_outcome Completed x = cc
  by_outcome Failed x = cc
  by_outcome FailedWithTerminalError x = cc
  by_outcome TimedOut x = cc

noted_tame : (e : ℕ) (alert : Alert) (r : List ℕ) (a : Attempt) → IsTame a (noted e alert r a)
noted_tame e PollAlert r a = record { number = refl; scheduled = λ x. x }
noted_tame e TotalAlert r a = record { number = refl; scheduled = λ x. x }

canceled_tame : (e : ℕ) (a : Attempt) → IsTame a (canceled e a)
canceled_tame e a = by_open (task_is_open a.status) where
  by_open : (b : Bool) → IsTame a (if b then record a { status = Canceled; updated = e; ended = Some e } else a)
  by_open true = record { number = refl; scheduled = λ x. cc }
  by_open false = record { number = refl; scheduled = λ x. x }

pub count_canceled : (all : Bool) (task : TaskNo) (e : ℕ) (xs : List Attempt) → count all task (map (canceled e) xs) ≤ count all task xs
count_canceled all task e xs = count_through all task (canceled e) xs (λ a. canceled_tame e a)

-- acts give a number that was given before to no attempt, and make none of those SCHEDULED
make_count : (all : Bool) (e : ℕ) (task : TaskNo) (act : Act) (t : Turn) → task.0 < t.next_task → count all task (make e act t).flow.attempts ≤ count all task t.flow.attempts
make_count all e task (Add n) t old =
    let h = count_append all task t.flow.attempts (added e n t ∷ []) in
    let other : is_numbered task (added e n t) ≡ false = grind (arith, nat_tests) in
    let none = one_numbered all task (added e n t) other in
    omega (arith, h, none)
make_count all e task (Close p o r out) t old = count_at all task p (closed e o r out) t.flow.attempts (λ a. closed_tame e o r out a)
make_count all e task (Note p x r) t old = count_at all task p (noted e x r) t.flow.attempts (λ a. noted_tame e x r a)
make_count all e task (Forgive p) t old = count_at all task p (forgiven e) t.flow.attempts (λ a. record { number = refl; scheduled = λ x. cc })
make_count all e task (TurnOn p out turn) t old = count_at all task p (turned e out turn) t.flow.attempts (λ a. record { number = refl; scheduled = λ x. x })
make_count all e task (Variables v) t old = omega arith
make_count all e task (NoteFlow r) t old = omega arith
make_count all e task (End s r out) t old = count_canceled all task e t.flow.attempts

make_grows : (e : ℕ) (act : Act) (t : Turn) → t.next_task ≤ (make e act t).next_task
make_grows e act t = let h = made_tasks e (act ∷ []) t in omega (arith, h)

made_count : (all : Bool) (e : ℕ) (task : TaskNo) (acts : List Act) (t : Turn) → task.0 < t.next_task → count all task (made e acts t).flow.attempts ≤ count all task t.flow.attempts
made_count all e task [] t old = omega arith
made_count all e task (act ∷ rest) t old =
    let more = make_grows e act t in
    let h = make_count all e task act t old in
    let k = made_count all e task rest (make e act t) (omega (arith, old, more)) in
    omega (arith, h, k)

-- ---- flows that start

-- they have no attempts yet, and each is nested in one of a lower number
abbrev pub AreBorn : ℕ → ℕ → List Flow → Type 0
AreBorn low high [] = low ≤ high
AreBorn low high (f ∷ fs) = (low ≤ f.number.0) × (f.attempts ≡ []) × Held (λ p. p.0.0 < f.number.0) f.parent × AreBorn (f.number.0 + 1) high fs

born_lower : (low mid high : ℕ) (fs : List Flow) → low ≤ mid → AreBorn mid high fs → AreBorn low high fs
born_lower low mid high [] order born = omega (arith, order, born)
born_lower low mid high (f ∷ fs) order born = (let le = born.0 in omega (arith, order, le), born.1, born.2, born.3)

born_append : (low mid high : ℕ) (fs gs : List Flow) → AreBorn low mid fs → AreBorn mid high gs → AreBorn low high (fs ++ gs)
born_append low mid high [] gs below above = born_lower low mid high gs below above
born_append low mid high (f ∷ fs) gs below above = (below.0, below.1, below.2, born_append (f.number.0 + 1) mid high fs gs below.3 above)

started_born : (e : ℕ) (t : Turn) (child : Child) → t.flow.number.0 < t.next_flow → AreBorn t.next_flow (t.next_flow + births child) (started e t child)
started_born e t Nothing below = omega arith
started_born e t (NewFlow def input) below = (omega arith, refl, below, omega arith)
started_born e t TooLarge below = omega arith
started_born e t Refused below = omega arith

-- a turn that came from another by acts
record IsLater (u t : Turn) : Type 0 where
  number : t.flow.number ≡ u.flow.number
  parent : t.flow.parent ≡ u.flow.parent
  below : t.flow.number.0 < t.next_flow
  tasks : u.next_task ≤ t.next_task
  rising : RisingTo 1 t.next_task t.flow.attempts
  born : AreBorn u.next_flow t.next_flow t.children

itself : (act : Act) (e : ℕ) (t : Turn) → ((make e act t).flow.number ≡ t.flow.number) × ((make e act t).flow.parent ≡ t.flow.parent)
itself (Add n) e t = (refl, refl)
itself (Close p o r out) e t = (refl, refl)
itself (Note p x r) e t = (refl, refl)
itself (Forgive p) e t = (refl, refl)
itself (TurnOn p out turn) e t = (refl, refl)
itself (Variables v) e t = (refl, refl)
itself (NoteFlow r) e t = (refl, refl)
itself (End s r out) e t = (refl, refl)

make_born : (low e : ℕ) (act : Act) (t : Turn) → t.flow.number.0 < t.next_flow → AreBorn low t.next_flow t.children → AreBorn low (make e act t).next_flow (make e act t).children
make_born low e (Add n) t below born = born_append low t.next_flow (t.next_flow + births n.child) t.children (started e t n.child) born (started_born e t n.child below)
make_born low e (Close p o r out) t below born = born
make_born low e (Note p x r) t below born = born
make_born low e (Forgive p) t below born = born
make_born low e (TurnOn p out turn) t below born = born
make_born low e (Variables v) t below born = born
make_born low e (NoteFlow r) t below born = born
make_born low e (End s r out) t below born = born

make_later : (e : ℕ) (act : Act) (u t : Turn) → IsLater u t → IsLater u (make e act t)
make_later e act u t h =
    let more = make_grows e act t in
    let flows = made_flows e (act ∷ []) t in
    let below = h.below in
    let tasks = h.tasks in
    let same = itself act e t in
    record {
      number = same.0 ∙ h.number;
      parent = same.1 ∙ h.parent;
      below = subst (λ n. n.0 < (make e act t).next_flow) (sym same.0) (omega (arith, below, flows));
      tasks = omega (arith, tasks, more);
      rising = rising_made e 1 act t h.rising;
      born = make_born u.next_flow e act t h.below h.born;
    }

made_later : (e : ℕ) (acts : List Act) (u t : Turn) → IsLater u t → IsLater u (made e acts t)
made_later e [] u t h = h
made_later e (act ∷ rest) u t h = made_later e rest u (make e act t) (make_later e act u t h)

-- ---- kept flows

-- the flow is among them
abbrev pub Stands : Kept → List Kept → Type 0
Stands k [] = ⊥
Stands k (x ∷ xs) = (x ≡ k) ⊎ Stands k xs

pub all_stands : (P : Kept → Type 0) (k : Kept) (ks : List Kept) → All P ks → Stands k ks → P k
all_stands P k [] each there = absurd there
all_stands P k (x ∷ xs) each (inl same) = subst P same (All-head P x xs each)
all_stands P k (x ∷ xs) each (inr there) = all_stands P k xs (All-tail P x xs each) there

pub rise_least : (low high : ℕ) (ks : List Kept) → FlowsRise low high ks → low ≤ high
rise_least low high [] rise = rise
rise_least low high (x ∷ xs) rise = let le = rise.0 in let h = rise_least (x.flow.number.0 + 1) high xs rise.1 in omega (arith, le, h)

stands_between : (low high : ℕ) (k : Kept) (ks : List Kept) → FlowsRise low high ks → Stands k ks → (low ≤ k.flow.number.0) × (k.flow.number.0 < high)
stands_between low high k [] rise there = absurd there
stands_between low high k (x ∷ xs) rise (inl same) =
    let h = rise_least (x.flow.number.0 + 1) high xs rise.1 in
    subst (λ (y : Kept). (low ≤ y.flow.number.0) × (y.flow.number.0 < high)) same (rise.0, omega (arith, h))
stands_between low high k (x ∷ xs) rise (inr there) =
    let le = rise.0 in
    let h = stands_between (x.flow.number.0 + 1) high k xs rise.1 there in
    let more = h.0 in
    (omega (arith, le, more), h.1)

rise_lower : (low mid high : ℕ) (ks : List Kept) → low ≤ mid → FlowsRise mid high ks → FlowsRise low high ks
rise_lower low mid high [] order rise = omega (arith, order, rise)
rise_lower low mid high (x ∷ xs) order rise = (let le = rise.0 in omega (arith, order, le), rise.1)

pub rise_append : (low mid high : ℕ) (ks ls : List Kept) → FlowsRise low mid ks → FlowsRise mid high ls → FlowsRise low high (ks ++ ls)
rise_append low mid high [] ls below above = rise_lower low mid high ls below above
rise_append low mid high (x ∷ xs) ls below above = (below.0, rise_append (x.flow.number.0 + 1) mid high xs ls below.1 above)

pub rise_filter : (p : Kept → Bool) (low high : ℕ) (ks : List Kept) → FlowsRise low high ks → FlowsRise low high (filter p ks)
rise_filter p low high [] rise = rise
rise_filter p low high (x ∷ xs) rise = by_test (p x) (rise_filter p (x.flow.number.0 + 1) high xs rise.1) where
  by_test : (b : Bool) → FlowsRise (x.flow.number.0 + 1) high (filter p xs) → FlowsRise low high (if b then x ∷ filter p xs else filter p xs)
  by_test true more = (rise.0, more)
  by_test false more = let le = rise.0 in rise_lower low (x.flow.number.0 + 1) high (filter p xs) (omega (arith, le)) more

pub born_rise : (place low high : ℕ) (fs : List Flow) → AreBorn low high fs → FlowsRise low high (map (new_kept place) fs)
born_rise place low high [] born = born
born_rise place low high (f ∷ fs) born = (born.0, born_rise place (f.number.0 + 1) high fs born.3)

born_count : (all : Bool) (place : ℕ) (task : TaskNo) (low high : ℕ) (fs : List Flow) → AreBorn low high fs → count_all all task (map (new_kept place) fs) ≡ 0
born_count all place task low high [] born = refl
born_count all place task low high (f ∷ fs) born = rw born.1 (let h = born_count all place task (f.number.0 + 1) high fs born.3 in omega (arith, h))

born_sound : (place next low high : ℕ) (fs : List Flow) → 1 ≤ next → AreBorn low high fs → All (IsSoundFlow next) (map (new_kept place) fs)
born_sound place next low high [] some born = All-nil (IsSoundFlow next)
born_sound place next low high (f ∷ fs) some born =
    All-cons (IsSoundFlow next) (new_kept place f) (map (new_kept place) fs)
    (record { rising = subst (λ xs. RisingTo 1 next xs) (sym born.1) some; parent = born.2 })
    (born_sound place next (f.number.0 + 1) high fs some born.3)

rising_higher : (low mid high : ℕ) (xs : List Attempt) → RisingTo low mid xs → mid ≤ high → RisingTo low high xs
rising_higher low mid high [] rising order = omega (arith, rising, order)
rising_higher low mid high (x ∷ xs) rising order = (rising.0, rising_higher (x.number.0 + 1) mid high xs rising.1 order)

-- ---- one kept flow in place of another

revised_now : (place : ℕ) (before now : Flow) (x : Kept) → is_flow now.number x ≡ true → (revised place before now x).flow ≡ now
revised_now place before now x is = rw is refl

revised_other : (place : ℕ) (before now : Flow) (x : Kept) → is_flow now.number x ≡ false → (revised place before now x).flow ≡ x.flow
revised_other place before now x is = rw is (by_test (is_concerned before now x.flow)) where
  by_test : (b : Bool) → (if b then record x { revision = place } else x).flow ≡ x.flow
  by_test true = refl
  by_test false = refl

pub revised_number : (place : ℕ) (before now : Flow) (x : Kept) → (revised place before now x).flow.number.0 ≡ x.flow.number.0
revised_number place before now x = by_test (is_flow now.number x) refl where
  by_test : (b : Bool) → is_flow now.number x ≡ b → (revised place before now x).flow.number.0 ≡ x.flow.number.0
  by_test true is =
      let same : now.number.0 ≡ x.flow.number.0 = grind (arith, nat_tests) in
      ap (λ f. f.number.0) (revised_now place before now x is) ∙ same
  by_test false is = ap (λ f. f.number.0) (revised_other place before now x is)

pub rise_revised : (place : ℕ) (before now : Flow) (low high : ℕ) (ks : List Kept) → FlowsRise low high ks → FlowsRise low high (map (revised place before now) ks)
rise_revised place before now low high [] rise = rise
rise_revised place before now low high (x ∷ xs) rise =
    rw (revised_number place before now x) (rise.0, rise_revised place before now (x.flow.number.0 + 1) high xs rise.1)

sound_as : (n : ℕ) (k l : Kept) → k.flow ≡ l.flow → IsSoundFlow n k → IsSoundFlow n l
sound_as n k l same h = record {
  rising = subst (λ (f : Flow). RisingTo 1 n f.attempts) same h.rising;
  parent = subst (λ (f : Flow). Held (λ p. p.0.0 < f.number.0) f.parent) same h.parent;
}

sound_later : (n m : ℕ) (k : Kept) → n ≤ m → IsSoundFlow n k → IsSoundFlow m k
sound_later n m k order h = record { rising = rising_higher 1 n m k.flow.attempts h.rising order; parent = h.parent }

pub sound_revised : (place : ℕ) (before now : Flow) (n m : ℕ) (ks : List Kept) → n ≤ m → IsSoundFlow m (new_kept place now) → All (IsSoundFlow n) ks → All (IsSoundFlow m) (map (revised place before now) ks)
sound_revised place before now n m [] order new each = All-nil (IsSoundFlow m)
sound_revised place before now n m (x ∷ xs) order new each =
    All-cons (IsSoundFlow m) (revised place before now x) (map (revised place before now) xs)
    (by_test (is_flow now.number x) refl (All-head (IsSoundFlow n) x xs each))
    (sound_revised place before now n m xs order new (All-tail (IsSoundFlow n) x xs each))
  where
    by_test : (b : Bool) → is_flow now.number x ≡ b → IsSoundFlow n x → IsSoundFlow m (revised place before now x)
    by_test true is h = sound_as m (new_kept place now) (revised place before now x) (sym (revised_now place before now x is)) new
    by_test false is h = sound_as m x (revised place before now x) (sym (revised_other place before now x is)) (sound_later n m x order h)

count_unmoved : (all : Bool) (task : TaskNo) (place : ℕ) (before now : Flow) (low high : ℕ) (ks : List Kept) → FlowsRise low high ks → now.number.0 < low
    → count_all all task (map (revised place before now) ks) ≡ count_all all task ks
count_unmoved all task place before now low high [] rise below = refl
count_unmoved all task place before now low high (x ∷ xs) rise below =
    let le = rise.0 in
    let other : is_flow now.number x ≡ false = grind (arith, nat_tests) in
    let same = ap (λ (f : Flow). count all task f.attempts) (revised_other place before now x other) in
    let more = count_unmoved all task place before now (x.flow.number.0 + 1) high xs rise.1 (omega (arith, below, le)) in
    omega (arith, same, more)

-- the attempts of one flow are counted in place of those of the other
pub count_swapped : (all : Bool) (task : TaskNo) (place : ℕ) (before now : Flow) (low high : ℕ) (k : Kept) (ks : List Kept) → FlowsRise low high ks → Stands k ks → now.number ≡ k.flow.number
    → count_all all task (map (revised place before now) ks) + count all task k.flow.attempts ≡ count_all all task ks + count all task now.attempts
count_swapped all task place before now low high k [] rise there number = absurd there
count_swapped all task place before now low high k (x ∷ xs) rise (inl same) number =
    let numbers : now.number.0 ≡ x.flow.number.0 = ap (λ n. n.0) number ∙ ap (λ (y : Kept). y.flow.number.0) (sym same) in
    let is : is_flow now.number x ≡ true = grind (arith, nat_tests) in
    let one = ap (λ (f : Flow). count all task f.attempts) (revised_now place before now x is) in
    let rest = count_unmoved all task place before now (x.flow.number.0 + 1) high xs rise.1 (omega (arith, numbers)) in
    let was = ap (λ (y : Kept). count all task y.flow.attempts) same in
    omega (arith, one, rest, was)
count_swapped all task place before now low high k (x ∷ xs) rise (inr there) number =
    let above = (stands_between (x.flow.number.0 + 1) high k xs rise.1 there).0 in
    let numbers : now.number.0 ≡ k.flow.number.0 = ap (λ n. n.0) number in
    let other : is_flow now.number x ≡ false = grind (arith, nat_tests) in
    let one = ap (λ (f : Flow). count all task f.attempts) (revised_other place before now x other) in
    let rest = count_swapped all task place before now (x.flow.number.0 + 1) high k xs rise.1 there number in
    omega (arith, one, rest)

-- a number that isn't given yet stands nowhere
pub count_ahead : (all : Bool) (task : TaskNo) (next : ℕ) (ks : List Kept) → All (IsSoundFlow next) ks → next ≤ task.0 → count_all all task ks ≡ 0
count_ahead all task next [] each ahead = refl
count_ahead all task next (x ∷ xs) each ahead =
    let one = count_outside all task 1 next x.flow.attempts (All-head (IsSoundFlow next) x xs each).rising (inr ahead) in
    let more = count_ahead all task next xs (All-tail (IsSoundFlow next) x xs each) ahead in
    omega (arith, one, more)

-- ---- states

-- one state came from another: the flow of the turn stands in place of k, and the flows that it started stand behind
pub record IsLeft (place : ℕ) (before : Flow) (s t : State) (k : Kept) (turn : Turn) : Type 0 where
  pub flows : t.flows ≡ map (revised place before turn.flow) s.flows ++ map (new_kept place) turn.children
  pub next_flow : t.next_flow ≡ turn.next_flow
  pub next_task : t.next_task ≡ turn.next_task
  pub stands : Stands k s.flows
  pub number : turn.flow.number ≡ k.flow.number
  pub parent : turn.flow.parent ≡ k.flow.parent
  pub tasks : s.next_task ≤ turn.next_task
  pub rising : RisingTo 1 turn.next_task turn.flow.attempts
  pub born : AreBorn s.next_flow turn.next_flow turn.children

module _ (place : ℕ) (before : Flow) (s t : State) (k : Kept) (turn : Turn) (sound : IsSound s) (left : IsLeft place before s t k turn) where
  pub left_count : (all : Bool) (task : TaskNo) → count_all all task t.flows + count all task k.flow.attempts ≡ count_all all task s.flows + count all task turn.flow.attempts
  left_count all task =
      let split = ap (count_all all task) left.flows ∙ count_all_append all task (map (revised place before turn.flow) s.flows) (map (new_kept place) turn.children) in
      let none = born_count all place task s.next_flow turn.next_flow turn.children left.born in
      let swap = count_swapped all task place before turn.flow 1 s.next_flow k s.flows sound.rise left.stands left.number in
      omega (arith, split, none, swap)

  left_rise : FlowsRise 1 t.next_flow t.flows
  left_rise =
      rw (left.flows, left.next_flow)
      (rise_append 1 s.next_flow turn.next_flow (map (revised place before turn.flow) s.flows) (map (new_kept place) turn.children)
      (rise_revised place before turn.flow 1 s.next_flow s.flows sound.rise) (born_rise place s.next_flow turn.next_flow turn.children left.born))

  left_itself : IsSoundFlow turn.next_task (new_kept place turn.flow)
  left_itself =
      record {
        rising = left.rising;
        parent = rw (left.parent, left.number) (all_stands (IsSoundFlow s.next_task) k s.flows sound.flows left.stands).parent;
      }

  left_from_one : 1 ≤ turn.next_task
  left_from_one = let room = rising_length 1 turn.next_task turn.flow.attempts left.rising in omega (arith, room)

  left_flows : All (IsSoundFlow t.next_task) t.flows
  left_flows =
      rw (left.flows, left.next_task)
      (All-append (IsSoundFlow turn.next_task) (map (revised place before turn.flow) s.flows) (map (new_kept place) turn.children)
      (sound_revised place before turn.flow s.next_task turn.next_task s.flows left.tasks left_itself sound.flows)
      (born_sound place turn.next_task s.next_flow turn.next_flow turn.children left_from_one left.born))

  -- no number that was given before is given to one more attempt of the flow
  pub left_sound : ((task : TaskNo) → task.0 < s.next_task → count true task turn.flow.attempts ≤ count true task k.flow.attempts) → IsSound t
  left_sound few = record { rise = left_rise; from_one = rw left.next_task left_from_one; flows = left_flows; once = λ task. subst (λ n. n ≤ 1) (counts_tally task t.flows) (by_order task (cases_lt task.0 s.next_task)) } where
    by_order : (task : TaskNo) → (task.0 < s.next_task) ⊎ (s.next_task ≤ task.0) → count_all true task t.flows ≤ 1
    by_order task (inl old) =
        let was = subst (λ n. n ≤ 1) (sym (counts_tally task s.flows)) (sound.once task) in
        let fall = few task old in
        let swap = left_count true task in
        omega (arith, was, fall, swap)
    by_order task (inr new) =
        let none = count_ahead true task s.next_task s.flows sound.flows new in
        let once = count_once true task 1 turn.next_task turn.flow.attempts left.rising in
        let swap = left_count true task in
        omega (arith, none, once, swap)

-- ---- numbers that are passed over

-- the state, with that number for the next attempt
abbrev pub raised : ℕ → State → State
raised more s = record s { next_task = more }

pub raised_sound : (more : ℕ) (s : State) → s.next_task ≤ more → IsSound s → IsSound (raised more s)
raised_sound more s order sound =
    let from_one = sound.from_one in
    record {
      rise = sound.rise;
      from_one = omega (arith, order, from_one);
      flows = All-weaker (IsSoundFlow s.next_task) (IsSoundFlow more) (λ k h. sound_later s.next_task more k order h) s.flows sound.flows;
      once = sound.once;
    }

-- what came of the state with a greater number came of the state
pub left_raised : (more place : ℕ) (before : Flow) (s t : State) (k : Kept) (turn : Turn) → s.next_task ≤ more → IsLeft place before (raised more s) t k turn → IsLeft place before s t k turn
left_raised more place before s t k turn order left =
    let tasks = left.tasks in
    record {
      flows = left.flows;
      next_flow = left.next_flow;
      next_task = left.next_task;
      stands = left.stands;
      number = left.number;
      parent = left.parent;
      tasks = omega (arith, order, tasks);
      rising = left.rising;
      born = left.born;
    }

-- ---- decisions

-- a flow as the call has it, in place of one that is kept
pub record IsChanged (s : State) (k : Kept) (now : Flow) : Type 0 where
  pub stands : Stands k s.flows
  pub number : now.number ≡ k.flow.number
  pub parent : now.parent ≡ k.flow.parent
  pub rising : RisingTo 1 s.next_task now.attempts

pub unchanged : (s : State) (k : Kept) → IsSound s → Stands k s.flows → IsChanged s k k.flow
unchanged s k sound stands =
    record { stands = stands; number = refl; parent = refl; rising = (all_stands (IsSoundFlow s.next_task) k s.flows sound.flows stands).rising }

-- a flow that isn't decided starts no others
pub undecided_left : (place : ℕ) (before now : Flow) (s t : State) (k : Kept) → IsChanged s k now
    → t.flows ≡ map (revised place before now) s.flows → t.next_flow ≡ s.next_flow → t.next_task ≡ s.next_task
    → IsLeft place before s t k (turn_at now (record { flow = s.next_flow; task = s.next_task }))
undecided_left place before now s t k changed flows next_flow next_task = record {
  flows = flows ∙ sym (append-nil (map (revised place before now) s.flows));
  next_flow = next_flow;
  next_task = next_task;
  stands = changed.stands;
  number = changed.number;
  parent = changed.parent;
  tasks = omega arith;
  rising = changed.rising;
  born = omega arith;
}

module _ (limits : Limits) (place e : ℕ) (before now : Flow) (s : State) where
  abbrev start_turn : Turn
  start_turn = turn_at now (record { flow = s.next_flow; task = s.next_task })

  abbrev acts : List Act
  acts = plan limits (scene_in s now) (length s.flows) e start_turn

  is_made : made e acts start_turn ≡ decided limits e now s
  is_made = plan_decides limits (scene_in s now) (length s.flows) e start_turn

  pub decided_count : (all : Bool) (task : TaskNo) → task.0 < s.next_task → count all task (decided limits e now s).flow.attempts ≤ count all task now.attempts
  decided_count all task old = subst (λ (t : Turn). count all task t.flow.attempts ≤ count all task now.attempts) is_made (made_count all e task acts start_turn old)

  pub decided_left : (k : Kept) → IsSound s → IsChanged s k now → IsLeft place before s (with_decided limits place e before now s) k (decided limits e now s)
  decided_left k sound h = record {
    flows = refl;
    next_flow = refl;
    next_task = refl;
    stands = h.stands;
    number = later.number ∙ h.number;
    parent = later.parent ∙ h.parent;
    tasks = later.tasks;
    rising = later.rising;
    born = later.born;
  } where
    later : IsLater start_turn (decided limits e now s)
    later =
        subst (IsLater start_turn) is_made
        (made_later e acts start_turn start_turn
        (record {
          number = refl;
          parent = refl;
          below = subst (λ n. n.0 < s.next_flow) (sym h.number) (stands_between 1 s.next_flow k s.flows sound.rise h.stands).1;
          tasks = omega arith;
          rising = h.rising;
          born = omega arith;
        }))
