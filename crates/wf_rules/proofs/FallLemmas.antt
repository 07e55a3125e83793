-- What each act leaves of the work of a decision, told of sights alone.
use Rattle.std.proofs.Common.{◌≡◌, ℕ, zero, suc, ◌+◌, ◌-◌, ◌*◌, ◌<◌, ◌≤◌, Bool, true, false, if◌then◌else◌, ◌&&◌, ◌||◌, ◌==◌, not, is_some, nat_le, List, [], ◌∷◌, ◌++◌, filter, length, slice_get, Option, None, Some, refl, ap, subst, arith}
use Rattle.std.proofs.lemmas.Bool.Decides.{nat_tests}
use Rattle.std.proofs.lemmas.List.{length-append}
use Rattle.std.specs.List.{list_any}
use Rattle.wf_doc.specs.declared.doc.Doc.{Doc}
use Rattle.wf_names.specs.declared.statuses.TaskStatus.{TaskStatus}
use Rattle.wf_names.specs.declared.statuses.FlowStatus.{FlowStatus}
use Rattle.wf_names.specs.TaskStatus.{task_is_open, task_is_successful}
use Rattle.wf_wire.specs.declared.limits.Limits.{Limits}
use Rattle.wf_rules.specs.declared.acting.Act.TheVariants.{Add, Note, Turn as TurnOn, NoteFlow, End}
use Rattle.wf_rules.specs.declared.acting.Alert.{Alert}
use Rattle.wf_rules.specs.declared.acting.Begin.{Begin}
use Rattle.wf_rules.specs.declared.acting.Begin.TheVariants.{Queued, Held, Over}
use Rattle.wf_rules.specs.declared.acting.NewAttempt.{NewAttempt}
use Rattle.wf_machine.specs.declared.timed.Cause.{Cause}
use Rattle.wf_machine.specs.declared.timed.Cause.TheVariants.{Wait}
use Rattle.wf_machine.specs.Sight.{Seen}
use Rattle.wf_rules.specs.Sight.{Sight}
use Rattle.wf_machine.specs.Marks.{is_of, later_one, last_of, turn_of, all_nodes}
use Rattle.wf_machine.specs.Records.{is_kind_at, is_loop}
use Rattle.wf_rules.specs.Loops.{is_pair, begins_with, heads}
use Rattle.wf_rules.specs.Acts.{at_place}
use Rattle.wf_rules.specs.Rules.{is_running, later_place, last_place}
use Rattle.wf_rules.proofs.SightLemmas.{shown, shown_over, seen_new, due_new, but, seen_noted, seen_turned, as_it_is, nothing}

-- ---- what is left to do

abbrev pub one_if : Bool → ℕ
one_if true = 1
one_if false = 0

-- an open attempt may end and then be forgiven, a lost one may be forgiven
abbrev pub weight : TaskStatus → ℕ
weight status = if task_is_open status then 2 else if task_is_successful status then 0 else 1

abbrev pub works : List Seen → ℕ
works [] = 0
works (a ∷ rest) = weight a.status + works rest

abbrev pub dues : List (List Cause) → ℕ
dues [] = 0
dues (d ∷ rest) = length d + dues rest

-- an attempt of the first node of a DO_WHILE pays for the end of its turn, where that has not come
abbrev pub owes : (ℕ → Bool) → (ℕ → ℕ) → Seen → ℕ × ℕ → Bool
owes ok turn a p = (a.node == p.1) && (not a.superseded && (ok p.0 && nat_le (turn p.0) a.iteration))

abbrev pub paid : List (ℕ × ℕ) → (ℕ → Bool) → (ℕ → ℕ) → List Seen → ℕ
paid hs ok turn [] = 0
paid hs ok turn (a ∷ rest) = one_if (list_any (owes ok turn a) hs) + paid hs ok turn rest

abbrev pub loop_heads : Sight → List (ℕ × ℕ)
loop_heads s = heads (all_nodes s.def.nodes)

abbrev pub is_loop_of : Sight → ℕ → Bool
is_loop_of s index = is_kind_at is_loop s.def index

-- the turn of each DO_WHILE
abbrev pub turns : List Seen → ℕ → ℕ
turns xs index = turn_of (last_of xs index 0)

abbrev pub credits : Limits → Sight → ℕ
credits limits s =
    6 * (limits.attempts - length s.attempts) + works s.attempts + dues s.due + paid (loop_heads s) (is_loop_of s) (turns s.attempts) s.attempts
    + one_if s.over_time + 1

abbrev pub left_by : Bool → ℕ → ℕ
left_by true n = n
left_by false n = 0

-- what is left to do: nothing where the flow doesn't run
abbrev pub left : Limits → Sight → ℕ
left limits s = left_by (is_running s.status) (credits limits s)

-- ---- lists by place

pub length_place : {T : Type 0} (p : ℕ) (f : T → T) (xs : List T) → length (at_place p f xs) ≡ length xs
length_place p f [] = refl
length_place zero f (x ∷ xs) = refl
length_place (suc p) f (x ∷ xs) = ap suc (length_place p f xs)

place_same : {T : Type 0} (p : ℕ) (xs : List T) → at_place p as_it_is xs ≡ xs
place_same p [] = refl
place_same zero (x ∷ xs) = refl
place_same (suc p) (x ∷ xs) = ap (λ ys. x ∷ ys) (place_same p xs)

-- a change that leaves less to do with the attempt at the place
works_less : (p : ℕ) (xs : List Seen) (x : Seen) (c : Seen → Seen) → slice_get xs p ≡ Some x → weight (c x).status < weight x.status → works (at_place p c xs) < works xs
works_less p [] x c h lt = cc
works_less zero (y ∷ ys) x c h lt = let same : y ≡ x = cc in rw same (omega (arith, lt))
works_less (suc p) (y ∷ ys) x c h lt = let k = works_less p ys x c h lt in omega (arith, k)

works_same : (p : ℕ) (xs : List Seen) (c : Seen → Seen) → ((x : Seen) → (c x).status ≡ x.status) → works (at_place p c xs) ≡ works xs
works_same p [] c h = refl
works_same zero (y ∷ ys) c h = rw (h y) refl
works_same (suc p) (y ∷ ys) c h = ap (λ n. weight y.status + n) (works_same p ys c h)

dues_less : (p : ℕ) (ds : List (List Cause)) → dues (at_place p nothing ds) ≤ dues ds
dues_less p [] = omega arith
dues_less zero (d ∷ ds) = omega arith
dues_less (suc p) (d ∷ ds) = let h = dues_less p ds in omega (arith, h)

-- ---- turns that are paid

paid_same : (hs : List (ℕ × ℕ)) (ok : ℕ → Bool) (turn : ℕ → ℕ) (p : ℕ) (xs : List Seen) (c : Seen → Seen)
    → ((x : Seen) → one_if (list_any (owes ok turn (c x)) hs) ≡ one_if (list_any (owes ok turn x) hs)) → paid hs ok turn (at_place p c xs) ≡ paid hs ok turn xs
paid_same hs ok turn p [] c h = refl
paid_same hs ok turn zero (x ∷ xs) c h = ap (λ n. n + paid hs ok turn xs) (h x)
paid_same hs ok turn (suc p) (x ∷ xs) c h = ap (λ n. one_if (list_any (owes ok turn x) hs) + n) (paid_same hs ok turn p xs c h)

any_mono : {T : Type 0} (q p : T → Bool) (xs : List T) → ((x : T) → q x ≡ true → p x ≡ true) → list_any q xs ≡ true → list_any p xs ≡ true
any_mono q p [] h k = k
any_mono q p (x ∷ xs) h k = by_first (q x) (p x) (h x) k (any_mono q p xs h) where
  by_first : (b c : Bool) → (b ≡ true → c ≡ true) → (b || list_any q xs) ≡ true → (list_any q xs ≡ true → list_any p xs ≡ true) → (c || list_any p xs) ≡ true
  by_first true c h k on = rw (h refl) refl
  by_first false true h k on = refl
  by_first false false h k on = on k

one_mono : (b c : Bool) → (b ≡ true → c ≡ true) → one_if b ≤ one_if c
one_mono true c h = rw (h refl) (omega arith)
one_mono false c h = omega arith

Later : (ℕ → Bool) → (ℕ → ℕ) → (ℕ → ℕ) → Type 0
Later ok turn now = (l : ℕ) → ok l ≡ true → turn l ≤ now l

owes_mono : (ok : ℕ → Bool) (turn now : ℕ → ℕ) (a : Seen) → ((l : ℕ) → ok l ≡ true → turn l ≤ now l) → (p : ℕ × ℕ) → owes ok now a p ≡ true → owes ok turn a p ≡ true
owes_mono ok turn now a h p k = by_tests (a.node == p.1) (not a.superseded) (ok p.0) refl k where
  by_tests : (b c d : Bool) → ok p.0 ≡ d → (b && (c && (d && nat_le (now p.0) a.iteration))) ≡ true → (b && (c && (d && nat_le (turn p.0) a.iteration))) ≡ true
  by_tests true true true is k = let le = h p.0 is in grind (arith, nat_tests)
  by_tests true true false is k = cc
  by_tests true false d is k = cc
  by_tests false c d is k = cc

paid_mono : (hs : List (ℕ × ℕ)) (ok : ℕ → Bool) (turn now : ℕ → ℕ) (xs : List Seen) → ((l : ℕ) → ok l ≡ true → turn l ≤ now l) → paid hs ok now xs ≤ paid hs ok turn xs
paid_mono hs ok turn now [] h = omega arith
paid_mono hs ok turn now (x ∷ xs) h =
    let k = paid_mono hs ok turn now xs h in
    let one = one_mono (list_any (owes ok now x) hs) (list_any (owes ok turn x) hs) (any_mono (owes ok now x) (owes ok turn x) hs (owes_mono ok turn now x h)) in
    omega (arith, k, one)

paid_added : (hs : List (ℕ × ℕ)) (ok : ℕ → Bool) (turn : ℕ → ℕ) (xs : List Seen) (x : Seen) → paid hs ok turn (xs ++ x ∷ []) ≤ paid hs ok turn xs + 1
paid_added hs ok turn [] x = one (list_any (owes ok turn x) hs) where
  one : (b : Bool) → one_if b + 0 ≤ 0 + 1
  one true = omega arith
  one false = omega arith
paid_added hs ok turn (y ∷ ys) x = let h = paid_added hs ok turn ys x in omega (arith, h)

-- one DO_WHILE is turned: no other one begins with that node
none_owes : (hs : List (ℕ × ℕ)) (ok : ℕ → Bool) (now : ℕ → ℕ) (a : Seen) (loop : ℕ) → a.iteration < now loop
    → ((k : ℕ) → begins_with hs k a.node ≡ true → k ≡ loop) → list_any (owes ok now a) hs ≡ false
none_owes [] ok now a loop lt h = refl
none_owes (p ∷ ps) ok now a loop lt h =
    by_node (a.node == p.1) refl (none_owes ps ok now a loop lt (λ k e. h k (later (is_pair k a.node p) (begins_with ps k a.node) e))) where
      later : (b c : Bool) → c ≡ true → (b || c) ≡ true
      later true c e = refl
      later false c e = e

      by_node : (b : Bool) → (a.node == p.1) ≡ b → list_any (owes ok now a) ps ≡ false
          → ((b && (not a.superseded && (ok p.0 && nat_le (now p.0) a.iteration))) || list_any (owes ok now a) ps) ≡ false
      by_node false e k = k
      by_node true e k =
          let here : is_pair p.0 a.node p ≡ true = grind (arith, nat_tests) in
          let same : p.0 ≡ loop = h p.0 (rw here refl) in
          let over : nat_le (now loop) a.iteration ≡ false = grind (arith, nat_tests) in
          rw (same, over) (none (not a.superseded) (ok loop) k) where
            none : (b c : Bool) → list_any (owes ok now a) ps ≡ false → ((b && (c && false)) || list_any (owes ok now a) ps) ≡ false
            none true true k = k
            none true false k = k
            none false c k = k

owes_there : (ok : ℕ → Bool) (turn : ℕ → ℕ) (a : Seen) (loop first : ℕ) → is_of first (turn loop) a ≡ true → ok loop ≡ true → (p : ℕ × ℕ) → is_pair loop first p ≡ true → owes ok turn a p ≡ true
owes_there ok turn a loop first h o p k =
    let same : p.0 ≡ loop = grind (arith, nat_tests) in
    let node : p.1 ≡ first = grind (arith, nat_tests) in
    rw (same, node, o) (by_tests (a.node == first) (a.iteration == turn loop) (not a.superseded) refl refl h) where
      by_tests : (b c d : Bool) → (a.node == first) ≡ b → (a.iteration == turn loop) ≡ c → (b && c && d) ≡ true → (b && (d && (true && nat_le (turn loop) a.iteration))) ≡ true
      by_tests true true true x y e = grind (arith, nat_tests)
      by_tests true true false x y e = cc
      by_tests true false d x y e = cc
      by_tests false c d x y e = cc

paid_falls : (hs : List (ℕ × ℕ)) (ok : ℕ → Bool) (turn now : ℕ → ℕ) (loop first : ℕ) (xs : List Seen) → ((l : ℕ) → ok l ≡ true → turn l ≤ now l)
    → ok loop ≡ true → turn loop < now loop → begins_with hs loop first ≡ true → ((k : ℕ) → begins_with hs k first ≡ true → k ≡ loop)
    → is_some (last_of xs first (turn loop)) ≡ true → paid hs ok now xs < paid hs ok turn xs
unfolding last_of
paid_falls hs ok turn now loop first [] later o lt there apart some = cc
paid_falls hs ok turn now loop first (a ∷ rest) later o lt there apart some =
    by_rest (last_of rest first (turn loop)) (is_of first (turn loop) a) refl refl some (λ k. paid_falls hs ok turn now loop first rest later o lt there apart k) where
      one : one_if (list_any (owes ok now a) hs) ≤ one_if (list_any (owes ok turn a) hs)
      one = one_mono (list_any (owes ok now a) hs) (list_any (owes ok turn a) hs) (any_mono (owes ok now a) (owes ok turn a) hs (owes_mono ok turn now a later))

      more : paid hs ok now rest ≤ paid hs ok turn rest
      more = paid_mono hs ok turn now rest later

      by_rest : (x : Option Seen) (b : Bool) → last_of rest first (turn loop) ≡ x → is_of first (turn loop) a ≡ b → is_some (later_one b a x) ≡ true
          → (is_some x ≡ true → paid hs ok now rest < paid hs ok turn rest) → paid hs ok now (a ∷ rest) < paid hs ok turn (a ∷ rest)
      by_rest (Some x) b is h some on = let k = on refl in let l = one in omega (arith, k, l)
      by_rest None true is h some on =
          let node : a.node ≡ first = node_of (a.node == first) (a.iteration == turn loop) (not a.superseded) refl h in
          let iteration : a.iteration ≡ turn loop = turn_is (a.node == first) (a.iteration == turn loop) (not a.superseded) refl h in
          let old : list_any (owes ok turn a) hs ≡ true = any_mono (is_pair loop first) (owes ok turn a) hs (owes_there ok turn a loop first h o) there in
          let gone : list_any (owes ok now a) hs ≡ false = none_owes hs ok now a loop (omega (arith, iteration, lt)) (λ k e. apart k (subst (λ n. begins_with hs k n ≡ true) node e)) in
          let m = more in
          rw (old, gone) (omega (arith, m)) where
            node_of : (b c d : Bool) → (a.node == first) ≡ b → (b && c && d) ≡ true → a.node ≡ first
            node_of true c d x e = grind (arith, nat_tests)
            node_of false c d x e = cc

            turn_is : (b c d : Bool) → (a.iteration == turn loop) ≡ c → (b && c && d) ≡ true → a.iteration ≡ turn loop
            turn_is true true d x e = grind (arith, nat_tests)
            turn_is true false d x e = cc
            turn_is false c d x e = cc
      by_rest None false is h some on = cc

-- ---- the turns of DO_WHILE attempts

abbrev Rises : Option Seen → Option Seen → Type 0
Rises None o = Unit {0}
Rises (Some x) None = false ≡ true
Rises (Some x) (Some y) = x.turn ≤ y.turn

rises_turn : (o q : Option Seen) → Rises o q → turn_of o ≤ turn_of q
rises_turn None None h = omega arith
rises_turn None (Some y) h = omega arith
rises_turn (Some x) None h = cc
rises_turn (Some x) (Some y) h = h

rises_later : (b : Bool) (x y : Seen) (o q : Option Seen) → x.turn ≤ y.turn → Rises o q → (o ≡ None → q ≡ None) → Rises (later_one b x o) (later_one b y q)
rises_later b x y (Some o) (Some q) h k n = k
rises_later b x y (Some o) None h k n = cc
rises_later true x y None None h k n = h
rises_later false x y None None h k n = tt
rises_later b x y None (Some q) h k n = let no = n refl in cc

rises_self : (o : Option Seen) → Rises o o
rises_self None = tt
rises_self (Some x) = omega arith

none_stays : (l k p : ℕ) (c : Seen → Seen) (xs : List Seen) → ((x : Seen) → is_of l k (c x) ≡ is_of l k x) → last_of xs l k ≡ None → last_of (at_place p c xs) l k ≡ None
unfolding last_of
none_stays l k p c [] h n = refl
none_stays l k zero c (x ∷ xs) h n = rw (h x) (by_rest (is_of l k x) (last_of xs l k) n) where
  by_rest : (b : Bool) (o : Option Seen) → later_one b x o ≡ None → later_one b (c x) o ≡ None
  by_rest b (Some y) n = cc
  by_rest true None n = cc
  by_rest false None n = refl
none_stays l k (suc p) c (x ∷ xs) h n = by_rest (is_of l k x) (last_of xs l k) refl n (none_stays l k p c xs h) where
  by_rest : (b : Bool) (o : Option Seen) → last_of xs l k ≡ o → later_one b x o ≡ None → (last_of xs l k ≡ None → last_of (at_place p c xs) l k ≡ None)
      → later_one b x (last_of (at_place p c xs) l k) ≡ None
  by_rest b (Some y) is n on = cc
  by_rest true None is n on = cc
  by_rest false None is n on = rw (on is) refl

rises_at : (l k p : ℕ) (c : Seen → Seen) (xs : List Seen) → ((x : Seen) → is_of l k (c x) ≡ is_of l k x) → ((x : Seen) → slice_get xs p ≡ Some x → x.turn ≤ (c x).turn)
    → Rises (last_of xs l k) (last_of (at_place p c xs) l k)
unfolding last_of
rises_at l k p c [] h up = tt
rises_at l k zero c (x ∷ xs) h up = rw (h x) (rises_later (is_of l k x) x (c x) (last_of xs l k) (last_of xs l k) (up x refl) (rises_self (last_of xs l k)) (λ e. e))
rises_at l k (suc p) c (x ∷ xs) h up =
    rises_later (is_of l k x) x x (last_of xs l k) (last_of (at_place p c xs) l k) (omega arith) (rises_at l k p c xs h up) (none_stays l k p c xs h)

last_added : (l k : ℕ) (xs : List Seen) (x : Seen) → last_of (xs ++ x ∷ []) l k ≡ (if is_of l k x then Some x else last_of xs l k)
unfolding last_of
last_added l k [] x = one (is_of l k x) where
  one : (b : Bool) → later_one b x None ≡ (if b then Some x else None)
  one true = refl
  one false = refl
last_added l k (y ∷ ys) x = rw (last_added l k ys x) (by_new (is_of l k x)) where
  by_new : (b : Bool) → later_one (is_of l k y) y (if b then Some x else last_of ys l k) ≡ (if b then Some x else later_one (is_of l k y) y (last_of ys l k))
  by_new true = refl
  by_new false = refl

-- ---- the last attempt at its place

abbrev pub AtLast : List Seen → ℕ → ℕ → Option ℕ → Type 0
AtLast xs l k None = last_of xs l k ≡ None
AtLast xs l k (Some p) =
    (x : Seen) × (slice_get xs p ≡ Some x) × (last_of xs l k ≡ Some x) × ((c : Seen → Seen) → ((y : Seen) → is_of l k (c y) ≡ is_of l k y) → last_of (at_place p c xs) l k ≡ Some (c x))

pub at_last : (xs : List Seen) (l k : ℕ) → AtLast xs l k (last_place xs l k)
unfolding last_of last_place
at_last [] l k = refl
at_last (a ∷ rest) l k = by_rest (is_of l k a) refl (last_place rest l k) (at_last rest l k) where
  by_rest : (b : Bool) → is_of l k a ≡ b → (q : Option ℕ) → AtLast rest l k q → AtLast (a ∷ rest) l k (later_place b q)
  by_rest b e (Some p) h = (h.0, h.1, rw (h.2) refl, λ c same. rw (h.3 c same) refl)
  by_rest true e None h = (a, refl, rw (e, h) refl, λ c same. rw (same a, e, h) refl)
  by_rest false e None h = rw (e, h) refl

-- ---- acts

pub falls_done : (limits : Limits) (s t : Sight) (st : FlowStatus) (r : Option (List ℕ)) (out : Option Doc) → is_running s.status ≡ true → is_running st ≡ false → left limits (shown (End st r out) t) < left limits s
falls_done limits s t st r out runs over = rw (runs, over) (omega arith)

pub falls_credits : (limits : Limits) (s t : Sight) → is_running s.status ≡ true → t.status ≡ s.status → credits limits t < credits limits s → left limits t < left limits s
falls_credits limits s t runs same h = rw (same, runs) h

-- an attempt that is over leaves less
pub falls_over : (limits : Limits) (s : Sight) (p : ℕ) (x : Seen) (c : Seen → Seen) → is_running s.status ≡ true → slice_get s.attempts p ≡ Some x
    → weight (c x).status < weight x.status → ((y : Seen) → c y ≡ record (c y) { node = y.node; iteration = y.iteration; turn = y.turn; superseded = y.superseded })
    → left limits (shown_over p c s) < left limits s
falls_over limits s p x c runs there lt keeps =
    let a = works_less p s.attempts x c there lt in
    let b = dues_less p s.due in
    let l = length_place p c s.attempts in
    let is_kept : (l k : ℕ) (y : Seen) → is_of l k (c y) ≡ is_of l k y = λ l k y. ap (is_of l k) (keeps y) in
    let owed : (turn : ℕ → ℕ) (y : Seen) → one_if (list_any (owes (is_loop_of s) turn (c y)) (loop_heads s)) ≡ one_if (list_any (owes (is_loop_of s) turn y) (loop_heads s))
    = λ turn y. ap (λ (z : Seen). one_if (list_any (owes (is_loop_of s) turn z) (loop_heads s))) (keeps y) in
    let now = turns (at_place p c s.attempts) in
    let same = paid_same (loop_heads s) (is_loop_of s) now p s.attempts c (owed now) in
    let mono = paid_mono (loop_heads s) (is_loop_of s) (turns s.attempts) now s.attempts
    (λ l o. rises_turn (last_of s.attempts l 0) (last_of (at_place p c s.attempts) l 0)
    (rises_at l 0 p c s.attempts (is_kept l 0) (λ y e. (let t = ap (λ (z : Seen). z.turn) (keeps y) in omega (arith, t))))) in
    falls_credits limits s (shown_over p c s) runs refl (omega (arith, a, b, l, same, mono))

pub falls_noted : (limits : Limits) (s : Sight) (p : ℕ) (alert : Alert) (r : List ℕ) → is_running s.status ≡ true → dues (at_place p (filter (but alert)) s.due) < dues s.due
    → left limits (shown (Note p alert r) s) < left limits s
falls_noted limits s p alert r runs h =
    let a = works_same p s.attempts (seen_noted r) (λ y. refl) in
    let l = length_place p (seen_noted r) s.attempts in
    let now = turns (at_place p (seen_noted r) s.attempts) in
    let same = paid_same (loop_heads s) (is_loop_of s) now p s.attempts (seen_noted r) (λ y. refl) in
    let mono = paid_mono (loop_heads s) (is_loop_of s) (turns s.attempts) now s.attempts
    (λ l o. rises_turn (last_of s.attempts l 0) (last_of (at_place p (seen_noted r) s.attempts) l 0)
    (rises_at l 0 p (seen_noted r) s.attempts (λ y. refl) (λ y e. omega arith))) in
    falls_credits limits s (shown (Note p alert r) s) runs refl (omega (arith, a, l, same, mono, h))

pub falls_note_flow : (limits : Limits) (s : Sight) (r : List ℕ) → is_running s.status ≡ true → s.over_time ≡ true → left limits (shown (NoteFlow r) s) < left limits s
falls_note_flow limits s r runs h = falls_credits limits s (shown (NoteFlow r) s) runs refl (rw h (omega arith))

-- a DO_WHILE that is turned
pub falls_turned : (limits : Limits) (s : Sight) (p loop first : ℕ) (x : Seen) (out : Doc) → is_running s.status ≡ true → slice_get s.attempts p ≡ Some x
    → last_of s.attempts loop 0 ≡ Some x → last_of (at_place p (seen_turned out (x.turn + 1)) s.attempts) loop 0 ≡ Some (seen_turned out (x.turn + 1) x)
    → is_loop_of s loop ≡ true → begins_with (loop_heads s) loop first ≡ true → ((k : ℕ) → begins_with (loop_heads s) k first ≡ true → k ≡ loop)
    → is_some (last_of s.attempts first (turn_of (last_of s.attempts loop 0))) ≡ true → left limits (shown (TurnOn p out (x.turn + 1)) s) < left limits s
falls_turned limits s p loop first x out runs there last more ok begins apart some =
    let c = seen_turned out (x.turn + 1) in
    let a = works_same p s.attempts c (λ y. refl) in
    let b = ap dues (place_same p s.due) in
    let l = length_place p c s.attempts in
    let now = turns (at_place p c s.attempts) in
    let same = paid_same (loop_heads s) (is_loop_of s) now p s.attempts c (λ y. refl) in
    let old_turn : turns s.attempts loop ≡ x.turn = ap turn_of last in
    let new_turn : now loop ≡ x.turn + 1 = ap turn_of more in
    let falls = paid_falls (loop_heads s) (is_loop_of s) (turns s.attempts) now loop first s.attempts
    (λ l o. rises_turn (last_of s.attempts l 0) (last_of (at_place p c s.attempts) l 0)
    (rises_at l 0 p c s.attempts (λ y. refl) (λ y e. (let eq : x ≡ y = some_same there e in rw (← eq) (omega arith)))))
    ok (omega (arith, old_turn, new_turn)) begins apart some in
    falls_credits limits s (shown (TurnOn p out (x.turn + 1)) s) runs refl (omega (arith, a, b, l, same, falls)) where
      some_same : {y z : Seen} {o : Option Seen} → o ≡ Some y → o ≡ Some z → y ≡ z
      some_same h k = cc

weight_few : (status : TaskStatus) → weight status ≤ 2
weight_few status = by_tests (task_is_open status) (task_is_successful status) where
  by_tests : (b c : Bool) → (if b then 2 else if c then 0 else 1) ≤ 2
  by_tests true c = omega arith
  by_tests false true = omega arith
  by_tests false false = omega arith

works_added : (xs : List Seen) (x : Seen) → works (xs ++ x ∷ []) ≤ works xs + 2
works_added [] x = let h = weight_few x.status in omega (arith, h)
works_added (y ∷ ys) x = let h = works_added ys x in omega (arith, h)

dues_added : (ds : List (List Cause)) (d : List Cause) → dues (ds ++ d ∷ []) ≡ dues ds + length d
dues_added [] d = omega arith
dues_added (x ∷ xs) d = let h = dues_added xs d in omega (arith, h)

few_due : (b : Begin) → length (due_new b) ≤ 1
few_due (Queued t d) = omega arith
few_due (Held None) = omega arith
few_due (Held (Some d)) = by_zero (d == 0) where
  by_zero : (b : Bool) → length (if b then Wait ∷ [] else []) ≤ 1
  by_zero true = omega arith
  by_zero false = omega arith
few_due (Over o) = omega arith

-- an attempt of a DO_WHILE is added only where it has none
abbrev pub Lands : Sight → NewAttempt → Type 0
Lands s n = (l : ℕ) → is_loop_of s l ≡ true → is_of l 0 (seen_new n) ≡ true → last_of s.attempts l 0 ≡ None

pub falls_added : (limits : Limits) (s : Sight) (n : NewAttempt) → is_running s.status ≡ true → length s.attempts < limits.attempts → Lands s n → left limits (shown (Add n) s) < left limits s
falls_added limits s n runs lt lands =
    let a = works_added s.attempts (seen_new n) in
    let b = dues_added s.due (due_new n.begin) in
    let d = few_due n.begin in
    let l = length-append s.attempts (seen_new n ∷ []) in
    let now = turns (s.attempts ++ seen_new n ∷ []) in
    let more = paid_added (loop_heads s) (is_loop_of s) now s.attempts (seen_new n) in
    let mono = paid_mono (loop_heads s) (is_loop_of s) (turns s.attempts) now s.attempts (λ l o. up l o (is_of l 0 (seen_new n)) refl) in
    falls_credits limits s (shown (Add n) s) runs refl (omega (arith, a, b, d, l, more, mono, lt)) where
      up : (l : ℕ) → is_loop_of s l ≡ true → (b : Bool) → is_of l 0 (seen_new n) ≡ b → turns s.attempts l ≤ turns (s.attempts ++ seen_new n ∷ []) l
      up l o true e = rw (lands l o e) (omega arith)
      up l o false e = rw (last_added l 0 s.attempts (seen_new n), e) (omega arith)
