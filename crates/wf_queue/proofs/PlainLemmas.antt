-- What waits in one flat list, by name.
use Rattle.std.proofs.Common.{◌≡◌, ◌≢◌, ◌∙◌, ℕ, zero, suc, ◌+◌, ◌<◌, leb, Bool, true, false, cond, List, [], ◌∷◌, ◌++◌, length, get_or, map, bytes_eq, Option, None, Some, refl, sym, ap, true≢false, arith}
use Rattle.std.specs.Prelude.{◌&&◌, ◌||◌, if◌then◌else◌, filter}
use Rattle.std.specs.List.{find, remove}
use Rattle.std.specs.Option.{option_map_or}
use Rattle.std.specs.Cmp.Lexicographic.{bytes_decides}
use Rattle.std.proofs.lemmas.Bool.Decides.{nat_tests}
use Rattle.wf_sorted.specs.declared.entry.Entry.{Entry}
use Rattle.wf_sorted.specs.Order.{holds, is_before, is_same, least, lesser, passed, put}
use Rattle.wf_sorted.proofs.AppendLemmas.{length_put}
use Rattle.wf_sorted.proofs.OrderLemmas.{before_all, before_back, none_trans}
use Rattle.wf_sorted.proofs.PutLemmas.{puts_commute, same_entry}
use Rattle.wf_queue.specs.Plain.{Waiter, as_queues, is_waiter, waiting_of}
use Rattle.wf_queue.specs.Waiting.{NamedQueue, is_named, waiting}

-- ---- the flat list as queues

abbrev queue_of : List Waiter → Waiter → NamedQueue
queue_of all w = record { name = w.name; entries = waiting_of w.name all; spare = 0 }

abbrev has : List ℕ → List Waiter → Bool
has name [] = false
has name (w ∷ rest) = bytes_eq w.name name || has name rest

none_waits : (name : List ℕ) (ws : List Waiter) → has name ws ≡ false → waiting_of name ws ≡ []
none_waits name [] none = refl
none_waits name (w ∷ ws) none =
    elim (bytes_eq w.name name) as (λ b. (b || has name ws) ≡ false → (if b then put w.entry (waiting_of name ws) else waiting_of name ws) ≡ []) [
      | true ↦ λ none. absurd (true≢false none)
      | false ↦ λ none. none_waits name ws none
    ] none

found_queue : (name : List ℕ) (all ws : List Waiter) → (has name ws ≡ false → waiting_of name all ≡ []) → waiting name (map (queue_of all) ws) ≡ waiting_of name all
found_queue name all [] none = sym (none refl)
found_queue name all (w ∷ ws) none =
    elim (bytes_eq w.name name) as (λ b. bytes_eq w.name name ≡ b → ((b || has name ws) ≡ false → waiting_of name all ≡ [])
    → option_map_or (λ (q : NamedQueue). q.entries) (cond b (Some (queue_of all w)) (find (is_named name) (map (queue_of all) ws))) [] ≡ waiting_of name all) [
      | true ↦ λ is none. ap (λ n. waiting_of n all) ((bytes_decides w.name name).0 is)
      | false ↦ λ is none. found_queue name all ws none
    ] refl none

pub waits : (name : List ℕ) (all : List Waiter) → waiting name (as_queues all) ≡ waiting_of name all
waits name all = found_queue name all all (none_waits name all)

pub itself_named : (name : List ℕ) → bytes_eq name name ≡ true
itself_named name = (bytes_decides name name).1 refl

pub other_name : (text name : List ℕ) → name ≢ text → bytes_eq text name ≡ false
other_name text name differs =
    elim (bytes_eq text name) as (λ b. bytes_eq text name ≡ b → b ≡ false) [
      | true ↦ λ is. absurd (differs (sym ((bytes_decides text name).0 is)))
      | false ↦ λ is. refl
    ] refl

-- ---- one more waits

pub pushed_same : (name : List ℕ) (w : Waiter) (ws : List Waiter) → bytes_eq w.name name ≡ true → waiting_of name (ws ++ w ∷ []) ≡ put w.entry (waiting_of name ws)
pushed_same name w [] is = rw is refl
pushed_same name w (x ∷ ws) is =
    elim (bytes_eq x.name name) as (λ b. (if b then put x.entry (waiting_of name (ws ++ w ∷ [])) else waiting_of name (ws ++ w ∷ []))
    ≡ put w.entry (if b then put x.entry (waiting_of name ws) else waiting_of name ws)) [
      | true ↦ ap (put x.entry) (pushed_same name w ws is) ∙ puts_commute x.entry w.entry (waiting_of name ws)
      | false ↦ pushed_same name w ws is
    ]

pub pushed_other : (name : List ℕ) (w : Waiter) (ws : List Waiter) → bytes_eq w.name name ≡ false → waiting_of name (ws ++ w ∷ []) ≡ waiting_of name ws
pushed_other name w [] is = rw is refl
pushed_other name w (x ∷ ws) is =
    elim (bytes_eq x.name name) as (λ b. (if b then put x.entry (waiting_of name (ws ++ w ∷ [])) else waiting_of name (ws ++ w ∷ []))
    ≡ (if b then put x.entry (waiting_of name ws) else waiting_of name ws)) [
      | true ↦ ap (put x.entry) (pushed_other name w ws is)
      | false ↦ pushed_other name w ws is
    ]

-- ---- one less waits

pub removed_named : (name : List ℕ) (d : Waiter) (ws : List Waiter) (i : ℕ) → i < length ws → bytes_eq (get_or ws i d).name name ≡ true
    → waiting_of name ws ≡ put (get_or ws i d).entry (waiting_of name (remove ws i))
removed_named name d [] i within is = absurd (omega arith)
removed_named name d (w ∷ ws) zero within is = rw is refl
removed_named name d (w ∷ ws) (suc i) within is =
    elim (bytes_eq w.name name) as (λ b. (if b then put w.entry (waiting_of name ws) else waiting_of name ws)
    ≡ put (get_or ws i d).entry (if b then put w.entry (waiting_of name (remove ws i)) else waiting_of name (remove ws i))) [
      | true ↦ ap (put w.entry) (removed_named name d ws i (omega arith) is) ∙ puts_commute w.entry (get_or ws i d).entry (waiting_of name (remove ws i))
      | false ↦ removed_named name d ws i (omega arith) is
    ]

pub removed_other : (name : List ℕ) (d : Waiter) (ws : List Waiter) (i : ℕ) → i < length ws → bytes_eq (get_or ws i d).name name ≡ false
    → waiting_of name (remove ws i) ≡ waiting_of name ws
removed_other name d [] i within is = absurd (omega arith)
removed_other name d (w ∷ ws) zero within is = rw is refl
removed_other name d (w ∷ ws) (suc i) within is =
    elim (bytes_eq w.name name) as (λ b. (if b then put w.entry (waiting_of name (remove ws i)) else waiting_of name (remove ws i))
    ≡ (if b then put w.entry (waiting_of name ws) else waiting_of name ws)) [
      | true ↦ ap (put w.entry) (removed_other name d ws i (omega arith) is)
      | false ↦ removed_other name d ws i (omega arith) is
    ]

same_moment : (a e : Entry) → is_same a e ≡ true → a.moment ≡ e.moment
same_moment a e same = grind (arith, nat_tests)

same_number : (a e : Entry) → is_same a e ≡ true → a.number ≡ e.number
same_number a e same = grind (arith, nat_tests)

is_entry : (a e : Entry) → is_same a e ≡ true → a ≡ e
is_entry a e same =
    let at : ℕ → Entry = λ m. record { moment = m; number = a.number } in
    let numbered : ℕ → Entry = λ n. record { moment = e.moment; number = n } in
    ap at (same_moment a e same) ∙ ap numbered (same_number a e same)

-- a waiter's name and entry
pub record Meets (name : List ℕ) (e : Entry) (w : Waiter) : Type 0 where
  pub named : bytes_eq w.name name ≡ true
  pub entry : w.entry ≡ e

pub meets : (name : List ℕ) (e : Entry) (w : Waiter) → is_waiter name e w ≡ true → Meets name e w
meets name e w is =
    elim (bytes_eq w.name name) as (λ b. bytes_eq w.name name ≡ b → (b && is_same w.entry e) ≡ true → Meets name e w) [
      | true ↦ λ named same. record { named = named; entry = is_entry w.entry e same }
      | false ↦ λ named same. absurd (true≢false (sym same))
    ] refl is

-- ---- whether the entry waits

swap_or : (a b c : Bool) → (a || (b || c)) ≡ (b || (a || c))
swap_or true true c = refl
swap_or true false c = refl
swap_or false true c = refl
swap_or false false c = refl

pub holds_put : (e x : Entry) (ys : List Entry) → holds e (put x ys) ≡ (is_same x e || holds e ys)
holds_put e x [] = refl
holds_put e x (y ∷ ys) =
    elim (is_before y x) as (λ b. holds e (if b then y ∷ put x ys else x ∷ y ∷ ys) ≡ (is_same x e || (is_same y e || holds e ys))) [
      | true ↦ ap (λ h. is_same y e || h) (holds_put e x ys) ∙ swap_or (is_same y e) (is_same x e) (holds e ys)
      | false ↦ refl
    ]

pub holds_itself : (e : Entry) (ys : List Entry) → holds e (put e ys) ≡ true
holds_itself e ys = let same : is_same e e ≡ true = grind (arith, nat_tests) in holds_put e e ys ∙ rw same refl

pub not_here : (name : List ℕ) (e : Entry) (w : Waiter) (ws : List Waiter) → is_waiter name e w ≡ false
    → holds e (waiting_of name (w ∷ ws)) ≡ holds e (waiting_of name ws)
not_here name e w ws is =
    elim (bytes_eq w.name name) as (λ b. (b && is_same w.entry e) ≡ false → holds e (if b then put w.entry (waiting_of name ws) else waiting_of name ws) ≡ holds e (waiting_of name ws)) [
      | true ↦ λ other. holds_put e w.entry (waiting_of name ws) ∙ rw other refl
      | false ↦ λ _. refl
    ] is

-- ---- how many wait

pub named_count : (name : List ℕ) (ws : List Waiter) → length (filter (λ w. bytes_eq w.name name) ws) ≡ length (waiting_of name ws)
named_count name [] = refl
named_count name (w ∷ ws) =
    elim (bytes_eq w.name name) as (λ b. length (cond b (w ∷ filter (λ w. bytes_eq w.name name) ws) (filter (λ w. bytes_eq w.name name) ws))
    ≡ length (if b then put w.entry (waiting_of name ws) else waiting_of name ws)) [
      | true ↦ omega (arith, named_count name ws, length_put w.entry (waiting_of name ws))
      | false ↦ named_count name ws
    ]

-- ---- the first that is ready

two_least : (a b : Entry) → lesser a (Some b) ≡ lesser b (Some a)
two_least a b =
    elim (is_before b a) as (λ r. is_before b a ≡ r → (if r then b else a) ≡ lesser b (Some a)) [
      | true ↦ λ before. rw (before_back b a before) refl
      | false ↦ λ after. elim (is_before a b) as (λ s. is_before a b ≡ s → a ≡ (if s then a else b)) [
        | true ↦ λ _. refl
        | false ↦ λ also. same_entry a b also after
      ] refl
    ] refl

swapped : (a b c : Entry) (p q : Bool) → is_before c b ≡ p → is_before c a ≡ q → lesser a (Some (if p then c else b)) ≡ lesser b (Some (if q then c else a))
swapped a b c true true hp hq = rw (hp, hq) refl
swapped a b c true false hp hq = rw (hq, before_all a c b hq hp) refl
swapped a b c false true hp hq = rw (hp, before_all b c a hp hq) refl
swapped a b c false false hp hq = two_least a b

swapped_lesser : (a b : Entry) (o : Option Entry) → lesser a (Some (lesser b o)) ≡ lesser b (Some (lesser a o))
swapped_lesser a b None = two_least a b
swapped_lesser a b (Some c) = swapped a b c (is_before c b) (is_before c a) refl refl

grouped : (e a c : Entry) (r p : Bool) → is_before a e ≡ r → is_before c a ≡ p → lesser e (Some (if p then c else a)) ≡ lesser (if r then a else e) (Some c)
grouped e a c true true hr hp = rw (hp, before_all c a e (before_back c a hp) hr) refl
grouped e a c true false hr hp = rw (hr, hp) refl
grouped e a c false true hr hp = refl
grouped e a c false false hr hp = rw (hr, none_trans a c e hp hr) refl

grouped_lesser : (e a : Entry) (o : Option Entry) → lesser e (Some (lesser a o)) ≡ lesser (lesser e (Some a)) o
grouped_lesser e a None = refl
grouped_lesser e a (Some c) = grouped e a c (is_before a e) (is_before c a) refl refl

-- the least of two that may not be there
abbrev pub join : Option Entry → Option Entry → Option Entry
join None o = o
join (Some a) o = Some (lesser a o)

pub joined : (first : Option Entry) (e : Entry) (o : Option Entry) → join first (Some (lesser e o)) ≡ join (Some (lesser e first)) o
joined None e o = refl
joined (Some a) e o = ap Some (swapped_lesser a e o ∙ grouped_lesser e a o)

pub join_none : (first : Option Entry) → join first None ≡ first
join_none None = refl
join_none (Some a) = refl

abbrev weigh : ℕ → Entry → Option Entry → Option Entry
weigh moment e o = if leb e.moment moment then Some (lesser e o) else o

weighed : (moment : ℕ) (e : Entry) (es : List Entry) → least (passed moment (e ∷ es)) ≡ weigh moment e (least (passed moment es))
weighed moment e es =
    elim (leb e.moment moment) as (λ p. least (if p then e ∷ passed moment es else passed moment es) ≡ (if p then Some (lesser e (least (passed moment es))) else least (passed moment es))) [
      | true ↦ refl
      | false ↦ refl
    ]

weigh_both : (moment : ℕ) (a b : Entry) (o : Option Entry) → weigh moment a (weigh moment b o) ≡ weigh moment b (weigh moment a o)
weigh_both moment a b o = cases (leb a.moment moment) (leb b.moment moment)
  where
    cases : (p q : Bool) → (if p then Some (lesser a (if q then Some (lesser b o) else o)) else (if q then Some (lesser b o) else o))
        ≡ (if q then Some (lesser b (if p then Some (lesser a o) else o)) else (if p then Some (lesser a o) else o))
    cases true true = ap Some (swapped_lesser a b o)
    cases true false = refl
    cases false true = refl
    cases false false = refl

weigh_put : (moment : ℕ) (e : Entry) (es : List Entry) → least (passed moment (put e es)) ≡ weigh moment e (least (passed moment es))
weigh_put moment e [] = weighed moment e []
weigh_put moment e (x ∷ es) =
    elim (is_before x e) as (λ p. least (passed moment (if p then x ∷ put e es else e ∷ x ∷ es)) ≡ weigh moment e (least (passed moment (x ∷ es)))) [
      | true ↦
          weighed moment x (put e es) ∙ ap (weigh moment x) (weigh_put moment e es) ∙ weigh_both moment x e (least (passed moment es))
          ∙ ap (weigh moment e) (sym (weighed moment x es))
      | false ↦ weighed moment e (x ∷ es)
    ]

-- the least of the name's entries that are ready
abbrev pub best : ℕ → List ℕ → List Waiter → Option Entry
best moment name ws = least (passed moment (waiting_of name ws))

pub best_ready : (moment : ℕ) (name : List ℕ) (w : Waiter) (ws : List Waiter) → (bytes_eq w.name name && leb w.entry.moment moment) ≡ true
    → best moment name (w ∷ ws) ≡ Some (lesser w.entry (best moment name ws))
best_ready moment name w ws ready =
    elim (bytes_eq w.name name) as (λ b. (b && leb w.entry.moment moment) ≡ true
    → least (passed moment (if b then put w.entry (waiting_of name ws) else waiting_of name ws)) ≡ Some (lesser w.entry (best moment name ws))) [
      | true ↦ λ due. weigh_put moment w.entry (waiting_of name ws) ∙ rw due refl
      | false ↦ λ due. absurd (true≢false (sym due))
    ] ready

pub best_unready : (moment : ℕ) (name : List ℕ) (w : Waiter) (ws : List Waiter) → (bytes_eq w.name name && leb w.entry.moment moment) ≡ false
    → best moment name (w ∷ ws) ≡ best moment name ws
best_unready moment name w ws unready =
    elim (bytes_eq w.name name) as (λ b. (b && leb w.entry.moment moment) ≡ false
    → least (passed moment (if b then put w.entry (waiting_of name ws) else waiting_of name ws)) ≡ best moment name ws) [
      | true ↦ λ later. weigh_put moment w.entry (waiting_of name ws) ∙ rw later refl
      | false ↦ λ _. refl
    ] unready
