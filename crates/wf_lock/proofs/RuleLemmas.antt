-- Each step keeps the rule of the lock.
use Rattle.std.proofs.Common.{◌≡◌, ◌≢◌, ℕ, zero, suc, ◌+◌, ◌%◌, ◌^◌, ◌<◌, ◌≤◌, ◌⊎◌, inl, inr, eqb, Bool, true, false, ◌||◌, ◌&&◌, max, List, [], ◌∷◌, ◌++◌, length, get_or, set, sym, refl, ap, ◌∙◌, subst, ⊎_elim, arith, eq-eqb, ne_eqb, le_refl, length-append}
use mathlib.Core.Logic.{dite}
use mathlib.Core.Option.{none, some, some-injective, some-ne-none}
use mathlib.Core.Option as maybe
use mathlib.Core.List.{IsPrefix}
use native.Mathlib.Decide.{ℕ_discrete, dec_le}
use lib.ListN.{get_elem?}
use prog.Atomic.{either}
use Rattle.std.specs.Prelude.{Option, Some, None, if◌then◌else◌}
use Rattle.atomic_table.specs.Table.{State, Act, step, keeps, takes, gives, Allows, Splits, Joins, opening, Valid, homes_after, carried_after}
use Rattle.atomic_table.proofs.Lists.{at_set, set_here, set_else, set_again, at_snoc, at_longer}
use Rattle.wf_lock.specs.declared.view.Held.{Held}
use Rattle.wf_lock.specs.declared.view.View.{View}
use Rattle.wf_lock.specs.declared.view.Stage.{Stage}
use Rattle.wf_lock.specs.declared.view.Stage.TheVariants.{Idle, Waits, Serves}
use Rattle.wf_lock.specs.Places.{Has}
use Rattle.wf_lock.specs.Marks.{last_marked, HasMarked}
use Rattle.wf_lock.specs.Rule.{IsOneHistory, Knows, KnowsStage, Rests, Holds, IsServing, M, SeesTicket, DrawsTicket, LooksAtServing, with_entry, Finishes, longer, Learns, first_view, split_off, joined, taken_in, Raises, SeesDurable}
use Rattle.wf_lock.proofs.PlaceLemmas.{has_snoc, has_left, has_right, rises_snoc, merged_has, merged_left, merged_right, merged_rises}
use Rattle.wf_lock.proofs.MarkLemmas.{at_inside, at_last, last_marked_grows, last_marked_own}
use Rattle.wf_lock.proofs.PrefixLemmas.{prefix_snoc, prefix_length, prefix_whole, longer_of}

abbrev is_false : Bool → Type 0
is_false true = ⊥
is_false false = Unit {0}

no_true : false ≡ true → ⊥
no_true e = subst is_false e tt

either_true : (a c : Bool) → (c || a) ≡ true → (a ≡ true) ⊎ (c ≡ true)
either_true a true e = inr refl
either_true a false e = inl e

abbrev ticket_in : Stage → ℕ
ticket_in Idle = 0
ticket_in (Waits a) = a
ticket_in (Serves a) = a

holds_serving : (st : Stage) (a : ℕ) → Holds st a → IsServing st → st ≡ Serves a
holds_serving Idle a h s = absurd h
holds_serving (Waits t) a h s = absurd s
holds_serving (Serves t) a h s = ap Serves h

serving_at : (st : Stage) → IsServing st → st ≡ Serves (ticket_in st)
serving_at Idle s = absurd s
serving_at (Waits t) s = absurd s
serving_at (Serves t) s = refl

serving_not_waiting : (st : Stage) (a : ℕ) → st ≡ Waits a → IsServing st → ⊥
serving_not_waiting st a e s = subst IsServing e s

raised_both : (b c : Bool) (x y d : ℕ) → (b ≡ true → x ≡ d) → (c ≡ true → y ≡ d) → (c || b) ≡ true → (if c then y else x) ≡ d
raised_both b true x y d left right e = right refl
raised_both b false x y d left right e = left e

abbrev some_or : {A : Type 0} → A → Option A → A
some_or d (Some x) = x
some_or d None = d

abbrev is_some : {A : Type 0} → Option A → Type 0
is_some (Some x) = Unit {0}
is_some None = ⊥

none_some : {A : Type 0} (d : A) → None ≡ Some d → ⊥
none_some d e = subst is_some (sym e) tt

not_so : (c : Bool) → (c ≡ true → ⊥) → c ≡ false
not_so true n = absurd (n refl)
not_so false n = refl

not_twice : (a c : Bool) → (a ≡ true → c ≡ true → ⊥) → (c && a) ≡ false
not_twice a true n = not_so a (λ e. n e refl)
not_twice a false n = refl

module _ {T E B : Type 0} (base : T → B) (stands : T → List E → Type 0) (marked : E → Bool) (b : B) where
  abbrev H : Type 0
  H = Held T E

  abbrev S : Type 0
  S = Option H

  abbrev V : Type 0
  V = View E B

  abbrev St : Type 0
  St = State S V

  abbrev Rule : St → Type 0
  Rule = IsOneHistory base stands marked b

  abbrev held_or : H → List (ℕ × S) → H
  held_or d [] = d
  held_or d (x ∷ xs) = some_or d x.1

  held_at : (g h : H) → ◌≡◌ {A = List (ℕ × S)} ((0, Some g) ∷ []) ((0, Some h) ∷ []) → g ≡ h
  held_at g h e = ap (held_or g) e

  snap_at : (y e : E) → Some y ≡ Some e → y ≡ e
  snap_at y e q = ap (some_or y) q

  stage_grown : (t t' : ℕ) (log seen : List E) → t ≤ t' → (st : Stage) → KnowsStage t log seen st → KnowsStage t' log seen st
  stage_grown t t' log seen le Idle k = tt
  stage_grown t t' log seen le (Waits a) k = (k.0, let h = k.1 in omega arith)
  stage_grown t t' log seen le (Serves a) k = (k.0, (let h = k.1 in omega arith), k.2)

  stage_served : (t : ℕ) (log seen : List E) (e : E) (st : Stage) → ((a : ℕ) → Holds st a → a ≢ length log) → KnowsStage t log seen st → KnowsStage t (log ++ e ∷ []) seen st
  stage_served t log seen e Idle other k = tt
  stage_served t log seen e (Waits a) other k = ((let h = k.0 in let n = other a refl in omega (arith, length-append log (e ∷ []))), k.1)
  stage_served t log seen e (Serves a) other k = absurd (other a refl (sym k.0))

  grown : (t t' d : ℕ) (log : List E) (v : V) → t ≤ t' → Knows t d log b v → Knows t' d log b v
  grown t t' d log v le k = record {
    read = k.read;
    raised = k.raised;
    full = λ f. let h = k.full f in omega arith;
    seen = k.seen;
    told = k.told;
    own = k.own;
    base = k.base;
    rising = k.rising;
    once = k.once;
    stage = stage_grown t t' log v.seen le v.stage k.stage;
  }

  -- what is stored has risen, and this seat hasn't the drain right
  risen : (t d d' : ℕ) (log : List E) (v : V) → d ≤ d' → (v.drains ≡ true → ⊥) → Knows t d log b v → Knows t d' log b v
  risen t d d' log v le not_it k = record {
    full = k.full;
    seen = k.seen;
    told = k.told;
    own = k.own;
    base = k.base;
    rising = k.rising;
    once = k.once;
    stage = k.stage;
    read = (let l = k.read in omega arith);
    raised = λ h. absurd (not_it h);
  }

  served : (t d : ℕ) (log : List E) (e : E) (v : V) → ((a : ℕ) → Holds v.stage a → a ≢ length log) → Knows t d log b v → Knows t d (log ++ e ∷ []) b v
  served t d log e v other k = record {
    read = k.read;
    raised = k.raised;
    full = k.full;
    seen = prefix_snoc v.seen log e k.seen;
    told = prefix_snoc v.told log e k.told;
    own = λ p h. let o = k.own p h in (o.0, (let l = o.1 in omega (arith, length-append log (e ∷ []))), o.2);
    base = k.base;
    rising = k.rising;
    once = k.once;
    stage = stage_served t log v.seen e v.stage other k.stage;
  }

  below : (t a : ℕ) (log seen : List E) (st : Stage) → KnowsStage t log seen st → Holds st a → a < t
  below t a log seen Idle k h = absurd h
  below t a log seen (Waits c) k h = let l = k.1 in omega arith
  below t a log seen (Serves c) k h = let l = k.1 in omega arith

  both_cases : (views : List V) (id : ℕ) (w : V) (i j : ℕ) (v u : V) (P Q : V → Type 0) → get_elem? (set views id w) i ≡ some v → get_elem? (set views id w) j ≡ some u → P v → Q u
      → ((x : V) → i ≢ id → get_elem? views i ≡ some x → Q w → P x → ⊥) → ((x : V) → j ≢ id → get_elem? views j ≡ some x → P w → Q x → ⊥)
      → ((x y : V) → get_elem? views i ≡ some x → get_elem? views j ≡ some y → P x → Q y → i ≡ j) → i ≡ j
  both_cases views id w i j v u P Q e f h k left right old = ⊎_elim
      (λ (c : (i ≡ id) × (w ≡ v)). ⊎_elim (λ (d : (j ≡ id) × (w ≡ u)). c.0 ∙ sym d.0)
      (λ (d : (j ≢ id) × (get_elem? views j ≡ some u)). absurd (right u d.0 d.1 (subst P (sym c.1) h) k)) (at_set views id j w u f))
      (λ (c : (i ≢ id) × (get_elem? views i ≡ some v)). ⊎_elim (λ (d : (j ≡ id) × (w ≡ u)). absurd (left v c.0 c.1 (subst Q (sym d.1) k) h))
      (λ (d : (j ≢ id) × (get_elem? views j ≡ some u)). old v u c.1 d.1 h k) (at_set views id j w u f))
      (at_set views id i w v e)

  -- the seat id has a new view w
  moved : (s : St) (r : Rule s) (id t' d' : ℕ) (log' : List E) (home' : maybe.Option S) (w : V) → length log' ≤ t' → t' ≤ 2 ^ 62 → Knows t' d' log' b w
      → ((j : ℕ) (u : V) → j ≢ id → get_elem? s.views j ≡ some u → Knows t' d' log' b u)
      → ((j a : ℕ) (u : V) → j ≢ id → get_elem? s.views j ≡ some u → Holds w.stage a → Holds u.stage a → ⊥)
      → ((j p : ℕ) (u : V) → j ≢ id → get_elem? s.views j ≡ some u → Has p w.own → Has p u.own → ⊥)
      → Rests base stands marked b log' home' (set s.views id w)
      → ((j : ℕ) (u : V) → j ≢ id → get_elem? s.views j ≡ some u → w.drains ≡ true → u.drains ≡ true → ⊥)
      → (w.drains ≡ true → HasMarked marked log' w.own)
      → ((j : ℕ) (u : V) → j ≢ id → get_elem? s.views j ≡ some u → u.drains ≡ true → HasMarked marked log' u.own)
      → d' ≤ last_marked marked log'
      → Rule (record { words = t' ∷ length log' ∷ d' ∷ []; homes = home' ∷ []; views = set s.views id w })
  moved s r id t' d' log' home' w ordered bounded mine others apart alone rests lone marks_mine marks_others stored = record {
    durable = d';
    stored = stored;
    one_drains = λ i j v u e f h k. both_cases s.views id w i j v u (λ x. x.drains ≡ true) (λ x. x.drains ≡ true) e f h k (λ x. lone i x) (λ x. lone j x) (r.one_drains i j);
    drains_all = λ j v e. ⊎_elim (λ (c : (j ≡ id) × (w ≡ v)). subst (λ (x : V). x.drains ≡ true → HasMarked marked log' x.own) c.1 marks_mine)
        (λ (c : (j ≢ id) × (get_elem? s.views j ≡ some v)). marks_others j v c.0 c.1) (at_set s.views id j w v e);
    log = log';
    ticket = t';
    words_are = refl;
    ordered = ordered;
    bounded = bounded;
    home = home';
    homes_are = refl;
    each_seat = λ j v e. ⊎_elim (λ (c : (j ≡ id) × (w ≡ v)). subst (Knows t' d' log' b) c.1 mine)
        (λ (c : (j ≢ id) × (get_elem? s.views j ≡ some v)). others j v c.0 c.1) (at_set s.views id j w v e);
    apart = λ i j a v u e f h k. both_cases s.views id w i j v u (λ x. Holds x.stage a) (λ x. Holds x.stage a) e f h k (λ x. apart i a x) (λ x. apart j a x) (r.apart i j a);
    alone = λ i j p v u e f h k. both_cases s.views id w i j v u (λ x. Has p x.own) (λ x. Has p x.own) e f h k (λ x. alone i p x) (λ x. alone j p x) (r.alone i j p);
    rests = rests;
  }

  -- the value rests where it did, if the seat id serves as it did
  rests_on : (log : List E) (home : maybe.Option S) (views : List V) (id : ℕ) (v w : V) → get_elem? views id ≡ some v → (IsServing v.stage → IsServing w.stage) → (IsServing w.stage → IsServing v.stage)
      → Rests base stands marked b log home views → Rests base stands marked b log home (set views id w)
  rests_on log home views id v w at to from (inl q) = inl (
    q.0,
    q.1,
    q.2,
    q.3,
    λ j u e srv. ⊎_elim (λ (c : (j ≡ id) × (w ≡ u)). q.4 id v at (from (subst (λ (x : V). IsServing x.stage) (sym c.1) srv)))
        (λ (c : (j ≢ id) × (get_elem? views j ≡ some u)). q.4 j u c.1 srv) (at_set views id j w u e),
  )
  rests_on log home views id v w at to from (inr q) = dite (ℕ_discrete q.0 id)
      (λ here. let same : q.1 ≡ v = some-injective _ _ (sym q.2 ∙ (ap (get_elem? views) here ∙ at)) in
      inr (id, w, set_here views id w (at_inside views id v at), to (subst (λ (x : V). IsServing x.stage) same q.3)))
      (λ away. inr (q.0, q.1, set_else views id q.0 w away ∙ q.2, q.3))

  -- what a step has to show, once the words and the slot are known
  abbrev Goes : St → ℕ → ℕ → List (ℕ × S) → (ℕ → ℕ) → (ℕ → M T E B → Type 0) → List ℕ × List (maybe.Option S) → Type 0
  Goes s i id c f tells z = (w : V) × (a : Act S) × Valid z.1 c a
      × Rule (record { words = set z.0 i (f (get_or z.0 i 0)); homes = homes_after z.1 c a; views = set s.views id w }) × tells (get_or z.0 i 0) (w, carried_after c a)

  laid : (s : St) (r : Rule s) (i id : ℕ) (c : List (ℕ × S)) (f : ℕ → ℕ) (tells : ℕ → M T E B → Type 0) → Goes s i id c f tells (r.ticket ∷ length r.log ∷ r.durable ∷ [], r.home ∷ []) → Goes s i id c f tells (s.words, s.homes)
  laid s r i id c f tells = subst (Goes s i id c f tells) (λ k. (sym r.words_are k, sym r.homes_are k))

  -- a step that changes no word, no slot and no stage
  stays : (s : St) (r : Rule s) (id : ℕ) (v w : V) → get_elem? s.views id ≡ some v → w.stage ≡ v.stage → w.own ≡ v.own → w.drains ≡ v.drains → Knows r.ticket r.durable r.log b w
      → Rule (record { words = r.ticket ∷ length r.log ∷ r.durable ∷ []; homes = r.home ∷ []; views = set s.views id w })
  stays s r id v w at st same right mine = moved s r id r.ticket r.durable r.log r.home w r.ordered r.bounded mine (λ j u _ e. r.each_seat j u e)
      (λ j a u ne e h k. ne (r.apart j id a u v e at k (subst (λ (x : Stage). Holds x a) st h)))
      (λ j p u ne e h k. ne (r.alone j id p u v e at k (subst (Has p) same h)))
      (rests_on r.log r.home s.views id v w at (subst IsServing (sym st)) (subst IsServing st) r.rests)
      (λ j u ne e h k. ne (r.one_drains j id u v e at k (sym right ∙ h)))
      (λ h. subst (HasMarked marked r.log) (sym same) (r.drains_all id v at (sym right ∙ h)))
      (λ j u _ e. r.drains_all j u e)
      r.stored

  -- no other seat has the drain right, if this one has it
  right : (s : St) (r : Rule s) (id : ℕ) (v : V) → get_elem? s.views id ≡ some v → (j : ℕ) (u : V) → j ≢ id → get_elem? s.views j ≡ some u → v.drains ≡ true → u.drains ≡ true → ⊥
  right s r id v at j u ne e h k = ne (r.one_drains j id u v e at k h)

  -- with nothing left to learn, its own entries are among those it has seen
  seen_own : (t d : ℕ) (log : List E) (v : V) → Knows t d log b v → v.told ≡ [] → (p : ℕ) → Has p v.own → p ≤ length v.seen
  seen_own t d log v k untold p h = let o = k.own p h in ⊎_elim (λ l. l) (λ l. absurd (let z = o.0 in let e = ap length untold in omega arith)) o.2

  pub sees : (slots id : ℕ) (me : M T E B) → Allows Rule slots id me 0 (λ n. n) (SeesTicket marked (step slots 0 0 0 none) me)
  sees slots id me s r _ at _ = let v : V = me.0 in let k = r.each_seat id v at in
      let low : v.told ≡ [] → v.drains ≡ true → v.raised ≤ last_marked marked v.seen = λ untold has.
      (let l = r.stored in let z = k.raised has in let e = last_marked_own marked v.seen r.log v.own k.seen (r.drains_all id v at has) (λ p h. seen_own r.ticket r.durable r.log v k untold p h) in omega arith) in laid s r 0 id me.1 (λ n. n) (SeesTicket marked (step slots 0 0 0 none) me) (dite (dec_le (2 ^ 62) r.ticket)
      (λ over. let w : V = record v { full = true } in (
        w,
        keeps,
        tt,
        stays s r id v w at refl refl refl (record { full = λ _. over; seen = k.seen; told = k.told; own = k.own; base = k.base; rising = k.rising; once = k.once; stage = k.stage; read = k.read; raised = k.raised }),
        (low, refl, (λ under. absurd (omega arith)), λ _. refl),
      ))
      (λ under. (v, keeps, tt, stays s r id v v at refl refl refl k, (low, refl, (λ _. (refl, not_so v.full (λ f. under (k.full f)))), λ over. absurd (under over)))))

  -- no other seat has this one's ticket
  own : (s : St) (r : Rule s) (id : ℕ) (v : V) → get_elem? s.views id ≡ some v → (j a : ℕ) (u : V) → j ≢ id → get_elem? s.views j ≡ some u → Holds v.stage a → Holds u.stage a → ⊥
  own s r id v at j a u ne e h k = ne (r.apart j id a u v e at k h)

  -- no other seat has its places
  places : (s : St) (r : Rule s) (id : ℕ) (v : V) → get_elem? s.views id ≡ some v → (j p : ℕ) (u : V) → j ≢ id → get_elem? s.views j ≡ some u → Has p v.own → Has p u.own → ⊥
  places s r id v at j p u ne e h k = ne (r.alone j id p u v e at k h)

  pub draws : (slots id : ℕ) (me : M T E B) (old new : ℕ) → me.0.stage ≡ Idle → new ≡ old + 1 → old < 2 ^ 62
      → Allows Rule slots id me 0 (λ n. either (eqb n old) new n) (DrawsTicket (step slots 0 old new none) me)
  draws slots id me old new idle up room s r _ at _ = let v : V = me.0 in let k = r.each_seat id v at in let f : ℕ → ℕ = λ n. either (eqb n old) new n in
      laid s r 0 id me.1 f (DrawsTicket (step slots 0 old new none) me) (dite (ℕ_discrete r.ticket old)
      (λ hit. let w : V = record v { stage = Waits old } in let ord = r.ordered in let t : ℕ = r.ticket in let n : ℕ = length r.log in (
        w,
        keeps,
        tt,
        subst (λ (c : Bool). Rule (record { words = either c new t ∷ n ∷ r.durable ∷ []; homes = r.home ∷ []; views = set s.views id w })) (sym (eq-eqb t old hit))
            (moved s r id new r.durable r.log r.home w (omega arith) (omega arith)
            (record { full = λ f. let h = k.full f in omega arith; seen = k.seen; told = k.told; own = k.own; base = k.base; rising = k.rising; once = k.once; stage = (omega arith, omega arith); read = k.read; raised = k.raised })
            (λ j u _ e. grown t new r.durable r.log u (omega arith) (r.each_seat j u e))
            (λ j a u ne e h c. let l = below t a r.log u.seen u.stage (r.each_seat j u e).stage c in omega arith)
            (places s r id v at)
            (rests_on r.log r.home s.views id v w at (λ i. subst IsServing idle i) (λ i. absurd i) r.rests)
            (right s r id v at) (r.drains_all id v at) (λ j u _ e. r.drains_all j u e) r.stored),
        (refl, (λ _. refl), λ miss. absurd (miss hit)),
      ))
      (λ miss. (
        v,
        keeps,
        tt,
        subst (λ (c : Bool). Rule (record { words = either c new r.ticket ∷ length r.log ∷ r.durable ∷ []; homes = r.home ∷ []; views = set s.views id v })) (sym (ne_eqb r.ticket old miss))
            (stays s r id v v at refl refl refl k),
        (refl, (λ hit. absurd (miss hit)), λ _. refl),
      )))

  pub looks : (slots id : ℕ) (me : M T E B) (a : ℕ) → me.0.stage ≡ Waits a → Allows Rule slots id me 1 (λ n. n) (LooksAtServing base stands marked (step slots 1 0 0 none) me)
  looks slots id me a waits s r _ at _ = let v : V = me.0 in let k = r.each_seat id v at in let n : ℕ = length r.log in
      let known : KnowsStage r.ticket r.log v.seen (Waits a) = subst (KnowsStage r.ticket r.log v.seen) waits k.stage in
      let is : (c : ℕ) → v.stage ≡ Waits c → c ≡ a = λ c e. ap ticket_in (sym e ∙ waits) in
      laid s r 1 id me.1 (λ n. n) (LooksAtServing base stands marked (step slots 1 0 0 none) me) (dite (ℕ_discrete n a)
      (λ hit. let w : V = record v { stage = Serves a; seen = r.log } in ⊎_elim
      (λ (q : (h : H) × (r.home ≡ some (Some h)) × (base h.value ≡ b) × stands h.value r.log × ((j : ℕ) (u : V) → get_elem? s.views j ≡ some u → IsServing u.stage → ⊥)). (
        w,
        takes 0 (Some q.0),
        ap some q.1,
        moved s r id r.ticket r.durable r.log none w r.ordered r.bounded
            (record { full = k.full; seen = prefix_whole r.log; told = k.told; own = λ p h. let o = k.own p h in (o.0, o.1, inl o.1); base = k.base; rising = k.rising; once = k.once; stage = (hit, known.1, refl); read = k.read; raised = k.raised })
            (λ j u _ e. r.each_seat j u e)
            (λ j c u ne e h l. own s r id v at j c u ne e (subst (λ (st : Stage). Holds st c) (sym waits) h) l)
            (places s r id v at)
            (inr (id, w, set_here s.views id w (at_inside s.views id v at), tt))
            (right s r id v at) (r.drains_all id v at) (λ j u _ e. r.drains_all j u e) r.stored,
        λ c e. let same = is c e in ((λ _. (q.0, refl, (λ d t. q.2 ∙ sym (k.base d t)), (r.log, ap (λ (z : ℕ). record v { stage = Serves z; seen = r.log }) (sym same), hit ∙ sym same, k.seen, q.3, λ untold has. (r.drains_all id v at has, last_marked_own marked v.seen r.log v.own k.seen (r.drains_all id v at has) (λ p h. seen_own r.ticket r.durable r.log v k untold p h), let l = r.stored in let z = k.raised has in omega arith)))), λ miss. absurd (miss (hit ∙ sym same))),
      ))
      (λ (q : (j : ℕ) × (u : V) × (get_elem? s.views j ≡ some u) × IsServing u.stage). absurd (
      let there : KnowsStage r.ticket r.log q.1.seen q.1.stage = (r.each_seat q.0 q.1 q.2).stage in
      let srv : q.1.stage ≡ Serves (ticket_in q.1.stage) = serving_at q.1.stage q.3 in
      let at_n : n ≡ ticket_in q.1.stage = (subst (KnowsStage r.ticket r.log q.1.seen) srv there).0 in
      let one : q.0 ≡ id = r.apart q.0 id a q.1 v q.2 at (subst (λ (st : Stage). Holds st a) (sym srv) (sym at_n ∙ hit)) (subst (λ (st : Stage). Holds st a) (sym waits) refl) in
      let same : q.1 ≡ v = some-injective _ _ (sym q.2 ∙ (ap (get_elem? s.views) one ∙ at)) in
      serving_not_waiting q.1.stage a (ap (λ (u : V). u.stage) same ∙ waits) q.3))
      r.rests)
      (λ miss. (v, keeps, tt, stays s r id v v at refl refl refl k, λ c e. ((λ hit. absurd (miss (hit ∙ is c e))), λ _. (refl, refl)))))

  pub finishes : (slots id : ℕ) (me : M T E B) (a : ℕ) (h : H) (x : E) → me.0.stage ≡ Serves a → me.1 ≡ (0, Some h) ∷ [] → h.last ≡ Some x → me.0.base ≡ Some (base h.value) → stands h.value (me.0.seen ++ x ∷ []) → (marked x ≡ true → me.0.drains ≡ true)
      → Allows Rule slots id me 1 (λ n. (n + 1) % 2 ^ 64) (Finishes (step slots 1 1 0 none) me)
  finishes slots id me a h x serves holds last from good may s r _ at _ = let v : V = me.0 in let k = r.each_seat id v at in let n : ℕ = length r.log in
      let w : V = with_entry v a x in let f : ℕ → ℕ = λ n. (n + 1) % 2 ^ 64 in let log' : List E = r.log ++ x ∷ [] in
      let known : KnowsStage r.ticket r.log v.seen (Serves a) = subst (KnowsStage r.ticket r.log v.seen) serves k.stage in
      let served_here : Holds v.stage n = subst (λ (st : Stage). Holds st n) (sym serves) (sym known.0) in
      let long : length log' ≡ n + 1 = length-append r.log (x ∷ []) in
      let up : (n + 1) % 2 ^ 64 ≡ length log' = let q = known.0 in let l = known.1 in let c = r.bounded in let o = r.ordered in omega arith in
      let is_b : base h.value ≡ b = k.base (base h.value) from in
      let whole : v.seen ++ x ∷ [] ≡ log' = ap (λ (l : List E). l ++ x ∷ []) known.2 in
      subst (λ (c : List (ℕ × S)). Goes s 1 id c f (Finishes (step slots 1 1 0 none) me) (s.words, s.homes)) (sym holds) (laid s r 1 id ((0, Some h) ∷ []) f (Finishes (step slots 1 1 0 none) me) (
        w,
        gives,
        tt,
        subst (λ (z : ℕ). Rule (record { words = r.ticket ∷ z ∷ r.durable ∷ []; homes = some (Some h) ∷ []; views = set s.views id w })) (sym up)
            (moved s r id r.ticket r.durable log' (some (Some h)) w (let l = known.1 in let q = known.0 in omega arith) r.bounded
            (record {
              full = k.full;
              seen = subst (λ (l : List E). IsPrefix l log') (sym whole) (prefix_whole log');
              told = prefix_snoc v.told r.log x k.told;
              own = λ p has. ⊎_elim (λ t. let o = k.own p t in (o.0, (let l = o.1 in omega arith), inl (let l = o.1 in let y = ap length whole in omega arith))) (λ q. (omega arith, (let g = known.0 in omega arith), inl (let g = known.0 in let y = ap length whole in omega arith))) (has_snoc p (a + 1) v.own has);
              read = k.read;
              raised = k.raised;
              base = k.base;
              rising = rises_snoc 0 (a + 1) v.own k.rising (omega arith) (λ q t. let l = (k.own q t).1 in let g = known.0 in omega arith);
              once = k.once;
              stage = tt;
            })
            (λ j u ne t. served r.ticket r.durable r.log x u (λ c hold is. own s r id v at j n u ne t served_here (subst (Holds u.stage) is hold)) (r.each_seat j u t))
            (λ j c u ne t hold l. absurd hold)
            (λ j p u ne t has other. ⊎_elim (λ mine. places s r id v at j p u ne t mine other) (λ q. let o = (r.each_seat j u t).own p other in let g = known.0 in let l = o.1 in omega arith) (has_snoc p (a + 1) v.own has))
            (inl (
              h,
              refl,
              is_b,
              subst (stands h.value) whole good,
              λ j u t srv. ⊎_elim (λ (c : (j ≡ id) × (w ≡ u)). subst (λ (y : V). IsServing y.stage) (sym c.1) srv)
                  (λ (c : (j ≢ id) × (get_elem? s.views j ≡ some u)). let there = subst (KnowsStage r.ticket r.log u.seen) (serving_at u.stage srv) (r.each_seat j u c.1).stage in
                  own s r id v at j n u c.0 c.1 served_here (subst (λ (st : Stage). Holds st n) (sym (serving_at u.stage srv)) (sym there.0)))
                  (at_set s.views id j w u t),
            ))
            (right s r id v at)
            (λ has i e t is. ⊎_elim (λ old. has_left (i + 1) v.own ((a + 1) ∷ []) (r.drains_all id v at has i e old is)) (λ (q : (i ≡ n) × (x ≡ e)). has_right (i + 1) v.own ((a + 1) ∷ []) (inl (let g = known.0 in let z = q.0 in omega arith))) (at_last r.log x i e t))
            (λ j u ne t has i e t' is. ⊎_elim (λ old. r.drains_all j u t has i e old is) (λ (q : (i ≡ n) × (x ≡ e)). absurd (right s r id v at j u ne t (may (ap marked q.1 ∙ is)) has)) (at_last r.log x i e t'))
            (let l = r.stored in let g = last_marked_grows marked r.log log' (prefix_snoc r.log r.log x (prefix_whole r.log)) in omega arith)),
        λ c g y is has lst. let same : c ≡ a = ap ticket_in (sym is ∙ serves) in
            let one : g ≡ h = held_at g h (sym has ∙ holds) in
            let two : y ≡ x = snap_at y x (sym lst ∙ (ap (λ (z : H). z.last) one ∙ last)) in
            (known.0 ∙ sym same, refl, λ i. with_entry v (sym same i) (sym two i)),
      ))

  pub learns : (slots id : ℕ) (me : M T E B) → me.0.stage ≡ Idle → Allows Rule slots id me 1 (λ n. n) (Learns (step slots 1 0 0 none) me)
  learns slots id me idle s r _ at _ = let v : V = me.0 in let k = r.each_seat id v at in let w : V = record v { seen = longer v.seen v.told; told = [] } in
      let l = longer_of v.seen v.told r.log k.seen k.told in
      laid s r 1 id me.1 (λ n. n) (Learns (step slots 1 0 0 none) me) (
        w,
        keeps,
        tt,
        stays s r id v w at refl refl refl (record {
          full = k.full;
          seen = l.0;
          told = (r.log, refl);
          own = λ p h. let o = k.own p h in (o.0, o.1, inl (⊎_elim (λ m. let g = prefix_length v.seen w.seen l.1 in omega arith) (λ m. let g = prefix_length v.told w.seen l.2 in omega arith) o.2));
          base = k.base;
          rising = k.rising;
          once = k.once;
          stage = subst (KnowsStage r.ticket r.log w.seen) (sym idle) tt;
          read = k.read;
          raised = k.raised;
        }),
        (refl, refl, l.1, l.2, (λ has. let g = k.raised has in let m = k.read in omega arith), k.rising, k.once),
      )

  pub raises : (slots id : ℕ) (me : M T E B) (place : ℕ) → me.0.drains ≡ true → place ≤ last_marked marked me.0.seen → Allows Rule slots id me 2 (λ n. max n place) (Raises (step slots 2 place 0 none) me)
  raises slots id me place has low s r _ at _ = let v : V = me.0 in let k = r.each_seat id v at in let d : ℕ = r.durable in let w : V = record v { raised = max v.raised place } in let f : ℕ → ℕ = λ n. max n place in
      let same : v.raised ≡ d = k.raised has in
      laid s r 2 id me.1 f (Raises (step slots 2 place 0 none) me) (
        w,
        keeps,
        tt,
        moved s r id r.ticket (max d place) r.log r.home w r.ordered r.bounded
            (record { full = k.full; seen = k.seen; told = k.told; own = k.own; base = k.base; rising = k.rising; once = k.once; stage = k.stage; read = (let l = k.read in omega arith); raised = λ _. ap (λ (z : ℕ). max z place) same })
            (λ j u ne e. risen r.ticket d (max d place) r.log u (omega arith) (λ h. right s r id v at j u ne e has h) (r.each_seat j u e))
            (own s r id v at)
            (places s r id v at)
            (rests_on r.log r.home s.views id v w at (λ i. i) (λ i. i) r.rests)
            (right s r id v at) (r.drains_all id v at) (λ j u _ e. r.drains_all j u e)
            (let l = r.stored in let g = last_marked_grows marked v.seen r.log k.seen in omega arith),
        (refl, refl),
      )

  pub sees_stored : (slots id : ℕ) (me : M T E B) → Allows Rule slots id me 2 (λ n. n) (SeesDurable (step slots 2 0 0 none) me)
  sees_stored slots id me s r _ at _ = let v : V = me.0 in let k = r.each_seat id v at in let w : V = record v { read = r.durable } in
      laid s r 2 id me.1 (λ n. n) (SeesDurable (step slots 2 0 0 none) me) (
        w,
        keeps,
        tt,
        stays s r id v w at refl refl refl (record { full = k.full; seen = k.seen; told = k.told; own = k.own; base = k.base; rising = k.rising; once = k.once; stage = k.stage; read = le_refl r.durable; raised = k.raised }),
        (refl, refl, k.read, λ has. sym (k.raised has)),
      )

  -- a new seat, which knows a part of what another does
  pub parts : (id : ℕ) (v : V) → Splits Rule id v v (split_off v)
  parts id v s r at = let n : V = split_off v in let k = r.each_seat id v at in
      subst (λ (l : List V). Rule (record { words = s.words; homes = s.homes; views = l ++ n ∷ [] })) (sym (set_again s.views id v at)) record {
        log = r.log;
        ticket = r.ticket;
        words_are = r.words_are;
        ordered = r.ordered;
        bounded = r.bounded;
        home = r.home;
        homes_are = r.homes_are;
        each_seat = λ j u e. ⊎_elim (λ old. r.each_seat j u old) (λ new. subst (Knows r.ticket r.durable r.log b) new
            (record { full = λ f. absurd (no_true f); seen = k.seen; told = (r.log, refl); own = λ p h. absurd h; base = k.base; rising = tt; once = refl; stage = tt; read = k.read; raised = λ h. absurd (no_true h) })) (at_snoc s.views n u j e);
        durable = r.durable;
        stored = r.stored;
        one_drains = λ i j u w e f h l. ⊎_elim (λ old. ⊎_elim (λ old'. r.one_drains i j u w old old' h l) (λ new. absurd (no_true (subst (λ (x : V). x.drains ≡ true) (sym new) l))) (at_snoc s.views n w j f))
            (λ new. absurd (no_true (subst (λ (x : V). x.drains ≡ true) (sym new) h))) (at_snoc s.views n u i e);
        drains_all = λ j u e h. ⊎_elim (λ old. r.drains_all j u old h) (λ new. absurd (no_true (subst (λ (x : V). x.drains ≡ true) (sym new) h))) (at_snoc s.views n u j e);
        apart = λ i j a u w e f h l. ⊎_elim (λ old. ⊎_elim (λ old'. r.apart i j a u w old old' h l) (λ new. absurd (subst (λ (x : V). Holds x.stage a) (sym new) l)) (at_snoc s.views n w j f))
            (λ new. absurd (subst (λ (x : V). Holds x.stage a) (sym new) h)) (at_snoc s.views n u i e);
        alone = λ i j p u w e f h l. ⊎_elim (λ old. ⊎_elim (λ old'. r.alone i j p u w old old' h l) (λ new. absurd (subst (λ (x : V). Has p x.own) (sym new) l)) (at_snoc s.views n w j f))
            (λ new. absurd (subst (λ (x : V). Has p x.own) (sym new) h)) (at_snoc s.views n u i e);
        rests = ⊎_elim (λ (q : (h : H) × (r.home ≡ some (Some h)) × (base h.value ≡ b) × stands h.value r.log × ((j : ℕ) (u : V) → get_elem? s.views j ≡ some u → IsServing u.stage → ⊥)).
            inl (q.0, q.1, q.2, q.3, λ j u e srv. ⊎_elim (λ old. q.4 j u old srv) (λ new. subst (λ (x : V). IsServing x.stage) (sym new) srv) (at_snoc s.views n u j e)))
            (λ (q : (j : ℕ) × (u : V) × (get_elem? s.views j ≡ some u) × IsServing u.stage). inr (q.0, q.1, at_longer s.views (n ∷ []) q.0 q.1 q.2, q.3)) r.rests;
      }

  -- a seat takes in what another knows, and the other is taken_in
  pub joins : (id : ℕ) (v : V) (other : ℕ) (w : V) → w.stage ≡ Idle → v.told ≡ [] → w.told ≡ [] → Joins Rule id v other w (joined v w) taken_in
  joins id v other w idle untold_v untold_w s r at apart_ids there = let z : V = joined v w in let n : V = taken_in in let kv = r.each_seat id v at in
      let at_w : get_elem? s.views other ≡ some w = sym (set_else s.views id other z apart_ids) ∙ there in let kw = r.each_seat other w at_w in
      let cases : (j : ℕ) (u : V) → get_elem? (set (set s.views id z) other n) j ≡ some u → ((j ≡ other) × (n ≡ u)) ⊎ (((j ≡ id) × (z ≡ u)) ⊎ ((j ≢ id) × (j ≢ other) × (get_elem? s.views j ≡ some u))) =
      λ j u e. ⊎_elim (λ (c : (j ≡ other) × (n ≡ u)). inl c)
      (λ (c : (j ≢ other) × (get_elem? (set s.views id z) j ≡ some u)). inr (⊎_elim (λ (d : (j ≡ id) × (z ≡ u)). inl d) (λ (d : (j ≢ id) × (get_elem? s.views j ≡ some u)). inr (d.0, c.0, d.1)) (at_set s.views id j z u c.1)))
      (at_set (set s.views id z) other j n u e) in
      let no_hold : (j a : ℕ) (u : V) → n ≡ u → Holds u.stage a → ⊥ = λ j a u e h. subst (λ (x : V). Holds x.stage a) (sym e) h in
      let no_has : (j p : ℕ) (u : V) → n ≡ u → Has p u.own → ⊥ = λ j p u e h. subst (λ (x : V). Has p x.own) (sym e) h in
      let holder : (j a : ℕ) (u : V) → get_elem? (set (set s.views id z) other n) j ≡ some u → Holds u.stage a → (x : V) × (get_elem? s.views j ≡ some x) × Holds x.stage a =
      λ j a u e h. ⊎_elim (λ (c : (j ≡ other) × (n ≡ u)). absurd (no_hold j a u c.1 h))
      (λ c. ⊎_elim (λ (d : (j ≡ id) × (z ≡ u)). (v, ap (get_elem? s.views) d.0 ∙ at, subst (λ (y : V). Holds y.stage a) (sym d.1) h))
      (λ (d : (j ≢ id) × (j ≢ other) × (get_elem? s.views j ≡ some u)). (u, d.2, h)) c) (cases j u e) in
      let owner : (j p : ℕ) (u : V) → get_elem? (set (set s.views id z) other n) j ≡ some u → Has p u.own
      → (o : ℕ) × (x : V) × (get_elem? s.views o ≡ some x) × Has p x.own × (((o ≡ j) × (o ≢ other)) ⊎ ((o ≡ other) × (j ≡ id))) =
      λ j p u e h. ⊎_elim (λ (c : (j ≡ other) × (n ≡ u)). absurd (no_has j p u c.1 h))
      (λ c. ⊎_elim (λ (d : (j ≡ id) × (z ≡ u)). ⊎_elim (λ mine. (id, v, at, mine, inl (sym d.0, λ e. apart_ids (sym e)))) (λ its. (other, w, at_w, its, inr (refl, d.0)))
      (merged_has p v.own w.own (subst (λ (y : V). Has p y.own) (sym d.1) h)))
      (λ (d : (j ≢ id) × (j ≢ other) × (get_elem? s.views j ≡ some u)). (j, u, d.2, h, inl (refl, d.1))) c) (cases j u e) in
      let drainer : (j : ℕ) (u : V) → get_elem? (set (set s.views id z) other n) j ≡ some u → u.drains ≡ true
      → (o : ℕ) × (x : V) × (get_elem? s.views o ≡ some x) × (x.drains ≡ true) × (((o ≡ j) × (o ≢ other)) ⊎ ((o ≡ other) × (j ≡ id))) =
      λ j u e h. ⊎_elim (λ (c : (j ≡ other) × (n ≡ u)). absurd (no_true (subst (λ (x : V). x.drains ≡ true) (sym c.1) h)))
      (λ c. ⊎_elim (λ (d : (j ≡ id) × (z ≡ u)). ⊎_elim (λ mine. (id, v, at, mine, inl (sym d.0, λ e. apart_ids (sym e)))) (λ its. (other, w, at_w, its, inr (refl, d.0)))
      (either_true v.drains w.drains (subst (λ (y : V). y.drains ≡ true) (sym d.1) h)))
      (λ (d : (j ≢ id) × (j ≢ other) × (get_elem? s.views j ≡ some u)). (j, u, d.2, h, inl (refl, d.1))) c) (cases j u e) in
      record {
        log = r.log;
        ticket = r.ticket;
        durable = r.durable;
        stored = r.stored;
        one_drains = λ i j u y e f h l. let x = drainer i u e h in let x' = drainer j y f l in let one : x.0 ≡ x'.0 = r.one_drains x.0 x'.0 x.1 x'.1 x.2 x'.2 x.3 x'.3 in
            ⊎_elim (λ (c : (x.0 ≡ i) × (x.0 ≢ other)). ⊎_elim (λ (d : (x'.0 ≡ j) × (x'.0 ≢ other)). sym c.0 ∙ (one ∙ d.0)) (λ (d : (x'.0 ≡ other) × (j ≡ id)). absurd (c.1 (one ∙ d.0))) x'.4)
            (λ (c : (x.0 ≡ other) × (i ≡ id)). ⊎_elim (λ (d : (x'.0 ≡ j) × (x'.0 ≢ other)). absurd (d.1 (sym one ∙ c.0))) (λ (d : (x'.0 ≡ other) × (j ≡ id)). c.1 ∙ sym d.1) x'.4) x.4;
        drains_all = λ j u e h. ⊎_elim (λ (c : (j ≡ other) × (n ≡ u)). absurd (no_true (subst (λ (x : V). x.drains ≡ true) (sym c.1) h)))
            (λ c. ⊎_elim (λ (d : (j ≡ id) × (z ≡ u)). subst (λ (y : V). HasMarked marked r.log y.own) d.1 (λ k x t is. ⊎_elim (λ mine. merged_left (k + 1) v.own w.own (r.drains_all id v at mine k x t is)) (λ its. merged_right (k + 1) v.own w.own (r.drains_all other w at_w its k x t is))
            (either_true v.drains w.drains (subst (λ (y : V). y.drains ≡ true) (sym d.1) h))))
            (λ (d : (j ≢ id) × (j ≢ other) × (get_elem? s.views j ≡ some u)). r.drains_all j u d.2 h) c) (cases j u e);
        words_are = r.words_are;
        ordered = r.ordered;
        bounded = r.bounded;
        home = r.home;
        homes_are = r.homes_are;
        each_seat = λ j u e. ⊎_elim (λ (c : (j ≡ other) × (n ≡ u)). subst (Knows r.ticket r.durable r.log b) c.1
            (record { full = λ f. absurd (no_true f); seen = (r.log, refl); told = (r.log, refl); own = λ p h. absurd h; base = λ d e. absurd (none_some d e); rising = tt; once = refl; stage = tt; read = omega arith; raised = λ h. absurd (no_true h) }))
            (λ c. ⊎_elim (λ (d : (j ≡ id) × (z ≡ u)). subst (Knows r.ticket r.durable r.log b) d.1
            (record { full = λ f. ⊎_elim kv.full kw.full (either_true v.full w.full f); seen = kv.seen; told = kw.seen; own = λ p h. ⊎_elim (λ m. let o = kv.own p m in (o.0, o.1, inl (seen_own r.ticket r.durable r.log v kv untold_v p m))) (λ m. let o = kw.own p m in (o.0, o.1, inr (seen_own r.ticket r.durable r.log w kw untold_w p m))) (merged_has p v.own w.own h); base = kv.base; rising = merged_rises v.own w.own kv.rising kw.rising (λ p h l. apart_ids (sym (r.alone id other p v w at at_w h l))); once = not_twice v.drains w.drains (λ h l. apart_ids (sym (r.one_drains id other v w at at_w h l))); stage = kv.stage; read = (let l = kv.read in let m = kw.read in omega arith); raised = raised_both v.drains w.drains v.raised w.raised r.durable kv.raised kw.raised }))
            (λ (d : (j ≢ id) × (j ≢ other) × (get_elem? s.views j ≡ some u)). r.each_seat j u d.2) c) (cases j u e);
        apart = λ i j a u y e f h l. let x = holder i a u e h in let x' = holder j a y f l in r.apart i j a x.0 x'.0 x.1 x'.1 x.2 x'.2;
        alone = λ i j p u y e f h l. let x = owner i p u e h in let x' = owner j p y f l in let one : x.0 ≡ x'.0 = r.alone x.0 x'.0 p x.1 x'.1 x.2 x'.2 x.3 x'.3 in
            ⊎_elim (λ (c : (x.0 ≡ i) × (x.0 ≢ other)). ⊎_elim (λ (d : (x'.0 ≡ j) × (x'.0 ≢ other)). sym c.0 ∙ (one ∙ d.0)) (λ (d : (x'.0 ≡ other) × (j ≡ id)). absurd (c.1 (one ∙ d.0))) x'.4)
            (λ (c : (x.0 ≡ other) × (i ≡ id)). ⊎_elim (λ (d : (x'.0 ≡ j) × (x'.0 ≢ other)). absurd (d.1 (sym one ∙ c.0))) (λ (d : (x'.0 ≡ other) × (j ≡ id)). c.1 ∙ sym d.1) x'.4) x.4;
        rests = ⊎_elim (λ (q : (h : H) × (r.home ≡ some (Some h)) × (base h.value ≡ b) × stands h.value r.log × ((j : ℕ) (u : V) → get_elem? s.views j ≡ some u → IsServing u.stage → ⊥)).
            inl (
              q.0,
              q.1,
              q.2,
              q.3,
              λ j u e srv. let x = holder j (ticket_in u.stage) u e (subst (λ (st : Stage). Holds st (ticket_in u.stage)) (sym (serving_at u.stage srv)) refl) in
                  ⊎_elim (λ (c : (j ≡ other) × (n ≡ u)). subst (λ (y : V). IsServing y.stage) (sym c.1) srv)
                  (λ c. ⊎_elim (λ (d : (j ≡ id) × (z ≡ u)). q.4 id v at (subst (λ (y : V). IsServing y.stage) (sym d.1) srv)) (λ (d : (j ≢ id) × (j ≢ other) × (get_elem? s.views j ≡ some u)). q.4 j u d.2 srv) c) (cases j u e),
            ))
            (λ (q : (j : ℕ) × (u : V) × (get_elem? s.views j ≡ some u) × IsServing u.stage). dite (ℕ_discrete q.0 id)
            (λ here. let same : q.1 ≡ v = some-injective _ _ (sym q.2 ∙ (ap (get_elem? s.views) here ∙ at)) in
            inr (id, z, set_else (set s.views id z) other id n (λ e. apart_ids (sym e)) ∙ set_here s.views id z (at_inside s.views id v at), subst (λ (y : V). IsServing y.stage) same q.3))
            (λ there'. let not_other : q.0 ≢ other = λ e. let same : q.1 ≡ w = some-injective _ _ (sym q.2 ∙ (ap (get_elem? s.views) e ∙ at_w)) in subst IsServing idle (subst (λ (y : V). IsServing y.stage) same q.3) in
            inr (q.0, q.1, set_else (set s.views id z) other q.0 n not_other ∙ (set_else s.views id q.0 z there' ∙ q.2), q.3))) r.rests;
      }

  only : (n v : V) (j : ℕ) → get_elem? (n ∷ []) j ≡ some v → (j ≡ 0) × (n ≡ v)
  only n v zero e = (refl, some-injective _ _ e)
  only n v (suc j) e = absurd (some-ne-none v (sym e))

  pub opens : (h : H) (t : ℕ) → t ≤ 2 ^ 62 → base h.value ≡ b → stands h.value [] → Rule (opening (t ∷ 0 ∷ 0 ∷ []) (Some h ∷ []) (first_view b))
  opens h t low is_b good = record {
    log = [];
    ticket = t;
    words_are = refl;
    ordered = omega arith;
    bounded = low;
    home = some (Some h);
    homes_are = refl;
    each_seat = λ j v e. subst (Knows t 0 [] b) (only (first_view b) v j e).1
        (record { full = λ f. absurd (no_true f); seen = ([], refl); told = ([], refl); own = λ p h. absurd h; base = λ d e. sym (ap (some_or d) e); rising = tt; once = refl; stage = tt; read = le_refl 0; raised = λ _. refl });
    durable = 0;
    stored = le_refl 0;
    one_drains = λ i j v w e f x y. (only (first_view b) v i e).0 ∙ sym (only (first_view b) w j f).0;
    drains_all = λ j v e h k x at is. absurd (some-ne-none x (sym at));
    apart = λ i j a v w e f x y. (only (first_view b) v i e).0 ∙ sym (only (first_view b) w j f).0;
    alone = λ i j a v w e f x y. (only (first_view b) v i e).0 ∙ sym (only (first_view b) w j f).0;
    rests = inl (h, refl, is_b, good, λ j v e srv. subst (λ (x : V). IsServing x.stage) (sym (only (first_view b) v j e).1) srv);
  }
