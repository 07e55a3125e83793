-- What a search by name finds before and after the first queue of a name is changed, or a queue is added.
use Rattle.std.proofs.Common.{◌≡◌, ◌≢◌, ◌∙◌, ℕ, zero, suc, ◌+◌, ◌<◌, ◌≤◌, true, false, not, cond, ltb, List, [], ◌∷◌, ◌++◌, length, get_or, slice_set, map, bytes_eq, Option, None, Some, IfNone, IfSome, refl, sym, ap, subst, true≢false, arith}
use Rattle.std.specs.List.{find, position, prefix_len}
use Rattle.std.specs.Option.{option_map_or}
use Rattle.std.specs.Cmp.Lexicographic.{bytes_decides}
use Rattle.std.proofs.lemmas.Bool.{ltb-true, ltb-false}
use Rattle.wf_sorted.specs.Order.{SortedRoom}
use Rattle.wf_queue.specs.declared.queue.Queue.{Queue}
use Rattle.wf_queue.specs.Seen.{IsFirst, seen}
use Rattle.wf_queue.specs.Waiting.{NamedQueue, is_named, waiting, room}

named_otherwise : (text name other : List ℕ) → other ≢ name → bytes_eq text name ≡ true → bytes_eq text other ≡ false
named_otherwise text name other differs named =
    elim (bytes_eq text other) as (λ b. bytes_eq text other ≡ b → b ≡ false) [
      | true ↦ λ also. absurd (differs (sym ((bytes_decides text other).0 also) ∙ (bytes_decides text name).0 named))
      | false ↦ λ _. refl
    ] refl

module _ (name : List ℕ) where
  abbrev before : List Queue → ℕ
  before qs = prefix_len (λ q. not (bytes_eq q.name.items name)) qs

  -- ---- the place

  first_at : (qs : List Queue) → before qs < length qs → IsFirst name qs (before qs)
  first_at [] within = absurd (omega arith)
  first_at (q ∷ qs) within =
      elim (bytes_eq q.name.items name) as (λ b. bytes_eq q.name.items name ≡ b → cond (not b) (1 + before qs) 0 < suc (length qs)
      → IsFirst name (q ∷ qs) (cond (not b) (1 + before qs) 0)) [
        | true ↦ λ e w. e
        | false ↦ λ e w.
            let next : suc (before qs) ≡ 1 + before qs = omega arith in
            subst (λ i. IsFirst name (q ∷ qs) i) next (e, first_at qs (omega arith))
      ] refl within

  none_named : (qs : List Queue) → length qs ≤ before qs → find (is_named name) (map seen qs) ≡ None
  none_named [] past = refl
  none_named (q ∷ qs) past =
      elim (bytes_eq q.name.items name) as (λ b. suc (length qs) ≤ cond (not b) (1 + before qs) 0
      → cond b (Some (seen q)) (find (is_named name) (map seen qs)) ≡ None) [
        | true ↦ λ p. absurd (omega arith)
        | false ↦ λ p. none_named qs (omega arith)
      ] past

  pub record Placed (qs : List Queue) (r : Option ℕ) : Type 0 where
    pub none : IfNone r (find (is_named name) (map seen qs) ≡ None)
    pub some : IfSome r (λ place. (place < length qs) × IsFirst name qs place)

  pub placed : (qs : List Queue) (r : Option ℕ) → r ≡ position (λ q. bytes_eq q.name.items name) qs → Placed qs r
  placed qs r e =
      subst (λ r. Placed qs r) (sym e)
      (elim (ltb (before qs) (length qs)) as (λ b. ltb (before qs) (length qs) ≡ b → Placed qs (cond b (Some (before qs)) None)) [
        | true ↦ λ t. record { none = tt; some = (ltb-true _ _ t, first_at qs (ltb-true _ _ t)) }
        | false ↦ λ t. record { none = none_named qs (ltb-false _ _ t); some = tt }
      ] refl)

  pub within : (qs : List Queue) (i : ℕ) → IsFirst name qs i → i < length qs
  within [] i first = absurd first
  within (q ∷ qs) zero first = omega arith
  within (q ∷ qs) (suc i) first = omega (arith, within qs i first.1)

  pub found : (d : Queue) (qs : List Queue) (i : ℕ) → IsFirst name qs i → find (is_named name) (map seen qs) ≡ Some (seen (get_or qs i d))
  found d [] i first = absurd first
  found d (q ∷ qs) zero first = rw first refl
  found d (q ∷ qs) (suc i) first = rw first.0 (found d qs i first.1)

  -- ---- after a change of the first queue of the name

  pub found_set : (d new : Queue) (qs : List Queue) (i : ℕ) → IsFirst name qs i → new.name.items ≡ (get_or qs i d).name.items
      → find (is_named name) (map seen (slice_set qs i new)) ≡ Some (seen new)
  found_set d new [] i first same = absurd first
  found_set d new (q ∷ qs) zero first same =
      let named : bytes_eq new.name.items name ≡ true = subst (λ t. bytes_eq t name ≡ true) (sym same) first in
      rw named refl
  found_set d new (q ∷ qs) (suc i) first same = rw first.0 (found_set d new qs i first.1 same)

  pub other_set : (other : List ℕ) → other ≢ name → (d new : Queue) (qs : List Queue) (i : ℕ) → IsFirst name qs i
      → new.name.items ≡ (get_or qs i d).name.items
      → find (is_named other) (map seen (slice_set qs i new)) ≡ find (is_named other) (map seen qs)
  other_set other differs d new [] i first same = absurd first
  other_set other differs d new (q ∷ qs) zero first same =
      let old : bytes_eq q.name.items other ≡ false = named_otherwise q.name.items name other differs first in
      let now : bytes_eq new.name.items other ≡ false = subst (λ t. bytes_eq t other ≡ false) (sym same) old in
      rw (now, old) refl
  other_set other differs d new (q ∷ qs) (suc i) first same =
      elim (bytes_eq q.name.items other) as (λ b. cond b (Some (seen q)) (find (is_named other) (map seen (slice_set qs i new)))
      ≡ cond b (Some (seen q)) (find (is_named other) (map seen qs))) [
        | true ↦ refl
        | false ↦ other_set other differs d new qs i first.1 same
      ]

  -- ---- after a queue is added

  pub first_added : (new : Queue) (qs : List Queue) → find (is_named name) (map seen qs) ≡ None → new.name.items ≡ name
      → IsFirst name (qs ++ new ∷ []) (length qs)
  first_added new [] none same = (bytes_decides _ _).1 same
  first_added new (q ∷ qs) none same =
      elim (bytes_eq q.name.items name) as (λ b. bytes_eq q.name.items name ≡ b → cond b (Some (seen q)) (find (is_named name) (map seen qs)) ≡ None
      → IsFirst name (q ∷ (qs ++ new ∷ [])) (suc (length qs))) [
        | true ↦ λ e n. absurd cc
        | false ↦ λ e n. (e, first_added new qs n same)
      ] refl none

pub waiting_added : (other : List ℕ) (new : Queue) (qs : List Queue) → new.waiting.entries ≡ []
    → waiting other (map seen (qs ++ new ∷ [])) ≡ waiting other (map seen qs)
waiting_added other new [] empty =
    elim (bytes_eq new.name.items other) as (λ b. option_map_or (λ (q : NamedQueue). q.entries) (cond b (Some (seen new)) None) [] ≡ []) [
      | true ↦ empty
      | false ↦ refl
    ]
waiting_added other new (q ∷ qs) empty =
    elim (bytes_eq q.name.items other) as (λ b. option_map_or (λ (q : NamedQueue). q.entries) (cond b (Some (seen q)) (find (is_named other) (map seen (qs ++ new ∷ [])))) []
    ≡ option_map_or (λ (q : NamedQueue). q.entries) (cond b (Some (seen q)) (find (is_named other) (map seen qs))) []) [
      | true ↦ refl
      | false ↦ waiting_added other new qs empty
    ]

pub room_added : (other : List ℕ) (new : Queue) (qs : List Queue) → room other (map seen qs) ≤ room other (map seen (qs ++ new ∷ []))
room_added other new [] = omega arith
room_added other new (q ∷ qs) =
    elim (bytes_eq q.name.items other) as (λ b. option_map_or (λ (q : NamedQueue). q.spare) (cond b (Some (seen q)) (find (is_named other) (map seen qs))) 0
    ≤ option_map_or (λ (q : NamedQueue). q.spare) (cond b (Some (seen q)) (find (is_named other) (map seen (qs ++ new ∷ [])))) 0) [
      | true ↦ omega arith
      | false ↦ room_added other new qs
    ]

-- ---- what waits, and the room, before and after the first queue of a name is changed

module _ (name : List ℕ) (d old : Queue) (sorted : SortedRoom) (qs : List Queue) (i : ℕ) (is : old ≡ get_or qs i d) (first : IsFirst name qs i) where
  pub waiting_old : waiting name (map seen qs) ≡ old.waiting.entries
  waiting_old = rw (found name d qs i first, is) refl

  pub room_old : room name (map seen qs) ≡ old.waiting.spare
  room_old = rw (found name d qs i first, is) refl

  abbrev pub changed : List NamedQueue
  changed = map seen (slice_set qs i (record { name = old.name; waiting = sorted }))

  found_changed : find (is_named name) changed ≡ Some (seen (record { name = old.name; waiting = sorted }))
  found_changed = found_set name d (record { name = old.name; waiting = sorted }) qs i first (ap (λ (q : Queue). q.name.items) is)

  pub waiting_changed : waiting name changed ≡ sorted.entries
  waiting_changed = rw found_changed refl

  pub room_changed : room name changed ≡ sorted.spare
  room_changed = rw found_changed refl

  other_changed : (other : List ℕ) → other ≢ name → find (is_named other) changed ≡ find (is_named other) (map seen qs)
  other_changed other differs =
      other_set name other differs d (record { name = old.name; waiting = sorted }) qs i first (ap (λ (q : Queue). q.name.items) is)

  pub waiting_other : (other : List ℕ) → other ≢ name → waiting other changed ≡ waiting other (map seen qs)
  waiting_other other differs = rw (other_changed other differs) refl

  pub room_other : (other : List ℕ) → other ≢ name → room other changed ≡ room other (map seen qs)
  room_other other differs = rw (other_changed other differs) refl

  -- the same for each name, where the entries stay and the room is no less
  pub waiting_kept : sorted.entries ≡ old.waiting.entries → (other : List ℕ) → waiting other changed ≡ waiting other (map seen qs)
  waiting_kept same other =
      elim (bytes_eq other name) as (λ b. bytes_eq other name ≡ b → waiting other changed ≡ waiting other (map seen qs)) [
        | true ↦ λ e. rw ((bytes_decides other name).0 e) (waiting_changed ∙ same ∙ sym waiting_old)
        | false ↦ λ e. waiting_other other (λ s. true≢false (sym ((bytes_decides other name).1 s) ∙ e))
      ] refl

  pub room_kept : old.waiting.spare ≤ sorted.spare → (other : List ℕ) → room other (map seen qs) ≤ room other changed
  room_kept more other =
      elim (bytes_eq other name) as (λ b. bytes_eq other name ≡ b → room other (map seen qs) ≤ room other changed) [
        | true ↦ λ e. rw ((bytes_decides other name).0 e) (omega (arith, room_changed, room_old))
        | false ↦ λ e. let same : room other changed ≡ room other (map seen qs) = room_other other (λ s. true≢false (sym ((bytes_decides other name).1 s) ∙ e)) in omega arith
      ] refl
