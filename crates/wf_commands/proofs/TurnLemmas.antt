-- Turn by turn: what was answered so far, and what one more turn makes of it.
use Rattle.std.proofs.Common.{◌≡◌, inl, inr, ℕ, Bool, true, false, ◌&&◌, ◌||◌, List, [], ◌∷◌, ◌++◌, Option, None, Some, Result, Ok, Err, refl, sym, ap, subst, ◌∙◌, append_assoc}
use Rattle.std.proofs.lemmas.List.{append-nil, map-append}
use Rattle.std.proofs.lemmas.List.Folds.{list_any-append}
use Rattle.std.specs.Result.{is_err}
use Rattle.wf_wire.specs.declared.errors.Failed.{Failed}
use Rattle.wf_wire.specs.declared.limits.Limits.{Limits}
use Rattle.wf_wire.specs.declared.inbox.Next.{Next}
use Rattle.wf_wire.specs.declared.inbox.Next.TheVariants as next
use Rattle.wf_wire.specs.Items.{IsMessage, IsStop, IsNext, Leads, Coming}
use Rattle.wf_wire.specs.Request.{Request, closes}
use Rattle.wf_wire.specs.Stream.{Writes}
use Rattle.wf_machine.specs.declared.calling.Reply.{Reply}
use Rattle.wf_machine.specs.State.{State}
use Rattle.wf_steps.specs.History.{stored}
use Rattle.wf_rest.specs.Moments.{moment_at}
use Rattle.wf_rest.specs.Serving.{call_of, Answered, IsAsked, is_last, is_shutdown, moment_after, requests, wire}
use Rattle.wf_rest.proofs.ServingLemmas.{legal_more, moment-more, state_more, wire-more}
use Rattle.wf_commands.specs.declared.status.Status.{Status}
use Rattle.wf_commands.specs.declared.status.Status.TheVariants.{Done, NoMemory, Usage, ReadFault, WriteFault, BadFrame, Cut, LongInput, TooLarge, Invalid}
use Rattle.wf_commands.specs.declared.batch.Turn.{Turn}
use Rattle.wf_commands.specs.declared.batch.Turn.TheVariants.{Goes, Stops}
use Rattle.wf_commands.specs.Runs.{ComesNext, IsOpen, IsOutcome, IsRun, RunsOver, end_bytes, first_mark, first_state}
use Rattle.wf_commands.specs.Written.{Appends, AppendsPart}
use Rattle.wf_commands.specs.Turns.{IsAnswer, IsAnswered, IsRefused, IsStopped, IsTurn, Stands, StandsOver}

-- ---- bytes

pub appends_nothing : (old mid new : Option (List ℕ)) (bytes : List ℕ) → Appends old mid bytes → Appends mid new [] → Appends old new bytes
appends_nothing old mid new bytes first none taken e = none (taken ++ bytes) (first taken e) ∙ ap Some (append-nil (taken ++ bytes))

pub appends_more : (old mid new : Option (List ℕ)) (bytes more : List ℕ) → Appends old mid bytes → Appends mid new more → Appends old new (bytes ++ more)
appends_more old mid new bytes more first second taken e = second (taken ++ bytes) (first taken e) ∙ ap Some (append_assoc taken bytes more)

pub appends_part : (old mid new : Option (List ℕ)) (first bytes : List ℕ) → Appends old mid first → AppendsPart mid new [] bytes → AppendsPart old new first bytes
appends_part old mid new first bytes whole part taken e =
    let r = part (taken ++ first) (whole taken e) in
    (r.0, r.1, (r.2.0, r.2.1, r.2.2 ∙ ap Some (append_assoc taken first r.0)))

pub part_written : {A : Type 0} (old new : Option (List ℕ)) (bytes : List ℕ) (result : Result A Failed) → is_err result ≡ true → Writes old new bytes result → AppendsPart old new [] bytes
part_written old new bytes (Ok a) failed written = cc
part_written old new bytes (Err e) failed written = written

-- ---- answers

-- a request that is no call ends a run where it closes, and not else
pub unasked_last : (limits : Limits) (m : Request) → is_last limits first_mark (record { request = m; reply = None }) ≡ closes m
unasked_last limits m = by_tests (closes m) (is_shutdown (call_of limits first_mark m)) where
  by_tests : (b c : Bool) → (b || (c && false)) ≡ b
  by_tests true c = refl
  by_tests false true = refl
  by_tests false false = refl

-- ---- what comes next

pub coming_map : (held held' : List ℕ) (left left' : Option (List ℕ)) (P Q : List ℕ → List ℕ → List ℕ → Type 0)
    → ((p rest p' : List ℕ) → P p rest p' → Q p rest p') → Coming held left held' left' P → Coming held left held' left' Q
coming_map held held' left left' P Q f coming l told = let r = coming l told in (r.0, r.1, f (held ++ l) r.0 (held' ++ r.0) r.2)

pub turn_of_answer : (limits : Limits) (before after o : ℕ) (p left : List ℕ) (o' : ℕ) (p' : List ℕ) (m : Request) (s s' : State) (old new : Option (List ℕ)) (turn : Turn)
    → after ≡ moment_at before m → IsAnswered limits after s s' m old new turn → IsMessage limits o p m o' p' → IsTurn limits before after o p left o' p' s s' old new turn
turn_of_answer limits before after o p left o' p' m s s' old new Goes same answered is =
    (m, (is, (same, subst (λ n. IsAnswered limits n s s' m old new Goes) same answered)))
turn_of_answer limits before after o p left o' p' m s s' old new (Stops status) same answered is =
    inl (m, (is, subst (λ n. IsAnswered limits n s s' m old new (Stops status)) same answered))

pub stop_of_next : (limits : Limits) (o : ℕ) (p left : List ℕ) (end : Next) (o' : ℕ) (p' : List ℕ) (old new : Option (List ℕ)) (status : Status)
    → IsStopped end old new status → IsNext limits o p left end o' p' → IsStop limits o p left end
stop_of_next limits o p left (next.Message m) o' p' old new status none is = absurd none
stop_of_next limits o p left next.End o' p' old new status none is = is
stop_of_next limits o p left (next.Cut a) o' p' old new status none is = is
stop_of_next limits o p left (next.BadFrame a) o' p' old new status none is = is
stop_of_next limits o p left (next.BadCoding a) o' p' old new status none is = is
stop_of_next limits o p left (next.LargeHead a) o' p' old new status none is = is
stop_of_next limits o p left (next.LargeBody a) o' p' old new status none is = is
stop_of_next limits o p left next.LongInput o' p' old new status none is = is
stop_of_next limits o p left next.ReadFault o' p' old new status none is = is
stop_of_next limits o p left next.NoMemory o' p' old new status none is = is

-- ---- lists of answers

-- the messages lead one message further
leads_more : (limits : Limits) (o o1 o2 : ℕ) (p q r : List ℕ) (ms : List Request) (m : Request) → Leads limits o p ms o1 q → IsMessage limits o1 q m o2 r → Leads limits o p (ms ++ m ∷ []) o2 r
leads_more limits o o1 o2 p q r [] m so is =
    (o2, r, (subst (λ k. IsMessage limits k p m o2 r) (sym so.0) (subst (λ xs. IsMessage limits o1 xs m o2 r) (sym so.1) is), (refl, refl)))
leads_more limits o o1 o2 p q r (n ∷ ns) m so is = (so.0, so.1, (so.2.0, leads_more limits so.0 o1 o2 so.1 q r ns m so.2.1 is))

requests-more : (answered : List Answered) (a : Answered) → requests (answered ++ a ∷ []) ≡ requests answered ++ a.request ∷ []
requests-more answered a = map-append (λ (x : Answered). x.request) answered (a ∷ [])

open-more : (limits : Limits) (answered : List Answered) (a : Answered) → IsOpen limits answered → is_last limits first_mark a ≡ false → IsOpen limits (answered ++ a ∷ [])
open-more limits answered a unclosed goes =
    list_any-append (is_last limits first_mark) answered (a ∷ []) ∙ ap (λ b. b || (is_last limits first_mark a || false)) unclosed ∙ ap (λ b. b || false) goes

-- ---- one more answer

module _ (limits : Limits) (moment : ℕ) (input : List ℕ) (old : Option (List ℕ)) (answered : List Answered) (o : ℕ) (p : List ℕ) (s : State) (now : ℕ) (mid : Option (List ℕ))
    (stands : Stands limits moment input old answered o p s now mid) where
  answer : Request → Option Reply → Answered
  answer m reply = record { request = m; reply = reply }

  module _ (m : Request) (o' : ℕ) (p' : List ℕ) (is : IsMessage limits o p m o' p') where
    leads_here : (reply : Option Reply) → Leads limits 0 input (requests (answered ++ record { request = m; reply = reply } ∷ [])) o' p'
    leads_here reply =
        subst (λ ms. Leads limits 0 input ms o' p') (sym (requests-more answered (record { request = m; reply = reply })))
        (leads_more limits 0 o o' input p p' (requests answered) m stands.leads is)

    -- it was asked at its moment
    asked_here : (s' : State) (reply : Option Reply) → IsAsked limits (moment_at now m) s s' (call_of limits first_mark m) reply
        → IsAsked limits (moment_at (moment_after moment answered) m) s s' (call_of limits first_mark m) reply
    asked_here s' reply asked = subst (λ n. IsAsked limits (moment_at n m) s s' (call_of limits first_mark m) reply) (sym stands.in_force) asked

    -- the request was asked, and its answer isn't the last
    pub stands_more : (s' : State) (bytes : List ℕ) (new : Option (List ℕ)) → IsAnswer limits (moment_at now m) s s' m false bytes → Appends mid new bytes
        → (more : List Answered) × Stands limits moment input old more o' p' s' (moment_at now m) new
    stands_more s' bytes new answered_so wrote =
        let reply = answered_so.reply in
        let a : Answered = record { request = m; reply = reply } in (
          answered ++ a ∷ [],
          record {
            leads = leads_here reply;
            unclosed = open-more limits answered a stands.unclosed answered_so.ends;
            legal = legal_more limits first_state moment s s' answered m reply stands.legal stands.state (asked_here s' reply answered_so.asked);
            state = state_more limits first_state moment s s' answered m reply stands.legal stands.state (asked_here s' reply answered_so.asked);
            in_force = moment-more moment answered a ∙ ap (λ n. moment_at n m) stands.in_force;
            wrote = λ taken e. appends_more old mid new _ _ stands.wrote wrote taken e
                ∙ ap (λ b. Some (taken ++ b)) (ap (λ b. wire limits first_mark answered ++ b) answered_so.are ∙ sym (wire-more limits first_mark answered m answered_so.reply));
          },
        )

    -- the request was asked, and its answer is the last
    run_closed : (s' : State) (bytes left : List ℕ) (new : Option (List ℕ)) → IsAnswer limits (moment_at now m) s s' m true bytes → Appends mid new bytes
        → IsRun limits moment input left old new Done
    run_closed s' bytes left new answered_so wrote =
        let reply = answered_so.reply in
        let a : Answered = record { request = m; reply = reply } in (
          answered ++ a ∷ [],
          o',
          p',
          (
            leads_here reply,
            legal_more limits first_state moment s s' answered m reply stands.legal stands.state (asked_here s' reply answered_so.asked),
            (
              (λ taken e. appends_more old mid new _ _ stands.wrote wrote taken e
                  ∙ ap (λ b. Some (taken ++ b)) (ap (λ b. wire limits first_mark answered ++ b) answered_so.are ∙ sym (wire-more limits first_mark answered m answered_so.reply))),
              inl (record { before = answered; end = a; are = refl; unclosed = stands.unclosed; closes = answered_so.ends }),
            ),
          ),
        )

    -- of its answer a part was written
    run_unwritten : (s' : State) (bytes left : List ℕ) (new : Option (List ℕ)) (last : Bool) → IsAnswer limits (moment_at now m) s s' m last bytes → AppendsPart mid new [] bytes
        → IsRun limits moment input left old new WriteFault
    run_unwritten s' bytes left new last answered_so part = (
      answered,
      o,
      p,
      (
        stands.leads,
        stands.legal,
        (
          stands.unclosed,
          (
            bytes,
            (
              inl (m, answered_so.reply, o', p', (is, legal_more limits first_state moment s s' answered m answered_so.reply stands.legal stands.state (asked_here s' answered_so.reply answered_so.asked), answered_so.are)),
              appends_part old mid new _ bytes stands.wrote part,
            ),
          ),
        ),
      ),
    )

    run_answered : (s' : State) (left : List ℕ) (new : Option (List ℕ)) (status : Status) → IsAnswered limits (moment_at now m) s s' m mid new (Stops status)
        → IsRun limits moment input left old new status
    run_answered s' left new Done x = run_closed s' x.0 left new x.1.0 x.1.1
    run_answered s' left new WriteFault x = run_unwritten s' x.0 left new x.1.0 x.1.1.0 x.1.1.1
    run_answered s' left new NoMemory x = (answered, o, p, (stands.leads, stands.legal, (stands.unclosed, appends_nothing old mid new _ stands.wrote x)))
    run_answered s' left new Usage x = absurd x
    run_answered s' left new ReadFault x = absurd x
    run_answered s' left new (BadFrame a) x = absurd x
    run_answered s' left new (Cut a) x = absurd x
    run_answered s' left new LongInput x = absurd x
    run_answered s' left new (TooLarge a) x = absurd x
    run_answered s' left new Invalid x = absurd x

  outcome : (left : List ℕ) (new : Option (List ℕ)) (status : Status) → IsOutcome limits moment answered o p left old new status → IsRun limits moment input left old new status
  outcome left new status x = (answered, o, p, (stands.leads, stands.legal, x))

  -- the same for another name of the status
  named : (left : List ℕ) (new : Option (List ℕ)) (status told : Status) → status ≡ told → IsOutcome limits moment answered o p left old new told → IsRun limits moment input left old new status
  named left new status told e x = subst (IsRun limits moment input left old new) (sym e) (outcome left new told x)

  quiet : (new : Option (List ℕ)) → Appends mid new [] → Appends old new (wire limits first_mark answered)
  quiet new none = appends_nothing old mid new _ stands.wrote none

  -- the end is refused
  refused : (left bytes : List ℕ) (new : Option (List ℕ)) (status told : Status) → ComesNext limits moment answered o p bytes
      → (Appends old new (wire limits first_mark answered ++ bytes) → IsOutcome limits moment answered o p left old new told)
      → IsRefused bytes told mid new status → IsRun limits moment input left old new status
  refused left bytes new status told next whole (inl x) = named left new status told x.0 (whole (appends_more old mid new _ bytes stands.wrote x.1))
  refused left bytes new status told next whole (inr (inl x)) =
      named left new status WriteFault x.0 (stands.unclosed, (bytes, (next, appends_part old mid new _ bytes stands.wrote x.1)))
  refused left bytes new status told next whole (inr (inr x)) = named left new status NoMemory x.0 (stands.unclosed, quiet new x.1)

  run_stopped : (end : Next) (left : List ℕ) (new : Option (List ℕ)) (status : Status) → IsStop limits o p left end → IsStopped end mid new status
      → IsRun limits moment input left old new status
  run_stopped (next.Message m) left new status is x = absurd x
  run_stopped next.End left new status is x = named left new status Done x.0 (quiet new x.1, inr (stands.unclosed, is))
  run_stopped (next.Cut a) left new status is x = named left new status (Cut a) x.0 (stands.unclosed, is, quiet new x.1)
  run_stopped (next.BadFrame a) left new status is x =
      refused left (end_bytes (next.BadFrame a)) new status (BadFrame a) (inr (next.BadFrame a, (is, refl))) (λ w. (stands.unclosed, inl (is, w))) x
  run_stopped (next.BadCoding a) left new status is x =
      refused left (end_bytes (next.BadCoding a)) new status (BadFrame a) (inr (next.BadCoding a, (is, refl))) (λ w. (stands.unclosed, inr (is, w))) x
  run_stopped (next.LargeHead a) left new status is x =
      refused left (end_bytes (next.LargeHead a)) new status (TooLarge a) (inr (next.LargeHead a, (is, refl))) (λ w. (stands.unclosed, inl (is, w))) x
  run_stopped (next.LargeBody a) left new status is x =
      refused left (end_bytes (next.LargeBody a)) new status (TooLarge a) (inr (next.LargeBody a, (is, refl))) (λ w. (stands.unclosed, inr (is, w))) x
  run_stopped next.LongInput left new status is x = named left new status LongInput x.0 (stands.unclosed, is, quiet new x.1)
  run_stopped next.ReadFault left new status is x = named left new status ReadFault x.0 (stands.unclosed, is, quiet new x.1)
  run_stopped next.NoMemory left new status is x = named left new status NoMemory x.0 (stands.unclosed, quiet new x.1)

  -- the run stops
  pub run_stops : (after o' : ℕ) (p' left : List ℕ) (s' : State) (new : Option (List ℕ)) (status : Status)
      → IsTurn limits now after o p left o' p' s s' mid new (Stops status) → IsRun limits moment input left old new status
  run_stops after o' p' left s' new status (inl x) = run_answered x.0 o' p' x.1.0 s' left new status x.1.1
  run_stops after o' p' left s' new status (inr x) = run_stopped x.0 left new status x.1.0 x.1.1

-- ---- where the source tells its bytes

module _ (limits : Limits) (moment : ℕ) (told : Option (List ℕ)) (old : Option (List ℕ)) where
  pub over_start : (o : ℕ) (held : List ℕ) (s : State) → o ≡ 0 → held ≡ [] → s ≡ first_state → StandsOver limits moment told old o held told s moment old
  over_start o held s at_start empty fresh input tells = (
    input,
    (
      tells,
      (
        [],
        record {
          leads = (sym at_start, ap (λ h. h ++ input) (sym empty));
          unclosed = refl;
          legal = record { calls = refl; replies = refl };
          state = ap stored (sym fresh);
          in_force = refl;
          wrote = λ taken e. e ∙ ap Some (sym (append-nil taken));
        },
      ),
    ),
  )

  module _ (o : ℕ) (held : List ℕ) (left : Option (List ℕ)) (s : State) (now : ℕ) (mid : Option (List ℕ)) (so : StandsOver limits moment told old o held left s now mid)
      (after o' : ℕ) (held' : List ℕ) (left' : Option (List ℕ)) (s' : State) (new : Option (List ℕ)) (limits' : Limits) (same : limits' ≡ limits) where
    abbrev turns : Limits → Turn → Type 0
    turns L turn = Coming held left held' left' (λ p rest p'. IsTurn L now after o p rest o' p' s s' mid new turn)

    -- another request was answered
    pub over_more : turns limits' Goes → StandsOver limits moment told old o' held' left' s' after new
    over_more turn input tells =
        let x = so input tells in
        let y = subst (λ L. turns L Goes) same turn x.0 x.1.0 in
        let t = y.2 in (
          y.0,
          (
            y.1,
            subst (λ n. (more : List Answered) × Stands limits moment input old more o' (held' ++ y.0) s' n new) (sym t.1.1.0)
                (stands_more limits moment input old x.1.1.0 o (held ++ x.0) s now mid x.1.1.1 t.0 o' (held' ++ y.0) t.1.0 s' t.1.1.1.0 new t.1.1.1.1.0 t.1.1.1.1.1),
          ),
        )

    -- the run stops
    pub over_stops : (status : Status) → turns limits' (Stops status) → RunsOver limits moment told left' old new status
    over_stops status turn input tells =
        let x = so input tells in
        let y = subst (λ L. turns L (Stops status)) same turn x.0 x.1.0 in
        (y.0, (y.1, run_stops limits moment input old x.1.1.0 o (held ++ x.0) s now mid x.1.1.1 after o' (held' ++ y.0) y.0 s' new status y.2))

  -- the run is given up for want of memory
  pub over_starved : (o : ℕ) (held : List ℕ) (left : Option (List ℕ)) (s : State) (now : ℕ) (new : Option (List ℕ)) → StandsOver limits moment told old o held left s now new
      → RunsOver limits moment told left old new NoMemory
  over_starved o held left s now new so input tells =
      let x = so input tells in
      (x.0, (x.1.0, (x.1.1.0, o, held ++ x.0, (x.1.1.1.leads, x.1.1.1.legal, (x.1.1.1.unclosed, x.1.1.1.wrote)))))
