-- Answers that grow by one.
use Rattle.std.proofs.Common.{◌≡◌, ℕ, ◌&&◌, true, List, [], ◌∷◌, ◌++◌, Option, None, Some, refl, sym, ap, ◌∙◌, append_assoc}
use Rattle.std.specs.List.{cons_option}
use Rattle.std.proofs.lemmas.List.{append-nil}
use Rattle.std.proofs.lemmas.List.Elements.{filter_map-append}
use Rattle.std.proofs.lemmas.List.Folds.{list_all-append}
use Rattle.wf_wire.specs.Request.{Request}
use Rattle.wf_wire.specs.declared.limits.Limits.{Limits}
use Rattle.wf_steps.specs.declared.calling.Call.{Call}
use Rattle.wf_machine.specs.declared.calling.Reply.{Reply}
use Rattle.wf_steps.specs.declared.calling.Entry.{Entry}
use Rattle.wf_machine.specs.State.{State}
use Rattle.wf_steps.specs.Calls.{is_starved, entry_of}
use Rattle.wf_steps.specs.History.{stored, state_after, replies_of}
use Rattle.wf_rest.specs.Serving.{call_of, Answered, IsAsked, IsLegal, entry_made, entry_with, fits, history_of, moment_after, replies_made, reply_made, reply_with, wire, answer_bytes}
use Rattle.wf_rest.specs.Moments.{moment_at}
use Rattle.wf_steps.proofs.HistoryLemmas.{state-more, replies-more}

-- what one more request adds to a history
record Adds (limits : Limits) (start new : State) (history : List Entry) (given : List Reply) (call : Option Call) (reply : Option Reply) (entry : Option Entry) : Type 0 where
  calls : fits call reply ≡ true
  replies : given ++ cons_option (reply_with call reply) [] ≡ replies_of limits start (history ++ cons_option entry [])
  state : stored (state_after limits start (history ++ cons_option entry [])) ≡ stored new

abbrev answer : Request → Option Reply → Answered
answer m reply = record { request = m; reply = reply }

-- one more request comes last in the history, with the moment that is in force before it or its own
pub history-more : (limits : Limits) (mark moment : ℕ) (answered : List Answered) (a : Answered)
    → history_of limits mark moment (answered ++ a ∷ [])
    ≡ history_of limits mark moment answered ++ cons_option (entry_made limits mark (moment_at (moment_after moment answered) a.request) a) []
history-more limits mark moment [] a = refl
history-more limits mark moment (x ∷ rest) a =
    let now = moment_at moment x.request in
    ap (cons_option (entry_made limits mark now x)) (history-more limits mark now rest a) ∙ by_entry (entry_made limits mark now x)
  where
    by_entry : (o : Option Entry)
        → cons_option o (history_of limits mark (moment_at moment x.request) rest ++ cons_option (entry_made limits mark (moment_at (moment_after (moment_at moment x.request) rest) a.request) a) [])
        ≡ cons_option o (history_of limits mark (moment_at moment x.request) rest) ++ cons_option (entry_made limits mark (moment_at (moment_after (moment_at moment x.request) rest) a.request) a) []
    by_entry None = refl
    by_entry (Some e) = refl

pub moment-more : (moment : ℕ) (answered : List Answered) (a : Answered) → moment_after moment (answered ++ a ∷ []) ≡ moment_at (moment_after moment answered) a.request
moment-more moment [] a = refl
moment-more moment (x ∷ rest) a = moment-more (moment_at moment x.request) rest a

module _ (limits : Limits) (start : State) (moment : ℕ) (t new : State) where
  adds_nothing : (history : List Entry) (replies : List Reply) → replies ≡ replies_of limits start history → stored (state_after limits start history) ≡ stored t → new ≡ t
      → record { replies : replies ++ [] ≡ replies_of limits start (history ++ []); state : stored (state_after limits start (history ++ [])) ≡ stored new }
  adds_nothing history replies legal same kept = record {
    replies = append-nil replies ∙ legal ∙ ap (replies_of limits start) (sym (append-nil history));
    state = ap (λ h. stored (state_after limits start h)) (append-nil history) ∙ same ∙ ap stored (sym kept);
  }

  adds : (now : ℕ) (history : List Entry) (replies : List Reply) (call : Option Call) (reply : Option Reply) → replies ≡ replies_of limits start history
      → stored (state_after limits start history) ≡ stored t → IsAsked limits now t new call reply
      → Adds limits start new history replies call reply (entry_with now call reply)
  adds now history replies (Some call) (Some reply) legal same asked = record {
    calls = refl;
    replies = ap (λ rs. rs ++ reply ∷ []) legal ∙ sym (replies-more limits asked.0 t new (entry_of 0 now call reply) reply asked.1 0 start history same);
    state = state-more limits asked.0 t new (entry_of 0 now call reply) reply asked.1 0 start history same;
  }
  adds now history replies (Some call) None legal same asked = absurd asked
  adds now history replies None None legal same asked =
      let kept = adds_nothing history replies legal same asked in
      record { calls = refl; replies = kept.replies; state = kept.state }
  adds now history replies None (Some reply) legal same asked =
      let kept = adds_nothing history replies legal same asked.0 in
      record { calls = ap is_starved asked.1; replies = kept.replies; state = kept.state }

  -- the moment of a request that comes next
  abbrev next_moment : List Answered → Request → ℕ
  next_moment answered m = moment_at (moment_after moment answered) m

  -- one more request was asked: the answers are legal still, and the state is the one that their history leads to
  pub legal_more : (answered : List Answered) (m : Request) (reply : Option Reply) → IsLegal limits start moment answered
      → stored (state_after limits start (history_of limits start.mark moment answered)) ≡ stored t
      → IsAsked limits (moment_at (moment_after moment answered) m) t new (call_of limits start.mark m) reply
      → IsLegal limits start moment (answered ++ record { request = m; reply = reply } ∷ [])
  legal_more answered m reply legal same asked =
      let call = call_of limits start.mark m in
      let more = adds (next_moment answered m) (history_of limits start.mark moment answered) (replies_made limits start.mark answered) call reply legal.replies same asked in
      record {
        calls = list_all-append _ answered (answer m reply ∷ [])
            ∙ ap (λ b. b && (fits call reply && true)) legal.calls ∙ ap (λ b. b && true) more.calls;
        replies = filter_map-append (reply_made limits start.mark) answered (answer m reply ∷ []) ∙ more.replies
            ∙ ap (replies_of limits start) (sym (history-more limits start.mark moment answered (answer m reply)));
      }

  pub state_more : (answered : List Answered) (m : Request) (reply : Option Reply) → IsLegal limits start moment answered
      → stored (state_after limits start (history_of limits start.mark moment answered)) ≡ stored t
      → IsAsked limits (moment_at (moment_after moment answered) m) t new (call_of limits start.mark m) reply
      → stored (state_after limits start (history_of limits start.mark moment (answered ++ record { request = m; reply = reply } ∷ []))) ≡ stored new
  state_more answered m reply legal same asked =
      let more = adds (next_moment answered m) (history_of limits start.mark moment answered) (replies_made limits start.mark answered)
      (call_of limits start.mark m) reply legal.replies same asked in
      ap (λ h. stored (state_after limits start h)) (history-more limits start.mark moment answered (answer m reply)) ∙ more.state

-- the bytes of one more answer come after the others
pub wire-more : (limits : Limits) (mark : ℕ) (answered : List Answered) (m : Request) (reply : Option Reply)
    → wire limits mark (answered ++ record { request = m; reply = reply } ∷ []) ≡ wire limits mark answered ++ answer_bytes limits mark m reply
wire-more limits mark [] m reply = append-nil (answer_bytes limits mark m reply)
wire-more limits mark (a ∷ rest) m reply =
    ap (λ bytes. answer_bytes limits mark a.request a.reply ++ bytes) (wire-more limits mark rest m reply)
    ∙ sym (append_assoc (answer_bytes limits mark a.request a.reply) (wire limits mark rest) (answer_bytes limits mark m reply))
