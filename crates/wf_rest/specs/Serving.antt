-- What a server answers to a list of requests, and that its answers are those of one history.
use Rattle.std.specs.Prelude.{◌≡◌, ℕ, ◌&&◌, ◌||◌, Bool, true, false, List, [], ◌∷◌, ◌++◌, map, codes, Option, None, Some, Ok, Err}
use Rattle.std.specs.Result.{result_ok}
use Rattle.std.specs.List.{cons_option, filter_map, list_all}
use Rattle.wf_names.specs.declared.refusals.Refusal.TheVariants.{NoMemory}
use Rattle.wf_wire.specs.Request.{Request, closes}
use Rattle.wf_wire.specs.declared.limits.Limits.{Limits}
use Rattle.wf_steps.specs.declared.calling.Call.{Call}
use Rattle.wf_steps.specs.declared.calling.Call.TheVariants.{Shutdown}
use Rattle.wf_machine.specs.declared.calling.Reply.{Reply}
use Rattle.wf_machine.specs.declared.calling.Reply.TheVariants.{Accepted, Refused}
use Rattle.wf_steps.specs.declared.calling.Entry.{Entry}
use Rattle.wf_machine.specs.State.{State}
use Rattle.wf_steps.specs.Calls.{stepped, is_starved, entry_of, step}
use Rattle.wf_machine.specs.Text.{same_text}
use Rattle.wf_steps.specs.History.{replies_of}
use Rattle.wf_rest.specs.Responses.{printed_reply, printed_fault}
use Rattle.wf_rest.specs.Moments.{moment_at}
use Rattle.wf_rest.specs.declared.faulting.HttpFault.{HttpFault}
use Rattle.wf_rest.specs.Bodies.{Asked}
use Rattle.wf_rest.specs.Requests.{timed_call}

-- a request that was answered: by a reply where it is a call
pub record Answered : Type 0 where
  pub request : Request
  pub reply : Option Reply

abbrev pub is_head : Request → Bool
is_head m = same_text m.method (codes "HEAD")

-- the call that a request is in a store with that mark, if it is one
abbrev pub call_of : Limits → ℕ → Request → Option Call
call_of limits mark m = result_ok (timed_call limits mark m)

abbrev pub fault_in : Asked → HttpFault
fault_in (Ok call) = HttpFault.NoMemory
fault_in (Err fault) = fault

-- why it is no call, where it is none
abbrev pub fault_of : Limits → ℕ → Request → HttpFault
fault_of limits mark m = fault_in (timed_call limits mark m)

abbrev pub is_shutdown : Option Call → Bool
is_shutdown (Some Shutdown) = true
is_shutdown call = false

abbrev pub was_accepted : Option Reply → Bool
was_accepted (Some Accepted) = true
was_accepted reply = false

-- nothing is answered after it: the request closes, or it asks for the end of the run, and that was accepted
abbrev pub is_last : Limits → ℕ → Answered → Bool
is_last limits mark a = closes a.request || (is_shutdown (call_of limits mark a.request) && was_accepted a.reply)

-- the bytes of one answer: a reply, or else the fault of the request. After the last one the connection ends
abbrev pub answer_bytes : Limits → ℕ → Request → Option Reply → List ℕ
answer_bytes limits mark m None = printed_fault (fault_of limits mark m) (closes m) (is_head m)
answer_bytes limits mark m (Some reply) =
    printed_reply mark reply (is_last limits mark (record { request = m; reply = Some reply })) (is_head m)

-- the bytes of the answers, one after another
abbrev pub wire : Limits → ℕ → List Answered → List ℕ
wire limits mark [] = []
wire limits mark (a ∷ rest) = answer_bytes limits mark a.request a.reply ++ wire limits mark rest

abbrev pub requests : List Answered → List Request
requests answered = map (λ a. a.request) answered

-- ---- the history

abbrev pub entry_with : ℕ → Option Call → Option Reply → Option Entry
entry_with moment (Some call) (Some reply) = Some (entry_of 0 moment call reply)
entry_with moment (Some call) None = None
entry_with moment None reply = None

-- the entry of an answered request in a store with that mark, where it is a call
abbrev pub entry_made : Limits → ℕ → ℕ → Answered → Option Entry
entry_made limits mark moment a = entry_with moment (call_of limits mark a.request) a.reply

-- The calls among the requests, in their order. Each has the moment that it states, or else that of the nearest request
-- before it that states one, or else the moment at first. One that was refused for want of memory is starved, also
-- where memory was wanting while it was read.
abbrev pub history_of : Limits → ℕ → ℕ → List Answered → List Entry
history_of limits mark moment [] = []
history_of limits mark moment (a ∷ rest) =
    cons_option (entry_made limits mark (moment_at moment a.request) a) (history_of limits mark (moment_at moment a.request) rest)

-- the moment that is in force after these requests
abbrev pub moment_after : ℕ → List Answered → ℕ
moment_after moment [] = moment
moment_after moment (a ∷ rest) = moment_after (moment_at moment a.request) rest

abbrev pub reply_with : Option Call → Option Reply → Option Reply
reply_with (Some call) reply = reply
reply_with None reply = None

-- the reply to a request, where it is a call
abbrev pub reply_made : Limits → ℕ → Answered → Option Reply
reply_made limits mark a = reply_with (call_of limits mark a.request) a.reply

-- the replies to the calls among the requests, in their order
abbrev pub replies_made : Limits → ℕ → List Answered → List Reply
replies_made limits mark answered = filter_map (reply_made limits mark) answered

-- each call is given a reply, and a request that is no call none, but where memory was wanting while it was read
abbrev pub fits : Option Call → Option Reply → Bool
fits (Some call) (Some reply) = true
fits (Some call) None = false
fits None None = true
fits None (Some reply) = is_starved reply

-- the replies are those of the machine, from this state, to the calls among the requests, with this moment at first
pub record IsLegal (limits : Limits) (start : State) (moment : ℕ) (answered : List Answered) : Type 0 where
  pub calls : list_all (λ (a : Answered). fits (call_of limits start.mark a.request) a.reply) answered ≡ true
  pub replies : replies_made limits start.mark answered ≡ replies_of limits start (history_of limits start.mark moment answered)

-- ---- one request

-- what a request does to the state, and the reply that it is given
abbrev pub IsAsked : Limits → ℕ → State → State → Option Call → Option Reply → Type 0
IsAsked limits moment old new (Some call) (Some reply) =
    (place : ℕ) × (stepped new reply ≡ step limits place old (entry_of 0 moment call reply))
IsAsked limits moment old new (Some call) None = ⊥
IsAsked limits moment old new None None = new ≡ old
IsAsked limits moment old new None (Some reply) = (new ≡ old) × (reply ≡ Refused NoMemory)
