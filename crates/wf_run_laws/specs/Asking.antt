-- Calls that requests are.
use Rattle.std.specs.Prelude.{◌≡◌, ℕ, Ok}
use Rattle.wf_wire.specs.Request.{Request}
use Rattle.wf_wire.specs.declared.limits.Limits.{Limits}
use Rattle.wf_steps.specs.declared.calling.Call.{Call}
use Rattle.wf_rest.specs.Requests.{request_call}

-- some request in the store with that mark is the call
pub record IsAsked (limits : Limits) (mark : ℕ) (call : Call) : Type 0 where
  pub request : Request
  pub is : request_call limits mark request ≡ Ok call
