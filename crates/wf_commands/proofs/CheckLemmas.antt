-- What a check leaves, from what its parts leave.
use Rattle.std.proofs.Common.{◌≡◌, ◌≢◌, ◌∙◌, inl, inr, ℕ, ◌<◌, ◌≤◌, true, false, cond, List, [], length, refl, sym, ap, subst, Option, Some}
use Rattle.std.proofs.lemmas.Bool.{le-ltb, lt-ltb}
use Rattle.wf_wire.specs.declared.limits.Limits.{Limits}
use Rattle.wf_commands.specs.declared.status.Status.{Status}
use Rattle.wf_commands.specs.declared.status.Status.TheVariants.{Done, NoMemory, Usage, ReadFault, WriteFault, BadFrame, Cut, LongInput, TooLarge, Invalid}
use Rattle.wf_commands.specs.Checking.{ChecksOver, IsChecked, IsComplete, is_long, line, verdict, verdict_status}
use Rattle.wf_commands.specs.Written.{Appends}

-- where the input is within the limit, its verdict is told
told_whole : (limits : Limits) (input : List ℕ) (old new : Option (List ℕ)) (status : Status) → length input ≤ limits.body
    → status ≡ verdict_status (verdict limits input) → Appends old new (line (verdict limits input)) → IsComplete limits input old new status
told_whole limits input old new status within is wrote =
    let short : is_long limits input ≡ false = le-ltb limits.body (length input) within in
    inr (
      is ∙ ap (λ b. cond b (TooLarge 0) (verdict_status (verdict limits input))) (sym short),
      subst (λ b. Appends old new (cond b [] (line (verdict limits input)))) (sym short) wrote,
    )

told_long : (limits : Limits) (input : List ℕ) (old new : Option (List ℕ)) (status : Status) → limits.body < length input
    → status ≡ TooLarge 0 → Appends old new [] → IsComplete limits input old new status
told_long limits input old new status over is wrote =
    let long : is_long limits input ≡ true = lt-ltb limits.body (length input) over in
    inr (
      is ∙ ap (λ b. cond b (TooLarge 0) (verdict_status (verdict limits input))) (sym long),
      subst (λ b. Appends old new (cond b [] (line (verdict limits input)))) (sym long) wrote,
    )

-- where nothing fails, the input is answered
pub complete_check : (limits : Limits) (input rest : List ℕ) (old new : Option (List ℕ)) (status : Status)
    → status ≢ ReadFault → status ≢ WriteFault → IsChecked limits input rest old new status → IsComplete limits input old new status
complete_check limits input rest old new Done read write c = told_whole limits input old new Done c.0.0 (sym c.1.0) c.1.1
complete_check limits input rest old new Invalid read write c = told_whole limits input old new Invalid c.0.0 (sym c.1.0) c.1.1
complete_check limits input rest old new WriteFault read write c = absurd (write refl)
complete_check limits input rest old new ReadFault read write c = absurd (read refl)
complete_check limits input rest old new NoMemory read write c = inl refl
complete_check limits input rest old new (TooLarge at) read write c = told_long limits input old new (TooLarge at) c.1.0 (ap TooLarge c.0) c.1.1.1
complete_check limits input rest old new Usage read write c = absurd c
complete_check limits input rest old new (BadFrame at) read write c = absurd c
complete_check limits input rest old new (Cut at) read write c = absurd c
complete_check limits input rest old new LongInput read write c = absurd c

-- ---- where the source tells its bytes

pub completes_over : (limits : Limits) (L M old new : Option (List ℕ)) (status : Status) → ChecksOver limits L M old new status
    → status ≢ ReadFault → status ≢ WriteFault → (input : List ℕ) → L ≡ Some input → IsComplete limits input old new status
completes_over limits L M old new status run read write = λ input told. let p = run input told in
    complete_check limits input p.0 old new status read write p.1.1
