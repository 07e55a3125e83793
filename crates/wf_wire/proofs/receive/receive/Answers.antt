use Rattle.std.proofs.Common.{◌≡◌, ◌∙◌, ℕ, List, [], drop, sym, ap, append-nil, inr}
use Rattle.wf_wire.specs.Fields.{framing}
use Rattle.wf_wire.specs.Front.{window}
use Rattle.wf_wire.specs.Reading.{pairs}
use Rattle.wf_wire.specs.declared.framing.Frame.TheVariants.{Sized, BadFrame, BadCoding, LargeBody}
use Rattle.wf_wire.proofs.ReaderLemmas.{kept_more, ends_more}
use Rattle.wf_wire.proofs.MessageLemmas.{Found, found_here, says_here, part_of_body, whole_here, target_text}
use Rattle.wf_wire.proofs.receive.receive.Goals as goal

pub returns-in-BadFrame-clause-read : goal.returns-in-BadFrame-clause-read
returns-in-BadFrame-clause-read g c =
    let held : List ℕ = c.watch_head.new.held.items in
    let found : Found c.args.limits.now held c.in-Head.ensures.watch.2.0 c.in-Ok.head c.in-Head.found.len = found_here c.args.limits.now held c.window.result.now [] held _ c.in-Head.found c.in-Head.ensures.watch.2.0 c.in-Ok.head
    (c.window.ensures ∙ ap (window c.args.limits.now.head) c.as_slice.ensures.value) c.in-Head.ensures.watch.2.1.0 c.in-Head.ensures.watch.2.1.1 c.in-Ok.ensures (sym (append-nil held)) in
    let says = says_here c.args.limits.now held c.in-Head.ensures.watch.2.0 c.in-Ok.head c.in-Head.found.len BadFrame found
    (ap (λ x. framing c.args.limits.now.body c.in-Ok.head.minor (pairs x)) (sym c.deref.ensures.value) ∙ sym c.in-BadFrame.ensures) in
    (c.in-Head.ensures.watch.0, inr (drop c.in-Head.found.len held, says))

pub returns-in-BadCoding-clause-read : goal.returns-in-BadCoding-clause-read
returns-in-BadCoding-clause-read g c =
    let held : List ℕ = c.watch_head.new.held.items in
    let found : Found c.args.limits.now held c.in-Head.ensures.watch.2.0 c.in-Ok.head c.in-Head.found.len = found_here c.args.limits.now held c.window.result.now [] held _ c.in-Head.found c.in-Head.ensures.watch.2.0 c.in-Ok.head
    (c.window.ensures ∙ ap (window c.args.limits.now.head) c.as_slice.ensures.value) c.in-Head.ensures.watch.2.1.0 c.in-Head.ensures.watch.2.1.1 c.in-Ok.ensures (sym (append-nil held)) in
    let says = says_here c.args.limits.now held c.in-Head.ensures.watch.2.0 c.in-Ok.head c.in-Head.found.len BadCoding found
    (ap (λ x. framing c.args.limits.now.body c.in-Ok.head.minor (pairs x)) (sym c.deref.ensures.value) ∙ sym c.in-BadCoding.ensures) in
    (c.in-Head.ensures.watch.0, (drop c.in-Head.found.len held, says))

pub returns-in-LargeBody-clause-read : goal.returns-in-LargeBody-clause-read
returns-in-LargeBody-clause-read g c =
    let held : List ℕ = c.watch_head.new.held.items in
    let found : Found c.args.limits.now held c.in-Head.ensures.watch.2.0 c.in-Ok.head c.in-Head.found.len = found_here c.args.limits.now held c.window.result.now [] held _ c.in-Head.found c.in-Head.ensures.watch.2.0 c.in-Ok.head
    (c.window.ensures ∙ ap (window c.args.limits.now.head) c.as_slice.ensures.value) c.in-Head.ensures.watch.2.1.0 c.in-Head.ensures.watch.2.1.1 c.in-Ok.ensures (sym (append-nil held)) in
    let says = says_here c.args.limits.now held c.in-Head.ensures.watch.2.0 c.in-Ok.head c.in-Head.found.len LargeBody found
    (ap (λ x. framing c.args.limits.now.body c.in-Ok.head.minor (pairs x)) (sym c.deref.ensures.value) ∙ sym c.in-LargeBody.ensures) in
    (c.in-Head.ensures.watch.0, (drop c.in-Head.found.len held, says))

pub returns-in-Ended-get_bytes-clause-read : goal.returns-in-Ended-get_bytes-clause-read
returns-in-Ended-get_bytes-clause-read g c =
    let held : List ℕ = c.watch_head.new.held.items in
    let now : List ℕ = c.get_bytes.new.held.items in
    let kept = c.in-Ended-get_bytes.ensures.got.0 in
    let found : Found c.args.limits.now now c.in-Head.ensures.watch.2.0 c.in-Ok.head c.in-Head.found.len = found_here c.args.limits.now held c.window.result.now kept.grown.0 now _ c.in-Head.found c.in-Head.ensures.watch.2.0 c.in-Ok.head
    (c.window.ensures ∙ ap (window c.args.limits.now.head) c.as_slice.ensures.value) c.in-Head.ensures.watch.2.1.0 c.in-Head.ensures.watch.2.1.1 c.in-Ok.ensures kept.grown.1 in
    let sized : framing c.args.limits.now.body c.in-Ok.head.minor (pairs c.in-Ok.head.fields.items) ≡ Sized c.in-Sized.size = ap (λ x. framing c.args.limits.now.body c.in-Ok.head.minor (pairs x)) (sym c.deref.ensures.value) ∙ sym c.in-Sized.ensures in
    let all = kept_more c.args.held.now.items held now _ _ _ _ _ _ c.in-Head.ensures.watch.0 kept in
    (all, inr (c.in-Sized.size, drop c.in-Head.found.len now, (says_here c.args.limits.now now c.in-Head.ensures.watch.2.0 c.in-Ok.head c.in-Head.found.len (Sized c.in-Sized.size) found sized, part_of_body c.args.limits.now now c.in-Head.ensures.watch.2.0 c.in-Ok.head c.in-Head.found.len c.in-Sized.size found c.in-Ended-get_bytes.ensures.got.1)), ends_more c.args.held.now.items held _ _ _ _ _ _ c.in-Head.ensures.watch.0 c.in-Ended-get_bytes.ensures.got.2)

pub returns-in-Failed-get_bytes-clause-read : goal.returns-in-Failed-get_bytes-clause-read
returns-in-Failed-get_bytes-clause-read g c =
    let held : List ℕ = c.watch_head.new.held.items in
    let now : List ℕ = c.get_bytes.new.held.items in
    let kept = c.in-Failed-get_bytes.ensures.got.0 in
    let found : Found c.args.limits.now now c.in-Head.ensures.watch.2.0 c.in-Ok.head c.in-Head.found.len = found_here c.args.limits.now held c.window.result.now kept.grown.0 now _ c.in-Head.found c.in-Head.ensures.watch.2.0 c.in-Ok.head
    (c.window.ensures ∙ ap (window c.args.limits.now.head) c.as_slice.ensures.value) c.in-Head.ensures.watch.2.1.0 c.in-Head.ensures.watch.2.1.1 c.in-Ok.ensures kept.grown.1 in
    let sized : framing c.args.limits.now.body c.in-Ok.head.minor (pairs c.in-Ok.head.fields.items) ≡ Sized c.in-Sized.size = ap (λ x. framing c.args.limits.now.body c.in-Ok.head.minor (pairs x)) (sym c.deref.ensures.value) ∙ sym c.in-Sized.ensures in
    let all = kept_more c.args.held.now.items held now _ _ _ _ _ _ c.in-Head.ensures.watch.0 kept in
    (all, inr (c.in-Sized.size, drop c.in-Head.found.len now, (says_here c.args.limits.now now c.in-Head.ensures.watch.2.0 c.in-Ok.head c.in-Head.found.len (Sized c.in-Sized.size) found sized, part_of_body c.args.limits.now now c.in-Head.ensures.watch.2.0 c.in-Ok.head c.in-Head.found.len c.in-Sized.size found c.in-Failed-get_bytes.ensures.got.1)))

pub returns-in-Ok-take_body-clause-read : goal.returns-in-Ok-take_body-clause-read
returns-in-Ok-take_body-clause-read g c =
    let held : List ℕ = c.watch_head.new.held.items in
    let now : List ℕ = c.get_bytes.new.held.items in
    let kept = c.in-All.ensures.got.0 in
    let found : Found c.args.limits.now now c.in-Head.ensures.watch.2.0 c.in-Ok.head c.in-Head.found.len = found_here c.args.limits.now held c.window.result.now kept.grown.0 now _ c.in-Head.found c.in-Head.ensures.watch.2.0 c.in-Ok.head
    (c.window.ensures ∙ ap (window c.args.limits.now.head) c.as_slice.ensures.value) c.in-Head.ensures.watch.2.1.0 c.in-Head.ensures.watch.2.1.1 c.in-Ok.ensures kept.grown.1 in
    let sized : framing c.args.limits.now.body c.in-Ok.head.minor (pairs c.in-Ok.head.fields.items) ≡ Sized c.in-Sized.size = ap (λ x. framing c.args.limits.now.body c.in-Ok.head.minor (pairs x)) (sym c.deref.ensures.value) ∙ sym c.in-Sized.ensures in
    let all = kept_more c.args.held.now.items held now _ _ _ _ _ _ c.in-Head.ensures.watch.0 kept in
    let whole = whole_here c.args.limits.now c.args.held.now.items now c.take_body.new.held.items c.in-Ok-take_body.body.items _ _ _ _ c.in-Head.ensures.watch.2.0 c.in-Ok.head c.in-Head.found.len c.in-Sized.size all found sized c.in-All.ensures.got.1 c.in-Ok-take_body.ensures in
    (whole.0, target_text c.args.limits.now now c.in-Head.ensures.watch.2.0 c.in-Ok.head c.in-Head.found.len found, whole.1)
