use Rattle.std.proofs.Common.{◌≡◌, ◌++◌, ◌∷◌, [], refl, arith, rules}
use Rattle.std.proofs.lemmas.Grind.{common_steps}
use Rattle.wf_wire.specs.Inbox.{empty_inbox}
use Rattle.wf_wire.proofs.StreamLemmas.{start, step, starved}
use Rattle.wf_wire.proofs.items.all_messages.Goals as goal

pub loop-preserved : goal.loop-preserved
loop-preserved g c =
    let made : c.push.new.self.items ≡ c.loop.messages.items ++ c.in-Message.message ∷ [] = first_of (search rules, grind arith, grind (arith, common_steps)) in (
      step c.args.limits.now _ _ _ c.loop.messages.items c.push.new.self.items c.in-Message.message c.loop.inbox c.next_message.new.inbox c.loop.invariant.0 c.in-Message.ensures.next made,
      omega (arith, c.loop.invariant.1, c.in-Message.ensures.count),
      c.in-Message.ensures.within,
    )

pub returns-in-Err-clause-items : goal.returns-in-Err-clause-items
returns-in-Err-clause-items g c = starved c.args.limits.now _ _ c.new-messages.result.items empty_inbox (start c.args.limits.now _ c.new-messages.result.items empty_inbox c.new-messages.ensures.items refl)
