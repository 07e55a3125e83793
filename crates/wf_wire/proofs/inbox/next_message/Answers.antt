use Rattle.std.proofs.Common.{length, refl, ap, arith, subst}
use Rattle.wf_wire.specs.Front.{IsLargeHead}
use Rattle.wf_wire.specs.Framing.{IsBadFrame, IsBadCoding, IsLargeBody}
use Rattle.wf_wire.specs.Inbox.{InboxState}
use Rattle.wf_wire.specs.MessageReading.{IsEnded}
use Rattle.wf_wire.proofs.ReaderLemmas.{large_lifts}
use Rattle.wf_wire.proofs.NextLemmas.{bad_frame_lifts, bad_coding_lifts, large_body_lifts, faulty, ended_next, whole_next}
use Rattle.wf_wire.proofs.inbox.next_message.Goals as goal

pub returns-in-BadFrame-clause-next : goal.returns-in-BadFrame-clause-next
returns-in-BadFrame-clause-next g c = faulty c.args.limits.now c.args.inbox.now c.inbox.inside.offset c.inbox.inside.held.items c.receive.new.held.items _ _ _ _ (IsBadFrame c.args.limits.now) c.inbox.view_is
    (λ rest. bad_frame_lifts c.args.limits.now c.receive.new.held.items rest c.in-BadFrame.ensures.read.1) (omega (arith, c.requires.within, c.len.ensures, ap (λ (s : InboxState). s.offset) c.inbox.view_is, ap (λ (s : InboxState). length s.held) c.inbox.view_is)) c.in-BadFrame.ensures.read.0

pub returns-in-BadCoding-clause-next : goal.returns-in-BadCoding-clause-next
returns-in-BadCoding-clause-next g c = faulty c.args.limits.now c.args.inbox.now c.inbox.inside.offset c.inbox.inside.held.items c.receive.new.held.items _ _ _ _ (IsBadCoding c.args.limits.now) c.inbox.view_is
    (λ rest. bad_coding_lifts c.args.limits.now c.receive.new.held.items rest c.in-BadCoding.ensures.read.1) (omega (arith, c.requires.within, c.len.ensures, ap (λ (s : InboxState). s.offset) c.inbox.view_is, ap (λ (s : InboxState). length s.held) c.inbox.view_is)) c.in-BadCoding.ensures.read.0

pub returns-in-LargeHead-clause-next : goal.returns-in-LargeHead-clause-next
returns-in-LargeHead-clause-next g c = faulty c.args.limits.now c.args.inbox.now c.inbox.inside.offset c.inbox.inside.held.items c.receive.new.held.items _ _ _ _ (IsLargeHead c.args.limits.now) c.inbox.view_is
    (λ rest. large_lifts c.args.limits.now c.receive.new.held.items rest c.in-LargeHead.ensures.read.1) (omega (arith, c.requires.within, c.len.ensures, ap (λ (s : InboxState). s.offset) c.inbox.view_is, ap (λ (s : InboxState). length s.held) c.inbox.view_is)) c.in-LargeHead.ensures.read.0

pub returns-in-LargeBody-clause-next : goal.returns-in-LargeBody-clause-next
returns-in-LargeBody-clause-next g c = faulty c.args.limits.now c.args.inbox.now c.inbox.inside.offset c.inbox.inside.held.items c.receive.new.held.items _ _ _ _ (IsLargeBody c.args.limits.now) c.inbox.view_is
    (λ rest. large_body_lifts c.args.limits.now c.receive.new.held.items rest c.in-LargeBody.ensures.read.1) (omega (arith, c.requires.within, c.len.ensures, ap (λ (s : InboxState). s.offset) c.inbox.view_is, ap (λ (s : InboxState). length s.held) c.inbox.view_is)) c.in-LargeBody.ensures.read.0

pub returns-in-Ended-clause-next : goal.returns-in-Ended-clause-next
returns-in-Ended-clause-next g c = ended_next c.args.limits.now c.args.inbox.now _ c.inbox.inside.offset c.inbox.inside.held.items c.receive.new.held.items _ _ _ _ c.end_of.result c.inbox.view_is refl
    (omega (arith, c.requires.within, c.len.ensures, ap (λ (s : InboxState). s.offset) c.inbox.view_is, ap (λ (s : InboxState). length s.held) c.inbox.view_is)) c.in-Ended.ensures.read.0 c.in-Ended.ensures.read.1 c.in-Ended.ensures.read.2 (subst (λ xs. IsEnded xs c.receive.new.cap c.inbox.inside.offset c.end_of.result) c.as_slice.ensures.value c.end_of.ensures)

pub returns-in-Whole-clause-next : goal.returns-in-Whole-clause-next
returns-in-Whole-clause-next g c = whole_next c.args.limits.now c.args.inbox.now c.inbox.inside.offset _ c.inbox.inside.held.items c.receive.new.held.items _ _ _ _ c.in-Whole.head _ c.new.result c.inbox.view_is c.new.ensures
    (omega (arith, c.requires.within, c.len.ensures, ap (λ (s : InboxState). s.offset) c.inbox.view_is, ap (λ (s : InboxState). length s.held) c.inbox.view_is)) (omega (arith, c.in-Whole.ensures.read.0, c.requires.within, c.len.ensures, c.len-in-Whole.ensures, ap (λ (s : InboxState). s.offset) c.inbox.view_is, ap (λ (s : InboxState). length s.held) c.inbox.view_is)) c.in-Whole.ensures.read.2
