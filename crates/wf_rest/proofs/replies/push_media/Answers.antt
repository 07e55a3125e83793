use Rattle.std.proofs.Common.{append_assoc}
use Rattle.wf_rest.proofs.replies.push_media.Goals as goal

pub returns : goal.returns
returns c =
    simp (c.in_ok-push_str-3.ensures.bytes, c.in_ok-push_str-2.ensures.bytes, c.in_ok-push_str.ensures.bytes, append_assoc)
