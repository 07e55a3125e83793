use Rattle.std.proofs.Common.{refl}
use Rattle.wf_commands.proofs.check.standard_limits.Goals as goal

pub returns : goal.returns
returns c = record { body = refl; head = refl; fields = refl; depth = refl; nodes = refl; attempts = refl; flows = refl; batch = refl; document = refl; nesting = refl; input = refl }
