use Rattle.std.proofs.Common.{◌≡◌, ◌++◌, take, drop}
use Rattle.wf_doc.specs.Fields.{put}
use Rattle.wf_doc.proofs.fields.place.Given as goal

abbrev pub invariant-loop-i : goal.invariant-loop-i
invariant-loop-i g l = (v : g.row.T.Denot) → put l.key v l.items ≡ take l.i l.items ++ put l.key v (drop l.i l.items)
