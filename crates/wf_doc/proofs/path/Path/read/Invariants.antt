use Rattle.std.proofs.Common.{◌≡◌, ◌++◌, length, option_map}
use Rattle.std.specs.Str.{IsUtf8}
use Rattle.wf_doc.specs.Path.{path_of, all_steps, pieces}
use Rattle.wf_doc.proofs.path.Path.read.Given as goal

abbrev pub invariant-pieces : goal.invariant-pieces
invariant-pieces l = (path_of l.text ≡ option_map (λ more. l.steps ++ more) (all_steps (pieces l.sign l.rest))) × IsUtf8 l.rest

abbrev pub decreases-pieces : goal.decreases-pieces
decreases-pieces l = length l.rest
