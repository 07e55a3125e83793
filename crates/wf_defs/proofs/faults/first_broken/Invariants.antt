use Rattle.std.proofs.Common.{◌≡◌, drop, map, option_map}
use Rattle.wf_defs.specs.Faults.{first_broken}
use Rattle.wf_defs.proofs.faults.first_broken.Given as goal

abbrev pub invariant-loop-rule : goal.invariant-loop-rule
invariant-loop-rule l =
    first_broken (map (λ r. (r.0, option_map (λ place. place.now) r.1)) (drop l.rule-index l.rules)) ≡ first_broken (map (λ r. (r.0, option_map (λ place. place.now) r.1)) l.rules)
