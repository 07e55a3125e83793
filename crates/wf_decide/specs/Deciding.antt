-- What one rule does to a turn.
use Rattle.std.specs.Prelude.{◌≡◌, ℕ, Bool, true, false, None, Some}
use Rattle.wf_wire.specs.declared.limits.Limits.{Limits}
use Rattle.wf_rules.specs.Acts.{Turn}
use Rattle.wf_rules.specs.Rules.{rule}
use Rattle.wf_rules.specs.Sight.{Scene}

-- a rule applied and left the new turn, or none applies
abbrev pub Steps : Limits → Scene → ℕ → ℕ → Turn → Turn → Bool → Type 0
Steps limits scene kept e old new true = rule limits scene kept e old ≡ Some new
Steps limits scene kept e old new false = (rule limits scene kept e old ≡ None) × (new ≡ old)
