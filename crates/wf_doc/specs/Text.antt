-- The bytes of a text, as what holds it shows them.
use Rattle.std.specs.Prelude.{ℕ, List, string_bytes}
use Rattle.wf_doc.specs.declared.text.Held.{Held}
use Rattle.wf_doc.specs.declared.text.Held.TheVariants.{Own, Shared}

abbrev pub held_bytes : Held → List ℕ
held_bytes (Own text) = string_bytes text
held_bytes (Shared text) = string_bytes text.value
