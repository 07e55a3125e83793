-- What the decoder says of a parameter's text.
use Rattle.std.proofs.Common.{◌≡◌, ℕ, List, Some, None, IsUtf8, Bool, true, false, cond, refl, sym, ap, ◌∙◌}
use Rattle.std.specs.Str.{is_utf8}
use Rattle.std.proofs.lemmas.Str.{is_utf8-from_IsUtf8, IsUtf8-from_is_utf8}
use Rattle.percent_encoding.specs.Percent.{percent_decode}
use Rattle.wf_routes.specs.Target.{parameter_text}

pub parameter-some : (segment decoded text : List ℕ) → text ≡ decoded → decoded ≡ percent_decode segment → IsUtf8 decoded → Some text ≡ parameter_text segment
unfolding parameter_text
parameter-some segment decoded text same made utf8 =
    let valid : is_utf8 (percent_decode segment) ≡ true = ap is_utf8 (sym made) ∙ is_utf8-from_IsUtf8 decoded utf8 in
    rw valid (ap Some (same ∙ made))

pub parameter-none : (segment decoded : List ℕ) → decoded ≡ percent_decode segment → (IsUtf8 decoded → ⊥) → None ≡ parameter_text segment
unfolding parameter_text
parameter-none segment decoded made invalid = by (is_utf8 (percent_decode segment)) refl
  where
    by : (v : Bool) → is_utf8 (percent_decode segment) ≡ v → None ≡ cond v (Some (percent_decode segment)) None
    by true valid = absurd (invalid (IsUtf8-from_is_utf8 decoded (ap is_utf8 made ∙ valid)))
    by false is = refl
