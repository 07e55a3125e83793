-- Bytes that went from a source to those that are held.
use Rattle.std.proofs.Common.{◌≡◌, ◌∙◌, ℕ, suc, ◌<◌, List, [], ◌++◌, length, drop, sym, ap, arith, length-append, Option}
use Rattle.std.proofs.Math.Seq.{drop-append_seam}
use Rattle.wf_commands.specs.Inputs.{Told, Moved}

-- where more bytes are held than may be, the input is too long
pub long : (most : ℕ) (held : List ℕ) (L M : Option (List ℕ)) → Moved [] L held M → length held ≡ suc most
    → Told L M (λ input rest. (most < length input) × (rest ≡ drop (suc most) input))
long most held L M moved full = λ input told. let p = moved input told in
    let left : p.0 ≡ drop (suc most) input = sym (drop-append_seam held p.0) ∙ ap (λ k. drop k (held ++ p.0)) full ∙ ap (drop (suc most)) p.1.1 in
    (p.0, (p.1.0, (omega (arith, full, ap length p.1.1, length-append held p.0), left)))
