use Rattle.std.proofs.Common.{◌≡◌, ap, ◌∙◌}
use Rattle.percent_encoding.specs.Percent.{percent_decode}
use Rattle.percent_encoding.specs.declared.DecodeError.TheVariants.{OutOfMemory}
use Rattle.wf_routes.proofs.ParameterLemmas.{parameter-some, parameter-none}
use Rattle.wf_routes.proofs.target.decode_parameter.Goals as goal

pub returns-in_ok-into_owned-in-Ok : goal.returns-in_ok-into_owned-in-Ok
returns-in_ok-into_owned-in-Ok c =
    parameter-some c.args.segment.now _ _ (c.in_ok-into_owned-in-Ok.ensures.ok ∙ c.in-Ok.ensures.value)
    (c.percent_decode.ensures.bytes ∙ ap percent_decode c.as_bytes.ensures.value) c.in-Ok.ensures.ok_only_if_utf8

pub returns-in-Err-Utf8 : goal.returns-in-Err-Utf8
returns-in-Err-Utf8 c =
    parameter-none c.args.segment.now _ (c.percent_decode.ensures.bytes ∙ ap percent_decode c.as_bytes.ensures.value)
    (λ utf8. let memory : c.in-Err-Utf8.field-0 ≡ OutOfMemory = c.in-Err-Utf8.ensures.utf8 utf8 in
    let fault = c.in-Err-Utf8.field-0-is in cc)
