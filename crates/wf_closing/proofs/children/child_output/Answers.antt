use Rattle.std.proofs.Common.{◌≡◌, ◌∙◌, ap}
use Rattle.wf_machine.specs.Documents.{flow_id}
use Rattle.wf_closing.proofs.children.child_output.Goals as goal

pub returns : goal.returns
returns c =
    let id : c.in_ok-id.id ≡ flow_id c.args.mark c.args.child.now.flow = c.in_ok-id.ensures ∙ ap (λ number. flow_id c.args.mark number) c.number.ensures.value in
    let output : c.in_ok-output.output ≡ c.args.child.now.output = c.in_ok-output.ensures ∙ c.output.ensures in
    simp (id, output) at c.with_key.ensures
