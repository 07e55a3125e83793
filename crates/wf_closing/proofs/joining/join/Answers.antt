use Rattle.std.proofs.Common.{◌≡◌, ◌∙◌, sym, ap, map, Some}
use Rattle.wf_doc.specs.declared.doc.Doc.TheVariants.{Table}
use Rattle.wf_machine.specs.Sight.{seen}
use Rattle.wf_rules.specs.Rules.{joined, last_place}
use Rattle.wf_rules.specs.Sight.{sight}
use Rattle.wf_setting.specs.Setting.{Setting, sight_in}
use Rattle.wf_closing.specs.Closing.{joined_fields}
use Rattle.wf_closing.proofs.EndLemmas.{join_output_is}
use Rattle.wf_closing.proofs.joining.join.Goals as goal

pub returns-in_ok-joined-in-Some : goal.returns-in_ok-joined-in-Some
unfolding sight
returns-in_ok-joined-in-Some g c =
    let s = sight_in c.args.at.now c.args.flow.now.flow in
    let place = c.in-Some.place in
    let there : last_place (map seen c.args.flow.now.flow.attempts) c.args.index c.args.iteration ≡ Some place = sym c.last_place.ensures ∙ c.in-Some.is in
    let fields = joined_fields (map seen c.args.flow.now.flow.attempts) c.args.flow.now.flow.def.nodes c.args.index c.args.iteration in
    rw there
    (ap Some
    (c.in_ok-joined-in-Some.ensures
    ∙ ap (λ fs. joined c.at.inside.limits.now (Table fs) place) c.in_ok-outputs-in-Some.ensures
    ∙ ap (λ (a : Setting). joined a.limits (Table fields) place) c.at.view_is
    ∙ ap (λ d. joined c.args.at.now.limits d place) (sym (join_output_is s c.args.index c.args.iteration))))
