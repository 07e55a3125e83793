use Rattle.std.proofs.Common.{◌≡◌, ap}
use Rattle.wf_rules.specs.Sight.{sight}
use Rattle.wf_setting.specs.Setting.{Setting}
use Rattle.wf_setting.proofs.filling.fill_in.Goals as goal

pub returns : goal.returns
unfolding sight
returns g c =
    let limits : c.at.inside.limits.now ≡ c.args.at.now.limits = ap (λ (s : Setting). s.limits) c.at.view_is in
    let mark : c.at.inside.mark ≡ c.args.at.now.scene.mark = ap (λ (s : Setting). s.scene.mark) c.at.view_is in
    rw (limits, mark) at c.fill_told.ensures
