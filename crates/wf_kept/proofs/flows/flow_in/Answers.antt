use Rattle.std.proofs.Common.{arith, ◌≡◌, ◌∙◌, option_map, slice_get, sym, ap}
use Rattle.std.specs.Option.{option_copied}
use Rattle.std.proofs.lemmas.Option.{gets, slice_get-map}
use Rattle.std.proofs.lemmas.Grind.{common_steps}
use Rattle.wf_kept.specs.Flows.{flow_number, kept}
use Rattle.wf_kept.proofs.SearchLemmas.{found_at}
use Rattle.wf_kept.proofs.flows.flow_in.Goals as goal

pub returns-in-Some : goal.returns-in-Some
returns-in-Some c =
    let got : option_copied c.get.result ≡ slice_get c.args.flows.now c.in-Some.place = grind (arith, common_steps, gets) in
    ap (option_map kept) got
    ∙ sym (slice_get-map kept c.args.flows.now c.in-Some.place)
    ∙ found_at flow_number 1 c.requires.0 c.args.number.0 _ c.in-Some.place c.requires.1 c.in-Some.ensures.some
