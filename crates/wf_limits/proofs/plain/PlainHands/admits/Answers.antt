use Rattle.std.proofs.Common.{sym, subst}
use Rattle.wf_limits.specs.Hands.{IsFirstAt}
use Rattle.wf_limits.proofs.Lookups.{moments_first, count_first}
use Rattle.wf_limits.proofs.plain.PlainHands.admits.Goals as goal

pub returns-in-Some : goal.returns-in-Some
returns-in-Some c = rw (moments_first _ _ c.self.view_is _ _ (subst (λ hs. IsFirstAt hs c.args.name.now c.in-Some.place) (sym c.self.view_is) c.in-Some.ensures.found) _ _ c.index.ensures, count_first _ _ c.self.view_is _ _ (subst (λ hs. IsFirstAt hs c.args.name.now c.in-Some.place) (sym c.self.view_is) c.in-Some.ensures.found) _ _ c.index.ensures) c.admits.ensures
