use Rattle.std.proofs.Common.{sym, subst, refl}
use Rattle.wf_limits.specs.Hands.{IsFirstAt}
use Rattle.wf_limits.proofs.Lookups.{moments_first, count_first, writes_first}
use Rattle.wf_limits.proofs.plain.PlainHands.note.Goals as goal

pub returns : goal.returns
returns c = rw (c.in_ok-note.ensures.ok, moments_first _ _ c.self.view_is _ _ (subst (λ hs. IsFirstAt hs c.args.name.now c.in-Some.place) (sym c.self.view_is) c.in-Some.ensures.found) _ _ c.index_mut.ensures.value, count_first _ _ c.self.view_is _ _ (subst (λ hs. IsFirstAt hs c.args.name.now c.in-Some.place) (sym c.self.view_is) c.in-Some.ensures.found) _ _ c.index_mut.ensures.value) (writes_first _ _ c.self.view_is _ _ (subst (λ hs. IsFirstAt hs c.args.name.now c.in-Some.place) (sym c.self.view_is) c.in-Some.ensures.found) _ _ c.index_mut.ensures.value _ refl)
