use Rattle.std.proofs.Common.{◌∙◌}
use Rattle.wf_doc.proofs.JsonLemmas.{goes_from, goes_last, goes_more}
use Rattle.wf_doc.proofs.from_json.+from.Goals as goal

pub from_map-loop-key-init : goal.from_map-loop-key-init
from_map-loop-key-init t c = goes_from _ _ _ (c.into_iter-key-iterator.ensures.into_iter_gives ∙ c.iter-key-items.ensures.rest) c.new-made.ensures c.iter-key-items.ensures.ordered

pub from_map-add_last-requires : goal.from_map-add_last-requires
from_map-add_last-requires t c = goes_last c.args.map.now.entries c.next.new.self c.loop-key.made (c.in-Some.key.now, c.in-Some.value.now) c.loop-key.key-iterator _ _ c.in-Some.ensures.steps (c.in_ok-key.ensures ∙ c.as_str.ensures.value) c.loop-key.invariant

pub from_map-loop-key-preserved : goal.from_map-loop-key-preserved
from_map-loop-key-preserved t c = goes_more c.args.map.now.entries c.next.new.self c.loop-key.made c.add_last.new.self (c.in-Some.key.now, c.in-Some.value.now) c.loop-key.key-iterator _ _ c.in-Some.ensures.steps (c.in_ok-key.ensures ∙ c.as_str.ensures.value)
    c.in_ok-from_value.ensures.ok c.in_ok-add_last.ensures.ok c.loop-key.invariant
