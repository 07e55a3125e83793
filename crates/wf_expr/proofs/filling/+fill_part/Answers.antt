use Rattle.std.proofs.Common.{◌≡◌, ◌∙◌, ◌+◌, ap, sym, suc, refl, arith, length, map, take}
use Rattle.std.specs.List.{sum_by}
use Rattle.std.proofs.lemmas.List.{take_all}
use Rattle.std.proofs.lemmas.Result.{err_from_is_err_and}
use Rattle.json.specs.Print.{quoted}
use Rattle.wf_doc.specs.Doc.{largest}
use Rattle.wf_doc.specs.Fields.{entry}
use Rattle.wf_doc.specs.declared.doc.Doc as doc
use Rattle.wf_doc.proofs.DocLemmas.{most_more}
use Rattle.wf_expr.specs.Filling.{filled, filled_entry}
use Rattle.wf_expr.proofs.FillLemmas.{entry_depth, entry_length, frame, frame_too_large, front_too_large, item_depth, item_length, list_depth, list_length, made_more, ordered_filled, part_too_large, sum_more, table_depth, table_length}
use Rattle.wf_expr.proofs.filling.+fill_part.Goals as goal

-- ---- lists

pub fill_items-returns-in_err-inner-clause-large : goal.fill_items-returns-in_err-inner-clause-large
fill_items-returns-in_err-inner-clause-large g t c =
    let names = g.S.Scope.names c.args.scope.now in
    let items = c.args.items.now in
    let p = err_from_is_err_and c.from_residual.result c.from_residual.ensures.1 in
    rw (p.1, p.2)
    (λ large. frame_too_large (item_length names) (item_depth names) items (doc.List (map (filled names) items)) c.len.result c.args.room.now.bytes c.args.levels (list_length names items) (list_depth names items) c.len.ensures
    c.in_err-inner.ensures.large.1)

pub fill_items-returns-in_err-fill_part-clause-large : goal.fill_items-returns-in_err-fill_part-clause-large
fill_items-returns-in_err-fill_part-clause-large g t c =
    let names = g.S.Scope.names c.args.scope.now in
    let items = c.args.items.now in
    let xs = c.as_slice-item-items.result.now in
    let x = c.item-item.result in
    let same = c.loop-item.invariant.items in
    let p = err_from_is_err_and c.from_residual-in_err-fill_part.result c.from_residual-in_err-fill_part.ensures.1 in
    rw (p.1, p.2)
    (λ large. part_too_large (item_length names) (item_depth names) xs c.loop-item.item-index x (filled names x) (doc.List (map (filled names) items)) c.loop-item.room.bytes c.args.room.now.bytes c.in_ok-inner.inner c.args.levels
    c.loop-item-test.true c.item-item.is
    (list_length names items ∙ ap (λ ys. sum_by (item_length names) ys + frame (length ys)) (sym same))
    (list_depth names items ∙ ap (λ ys. suc (largest (map (item_depth names) ys))) (sym same))
    (omega arith) refl (omega (arith, c.loop-item.invariant.left)) c.in_ok-inner.ensures.inner (c.in_err-fill_part.ensures.large large))

pub fill_items-loop-item-preserved : goal.fill_items-loop-item-preserved
fill_items-loop-item-preserved g t c =
    let names = g.S.Scope.names c.args.scope.now in
    let xs = c.as_slice-item-items.result.now in
    let x = c.item-item.result in
    record {
      made = made_more (filled names) xs c.loop-item.item-index x c.loop-item.made c.push.new.self c.in_ok-fill_part.field-0 c.loop-item-test.true c.item-item.is c.loop-item.invariant.made c.in_ok-fill_part.ensures.made
          c.in_ok-push.ensures.ok;
      items = c.loop-item.invariant.items;
      left = omega (arith, c.loop-item.invariant.left, c.in_ok-fill_part.ensures.taken, sum_more (item_length names) xs c.loop-item.item-index x c.loop-item-test.true c.item-item.is);
      deep = omega (arith, c.loop-item.invariant.deep, c.in_ok-fill_part.ensures.levels, most_more (item_depth names) xs c.loop-item.item-index x c.loop-item-test.true c.item-item.is);
    }

pub fill_items-returns-clause-taken : goal.fill_items-returns-clause-taken
fill_items-returns-clause-taken g t c =
    let names = g.S.Scope.names c.args.scope.now in
    let xs = c.as_slice-item-items.result.now in
    let all = take_all c.loop-item.item-index xs (omega (arith, c.loop-item-test.false)) ∙ c.loop-item.invariant.items in
    let count : length xs ≡ length c.args.items.now = ap length c.loop-item.invariant.items in
    let total : sum_by (item_length names) (take c.loop-item.item-index xs) ≡ sum_by (item_length names) c.args.items.now = ap (sum_by (item_length names)) all in
    omega (arith, c.loop-item.invariant.left, list_length names c.args.items.now, total, count)

pub fill_items-returns-clause-levels : goal.fill_items-returns-clause-levels
fill_items-returns-clause-levels g t c =
    let names = g.S.Scope.names c.args.scope.now in
    let xs = c.as_slice-item-items.result.now in
    let all = take_all c.loop-item.item-index xs (omega (arith, c.loop-item-test.false)) ∙ c.loop-item.invariant.items in
    let most : largest (map (item_depth names) (take c.loop-item.item-index xs)) ≡ largest (map (item_depth names) c.args.items.now) = ap (λ ys. largest (map (item_depth names) ys)) all in
    omega (arith, c.loop-item.invariant.deep, list_depth names c.args.items.now, most, c.in_ok-inner.ensures.inner)

-- ---- tables

pub fill_fields-returns-in_err-inner-clause-large : goal.fill_fields-returns-in_err-inner-clause-large
fill_fields-returns-in_err-inner-clause-large g t c =
    let names = g.S.Scope.names c.args.scope.now in
    let fields = c.args.fields.now in
    let p = err_from_is_err_and c.from_residual.result c.from_residual.ensures.1 in
    rw (p.1, p.2)
    (λ large. frame_too_large (entry_length names) (entry_depth names) fields (doc.Table (map (filled_entry names) fields)) c.len.result c.args.room.now.bytes c.args.levels (table_length names fields) (table_depth names fields)
    c.len.ensures c.in_err-inner.ensures.large.1)

pub fill_fields-returns-in_err-take_key-clause-large : goal.fill_fields-returns-in_err-take_key-clause-large
fill_fields-returns-in_err-take_key-clause-large g t c =
    let names = g.S.Scope.names c.args.scope.now in
    let fields = c.args.fields.now in
    let xs = c.entries-entry-items.result.now in
    let x = c.entry-item.result in
    let same = c.loop-entry.invariant.items in
    let key = c.as_bytes.ensures.value ∙ c.as_str.ensures.bytes ∙ c.key.ensures in
    let size : length (quoted c.as_bytes.result.now) ≡ length (quoted x.key) = ap (λ k. length (quoted k)) key in
    let p = err_from_is_err_and c.from_residual-in_err-take_key.result c.from_residual-in_err-take_key.ensures.1 in
    rw (p.1, p.2)
    (λ large. front_too_large (entry_length names) xs c.loop-entry.entry-index x (doc.Table (map (filled_entry names) fields)) (length (quoted x.key) + 1) c.loop-entry.room.bytes c.args.room.now.bytes c.args.levels
    c.loop-entry-test.true c.entry-item.is
    (table_length names fields ∙ ap (λ ys. sum_by (entry_length names) ys + frame (length ys)) (sym same))
    (omega arith) (omega (arith, c.in_err-take_key.ensures.large.1, size)) c.loop-entry.invariant.left)

pub fill_fields-returns-in_err-fill_part-clause-large : goal.fill_fields-returns-in_err-fill_part-clause-large
fill_fields-returns-in_err-fill_part-clause-large g t c =
    let names = g.S.Scope.names c.args.scope.now in
    let fields = c.args.fields.now in
    let xs = c.entries-entry-items.result.now in
    let x = c.entry-item.result in
    let same = c.loop-entry.invariant.items in
    let key = c.as_bytes.ensures.value ∙ c.as_str.ensures.bytes ∙ c.key.ensures in
    let size : length (quoted c.as_bytes.result.now) ≡ length (quoted x.key) = ap (λ k. length (quoted k)) key in
    let wide : item_length names c.value.result.now ≡ item_length names x.value = ap (item_length names) c.value.ensures in
    let p = err_from_is_err_and c.from_residual-in_err-fill_part.result c.from_residual-in_err-fill_part.ensures.1 in
    rw (p.1, p.2)
    (λ large. part_too_large (entry_length names) (entry_depth names) xs c.loop-entry.entry-index x (filled names c.value.result.now) (doc.Table (map (filled_entry names) fields)) c.take_key.new.self.bytes c.args.room.now.bytes
    c.in_ok-inner.inner c.args.levels c.loop-entry-test.true c.entry-item.is
    (table_length names fields ∙ ap (λ ys. sum_by (entry_length names) ys + frame (length ys)) (sym same))
    (table_depth names fields ∙ ap (λ ys. suc (largest (map (entry_depth names) ys))) (sym same))
    (omega (arith, wide)) (ap (item_depth names) c.value.ensures) (omega (arith, c.loop-entry.invariant.left, c.in_ok-take_key.ensures.taken, size, wide)) c.in_ok-inner.ensures.inner (c.in_err-fill_part.ensures.large large))

pub fill_fields-add_last-requires : goal.fill_fields-add_last-requires
fill_fields-add_last-requires g t c =
    let names = g.S.Scope.names c.args.scope.now in
    ordered_filled names c.args.fields.now c.entries-entry-items.result.now c.loop-entry.made c.loop-entry.entry-index c.entry-item.result (entry c.in_ok-key.key c.in_ok-fill_part.field-0) c.loop-entry.invariant.rises
    c.loop-entry.invariant.items c.loop-entry.invariant.made c.loop-entry-test.true c.entry-item.is (c.in_ok-key.ensures ∙ c.key-in-loop-entry.ensures)

pub fill_fields-loop-entry-preserved : goal.fill_fields-loop-entry-preserved
fill_fields-loop-entry-preserved g t c =
    let names = g.S.Scope.names c.args.scope.now in
    let xs = c.entries-entry-items.result.now in
    let x = c.entry-item.result in
    let key = c.as_bytes.ensures.value ∙ c.as_str.ensures.bytes ∙ c.key.ensures in
    let size : length (quoted c.as_bytes.result.now) ≡ length (quoted x.key) = ap (λ k. length (quoted k)) key in
    let wide : item_length names c.value.result.now ≡ item_length names x.value = ap (item_length names) c.value.ensures in
    record {
      made = made_more (filled_entry names) xs c.loop-entry.entry-index x c.loop-entry.made c.add_last.new.self (entry c.in_ok-key.key c.in_ok-fill_part.field-0) c.loop-entry-test.true c.entry-item.is c.loop-entry.invariant.made
          (λ i. entry ((c.in_ok-key.ensures ∙ c.key-in-loop-entry.ensures) i) ((c.in_ok-fill_part.ensures.made ∙ ap (filled names) c.value.ensures) i)) c.in_ok-add_last.ensures.ok;
      items = c.loop-entry.invariant.items;
      rises = c.loop-entry.invariant.rises;
      left = omega (arith, c.loop-entry.invariant.left, c.in_ok-take_key.ensures.taken, c.in_ok-fill_part.ensures.taken, size, wide, sum_more (entry_length names) xs c.loop-entry.entry-index x c.loop-entry-test.true c.entry-item.is);
      deep = omega (arith, c.loop-entry.invariant.deep, c.in_ok-fill_part.ensures.levels, ap (item_depth names) c.value.ensures, most_more (entry_depth names) xs c.loop-entry.entry-index x c.loop-entry-test.true c.entry-item.is);
    }

pub fill_fields-returns-clause-taken : goal.fill_fields-returns-clause-taken
fill_fields-returns-clause-taken g t c =
    let names = g.S.Scope.names c.args.scope.now in
    let xs = c.entries-entry-items.result.now in
    let all = take_all c.loop-entry.entry-index xs (omega (arith, c.loop-entry-test.false)) ∙ c.loop-entry.invariant.items in
    let count : length xs ≡ length c.args.fields.now = ap length c.loop-entry.invariant.items in
    let total : sum_by (entry_length names) (take c.loop-entry.entry-index xs) ≡ sum_by (entry_length names) c.args.fields.now = ap (sum_by (entry_length names)) all in
    omega (arith, c.loop-entry.invariant.left, table_length names c.args.fields.now, total, count)

pub fill_fields-returns-clause-levels : goal.fill_fields-returns-clause-levels
fill_fields-returns-clause-levels g t c =
    let names = g.S.Scope.names c.args.scope.now in
    let xs = c.entries-entry-items.result.now in
    let all = take_all c.loop-entry.entry-index xs (omega (arith, c.loop-entry-test.false)) ∙ c.loop-entry.invariant.items in
    let most : largest (map (entry_depth names) (take c.loop-entry.entry-index xs)) ≡ largest (map (entry_depth names) c.args.fields.now) = ap (λ ys. largest (map (entry_depth names) ys)) all in
    omega (arith, c.loop-entry.invariant.deep, table_depth names c.args.fields.now, most, c.in_ok-inner.ensures.inner)
