use Rattle.std.proofs.Common.{◌++◌, Err, ap, sym, ◌∙◌}
use Rattle.std.specs.Prelude.{find}
use Rattle.std.proofs.lemmas.Result.{err_from_is_err_and}
use Rattle.its_plain.specs.Regions.{is_outside, none_overlap}
use Rattle.table_save.specs.Areas.{all_areas}
use Rattle.table_save.specs.Checked.{outside_fault}
use Rattle.table_save.specs.Fits.{tables_of, queues_of}
use Rattle.table_save.proofs.Tested.{when_outside, when_unplaced, when_placed}
use Rattle.table_save.proofs.saving.savable_in.Goals as goal

pub returns-in_err-all_inside : goal.returns-in_err-all_inside
returns-in_err-all_inside c =
    let parts = c.args.parts.now in
    let p = err_from_is_err_and c.from_residual.result c.from_residual.ensures.1 in
    let tables = c.add_tables.ensures.items ∙ ap (λ ts. ts ++ tables_of parts) c.clear.ensures.items in
    let met = ap (λ ts. outside_fault (find (is_outside parts.memory.now) ts)) (sym (c.as_slice.ensures ∙ tables)) ∙ sym c.all_inside.ensures
    ∙ c.in_err-all_inside.was ∙ ap Err (sym p.2) in
    p.1 ∙ sym (when_outside parts p.0 met)

pub returns-in_err-all_placed : goal.returns-in_err-all_placed
returns-in_err-all_placed c =
    let parts = c.args.parts.now in
    let p = err_from_is_err_and c.from_residual-in_err-all_placed.result c.from_residual-in_err-all_placed.ensures.1 in
    let tables = c.add_tables.ensures.items ∙ ap (λ ts. ts ++ tables_of parts) c.clear.ensures.items in
    let inside = ap (λ ts. outside_fault (find (is_outside parts.memory.now) ts)) (sym (c.as_slice.ensures ∙ tables)) ∙ sym c.all_inside.ensures
    ∙ c.in_ok-all_inside.was in
    let met = sym c.all_placed.ensures ∙ c.in_err-all_placed.was ∙ ap Err (sym p.2) in
    p.1 ∙ sym (when_unplaced parts p.0 inside met)

pub returns : goal.returns
returns c =
    let parts = c.args.parts.now in
    let tables = c.add_tables.ensures.items ∙ ap (λ ts. ts ++ tables_of parts) c.clear.ensures.items in
    let inside = ap (λ ts. outside_fault (find (is_outside parts.memory.now) ts)) (sym (c.as_slice.ensures ∙ tables)) ∙ sym c.all_inside.ensures
    ∙ c.in_ok-all_inside.was in
    let placed = sym c.all_placed.ensures ∙ c.in_ok-all_placed.was in
    let areas = c.as_slice-2.ensures ∙ c.add_others.ensures.items
    ∙ ap (λ ts. all_areas ts parts.layout.now (queues_of parts) parts.redists.now) tables in
    c.none_overlap.ensures.answer ∙ ap none_overlap areas ∙ sym (when_placed parts inside placed)
