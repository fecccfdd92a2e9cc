use Rattle.std.proofs.Common.{rules, tests, sym, ap, ◌∙◌}
use Rattle.std.specs.Prelude.{nat_lt}
use Rattle.std.specs.List.{list_any}
use Rattle.std.proofs.lemmas.Iterator.{YieldsList-from_slice}
use Rattle.std.proofs.lemmas.Iterator.Search.{any_from_yields_List}
use Rattle.its_maps.specs.Counting.{named}
use Rattle.its_maps.proofs.Totals.{any_sum}
use Rattle.its_maps.proofs.Tallied.{is_of}
use Rattle.its_maps.proofs.tally.Tally.has.Goals as goal

pub returns-in-Few : goal.returns-in-Few
returns-in-Few c =
    let found = any_from_yields_List (is_of c.args.icid.0) _ _ c.any.result c.any.ensures.ran (YieldsList-from_slice c.deref.result.now cc)
    (λ x b q k. search (rules, tests)) in
    found ∙ ap (list_any (is_of c.args.icid.0)) c.deref.ensures.value
    ∙ any_sum (is_of c.args.icid.0) c.in-Few.icids.items
    ∙ ap (λ t. nat_lt 0 (named t c.args.icid.0)) (sym c.in-Few.is)
