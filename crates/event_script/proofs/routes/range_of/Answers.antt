use Rattle.std.proofs.Common.{rules, tests}
use Rattle.std.proofs.lemmas.Iterator.{YieldsList-from_slice}
use Rattle.std.proofs.lemmas.Iterator.Search.{find_from_yields_List}
use Rattle.its_plain.specs.Doorbells.{is_among}
use Rattle.event_script.proofs.routes.range_of.Goals as goal

pub returns : goal.returns
returns c =
    find_from_yields_List (is_among c.args.req) _ _ _ c.find.ensures.ran (YieldsList-from_slice c.args.requesters.now cc) (λ x b q k. search (rules, tests))
