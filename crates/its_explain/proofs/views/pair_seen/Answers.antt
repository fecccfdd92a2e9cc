use Rattle.std.proofs.Common.{Option, None, sym, ap, ◌∙◌}
use Rattle.std.specs.FinMap.{get-empty}
use Rattle.std.specs.Ordering.{nat_cmp}
use Rattle.call_facts.specs.Pairs.{pair_state, target_of}
use Rattle.call_facts.specs.declared.pairs.PairState.{PairState}
use Rattle.its_plain.specs.Plain.{Translator}
use Rattle.its_types.specs.Maps.{event_of, no_maps, pair_cmp}
use Rattle.its_types.specs.declared.translation.Device.{Device}
use Rattle.its_types.specs.declared.translation.Event.{Event}
use Rattle.its_explain.proofs.Lent.{lent_is, lent_is_none}
use Rattle.its_explain.proofs.views.pair_seen.Goals as goal

pub returns-in-Some : goal.returns-in-Some
returns-in-Some c =
    c.pair_state.ensures
    ∙ ap (λ (x : Translator). pair_state x.maps c.args.dev.0 c.args.ev.0)
    (sym
    (lent_is c.args.parts.now c.in_place.result c.args.its c.translator.result c.in_place.ensures.state c.translator.ensures c.in-Some.translator
    c.in-Some.is))

abbrev of_both : Option Device → Option Event → PairState
of_both d e = record { device = d; event = e; target = target_of no_maps e }

pub returns-in-None : goal.returns-in-None
returns-in-None c =
    sym
    (ap (λ (x : Translator). pair_state x.maps c.args.dev.0 c.args.ev.0)
    (lent_is_none c.args.parts.now c.in_place.result c.args.its c.translator.result c.in_place.ensures.state c.translator.ensures c.in-None.is)
    ∙ ap (λ (d : Option Device). of_both d (event_of no_maps c.args.dev.0 c.args.ev.0)) (get-empty nat_cmp c.args.dev.0)
    ∙ ap (of_both None) (get-empty pair_cmp (c.args.dev.0, c.args.ev.0)))
