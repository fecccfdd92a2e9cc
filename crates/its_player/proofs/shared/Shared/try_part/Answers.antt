use Rattle.std.proofs.Common.{◌≡◌, suc, ◌-◌, get_or, arith, sym, ap, ◌∙◌}
use Rattle.std.proofs.lemmas.Grind.{get_or_default_zero}
use Rattle.its_player.specs.Shared.{core_of}
use Rattle.its_player.specs.Held.{holds}
use Rattle.its_player.proofs.Seats.{ok_more}
use Rattle.its_player.proofs.Slots.{holds_already, tries_missed, tries_got}
use Rattle.its_player.proofs.shared.Shared.try_part.Goals as goal

pub returns-then-holds-clause-moves : goal.returns-then-holds-clause-moves
returns-then-holds-clause-moves c = λ v at p. holds_already c.args.self.now c.args.at c.index-2.result.now v c.args.part c.requires.at c.index-2.ensures at p
    (ap (holds c.args.part) (sym c.deref.ensures.value) ∙ (sym c.holds.ensures ∙ c.if-holds.true))

pub returns-else-turn-eq0-clause-moves : goal.returns-else-turn-eq0-clause-moves
returns-else-turn-eq0-clause-moves c =
    let w = c.args.self.now in
    let z = get_or_default_zero w.turns.items c.in-Some.index c.index-turn.result.now c.in-Some.ensures.turn in
    let ne = c.if-turn-eq0.false in
    let turn : get_or w.turns.items c.in-Some.index 0 ≡ suc (c.index-turn.result.now - 1) = omega (arith, z, c.index-turn.ensures) in
    ok_more (λ f v at p. tries_missed w c.args.at c.index-2.result.now v c.args.part c.in-Some.index (c.index-turn.result.now - 1)
    (core_of c.miss.new.self) c.in-Some.ensures c.requires.at c.index-2.ensures at p
    (ap (holds c.args.part) (sym c.deref.ensures.value) ∙ (sym c.holds.ensures ∙ c.if-holds.false)) turn (f v at p)) c.miss.result c.miss.ensures.leaves

pub returns-then-turn-eq0-clause-moves : goal.returns-then-turn-eq0-clause-moves
returns-then-turn-eq0-clause-moves c =
    let w = c.args.self.now in
    let turn : get_or w.turns.items c.in-Some.index 0 ≡ 0 =
    sym (get_or_default_zero w.turns.items c.in-Some.index c.index-turn.result.now c.in-Some.ensures.turn)
    ∙ (sym c.index-turn.ensures ∙ c.if-turn-eq0.true) in
    ok_more (λ f v at p. tries_got w c.args.at c.index-2.result.now v c.args.part c.in-Some.index (core_of c.get.new.self) c.in-Some.ensures c.requires.at
    c.index-2.ensures at p
    (ap (holds c.args.part) (sym c.deref.ensures.value) ∙ (sym c.holds.ensures ∙ c.if-holds.false)) turn (f v at p)) c.get.result c.get.ensures.gets
