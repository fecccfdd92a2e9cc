use Rattle.std.proofs.Common.{ap}
use Rattle.std.specs.Option.{option_map}
use Rattle.owned_parts.specs.Owned.{translator_of}
use Rattle.owned_machine.proofs.Lists.{first_there, second_there}
use Rattle.owned_machine.proofs.Led.{lead_inside, still_sets}
use Rattle.owned_machine.proofs.Walking.{led_by_one, led_by_two, those_of}
use Rattle.owned_machine.proofs.stale.add_all.Goals as goal

pub add_led_to-requires-clause-inside : goal.add_led_to-requires-clause-inside
add_led_to-requires-clause-inside c =
    let p = c.args.parts.now in
    let t = translator_of p.first in
    lead_inside p.layout.shape t (c.requires.whole.sound.translators 0 t (first_there t (option_map translator_of p.second)))

pub add_led_to-requires-in-Some-clause-inside : goal.add_led_to-requires-in-Some-clause-inside
add_led_to-requires-in-Some-clause-inside c =
    let p = c.args.parts.now in
    let s = translator_of c.in-Some.second in
    lead_inside p.layout.shape s (c.requires.whole.sound.translators 1 s (second_there (translator_of p.first) s (option_map translator_of p.second)
    (ap (option_map translator_of) c.in-Some.is)))

pub add_led_to-requires-in-Some-clause-sets : goal.add_led_to-requires-in-Some-clause-sets
add_led_to-requires-in-Some-clause-sets c =
    let p = c.args.parts.now in
    still_sets p (those_of (translator_of p.first)) c.args.sets.now c.add_led_to.new.sets c.add_led_to.ensures c.requires.sets

pub returns-in-Some : goal.returns-in-Some
returns-in-Some c =
    let p = c.args.parts.now in
    led_by_two p (translator_of p.first) (translator_of c.in-Some.second) (option_map translator_of p.second) c.args.sets.now c.add_led_to.new.sets
    c.add_led_to-in-Some.new.sets (ap (option_map translator_of) c.in-Some.is) c.add_led_to.ensures c.add_led_to-in-Some.ensures

pub returns-in_default : goal.returns-in_default
returns-in_default c =
    let p = c.args.parts.now in
    led_by_one p (translator_of p.first) (option_map translator_of p.second) c.args.sets.now c.add_led_to.new.sets
    (ap (option_map translator_of) c.in_default.is) c.add_led_to.ensures
