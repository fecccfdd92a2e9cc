-- The parts of a machine, each where it stands.
use Rattle.std.specs.Option.{option_map}
use Rattle.owned_parts.specs.Owned.{track_at}
use Rattle.owned_parts.specs.declared.parts.Parts.{Parts}
use Rattle.owned_parts.specs.declared.parts.Translator.{Translator}
use Rattle.owned_parts.specs.declared.in_place.TranslatorRef.{TranslatorRef}
use Rattle.owned_parts.specs.declared.in_place.InPlace.{InPlace}

abbrev pub translator_in : TranslatorRef → Translator
translator_in t = record { regs = t.regs.now; maps = t.maps.now }

abbrev pub parts_in : InPlace → Parts
parts_in i = record {
  layout = i.layout.now;
  first = translator_in i.first;
  second = option_map translator_in i.second;
  memory = i.memory.now;
  track = track_at i;
  redists = i.redists.now;
}
