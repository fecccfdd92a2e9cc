-- What the maps of a translator answer (IHI 0069, section 5.2).
use Rattle.its_types.specs.Maps.{Maps, device_of, event_of, collection_of}
use Rattle.call_facts.specs.declared.answers.Key.{Key}
use Rattle.call_facts.specs.declared.answers.Key.TheVariants as key
use Rattle.call_facts.specs.declared.answers.Answer.{Answer}
use Rattle.call_facts.specs.declared.answers.Answer.TheVariants as answer

-- what is mapped of what was asked
abbrev pub answer_of : Maps → Key → Answer
answer_of m (key.Device dev) = answer.Device (device_of m dev.0)
answer_of m (key.Event dev ev) = answer.Event (event_of m dev.0 ev.0)
answer_of m (key.Collection icid) = answer.Collection (collection_of m icid.0)
