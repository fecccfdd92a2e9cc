use Rattle.event_script.proofs.Reached.{said_has_its}
use Rattle.event_script.proofs.laws.messages_have_a_translator.Goals as goal

pub returns : goal.returns
returns c = said_has_its
