-- What the values in slots stand for.
use Rattle.std.specs.Prelude.{ℕ, ◌*◌, List, [], ◌∷◌}
use mathlib.Core.Option.{Option, none, some}
use Rattle.lpi_config.specs.Conf.{conf_state}
use Rattle.lpi_pending.specs.InHand.{pend_state, AreEmpty, HasLpisOfConf, HasLpisOfPend}
use Rattle.owned_parts.specs.Owned.{translator_of}
use Rattle.its_steps.specs.Parts.{Setup, index_of, vcpu_count}
use Rattle.its_steps.specs.Contents.{Content, Held}
use Rattle.its_steps.specs.Contents as content
use Rattle.its_turns.specs.declared.value.Value.{Value}
use Rattle.its_turns.specs.declared.value.Value.TheVariants.{Vacant, Maps, Mem, Shard, Conf, Pend}

abbrev pub content_of : Value → Option Content
content_of Vacant = none
content_of (Maps b) = some (content.Maps (translator_of b.value))
content_of (Mem b) = some (content.Mem b.value.memory b.value.track)
content_of (Shard s) = some (content.Shard s)
content_of (Conf b) = some (content.Conf (conf_state b.value))
content_of (Pend b) = some (content.Pend (pend_state b.value))

-- a part of a redistributor has as many LPIs as the machine, and memory comes with an empty place for each such part
abbrev pub IsFit : Setup → Value → Type 0
IsFit s (Mem b) = AreEmpty (vcpu_count s) b.value.redists
IsFit s (Conf b) = HasLpisOfConf s.start.layout.shape b.value
IsFit s (Pend b) = HasLpisOfPend s.start.layout.shape b.value
IsFit s x = Unit {0}

-- in a slot, or out of it
abbrev pub shelved : Option Value → Option Content
shelved none = none
shelved (some x) = content_of x

-- ---- the slots that a pass has in hand

-- each part held is out of its slot, and they stand 8 slots apart
abbrev pub emptied : Setup → List Held → List (ℕ × Value)
emptied s [] = []
emptied s (x ∷ xs) = (8 * index_of s x.part, Vacant) ∷ emptied s xs

-- all but the part taken last
abbrev pub held_before : List Held → List Held
held_before [] = []
held_before (x ∷ xs) = xs
