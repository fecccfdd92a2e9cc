-- What a message has in hand, and the parts that are held then, the last one got first.
use Rattle.std.specs.Prelude.{◌≡◌, ◌<◌, ℕ, Bool, true, false, Option, List, [], ◌∷◌}
use Rattle.its_types.specs.Lpis.{with_lpi}
use Rattle.its_types.specs.Ranges.{is_lpi}
use Rattle.its_types.specs.declared.ids.Target.{Target}
use Rattle.its_types.specs.declared.ids.Vcpu.{Vcpu}
use Rattle.its_types.specs.declared.machine.Part.TheVariants as part
use Rattle.its_plain.specs.Plain.{PendState}
use Rattle.owned_parts.specs.Owned.{pend_state, translator_of, HasLpisOfPend}
use Rattle.owned_parts.specs.declared.parts.Translator.{Translator as TranslatorInHand}
use Rattle.xlate_cache.specs.Pairs.{shard_number}
use Rattle.xlate_cache.specs.declared.entry.Entry.{Entry as Translation}
use Rattle.its_steps.specs.Contents.{Maps, Shard, Pend, Held}
use Rattle.its_steps.specs.Parts.{Setup, vcpu_count}
use Rattle.its_steps.specs.World.{out}
use Rattle.device_port.specs.declared.hand.Hand.{Hand}
use Rattle.device_port.specs.declared.message.Message.{Message}

-- the maps of a translator
abbrev pub one_held : ℕ → TranslatorInHand → List Held
one_held its t = out (part.Maps its) (Maps (translator_of t)) ∷ []

-- a shard of it and what is pending at a target, and others got before
abbrev pub two_before : ℕ → ℕ → Vcpu → List (Option Translation) → PendState → List Held → List Held
two_before its n vcpu ways r before = out (part.Pend vcpu) (Pend r) ∷ out (part.Shard its n) (Shard ways) ∷ before

-- all three
abbrev pub three_held : ℕ → ℕ → Vcpu → TranslatorInHand → List (Option Translation) → PendState → List Held
three_held its n vcpu t ways r = two_before its n vcpu ways r (one_held its t)

-- those in hand, and others got before
abbrev pub hand_held : ℕ → Hand → List Held → List Held
hand_held its h before = two_before its h.number h.target.vcpu h.shard (pend_state h.pend.value) before

-- what is in hand is of this machine
pub record IsHand (s : Setup) (h : Hand) : Type 0 where
  pub inside : h.number < s.shards
  pub vcpu : h.target.vcpu.0 < vcpu_count s
  pub lpi : is_lpi s.start.layout.shape.lpi_bits h.target.intid.0 ≡ true
  pub lpis : HasLpisOfPend s.start.layout.shape h.pend.value

-- and of this pair
pub record IsHandOf (s : Setup) (m : Message) (h : Hand) : Type 0 where
  pub number_is : h.number ≡ shard_number m.dev.0 m.ev.0 s.shards
  pub hand : IsHand s h

-- what is pending where a message was sent: the LPI too, where LPIs are on
abbrev pub delivered : Bool → PendState → Target → PendState
delivered true r t = record r { pending = with_lpi t.intid.0 r.pending }
delivered false r t = r
