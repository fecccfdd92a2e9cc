-- What is in hand, by the number of the pair's shard.
use Rattle.std.proofs.Common.{◌≡◌, ◌<◌, ℕ, List, [], ap, ◌∙◌, subst}
use Rattle.owned_parts.specs.Owned.{pend_state}
use Rattle.xlate_cache.specs.Pairs.{shard_number}
use Rattle.its_steps.specs.Contents.{Held}
use Rattle.its_steps.specs.Parts.{Setup}
use Rattle.owned_parts.specs.declared.parts.Translator.{Translator}
use Rattle.device_port.specs.Hands.{one_held, two_before, three_held, hand_held, IsHandOf}
use Rattle.device_port.specs.declared.hand.Hand.{Hand}
use Rattle.device_port.specs.declared.message.Message.{Message}

module _ (s : Setup) (m : Message) (h : Hand) where
  pub number_inside : IsHandOf s m h → shard_number m.dev.0 m.ev.0 s.shards < s.shards
  number_inside is = subst (λ (n : ℕ). n < s.shards) is.number_is is.hand.inside

  pub two_by_number : (held : List Held) → IsHandOf s m h → held ≡ hand_held m.its h []
      → held ≡ two_before m.its (shard_number m.dev.0 m.ev.0 s.shards) h.target.vcpu h.shard (pend_state h.pend.value) []
  two_by_number held is has = has ∙ ap (λ (n : ℕ). two_before m.its n h.target.vcpu h.shard (pend_state h.pend.value) []) is.number_is

  pub three_by_number : (t : Translator) (held : List Held) → IsHandOf s m h → held ≡ hand_held m.its h (one_held m.its t)
      → held ≡ three_held m.its (shard_number m.dev.0 m.ev.0 s.shards) h.target.vcpu t h.shard (pend_state h.pend.value)
  three_by_number t held is has = has ∙ ap (λ (n : ℕ). three_held m.its n h.target.vcpu t h.shard (pend_state h.pend.value)) is.number_is
