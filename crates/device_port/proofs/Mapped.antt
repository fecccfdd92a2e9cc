-- Messages by the maps: from what each step tells to what the call says.
use Rattle.std.proofs.Common.{◌≡◌, ℕ, ◌<◌, true, List, [], Option, Some, Ok, ap, sym, ◌∙◌}
use Rattle.its_types.specs.Lpis.{with_lpi}
use Rattle.its_types.specs.declared.ids.Target.{Target}
use Rattle.its_types.specs.declared.machine.Word.{Word}
use Rattle.its_plain.specs.Plain.{PendState}
use Rattle.its_plain.specs.Translation.{located}
use Rattle.its_plain.specs.declared.call.Call.{Call}
use Rattle.its_plain.specs.declared.call.Reply.TheVariants as reply
use Rattle.its_plain.specs.declared.call.Signal.TheVariants.{Delivered}
use Rattle.xlate_cache.specs.Laws.{FindsFill}
use Rattle.xlate_cache.specs.Pairs.{shard_number}
use Rattle.xlate_cache.specs.Ways.{entry, filled}
use Rattle.xlate_cache.specs.declared.entry.Entry.{Entry as Translation}
use Rattle.its_steps.proofs.Signals.{fills}
use Rattle.its_steps.specs.Calls.{staying, MayLeave}
use Rattle.its_steps.specs.Contents.{Held}
use Rattle.its_steps.specs.MayCall.{MayCall}
use Rattle.its_steps.specs.Parts.{Setup, HasVcpus, vcpu_count, stamp_of}
use Rattle.its_steps.specs.World.{View, looked_in}
use Rattle.its_steps.specs.declared.change.ShardChange.TheVariants.{Fill}
use Rattle.its_turns.proofs.Telling.{may_here, owes_here}
use Rattle.its_turns.specs.Calls.{Makes}
use Rattle.owned_parts.specs.Owned.{translator_of}
use Rattle.owned_parts.specs.declared.parts.Translator.{Translator}
use Rattle.device_port.proofs.Cached.{looked_there, finds_last}
use Rattle.device_port.specs.Hands.{one_held, three_held}
use Rattle.device_port.specs.Messages.{Sends}
use Rattle.device_port.specs.Signals.{FindsLast}
use Rattle.device_port.specs.declared.message.Message.{Message}

module _ (s : Setup) (vcpus : HasVcpus s) (c : Call) (m : Message) (sends : Sends s c m) (target : Target) (t : Translator)
    (ways : List (Option Translation)) (r : PendState) (st : target.vcpu.0 < vcpu_count s)
    (sh : shard_number m.dev.0 m.ev.0 s.shards < s.shards) (goes : located (translator_of t) m.dev.0 m.ev.0 ≡ Ok target) (on : r.accepts ≡ true) (y : View)
    (held : y.held ≡ three_held m.its (shard_number m.dev.0 m.ev.0 s.shards) target.vcpu t ways r) where
  abbrev n : ℕ
  n = shard_number m.dev.0 m.ev.0 s.shards

  abbrev after : PendState
  after = record r { pending = with_lpi target.intid.0 r.pending }

  abbrev three : List Held
  three = three_held m.its n target.vcpu t ways r

  abbrev owed : Word → List Held
  owed w = three_held m.its n target.vcpu t (filled ways (entry m.dev m.ev (stamp_of s w m.its) target)) after

  fill_leaves : (w : Word) → w.place < s.limits.place_last → MayLeave s (staying w c (reply.Signal (Delivered target.vcpu target.intid))
      (Fill m.dev m.ev target)) three (owed w)
  fill_leaves w room = fills s w c m.its m.dev m.ev target (translator_of t) ways r sends.message_is vcpus sends.stands st sh room goes on

  pub fill_may : (w : Word) → w.place < s.limits.place_last → MayCall s (staying w c (reply.Signal (Delivered target.vcpu target.intid))
      (Fill m.dev m.ev target)) y.held
  fill_may = may_here s c (reply.Signal (Delivered target.vcpu target.intid)) (Fill m.dev m.ev target) three owed fill_leaves y held

  pub fill_owes : y.setup ≡ s → (w : Word) (x : View)
      → Makes y (staying w c (reply.Signal (Delivered target.vcpu target.intid)) (Fill m.dev m.ev target)) x → x.held ≡ owed w
  fill_owes = owes_here s c (reply.Signal (Delivered target.vcpu target.intid)) (Fill m.dev m.ev target) three owed fill_leaves y held

  pub fill_finds : y.setup ≡ s → (w : Word) (x : View)
      → Makes y (staying w c (reply.Signal (Delivered target.vcpu target.intid)) (Fill m.dev m.ev target)) x → (z : View) → (y.cache.looked.its ≡ m.its)
      × (y.cache.looked.number ≡ n)
      → FindsFill ways (entry m.dev m.ev (stamp_of s w m.its) target) → z ≡ record x { held = [] } → FindsLast m z (Some target)
  fill_finds own w x made z looked finds home =
      let ways' = filled ways (entry m.dev m.ev (stamp_of s w m.its) target) in
      let now : x.cache.looked ≡ record { its = m.its; number = n; ways = ways' } =
      ap (λ (u : View). u.cache.looked) made.view
      ∙ (ap (λ (l : List Held). looked_in l y.cache.looked) (sym (ap (λ (u : View). u.held) made.view) ∙ fill_owes own w x made)
      ∙ looked_there target.vcpu after m.its n ways' (one_held m.its t) y.cache.looked looked.0 looked.1) in
      finds_last s c m z ways' w (Some target) (ap (λ (u : View). u.setup) home ∙ (ap (λ (u : View). u.setup) made.view ∙ own))
      (ap (λ (u : View). u.cache.looked) home ∙ now)
      (ap (λ (u : View). u.last.stamp) home ∙ ap (λ (u : View). u.last.stamp) made.view) finds
