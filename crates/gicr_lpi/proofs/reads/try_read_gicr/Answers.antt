use Rattle.std.proofs.Common.{refl, ◌∙◌, ap, subst, ℕ, Bool, List, [], ◌∷◌, ◌<◌, ◌≡◌}
use Rattle.its_types.specs.declared.ids.Vcpu.{Vcpu}
use Rattle.its_types.specs.declared.machine.Part.TheVariants as part
use Rattle.its_types.specs.declared.machine.Word.{Word}
use Rattle.its_plain.specs.Machine.{are_programmed, layout_of}
use Rattle.its_plain.specs.Plain.{ConfState}
use Rattle.its_plain.specs.declared.desc.Desc.{Desc}
use Rattle.its_plain.specs.declared.layout.Layout.{Layout}
use Rattle.its_plain.specs.declared.call.Call.TheVariants as call
use Rattle.its_plain.specs.declared.call.Reply.TheVariants as reply
use Rattle.owned_parts.specs.Owned.{conf_state}
use Rattle.its_steps.specs.Calls.{staying, MayLeave}
use Rattle.its_steps.specs.Parts.{Setup, vcpu_count}
use Rattle.its_steps.specs.declared.change.ShardChange.TheVariants.{Keep}
use Rattle.its_steps.specs.Contents.{Held, Conf}
use Rattle.its_steps.specs.World.{out}
use Rattle.its_turns.specs.Machines.{setup, view}
use Rattle.its_turns.specs.Told.{HasStood}
use Rattle.its_turns.specs.declared.machine.Machine.{Machine}
use Rattle.its_turns.proofs.Telling.{may_here, owes_here, one_held, one_lost}
use Rattle.gicr_lpi.specs.Accesses.{read_by}
use Rattle.gicr_lpi.proofs.Alone.{may_read}
use Rattle.gicr_lpi.proofs.Lows.{low_bases}
use Rattle.gicr_lpi.proofs.reads.try_read_gicr.Goals as goal

abbrev held_one : Vcpu → ConfState → List Held
held_one vcpu r = out (part.Conf vcpu) (Conf r) ∷ []

-- the tables are programmed just where the layout says so
abbrev IsSo : Machine → Bool → Type 0
IsSo m programmed = programmed ≡ (setup m).start.layout.gicr

is_so : (m : Machine) (programmed : Bool) (desc : Desc) → layout_of desc ≡ (setup m).start.layout → programmed ≡ are_programmed desc.tables → IsSo m programmed
is_so m programmed desc layout is = is ∙ ap (λ (l : Layout). l.gicr) layout

reads_now : (m : Machine) (vcpu : Vcpu) (r : ConfState) (off size : ℕ) → vcpu.0 < vcpu_count (setup m) → (w : Word) → w.place < (setup m).limits.place_last
    → MayLeave (setup m) (staying w (call.ReadGicr vcpu off size) (reply.Value (read_by (setup m).start.layout r off size)) Keep) (held_one vcpu r)
    (held_one vcpu r)
reads_now m vcpu r off size st w room = may_read (setup m) m.laid.1 w room vcpu st r off size

pub read_from-value-requires : goal.read_from-value-requires
read_from-value-requires g c = let m = c.args.machine.now in record {
  low = λ e. rw (c.deref.ensures) (low_bases (setup m) c.args.vcpu (conf_state c.in-Ok.conf.value)
      (subst (λ (s : Setup). HasStood s (part.Conf c.args.vcpu) (Conf (conf_state c.in-Ok.conf.value))) c.requires.of.1
      c.in-Ok.ensures.result.0.stood));
}

pub try_commit-made-requires-clause-may : goal.try_commit-made-requires-clause-may
try_commit-made-requires-clause-may g c =
    let m = c.args.machine.now in let v = view c.args.pass.now in let x = view c.try_take_conf.new.pass in let r = conf_state c.in-Ok.conf.value in
    rw (
      c.read_from-value.ensures,
      c.deref.ensures,
      is_so m c.are_programmed-programmed.result c.desc-desc.result.now c.desc-desc.ensures.layout
          c.are_programmed-programmed.ensures,
      c.desc-desc.ensures.shape,
    )
    (may_here (setup m) (call.ReadGicr c.args.vcpu c.args.off c.args.size) (reply.Value (read_by (setup m).start.layout r c.args.off c.args.size)) Keep
    (held_one c.args.vcpu r) (λ _. held_one c.args.vcpu r) (reads_now m c.args.vcpu r c.args.off c.args.size c.requires.vcpu) x
    (one_held v (part.Conf c.args.vcpu) (Conf r) x c.in-Ok.ensures.result.0.view c.requires.free))

pub put-requires-clause-owed : goal.put-requires-clause-owed
put-requires-clause-owed g c =
    let m = c.args.machine.now in let v = view c.args.pass.now in let x = view c.try_take_conf.new.pass in let r = conf_state c.in-Ok.conf.value in
    record {
      content = Conf r;
      content_is = refl;
      before = [];
      last = owes_here (setup m) (call.ReadGicr c.args.vcpu c.args.off c.args.size) (reply.Value (read_by (setup m).start.layout r c.args.off c.args.size))
          Keep (held_one c.args.vcpu r) (λ _. held_one c.args.vcpu r) (reads_now m c.args.vcpu r c.args.off c.args.size c.requires.vcpu) x
          (one_held v (part.Conf c.args.vcpu) (Conf r) x c.in-Ok.ensures.result.0.view c.requires.free) c.try_take_conf.ensures.of.1 c.in-Ok-made.word
          (view c.try_commit-made.new.pass)
          (rw (
            c.read_from-value.ensures,
            c.deref.ensures,
            is_so m c.are_programmed-programmed.result c.desc-desc.result.now c.desc-desc.ensures.layout
                c.are_programmed-programmed.ensures,
            c.desc-desc.ensures.shape,
          ) at c.in-Ok-made.ensures.result);
    }

pub returns-in-Err-made-clause-answer : goal.returns-in-Err-made-clause-answer
returns-in-Err-made-clause-answer g c = let v = view c.args.pass.now in let x = view c.try_take_conf.new.pass in let r =
    conf_state c.in-Ok.conf.value in
    rw (c.attempt.ensures) (one_lost v (part.Conf c.args.vcpu) (Conf r) x c.in-Ok.ensures.result.0.view (call.ReadGicr c.args.vcpu c.args.off c.args.size)
    (λ (k : ℕ). reply.Value k) c.in-Err-made.lost (view c.try_commit-made.new.pass) (view c.put-in-Err-made.new.pass)
    c.in-Err-made.ensures.result c.put-in-Err-made.ensures.view)
