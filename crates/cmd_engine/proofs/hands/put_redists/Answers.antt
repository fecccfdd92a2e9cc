use Rattle.std.proofs.Common.{◌∷◌, List, Option, Some, length, ap, sym, ◌∙◌, subst}
use Rattle.its_types.specs.declared.machine.Part.TheVariants as part
use Rattle.lpi_config.specs.Conf.{Conf as ConfInHand}
use Rattle.its_steps.specs.Contents.{Held, Mem}
use Rattle.its_steps.specs.Parts.{vcpu_count}
use Rattle.its_steps.specs.World.{View, out}
use Rattle.its_turns.specs.Machines.{setup, view}
use Rattle.its_turns.specs.declared.value.GuestMemory.{GuestMemory}
use Rattle.held_parts.specs.Redists.{conf_held, row_of, confs_held, AreConfsOfSet, ArePendsOfSet}
use Rattle.held_parts.specs.Rows.{in_row}
use Rattle.held_parts.specs.Taking.{holding}
use Rattle.cmd_engine.specs.Hands.{Memory, redists_of, memory_held, redists_held, HasRoom}
use Rattle.cmd_engine.proofs.Held.{bare_held}
use Rattle.cmd_engine.proofs.hands.put_redists.Goals as goal

pub put_pends-requires-clause-hand : goal.put_pends-requires-clause-hand
put_pends-requires-clause-hand c = rw (c.deref_mut.ensures.value)
    (subst (λ (m : Memory). ArePendsOfSet (setup c.args.machine.now) c.args.needed.pends (redists_of m)) c.in-Some.is c.requires.pends)

pub put_pends-requires-clause-held : goal.put_pends-requires-clause-held
put_pends-requires-clause-held c =
    let n = vcpu_count (setup c.args.machine.now) in let others = c.requires.held.0 in (
      confs_held c.deref_mut.result.now.redists n others,
      c.requires.held.1 ∙ (ap (λ (m : Memory). redists_held n (redists_of m) others) c.in-Some.is
          ∙ ap (λ (g : GuestMemory). redists_held n g.redists others) (sym c.deref_mut.ensures.value)),
    )

pub put_confs-requires-clause-hand : goal.put_confs-requires-clause-hand
put_confs-requires-clause-hand c = rw (c.put_pends.ensures.confs, c.deref_mut.ensures.value)
    (subst (λ (m : Memory). AreConfsOfSet (setup c.args.machine.now) c.args.needed.confs (redists_of m)) c.in-Some.is c.requires.confs)

pub put_confs-requires-clause-held : goal.put_confs-requires-clause-held
put_confs-requires-clause-held c =
    let n = vcpu_count (setup c.args.machine.now) in let others = c.requires.held.0 in (
      others,
      ap (λ (v : View). v.held) (c.put_pends.ensures.home (confs_held c.deref_mut.result.now.redists n others)
          (c.requires.held.1 ∙ (ap (λ (m : Memory). redists_held n (redists_of m) others) c.in-Some.is
          ∙ ap (λ (g : GuestMemory). redists_held n g.redists others) (sym c.deref_mut.ensures.value))))
          ∙ ap (λ (cs : List (Option ConfInHand)). in_row (row_of conf_held cs) n others) (sym c.put_pends.ensures.confs),
    )

pub returns-in-Some-clause-same : goal.returns-in-Some-clause-same
returns-in-Some-clause-same c = λ others. ap (λ (g : GuestMemory). (let h : Held = out part.Mem (Mem g.memory g.track) in h ∷ others)) c.deref_mut.ensures.value
    ∙ ap (λ (m : Memory). memory_held m others) (sym c.in-Some.is)

pub returns-in-Some-clause-vacant : goal.returns-in-Some-clause-vacant
returns-in-Some-clause-vacant c =
    let room : HasRoom (setup c.args.machine.now) (Some c.in-Some.memory) = subst (HasRoom (setup c.args.machine.now)) c.in-Some.is c.requires.room in
    let lent = c.deref_mut.ensures.value in
    record {
      confs = c.put_confs.ensures.empty;
      pends = rw (c.put_confs.ensures.pends) c.put_pends.ensures.empty;
      conf_room = c.put_confs.ensures.room ∙ (ap length c.put_pends.ensures.confs ∙ (ap (λ (g : GuestMemory). length g.redists.confs) lent ∙ room.0));
      pend_room = ap length c.put_confs.ensures.pends ∙ (c.put_pends.ensures.room ∙ (ap (λ (g : GuestMemory). length g.redists.pends) lent ∙ room.1));
    }

pub returns-in-Some-clause-home : goal.returns-in-Some-clause-home
returns-in-Some-clause-home c = λ others e.
    let n = vcpu_count (setup c.args.machine.now) in
    let first = c.put_pends.ensures.home (confs_held c.deref_mut.result.now.redists n others)
    (e ∙ (ap (λ (m : Memory). redists_held n (redists_of m) others) c.in-Some.is
    ∙ ap (λ (g : GuestMemory). redists_held n g.redists others) (sym c.deref_mut.ensures.value))) in
    c.put_confs.ensures.home others (ap (λ (v : View). v.held) first
    ∙ ap (λ (cs : List (Option ConfInHand)). in_row (row_of conf_held cs) n others) (sym c.put_pends.ensures.confs))
    ∙ ap (λ (v : View). holding v others) first

pub returns-in_default-clause-home : goal.returns-in_default-clause-home
returns-in_default-clause-home c = λ others e.
    let v = view c.args.pass.now in
    let held = e ∙ bare_held (vcpu_count (setup c.args.machine.now)) c.args.memory.now c.in_default.is others in
    ap (λ (l : List Held). holding v l) held
