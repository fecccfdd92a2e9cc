use Rattle.std.proofs.Common.{Some, refl, ap, sym, ◌∙◌}
use Rattle.its_turns.specs.Machines.{setup, view}
use Rattle.its_turns.specs.declared.value.GuestMemory.{GuestMemory}
use Rattle.cmd_engine.specs.Hands.{Memory, with_redists, IsOfStep}
use Rattle.cmd_engine.proofs.Getting.{base_order, base_confs, base_pends, base_room, confs_order, pends_order, needed_in_hand, goes_needed, targets_of, low_kept}
use Rattle.cmd_engine.proofs.taking.take_needed.Goals as goal

pub needs-hands-requires : goal.needs-hands-requires
needs-hands-requires g c = let h = c.args.hands.now in record {
  targets = rw (c.deref-3.ensures) (targets_of (setup c.args.machine.now) h.its h.translator.value c.desc.result.now.shape c.requires.stood
      c.desc.ensures.shape);
}

pub take_cached-requires-clause-order : goal.take_cached-requires-clause-order
take_cached-requires-clause-order g c = base_order (setup c.args.machine.now) (view c.args.pass.now) c.args.hands.now c.requires.hands c.requires.base

pub take_redists-requires-clause-empty : goal.take_redists-requires-clause-empty
take_redists-requires-clause-empty g c = rw (c.deref_mut.ensures.value) (
  base_confs (setup c.args.machine.now) (view c.args.pass.now) c.args.hands.now c.requires.hands c.requires.base c.in-Some.memory c.in-Some.is,
  base_pends (setup c.args.machine.now) (view c.args.pass.now) c.args.hands.now c.requires.hands c.requires.base c.in-Some.memory c.in-Some.is,
)

pub take_redists-requires-clause-room : goal.take_redists-requires-clause-room
take_redists-requires-clause-room g c = rw (c.deref_mut.ensures.value)
    (base_room (setup c.args.machine.now) (view c.args.pass.now) c.args.hands.now c.requires.hands c.requires.base c.in-Some.memory c.in-Some.is)

pub take_redists-requires-clause-order : goal.take_redists-requires-clause-order
take_redists-requires-clause-order g c = (
  confs_order (setup c.args.machine.now) (view c.args.pass.now) c.args.hands.now c.requires.hands c.requires.base
      (view c.take_cached.new.pass) c.take_cached.new.cached c.take_cached.ensures.held,
  pends_order (setup c.args.machine.now) (view c.args.pass.now) c.args.hands.now c.requires.hands c.requires.base
      (view c.take_cached.new.pass) c.take_cached.new.cached c.take_cached.ensures.held,
)

-- memory is as it was but for its places
pub returns-clause-same : goal.returns-clause-same
returns-clause-same g c = let b = c.in-Some.memory in let all = c.take_redists.new.redists in record {
  its = refl;
  translator = refl;
  memory = ap (λ (m : GuestMemory). (let k : Memory = Some (record b { value = record m { redists = all } }) in k)) c.deref_mut.ensures.value
      ∙ ap (λ (m : Memory). with_redists m all) (sym c.in-Some.is);
}

pub returns-clause-hands : goal.returns-clause-hands
returns-clause-hands g c = let e = c.take_redists.ensures in
    needed_in_hand (setup c.args.machine.now) (view c.args.pass.now) c.args.hands.now c.requires.hands c.requires.base
    (view c.take_cached.new.pass) (view c.take_redists.new.pass) c.take_cached.new.cached c.needs-hands.result _
    c.take_cached.ensures.held c.take_cached.ensures.whole e.held (returns-clause-same g c).memory e.confs e.pends e.room

pub returns-clause-goes : goal.returns-clause-goes
returns-clause-goes g c = goes_needed c.args.hands.now.its (view c.args.pass.now) (view c.take_cached.new.pass) (view c.take_redists.new.pass)
    c.take_cached.ensures.goes (c.take_redists.ensures.takes c.args.hands.now.its)

pub returns-clause-low : goal.returns-clause-low
returns-clause-low g c any = let its = c.args.hands.now.its in
    low_kept (IsOfStep its) (view c.args.pass.now) (view c.take_cached.new.pass) (view c.take_redists.new.pass) its
    (c.take_cached.ensures.low any) (c.take_redists.ensures.takes its)
