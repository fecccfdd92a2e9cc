use Rattle.std.proofs.Common.{Some, ap, sym, ◌∙◌, subst}
use Rattle.its_turns.specs.Machines.{setup}
use Rattle.its_turns.specs.declared.value.GuestMemory.{GuestMemory}
use Rattle.held_parts.specs.Redists.{AreNoRedists}
use Rattle.cmd_engine.specs.Hands.{Memory, redists_of, with_redists}
use Rattle.cmd_engine.proofs.taking_once.once_parts.Goals as goal

pub once_redists-requires-clause-empty : goal.once_redists-requires-clause-empty
once_redists-requires-clause-empty c =
    rw (c.deref_mut.ensures.value) (subst (λ (m : Memory). AreNoRedists (setup c.args.machine.now) (redists_of m)) c.in-Some.is c.requires.empty)

-- memory is as it was but for its places
pub returns-clause-same : goal.returns-clause-same
returns-clause-same c = let b = c.in-Some.memory in let all = c.once_redists.new.redists in
    ap (λ (m : GuestMemory). (let k : Memory = Some (record b { value = record m { redists = all } }) in k)) c.deref_mut.ensures.value
    ∙ ap (λ (m : Memory). with_redists m all) (sym c.in-Some.is)

pub returns-clause-result : goal.returns-clause-result
returns-clause-result c = c.once_redists.ensures.result
