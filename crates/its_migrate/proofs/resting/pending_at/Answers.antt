use Rattle.its_types.specs.declared.machine.Part.TheVariants as part
use Rattle.owned_parts.specs.Owned.{pend_state}
use Rattle.its_steps.specs.Contents as content
use Rattle.its_turns.specs.Machines.{view}
use Rattle.its_migrate.proofs.Pendings.{rests_put}
use Rattle.its_migrate.proofs.resting.pending_at.Goals as goal

pub returns-in_err-lpis-clause-rests : goal.returns-in_err-lpis-clause-rests
returns-in_err-lpis-clause-rests c =
    rests_put (view c.args.root.now) (view c.take_pend-pend.new.pass) (view c.look.new.pass) (view c.put.new.pass) (part.Pend c.args.vcpu)
    (content.Pend (pend_state c.take_pend-pend.result.value)) c.look.result c.requires.lone c.take_pend-pend.ensures.takes c.look.ensures.looks
    c.look.ensures.later c.put.ensures.view

pub returns-clause-rests : goal.returns-clause-rests
returns-clause-rests c =
    rests_put (view c.args.root.now) (view c.take_pend-pend.new.pass) (view c.look.new.pass) (view c.put.new.pass) (part.Pend c.args.vcpu)
    (content.Pend (pend_state c.take_pend-pend.result.value)) c.look.result c.requires.lone c.take_pend-pend.ensures.takes c.look.ensures.looks
    c.look.ensures.later c.put.ensures.view
