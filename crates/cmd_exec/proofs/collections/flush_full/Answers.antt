use Rattle.std.proofs.Common.{ℕ, List, sym, ap, subst, ◌∙◌}
use Rattle.its_plain.specs.Commands.{conf_all_reread_at}
use Rattle.cmd_exec.specs.InHand.{confs_changed}
use Rattle.cmd_exec.specs.Ready.{CanEachReread}
use Rattle.cmd_exec.specs.Walked.{AreLeft}
use Rattle.cmd_exec.proofs.Left.{left_all, left_none}
use Rattle.cmd_exec.proofs.collections.flush_full.Goals as goal

-- there is room
pub returns-then-has_room-clause-left : goal.returns-then-has_room-clause-left
returns-then-has_room-clause-left c = left_all c.args.vcpus c.args.memory.now c.args.batch.now c.args.redists.now

pub reread_batch-requires-clause-each : goal.reread_batch-requires-clause-each
reread_batch-requires-clause-each c = subst (CanEachReread c.args.vcpus c.args.redists.now) (sym c.intids.ensures.intids) c.requires

pub returns-clause-left : goal.returns-clause-left
returns-clause-left c =
    let n = c.args.vcpus in let memory = c.args.memory.now in let rs = c.args.redists.now in let xs = c.args.batch.now in
    let now = c.reread_batch.new.redists in
    subst (λ (ys : List ℕ). AreLeft n memory xs ys rs now) (sym c.clear.ensures) (left_none n memory xs rs now (c.reread_batch.ensures
    ∙ ap (λ (ys : List ℕ). confs_changed n (conf_all_reread_at memory ys) rs) c.intids.ensures.intids))
