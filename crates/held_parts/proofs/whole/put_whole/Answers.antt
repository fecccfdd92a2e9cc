use Rattle.std.proofs.Common.{ap, ◌∙◌, nat_lt}
use Rattle.lpi_pending.specs.InHand.{HasLpisOfConf, HasLpisOfPend}
use Rattle.its_turns.specs.Machines.{setup}
use Rattle.held_parts.specs.Wholes.{redists_in}
use Rattle.held_parts.proofs.Wholes.{all_is_set, whole_confs, whole_pends}
use Rattle.held_parts.proofs.whole.put_whole.Goals as goal

pub put_pends-requires-clause-hand : goal.put_pends-requires-clause-hand
put_pends-requires-clause-hand c = let s = setup c.args.machine.now in let x = c.args.whole in
    rw (c.deref_mut.ensures.value) (all_is_set (HasLpisOfPend s.start.layout.shape) s c.all_of-all.result
    (λ n. c.all_of-all.ensures n ∙ ap (nat_lt n) c.vcpus.ensures.vcpus) (redists_in x).pends (whole_pends s x c.requires.whole))

pub put_confs-requires-clause-hand : goal.put_confs-requires-clause-hand
put_confs-requires-clause-hand c = let s = setup c.args.machine.now in let x = c.args.whole in
    rw (c.put_pends.ensures.confs, c.deref_mut.ensures.value) (all_is_set (HasLpisOfConf s.start.layout.shape) s c.all_of-all.result
    (λ n. c.all_of-all.ensures n ∙ ap (nat_lt n) c.vcpus.ensures.vcpus) (redists_in x).confs (whole_confs s x c.requires.whole))
