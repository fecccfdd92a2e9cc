use Rattle.std.proofs.Common.{List, refl, ap, sym, ◌∙◌, subst, arith}
use Rattle.its_steps.specs.Contents.{Held}
use Rattle.its_turns.specs.Machines.{setup, view}
use Rattle.its_turns.proofs.Telling.{looked_held}
use Rattle.held_parts.specs.Shards.{AreBeforeShards, IsShardOf, shards_held}
use Rattle.held_parts.proofs.Once.{once_wider, busy_wider, busy_held}
use Rattle.cmd_engine.specs.Hands.{IsOfTranslator}
use Rattle.cmd_engine.proofs.Getting.{read_low, shard_is_own}
use Rattle.cmd_engine.proofs.Trying.{at_once_first, at_once_looked, at_once_then, takes_goes, gave_first, gave_then}
use Rattle.cmd_engine.proofs.taking_once.once_any.Goals as goal

pub returns-then-stamp_of-stamp_last-clause-result : goal.returns-then-stamp_of-stamp_last-clause-result
returns-then-stamp_of-stamp_last-clause-result c =
    let its = c.args.its in let v = view c.args.pass.now in let x = view c.look-word.new.pass in let w = c.look-word.result in
    let looks = c.look-word.ensures.looks in
    let n = c.stamp_of.ensures in let last = c.stamp_last.ensures in let less = c.if-stamp_of-stamp_last.true in record {
      goes = at_once_looked (IsOfTranslator its) v v x w (at_once_first (IsOfTranslator its) v) looks;
      held = looked_held v x w looks;
      whole = tt;
      ends = refl;
      low = λ any. read_low (setup c.args.machine.now) v x w its c.requires.of.1 looks (omega (arith, n, last, less));
    }

pub once_shards-requires-clause-order : goal.once_shards-requires-clause-order
once_shards-requires-clause-order c = subst (AreBeforeShards c.args.its)
    (sym (looked_held (view c.args.pass.now) (view c.look-word.new.pass) c.look-word.result c.look-word.ensures.looks)) c.requires.order

pub returns-in-Ok-clause-result : goal.returns-in-Ok-clause-result
returns-in-Ok-clause-result c =
    let its = c.args.its in let s = setup c.args.machine.now in let P = IsOfTranslator its in
    let v = view c.args.pass.now in let x = view c.look-word.new.pass in let y = view c.once_shards.new.pass in
    let w = c.look-word.result in let looks = c.look-word.ensures.looks in let got = c.in-Ok.ensures.result in record {
      goes = at_once_then P v x y (at_once_looked P v v x w (at_once_first P v) looks)
          (takes_goes P x y (once_wider (IsShardOf its) P (shard_is_own its) x y got.0));
      held = got.1 ∙ ap (λ (l : List Held). shards_held its c.once_shards.new.shards s.shards l) (looked_held v x w looks);
      whole = (c.requires.its, got.2);
      ends = refl;
      low = λ any. absurd any;
    }

pub returns-in-Err-clause-result : goal.returns-in-Err-clause-result
returns-in-Err-clause-result c =
    let its = c.args.its in let P = IsOfTranslator its in
    let v = view c.args.pass.now in let x = view c.look-word.new.pass in let y = view c.once_shards.new.pass in
    let w = c.look-word.result in let looks = c.look-word.ensures.looks in let f = c.in-Err.ensures.result.0 in record {
      gives_up = gave_then P v x y c.in-Err.busy (at_once_looked P v v x w (at_once_first P v) looks)
          (gave_first P x y c.in-Err.busy (busy_wider (IsShardOf its) P (shard_is_own its) x y c.in-Err.busy f));
      held = busy_held (IsShardOf its) x y c.in-Err.busy f ∙ looked_held v x w looks;
      none = c.requires.nothing;
    }
