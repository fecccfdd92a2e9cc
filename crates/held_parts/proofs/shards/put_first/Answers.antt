use Rattle.std.proofs.Common.{arith, ap, sym, ◌∙◌, refl, ◌≡◌, ◌-◌, ◌+◌, suc, List}
use Rattle.its_steps.specs.Contents.{Held, Shard}
use Rattle.its_steps.specs.World.{View}
use Rattle.its_turns.specs.Contents.{held_before}
use Rattle.its_turns.specs.Machines.{view}
use Rattle.its_turns.specs.Told.{released}
use Rattle.held_parts.specs.Shards.{shard_row, shard_held, held_if_in, shards_held}
use Rattle.held_parts.specs.Taking.{holding}
use Rattle.held_parts.proofs.InRows.{row_first, row_none}
use Rattle.held_parts.proofs.ShardLoops.{one_left}
use Rattle.held_parts.proofs.shards.put_first.Goals as goal

pub put-requires-clause-owed : goal.put-requires-clause-owed
put-requires-clause-owed c = let old = c.args.shards.now in let before = c.requires.held.0 in let l = c.loop-k in let n = c.args.count in let k =
    n - 1 - l.k in let x = c.take_out-shard.result in record {
      content = Shard x;
      content_is = refl;
      before = shards_held c.args.its old k before;
      last = ap (λ (y : View). y.held)
          (l.invariant.home before c.requires.held.1)
          ∙ row_first (shard_row c.args.its old) before (n - l.k) k (shard_held c.args.its k x) (omega (arith, c.loop-k-test.true))
          (ap (held_if_in c.args.its k) (sym (l.invariant.left.below k (omega (arith, c.loop-k-test.true))) ∙ c.take_out-shard.ensures.value));
    }

pub loop-k-preserved : goal.loop-k-preserved
loop-k-preserved c = let l = c.loop-k in let old = c.args.shards.now in let n = c.args.count in let k = n - 1 - l.k in let x =
    c.take_out-shard.result in
    let e : n - (l.k + 1) ≡ k = omega (arith, c.loop-k-test.true) in
    let next : n - l.k ≡ suc k = omega (arith, c.loop-k-test.true) in
    rw (e) record {
      of = c.put.ensures.of;
      home = λ before is. c.put.ensures.view ∙ (ap released (l.invariant.home before is)
          ∙ ap (λ (h : List Held). holding (view c.args.pass.now) (held_before h)) (row_first (shard_row c.args.its old) before (n - l.k) k
          (shard_held c.args.its k x) next (ap (held_if_in c.args.its k)
          (sym (l.invariant.left.below k (omega (arith, next))) ∙ c.take_out-shard.ensures.value))));
      left = rw (c.take_out-shard.ensures.taken) (one_left (n - l.k) k old l.shards next l.invariant.left);
    }

pub returns-clause-home : goal.returns-clause-home
returns-clause-home c = let l = c.loop-k in let old = c.args.shards.now in λ before is.
    l.invariant.home before is
    ∙ ap (λ (h : List Held). holding (view c.args.pass.now) h) (row_none (shard_row c.args.its old) before (c.args.count - l.k)
    (omega (arith, c.loop-k-test.false)))
