use Rattle.std.proofs.lemmas.List.{length-set}
use Rattle.std.proofs.Common.{length, rules, arith, ap, sym, ◌∙◌, refl, ◌+◌, Some}
use Rattle.its_types.specs.declared.machine.Part.TheVariants as part
use Rattle.its_steps.specs.Contents.{Shard}
use Rattle.its_turns.specs.Machines.{view}
use Rattle.held_parts.specs.Shards.{IsShardOf}
use Rattle.held_parts.proofs.Going.{takes_first, takes_one, takes_then, took_held}
use Rattle.held_parts.proofs.ShardLoops.{none_taken, comes_next, one_taken}
use Rattle.held_parts.proofs.shards.take_shards.Goals as goal

pub loop-number-init : goal.loop-number-init
loop-number-init g c = record {
  of = c.requires.of;
  takes = takes_first (IsShardOf c.args.its) (view c.args.pass.now);
  taken = none_taken c.args.its c.args.shards.now (view c.args.pass.now).held c.requires.empty;
  allowed = c.requires.allowed;
}

pub take_shard-shard-requires-clause-order : goal.take_shard-shard-requires-clause-order
take_shard-shard-requires-clause-order g c = let l = c.loop-number in comes_next c.args.its l.number (l.number + 1) l.shards (view c.args.pass.now).held
    (view l.pass).held l.invariant.taken (omega arith) c.requires.order

pub loop-number-preserved : goal.loop-number-preserved
loop-number-preserved g c = let l = c.loop-number in let t = c.take_shard-shard in record {
  of = t.ensures.of;
  takes = takes_then (IsShardOf c.args.its) (view c.args.pass.now) (view l.pass) (view t.new.pass) l.invariant.takes
      (takes_one (IsShardOf c.args.its) (view l.pass) (view t.new.pass) (part.Shard c.args.its l.number) (Shard t.result) refl t.ensures.takes);
  taken = rw (c.place.ensures.placed)
      (one_taken c.args.its l.number (l.number + 1) l.shards (view c.args.pass.now).held (view l.pass).held l.invariant.taken (omega arith)
      t.result (view t.new.pass).held
      (sym (length-set l.shards l.number (Some t.result)) ∙ (ap length (sym c.place.ensures.placed) ∙ c.place.ensures.size)) (search rules)
      (took_held (view l.pass) (view t.new.pass) (part.Shard c.args.its l.number) (Shard t.result) t.ensures.takes));
  allowed = t.ensures.allowed;
}
