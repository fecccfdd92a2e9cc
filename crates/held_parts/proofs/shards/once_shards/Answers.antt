use Rattle.std.proofs.lemmas.List.{length-set}
use Rattle.std.proofs.Common.{length, rules, arith, ap, sym, ◌∙◌, refl, ◌+◌, Some}
use Rattle.its_types.specs.declared.machine.Part.TheVariants as part
use Rattle.its_steps.specs.Contents.{Shard}
use Rattle.its_steps.specs.World.{View}
use Rattle.its_turns.specs.Machines.{setup, view}
use Rattle.held_parts.specs.Shards.{IsShardOf}
use Rattle.held_parts.proofs.Once.{once_first, once_one, once_then, got_held, busy_one, busy_then}
use Rattle.held_parts.proofs.ShardLoops.{none_taken, comes_next, one_taken, all_taken}
use Rattle.held_parts.proofs.shards.once_shards.Goals as goal

pub loop-number-init : goal.loop-number-init
loop-number-init c = record {
  of = c.requires.of;
  takes = once_first (IsShardOf c.args.its) (view c.args.pass.now);
  taken = none_taken c.args.its c.args.shards.now (view c.args.pass.now).held c.requires.empty;
}

pub try_take_shard-requires-clause-order : goal.try_take_shard-requires-clause-order
try_take_shard-requires-clause-order c = let l = c.loop-number in comes_next c.args.its l.number (l.number + 1) l.shards (view c.args.pass.now).held
    (view l.pass).held l.invariant.taken (omega arith) c.requires.order

pub put_first-requires-clause-held : goal.put_first-requires-clause-held
put_first-requires-clause-held c = let l = c.loop-number in (
  (view c.args.pass.now).held,
  ap (λ (y : View). y.held) c.in-Err.ensures.result.view ∙ l.invariant.taken.held,
)

pub returns-in-Err-clause-result : goal.returns-in-Err-clause-result
returns-in-Err-clause-result c =
    let l = c.loop-number in let v = view c.args.pass.now in let x = view c.try_take_shard.new.pass in let of = IsShardOf c.args.its in (
      busy_then of v (view l.pass) x (view c.put_first.new.pass) c.in-Err.busy l.invariant.takes
          (busy_one of (view l.pass) x (part.Shard c.args.its l.number) c.in-Err.busy refl c.in-Err.ensures.result)
          (c.put_first.ensures.home v.held (ap (λ (y : View). y.held) c.in-Err.ensures.result.view ∙ l.invariant.taken.held)),
      c.put_first.ensures.empty,
    )

pub loop-number-preserved : goal.loop-number-preserved
loop-number-preserved c = let l = c.loop-number in let t = c.try_take_shard in let x = c.in-Ok.shard in let got = c.in-Ok.ensures.result in record {
  of = t.ensures.of;
  takes = once_then (IsShardOf c.args.its) (view c.args.pass.now) (view l.pass) (view t.new.pass) l.invariant.takes
      (once_one (IsShardOf c.args.its) (view l.pass) (view t.new.pass) (part.Shard c.args.its l.number) (Shard x) refl got);
  taken = rw (c.place.ensures.placed)
      (one_taken c.args.its l.number (l.number + 1) l.shards (view c.args.pass.now).held (view l.pass).held l.invariant.taken (omega arith)
      x (view t.new.pass).held
      (sym (length-set l.shards l.number (Some x)) ∙ (ap length (sym c.place.ensures.placed) ∙ c.place.ensures.size)) (search rules)
      (got_held (view l.pass) (view t.new.pass) (part.Shard c.args.its l.number) (Shard x) got));
}

pub returns-clause-result : goal.returns-clause-result
returns-clause-result c = let l = c.loop-number in let s = setup c.args.machine.now in
    let all = all_taken c.args.its l.number s.shards l.shards (view c.args.pass.now).held (view l.pass).held (search rules) l.invariant.taken in
    (l.invariant.takes, all.0, all.1)
