use Rattle.std.proofs.Common.{ℕ, ◌<◌, List, ◌∷◌, refl, ap, ◌∙◌, subst}
use Rattle.its_types.specs.declared.machine.Part.TheVariants as part
use Rattle.its_steps.specs.Contents as content
use Rattle.its_steps.specs.Contents.{Held}
use Rattle.its_steps.specs.Parts.{translator_count}
use Rattle.its_steps.specs.World.{View, out}
use Rattle.its_turns.specs.Machines.{setup, view}
use Rattle.held_parts.proofs.Once.{got_held}
use Rattle.cmd_engine.specs.Hands.{IsOfTranslator}
use Rattle.cmd_engine.proofs.Trying.{at_once_first, at_once_took, gave_one}
use Rattle.cmd_engine.proofs.taking_once.once_pair.Goals as goal

pub try_take_shard-requires-clause-order : goal.try_take_shard-requires-clause-order
try_take_shard-requires-clause-order c = c.requires.order c.shard_of-number.result

pub returns-in-Ok-clause-result : goal.returns-in-Ok-clause-result
returns-in-Ok-clause-result c =
    let its = c.args.its in let n = c.shard_of-number.result in let v = view c.args.pass.now in let x = view c.try_take_shard.new.pass in
    let got = c.in-Ok.ensures.result in let stands = c.shard_of-number.ensures.stands its c.requires.its in record {
      goes = at_once_took (IsOfTranslator its) v v x (part.Shard its n) (content.Shard c.in-Ok.shard) (at_once_first (IsOfTranslator its) v) refl got;
      held = got_held v x (part.Shard its n) (content.Shard c.in-Ok.shard) got
          ∙ ap (λ (k : ℕ). (let l : List Held = out (part.Shard its k) (content.Shard c.in-Ok.shard) ∷ v.held in l)) c.shard_of-number.ensures.number;
      whole = subst (λ (k : ℕ). (its < translator_count (setup c.args.machine.now)) × (k < (setup c.args.machine.now).shards))
          c.shard_of-number.ensures.number stands;
      ends = refl;
      low = λ any. absurd any;
    }

pub returns-in-Err-clause-result : goal.returns-in-Err-clause-result
returns-in-Err-clause-result c =
    let its = c.args.its in let v = view c.args.pass.now in let x = view c.try_take_shard.new.pass in record {
      gives_up = gave_one (IsOfTranslator its) v x (part.Shard its c.shard_of-number.result) c.in-Err.busy refl c.in-Err.ensures.result;
      held = ap (λ (y : View). y.held) c.in-Err.ensures.result.view;
      none = c.requires.nothing;
    }
