use Rattle.std.proofs.Common.{◌≢◌, ◌∙◌, arith}
use Rattle.std.proofs.lemmas.List.{get_or-set_other}
use Rattle.lpi_config.specs.Bounds.{least_of_group}
use Rattle.lpi_config.proofs.LeastPriorities.{set_more, group_by_words}
use Rattle.lpi_config.proofs.bounds.put_groups.Goals as goal

pub loop-at-preserved : goal.loop-at-preserved
loop-at-preserved c =
    let there = c.loop-at-test.true in
    record {
      anew = set_more c.loop-at.groups c.loop-at.at c.least_number.result (least_of_group c.args.words.now)
          (omega (arith, there, c.requires.room, c.loop-at.auto.groups)) c.loop-at.invariant.anew
          (c.least_number.ensures ∙ group_by_words c.args.words.now c.bytes_at.result.now c.loop-at.at (omega (arith, there)) c.bytes_at.ensures);
      others = λ k le.
          let other : k ≢ c.loop-at.at = omega (arith, le) in
          get_or-set_other c.loop-at.groups c.loop-at.at k c.least_number.result 0 other ∙ c.loop-at.invariant.others k (omega (arith, le));
    }
