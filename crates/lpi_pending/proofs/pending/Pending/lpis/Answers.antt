use Rattle.std.proofs.Common.{◌*◌, length, sym, ◌∙◌, arith}
use Rattle.lpi_pending.proofs.Nexts.{pushed, no_more}
use Rattle.lpi_pending.proofs.pending.Pending.lpis.Goals as goal

pub loop-at-preserved : goal.loop-at-preserved
loop-at-preserved c =
    let words = c.self.inside.bitmap in
    record {
      within = let lt = c.in-Some.ensures.below in omega arith;
      are = pushed words c.loop-at.from (64 * length words) c.in-Some.at _ c.loop-at.lpis.items c.push.new.self.items c.in-Some.ensures
          (omega arith) c.in_ok-push.ensures.items c.loop-at.invariant.are;
    }

pub returns : goal.returns
returns c =
    let words = c.self.inside.bitmap in
    rw (← c.self.view_is) (c.loop-at.invariant.are ∙ sym (no_more words c.loop-at.from c.loop-at.invariant.within c.in_default.ensures))
