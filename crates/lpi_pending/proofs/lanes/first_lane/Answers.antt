use Rattle.std.proofs.Common.{not, eqb, sym, ◌∙◌, arith}
use Rattle.std.specs.Int.{w64}
use Rattle.std.proofs.lemmas.Simd.{bitmask_splat}
use Rattle.lpi_pending.specs.Summaries.{is_nonzero}
use Rattle.lpi_pending.proofs.Masks.{position_by_mask, none_by_mask}
use Rattle.lpi_pending.proofs.lanes.first_lane.Goals as goal

pub returns-then-mask-eq0 : goal.returns-then-mask-eq0
returns-then-mask-eq0 c =
    none_by_mask is_nonzero c.args.four.now
    (sym (bitmask_splat w64 (λ a b. not (eqb a b)) c.args.four.now 4 0 c.told-four (omega arith)) ∙ c.if-mask-eq0.true)

pub returns-else-mask-eq0 : goal.returns-else-mask-eq0
returns-else-mask-eq0 c =
    position_by_mask is_nonzero c.args.four.now _ (bitmask_splat w64 (λ a b. not (eqb a b)) c.args.four.now 4 0 c.told-four (omega arith)) (omega arith)
    (omega (arith, c.told-four)) (omega (arith, c.if-mask-eq0.false))
