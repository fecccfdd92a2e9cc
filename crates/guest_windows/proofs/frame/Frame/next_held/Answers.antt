use Rattle.std.proofs.Common.{◌/◌, arith, inl, inr}
use Rattle.std.proofs.lemmas.Bool.{cases_lt}
use Rattle.guest_windows.proofs.frame.Frame.next_held.Goals as goal

pub loop-page-preserved : goal.loop-page-preserved
loop-page-preserved c =
    let l = c.loop-page in
    record {
      low = omega (arith, l.invariant.low, c.next_from-next.ensures.order);
      zero = λ i low high. elim (cases_lt (i / 65536) l.page) [
        | inl before ↦ l.invariant.zero i low before
        | inr at ↦ c.next_from-next.ensures.zero i (omega (arith, at)) high
      ];
      skipped = λ page low high. elim (cases_lt page l.page) [
        | inl before ↦ l.invariant.skipped page low before
        | inr at ↦ c.next_from-next.ensures.skipped page (omega (arith, at)) high
      ];
    }
