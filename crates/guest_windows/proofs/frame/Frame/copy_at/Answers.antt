use Rattle.std.proofs.Common.{◌+◌, ◌-◌, ◌≤◌, ◌∙◌, arith, inl, inr}
use Rattle.std.proofs.lemmas.Bool.{cases_lt}
use Rattle.guest_windows.proofs.frame.Frame.copy_at.Goals as goal

pub loop-done-preserved : goal.loop-done-preserved
loop-done-preserved c =
    let done = c.loop-done.done in
    let n = c.within_page-count.result in
    let inv = c.loop-done.invariant in
    let most : n ≤ c.args.len - done = c.within_page-count.ensures.most in
    record {
      within = omega (arith, most, inv.within);
      here = λ i low high. elim (cases_lt i (c.args.start + done)) [
        | inl before ↦ c.copy_piece.ensures.others i (inl before) ∙ inv.here i low before
        | inr past ↦ c.copy_piece.ensures.here i past (omega (arith, high))
      ];
      others = λ i out.
          c.copy_piece.ensures.others i (elim out [ inl low ↦ inl (omega (arith, low)) | inr high ↦ inr (omega (arith, high)) ])
          ∙ inv.others i (elim out [ inl low ↦ inl low | inr high ↦ inr (omega (arith, high)) ]);
      held = λ i low high. c.copy_piece.ensures.still i (inv.held i low high);
      still = λ i long. c.copy_piece.ensures.still i (inv.still i long);
      base = c.copy_piece.ensures.base ∙ inv.base;
      len = c.copy_piece.ensures.len ∙ inv.len;
    }
