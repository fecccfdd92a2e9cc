use Rattle.std.proofs.Common.{◌≡◌, ◌+◌, ◌-◌, ◌≤◌, ℕ, length, ap, ◌∙◌, arith, inl, inr}
use Rattle.std.proofs.lemmas.Bool.{cases_lt}
use Rattle.guest_windows.specs.Pages.{rows, byte_in}
use Rattle.guest_windows.proofs.Fitting.{piece_byte, piece_length}
use Rattle.guest_windows.proofs.frame.Frame.write_at.Goals as goal

pub loop-done-preserved : goal.loop-done-preserved
loop-done-preserved c =
    let done = c.loop-done.done in
    let n = c.within_page-count.result in
    let inv = c.loop-done.invariant in
    let fits : done + n ≤ length c.args.bytes.now = omega (arith, c.within_page-count.ensures.most, inv.within) in
    let long = piece_length done (done + n) c.args.bytes.now fits in
    record {
      within = fits;
      here = λ k lt. elim (cases_lt k done) [
        | inl before ↦ c.put_piece.ensures.others (c.args.start + k) (inl (omega (arith, before))) ∙ inv.here k before
        | inr past ↦
            let at : c.args.start + k ≡ c.args.start + done + (k - done) = omega (arith, past) in
            ap (λ (i : ℕ). byte_in (rows c.put_piece.new.self.groups.items) i) at
            ∙ c.put_piece.ensures.here (k - done) (omega (arith, long, lt, past)) ∙ piece_byte done (done + n) k c.args.bytes.now past lt
      ];
      others = λ i out.
          c.put_piece.ensures.others i (elim out [ inl low ↦ inl (omega (arith, low)) | inr high ↦ inr (omega (arith, high, long)) ])
          ∙ inv.others i (elim out [ inl low ↦ inl low | inr high ↦ inr (omega (arith, high)) ]);
      held = λ i low high. c.put_piece.ensures.still i (inv.held i low high);
      still = λ i long. c.put_piece.ensures.still i (inv.still i long);
      base = c.put_piece.ensures.base ∙ inv.base;
      len = c.put_piece.ensures.len ∙ inv.len;
    }
