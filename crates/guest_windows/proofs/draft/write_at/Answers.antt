use Rattle.std.proofs.Common.{◌≡◌, ◌+◌, ◌-◌, ◌≤◌, ℕ, length, ap, ◌∙◌, arith, inl, inr}
use Rattle.std.proofs.lemmas.Bool.{cases_lt}
use Rattle.guest_windows.specs.Drafts.{byte_laid}
use Rattle.guest_windows.proofs.Fitting.{piece_byte, piece_length}
use Rattle.guest_windows.proofs.draft.write_at.Goals as goal

pub loop-done-preserved : goal.loop-done-preserved
loop-done-preserved c =
    let done = c.loop-done.done in
    let n = c.within_page-count.result in
    let inv = c.loop-done.invariant in
    let fits : done + n ≤ length c.args.bytes.now = omega (arith, c.within_page-count.ensures.most, inv.within) in
    let long = piece_length done (done + n) c.args.bytes.now fits in
    let put = c.in_ok-put_piece.ensures in
    record {
      within = fits;
      here = λ k lt. elim (cases_lt k done) [
        | inl before ↦ put.others (c.args.start + k) (inl (omega (arith, before))) ∙ inv.here k before
        | inr past ↦
            let at : c.args.start + k ≡ c.args.start + done + (k - done) = omega (arith, past) in
            ap (λ (i : ℕ). byte_laid c.put_piece.new.chunks.items c.args.frame.now c.args.window i) at
            ∙ put.here (k - done) (omega (arith, long, lt, past)) ∙ piece_byte done (done + n) k c.args.bytes.now past lt
      ];
      others = λ i out.
          put.others i (elim out [ inl low ↦ inl (omega (arith, low)) | inr high ↦ inr (omega (arith, high, long)) ])
          ∙ inv.others i (elim out [ inl low ↦ inl low | inr high ↦ inr (omega (arith, high)) ]);
      apart = λ k page other. put.apart k page other ∙ inv.apart k page other;
    }
