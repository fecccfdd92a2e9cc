use Rattle.std.proofs.Common.{rules, ◌≡◌, ◌+◌, ◌-◌, ◌<◌, ◌≤◌, ℕ, length, get_or, ap, ◌∙◌, arith, inl, inr}
use borrow.Rule.Slice.PartMut.{put_mid}
use Rattle.std.proofs.lemmas.Bool.{cases_lt}
use Rattle.std.proofs.lemmas.List.{places}
use Rattle.guest_windows.specs.Pages.{rows, byte_in}
use Rattle.guest_windows.proofs.Fitting.{piece_length}
use Rattle.guest_windows.proofs.frame.Frame.read_at.Goals as goal

pub loop-done-preserved : goal.loop-done-preserved
loop-done-preserved c =
    let done = c.loop-done.done in
    let n = c.within_page-count.result in
    let inv = c.loop-done.invariant in
    let rs = rows c.args.self.now.groups.items in
    let fits : done + n ≤ length c.loop-done.buf = omega (arith, c.within_page-count.ensures.most, inv.within) in
    let long = c.read_piece.ensures.length ∙ piece_length done (done + n) c.loop-done.buf fits in
    let after = put_mid done (done + n - done) c.loop-done.buf c.read_piece.new.buf in
    let whole : length after ≡ length c.loop-done.buf = search (rules, places, long, fits) in
    let below : (k : ℕ) → k < done → get_or after k 0 ≡ get_or c.loop-done.buf k 0 = λ k lt. search (rules, places, lt, fits, long) in
    let there : (k : ℕ) → k < done + n → done ≤ k → get_or after k 0 ≡ get_or c.read_piece.new.buf (k - done) 0 = λ k lt past. search
    (rules, places, lt, past, fits, long) in
    record {
      size = whole ∙ inv.size;
      within = omega (arith, whole, fits);
      read = λ k lt. elim (cases_lt k done) [
        | inl before ↦ below k before ∙ inv.read k before
        | inr past ↦
            there k lt past ∙ c.read_piece.ensures.bytes (k - done) (omega (arith, lt, past, fits, long))
            ∙ ap (λ (i : ℕ). byte_in rs i) (omega (arith, past))
      ];
    }
