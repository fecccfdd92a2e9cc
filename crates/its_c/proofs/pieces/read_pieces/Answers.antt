use Rattle.std.proofs.Common.{◌≡◌, ◌<◌, ℕ, ◌+◌, ◌*◌, List, [], length, Some, unwrap_or, sym, ap, ◌∙◌, subst, arith}
use Rattle.guest_windows.specs.Windows.{read_at}
use Rattle.guest_windows.proofs.Laws.{length-read_at, read_inside}
use Rattle.guest_windows.proofs.Splices.{length-splice}
use Rattle.its_c.proofs.PieceSteps.{next_read}
use Rattle.owned_machine.specs.Pieces.{piece_length, piece_count}
use Rattle.its_c.proofs.pieces.read_pieces.Goals as goal

pub loop-i-preserved : goal.loop-i-preserved
loop-i-preserved c =
    let m = c.args.memory.now in
    let before = c.loop-i.buffer in
    let after = c.read_piece.new.buffer in
    let i = c.loop-i.i in
    let at = c.args.address + 64 * i in
    let n = length c.args.buffer.now in
    let same_length : length before ≡ n = c.loop-i.invariant.length in
    let small : i < piece_count n = subst (λ (k : ℕ). i < k) c.piece_count-i-end.ensures c.loop-i-test.true in
    let below : i < piece_count (length before) = subst (λ (l : ℕ). i < piece_count l) (sym same_length) small in
    let l = piece_length n i in
    let long : c.piece_length.result ≡ l = c.piece_length.ensures.length in
    let bytes : List ℕ = unwrap_or (read_at m at l) [] in
    let found : read_at m at l ≡ Some bytes = read_inside m at l [] (c.requires.pieces i small) in
    let put = c.read_piece.ensures bytes (ap (λ (k : ℕ). read_at m at k) long ∙ found) in
    let piece_long : length bytes ≡ l = length-read_at m at l bytes found in
    let turned : read_at m at (piece_length (length before) i) ≡ Some bytes = ap (λ (k : ℕ). read_at m at (piece_length k i)) same_length ∙ found in
    record {
      length = ap (λ (xs : List ℕ). length xs) put
          ∙ length-splice (64 * i) bytes before (omega (arith, piece_long, long, same_length, c.piece_length.ensures.ends)) ∙ same_length;
      read = next_read m c.args.address i before after bytes below c.loop-i.invariant.read turned put;
    }
