use Rattle.std.proofs.Common.{List, length, sym, ap, ◌∙◌}
use Rattle.guest_windows.specs.Windows.{Window}
use Rattle.std.proofs.lemmas.Result.{on_ok_weaker}
use Rattle.owned_machine.specs.Pieces.{with_pieces, piece_count}
use Rattle.owned_machine.proofs.LongWrites.{once_put, pieces_put}
use Rattle.owned_machine.proofs.stretches.put_all.Goals as goal

pub returns-then-inside-clause-done : goal.returns-then-inside-clause-done
returns-then-inside-clause-done c =
    let memory = c.args.memory.now in
    on_ok_weaker c.put.result (λ done. done ∙ once_put memory c.args.address c.args.bytes.now (sym c.inside.ensures.inside ∙ c.if-inside.true))
    c.put.ensures.done

pub returns-clause-done : goal.returns-clause-done
returns-clause-done c =
    let memory = c.args.memory.now in
    c.in_ok-put_pieces.ensures ∙ ap (λ (m : List Window). with_pieces m c.args.address c.args.bytes.now (piece_count (length c.args.bytes.now)))
    c.in_ok-copy.ensures ∙ pieces_put memory c.args.address c.args.bytes.now (sym c.inside.ensures.inside ∙ c.if-inside.false)
