use Rattle.std.proofs.Common.{◌≡◌, true, ◌+◌, ◌*◌, ◌<◌, length, ap, ◌∙◌, arith}
use Rattle.std.proofs.lemmas.List.{length-set}
use Rattle.guest_windows.specs.Windows.{inside}
use Rattle.lpi_pending.proofs.Windows.{inside_part, number_inside}
use Rattle.lpi_pending.proofs.Tables.{read_answers, word_read}
use Rattle.lpi_pending.proofs.bitmap.Bitmap.read.Goals as goal

pub unreachable-requires : goal.unreachable-requires
unreachable-requires c =
    let memory = c.args.memory.now in
    let first = c.args.first.0 in
    let words = length c.args.self.now in
    let here : c.loop-at.at < words = omega (arith, c.self.inside.words.ok.0, ap length c.self.view_is) in
    let word : inside memory (first + 8 * c.loop-at.at) 8 ≡ true = inside_part memory first (8 * words) (first + 8 * c.loop-at.at) 8 (omega arith)
    (omega (arith, here)) c.requires.inside in
    c.in_default.not-Ok _ (read_answers _ _ _ c.read_u64.result (number_inside memory (first + 8 * c.loop-at.at) word) c.read_u64.ensures.number)

pub loop-at-preserved : goal.loop-at-preserved
loop-at-preserved c =
    let here : c.loop-at.at < length c.loop-at.self = omega (arith, c.self.inside.words.ok.0, ap length c.self.view_is, c.loop-at.invariant.size) in
    rw c.put_word.ensures
    (record {
      size = length-set c.loop-at.self c.loop-at.at c.in-Ok.word ∙ c.loop-at.invariant.size;
      bits = word_read c.args.memory.now c.args.first.0 c.loop-at.self c.loop-at.at c.in-Ok.word here c.loop-at.invariant.bits c.in-Ok.ensures.bytes;
    })
