use Rattle.std.proofs.Common.{◌≡◌, ℕ, ◌*◌, map, replicate, Some, true, ap, ◌∙◌, arith}
use Rattle.guest_windows.specs.Windows.{write_at, extent, share_no_byte}
use Rattle.guest_windows.specs.Drafts.{laid, own_by}
use Rattle.guest_windows.proofs.Bytes.{windows_apart}
use Rattle.guest_windows.proofs.Drafting.{extents_laid}
use Rattle.table_save.proofs.Blocks.{zeros_are, draft_gives}
use Rattle.table_save.proofs.words.put_zeros.Goals as goal

pub returns-then-inside : goal.returns-then-inside
returns-then-inside c =
    let under = c.args.under.now in
    let memory = laid c.args.draft.now under in
    let now = laid c.forget.new.self under in
    let a = c.args.base in
    let apart : share_no_byte (map extent memory) ≡ true =
    ap share_no_byte (extents_laid (own_by c.args.draft.now) 0 under) ∙ windows_apart (map extent under) c.inside.ensures.windows in
    let size : 8 * c.args.count ≡ 8 * c.from-size.result = omega (arith, c.from-size.ensures) in
    let wrote : write_at memory a (replicate (8 * c.from-size.result) 0) ≡ Some now =
    draft_gives (write_at memory a (replicate (8 * c.from-size.result) 0)) c.forget.result _ _ memory now
    c.in-Ok.field-0 c.forget.ensures.forgotten c.in-Ok.is in
    zeros_are c.args.count memory now a apart (ap (λ (n : ℕ). write_at memory a (replicate n 0)) size ∙ wrote)
