use Rattle.std.proofs.Common.{◌≡◌, map, Some, true, ap, ◌∙◌, sym}
use Rattle.guest_windows.specs.Windows.{write_at, extent, share_no_byte}
use Rattle.guest_windows.specs.Drafts.{laid, own_by}
use Rattle.guest_windows.proofs.Bytes.{windows_apart}
use Rattle.guest_windows.proofs.Drafting.{extents_laid}
use Rattle.table_save.proofs.Blocks.{block_is, draft_gives}
use Rattle.table_save.proofs.words.put_block.Goals as goal

pub returns : goal.returns
returns c =
    let under = c.args.under.now in
    let memory = laid c.args.draft.now under in
    let now = laid c.write.new.self under in
    let a = c.args.base in
    let bytes = c.write_u64_into.new.dst in
    let apart : share_no_byte (map extent memory) ≡ true =
    ap share_no_byte (extents_laid (own_by c.args.draft.now) 0 under) ∙ windows_apart (map extent under) c.inside.ensures.windows in
    let wrote : write_at memory a bytes ≡ Some now =
    draft_gives (write_at memory a bytes) c.write.result _ _ memory now c.in-Ok.field-0 c.write.ensures.written c.in-Ok.is in
    block_is c.args.words.now memory now a apart (ap (write_at memory a) (sym c.write_u64_into.ensures) ∙ wrote)
