use Rattle.std.proofs.Common.{◌/◌, ◌%◌, ◌<◌, length, refl, ap, sym, ◌∙◌, arith}
use Rattle.guest_windows.specs.Chunks.{page_rows}
use Rattle.guest_windows.proofs.Groups.{chunk_is, group_unheld}
use Rattle.guest_windows.proofs.Fitting.{has_group}
use Rattle.guest_windows.proofs.frame.Frame.chunk_of.Goals as goal

pub returns-then-is_held : goal.returns-then-is_held
returns-then-is_held c =
    let f = c.args.self.now in
    let q = c.args.page in
    let g = c.index-group.result.now in
    let within : q / 4096 % 1024 < length g.chunks.items = omega (arith, c.if-is_held.ensures.whole refl) in
    sym (chunk_is f.groups.items (q / 4096) g c.index.result.now (has_group f q c.requires) c.index-group.ensures within c.index.ensures)

pub returns-else-is_held : goal.returns-else-is_held
returns-else-is_held c =
    let f = c.args.self.now in
    let q = c.args.page in
    let g = c.index-group.result.now in
    ap page_rows f.blank
    ∙ sym (group_unheld f.groups.items (q / 4096 / 1024) (has_group f q c.requires) g (q / 4096) c.index-group.ensures (c.if-is_held.ensures.none refl) refl)
