use Rattle.std.proofs.Common.{◌≡◌, ℕ, ◌+◌, ◌*◌, ◌<◌, ◌/◌, ◌%◌, List, [], length, get_or, refl, sym, ap, ◌∙◌, arith}
use Rattle.guest_windows.specs.Pages.{rows, page_row}
use Rattle.guest_windows.proofs.Groups.{chunk_is, group_unheld}
use Rattle.guest_windows.proofs.Fitting.{has_group, zero_chunk}
use Rattle.guest_windows.proofs.frame.Frame.read_piece.Goals as goal

pub returns-then-not-is_held-clause-bytes : goal.returns-then-not-is_held-clause-bytes
returns-then-not-is_held-clause-bytes c k lt =
    let f = c.args.self.now in
    let q : ℕ = c.args.at / 65536 in
    let i : ℕ = c.args.at + k in
    let inside : 65536 * q < f.len = omega (arith, c.requires.inside, c.requires.some) in
    let few : k < length c.args.buf.now = omega (arith, lt, c.read_zeros.ensures.length) in
    let is : i / 65536 / 4096 / 1024 ≡ q / 4096 / 1024 = omega (arith, few, c.requires.page) in
    let none = group_unheld f.groups.items (q / 4096 / 1024) (has_group f q inside) c.index-group.result.now (i / 65536 / 4096) c.index-group.ensures
    (c.is_held.ensures.none c.if-not-is_held.true) is in
    c.read_zeros.ensures.zero k ∙ sym (zero_chunk (rows f.groups.items) (i / 65536) i none refl)

pub returns-clause-bytes : goal.returns-clause-bytes
returns-clause-bytes c k lt =
    let f = c.args.self.now in
    let at = c.args.at in
    let q : ℕ = at / 65536 in
    let rs = rows f.groups.items in
    let g = c.index-group.result.now in
    let inside : 65536 * q < f.len = omega (arith, c.requires.inside, c.requires.some) in
    let within : q / 4096 % 1024 < length g.chunks.items = omega (arith, c.is_held.ensures.whole c.if-not-is_held.false) in
    let read = chunk_is f.groups.items (q / 4096) g c.index-chunk.result.now (has_group f q inside) c.index-group.ensures within c.index-chunk.ensures in
    let few : k < length c.args.buf.now = omega (arith, lt, c.read.ensures.length) in
    let same : q ≡ (at + k) / 65536 = omega (arith, few, c.requires.page) in
    let place : at % 65536 + k ≡ (at + k) % 65536 = omega (arith, few, c.requires.page) in
    c.read.ensures.bytes k few
    ∙ ap (λ (r : List (List ℕ)). get_or (get_or r (q % 4096) []) (at % 65536 + k) 0) (sym read)
    ∙ ap (λ (p : ℕ). get_or (page_row rs p) (at % 65536 + k) 0) same
    ∙ ap (λ (i : ℕ). get_or (page_row rs ((at + k) / 65536)) i 0) place
