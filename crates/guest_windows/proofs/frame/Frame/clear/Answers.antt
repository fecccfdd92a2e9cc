use Rattle.std.proofs.Common.{◌*◌, ◌<◌, List, ℕ, length, ap, ◌∙◌, arith, sym}
use Rattle.std.proofs.lemmas.List.{ext_get_or, length-replicate, get_or-replicate}
use Rattle.guest_windows.specs.Pages.{rows, page_row, bytes_of}
use Rattle.guest_windows.proofs.Sparse.{length-bytes, byte_of}
use Rattle.guest_windows.proofs.frame.Frame.clear.Goals as goal

pub clear_page-requires-clause-held : goal.clear_page-requires-clause-held
clear_page-requires-clause-held c =
    let l = c.loop-page in
    let inside : 65536 * l.page < l.self.len = omega (arith, c.loop-page-test.true, c.div_ceil-page-end.ensures, l.auto.page-end, l.invariant.len) in
    ap (λ (p : ℕ). length (page_row (rows l.self.groups.items) p)) (omega arith) ∙ l.invariant.whole (65536 * l.page) (omega arith) (omega (arith, inside))

pub returns-clause-zero : goal.returns-clause-zero
returns-clause-zero c =
    let l = c.loop-page in
    let before = c.args.self.now in
    let n = before.len in
    let rs = rows l.self.groups.items in
    ap (λ (b : ℕ). record { base = b; bytes = bytes_of l.self.len rs }) l.invariant.base
    ∙ ap (λ (m : ℕ). record { base = before.base; bytes = bytes_of m rs }) l.invariant.len
    ∙ ap (λ (bs : List ℕ). record { base = before.base; bytes = bs })
    (ext_get_or 0 (bytes_of n rs) _ (length-bytes n rs ∙ sym (length-replicate n 0)) (λ i lt.
    let below : i < n = omega (arith, lt, length-bytes n rs) in
    byte_of n rs i below
    ∙ l.invariant.zero i (omega (arith, below, c.loop-page-test.false, c.div_ceil-page-end.ensures, l.auto.page-end))
    ∙ sym (get_or-replicate n i 0 0 below)))
