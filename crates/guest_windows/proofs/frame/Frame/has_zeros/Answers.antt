use Rattle.std.proofs.Common.{◌≡◌, ◌+◌, ◌/◌, ◌%◌, ◌<◌, ◌≤◌, ℕ, List, [], length, get_or, refl, sym, ap, ◌∙◌, arith, true}
use Rattle.std.specs.Prelude.{slice_index}
use Rattle.std.proofs.lemmas.Bool.{OnTrue_from}
use Rattle.guest_windows.specs.Pages.{rows, page_row, byte_in}
use Rattle.guest_windows.proofs.Fitting.{zero_at}
use Rattle.guest_windows.proofs.Holding.{none_in_page}
use Rattle.guest_windows.proofs.frame.Frame.has_zeros.Goals as goal

pub returns-then-not-held : goal.returns-then-not-held
returns-then-not-held c =
    let rs = rows c.args.self.now.groups.items in
    let bytes = c.args.bytes.now in
    let at = c.args.start in
    let small : at % 65536 + length bytes ≤ 65536 = omega (arith, c.if-start-bytes-gt65536.false) in
    let none : page_row rs (at / 65536) ≡ [] = ap (λ (r : List (List ℕ)). get_or r (at / 65536 % 4096) []) (sym c.chunk_of.ensures)
    ∙ c.if-not-held.ensures.none refl in
    let Same : Type 0 = (k : ℕ) → k < length bytes → byte_in rs (at + k) ≡ slice_index bytes k in
    let same : c.are_zeros.result ≡ true → Same = λ yes k lt. none_in_page rs (at / 65536) (at + k) none (omega (arith, lt, small))
    ∙ sym (zero_at bytes (sym c.are_zeros.ensures ∙ yes) k) in
    OnTrue_from c.are_zeros.result Same same
