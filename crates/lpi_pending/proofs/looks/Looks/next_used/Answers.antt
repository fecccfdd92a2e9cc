use Rattle.std.proofs.Common.{◌≡◌, ◌+◌, length, get_or, refl, ap, arith}
use Rattle.lpi_pending.specs.Looks.{Looked}
use Rattle.lpi_pending.proofs.Searching.{no_used_from, next_used_is}
use Rattle.lpi_pending.proofs.looks.Looks.next_used.Goals as goal

pub returns-in_default-clause-found : goal.returns-in_default-clause-found
returns-in_default-clause-found g c =
    let i = c.self.inside in
    let s = c.self.invariant.summarized in
    let same : length i.words.now ≡ length c.args.self.now.words = ap (λ (l : Looked). length l.words) c.self.view_is in
    rw (← c.self.view_is) (no_used_from i.summary.now i.words.now c.args.from s (omega (arith, s.size, same, c.requires)) c.in_default.ensures)

pub returns-clause-found : goal.returns-clause-found
returns-clause-found g c =
    let i = c.self.inside in
    rw (← c.self.view_is)
    (next_used_is i.summary.now i.words.now c.args.from c.in-Some.skipped (get_or i.summary.now (c.args.from + c.in-Some.skipped) 0)
    c.self.invariant.summarized c.in-Some.ensures refl)
