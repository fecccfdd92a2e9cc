use Rattle.std.proofs.Common.{◌≡◌, length, ap, sym, arith}
use Rattle.lpi_pending.specs.Looks.{Looked}
use Rattle.lpi_pending.proofs.Searching.{ready_bit}
use Rattle.lpi_pending.proofs.looks.Looks.ready.Goals as goal

pub offset_bounds-words-at : goal.offset_bounds-words-at
offset_bounds-words-at g c =
    let s = c.self.invariant.summarized in
    let same : length c.self.inside.words.now ≡ length c.args.self.now.words = ap (λ (l : Looked). length l.words) c.self.view_is in
    omega (arith, s.size, s.small, same, c.requires)

pub returns-clause-bits : goal.returns-clause-bits
returns-clause-bits g c k lt =
    rw (← c.self.view_is)
    (sym (ready_bit c.self.inside.words.now c.self.inside.config.now.bytes c.args.at c.enabled_word.result k lt (c.enabled_word.ensures k lt)))

pub returns-clause-small : goal.returns-clause-small
returns-clause-small g c =
    let s = c.self.invariant.summarized in
    let same : length c.self.inside.words.now ≡ length c.args.self.now.words = ap (λ (l : Looked). length l.words) c.self.view_is in
    omega (arith, s.size, s.small, same, c.requires)
