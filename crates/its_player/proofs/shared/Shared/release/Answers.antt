use Rattle.std.proofs.Common.{◌≡◌, ℕ, suc, ◌+◌, List, ◌++◌, take, drop, Some, ap, sym, ◌∙◌, arith}
use Rattle.its_player.specs.Shared.{setup_of, known}
use Rattle.its_steps.specs.Contents.{Held}
use Rattle.its_player.specs.declared.view.View.{View as Known}
use Rattle.its_player.proofs.Positions.{same_read}
use Rattle.std.specs.List.{position}
use Rattle.its_player.specs.Held.{is_kept}
use Rattle.its_player.proofs.HeldParts.{no_part_released, nothing_released, releases}
use Rattle.its_player.proofs.shared.Shared.release.Goals as goal

pub returns-in_default-clause-moves : goal.returns-in_default-clause-moves
returns-in_default-clause-moves c = λ v at p. no_part_released c.args.self.now c.requires.good c.args.at v at p c.args.part c.in_default.ensures

pub returns-in_default-find_kept-clause-moves : goal.returns-in_default-find_kept-clause-moves
returns-in_default-find_kept-clause-moves c = λ v at p. nothing_released c.args.self.now c.args.at c.index-2.result.now v c.args.part c.requires.at
    c.index-2.ensures at p
    (ap (position (is_kept c.args.part)) (sym c.deref.ensures.value) ∙ (sym c.find_kept.ensures ∙ c.in_default-find_kept.is))

pub returns-clause-moves : goal.returns-clause-moves
returns-clause-moves c = λ v at p.
    let w = c.args.self.now in
    let x : Known = c.index_mut-view.result.now in
    let same : c.index-2.result.now ≡ x = same_read w.views.items c.args.at c.index-2.result.now x c.requires.at c.index-2.ensures
    c.index_mut-view.ensures.value in
    let found : position (is_kept c.args.part) x.held.items ≡ Some c.in-Some-find_kept.n =
    ap (λ (u : Known). position (is_kept c.args.part) u.held.items) (sym same) ∙ (ap (position (is_kept c.args.part)) (sym c.deref.ensures.value)
    ∙ (sym c.find_kept.ensures ∙ c.in-Some-find_kept.is)) in
    releases w c.args.at x v c.args.part c.requires.at c.index_mut-view.ensures.value at p c.in-Some.index c.in-Some-find_kept.n
    (record x { held = c.remove.new.self }) c.in-Some.ensures found
    (let more : c.in-Some-find_kept.n + 1 ≡ suc c.in-Some-find_kept.n = omega arith in
    let left : c.remove.new.self.items ≡ take c.in-Some-find_kept.n x.held.items ++ drop (suc c.in-Some-find_kept.n) x.held.items = c.remove.ensures.by_index.2
    ∙ ap (λ (k : ℕ). take c.in-Some-find_kept.n x.held.items ++ drop k x.held.items) more in
    ap (λ (l : List Held). record (known (setup_of w) x) { held = l }) left)
