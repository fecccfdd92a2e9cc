use Rattle.std.proofs.Common.{set, ◌≡◌, Some, ap, sym, ◌∙◌}
use Rattle.std.specs.Vec.{with_item}
use Rattle.its_steps.specs.Contents.{Held}
use Rattle.its_player.specs.Shared.{setup_of, known}
use Rattle.its_player.specs.declared.view.View.{View as Known}
use Rattle.its_player.proofs.Positions.{same_read}
use Rattle.std.specs.List.{position}
use Rattle.its_player.specs.Held.{is_kept}
use Rattle.its_player.proofs.HeldParts.{no_part_out, nothing_out, takes_out}
use Rattle.its_player.proofs.shared.Shared.take_out.Goals as goal

pub returns-in_default-clause-moves : goal.returns-in_default-clause-moves
returns-in_default-clause-moves c = λ v at p. no_part_out c.args.self.now c.requires.good c.args.at v at p c.args.part c.in_default.ensures

pub returns-in_default-find_kept-clause-moves : goal.returns-in_default-find_kept-clause-moves
returns-in_default-find_kept-clause-moves c = λ v at p. nothing_out c.args.self.now c.args.at c.index-2.result.now v c.args.part c.requires.at c.index-2.ensures
    at p
    (ap (position (is_kept c.args.part)) (sym c.deref.ensures.value) ∙ (sym c.find_kept.ensures ∙ c.in_default-find_kept.is))

pub returns-clause-moves : goal.returns-clause-moves
returns-clause-moves c = λ v at p.
    let w = c.args.self.now in
    let x : Known = c.index_mut-view.result.now in
    let same : c.index-2.result.now ≡ x = same_read w.views.items c.args.at c.index-2.result.now x c.requires.at c.index-2.ensures
    c.index_mut-view.ensures.value in
    let found : position (is_kept c.args.part) x.held.items ≡ Some c.in-Some-find_kept.n =
    ap (λ (u : Known). position (is_kept c.args.part) u.held.items) (sym same) ∙ (ap (position (is_kept c.args.part)) (sym c.deref.ensures.value)
    ∙ (sym c.find_kept.ensures ∙ c.in-Some-find_kept.is)) in
    takes_out w c.args.at x v c.args.part c.requires.at c.index_mut-view.ensures.value at p c.in-Some.index c.in-Some-find_kept.n c.index_mut-held.result.now
    (record x { held = with_item x.held c.in-Some-find_kept.n c.take_out.new.self }) c.in-Some.ensures found c.index_mut-held.ensures.value
    (ap (λ (y : Held). record (known (setup_of w) x) { held = set x.held.items c.in-Some-find_kept.n y }) c.take_out.ensures)
