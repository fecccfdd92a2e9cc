use Rattle.std.proofs.Common.{◌≡◌, true, false, eqb, eq-eqb, List, [], length, set, Some, refl, ap, sym, ◌∙◌, inl}
use Rattle.std.proofs.lemmas.Bool.{eqb-true}
use Rattle.std.proofs.lemmas.List.Quantifiers.{position-Some}
use Rattle.its_steps.specs.Contents.{Held}
use Rattle.its_steps.specs.declared.standing.Standing.TheVariants.{Spent}
use Rattle.its_player.proofs.Positions.{no_items, same_read}
use Rattle.std.specs.List.{position}
use Rattle.its_player.specs.Shared.{setup_of, known, is_pass}
use Rattle.its_steps.specs.World.{loaded, has_joined}
use Rattle.its_player.specs.declared.view.View.{View as Known}
use Rattle.its_player.proofs.PassesMet.{not_root, none_to_join, not_bare, joins}
use Rattle.its_player.proofs.shared.Shared.join.Goals as goal

pub returns-then-index-ne0-clause-moves : goal.returns-then-index-ne0-clause-moves
returns-then-index-ne0-clause-moves c = λ v at p. not_root c.args.self.now c.args.at c.index.result.now v c.requires.at c.index.ensures at p c.args.number
    c.if-index-ne0.true

pub returns-in_default-clause-moves : goal.returns-in_default-clause-moves
returns-in_default-clause-moves c = λ v at p. none_to_join c.args.self.now c.args.at c.index.result.now v c.requires.at c.index.ensures at p c.args.number
    (ap (position (is_pass c.args.number)) (sym c.deref.ensures.value) ∙ (sym c.find_pass.ensures ∙ c.in_default.is))

pub returns-then-not-is_empty-clause-moves : goal.returns-then-not-is_empty-clause-moves
returns-then-not-is_empty-clause-moves c = λ v at p.
    let held = c.index-2.result.now.held in
    let full : held.items ≡ [] → ⊥ = λ e. absurd (let long : held.len ≡ 0 = held.ok.0 ∙ ap (λ (l : List Held). length l) e in let fails : eqb held.len 0
    ≡ false = sym c.is_empty.ensures ∙ c.if-not-is_empty.true in let one = eq-eqb held.len 0 long in let two : true ≡ false = sym one ∙ fails in cc) in
    not_bare c.args.self.now c.args.at c.index.result.now v c.requires.at c.index.ensures at p c.requires.good c.args.number c.in-Some.index
    c.index-2.result.now (ap (position (is_pass c.args.number)) (sym c.deref.ensures.value) ∙ (sym c.find_pass.ensures ∙ c.in-Some.is)) c.index-2.ensures
    full

pub returns-clause-moves : goal.returns-clause-moves
returns-clause-moves c = λ v at p.
    let w = c.args.self.now in
    let s = setup_of w in
    let y : Known = c.index_mut-taken.result.now in
    let found : position (is_pass c.args.number) w.views.items ≡ Some c.in-Some.index = ap (position (is_pass c.args.number)) (sym c.deref.ensures.value)
    ∙ (sym c.find_pass.ensures ∙ c.in-Some.is) in
    let f = position-Some (is_pass c.args.number) w.views.items c.in-Some.index y found in
    let same : c.index-2.result.now ≡ y = same_read w.views.items c.in-Some.index c.index-2.result.now y f.0 c.index-2.ensures
    c.index_mut-taken.ensures.value in
    let held = c.index-2.result.now.held in
    let passed : eqb held.len 0 ≡ true = sym c.is_empty.ensures ∙ c.if-not-is_empty.false in
    let bare : y.held.items ≡ [] = ap (λ (u : Known). u.held.items) (sym same) ∙ no_items held.items (sym held.ok.0 ∙ eqb-true held.len 0 passed) in
    let seen : c.in_ok-seen.seen.items ≡ w.history.items = c.in_ok-seen.ensures.items ∙ c.deref-2.ensures.value in
    let gone : c.replace-other.new.dest.standing ≡ Spent = ap (λ (u : Known). u.standing) c.replace-other.ensures.after ∙ c.spent.ensures in
    inl (joins w c.args.at c.index.result.now v c.requires.at c.index.ensures at p c.args.number c.in-Some.index y c.index_mut-view.result.now c.load.new.self
    c.replace-other.new.dest c.if-index-ne0.false c.if-number-eq0.false found c.index_mut-taken.ensures.value bare gone c.index_mut-view.ensures.value
    (c.load.ensures s ∙ ((λ d. loaded (c.in_ok-join.ensures s d) w.word (seen d))
    ∙ ap (λ (u : Known). loaded (has_joined (known s c.index_mut-view.result.now) (known s u)) w.word w.history.items) c.replace-other.ensures.value))
    (set (set w.views.items c.in-Some.index c.replace-other.new.dest) c.args.at c.load.new.self) refl)
