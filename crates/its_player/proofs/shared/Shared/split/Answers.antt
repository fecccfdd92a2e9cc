use Rattle.std.proofs.Common.{◌≡◌, ◌+◌, ap, sym, ◌∙◌, inl, arith}
use Rattle.its_player.specs.Shared.{setup_of, known}
use Rattle.its_steps.specs.World.{View, fresh, loaded}
use Rattle.its_player.specs.declared.view.View.{View as Known}
use Rattle.its_player.proofs.PassSeats.{no_split, has_split_off}
use Rattle.its_player.proofs.Positions.{same_read}
use Rattle.its_player.proofs.shared.Shared.split.Goals as goal

pub returns-then-index-ne0-clause-moves : goal.returns-then-index-ne0-clause-moves
returns-then-index-ne0-clause-moves c = λ v at p. no_split c.args.self.now c.args.at c.index.result.now v c.requires c.index.ensures at p
    (λ root room. absurd (c.if-index-ne0.true root))

pub returns-then-made-ge-NUMBERS-clause-moves : goal.returns-then-made-ge-NUMBERS-clause-moves
returns-then-made-ge-NUMBERS-clause-moves c = λ v at p. no_split c.args.self.now c.args.at c.index-2.result.now v c.requires c.index-2.ensures at p
    (λ root room. absurd (let large = c.if-made-ge-NUMBERS.true in omega arith))

pub returns-clause-moves : goal.returns-clause-moves
returns-clause-moves c = λ v at p.
    let w = c.args.self.now in
    let x : Known = c.index_mut-view.result.now in
    let one : c.index.result.now ≡ x = same_read w.views.items c.args.at c.index.result.now x c.requires c.index.ensures c.index_mut-view.ensures.value in
    let two : c.index-2.result.now ≡ x = same_read w.views.items c.args.at c.index-2.result.now x c.requires c.index-2.ensures c.index_mut-view.ensures.value in
    let made : c.index-2.result.now.root.made ≡ x.root.made = ap (λ (u : Known). u.root.made) two in
    let seen : c.in_ok-seen.seen.items ≡ w.history.items = c.in_ok-seen.ensures.items ∙ c.deref.ensures.value in
    let first : c.in_ok-seen_first.seen_first.items ≡ w.history.items = c.in_ok-seen_first.ensures.items ∙ c.deref-2.ensures.value in
    let h = c.if-made-ge-NUMBERS.false in
    let k = c.if-index-ne0.false in
    inl (has_split_off w c.args.at x v c.requires c.index_mut-view.ensures.value at p
    (record c.load.new.self { root = record c.load.new.self.root { made = c.index-2.result.now.root.made + 1 } }) c.fresh-new.result
    (sym (ap (λ (u : Known). u.number) one) ∙ k) (omega (arith, h, made))
    (ap (λ (u : View). record u { root = record u.root { made = c.index-2.result.now.root.made + 1 } }) (c.load.ensures (setup_of w))
    ∙ (λ d. record (loaded (known (setup_of w) x) w.word (seen d)) { root = record (known (setup_of w) x).root { made = made d + 1 } }))
    (c.fresh-new.ensures (setup_of w) ∙ (λ d. fresh (setup_of w) (made d) 0 (first d) w.word)) c.push.new.self.items c.in_ok-push.ensures.items)
