use Rattle.std.proofs.Common.{◌≡◌, ◌<◌, true, length, set, get_or, refl, ap, sym, ◌∙◌, inl, arith}
use Rattle.its_player.specs.Shared.{setup_of, known, is_standing_note}
use Rattle.its_steps.specs.World.{loaded, has_met}
use Rattle.its_player.specs.declared.view.View.{View as Known}
use Rattle.its_steps.specs.declared.standing.Standing.TheVariants.{Spent}
use Rattle.its_player.proofs.Positions.{any_default, same_read}
use Rattle.its_player.proofs.PassesMet.{no_note, no_index, no_note_at, meets}
use Rattle.its_player.proofs.shared.Shared.meet.Goals as goal

pub returns-then-n-len-clause-moves : goal.returns-then-n-len-clause-moves
returns-then-n-len-clause-moves c = λ v at p.
    let w = c.args.self.now in
    no_note w c.args.at v c.args.n (let long = c.if-n-len.true in omega (arith, long, c.len.ensures, w.notes.ok.0))

pub returns-then-index-len-clause-moves : goal.returns-then-index-len-clause-moves
returns-then-index-len-clause-moves c = λ v at p.
    let w = c.args.self.now in
    let short = c.if-n-len.false in
    let long = c.if-index-len.true in
    no_index w c.args.at v c.args.n c.index-index.result.now (omega (arith, short, c.len.ensures, w.notes.ok.0)) c.index-index.ensures
    (omega (arith, long, c.len-2.ensures, w.views.ok.0))

pub returns-then-not-is_note-clause-moves : goal.returns-then-not-is_note-clause-moves
returns-then-not-is_note-clause-moves c = λ v at p.
    let w = c.args.self.now in
    let short = c.if-n-len.false in
    let within = c.if-index-len.false in
    no_note_at w c.args.at v c.args.n c.index-index.result.now c.index.result.now (omega (arith, short, c.len.ensures, w.notes.ok.0)) c.index-index.ensures
    (omega (arith, within, c.len-2.ensures, w.views.ok.0)) c.index.ensures (sym c.is_note.ensures ∙ c.if-not-is_note.true)

pub returns-clause-moves : goal.returns-clause-moves
returns-clause-moves c = λ v at p.
    let w = c.args.self.now in
    let s = setup_of w in
    let short = c.if-n-len.false in
    let within = c.if-index-len.false in
    let below : c.args.n < length w.notes.items = omega (arith, short, c.len.ensures, w.notes.ok.0) in
    let in_views : c.index-index.result.now < length w.views.items = omega (arith, within, c.len-2.ensures, w.views.ok.0) in
    let y : Known = c.index_mut-met.result.now in
    let same : c.index.result.now ≡ y = same_read w.views.items c.index-index.result.now c.index.result.now y in_views c.index.ensures
    c.index_mut-met.ensures.value in
    let note : is_standing_note y.standing ≡ true = ap (λ (u : Known). is_standing_note u.standing) (sym same)
    ∙ (sym c.is_note.ensures ∙ c.if-not-is_note.false) in
    let seen : c.in_ok-seen.seen.items ≡ w.history.items = c.in_ok-seen.ensures.items ∙ c.deref.ensures.value in
    let gone : c.replace-note.new.dest.standing ≡ Spent = ap (λ (u : Known). u.standing) c.replace-note.ensures.after ∙ c.spent.ensures in
    let x : Known = get_or w.views.items c.args.at y in
    inl (meets w c.args.at x v c.requires (any_default w.views.items c.args.at y x c.requires) at p c.args.n c.index-index.result.now y
    c.index_mut-view.result.now c.load.new.self c.replace-note.new.dest below c.index-index.ensures in_views c.index_mut-met.ensures.value note gone
    c.index_mut-view.ensures.value
    (c.load.ensures s ∙ ((λ d. loaded (c.meet.ensures s d) w.word (seen d))
    ∙ ap (λ (u : Known). loaded (has_met (known s c.index_mut-view.result.now) (known s u)) w.word w.history.items) c.replace-note.ensures.value))
    (set (set w.views.items c.index-index.result.now c.replace-note.new.dest) c.args.at c.load.new.self) refl)
