use Rattle.std.proofs.Common.{◌≡◌, ◌≢◌, true, false, refl, sym, ap, subst, ◌∙◌, inl, ⊎_elim}
use Rattle.std.specs.List.{AllByRecursion}
use Rattle.its_steps.specs.Good.{Apart}
use Rattle.its_steps.specs.MayCall.{MayCall}
use Rattle.its_steps.specs.Parts.{Stands}
use Rattle.its_steps.specs.Renewal.{renewal}
use Rattle.its_player.specs.Shared.{setup_of, core_of}
use Rattle.its_steps.specs.Steps.{loads}
use Rattle.its_steps.specs.Contents.{Held}
use Rattle.its_player.proofs.Committed.{held_stand, held_apart, no_commit, raced, commits_it}
use Rattle.its_player.proofs.shared.Shared.commit.Goals as goal

pub may_call-requires-clause-stands : goal.may_call-requires-clause-stands
may_call-requires-clause-stands c = let w = c.args.self.now in subst (AllByRecursion (λ (y : Held). Stands (setup_of w) y.part)) (sym c.deref.ensures.value)
    (held_stand w c.requires.good c.args.at c.index.result.now c.requires.at c.index.ensures (c.requires.pass c.index.result.now c.index.ensures))

pub may_call-requires-clause-apart : goal.may_call-requires-clause-apart
may_call-requires-clause-apart c = let w = c.args.self.now in subst Apart (sym c.deref.ensures.value)
    (held_apart w c.requires.good c.args.at c.index.result.now c.requires.at c.index.ensures (c.requires.pass c.index.result.now c.index.ensures))

pub returns-in_default-clause-moves : goal.returns-in_default-clause-moves
returns-in_default-clause-moves c = λ v at p.
    let w = c.args.self.now in
    let h = rw c.in_default.is at c.in_ok-owed.ensures in
    no_commit w c.args.at c.index.result.now v c.requires.at c.index.ensures at p c.args.commit.now
    (λ m. h (subst (MayCall (setup_of w) c.args.commit.now) (sym c.deref.ensures.value) m))

pub returns-then-not-is_same_word-clause-moves : goal.returns-then-not-is_same_word-clause-moves
returns-then-not-is_same_word-clause-moves c = λ v at p.
    let w = c.args.self.now in
    let h = rw c.in-Some.is at c.in_ok-owed.ensures in
    let ne : w.word ≢ c.args.commit.now.expected = λ e. absurd (let two : true ≡ false = sym (c.is_same_word.ensures.1 e) ∙ c.if-not-is_same_word.true in cc) in
    let loaded = ⊎_elim {A = core_of c.load.new.self ≡ loads (core_of w) c.args.at v} (λ e. e) (λ n. absurd (n.0 (loads (core_of w) c.args.at v) refl))
    (c.in_ok-load.ensures.moves v at p) in
    inl (raced w c.args.at c.index.result.now v c.requires.at c.index.ensures at p c.args.commit.now
    (subst (MayCall (setup_of w) c.args.commit.now) c.deref.ensures.value h.0) ne (core_of c.load.new.self) loaded)

pub returns-clause-moves : goal.returns-clause-moves
returns-clause-moves c = λ v at p.
    let w = c.args.self.now in
    let h = rw c.in-Some.is at c.in_ok-owed.ensures in
    let same : w.word ≡ c.args.commit.now.expected = c.is_same_word.ensures.0 c.if-not-is_same_word.false in
    inl (commits_it w c.args.at c.index.result.now v c.requires.at c.index.ensures at p c.args.commit.now
    (subst (MayCall (setup_of w) c.args.commit.now) c.deref.ensures.value h.0) same c.in-Some.owed.items
    (h.1 ∙ ap (renewal (setup_of w) c.args.commit.now) c.deref.ensures.value) (core_of c.make.new.self) (c.in_ok-make.ensures.makes v at p))

pub make-requires-clause-room : goal.make-requires-clause-room
make-requires-clause-room c = let h = rw c.in-Some.is at c.in_ok-owed.ensures in h.0.room
