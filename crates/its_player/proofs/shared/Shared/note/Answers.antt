use Rattle.std.proofs.Common.{ℕ, [], ◌∷◌, ◌++◌, ap, ◌∙◌, inl}
use Rattle.its_player.specs.Shared.{setup_of}
use Rattle.its_player.proofs.PassSeats.{notes_it}
use Rattle.its_player.proofs.shared.Shared.note.Goals as goal

pub returns-clause-moves : goal.returns-clause-moves
returns-clause-moves c = λ v at p. inl (notes_it c.args.self.now c.args.at c.index.result.now v c.requires c.index.ensures at p c.note.result
    c.in_ok-seen.seen.items c.note.ensures.standing (c.note.ensures.note (setup_of c.args.self.now))
    (c.in_ok-seen.ensures.items ∙ c.deref.ensures.value) c.push-2.new.self.items c.push.new.self.items c.in_ok-push-2.ensures.items
    (c.in_ok-push.ensures.items ∙ ap (λ (k : ℕ). c.args.self.now.notes.items ++ k ∷ []) (c.len.ensures ∙ c.args.self.now.views.ok.0)))
