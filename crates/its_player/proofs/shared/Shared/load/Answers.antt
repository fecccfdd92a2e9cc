use Rattle.std.proofs.Common.{◌≡◌, List, inl, refl, ap, ◌∙◌}
use Rattle.its_player.specs.Shared.{setup_of, known}
use Rattle.its_steps.specs.World.{loaded}
use Rattle.its_plain.specs.declared.call.Entry.{Entry}
use Rattle.its_player.proofs.Seats.{put_core}
use Rattle.its_player.proofs.shared.Shared.load.Goals as goal

pub returns-clause-moves : goal.returns-clause-moves
returns-clause-moves c = λ v at p.
    let w = c.args.self.now in
    let seen : c.in_ok-seen.seen.items ≡ w.history.items = c.in_ok-seen.ensures.items ∙ c.deref.ensures.value in
    inl (put_core w c.args.at c.index_mut-view.result.now c.load.new.self v (λ u. loaded u w.word w.history.items) c.requires c.index_mut-view.ensures.value at
    p
    (c.load.ensures (setup_of w) ∙ ap (λ (h : List Entry). loaded (known (setup_of w) c.index_mut-view.result.now) w.word h) seen) (λ u. refl))
