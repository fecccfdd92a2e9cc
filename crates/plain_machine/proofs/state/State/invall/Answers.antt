use Rattle.std.proofs.Common.{◌≡◌, List, ℕ, ap, refl, ◌∙◌}
use Rattle.its_plain.specs.Plain.{maps_of}
use Rattle.its_plain.specs.Commands.{invall, reread, intids_of}
use Rattle.plain_machine.proofs.state.State.invall.Goals as goal

pub returns : goal.returns
unfolding invall
returns c =
    let items : c.in_ok-intids.intids.items ≡ intids_of (maps_of c.args.self.now c.args.its) c.args.icid.0 = c.in_ok-intids.ensures in
    let left : c.reread.new.self ≡ reread (intids_of (maps_of c.args.self.now c.args.its) c.args.icid.0) c.args.self.now = c.reread.ensures
    ∙ ap (λ (l : List ℕ). reread l c.args.self.now) (c.deref.ensures.value ∙ items) in
    rw (← c.in_ok-target_at.ensures, left) refl
