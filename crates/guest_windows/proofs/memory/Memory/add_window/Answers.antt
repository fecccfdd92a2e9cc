use Rattle.std.proofs.Common.{map, refl, ap, ◌∙◌}
use Rattle.guest_windows.specs.Windows.{are_windows, extent}
use Rattle.guest_windows.specs.Fields.{windows}
use Rattle.guest_windows.proofs.Adding.{can_have, extents_more}
use Rattle.guest_windows.proofs.memory.Memory.add_window.Goals as goal

pub returns-then-not-has_room-clause-bad : goal.returns-then-not-has_room-clause-bad
returns-then-not-has_room-clause-bad c bad =
    can_have c.args.self.now c.self.inside.frames.items c.deref.result.now (c.args.base.0, c.args.len) c.has_room.result c.self.view_is c.self.invariant
    c.deref.ensures.value c.has_room.ensures
    ∙ c.if-not-has_room.true

pub returns-in_err-add_frame-clause-short : goal.returns-in_err-add_frame-clause-short
returns-in_err-add_frame-clause-short c short =
    can_have c.args.self.now c.self.inside.frames.items c.deref.result.now (c.args.base.0, c.args.len) c.has_room.result c.self.view_is c.self.invariant
    c.deref.ensures.value c.has_room.ensures
    ∙ c.if-not-has_room.false

pub returns-clause-fits : goal.returns-clause-fits
returns-clause-fits c =
    can_have c.args.self.now c.self.inside.frames.items c.deref.result.now (c.args.base.0, c.args.len) c.has_room.result c.self.view_is c.self.invariant
    c.deref.ensures.value c.has_room.ensures
    ∙ c.if-not-has_room.false

pub invariant_of-self-2 : goal.invariant_of-self-2
invariant_of-self-2 c =
    let fs = c.self.inside.frames.items in
    ap (λ ws. are_windows (map extent ws)) c.in_ok-add_frame.ensures.added ∙ ap are_windows (extents_more (windows fs) (c.args.base.0, c.args.len))
    ∙ can_have (windows fs) fs c.deref.result.now (c.args.base.0, c.args.len) c.has_room.result refl c.self.invariant c.deref.ensures.value c.has_room.ensures
    ∙ c.if-not-has_room.false
