use Rattle.std.proofs.Common.{◌<◌, Bool, true, false, List, length, get_or, set, sym, ap, ◌∙◌, arith}
use Rattle.dirty_log.proofs.Flags.{length-flags, flag_is, flags_set, set_again, one_counted, few}
use Rattle.dirty_log.proofs.places.Marks.mark.Goals as goal

pub has-requires : goal.has-requires
has-requires c =
    let i = c.self.inside in
    omega (arith, c.requires, length-flags i.bits i.places, ap length c.self.view_is, c.self.invariant.room)

pub set-requires : goal.set-requires
set-requires c =
    let i = c.self.inside in
    omega (arith, c.requires, length-flags i.bits i.places, ap length c.self.view_is, c.self.invariant.room)

pub overflow_add-self : goal.overflow_add-self
overflow_add-self c =
    let i = c.self.inside in
    omega (arith, few i.bits i.count i.places c.self.invariant)

pub invariant_of-self : goal.invariant_of-self
invariant_of-self c =
    let i = c.self.inside in
    let lt : c.args.at < i.places = omega (arith, c.requires, length-flags i.bits i.places, ap length c.self.view_is) in
    one_counted i.bits c.set.new.self i.count i.places c.args.at c.self.invariant lt c.set.ensures.size c.set.ensures.bits (sym c.if-not-has.ensures)

pub returns-then-not-has : goal.returns-then-not-has
returns-then-not-has c =
    let i = c.self.inside in
    let lt : c.args.at < i.places = omega (arith, c.requires, length-flags i.bits i.places, ap length c.self.view_is) in
    flags_set i.bits c.set.new.self i.places c.args.at lt c.set.ensures.bits ∙ ap (λ (bs : List Bool). set bs c.args.at true) c.self.view_is

pub returns-else-not-has : goal.returns-else-not-has
returns-else-not-has c =
    let i = c.self.inside in
    let lt : c.args.at < i.places = omega (arith, c.requires, length-flags i.bits i.places, ap length c.self.view_is) in
    set_again c.args.self.now c.args.at (ap (λ (bs : List Bool). get_or bs c.args.at false) (sym c.self.view_is) ∙ flag_is i.bits i.places c.args.at lt
    ∙ sym c.has.ensures ∙ c.if-not-has.false)
