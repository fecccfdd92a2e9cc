use Rattle.std.proofs.Common.{Bool, false, List, length, get_or, ap, subst, arith}
use Rattle.dirty_log.specs.Bits.{NoneIn, IsFirstIn}
use Rattle.dirty_log.proofs.Flags.{length-flags, first_flag, no_flag}
use Rattle.dirty_log.proofs.places.Marks.next.Goals as goal

pub next-requires : goal.next-requires
next-requires c =
    let i = c.self.inside in
    omega (arith, c.requires, length-flags i.bits i.places, ap length c.self.view_is, c.self.invariant.room)

pub returns-in_default : goal.returns-in_default
returns-in_default c =
    let i = c.self.inside in
    let room = c.self.invariant.room in
    subst (λ (bs : List Bool). NoneIn (λ k. get_or bs k false) c.args.from (length bs)) c.self.view_is
    (no_flag i.bits i.places c.args.from _ room c.in_default.ensures)

pub returns-then-at-self : goal.returns-then-at-self
returns-then-at-self c =
    let i = c.self.inside in
    subst (λ (bs : List Bool). IsFirstIn (λ k. get_or bs k false) c.args.from (length bs) c.in-Some.at) c.self.view_is
    (first_flag i.bits i.places c.args.from _ c.in-Some.at c.if-at-self.true c.in-Some.ensures)

pub returns-else-at-self : goal.returns-else-at-self
returns-else-at-self c =
    let i = c.self.inside in
    subst (λ (bs : List Bool). NoneIn (λ k. get_or bs k false) c.args.from (length bs)) c.self.view_is
    (no_flag i.bits i.places c.args.from c.in-Some.at c.if-at-self.false c.in-Some.ensures.before)
