use Rattle.std.proofs.Common.{arith, ◌∙◌, ap, List, length, nat_lt, subst, sym}
use mathlib.Core.List.{IsPrefix}
use Rattle.its_steps.specs.World.{View, loaded, has_joined}
use Rattle.its_steps.specs.Contents.{Held}
use Rattle.its_turns.specs.Contents.{emptied}
use Rattle.its_turns.specs.Machines.{setup, view}
use Rattle.its_turns.specs.Told.{Looks, are_joined}
use Rattle.its_turns.proofs.Joined.{at_most}
use Rattle.its_turns.proofs.Passing.{allows_join, both_seen}
use Rattle.its_turns.proofs.machine.Pass.join.Goals as goal

pub join_seat-requires : goal.join_seat-requires
join_seat-requires c = let m = c.args.machine.now in let p = c.args.self.now in let q = c.args.pass in (
  c.requires.of.0.0,
  c.requires.of.1.0,
  q.empty ∙ ap (λ (h : List Held). emptied q.seat.me.0.setup h) c.requires.free,
  omega (arith, m.sized.1),
  allows_join (setup m) p.seat.id p.seat.me.0 p.live c.requires.root q.seat.id q.seat.me.0 q.live c.requires.free,
)

pub overflow_sub-self : goal.overflow_sub-self
overflow_sub-self c =
    let p = c.args.self.now in let v = view p in let u = view c.args.pass in
    let is = ap (λ m. m.0) c.join_seat.ensures.2 in
    let known = c.load.ensures.looks.others (ap (λ (w : View). w.number) is ∙ c.requires.root) in
    let joined = ap (λ (w : View). are_joined w.root.made w.root.ended) (sym is) ∙ known.joined in
    let out = p.counted (omega (arith, c.requires.root, p.numbered.0)) in
    let most = at_most v.root.made (has_joined v u).root.ended joined (omega (arith, out, p.numbered.1)) in
    omega (arith, out, most, p.numbered.1)

pub invariant_of-self : goal.invariant_of-self
invariant_of-self c =
    let p = c.args.self.now in let v = view p in let u = view c.args.pass in
    let is = ap (λ m. m.0) c.join_seat.ensures.2 in
    let known = c.load.ensures.looks.others (ap (λ (w : View). w.number) is ∙ c.requires.root) in
    let joined = ap (λ (w : View). are_joined w.root.made w.root.ended) (sym is) ∙ known.joined in
    let out = p.counted (omega (arith, c.requires.root, p.numbered.0)) in
    let most = at_most v.root.made (has_joined v u).root.ended joined (omega (arith, out, p.numbered.1)) in
    let x = c.load.new.seat.me.0 in
    let same = c.load.ensures.looks.same ∙ ap (λ (w : View). loaded w c.load.result x.seen) is in
    record {
      live = ap (λ (w : View). w.standing) same ∙ p.live;
      numbered = (ap (λ (w : View). w.number) same ∙ p.numbered.0, ap (λ (w : View). w.root.made) same ∙ p.numbered.1);
      joined = ap (λ (w : View). are_joined w.root.made w.root.ended) same ∙ joined;
      counted = λ root. let long = ap (λ (w : View). length w.root.ended) same in omega (arith, out, most, p.numbered.1, long);
      empty = c.load.ensures.hand ∙ (ap (λ m. m.1) c.join_seat.ensures.2 ∙ (p.empty ∙ ap (λ (w : View). emptied w.setup w.held) (sym same)));
    }

pub load-requires-clause-live : goal.load-requires-clause-live
load-requires-clause-live c = ap (λ m. m.0.standing) c.join_seat.ensures.2 ∙ c.args.self.now.live

pub load-requires-clause-setup : goal.load-requires-clause-setup
load-requires-clause-setup c = ap (λ m. m.0.setup) c.join_seat.ensures.2 ∙ c.requires.of.0.1

pub returns-clause-view : goal.returns-clause-view
returns-clause-view c = let is = ap (λ m. m.0) c.join_seat.ensures.2 in (
  c.load.result,
  subst (λ (w : View). Looks w c.load.result c.load.new.seat.me.0) is
      c.load.ensures.looks,
)

pub returns-clause-seen : goal.returns-clause-seen
returns-clause-seen c =
    let v = view c.args.self.now in let u = view c.args.pass in let x = c.load.new.seat.me.0.seen in
    let is = ap (λ m. m.0) c.join_seat.ensures.2 in
    let both = subst (λ (w : View). IsPrefix w.seen x × IsPrefix w.told x) is (c.load.ensures.looks.longer, c.load.ensures.looks.told) in
    both_seen (nat_lt v.last.place u.last.place) v u x both.0 both.1
