use Rattle.std.proofs.Common.{arith, ◌∙◌, ap, ℕ, ◌+◌, ◌<◌, ◌^◌, length, subst, sym}
use Rattle.its_steps.specs.World.{View}
use Rattle.its_turns.specs.Contents.{emptied}
use Rattle.its_turns.specs.Machines.{setup}
use Rattle.its_turns.specs.Told.{are_joined}
use Rattle.its_turns.proofs.Joined.{still_joined}
use Rattle.its_turns.proofs.Passing.{allows_split}
use Rattle.its_turns.proofs.machine.Pass.split.Goals as goal

pub split_seat-requires : goal.split_seat-requires
split_seat-requires c = let m = c.args.machine.now in let p = c.look.new.pass in (
  c.look.ensures.of.0,
  omega (arith, m.sized.1),
  allows_split (setup m) p.seat.id p.seat.me.0 p.live (ap (λ (v : View). v.number) c.look.ensures.looks.same
      ∙ c.requires.root) (subst (λ (v : View). v.root.made < 2 ^ 32) (sym c.look.ensures.looks.same) c.requires.few),
)

pub invariant_of-self : goal.invariant_of-self
invariant_of-self c =
    let p = c.look.new.pass in
    let same = ap (λ m. m.0) c.split_seat.ensures.2 in
    record {
      live = ap (λ (v : View). v.standing) same ∙ p.live;
      numbered = (ap (λ (v : View). v.number) same ∙ p.numbered.0, ap (λ (v : View). v.root.made) same ∙ ap (λ (n : ℕ). n + 1) p.numbered.1);
      joined = ap (λ (v : View). are_joined v.root.made v.root.ended) same ∙ still_joined p.seat.me.0.root.made p.seat.me.0.root.ended p.joined;
      counted = λ root. let out = p.counted root in let long = ap (λ (v : View). length v.root.ended) same in omega (arith, out, long);
      empty = ap (λ m. m.1) c.split_seat.ensures.2 ∙ (p.empty ∙ ap (λ (v : View). emptied v.setup v.held) (sym same));
    }
