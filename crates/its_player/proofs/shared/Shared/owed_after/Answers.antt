use Rattle.std.proofs.Common.{◌≡◌, ℕ, ◌<◌, List, ap, subst, sym, ◌∙◌}
use Rattle.its_plain.specs.Plain.{Plain}
use Rattle.its_steps.specs.MayCall.{MayChange, MayStamp}
use Rattle.its_steps.specs.Parts.{translator_count}
use Rattle.its_steps.specs.Renewal.{renewed, renewal}
use Rattle.its_player.specs.Shared.{setup_of}
use Rattle.its_steps.specs.declared.commit.Commit.{Commit}
use Rattle.its_steps.specs.Contents.{Held}
use Rattle.its_player.proofs.shared.Shared.owed_after.Goals as goal

pub returns-then-not-may_change : goal.returns-then-not-may_change
returns-then-not-may_change c = λ m.
    let s = setup_of c.args.self.now in
    let a : Commit = c.args.commit.now in
    let may = c.may_change.ensures.1 (subst (λ (w : Plain). MayChange s a.call a.change w c.args.held.now) (sym c.requires.leaves) m.may_change) in
    let test = c.if-not-may_change.true in
    cc

pub returns-then-may_stamp : goal.returns-then-may_stamp
returns-then-may_stamp c =
    let s = setup_of c.args.self.now in
    let held = c.args.held.now in
    let a : Commit = c.args.commit.now in
    let owed : c.in_ok-owed.owed.items ≡ renewal s a held = c.in_ok-owed.ensures ∙ ap (λ (w : Plain). renewed s a w held) c.requires.leaves in
    let seen : c.deref.result.now ≡ renewal s a held = c.deref.ensures.value ∙ owed in (
      record {
        room = c.requires.room;
        stands = c.requires.stands;
        apart = c.requires.apart;
        out = c.requires.out;
        answered = c.requires.answered;
        may_change = subst (λ (w : Plain). MayChange s a.call a.change w held) c.requires.leaves (c.may_change.ensures.0 c.if-not-may_change.false);
        stamps = subst (λ (l : List Held). (its : ℕ) → its < translator_count s → MayStamp s a held l its) seen (c.in-Ok.ensures.0 c.if-may_stamp.true);
      },
      owed,
    )
