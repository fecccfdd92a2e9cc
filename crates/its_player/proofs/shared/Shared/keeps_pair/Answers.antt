use Rattle.std.proofs.Common.{◌≡◌, ℕ, true, false, Ok, sym, ap, ◌∙◌, inr, ⊎_elim}
use Rattle.its_types.specs.declared.machine.Part.TheVariants as part
use Rattle.its_plain.specs.Translation.{located}
use Rattle.its_player.specs.Held.{owes_such, lacks}
use Rattle.its_steps.specs.MayCall.{IsWithout}
use Rattle.its_player.specs.Shared.{setup_of}
use Rattle.its_player.proofs.MayTests.{without_decides}
use Rattle.its_player.proofs.shared.Shared.keeps_pair.Goals as goal

pub returns-else-is_located : goal.returns-else-is_located
returns-else-is_located c =
    let s = setup_of c.args.self.now in
    let w = without_decides s c.args.its c.args.dev.0 c.args.ev.0 c.args.owed.now in
    let same = c.lacks_in.ensures ∙ ap (λ (n : ℕ). owes_such (part.Shard c.args.its n) (lacks c.args.dev.0 c.args.ev.0) c.args.owed.now) c.shard_of.ensures in (
      (λ e. λ target loc. inr (w.0 (sym same ∙ e))),
      (λ f. ⊎_elim (λ (there : located c.args.after.now c.args.dev.0 c.args.ev.0 ≡ Ok c.in-Ok.target).
          absurd (let two : true ≡ false = sym (c.is_located.ensures.1 there) ∙ c.if-is_located.false in cc))
          (λ (wo : IsWithout s c.args.its c.args.dev.0 c.args.ev.0 c.args.owed.now). same ∙ w.1 wo) (f c.in-Ok.target (sym c.locate.ensures ∙ c.in-Ok.is))),
    )
