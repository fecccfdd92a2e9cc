use Rattle.std.proofs.Common.{◌≡◌, ap, sym, subst, ◌∙◌}
use Rattle.std.specs.Bool.{Decides}
use Rattle.std.proofs.lemmas.Bool.Decides.{Decides-like}
use Rattle.its_types.specs.declared.machine.Part.{Part}
use Rattle.its_types.specs.declared.machine.Part.TheVariants as part
use Rattle.its_steps.specs.Contents.{Content, Maps}
use Rattle.its_steps.specs.MayCall.{IsSteady}
use Rattle.its_player.specs.Contents.{content_of}
use Rattle.its_player.specs.Shared.{setup_of}
use Rattle.its_player.proofs.MayTests.{if_ok_more}
use Rattle.its_player.proofs.shared.Shared.is_steady.Goals as goal

pub returns-else-from-its : goal.returns-else-from-its
returns-else-from-its c =
    let s = setup_of c.args.self.now in
    let m = c.in-Maps-Maps-Maps in
    let other : m.other ≡ c.args.its = sym c.from.ensures ∙ c.if-from-its.false in
    let p : part.Maps m.other ≡ c.args.before.now.part = sym m.is-0 ∙ c.part.ensures in
    let first : Maps m.first ≡ c.args.before.now.owed = ap content_of (sym m.is-1) ∙ c.owed.ensures in
    let second : Maps m.second ≡ c.args.after.now.owed = ap content_of (sym m.is-2) ∙ c.owed-2.ensures in
    if_ok_more (λ b d.
    let P : Part × Content × Content → Type 0 = λ k. Decides b (IsSteady s c.args.its c.args.owed.now k.0 k.1 k.2) in
    let there : P (part.Maps m.other, Maps m.first, Maps m.second) = Decides-like b (λ p e. p) (λ q. q other) d in
    subst P (λ i. (p i, first i, second i)) there) c.keeps_pairs.result c.keeps_pairs.ensures
