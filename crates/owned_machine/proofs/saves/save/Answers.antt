use Rattle.std.proofs.Common.{◌≡◌, Ok, subst, sym, ap, ◌∙◌, refl}
use Rattle.guest_windows.specs.Drafts.{laid}
use Rattle.its_plain.specs.Plain.{Plain}
use Rattle.its_plain.specs.Answer.{save_reply, save_left}
use Rattle.its_plain.specs.Regions.{savable}
use Rattle.its_plain.specs.Saved.{saved}
use Rattle.owned_parts.specs.Owned.{state_of_parts}
use Rattle.owned_parts.specs.declared.parts.Parts.{Parts}
use Rattle.owned_machine.specs.Whole.{GoesOn}
use Rattle.owned_machine.specs.Migrations.{marked}
use Rattle.owned_machine.proofs.Written.{save_goes}
use Rattle.owned_machine.proofs.Migrating.{lent_sound, lent_in_hand}
use Rattle.owned_machine.proofs.saves.save.Goals as goal

pub saved_pages-requires-clause-parts : goal.saved_pages-requires-clause-parts
saved_pages-requires-clause-parts c =
    lent_in_hand c.args.parts.now c.in_place.result c.requires c.in_place.ensures.layout c.in_place.ensures.redists

pub saved_pages-requires-clause-sound : goal.saved_pages-requires-clause-sound
saved_pages-requires-clause-sound c = lent_sound c.args.parts.now c.in_place.result c.requires c.in_place.ensures.state

pub returns-clause-reply : goal.returns-clause-reply
returns-clause-reply c =
    sym (ap save_reply (subst (λ (u : Plain). savable u ≡ Ok tt) c.in_place.ensures.state c.in-Ok.ensures.0))

pub returns-clause-left : goal.returns-clause-left
returns-clause-left c =
    let p = c.args.parts.now in
    let u = state_of_parts p in
    let can : savable u ≡ Ok tt = subst (λ (x : Plain). savable x ≡ Ok tt) c.in_place.ensures.state c.in-Ok.ensures.0 in
    let pages = c.in-Ok.pages in
    let laid_is : c.adopt.new.self ≡ saved u =
    c.adopt.ensures ∙ ap (λ (q : Parts). laid pages q.memory) c.mark_saved.ensures ∙ ap (λ (x : Plain). laid pages x.memory) (sym c.in_place.ensures.state)
    ∙ c.in-Ok.ensures.1 ∙ ap saved c.in_place.ensures.state in
    subst (λ (q : Parts). GoesOn (record q { memory = c.adopt.new.self }) (save_left u (savable u))) (sym c.mark_saved.ensures)
    (save_goes p c.adopt.new.self (marked p).track c.requires can laid_is refl)
