use Rattle.std.proofs.Common.{◌≡◌, ap, sym, ◌∙◌}
use Rattle.guest_windows.specs.Fields.{pairs}
use Rattle.its_types.specs.declared.machine.Part.TheVariants as part
use Rattle.its_plain.specs.Plain.{no_translator}
use Rattle.its_plain.specs.declared.layout.Layout.{Layout}
use Rattle.std.proofs.lemmas.Option.{get_or_from_slice_get}
use Rattle.its_steps.specs.Contents as content
use Rattle.its_steps.specs.Parts.{Setup}
use Rattle.its_steps.specs.World.{View}
use Rattle.its_turns.specs.Machines.{view}
use Rattle.its_turns.specs.declared.value.GuestMemory.{GuestMemory}
use Rattle.its_turns.specs.Told.{released}
use Rattle.owned_parts.specs.Owned.{translator_of}
use Rattle.step_views.specs.Reads.{reads}
use Rattle.its_shared.specs.Besides.{stretches}
use Rattle.its_shared.proofs.Home.{sees_home}
use Rattle.its_shared.proofs.needs_look.seen_with.Goals as goal

pub returns-clause-seen : goal.returns-clause-seen
returns-clause-seen c v bare first =
    let maps = c.args.maps.value in
    let memory = c.args.memory.value in
    let shape = c.desc.result.now.shape in
    let t = c.step_reads-reads.result in
    sees_home v (view c.args.pass.now) (view c.seen_beside-told.new.pass) (view c.put-2.new.pass) (part.Maps c.args.its) part.Mem
    (content.Maps (translator_of maps)) (content.Mem memory.memory memory.track) first (c.put-2.ensures.view ∙ ap released c.put.ensures.view) _
    (λ u xs. pairs xs.items ≡ stretches shape u.redistributors t) (λ u xs. pairs xs.items ≡ reads u c.args.its) c.seen_beside-told.result
    (λ u word xs machine maps_right mem_right is.
    is ∙ sym (c.step_reads-reads.ensures u c.args.its record {
      shape = ap (λ (l : Layout). l.shape) (sym machine.layout)
          ∙ (ap (λ (s : Setup). s.start.layout.shape) (sym (ap (λ (y : View). y.setup) first) ∙ c.requires.of.1) ∙ sym c.desc.ensures.shape);
      translator_is = get_or_from_slice_get u.translators c.args.its (translator_of maps) no_translator maps_right
          ∙ (λ d. record { regs = (sym c.deref.ensures d).regs; maps = (sym c.deref-2.ensures d).maps.maps });
      memory_is = mem_right.0 ∙ sym (ap (λ (m : GuestMemory). m.memory) c.deref-3.ensures);
    })) c.seen_beside-told.ensures.seen
