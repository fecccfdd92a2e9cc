use Rattle.std.proofs.Common.{◌≡◌, ap, sym, ◌∙◌, subst}
use Rattle.its_types.specs.Maps.{Maps}
use Rattle.its_numbers.specs.Mapped.{mappings_from}
use Rattle.its_turns.specs.Machines.{view}
use Rattle.owned_parts.specs.declared.parts.Translator.{Translator}
use Rattle.its_shared.specs.Seeing.{ListsFirst}
use Rattle.its_shared.proofs.mapped_looks.try_mappings.Goals as goal

pub returns-clause-seen : goal.returns-clause-seen
returns-clause-seen c =
    let here = c.in_ok-place.ensures.seen (view c.put.new.pass) c.put.ensures.view in
    let same : c.deref.result.now.maps.maps ≡ _ = ap (λ (t : Translator). t.maps.maps) c.deref.ensures ∙ sym here.1 in
    let e = c.put_mappings-reply.ensures in (
      here.0,
      subst (λ (m : Maps). ListsFirst (mappings_from m c.args.device c.args.from) c.args.list.now c.put_mappings-reply.new.list c.put_mappings-reply.result) same
          record { told = e.told; rest = e.rest; same_length = e.length; count_is = e.count },
    )
