use Rattle.its_types.specs.declared.machine.Part.TheVariants as part
use Rattle.its_plain.specs.History.{after}
use Rattle.its_steps.specs.Contents as content
use Rattle.its_turns.specs.Machines.{view}
use Rattle.owned_parts.specs.Owned.{translator_of}
use Rattle.its_shared.proofs.Seen.{maps_are, one_right, saw_one}
use Rattle.its_shared.proofs.mapped_looks.maps_now.Goals as goal

pub returns-clause-seen : goal.returns-clause-seen
returns-clause-seen c z home =
    let v = view c.args.pass.now in
    let w = view c.try_take_maps.new.pass in
    let x = view c.look-word.new.pass in
    let t = translator_of c.in-Ok.maps.value in
    let taken = c.in-Ok.ensures.result.view in
    let looks = c.look-word.ensures.looks in (
      saw_one v w x z (part.Maps c.args.its) (content.Maps t) taken c.look-word.result looks home,
      maps_are (after v.setup.start z.seen) c.args.its t (one_right v w x z (part.Maps c.args.its) (content.Maps t) taken c.look-word.result looks home),
    )
