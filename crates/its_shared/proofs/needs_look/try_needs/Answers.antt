use Rattle.std.proofs.Common.{◌≡◌, ℕ, List, length, map, ap, sym, ◌∙◌, subst}
use Rattle.std.proofs.lemmas.List.{length-map}
use Rattle.guest_windows.specs.Fields.{pairs}
use Rattle.its_types.specs.declared.ids.Addr.{Addr}
use Rattle.its_types.specs.declared.machine.Part.TheVariants as part
use Rattle.its_numbers.specs.Lists.{SameRest, stretch_out}
use Rattle.its_numbers.specs.declared.lists.StretchOut.{StretchOut}
use Rattle.its_steps.specs.Contents as content
use Rattle.its_steps.specs.World.{View, took}
use Rattle.its_turns.specs.Machines.{view}
use Rattle.owned_parts.specs.Owned.{translator_of}
use Rattle.its_shared.specs.Besides.{needed}
use Rattle.its_shared.specs.Seeing.{ListsAll}
use Rattle.its_shared.proofs.Seen.{busy_second}
use Rattle.its_shared.proofs.needs_look.try_needs.Goals as goal

pub returns-in-Err-try_take_memory-clause-seen : goal.returns-in-Err-try_take_memory-clause-seen
returns-in-Err-try_take_memory-clause-seen c =
    busy_second (view c.args.pass.now) (view c.try_take_maps.new.pass) (view c.try_take_memory.new.pass) (view c.put.new.pass) (part.Maps c.args.its) part.Mem
    (content.Maps (translator_of c.in-Ok.maps.value)) c.in-Ok.ensures.result.view c.in-Err-try_take_memory.field-0 c.in-Err-try_take_memory.ensures.result
    c.put.ensures.view (Unit {0}) (λ u n. ListsAll (needed c.args.its u) c.args.list.now c.args.list.now n)

pub returns-in-Err-seen_with-clause-seen : goal.returns-in-Err-seen_with-clause-seen
returns-in-Err-seen_with-clause-seen c =
    let memory = c.in-Ok-try_take_memory.memory.value in
    c.in-Err-seen_with.ensures.seen (view c.args.pass.now) c.requires.free
    (c.in-Ok-try_take_memory.ensures.result.0.view
    ∙ ap (λ (y : View). took y part.Mem (content.Mem memory.memory memory.track)) c.in-Ok.ensures.result.view)

pub returns-in-Ok-seen_with-clause-seen : goal.returns-in-Ok-seen_with-clause-seen
returns-in-Ok-seen_with-clause-seen c =
    let memory = c.in-Ok-try_take_memory.memory.value in
    let seen = c.in-Ok-seen_with.ensures.seen (view c.args.pass.now) c.requires.free
    (c.in-Ok-try_take_memory.ensures.result.0.view
    ∙ ap (λ (y : View). took y part.Mem (content.Mem memory.memory memory.track)) c.in-Ok.ensures.result.view) in
    let xs = c.deref.result.now in
    let same : map stretch_out (pairs xs) ≡ needed c.args.its _ =
    ap (λ (ys : List (Addr × ℕ)). map stretch_out (pairs ys)) c.deref.ensures.value ∙ ap (map stretch_out) seen.1 in
    let e = c.put_tables.ensures in
    let long : length (map stretch_out (pairs xs)) ≡ length xs = length-map (pairs xs) stretch_out ∙ length-map xs (λ (y : Addr × ℕ). (y.0.0, y.1)) in
    let count : c.len.result ≡ length xs = (let many = c.deref.ensures.len in let is = c.len.ensures in cc) in
    let listed : ListsAll (map stretch_out (pairs xs)) c.args.list.now c.put_tables.new.list c.len.result = record {
      told = e.told;
      rest = subst (λ n. SameRest n c.args.list.now c.put_tables.new.list) (sym long) e.rest;
      same_length = e.length;
      count_is = count ∙ sym long;
    } in (seen.0, subst (λ (ys : List StretchOut). ListsAll ys c.args.list.now c.put_tables.new.list c.len.result) same listed)
