use Rattle.std.proofs.Common.{◌≡◌, ℕ, ◌∷◌, List, length, ap, sym, ◌∙◌, subst, nat_lt}
use Rattle.std.specs.Option.{option_map}
use Rattle.its_types.specs.declared.machine.Part.TheVariants as part
use Rattle.lpi_config.specs.Conf.{Conf as ConfInHand}
use Rattle.lpi_pending.specs.InHand.{HasLpisOfConf, HasLpisOfPend}
use Rattle.owned_parts.specs.Owned.{translator_of}
use Rattle.owned_parts.specs.RedistSets.{is_in}
use Rattle.its_steps.specs.Contents.{Held, Maps, Mem}
use Rattle.its_steps.specs.Parts.{vcpu_count}
use Rattle.its_steps.specs.World.{out}
use Rattle.its_turns.specs.Machines.{setup, view}
use Rattle.its_turns.specs.declared.value.GuestMemory.{GuestMemory}
use Rattle.its_turns.proofs.Stamps.{has_stamps}
use Rattle.held_parts.specs.Rows.{in_row}
use Rattle.held_parts.specs.Redists.{row_of, conf_held, pends_held, IsConfIn, IsPendIn}
use Rattle.held_parts.specs.Wholes.{IsNoShard, redists_in, second_of, second_held, maps_held}
use Rattle.held_parts.specs.declared.whole.Whole.{Whole}
use Rattle.held_parts.proofs.Going.{takes_one, takes_then, takes_wider, took_held}
use Rattle.held_parts.proofs.Wholes.{AllOf, set_is_all, confs_order, pends_order, conf_no_shard, pend_no_shard}
use Rattle.held_parts.proofs.Wholes.{is_whole, takes_whole}
use Rattle.held_parts.proofs.whole.take_whole.Goals as goal

pub take_confs-requires-clause-empty : goal.take_confs-requires-clause-empty
take_confs-requires-clause-empty g c = rw (c.deref_mut.ensures.value) c.take_memory-memory.ensures.room.confs

pub take_confs-requires-clause-room : goal.take_confs-requires-clause-room
take_confs-requires-clause-room g c = ap (λ (m : GuestMemory). length m.redists.confs) c.deref_mut.ensures.value ∙ c.take_memory-memory.ensures.room.conf_room

pub take_confs-requires-clause-order : goal.take_confs-requires-clause-order
take_confs-requires-clause-order g c =
    let first = took_held (view c.args.pass.now) (view c.take_maps-first.new.pass) (part.Maps 0) (Maps (translator_of c.take_maps-first.result.value))
    c.take_maps-first.ensures.takes ∙ ap (λ (l : List Held). maps_held 0 c.take_maps-first.result.value ∷ l) c.requires.free in
    let memory = c.take_memory-memory.result.value in
    confs_order (option_map (λ b. b.value) c.take_second-second.result) c.take_maps-first.result.value (Mem memory.memory memory.track)
    (view c.take_memory-memory.new.pass).held
    (took_held (view c.take_second-second.new.pass) (view c.take_memory-memory.new.pass) part.Mem (Mem memory.memory memory.track)
    c.take_memory-memory.ensures.takes ∙ ap (λ (l : List Held). out part.Mem (Mem memory.memory memory.track) ∷ l)
    (c.take_second-second.ensures.held ∙ ap (second_held (option_map (λ b. b.value) c.take_second-second.result)) first))

pub take_pends-requires-clause-empty : goal.take_pends-requires-clause-empty
take_pends-requires-clause-empty g c = rw (c.take_confs.ensures.pends, c.deref_mut.ensures.value) c.take_memory-memory.ensures.room.pends

pub take_pends-requires-clause-room : goal.take_pends-requires-clause-room
take_pends-requires-clause-room g c = ap length c.take_confs.ensures.pends
    ∙ (ap (λ (m : GuestMemory). length m.redists.pends) c.deref_mut.ensures.value ∙ c.take_memory-memory.ensures.room.pend_room)

pub take_pends-requires-clause-order : goal.take_pends-requires-clause-order
take_pends-requires-clause-order g c =
    let first = took_held (view c.args.pass.now) (view c.take_maps-first.new.pass) (part.Maps 0) (Maps (translator_of c.take_maps-first.result.value))
    c.take_maps-first.ensures.takes ∙ ap (λ (l : List Held). maps_held 0 c.take_maps-first.result.value ∷ l) c.requires.free in
    let memory = c.take_memory-memory.result.value in
    pends_order (option_map (λ b. b.value) c.take_second-second.result) c.take_maps-first.result.value (Mem memory.memory memory.track)
    c.take_confs.new.redists (vcpu_count (setup c.args.machine.now)) (view c.take_memory-memory.new.pass).held (view c.take_confs.new.pass).held
    (took_held (view c.take_second-second.new.pass) (view c.take_memory-memory.new.pass) part.Mem (Mem memory.memory memory.track)
    c.take_memory-memory.ensures.takes ∙ ap (λ (l : List Held). out part.Mem (Mem memory.memory memory.track) ∷ l)
    (c.take_second-second.ensures.held ∙ ap (second_held (option_map (λ b. b.value) c.take_second-second.result)) first))
    c.take_confs.ensures.held

pub returns-clause-takes : goal.returns-clause-takes
returns-clause-takes g c =
    let m = c.args.machine.now in let s = setup m in let n = vcpu_count s in let set = c.all_of-all.result in
    let v = view c.args.pass.now in let v1 = view c.take_maps-first.new.pass in let v2 = view c.take_second-second.new.pass in
    let v3 = view c.take_memory-memory.new.pass in let v4 = view c.take_confs.new.pass in let v5 = view c.take_pends.new.pass in
    let x : Whole = record {
      first = c.take_maps-first.result;
      second = c.take_second-second.result;
      memory = record c.take_memory-memory.result { value = record c.deref_mut.result.now { redists = c.take_pends.new.redists } };
    } in
    let room = c.take_memory-memory.ensures.room in
    let lent = c.deref_mut.ensures.value in let memory = c.take_memory-memory.result.value in
    let conf_room = ap (λ (m : GuestMemory). length m.redists.confs) lent ∙ room.conf_room in
    let pend_room = ap length c.take_confs.ensures.pends ∙ (ap (λ (m : GuestMemory). length m.redists.pends) lent ∙ room.pend_room) in
    let one = takes_one IsNoShard v v1 (part.Maps 0) (Maps (translator_of x.first.value)) tt c.take_maps-first.ensures.takes in
    let two = takes_then IsNoShard v v1 v2 one c.take_second-second.ensures.takes in
    let three = takes_then IsNoShard v v2 v3 two (takes_one IsNoShard v2 v3 part.Mem (Mem memory.memory memory.track) tt
    c.take_memory-memory.ensures.takes) in
    let four = takes_then IsNoShard v v3 v4 three (takes_wider (IsConfIn set) IsNoShard (conf_no_shard set) v3 v4 c.take_confs.ensures.takes) in
    let five = takes_then IsNoShard v v4 v5 four (takes_wider (IsPendIn set) IsNoShard (pend_no_shard set) v4 v5 c.take_pends.ensures.takes) in
    let first = took_held v v1 (part.Maps 0) (Maps (translator_of x.first.value)) c.take_maps-first.ensures.takes
    ∙ ap (λ (l : List Held). maps_held 0 x.first.value ∷ l) c.requires.free in
    let maps = c.take_second-second.ensures.held ∙ ap (second_held (second_of x)) first in
    let third = took_held v2 v3 part.Mem (Mem memory.memory memory.track) c.take_memory-memory.ensures.takes
    ∙ (λ d. out part.Mem (Mem (sym lent d).memory (sym lent d).track) ∷ maps d) in
    let confs : c.take_confs.new.redists.confs ≡ (redists_in x).confs = sym c.take_pends.ensures.confs in
    let fourth = c.take_confs.ensures.held ∙ (λ d. in_row (row_of conf_held (confs d)) n (third d)) in
    let all : (n : ℕ) → is_in set n ≡ nat_lt n (vcpu_count s) = λ n. c.all_of-all.ensures n ∙ ap (nat_lt n) c.vcpus.ensures.vcpus in
    let of_all = set_is_all (HasLpisOfConf s.start.layout.shape) s set all c.take_confs.new.redists.confs c.take_confs.ensures.hand in
    takes_whole s v v5 (view c.look.new.pass) x c.look.result c.requires.of.1 five
    (c.take_pends.ensures.held ∙ ap (pends_held (redists_in x) n) fourth)
    c.look.ensures.looks c.look.ensures.later
    (is_whole s x (has_stamps m) (subst (AllOf ConfInHand (HasLpisOfConf s.start.layout.shape) s) confs of_all)
    (set_is_all (HasLpisOfPend s.start.layout.shape) s set all (redists_in x).pends c.take_pends.ensures.hand)
    c.take_second-second.ensures.all
    (ap length (sym confs) ∙ (c.take_confs.ensures.room ∙ conf_room)) (c.take_pends.ensures.room ∙ pend_room))
