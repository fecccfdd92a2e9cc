use Rattle.std.proofs.Common.{◌≡◌, ℕ, ◌∷◌, List, ap, sym, ◌∙◌, subst, nat_lt}
use Rattle.std.specs.Option.{option_map}
use Rattle.lpi_pending.specs.InHand.{HasLpisOfConf, HasLpisOfPend}
use Rattle.owned_parts.specs.RedistSets.{is_in}
use Rattle.its_types.specs.declared.machine.Part.TheVariants as part
use Rattle.its_steps.specs.Contents.{Held, Mem}
use Rattle.its_steps.specs.Parts.{vcpu_count}
use Rattle.its_steps.specs.World.{out}
use Rattle.its_turns.specs.Machines.{setup, view}
use Rattle.its_turns.proofs.Stamps.{has_stamps}
use Rattle.held_parts.specs.Redists.{redists_held}
use Rattle.held_parts.specs.Taking.{LostNone, holding}
use Rattle.held_parts.specs.Wholes.{IsNoShard}
use Rattle.held_parts.specs.declared.whole.Whole.{Whole}
use Rattle.held_parts.proofs.Once.{once_then, once_takes, none_lost, busy_then, busy_held}
use Rattle.held_parts.proofs.Wholes.{set_is_all, is_whole, takes_whole, memory_order}
use Rattle.held_parts.proofs.OnceWhole.{maps_before_confs, maps_before_pends}
use Rattle.held_parts.proofs.whole_once.once_whole.Goals as goal

pub once_memory-requires-clause-order : goal.once_memory-requires-clause-order
once_memory-requires-clause-order g c = let x = c.in-Ok.maps in
    memory_order (option_map (λ b. b.value) x.1) x.0.value (view c.once_maps.new.pass).held c.in-Ok.ensures.result.1

pub once_memory-requires-clause-before_confs : goal.once_memory-requires-clause-before_confs
once_memory-requires-clause-before_confs g c = let x = c.in-Ok.maps in
    maps_before_confs (option_map (λ b. b.value) x.1) x.0.value (view c.once_maps.new.pass).held c.in-Ok.ensures.result.1

pub once_memory-requires-clause-before_pends : goal.once_memory-requires-clause-before_pends
once_memory-requires-clause-before_pends g c = let x = c.in-Ok.maps in
    maps_before_pends (option_map (λ b. b.value) x.1) x.0.value (view c.once_maps.new.pass).held c.in-Ok.ensures.result.1

pub returns-in-Ok-once_memory-clause-result : goal.returns-in-Ok-once_memory-clause-result
returns-in-Ok-once_memory-clause-result g c =
    let m = c.args.machine.now in let s = setup m in let n = vcpu_count s in let set = c.all_of.result in
    let v = view c.args.pass.now in let x = view c.once_maps.new.pass in let y = view c.once_memory.new.pass in let z = view c.look.new.pass in
    let maps = c.in-Ok.ensures.result in let rest = c.in-Ok-once_memory.ensures.result in
    let w : Whole = record { first = c.in-Ok.maps.0; second = c.in-Ok.maps.1; memory = c.in-Ok-once_memory.memory } in
    let memory = w.memory.value in
    let takes = once_then IsNoShard v x y maps.0 rest.0 in
    let all : (k : ℕ) → is_in set k ≡ nat_lt k (vcpu_count s) = λ k. c.all_of.ensures k ∙ ap (nat_lt k) c.vcpus.ensures.vcpus in (
      takes_whole s v y z w c.look.result c.requires.of.1 (once_takes IsNoShard v y takes)
          (rest.1 ∙ ap (λ (l : List Held). redists_held memory.redists n (out part.Mem (Mem memory.memory memory.track) ∷ l)) maps.1)
          c.look.ensures.looks c.look.ensures.later
          (is_whole s w (has_stamps m) (set_is_all (HasLpisOfConf s.start.layout.shape) s set all memory.redists.confs rest.2.confs)
          (set_is_all (HasLpisOfPend s.start.layout.shape) s set all memory.redists.pends rest.2.pends)
          c.in-Ok.ensures.all rest.2.places.confs rest.2.places.pends),
      subst (LostNone v) (sym c.look.ensures.looks.same) (none_lost IsNoShard v y takes),
    )

pub put_maps-requires-clause-held : goal.put_maps-requires-clause-held
put_maps-requires-clause-held g c =
    busy_held IsNoShard (view c.once_maps.new.pass) (view c.once_memory.new.pass) c.in-Err-once_memory.busy c.in-Err-once_memory.ensures.result
    ∙ c.in-Ok.ensures.result.1

pub returns-in-Err-once_memory-clause-result : goal.returns-in-Err-once_memory-clause-result
returns-in-Err-once_memory-clause-result g c =
    let v = view c.args.pass.now in
    busy_then IsNoShard v (view c.once_maps.new.pass) (view c.once_memory.new.pass) (view c.put_maps.new.pass) c.in-Err-once_memory.busy
    c.in-Ok.ensures.result.0 c.in-Err-once_memory.ensures.result
    (c.put_maps.ensures.home ∙ ap (λ (l : List Held). holding (view c.once_memory.new.pass) l) (sym c.requires.free))
