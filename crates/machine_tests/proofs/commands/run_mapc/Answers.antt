use Rattle.std.proofs.Common.{ℕ, false, List, [], ◌∷◌, refl, ap, ◌∙◌, lit≤}
use Rattle.gits_regs.specs.Registers.{Registers}
use Rattle.its_types.specs.declared.machine.Profile.TheVariants.{One}
use Rattle.its_types.specs.declared.machine.Shape.{Shape}
use Rattle.cmd_exec.proofs.Start.{mapc_needs_none, starts_sound, good_windows}
use Rattle.machine_tests.proofs.commands.run_mapc.Goals as goal

pub plan-planned-requires : goal.plan-planned-requires
plan-planned-requires g c = mapc_needs_none _ _ _ c.mapc.result _ _ refl c.mapc.ensures

pub apply-requires-clause-parts : goal.apply-requires-clause-parts
apply-requires-clause-parts g c =
    let shape : Shape = record { vcpus = 4; dev_bits = 16; lpi_bits = 16; profile = One; linux = false } in
    let windows : List (ℕ × ℕ) = (0x8000_0000, 0x1000) ∷ [] in
    starts_sound shape c.reset-regs.result _ c.in_ok-memory.memory _
    (record {
      some_vcpus = lit≤ tt;
      most_vcpus = lit≤ tt;
      least_dev_bits = lit≤ tt;
      most_dev_bits = lit≤ tt;
      least_lpi_bits = lit≤ tt;
      most_lpi_bits = lit≤ tt;
    })
    c.keeps_rules.ensures (ap (λ (r : Registers). r.dev_bits) c.reset-regs.ensures)
    (good_windows windows c.in_ok-memory.memory c.in_ok-memory.ensures.ok c.in_ok-memory.ensures.fits)
    (c.make_room.ensures.maps ∙ c.new-maps.ensures) 4 c.in-Ok.ensures

pub apply-requires-clause-in_hand : goal.apply-requires-clause-in_hand
apply-requires-clause-in_hand g c = mapc_needs_none _ _ _ _ _ _ refl (c.plan-planned.ensures.plan.command ∙ c.mapc.ensures)
