use Rattle.std.proofs.Common.{◌≡◌, ℕ, List, ◌∙◌, ap, sym, append_assoc, ◌++◌, ◌∷◌, [], subst, length, arith}
use Rattle.std.specs.List.{AllByRecursion}
use Rattle.its_types.specs.declared.translation.Device.{Device}
use Rattle.its_plain.specs.declared.area.Area.{Area}
use Rattle.its_plain.specs.Regions.{itt_area}
use Rattle.table_save.specs.Areas.{itt_areas, HasLowTable}
use Rattle.table_save.proofs.areas.add_itts.Goals as goal

one_more : (its : ℕ) (old now whole : List Area) (it next : List (ℕ × Device)) (d : ℕ × Device) (a : Area) → it ≡ d ∷ next → a ≡ itt_area its d
    → now ≡ old ++ a ∷ []
    → old ++ itt_areas its it ≡ whole → now ++ itt_areas its next ≡ whole
one_more its old now whole it next d a steps is pushed so_far =
    ap (λ xs. xs ++ itt_areas its next) pushed ∙ append_assoc old (a ∷ []) (itt_areas its next) ∙ ap (λ b. old ++ b ∷ itt_areas its next) is
    ∙ ap (λ ds. old ++ itt_areas its ds) (sym steps) ∙ so_far

pub loop-dev-preserved : goal.loop-dev-preserved
loop-dev-preserved c =
    let v = c.loop-dev.invariant in
    record {
      can_next = tt;
      is_finite = tt;
      low = (subst (AllByRecursion HasLowTable) c.in-Some.ensures.steps v.low).1;
      areas = one_more c.args.its c.loop-dev.areas.items c.push.new.self.items _ c.loop-dev.dev-iterator c.next.new.self (c.in-Some.dev.0, c.in-Some.device)
          c.itt_area.result c.in-Some.ensures.steps c.itt_area.ensures c.push.ensures.items v.areas;
      few = let steps = ap length c.in-Some.ensures.steps in omega (arith, steps, c.push.ensures.one, v.few);
      capacity = omega (arith, c.push.ensures.capacity, v.capacity);
    }
