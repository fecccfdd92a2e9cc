-- A restore finds the tables where a description says.
use Rattle.std.proofs.Common.{◌≡◌, ◌≤◌, ◌<◌, ℕ, zero, suc, Bool, true, false, cond, List, [], ◌∷◌, map, length, take, get_or, Some, refl, sym, ap, ◌∙◌, arith}
use Rattle.std.specs.Prelude.{slice_get}
use Rattle.std.proofs.lemmas.List.{length-map, length-take-le}
use Rattle.gicr_regs.specs.Registers.{all_restored_bases, restored_bases}
use Rattle.gicr_regs.specs.declared.values.GicrRegisters.{GicrRegisters}
use Rattle.gicr_regs.specs.declared.values.GicrValues.{GicrValues}
use Rattle.its_types.specs.declared.machine.Shape.{Shape}
use Rattle.its_types.specs.declared.translation.Bases.{Bases}
use Rattle.its_plain.specs.Described as described
use Rattle.its_plain.specs.Machine.{layout_of, are_programmed, described_in, bases_given}
use Rattle.its_plain.specs.Sound.{IsLayout}
use Rattle.its_plain.specs.declared.desc.Desc.{Desc}
use Rattle.its_plain.specs.declared.layout.Layout.{Layout}
use Rattle.its_plain.specs.declared.desc.LpiTables.{LpiTables}
use Rattle.its_plain.specs.declared.desc.LpiTables.TheVariants.{Described, Registers}
use Rattle.standing_states.specs.Laws.{bases_to_restore, AreGiven}

tables_given : (s : Shape) (track : Bool) (t : LpiTables) (values : GicrValues) → AreGiven t values
    → bases_to_restore (record { shape = s; gicr = are_programmed t; described = described_in t; track = track }) values ≡ bases_given s.vcpus t
tables_given s track (Described config pending) values given = refl
tables_given s track (Registers w) values given = ap (all_restored_bases s.vcpus) (sym given)

pub given_is : (d : Desc) (values : GicrValues) → AreGiven d.tables values → bases_to_restore (layout_of d) values ≡ described.restored_bases d
given_is d values given = tables_given d.shape d.track d.tables values given

-- ---- there are as many as virtual processors

pub as_many : (l : Layout) (values : GicrValues) → IsLayout l → length values.registers ≡ l.shape.vcpus → length (bases_to_restore l values) ≡ l.shape.vcpus
as_many l values sound all =
    elim l.gicr as (λ b. l.gicr ≡ b → length (cond b (all_restored_bases l.shape.vcpus values) l.described) ≡ l.shape.vcpus) [
      | true ↦ λ e. length-map (take l.shape.vcpus values.registers) restored_bases
          ∙ length-take-le l.shape.vcpus values.registers (omega (arith, all))
      | false ↦ λ e. sound.described e
    ] refl

there : (xs : List GicrRegisters) (n v : ℕ) (d : GicrRegisters) → v < n → n ≤ length xs → slice_get (map restored_bases (take n xs)) v ≡ Some
    (restored_bases (get_or xs v d))
there xs zero v d lt le = absurd (omega arith)
there [] (suc n) v d lt le = absurd (omega arith)
there (x ∷ xs) (suc n) zero d lt le = refl
there (x ∷ xs) (suc n) (suc v) d lt le = there xs n v d (omega arith) (omega arith)

item : (xs : List Bases) (v : ℕ) (d : Bases) → v < length xs → slice_get xs v ≡ Some (get_or xs v d)
item [] v d lt = absurd (omega arith)
item (x ∷ xs) zero d lt = refl
item (x ∷ xs) (suc v) d lt = item xs v d (omega arith)

pub from_values : (l : Layout) (values : GicrValues) (v : ℕ) (d : GicrRegisters) → l.gicr ≡ true → v < l.shape.vcpus → l.shape.vcpus ≤ length values.registers
    → slice_get (bases_to_restore l values) v ≡ Some (restored_bases (get_or values.registers v d))
from_values l values v d gicr lt le = ap (λ (b : Bool). slice_get (cond b (all_restored_bases l.shape.vcpus values) l.described) v) gicr
    ∙ there values.registers l.shape.vcpus v d lt le

pub from_layout : (l : Layout) (values : GicrValues) (v : ℕ) (d : Bases) → l.gicr ≡ false → v < length l.described → slice_get (bases_to_restore l values) v
    ≡ Some (get_or l.described v d)
from_layout l values v d gicr lt = ap (λ (b : Bool). slice_get (cond b (all_restored_bases l.shape.vcpus values) l.described) v) gicr ∙ item l.described v d lt
