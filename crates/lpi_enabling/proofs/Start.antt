-- The first state of a machine whose LPI registers the guest programs, unless it is restored with LPIs on.
use Rattle.std.proofs.Common.{◌≡◌, ℕ, zero, suc, ◌<◌, Bool, true, false, List, [], ◌∷◌, length, map, replicate, take, filter, get_or, Option, Some, Result, Ok, Err}
use Rattle.std.proofs.Common.{IfOk}
use Rattle.std.proofs.Common.{inl, inr, refl, sym, ap, subst, ◌∙◌}
use Rattle.std.specs.Prelude.{slice_get}
use Rattle.std.specs.List.{AllByRecursion}
use Rattle.std.proofs.lemmas.Bool.{cases_lt}
use Rattle.std.proofs.lemmas.List.{get_or_past}
use Rattle.std.proofs.lemmas.Option.{slice_get-get_or, same_Some}
use Rattle.guest_windows.specs.Windows.{Window, zeros}
use Rattle.guest_windows.specs.Fields.{pairs}
use Rattle.gicr_regs.specs.Redistributors.{off_redistributor}
use Rattle.gicr_regs.specs.Registers.{restored_bases}
use Rattle.gicr_regs.specs.declared.values.GicrRegisters.{GicrRegisters}
use Rattle.gits_regs.specs.declared.values.RegValues.{RegValues}
use Rattle.its_types.specs.Bits.{bit_of}
use Rattle.its_types.specs.Lpis.{no_bases}
use Rattle.its_types.specs.declared.machine.Shape.{Shape}
use Rattle.its_types.specs.declared.translation.Bases.{Bases}
use Rattle.its_plain.specs.Plain.{Plain, Translator, Redistributor, redistributor, no_redistributor}
use Rattle.its_plain.specs.Described.{StartsAt, is_restored, values_of, is_led_to, led_to, without_stale, kept_of}
use Rattle.its_plain.specs.Machine.{windows_fit, made, ensure, ◌>>=◌, tables_inside, filled, all_frames_fit, all_new, first_redistributors, bases_given}
use Rattle.its_plain.specs.Stands.{Stands}
use Rattle.its_plain.specs.declared.desc.Desc.{Desc}
use Rattle.its_plain.specs.declared.desc.DescFault.{DescFault}
use Rattle.its_plain.specs.declared.desc.DescFault.TheVariants.{Windows}
use Rattle.its_plain.specs.declared.desc.LpiTables.{LpiTables}
use Rattle.its_plain.specs.declared.desc.LpiTables.TheVariants.{Described, Registers}
use Rattle.its_plain.specs.declared.layout.Layout.{Layout}
use Rattle.lpi_enabling.specs.Enabling.{IsOff, AllOff, RestoresOff}
use Rattle.lpi_enabling.specs.Laws.{MachinesStartOff}

none_off : IsOff no_redistributor
none_off = record { off = refl; none_taken = refl; none_pending = refl }

-- ---- not restored

after_ok : {A B : Type 0} (P : B → Type 0) (r : Result A DescFault) (f : A → Result B DescFault) → ((x : A) → IfOk (f x) P) → IfOk (r >>= f) P
after_ok P (Ok x) f h = h x
after_ok P (Err e) f h = tt

with_ok : {A B : Type 0} (Q : A → Type 0) (P : B → Type 0) (r : Result A DescFault) (f : A → Result B DescFault) → IfOk r Q → ((x : A) → Q x → IfOk (f x) P)
    → IfOk (r >>= f) P
with_ok Q P (Ok x) f q h = h x q
with_ok Q P (Err e) f q h = tt

if_ok_at : {A E : Type 0} (P : A → Type 0) (r : Result A E) (x : A) → IfOk r P → r ≡ Ok x → P x
if_ok_at P r x h e = subst (λ q. IfOk q P) e h

abbrev AreOff : List Redistributor → Type 0
AreOff rs = (k : ℕ) → IsOff (get_or rs k no_redistributor)

replicate_off : (n : ℕ) (r : Redistributor) → IsOff r → AreOff (replicate n r)
replicate_off zero r h k = none_off
replicate_off (suc n) r h zero = h
replicate_off (suc n) r h (suc k) = replicate_off n r h k

first_off : (s : Shape) (memory : List Window) (t : LpiTables) → RestoresOff t → IfOk (first_redistributors s memory t) AreOff
first_off s memory (Described config pending) h = absurd h
first_off s memory (Registers values) h = replicate_off s.vcpus (off_redistributor s no_bases) (record { off = refl; none_taken = refl; none_pending = refl })

made_off : (d : Desc) → RestoresOff d.tables → IfOk (made d) AllOff
unfolding made
made_off d h =
    let empty : List Window = map zeros (pairs d.windows) in
    after_ok AllOff (ensure (windows_fit d) Windows) _ (λ _.
    after_ok AllOff (tables_inside d.shape empty d.tables) _ (λ _.
    after_ok AllOff (filled empty 0 d.fills) _ (λ memory.
    after_ok AllOff (all_frames_fit (pairs d.windows) 0 d.translators) _ (λ _.
    after_ok AllOff (all_new [] 0 d.requesters) _ (λ _.
    with_ok AreOff AllOff (first_redistributors d.shape memory d.tables) _ (first_off d.shape memory d.tables h) (λ rs off. off))))))

-- ---- restored

registers_off : (n : ℕ) (registers : List GicrRegisters) → AllByRecursion (λ r. bit_of r.ctlr 0 ≡ false) registers → (k : ℕ) (b : Bases)
    → slice_get (map restored_bases (take n registers)) k ≡ Some b → b.on ≡ false
registers_off zero registers h k b e = absurd cc
registers_off (suc n) [] h k b e = absurd cc
registers_off (suc n) (r ∷ registers) h zero b e = ap (λ (x : Bases). x.on) (sym (same_Some (restored_bases r) b e)) ∙ h.0
registers_off (suc n) (r ∷ registers) h (suc k) b e = registers_off n registers h.1 k b e

bases_off : (vcpus : ℕ) (t : LpiTables) → RestoresOff t → (k : ℕ) (b : Bases) → slice_get (bases_given vcpus t) k ≡ Some b → b.on ≡ false
bases_off vcpus (Described config pending) h k b e = absurd h
bases_off vcpus (Registers values) h k b e = registers_off vcpus values.registers h k b e

standing_off : (memory : List Window) (values : List (Option RegValues)) (l : Layout) (bases : List Bases) (u : Plain)
    → ((k : ℕ) (b : Bases) → slice_get bases k ≡ Some b → b.on ≡ false)
    → Stands memory values l bases u → AllOff u
standing_off memory values l bases u off h v =
    elim (cases_lt v (length u.redistributors)) [
      | inl within ↦
          let b : Bases = get_or bases v no_bases in
          let low : v < length bases = subst (λ n. v < n) h.vcpus within in
          let there = slice_get-get_or bases v no_bases low in
          let is = h.redistributors v b (redistributor u v) there (slice_get-get_or u.redistributors v no_redistributor within) in
          let was : b.on ≡ false = off v b there in
          record { off = ap (λ (x : Bases). x.on) is.bases ∙ was; none_taken = is.accepts ∙ was; none_pending = is.off_pending was }
      | inr past ↦ subst IsOff (sym (get_or_past u.redistributors v no_redistributor past)) none_off
    ]

starts_off : (restored : Bool) (values : List (Option RegValues)) (vcpus : ℕ) (t : LpiTables) (base u : Plain) → RestoresOff t → AllOff base
    → StartsAt restored values (bases_given vcpus t) base u
    → AllOff u
starts_off false values vcpus t base u h off is = subst AllOff (sym is) off
starts_off true values vcpus t base u h off is = standing_off base.memory values base.layout (bases_given vcpus t) u (bases_off vcpus t h) is

-- ---- without the bits that no event leads to

led_off : (ts : List Translator) (vcpu : ℕ) (rs : List Redistributor) → AreOff rs → AreOff (led_to ts vcpu rs)
led_off ts vcpu [] h k = none_off
led_off ts vcpu (r ∷ rs) h zero =
    let was = h 0 in record { off = was.off; none_taken = was.none_taken; none_pending = ap (filter (is_led_to ts vcpu)) was.none_pending }
led_off ts vcpu (r ∷ rs) h (suc k) = led_off ts (suc vcpu) rs (λ j. h (suc j)) k

kept_off : (from_kvm : Bool) (u : Plain) → AllOff u → AllOff (kept_of from_kvm u)
unfolding without_stale
kept_off true u h = led_off u.translators 0 u.redistributors h
kept_off false u h = h

pub start_off : MachinesStartOff
start_off d u is h =
    let read : AllOff is.read =
    starts_off (is_restored d) (values_of d) d.shape.vcpus d.tables is.base is.read h (if_ok_at AllOff (made d) is.base (made_off d h) is.made_is) is.starts in
    subst AllOff (sym is.kept) (kept_off d.from_kvm is.read read)
