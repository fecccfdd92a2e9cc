-- The first state of a machine: what is in memory, and how many redistributors there are.
use Rattle.std.proofs.Common.{◌≡◌, ℕ, suc, ◌+◌, Bool, true, false, List, [], ◌∷◌, length, map, take, Option, Some, None, Result, Ok, Err, IfOk, refl, sym}
use Rattle.std.proofs.Common.{subst, ap, ◌∙◌, arith}
use Rattle.std.specs.Prelude.{IfSome, ok_or}
use Rattle.std.proofs.lemmas.List.{length-map, length-replicate, length-take-le}
use Rattle.guest_windows.specs.Windows.{Window, zeros, read_at, write_at}
use Rattle.guest_windows.specs.Fields.{pairs}
use Rattle.gicr_regs.specs.Redistributors.{off_redistributor}
use Rattle.gicr_regs.specs.Registers.{restored_bases}
use Rattle.gits_regs.specs.declared.values.RegValues.{RegValues}
use Rattle.its_types.specs.Lpis.{no_bases, described_bases}
use Rattle.its_types.specs.Ranges.{lpi_count}
use Rattle.its_types.specs.declared.machine.Shape.{Shape}
use Rattle.its_types.specs.declared.translation.Bases.{Bases}
use Rattle.its_plain.specs.Plain.{Plain, Translator, Redistributor}
use Rattle.its_plain.specs.Described.{IsFirstState, StartsAt, values_of, is_restored, led_to, without_stale, kept_of}
use Rattle.its_plain.specs.Machine.{made, ensure, ◌>>=◌, windows_fit, tables_inside, filled, all_frames_fit, all_new, first_redistributors}
use Rattle.its_plain.specs.Machine.{idle_redistributor, bases_given, HasTablesFor}
use Rattle.its_plain.specs.declared.desc.Desc.{Desc}
use Rattle.its_plain.specs.declared.desc.DescFault.{DescFault}
use Rattle.its_plain.specs.declared.desc.DescFault.TheVariants.{Windows, Config, Bytes}
use Rattle.its_plain.specs.declared.desc.Fill.{Fill}
use Rattle.its_plain.specs.declared.desc.LpiTables.{LpiTables}
use Rattle.its_plain.specs.declared.desc.LpiTables.TheVariants.{Described, Registers}
use Rattle.report_reading.specs.Bytes.{AllBytes, HasBytes, FillBytes}
use Rattle.report_reading.specs.Laws.{MachinesStartWithBytes}
use Rattle.report_reading.proofs.Memory.{empty_windows, written_small}

-- ---- steps

with_ok : {A B : Type 0} (Q : A → Type 0) (P : B → Type 0) (r : Result A DescFault) (f : A → Result B DescFault) → IfOk r Q → ((x : A) → Q x → IfOk (f x) P)
    → IfOk (r >>= f) P
with_ok Q P (Ok x) f q h = h x q
with_ok Q P (Err e) f q h = tt

after_ok : {A B : Type 0} (P : B → Type 0) (r : Result A DescFault) (f : A → Result B DescFault) → ((x : A) → IfOk (f x) P) → IfOk (r >>= f) P
after_ok P (Ok x) f h = h x
after_ok P (Err e) f h = tt

if_ok_at : {A E : Type 0} (P : A → Type 0) (r : Result A E) (x : A) → IfOk r P → r ≡ Ok x → P x
if_ok_at P r x h e = subst (λ q. IfOk q P) e h

found : {A : Type 0} (P : A → Type 0) (o : Option A) (fault : DescFault) → IfSome o P → IfOk (ok_or o fault) P
found P None fault h = tt
found P (Some x) fault h = h

-- ---- memory

filled_small : (memory : List Window) (n : ℕ) (fills : List Fill) → AllBytes memory → FillBytes fills → IfOk (filled memory n fills) AllBytes
filled_small memory n [] h f = h
filled_small memory n (x ∷ fills) h f =
    with_ok AllBytes AllBytes (ok_or (write_at memory x.addr.0 x.bytes) (Bytes n)) _
    (found AllBytes (write_at memory x.addr.0 x.bytes) (Bytes n) (written_small memory x.addr.0 x.bytes h f.0))
    (λ m small. filled_small m (n + 1) fills small f.1)

made_small : (d : Desc) → FillBytes d.fills → IfOk (made d) HasBytes
unfolding made
made_small d f =
    let empty : List Window = map zeros (pairs d.windows) in
    after_ok HasBytes (ensure (windows_fit d) Windows) _ (λ _.
    after_ok HasBytes (tables_inside d.shape empty d.tables) _ (λ _.
    with_ok AllBytes HasBytes (filled empty 0 d.fills) _ (filled_small empty 0 d.fills (empty_windows (pairs d.windows)) f) (λ memory small.
    after_ok HasBytes (all_frames_fit (pairs d.windows) 0 d.translators) _ (λ _.
    after_ok HasBytes (all_new [] 0 d.requesters) _ (λ _.
    after_ok HasBytes (first_redistributors d.shape memory d.tables) _ (λ rs. small))))))

starts_small : (restored : Bool) (values : List (Option RegValues)) (bases : List Bases) (base u : Plain) → HasBytes base
    → StartsAt restored values bases base u → HasBytes u
starts_small false values bases base u h is = subst HasBytes (sym is) h
starts_small true values bases base u h is = subst AllBytes (sym is.memory_is) h

-- a bit that no event leads to is no byte of memory
kept_small : (from_kvm : Bool) (u : Plain) → HasBytes u → HasBytes (kept_of from_kvm u)
unfolding without_stale
kept_small true u h = h
kept_small false u h = h

pub start_bytes : MachinesStartWithBytes
start_bytes d u f is =
    let read : HasBytes is.read =
    starts_small (is_restored d) (values_of d) (bases_given d.shape.vcpus d.tables) is.base is.read (if_ok_at HasBytes (made d) is.base
    (made_small d f) is.made_is) is.starts in
    subst HasBytes (sym is.kept) (kept_small d.from_kvm is.read read)

-- ---- redistributors

abbrev HasAsMany : ℕ → List Redistributor → Type 0
HasAsMany n rs = length rs ≡ n

first_count : (s : Shape) (memory : List Window) (t : LpiTables) → HasTablesFor s.vcpus t → IfOk (first_redistributors s memory t) (HasAsMany s.vcpus)
first_count s memory (Described config pending) h =
    after_ok (HasAsMany s.vcpus) (ok_or (read_at memory config.0 (lpi_count s.lpi_bits)) Config) _ (λ bytes.
    length-map (map (described_bases config) pending) (idle_redistributor bytes) ∙ (length-map pending (described_bases config) ∙ h))
first_count s memory (Registers values) h = length-replicate s.vcpus (off_redistributor s no_bases)

abbrev HasAll : ℕ → Plain → Type 0
HasAll n u = HasAsMany n u.redistributors

made_count : (d : Desc) → HasTablesFor d.shape.vcpus d.tables → IfOk (made d) (HasAll d.shape.vcpus)
unfolding made
made_count d h =
    let P : Plain → Type 0 = HasAll d.shape.vcpus in
    let empty : List Window = map zeros (pairs d.windows) in
    after_ok P (ensure (windows_fit d) Windows) _ (λ _.
    after_ok P (tables_inside d.shape empty d.tables) _ (λ _.
    after_ok P (filled empty 0 d.fills) _ (λ memory.
    after_ok P (all_frames_fit (pairs d.windows) 0 d.translators) _ (λ _.
    after_ok P (all_new [] 0 d.requesters) _ (λ _.
    with_ok (HasAsMany d.shape.vcpus) P (first_redistributors d.shape memory d.tables) _ (first_count d.shape memory d.tables h) (λ rs count. count))))))

given_count : (vcpus : ℕ) (t : LpiTables) → HasTablesFor vcpus t → length (bases_given vcpus t) ≡ vcpus
given_count vcpus (Described config pending) h = length-map pending (described_bases config) ∙ h
given_count vcpus (Registers values) h =
    length-map (take vcpus values.registers) restored_bases ∙ length-take-le vcpus values.registers (omega (arith, h))

starts_count : (restored : Bool) (values : List (Option RegValues)) (vcpus : ℕ) (t : LpiTables) (base u : Plain) → HasTablesFor vcpus t
    → HasAll vcpus base → StartsAt restored values (bases_given vcpus t) base u → HasAll vcpus u
starts_count false values vcpus t base u h made is = subst (HasAll vcpus) (sym is) made
starts_count true values vcpus t base u h made is = is.vcpus ∙ given_count vcpus t h

led_count : (ts : List Translator) (vcpu : ℕ) (rs : List Redistributor) → length (led_to ts vcpu rs) ≡ length rs
led_count ts vcpu [] = refl
led_count ts vcpu (r ∷ rs) = ap (λ (n : ℕ). suc n) (led_count ts (suc vcpu) rs)

kept_count : (n : ℕ) (from_kvm : Bool) (u : Plain) → HasAll n u → HasAll n (kept_of from_kvm u)
unfolding without_stale
kept_count n true u h = led_count u.translators 0 u.redistributors ∙ h
kept_count n false u h = h

pub start_count : (d : Desc) (u : Plain) → HasTablesFor d.shape.vcpus d.tables → IsFirstState d u
    → length u.redistributors ≡ d.shape.vcpus
start_count d u h is =
    let read : HasAll d.shape.vcpus is.read =
    starts_count (is_restored d) (values_of d) d.shape.vcpus d.tables is.base is.read h
    (if_ok_at (HasAll d.shape.vcpus) (made d) is.base (made_count d h) is.made_is) is.starts in
    subst (HasAll d.shape.vcpus) (sym is.kept) (kept_count d.shape.vcpus d.from_kvm is.read read)
