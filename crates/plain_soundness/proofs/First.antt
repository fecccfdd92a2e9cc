-- The first state of a machine.
use Rattle.std.proofs.Common.{◌≡◌, ℕ, zero, suc, ◌+◌, ◌≤◌, Bool, true, false, cond, List, [], ◌∷◌, length, map, replicate, Option, Some, None, Result, Ok}
use Rattle.std.proofs.Common.{Err}
use Rattle.std.proofs.Common.{IfOk, refl, ap, subst, ◌∙◌, arith}
use Rattle.std.specs.Prelude.{slice_get, ok_or, nat_le, sum}
use Rattle.std.proofs.lemmas.Bool.{and_parts, both_ways}
use Rattle.std.specs.List.{AllByRecursion}
use Rattle.std.proofs.lemmas.List.{length-map, length-replicate}
use Rattle.std.proofs.lemmas.Option.{same_Some}
use Rattle.guest_windows.specs.Windows.{Window, are_windows, zeros, inside, read_at, write_at, extent}
use Rattle.guest_windows.specs.Fields.{pairs}
use Rattle.guest_windows.proofs.Laws.{inside-extents, extents-write_at, length-read_at}
use Rattle.gits_regs.specs.Registers as regs
use Rattle.gits_regs.specs.Registers.{reset}
use Rattle.gits_regs.proofs.Rules.{size_of_some}
use Rattle.its_types.specs.Maps.{no_maps}
use Rattle.its_types.specs.Ranges.{lpi_count, pending_bytes}
use Rattle.its_types.specs.declared.ids.Addr.{Addr}
use Rattle.its_types.specs.declared.machine.Shape.{Shape}
use Rattle.its_types.specs.declared.translation.Bases.{Bases}
use Rattle.its_plain.specs.Plain.{Translator, Redistributor}
use Rattle.its_plain.specs.declared.layout.Layout.{Layout}
use Rattle.its_plain.specs.Sound.{IsSound, IsTranslator, IsRedistributor, HasTables, IsShape}
use Rattle.gicr_regs.specs.Redistributors.{off_redistributor}
use Rattle.gicr_regs.specs.declared.values.GicrValues.{GicrValues}
use Rattle.its_types.specs.Lpis.{no_bases}
use Rattle.its_plain.specs.Machine.{made, windows_fit, started, pending_inside, tables_inside, filled, described_bases, described_in, are_programmed}
use Rattle.its_plain.specs.Machine.{layout_of}
use Rattle.its_plain.specs.Machine.{all_frames_fit, all_new, first_redistributors, idle_redistributor, ensure, ◌>>=◌, IsDescription, HasTablesFor}
use Rattle.its_plain.specs.declared.desc.LpiTables.{LpiTables}
use Rattle.its_plain.specs.declared.desc.LpiTables.TheVariants.{Described, Registers}
use Rattle.its_plain.specs.declared.desc.Desc.{Desc}
use Rattle.its_plain.specs.declared.desc.DescFault.{DescFault}
use Rattle.its_plain.specs.declared.desc.DescFault.TheVariants.{Windows, Config, Pending, Bytes}
use Rattle.its_plain.specs.declared.desc.Fill.{Fill}
use Rattle.plain_soundness.specs.Laws.{MachinesStartSound}
use Rattle.plain_soundness.proofs.Migrated.{tracks_of, tracked_of}
use Rattle.plain_soundness.proofs.Lists.{at_each_map, all_at, no_set}
use Rattle.plain_soundness.proofs.Mapped.{translator_made, no_maps_sound}
use Rattle.plain_soundness.proofs.Translated.{if_ok_at}

-- ---- a description's steps

passed : {B : Type 0} (P : B → Type 0) (test : Bool) (fault : DescFault) (f : Unit {0} → Result B DescFault) → (test ≡ true → IfOk (f tt) P)
    → IfOk (ensure test fault >>= f) P
passed P true fault f h = h refl
passed P false fault f h = tt

found : {A B : Type 0} (P : B → Type 0) (o : Option A) (fault : DescFault) (f : A → Result B DescFault) → ((x : A) → o ≡ Some x → IfOk (f x) P)
    → IfOk (ok_or o fault >>= f) P
found P None fault f h = tt
found P (Some x) fault f h = h x refl

then_ok : {A B : Type 0} (Q : A → Type 0) (P : B → Type 0) (r : Result A DescFault) (f : A → Result B DescFault) → IfOk r Q → ((x : A) → Q x → IfOk (f x) P)
    → IfOk (r >>= f) P
then_ok Q P (Ok x) f q h = h x q
then_ok Q P (Err e) f q h = tt

any_ok : {A : Type 0} (r : Result A DescFault) → IfOk r (λ _. Unit {0})
any_ok (Ok x) = tt
any_ok (Err e) = tt

-- every pending table lies in memory
abbrev AllInside : List Window → ℕ → List Addr → Type 0
AllInside memory size bases = AllByRecursion (λ base. inside memory base.0 size ≡ true) bases

inside_each : (test : Bool) (P : Type 0) (fault : DescFault) (rest : Result (Unit {0}) DescFault) → (test ≡ true → IfOk rest (λ _. P))
    → IfOk (cond test rest (Err fault)) (λ _. P)
inside_each true P fault rest h = h refl
inside_each false P fault rest h = tt

both_hold : (P Q : Type 0) (r : Result (Unit {0}) DescFault) → P → IfOk r (λ _. Q) → IfOk r (λ _. P × Q)
both_hold P Q (Ok x) p q = (p, q)
both_hold P Q (Err e) p q = tt

pending_tables : (memory : List Window) (size vcpu : ℕ) (bases : List Addr) → IfOk (pending_inside memory size vcpu bases) (λ _. AllInside memory size bases)
pending_tables memory size vcpu [] = tt
pending_tables memory size vcpu (base ∷ bases) =
    inside_each (inside memory base.0 size) (AllInside memory size (base ∷ bases)) (Pending (record { 0 = vcpu })) (pending_inside memory size (vcpu + 1) bases)
    (λ here. both_hold (inside memory base.0 size ≡ true) (AllInside memory size bases) (pending_inside memory size (vcpu + 1) bases) here
    (pending_tables memory size (vcpu + 1) bases))

then_same : (memory next : List Window) (r : Result (List Window) DescFault) → map extent next ≡ map extent memory
    → IfOk r (λ now. map extent now ≡ map extent next)
    → IfOk r (λ now. map extent now ≡ map extent memory)
then_same memory next (Ok now) e h = h ∙ e
then_same memory next (Err fault) e h = tt

-- bytes put into memory leave the windows where they are
same_windows : (memory : List Window) (n : ℕ) (fills : List Fill) → IfOk (filled memory n fills) (λ now. map extent now ≡ map extent memory)
same_windows memory n [] = refl
same_windows memory n (f ∷ fills) =
    found (λ now. map extent now ≡ map extent memory) (write_at memory f.addr.0 f.bytes) (Bytes n) _ (λ next written.
    then_same memory next (filled next (n + 1) fills) (extents-write_at memory f.addr.0 f.bytes next written) (same_windows next (n + 1) fills))

-- windows of zeros are where they are to be
extents_of_zeros : (windows : List (ℕ × ℕ)) → map extent (map zeros windows) ≡ windows
extents_of_zeros [] = refl
extents_of_zeros (w ∷ windows) = ap (λ n. (w.0, n) ∷ map extent (map zeros windows)) (length-replicate w.1 0) ∙ ap (λ rest. w ∷ rest) (extents_of_zeros windows)

-- ---- the parts of the first state

-- each of a list of one element again and again is that
at_replicate : {A : Type 0} (n : ℕ) (x : A) (i : ℕ) (y : A) → slice_get (replicate n x) i ≡ Some y → x ≡ y
at_replicate zero x i y e = absurd cc
at_replicate (suc n) x zero y e = same_Some x y e
at_replicate (suc n) x (suc i) y e = at_replicate n x i y e

reset_sound : (dev_bits : ℕ) → 16 ≤ dev_bits → dev_bits ≤ 20 → regs.IsSound (reset dev_bits)
reset_sound dev_bits least most = record {
  least_bits = least;
  most_bits = most;
  cbaser = refl;
  baser0 = refl;
  baser1 = refl;
  enabled = λ on. absurd cc;
  creadr = record { inside = size_of_some 0; whole = refl };
  cwriter = record { inside = size_of_some 0; whole = refl };
}

pub reset_translator : (s : Shape) → IsShape s → IsTranslator s (record { regs = reset s.dev_bits; maps = no_maps })
reset_translator s h = translator_made s (reset s.dev_bits) no_maps (reset_sound s.dev_bits h.least_dev_bits h.most_dev_bits) refl
    (no_maps_sound s (reset s.dev_bits))

each_translator : (s : Shape) (n : ℕ) (t : Translator) → IsTranslator s t → (i : ℕ) (x : Translator) → slice_get (replicate n t) i ≡ Some x → IsTranslator s x
each_translator s n t h i x e = subst (IsTranslator s) (at_replicate n t i x e) h

idle_sound : (l : Layout) (memory : List Window) (v : ℕ) (config : List ℕ) (b : Bases) → l.gicr ≡ false → slice_get l.described v ≡ Some b → b.on ≡ true
    → length config ≡ lpi_count l.shape.lpi_bits → HasTables l.shape memory b → IsRedistributor l memory v (idle_redistributor config b)
idle_sound l memory v config b fixed described on count tables = record {
  rising = (no_set (λ _. Unit {0})).rising;
  lpis = tt;
  config = count;
  accepts = refl;
  tables = λ _. tables;
  off_pending = λ _. refl;
  off_config = λ off. absurd (both_ways b.on off on);
  kept = λ programmed. absurd (both_ways l.gicr fixed programmed);
  described = λ _. described;
  always_on = λ _. on;
}

-- LPIs are off
off_sound : (l : Layout) (memory : List Window) (v : ℕ) → l.gicr ≡ true → IsRedistributor l memory v (off_redistributor l.shape no_bases)
off_sound l memory v programmed = record {
  rising = (no_set (λ _. Unit {0})).rising;
  lpis = tt;
  config = length-replicate (lpi_count l.shape.lpi_bits) 0;
  accepts = refl;
  tables = λ on. absurd cc;
  off_pending = λ _. refl;
  off_config = λ _. refl;
  kept = λ _. record { prop_whole = refl; prop_low = omega arith; id_bits = omega arith; pend_whole = refl; pend_low = omega arith };
  described = λ fixed. absurd (both_ways l.gicr fixed programmed);
  always_on = λ fixed. absurd (both_ways l.gicr fixed programmed);
}

-- ---- the redistributors, where their tables lie in memory

-- the described tables lie in memory
abbrev AreInside : Shape → List Window → LpiTables → Type 0
AreInside s memory (Described config pending) = (inside memory config.0 (lpi_count s.lpi_bits) ≡ true) × AllInside memory (pending_bytes s.lpi_bits) pending
AreInside s memory (Registers values) = Unit {0}

tables_are_inside : (s : Shape) (memory : List Window) (t : LpiTables) → IfOk (tables_inside s memory t) (λ _. AreInside s memory t)
tables_are_inside s memory (Described config pending) =
    passed (λ _. AreInside s memory (Described config pending)) (inside memory config.0 (lpi_count s.lpi_bits)) Config _ (λ here.
    both_hold (inside memory config.0 (lpi_count s.lpi_bits) ≡ true) (AllInside memory (pending_bytes s.lpi_bits) pending)
    (pending_inside memory (pending_bytes s.lpi_bits) 0 pending) here (pending_tables memory (pending_bytes s.lpi_bits) 0 pending))
tables_are_inside s memory (Registers values) = tt

all_inside_now : (now before : List Window) (size : ℕ) (bases : List Addr) → map extent now ≡ map extent before → AllInside before size bases
    → AllInside now size bases
all_inside_now now before size [] same h = tt
all_inside_now now before size (base ∷ bases) same h = (inside-extents now before base.0 size same ∙ h.0, all_inside_now now before size bases same h.1)

are_inside_now : (s : Shape) (now before : List Window) (t : LpiTables) → map extent now ≡ map extent before → AreInside s before t → AreInside s now t
are_inside_now s now before (Described config pending) same h = (
  inside-extents now before config.0 (lpi_count s.lpi_bits) same ∙ h.0,
  all_inside_now now before
      (pending_bytes s.lpi_bits) pending same h.1,
)
are_inside_now s now before (Registers values) same h = tt

-- as many as virtual processors, and each sound
abbrev AreSound : Layout → List Window → List Redistributor → Type 0
AreSound l memory rs = (length rs ≡ l.shape.vcpus) × ((v : ℕ) (r : Redistributor) → slice_get rs v ≡ Some r → IsRedistributor l memory v r)

abbrev layout_in : Shape → Bool → LpiTables → Layout
layout_in s track t = record { shape = s; gicr = are_programmed t; described = described_in t; track = track }

described_sound : (s : Shape) (track : Bool) (memory : List Window) (config : Addr) (pending : List Addr) (bytes : List ℕ)
    → AreInside s memory (Described config pending)
    → length pending ≡ s.vcpus
    → length bytes ≡ lpi_count s.lpi_bits → AreSound (layout_in s track (Described config pending)) memory
    (map (idle_redistributor bytes) (map (described_bases config) pending))
described_sound s track memory config pending bytes fit count size =
    let l : Layout = layout_in s track (Described config pending) in (
      length-map l.described (idle_redistributor bytes) ∙ length-map pending (described_bases config) ∙ count,
      at_each_map (IsRedistributor l memory) (idle_redistributor bytes) l.described (λ v b is.
          let on_and_tables : (b.on ≡ true) × HasTables s memory b =
          at_each_map (λ _ x. (x.on ≡ true) × HasTables s memory x) (described_bases config) pending
          (λ k base there. (
            refl,
            record {
              config = fit.0;
              pending = all_at (λ a. inside memory a.0 (pending_bytes s.lpi_bits) ≡ true) pending fit.1 k base
                  there;
            },
          )) v b is in
          idle_sound l memory v bytes b refl is on_and_tables.0 size on_and_tables.1),
    )

programmed_sound : (s : Shape) (track : Bool) (memory : List Window) (values : GicrValues) → AreSound (layout_in s track (Registers values)) memory
    (replicate s.vcpus (off_redistributor s no_bases))
programmed_sound s track memory values = (
  length-replicate s.vcpus (off_redistributor s no_bases),
  λ v r is. subst (IsRedistributor (layout_in s track (Registers values)) memory v) (at_replicate s.vcpus (off_redistributor s no_bases) v r is)
      (off_sound (layout_in s track (Registers values)) memory v refl),
)

first_sound : (s : Shape) (track : Bool) (memory : List Window) (t : LpiTables) → AreInside s memory t → HasTablesFor s.vcpus t
    → IfOk (first_redistributors s memory t)
    (AreSound (layout_in s track t) memory)
first_sound s track memory (Described config pending) fit count =
    found (AreSound (layout_in s track (Described config pending)) memory) (read_at memory config.0 (lpi_count s.lpi_bits)) Config _ (λ bytes read.
    described_sound s track memory config pending bytes fit count (length-read_at memory config.0 (lpi_count s.lpi_bits) bytes read))
first_sound s track memory (Registers values) fit count = programmed_sound s track memory values

-- ---- the whole

described_count : (s : Shape) (t : LpiTables) → HasTablesFor s.vcpus t → are_programmed t ≡ false → length (described_in t) ≡ s.vcpus
described_count s (Described config pending) count fixed = length-map pending (described_bases config) ∙ count
described_count s (Registers values) count fixed = absurd cc

started_sound : (d : Desc) (memory : List Window) (rs : List Redistributor) → IsDescription d → are_windows (map extent memory) ≡ true
    → AreSound (layout_of d) memory rs → IsSound (started d memory rs)
started_sound d memory rs h windows sound = record {
  layout = record { shape = h.shape; described = described_count d.shape d.tables h.tables };
  translators = each_translator d.shape (length d.translators) (record { regs = reset d.shape.dev_bits; maps = no_maps }) (reset_translator d.shape h.shape);
  vcpus = sound.0;
  redistributors = sound.1;
  memory = windows;
  tracks = tracks_of d.track memory;
  tracked = tracked_of d.track memory;
}

made_sound : (d : Desc) → IsDescription d → IfOk (made d) IsSound
unfolding made
made_sound d h =
    let windows : List (ℕ × ℕ) = pairs d.windows in
    let empty : List Window = map zeros windows in
    passed IsSound (windows_fit d) Windows _ (λ fit.
    let good = (and_parts (are_windows windows) (nat_le (sum (map (λ w. w.1) windows)) d.memory_limit) fit).0 in
    then_ok (λ _. AreInside d.shape empty d.tables) IsSound (tables_inside d.shape empty d.tables) _ (tables_are_inside d.shape empty d.tables) (λ _ tables.
    then_ok (λ now. map extent now ≡ map extent empty) IsSound (filled empty 0 d.fills) _ (same_windows empty 0 d.fills) (λ memory same.
    then_ok (λ _. Unit {0}) IsSound (all_frames_fit windows 0 d.translators) _ (any_ok (all_frames_fit windows 0 d.translators)) (λ _ _.
    then_ok (λ _. Unit {0}) IsSound (all_new [] 0 d.requesters) _ (any_ok (all_new [] 0 d.requesters)) (λ _ _.
    then_ok (AreSound (layout_of d) memory) IsSound (first_redistributors d.shape memory d.tables) _
    (first_sound d.shape d.track memory d.tables (are_inside_now d.shape memory empty d.tables same tables) h.tables) (λ rs sound.
    started_sound d memory rs h (ap are_windows (same ∙ extents_of_zeros windows) ∙ good) sound))))))

pub start_sound : MachinesStartSound
start_sound d u h is = if_ok_at IsSound (made d) u (made_sound d h) is
