-- The machine of the script's description: it is made, and its first state keeps the invariant.
use Rattle.std.proofs.Common.{◌≡◌, ℕ, ◌+◌, ◌*◌, ◌≤◌, Bool, true, false, List, [], ◌∷◌, length, map, replicate, Option, Some, None, Result, Ok, Err, IfOk, inl}
use Rattle.std.proofs.Common.{refl, sym, ap, subst, ◌∙◌, lit<, lit≤}
use Rattle.std.specs.Prelude.{ok_or, slice_index_or}
use Rattle.std.specs.Ordering.{nat_cmp}
use Rattle.std.specs.FinMap.{get-empty}
use Rattle.std.proofs.lemmas.Option.{none-some}
use Rattle.guest_windows.specs.Fields.{pairs}
use Rattle.guest_windows.specs.Windows.{Window, zeros, inside, read_at, extent}
use Rattle.guest_windows.proofs.Laws.{read_inside, extents_of_zeros}
use Rattle.gits_regs.specs.Registers.{reset}
use Rattle.its_command.specs.Commands.{encoded, decoded}
use Rattle.its_command.specs.declared.command.Command.TheVariants.{Unknown}
use Rattle.its_command.proofs.Encoded.{decodes_back}
use Rattle.its_types.specs.Maps.{no_maps}
use Rattle.its_types.specs.Ranges.{lpi_count, pending_bytes}
use Rattle.its_types.specs.declared.machine.Shape.{Shape}
use Rattle.its_plain.specs.Described.{IsFirstState, kept_of, StartsAt, values_of, is_restored, restored_bases}
use Rattle.its_plain.specs.Described.IsRefused.{of_description, of_restore}
use Rattle.its_plain.specs.Machine.{made, started, windows_fit, tables_inside, filled, all_frames_fit, all_new, first_redistributors, layout_of}
use Rattle.its_plain.specs.Machine.{ensure, ◌>>=◌}
use Rattle.its_plain.specs.Plain.{Plain, Translator, translator, no_translator}
use Rattle.its_plain.specs.Sound.{IsSound}
use Rattle.its_plain.specs.declared.desc.Desc.{Desc}
use Rattle.its_plain.specs.declared.desc.DescFault.{DescFault}
use Rattle.its_plain.specs.declared.desc.DescFault.TheVariants.{Windows, Config}
use Rattle.its_plain.specs.declared.desc.Fill.{Fill}
use Rattle.plain_soundness.proofs.First.{start_sound}
use Rattle.plain_soundness.proofs.Translated.{if_ok_at}
use Rattle.event_script.specs.Described.{memory_limit}
use Rattle.script_gen.specs.Description.{description, shape, tables}
use Rattle.script_gen.specs.Generated.{queue}
use Rattle.script_gen.specs.Laws.{MakesMachine, IsNeverRefused}
use Rattle.script_gen.proofs.Invariant.{IsKept, IsAllowed, IsQueue, AreRegisters, AreDevices, extents}
use Rattle.script_gen.proofs.Memory.{inside_one, zeros_read}
use Rattle.script_gen.proofs.Within.{description_is}

-- ---- the machine is made

abbrev Makes : {A : Type 0} → Result A DescFault → Type 0
Makes {A} r = (x : A) × (r ≡ Ok x)

passes : {B : Type 0} (test : Bool) (fault : DescFault) (f : Unit {0} → Result B DescFault) → test ≡ true → Makes (f tt) → Makes (ensure test fault >>= f)
passes true fault f e h = h
passes false fault f e h = absurd cc

goes_on : {A B : Type 0} (r : Result A DescFault) (x : A) (f : A → Result B DescFault) → r ≡ Ok x → Makes (f x) → Makes (r >>= f)
goes_on (Ok y) x f e h = let same : y ≡ x = cc in subst (λ z. Makes (f z)) (sym same) h
goes_on (Err fault) x f e h = absurd cc

is_found : {A : Type 0} (o : Option A) (x : A) (fault : DescFault) → o ≡ Some x → ok_or o fault ≡ Ok x
is_found None x fault e = absurd cc
is_found (Some y) x fault e = ap Ok (cc)

inside_then : (test : Bool) (fault : DescFault) (rest : Result (Unit {0}) DescFault) → test ≡ true → rest ≡ Ok tt → (ensure test fault >>= λ _. rest) ≡ Ok tt
inside_then true fault rest e h = h
inside_then false fault rest e h = absurd cc

-- all memory is one window, in which all tables lie
module _ (memory : List Window) (one : map extent memory ≡ extents) where
  config_inside : inside memory 0x80030000 (lpi_count 16) ≡ true
  config_inside = inside_one memory 0x80000000 0x200000 0x80030000 (lpi_count 16) one (lit≤ tt) (lit≤ tt)

  pending_in : (base : ℕ) → 0x80000000 ≤ base → base + 0x2000 ≤ 0x80200000 → inside memory base (pending_bytes 16) ≡ true
  pending_in base low high = inside_one memory 0x80000000 0x200000 base (pending_bytes 16) one low high

  tables_in : tables_inside shape memory tables ≡ Ok tt
  tables_in =
      inside_then (inside memory 0x80030000 (lpi_count 16)) Config _ config_inside
      (rw (
        pending_in 0x80040000 (lit≤ tt) (lit≤ tt),
        pending_in 0x80050000 (lit≤ tt) (lit≤ tt),
        pending_in 0x80060000 (lit≤ tt)
            (lit≤ tt),
        pending_in 0x80070000 (lit≤ tt) (lit≤ tt),
      ) refl)

  redistributors_made : Makes (first_redistributors shape memory tables)
  redistributors_made =
      goes_on (ok_or (read_at memory 0x80030000 (lpi_count 16)) Config) _ _ (is_found (read_at memory 0x80030000 (lpi_count 16)) _ Config
      (read_inside memory 0x80030000 (lpi_count 16) [] config_inside)) (_, refl)

windows_are : (d : Desc) → pairs d.windows ≡ extents → d.memory_limit ≡ memory_limit → windows_fit d ≡ true
windows_are d e limit = rw (e, limit) refl

-- a description of that window and those tables
pub record IsPlainDesc (d : Desc) : Type 0 where
  pub windows : pairs d.windows ≡ extents
  pub shaped : d.shape ≡ shape
  pub tabled : d.tables ≡ tables
  pub unfilled : d.fills ≡ []
  pub limited : d.memory_limit ≡ memory_limit
  pub single : d.translators ≡ record { restore = None; frames = None } ∷ []
  pub quiet : d.requesters ≡ []

makes : (d : Desc) → IsPlainDesc d → Makes (made d)
unfolding made
makes d h =
    let memory : List Window = map zeros (pairs d.windows) in
    let one : map extent memory ≡ extents = extents_of_zeros (pairs d.windows) ∙ h.windows in
    let inside_all : tables_inside d.shape memory d.tables ≡ Ok tt =
    ap (λ (s : Shape). tables_inside s memory d.tables) h.shaped ∙ ap (tables_inside shape memory) h.tabled ∙ tables_in memory one in
    let rs = redistributors_made memory one in
    let first : first_redistributors d.shape memory d.tables ≡ Ok rs.0 =
    ap (λ (s : Shape). first_redistributors s memory d.tables) h.shaped ∙ ap (first_redistributors shape memory) h.tabled ∙ rs.1 in
    passes (windows_fit d) Windows _ (windows_are d h.windows h.limited)
    (goes_on (tables_inside d.shape memory d.tables) tt _ inside_all
    (goes_on (filled memory 0 d.fills) memory _ (ap (filled memory 0) h.unfilled)
    (goes_on (all_frames_fit (pairs d.windows) 0 d.translators) tt _ (ap (all_frames_fit (pairs d.windows) 0) h.single)
    (goes_on (all_new [] 0 d.requesters) tt _ (ap (all_new [] 0) h.quiet)
    (goes_on (first_redistributors d.shape memory d.tables) rs.0 _ first (started d memory rs.0, refl))))))

description_plain : IsPlainDesc description
unfolding description
description_plain = record { windows = refl; shaped = refl; tabled = refl; unfilled = refl; limited = refl; single = refl; quiet = refl }

starts_at : (u : Plain) → StartsAt (is_restored description) (values_of description) (restored_bases description) u u
unfolding description
starts_at u = refl

kept_here : (u : Plain) → u ≡ kept_of description.from_kvm u
unfolding description
kept_here u = refl

pub makes_machine : MakesMachine
makes_machine =
    let m = makes description description_plain in (
      m.0,
      record {
        base = m.0;
        made_is = m.1;
        read = m.0;
        starts = starts_at m.0;
        kept = kept_here m.0;
      },
    )

not_restored : is_restored description ≡ true → ⊥
unfolding description
not_restored e = absurd cc

made_or_fault : (r : Result Plain DescFault) (u : Plain) (f : DescFault) → r ≡ Ok u → r ≡ Err f → ⊥
made_or_fault (Ok v) u f e g = absurd cc
made_or_fault (Err x) u f e g = absurd cc

pub never_refused : IsNeverRefused
never_refused f (of_description _ e) = let m = makes description description_plain in made_or_fault (made description) m.0 f m.1 e
never_refused _ (of_restore base i f e given fault) = not_restored given

-- ---- its first state

passed : {B : Type 0} (P : B → Type 0) (test : Bool) (fault : DescFault) (f : Unit {0} → Result B DescFault) → IfOk (f tt) P → IfOk (ensure test fault >>= f) P
passed P true fault f h = h
passed P false fault f h = tt

then_ok : {A B : Type 0} (Q : A → Type 0) (P : B → Type 0) (r : Result A DescFault) (f : A → Result B DescFault) → IfOk r Q
    → ((x : A) → Q x → IfOk (f x) P) → IfOk (r >>= f) P
then_ok Q P (Ok x) f q h = h x q
then_ok Q P (Err e) f q h = tt

any_ok : {A : Type 0} (r : Result A DescFault) → IfOk r (λ _. Unit {0})
any_ok (Ok x) = tt
any_ok (Err e) = tt

-- the state that a description without fills and tables of its own gives
pub record IsStart (d : Desc) (u : Plain) : Type 0 where
  pub layout : u.layout ≡ layout_of d
  pub translators : u.translators ≡ record { regs = reset d.shape.dev_bits; maps = no_maps } ∷ []
  pub memory : u.memory ≡ map zeros (pairs d.windows)

made_starts : (d : Desc) → d.fills ≡ [] → length d.translators ≡ 1 → IfOk (made d) (IsStart d)
unfolding made
made_starts d unfilled one =
    let t : Translator = record { regs = reset d.shape.dev_bits; maps = no_maps } in
    let empty : List Window = map zeros (pairs d.windows) in
    let unchanged : IfOk (filled empty 0 d.fills) (λ now. now ≡ empty) = subst (λ (fills : List Fill). IfOk (filled empty 0 fills) (λ now. now ≡ empty))
    (sym unfilled) refl in
    passed (IsStart d) (windows_fit d) Windows _
    (then_ok (λ _. Unit {0}) (IsStart d) (tables_inside d.shape empty d.tables) _ (any_ok (tables_inside d.shape empty d.tables)) (λ _ _.
    then_ok (λ now. now ≡ empty) (IsStart d) (filled empty 0 d.fills) _ unchanged (λ memory same.
    then_ok (λ _. Unit {0}) (IsStart d) (all_frames_fit (pairs d.windows) 0 d.translators) _ (any_ok (all_frames_fit (pairs d.windows) 0 d.translators))
    (λ _ _.
    then_ok (λ _. Unit {0}) (IsStart d) (all_new [] 0 d.requesters) _ (any_ok (all_new [] 0 d.requesters)) (λ _ _.
    then_ok (λ _. Unit {0}) (IsStart d) (first_redistributors d.shape memory d.tables) _ (any_ok (first_redistributors d.shape memory d.tables)) (λ rs _.
    record { layout = refl; translators = ap (λ (n : ℕ). replicate n t) one; memory = same }))))))

-- an empty place of the queue holds no command
zeros_allowed : (n : ℕ) → IsAllowed n (decoded (replicate 32 0))
unfolding encoded
zeros_allowed n = subst (IsAllowed n) (sym (decodes_back (Unknown 0) (lit< tt, refl))) tt

zeros_queue : (n : ℕ) (ws : List (ℕ × ℕ)) (memory : List Window) → memory ≡ map zeros ws → IsQueue n memory
zeros_queue n ws memory same k bytes low read =
    let none : bytes ≡ replicate 32 0 = zeros_read ws (queue + 32 * k) 32 bytes (sym (ap (λ (m : List Window). read_at m (queue + 32 * k) 32) same) ∙ read) in
    subst (λ (b : List ℕ). IsAllowed n (decoded b)) (sym none) (zeros_allowed n)

no_devices : (n : ℕ) → AreDevices n no_maps
no_devices n dev d e = absurd (none-some d (sym (get-empty nat_cmp dev) ∙ e))

started_kept : (n : ℕ) (d : Desc) (u : Plain) → d ≡ description → pairs d.windows ≡ extents → IsStart d u → IsSound u → IsKept n u
started_kept n d u same windows start sound =
    let t : Translator = record { regs = reset d.shape.dev_bits; maps = no_maps } in
    let at_0 : translator u 0 ≡ t = ap (λ (ts : List Translator). slice_index_or ts 0 no_translator) start.translators in record {
      sound = sound;
      layout = start.layout ∙ ap layout_of same;
      one = ap length start.translators;
      windows = ap (map extent) start.memory ∙ extents_of_zeros (pairs d.windows) ∙ windows;
      regs = subst (λ (x : Translator). AreRegisters x.regs) (sym at_0) (record { cbaser = inl refl; baser0 = inl refl; baser1 = inl refl });
      devices = subst (λ (x : Translator). AreDevices n x.maps) (sym at_0) (no_devices n);
      queue = zeros_queue n (pairs d.windows) u.memory start.memory;
    }

first_is : (u read base : Plain) → StartsAt (is_restored description) (values_of description) (restored_bases description) base read
    → u ≡ kept_of description.from_kvm read → u ≡ base
unfolding description
first_is u read base h kept = kept ∙ h

pub first_kept : (n : ℕ) (u : Plain) → IsFirstState description u → IsKept n u
first_kept n u h =
    let start : IsStart description h.base = if_ok_at (IsStart description) (made description) h.base (made_starts description description_plain.unfilled
    (ap length description_plain.single))
    h.made_is in
    subst (IsKept n) (sym (first_is u h.read h.base h.starts h.kept)) (started_kept n description h.base refl description_plain.windows start
    (start_sound description h.base description_is h.made_is))
