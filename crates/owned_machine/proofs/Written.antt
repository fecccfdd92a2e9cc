-- What a write of guest memory, a copy and a save leave.
use Rattle.std.proofs.Common.{◌≡◌, ℕ, true, List, Option, Some, None, Result, Ok, Err, refl, sym}
use Rattle.std.proofs.Common.{ap}
use Rattle.std.proofs.Common.{subst, ◌∙◌, inl, inr}
use Rattle.std.specs.Prelude.{◌⊎◌, is_some, MatchOption, length, map}
use Rattle.guest_windows.specs.Windows.{Window, write_at, extent}
use Rattle.guest_windows.specs.declared.errors.WriteError.{WriteError}
use Rattle.guest_windows.specs.declared.errors.WriteError.TheVariants as wrong
use Rattle.its_types.specs.declared.ids.Addr.{Addr}
use Rattle.its_plain.specs.Answer.{answer, left}
use Rattle.its_plain.specs.Answer.{poked, poke_left, save_left, copy_left}
use Rattle.its_plain.specs.Regions.{savable}
use Rattle.its_plain.specs.Saved.{saved, words_of, wrote_tables}
use Rattle.its_plain.specs.declared.call.Call.{Call}
use Rattle.its_plain.specs.declared.call.Call.TheVariants as call
use Rattle.owned_parts.specs.declared.parts.Parts.{Parts}
use Rattle.owned_parts.specs.Owned.{state_of_parts}
use Rattle.owned_machine.specs.Whole.{IsMachine, GoesOn}
use Rattle.owned_machine.proofs.Kept.{redists_are, same_redists, same_held, goes_on, stays}
use Rattle.dirty_log.specs.Copies.{wrote, caught_up}
use Rattle.dirty_log.specs.declared.tracked.Tracked.{Tracked}
use Rattle.std.specs.Option.{option_map}

-- ---- guest memory

-- what a write of bytes at an address comes to, where one window has them or none
abbrev pub Writes : Addr → Option (List Window) → Result (Unit {0}) WriteError → List Window → List Window → Type 0
Writes addr o r old new = MatchOption o ((r ≡ Err (wrong.Outside addr)) × (new ≡ old))
    (λ m. ((r ≡ Ok tt) × (new ≡ m)) ⊎ ((r ≡ Err wrong.NoMemory) × (new ≡ old)))

pub write_done : (addr : Addr) (o : Option (List Window)) (r : Result (Unit {0}) WriteError) (old new : List Window) → Writes addr o r old new → r ≡ Ok tt
    → o ≡ Some new
write_done addr None r old new h is = absurd (let no = sym is ∙ h.0 in cc)
write_done addr (Some m) r old new (inl h) is = ap (λ (x : List Window). Some x) (sym h.1)
write_done addr (Some m) r old new (inr h) is = absurd (let no = sym is ∙ h.0 in cc)

pub write_outside : (addr a : Addr) (o : Option (List Window)) (r : Result (Unit {0}) WriteError) (old new : List Window) → Writes addr o r old new
    → r ≡ Err (wrong.Outside a) → (o ≡ None) × (new ≡ old)
write_outside addr a None r old new h is = (refl, h.1)
write_outside addr a (Some m) r old new (inl h) is = absurd (let no = sym is ∙ h.0 in cc)
write_outside addr a (Some m) r old new (inr h) is = absurd (let no = sym is ∙ h.0 in cc)

pub write_failed : (addr : Addr) (o : Option (List Window)) (r : Result (Unit {0}) WriteError) (old new : List Window) → Writes addr o r old new
    → r ≡ Err wrong.NoMemory → (is_some o ≡ true) × (new ≡ old)
write_failed addr None r old new h is = absurd (let no = sym is ∙ h.0 in cc)
write_failed addr (Some m) r old new (inl h) is = absurd (let no = sym is ∙ h.0 in cc)
write_failed addr (Some m) r old new (inr h) is = (refl, h.1)

memory_goes : (p : Parts) (c : Call) (memory : List Window) (track : Option Tracked) → IsMachine p
    → (answer (state_of_parts p) c).1 ≡ record (state_of_parts p) { memory = memory; track = track }
    → GoesOn (record p { memory = memory; track = track }) (record (state_of_parts p) { memory = memory; track = track })
memory_goes p c memory track m is =
    goes_on p (record p { memory = memory; track = track }) c (record (state_of_parts p) { memory = memory; track = track }) m refl is (same_held p.redists)
    refl refl refl
    (same_redists (state_of_parts p) (record (state_of_parts p) { memory = memory; track = track }) p.redists refl refl (redists_are p m))

pub poke_goes : (p : Parts) (addr : Addr) (bytes : List ℕ) (memory : List Window) (track : Option Tracked) → IsMachine p
    → write_at p.memory addr.0 bytes ≡ Some memory → track ≡ option_map (wrote addr.0 (length bytes)) p.track
    → GoesOn (record p { memory = memory; track = track }) (poked (state_of_parts p) addr.0 bytes)
unfolding left
poke_goes p addr bytes memory track m is marks =
    let u = state_of_parts p in
    let now : Option Tracked = option_map (wrote addr.0 (length bytes)) p.track in
    let done : poked u addr.0 bytes ≡ record u { memory = memory; track = now } = ap (poke_left u addr.0 bytes) is in
    subst (λ (t : Option Tracked). GoesOn (record p { memory = memory; track = t }) (poked u addr.0 bytes)) (sym marks)
    (subst (GoesOn (record p { memory = memory; track = now })) (sym done) (memory_goes p (call.Poke addr bytes) memory now m done))

pub poke_stays : (p : Parts) (addr : Addr) (bytes : List ℕ) → IsMachine p → write_at p.memory addr.0 bytes ≡ None
    → GoesOn p (poked (state_of_parts p) addr.0 bytes)
poke_stays p addr bytes m is = stays p (poked (state_of_parts p) addr.0 bytes) m (sym (ap (poke_left (state_of_parts p) addr.0 bytes) is))

-- ---- the second memory

pub copy_goes : (p : Parts) (t now : Tracked) → IsMachine p → p.track ≡ Some t → now ≡ caught_up p.memory t
    → GoesOn (record p { track = Some now }) (copy_left (state_of_parts p))
unfolding left
copy_goes p t now m is copied =
    let u = state_of_parts p in
    let done : copy_left u ≡ record u { track = Some now } =
    ap (λ (o : Option Tracked). record u { track = option_map (caught_up p.memory) o }) is ∙ ap (λ (x : Tracked). record u { track = Some x }) (sym copied) in
    subst (GoesOn (record p { track = Some now })) (sym done) (memory_goes p call.Copy p.memory (Some now) m done)

pub no_copy_goes : (p : Parts) → IsMachine p → p.track ≡ None → GoesOn p (copy_left (state_of_parts p))
no_copy_goes p m is =
    let u = state_of_parts p in
    stays p (copy_left u) m
    (ap (λ (o : Option Tracked). record u { track = o }) is ∙ sym (ap (λ (o : Option Tracked). record u { track = option_map (caught_up p.memory) o }) is))

pub same_windows : (p : Parts) (t : Tracked) → IsMachine p → p.track ≡ Some t → map extent t.copy ≡ map extent p.memory
same_windows p t m is = (m.sound.tracked t is).windows

-- ---- saves

pub save_goes : (p : Parts) (memory : List Window) (track : Option Tracked) → IsMachine p → savable (state_of_parts p) ≡ Ok tt
    → memory ≡ saved (state_of_parts p) → track ≡ option_map (wrote_tables (words_of (state_of_parts p))) p.track
    → GoesOn (record p { memory = memory; track = track }) (save_left (state_of_parts p) (savable (state_of_parts p)))
unfolding left
save_goes p memory track m ok is marks =
    let u = state_of_parts p in
    let now : Option Tracked = option_map (wrote_tables (words_of u)) p.track in
    let done : save_left u (savable u) ≡ record u { memory = saved u; track = now } = ap (save_left u) ok in
    subst (λ (t : Option Tracked). GoesOn (record p { memory = memory; track = t }) (save_left u (savable u))) (sym marks)
    (subst (λ (x : List Window). GoesOn (record p { memory = x; track = now }) (save_left u (savable u))) (sym is)
    (subst (GoesOn (record p { memory = saved u; track = now })) (sym done) (memory_goes p call.Save (saved u) now m done)))
