-- What the parts of a sound state have.
use Rattle.std.proofs.Common.{◌≡◌, ℕ, ◌+◌, ◌<◌, ◌≤◌, ◌^◌, true, List, [], ◌∷◌, length, map, Option, Some, None, inl, inr, refl, ap, subst, ◌∙◌, arith}
use Rattle.std.specs.Prelude.{is_some, nat_lt, nat_le, slice_get}
use Rattle.std.specs.List.{list_all}
use Rattle.std.proofs.lemmas.Bool.{and_parts, or_cases, leb-true}
use Rattle.std.proofs.lemmas.Option.{slice_get_within}
use Rattle.guest_windows.specs.Windows.{Window, has, inside, extent, are_windows, in_range}
use Rattle.guest_windows.proofs.Laws.{Fits, has-fits}
use Rattle.gits_regs.specs.Registers.{Registers}
use Rattle.its_types.specs.Ranges.{is_lpi, lpi_count}
use Rattle.its_types.specs.Maps.{Maps, device_of, event_of}
use Rattle.its_types.specs.declared.machine.Shape.{Shape}
use Rattle.its_types.specs.declared.translation.Event.{Event}
use Rattle.its_maps.specs.MapsRoom.{EventsHaveDevices}
use Rattle.its_types.specs.declared.translation.Bases.{Bases}
use Rattle.its_plain.specs.Plain.{Plain, ConfState, conf_of}
use Rattle.its_plain.specs.Sound.{IsSound, IsTranslator, IsEvent, IsRedistributor}
use Rattle.lpi_config.specs.Conf.{conf_state}
use Rattle.lpi_config.specs.Conf.{Conf}
use Rattle.lpi_pending.specs.InHand.{RedistParts, conf_in, pend_in, HasLpisOfConf, HasLpisOfPend}
use Rattle.lpi_pending.specs.Pend.{Pend}
use Rattle.cmd_exec.specs.Needs.{AreTargets}
use Rattle.owned_parts.specs.Owned.{ArePartsOf, ArePartsOfSound}
use Rattle.cmd_exec.proofs.Places.{shown_of}

pub record IsWorkable (s : Shape) (m : Maps) (rs : RedistParts) : Type 0 where
  pub events : (dev ev : ℕ) (e : Event) → event_of m dev ev ≡ Some e → is_lpi s.lpi_bits e.intid.0 ≡ true
  pub devices : EventsHaveDevices m
  pub below : (v : ℕ) (c : Conf) → conf_in rs v ≡ Some c → v < s.vcpus
  pub confs : (v : ℕ) (c : Conf) → conf_in rs v ≡ Some c → HasLpisOfConf s c
  pub pends : (v : ℕ) (p : Pend) → pend_in rs v ≡ Some p → HasLpisOfPend s p
  pub low : (v : ℕ) (c : Conf) → conf_in rs v ≡ Some c → c.bases.on ≡ true → c.bases.prop.table.0 ≤ 2 ^ 52

-- ---- a stretch of memory

window_is_low : (w : Window) (a n : ℕ) → in_range (extent w) ≡ true → has w a n ≡ true → a + n ≤ 2 ^ 52
window_is_low w a n range inner =
    let fits : Fits w a n = has-fits w a n inner in
    let ends = leb-true (w.base + length w.bytes) (2 ^ 52) (and_parts (nat_lt 0 (length w.bytes)) (nat_le (w.base + length w.bytes) (2 ^ 52)) range).1 in
    omega (arith, fits.below, ends)

stretch_is_low : (ws : List Window) (a n : ℕ) → list_all in_range (map extent ws) ≡ true → inside ws a n ≡ true → a + n ≤ 2 ^ 52
stretch_is_low [] a n range inner = absurd cc
stretch_is_low (w ∷ ws) a n range inner =
    let parts = and_parts (in_range (extent w)) (list_all in_range (map extent ws)) range in
    elim (or_cases (has w a n) (inside ws a n) inner) [ inl here ↦ window_is_low w a n parts.0 here | inr there ↦ stretch_is_low ws a n parts.1 there ]

ranges : (ws : List Window) → are_windows (map extent ws) ≡ true → list_all in_range (map extent ws) ≡ true
ranges ws e =
    let p = and_parts _ _ e in
    (and_parts _ _ p.0).1

-- ---- parts

some_device : {A : Type 0} (o : Option A) (x : A) → o ≡ Some x → is_some o ≡ true
some_device None x e = absurd cc
some_device (Some y) x e = refl

some_event : {A : Type 0} (o : Option A) → is_some o ≡ true → (x : A) × (o ≡ Some x)
some_event None e = absurd cc
some_event (Some x) e = (x, refl)

workable_by : (s : Shape) (r : Registers) (m : Maps) (memory : List Window) (rs : RedistParts) (u : Plain) (i : ℕ) → u.layout.shape ≡ s → IsSound u
    → ArePartsOf u i s r m memory rs → IsWorkable s m rs
workable_by s r m memory rs u i same sound are =
    let t : IsTranslator u.layout.shape (record { regs = r; maps = m }) = sound.translators i (record { regs = r; maps = m }) are.translator_is in
    subst (λ (x : Shape). IsWorkable x m rs) same (record {
      events = λ dev ev e is. (t.events dev ev e is).lpi;
      devices = λ dev ev is.
          let e = some_event (event_of m dev ev) is in
          let at : IsEvent u.layout.shape m dev ev e.0 = t.events dev ev e.0 e.1 in
          some_device (device_of m dev) at.device at.device_is;
      below = λ v c is.
          let r = shown_of conf_of (slice_get u.redistributors v) (conf_state c) (are.redistributors_are.0 v c is).same in
          omega (arith, slice_get_within u.redistributors v r.0 r.1, sound.vcpus);
      confs = λ v c is. (are.redistributors_are.0 v c is).lpis;
      pends = λ v p is. (are.redistributors_are.1 v p is).lpis;
      low = λ v c is on.
          let r = shown_of conf_of (slice_get u.redistributors v) (conf_state c) (are.redistributors_are.0 v c is).same in
          let at : IsRedistributor u.layout u.memory v r.0 = sound.redistributors v r.0 r.1 in
          let bases : r.0.bases ≡ c.bases = ap (λ (x : ConfState). x.bases) r.2 in
          let end : r.0.bases.prop.table.0 + lpi_count u.layout.shape.lpi_bits ≤ 2 ^ 52 =
          stretch_is_low u.memory r.0.bases.prop.table.0 (lpi_count u.layout.shape.lpi_bits) (ranges u.memory sound.memory)
          (at.tables (ap (λ (b : Bases). b.on) bases ∙ on)).config in
          subst (λ (b : Bases). b.prop.table.0 ≤ 2 ^ 52) bases (omega (arith, end));
    })

pub workable : (s : Shape) (r : Registers) (m : Maps) (memory : List Window) (rs : RedistParts) → ArePartsOfSound s r m memory rs → IsWorkable s m rs
workable s r m memory rs h = workable_by s r m memory rs h.0 h.1 h.3.shape_is h.2 h.3

-- what `needs` wants of the maps
pub targets : (s : Shape) (r : Registers) (m : Maps) (memory : List Window) (rs : RedistParts) → ArePartsOfSound s r m memory rs → AreTargets s m
targets s r m memory rs h = λ icid vcpu e.
    let t : IsTranslator h.0.layout.shape (record { regs = r; maps = m }) = h.2.translators h.1 (record { regs = r; maps = m }) h.3.translator_is in
    subst (λ (x : Shape). vcpu.0 < x.vcpus) h.3.shape_is (t.collections icid vcpu e).target
