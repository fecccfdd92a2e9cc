-- The first state of a machine.
use Rattle.std.proofs.Common.{◌≡◌, ℕ, ◌+◌, ◌<◌, ◌≤◌, Bool, true, false, List, [], ◌∷◌, length, map, replicate, get_or, zero, suc, Option, Some, None}
use Rattle.std.proofs.Common.{Result}
use Rattle.std.proofs.Common.{Ok, Err, inl, inr, refl, sym, ap, subst, ◌∙◌, arith}
use Rattle.std.specs.Prelude.{ok_or, is_some, slice_get}
use Rattle.std.proofs.lemmas.Bool.{cases_eq}
use Rattle.std.proofs.lemmas.List.{length-map, length-replicate}
use Rattle.guest_windows.specs.Windows.{Window, inside, read_at}
use Rattle.guest_windows.specs.Windows.{zeros as zero_window}
use Rattle.guest_windows.specs.Fields.{pairs}
use Rattle.guest_windows.proofs.Laws.{is_some-read_at}
use Rattle.its_types.specs.Ranges.{lpi_count}
use Rattle.its_types.specs.declared.ids.Addr.{Addr}
use Rattle.its_types.specs.declared.machine.Shape.{Shape}
use Rattle.its_types.specs.declared.translation.Bases.{Bases}
use Rattle.its_plain.specs.Plain.{Plain, Redistributor, Translator}
use Rattle.dirty_log.specs.declared.tracked.Tracked.{Tracked}
use Rattle.gicr_regs.specs.Redistributors.{off_redistributor}
use Rattle.gicr_regs.specs.declared.values.GicrValues.{GicrValues}
use Rattle.its_types.specs.Lpis.{no_bases}
use Rattle.its_plain.specs.Machine.{made, started, layout_of, described_bases, idle_redistributor, first_redistributors, HasTablesFor, IsDescription, ◌>>=◌}
use Rattle.its_plain.specs.Machine.{ensure, windows_fit, tables_inside, filled, all_frames_fit, all_new}
use Rattle.its_plain.specs.Saved.{track_of}
use Rattle.its_plain.specs.declared.layout.Layout.{Layout}
use Rattle.its_plain.specs.declared.desc.LpiTables.{LpiTables}
use Rattle.its_plain.specs.declared.desc.LpiTables.TheVariants as tables
use Rattle.its_plain.specs.declared.desc.LpiTables.TheVariants.{Described}
use Rattle.its_plain.specs.declared.desc.Desc.{Desc}
use Rattle.its_plain.specs.declared.desc.DescFault.{DescFault}
use Rattle.its_plain.specs.declared.desc.DescFault.TheVariants.{Config, Windows}
use Rattle.plain_soundness.proofs.First.{start_sound}
use Rattle.lpi_config.specs.Configurations.{Configuration, zeros}
use Rattle.lpi_config.specs.Conf.{Conf}
use Rattle.lpi_pending.specs.Pend.{Pend}
use Rattle.lpi_pending.specs.InHand.{RedistParts, redistributor_of, set_conf, set_pend, no_redists}
use Rattle.owned_parts.specs.Owned.{AreAllInHand, state_of_parts, redistributors_in, translators_of}
use Rattle.owned_parts.specs.Places.{AreInHandAt, AreNotInHand}
use Rattle.owned_parts.proofs.Places.{empty_places, none_in_hand, redistributor_at, placed_here, still_there, still_empty, same_conf_room, same_pend_room}
use Rattle.owned_parts.specs.declared.parts.Parts.{Parts}
use Rattle.owned_machine.specs.Start.{HasConfig, IsFilled, IsFirstOf, AreFirst, AreStarted, reset_translator, devices_test, idle_pend}
use Rattle.its_plain.specs.declared.make.MakeError.{MakeError}
use Rattle.its_plain.specs.declared.make.MakeError.TheVariants as making
use Rattle.std.specs.Result.{IsErrAnd}
use Rattle.owned_machine.proofs.Lists.{hand_is}

-- ---- one redistributor more

idle_at : (config : List ℕ) (base : Addr) (xs : List Addr) (i : ℕ) (z : Addr) → i < length xs
    → slice_get (map (idle_redistributor config) (map (described_bases base) xs)) i ≡ Some (idle_redistributor config (described_bases base (get_or xs i z)))
idle_at config base [] i z lt = absurd (omega arith)
idle_at config base (y ∷ ys) zero z lt = refl
idle_at config base (y ∷ ys) (suc i) z lt = idle_at config base ys i z (omega arith)

off_at : (n i : ℕ) (x : Redistributor) → i < n → slice_get (replicate n x) i ≡ Some x
off_at zero i x lt = absurd (omega arith)
off_at (suc n) zero x lt = refl
off_at (suc n) (suc i) x lt = off_at n i x (omega arith)

abbrev built : Configuration → Bases → Conf
built c b = record { config = c; bases = b }

-- with nothing pending
abbrev idle : Shape → Configuration → Bases → Redistributor
idle s c b = redistributor_of (built c b) (idle_pend s (built c b))

same_ok : {A : Type 0} (x y : A) → ◌≡◌ {A = Result A DescFault} (Ok x) (Ok y) → x ≡ y
same_ok x y e = cc

pub described_first : (s : Shape) (memory : List Window) (config : Addr) (pending : List Addr) (v : ℕ) (z : Addr) (c : Configuration) (b : Bases)
    → v < length pending → c.lpi_bits ≡ s.lpi_bits → read_at memory config.0 (lpi_count s.lpi_bits) ≡ Some c.bytes
    → b ≡ described_bases config (get_or pending v z) → IsFirstOf s memory (Described config pending) v (built c b) (idle_pend s (built c b))
described_first s memory config pending v z c b lt bits read is rs first =
    let these : List Redistributor = map (idle_redistributor c.bytes) (map (described_bases config) pending) in
    let same : these ≡ rs =
    same_ok these rs (sym (ap (λ (o : Option (List ℕ)). ok_or o Config >>= λ bytes. Ok (map (idle_redistributor bytes) (map (described_bases config) pending)))
    read) ∙ first) in
    record {
      conf_lpis = bits;
      pend_lpis = refl;
      same =
          ap (λ (xs : List Redistributor). slice_get xs v) (sym same)
          ∙ idle_at c.bytes config pending v z lt
          ∙ ap (λ (x : Bases). Some (idle_redistributor c.bytes x)) (sym is);
    }

pub off_first : (s : Shape) (memory : List Window) (values : GicrValues) (v : ℕ) (c : Configuration) (b : Bases) → v < s.vcpus → c ≡ zeros s.lpi_bits
    → b ≡ no_bases → IsFirstOf s memory (tables.Registers values) v (built c b) (idle_pend s (built c b))
off_first s memory values v c b lt blank is rs first =
    let these : List Redistributor = replicate s.vcpus (off_redistributor s no_bases) in
    let same : these ≡ rs = same_ok these rs first in
    record {
      conf_lpis = ap (λ (x : Configuration). x.lpi_bits) blank;
      pend_lpis = refl;
      same =
          ap (λ (xs : List Redistributor). slice_get xs v) (sym same)
          ∙ off_at s.vcpus v (off_redistributor s no_bases) lt
          ∙ ap (λ (x : Bases). Some (idle s (zeros s.lpi_bits) x)) (sym is)
          ∙ ap (λ (x : Configuration). Some (idle s x b)) (sym blank);
    }

pub none_first : (s : Shape) (memory : List Window) (t : LpiTables) (redists : RedistParts) → redists ≡ no_redists s.vcpus → AreFirst s memory t redists 0
none_first s memory t redists is =
    subst (λ (r : RedistParts). AreFirst s memory t r 0) (sym is) (record {
      confs = (empty_places s.vcpus).conf_room;
      pends = (empty_places s.vcpus).pend_room;
      each = λ v lt. absurd (omega (arith, lt));
      rest = λ v le. none_in_hand s.vcpus v;
    })

module _ (s : Shape) (memory : List Window) (t : LpiTables) (redists now : RedistParts) (n : ℕ) (r : Conf × Pend)
    (got : now ≡ set_pend (set_conf redists n (Some r.0)) n (Some r.1)) where
  pub one_more : n < s.vcpus → IsFirstOf s memory t n r.0 r.1 → AreFirst s memory t redists n → AreFirst s memory t now (n + 1)
  one_more small is before = record {
    confs = same_conf_room redists now n r.0 r.1 got ∙ before.confs;
    pends = same_pend_room redists now n r.0 r.1 got ∙ before.pends;
    each = λ v lt. elim (cases_eq v n) [
      | inl same ↦ (
        r.0,
        r.1,
        subst (λ (k : ℕ). AreInHandAt now k r.0 r.1) (sym same)
            (placed_here redists now n r.0 r.1 got (let full = before.confs in omega (arith, full, small)) (let full = before.pends in omega (arith, full, small))),
        subst (λ (k : ℕ). IsFirstOf s memory t k r.0 r.1) (sym same) is,
      )
      | inr apart ↦
          let w = before.each v (omega (arith, apart)) in
          (w.0, w.1, still_there redists now n r.0 r.1 got v w.0 w.1 apart w.2, w.3)
    ];
    rest = λ v le. still_empty redists now n r.0 r.1 got v (λ same. absurd (omega arith)) (before.rest v (omega arith));
  }

-- ---- the whole

some_read : (o : Option (List ℕ)) → is_some o ≡ true → (bytes : List ℕ) × (o ≡ Some bytes)
some_read None e = absurd cc
some_read (Some bytes) e = (bytes, refl)

no_read : (o : Option (List ℕ)) → is_some o ≡ false → o ≡ None
no_read None e = refl
no_read (Some bytes) e = absurd cc

-- there are such redistributors, as many as virtual processors
abbrev Some_first : Shape → List Window → LpiTables → Type 0
Some_first s memory t = (rs : List Redistributor) × (first_redistributors s memory t ≡ Ok rs) × (length rs ≡ s.vcpus)

pub some_first : (s : Shape) (memory : List Window) (t : LpiTables) → HasTablesFor s.vcpus t → HasConfig s memory t → Some_first s memory t
some_first s memory (Described config pending) count has =
    let n : ℕ = lpi_count s.lpi_bits in
    let read = some_read (read_at memory config.0 n) (is_some-read_at memory config.0 n ∙ has) in (
      map (idle_redistributor read.0) (map (described_bases config) pending),
      ap (λ (o : Option (List ℕ)). ok_or o Config >>= λ bytes. Ok (map (idle_redistributor bytes) (map (described_bases config) pending))) read.1,
      length-map (map (described_bases config) pending) (idle_redistributor read.0) ∙ length-map pending (described_bases config) ∙ count,
    )
some_first s memory (tables.Registers values) count has = (
  replicate s.vcpus (off_redistributor s no_bases),
  refl,
  length-replicate s.vcpus
      (off_redistributor s no_bases),
)

pub no_config : (s : Shape) (memory : List Window) (config : Addr) (pending : List Addr) → inside memory config.0 (lpi_count s.lpi_bits) ≡ false
    → first_redistributors s memory (Described config pending) ≡ Err Config
no_config s memory config pending out =
    ap (λ (o : Option (List ℕ)). ok_or o Config >>= λ bytes. Ok (map (idle_redistributor bytes) (map (described_bases config) pending)))
    (no_read (read_at memory config.0 (lpi_count s.lpi_bits)) (is_some-read_at memory config.0 (lpi_count s.lpi_bits) ∙ out))

-- ---- what is checked

pub filled_is : (d : Desc) (empty memory : List Window) → empty ≡ map zero_window (pairs d.windows) → windows_fit d ≡ true
    → tables_inside d.shape empty d.tables ≡ Ok tt → filled empty 0 d.fills ≡ Ok memory
    → made d ≡ (all_frames_fit (pairs d.windows) 0 d.translators >>= λ _. all_new [] 0 d.requesters >>= λ _.
    first_redistributors d.shape memory d.tables >>= λ rs. Ok (started d memory rs))
unfolding made
filled_is d empty memory is fit tables fills =
    let zeros : List Window = map zero_window (pairs d.windows) in
    let redistributors : List Window → Result Plain DescFault = λ now. first_redistributors d.shape now d.tables >>= λ rs. Ok (started d now rs) in
    let checked : List Window → Result Plain DescFault =
    λ now. all_frames_fit (pairs d.windows) 0 d.translators >>= λ _. all_new [] 0 d.requesters >>= λ _. redistributors now in
    ap (λ (b : Bool). ensure b Windows >>= λ _. tables_inside d.shape zeros d.tables >>= λ _. filled zeros 0 d.fills >>= checked) fit
    ∙ ap (λ (m : List Window). tables_inside d.shape m d.tables >>= λ _. filled m 0 d.fills >>= checked) (sym is)
    ∙ ap (λ (r : Result (Unit {0}) DescFault). r >>= λ _. filled empty 0 d.fills >>= checked) tables
    ∙ ap (λ (r : Result (List Window) DescFault). r >>= checked) fills

twice : {A : Type 0} (a b : Result (Unit {0}) DescFault) (rest : Result A DescFault) → (a >>= λ _. b >>= λ _. rest) ≡ ((a >>= λ _. b) >>= λ _. rest)
twice (Ok x) b rest = refl
twice (Err e) b rest = refl

module _ (d : Desc) (memory : List Window)
    (is : made d ≡ (all_frames_fit (pairs d.windows) 0 d.translators >>= λ _. all_new [] 0 d.requesters >>= λ _.
    first_redistributors d.shape memory d.tables >>= λ rs. Ok (started d memory rs))) where
  abbrev rest : Result Plain DescFault
  rest = first_redistributors d.shape memory d.tables >>= λ rs. Ok (started d memory rs)

  tested : made d ≡ (devices_test d >>= λ _. rest)
  tested = is ∙ twice (all_frames_fit (pairs d.windows) 0 d.translators) (all_new [] 0 d.requesters) rest

  pub devices_wrong : (f : DescFault) → devices_test d ≡ Err f → made d ≡ Err f
  devices_wrong f e = tested ∙ ap (λ (r : Result (Unit {0}) DescFault). r >>= λ _. rest) e

  pub all_checked : devices_test d ≡ Ok tt → IsFilled d (Ok memory)
  all_checked e = tested ∙ ap (λ (r : Result (Unit {0}) DescFault). r >>= λ _. rest) e

-- a fault that is handed on
pub filled_with : (d : Desc) (r : Result (List Window) MakeError) (e : MakeError) (f : DescFault) → IsErrAnd r (λ (x : MakeError). x ≡ e) → e ≡ making.Fault f
    → made d ≡ Err f → IsFilled d r
filled_with d (Ok x) e f is same h = absurd is
filled_with d (Err x) e f is same h = subst (λ (y : MakeError). IsFilled d (Err y)) (sym (is ∙ same)) h

-- ---- the first state

abbrev state : Layout → List Translator → List Window → Option Tracked → List Redistributor → Plain
state l ts memory track rs = record { layout = l; translators = ts; redistributors = rs; memory = memory; track = track }

module _ (d : Desc) (p : Parts) (description : IsDescription d) (filled : IsFilled d (Ok p.memory)) (has : HasConfig d.shape p.memory d.tables)
    (first : AreFirst d.shape p.memory d.tables p.redists d.shape.vcpus) (layout_is : p.layout ≡ layout_of d)
    (translators_are : translators_of p.first p.second ≡ replicate (length d.translators) (reset_translator d.shape.dev_bits))
    (track_is : p.track ≡ track_of d.track p.memory) where
  some : Some_first d.shape p.memory d.tables
  some = some_first d.shape p.memory d.tables description.tables has

  redistributors_are : redistributors_in d.shape.vcpus p.redists ≡ some.0
  redistributors_are =
      hand_is d.shape.vcpus p.redists some.0 (λ v lt.
      let q = first.each v lt in
      (q.3 some.0 some.1).same ∙ ap (λ (r : Redistributor). Some r) (sym (redistributor_at p.redists v q.0 q.1 q.2))) some.2

  state_is : started d p.memory some.0 ≡ state_of_parts p
  state_is =
      ap (λ (ts : List Translator). state (layout_of d) ts p.memory (track_of d.track p.memory) some.0) (sym translators_are)
      ∙ ap (λ (t : Option Tracked). state (layout_of d) (translators_of p.first p.second) p.memory t some.0) (sym track_is)
      ∙ ap (state (layout_of d) (translators_of p.first p.second) p.memory p.track) (sym redistributors_are)
      ∙ ap (λ (l : Layout). state l (translators_of p.first p.second) p.memory p.track (redistributors_in l.shape.vcpus p.redists)) (sym layout_is)

  pub started_are : AreStarted d (Ok p)
  started_are =
      let is : made d ≡ Ok (state_of_parts p) =
      filled ∙ ap (λ (r : Result (List Redistributor) DescFault). r >>= λ rs. Ok (started d p.memory rs)) some.1 ∙ ap (λ (u : Plain). Ok u) state_is in
      record {
        made_is = is;
        layout = layout_is;
        whole = record {
          sound = start_sound d (state_of_parts p) description is;
          all_in_hand = subst (λ (l : Layout). AreAllInHand l.shape p.redists) (sym layout_is)
              (λ v lt.
              let q = first.each v lt in
              let is = q.3 some.0 some.1 in
              ((q.0, q.2.conf, is.conf_lpis), (q.1, q.2.pend, is.pend_lpis)));
          no_others = subst (λ (l : Layout). (v : ℕ) → l.shape.vcpus ≤ v → AreNotInHand p.redists v) (sym layout_is) first.rest;
        };
      }

pub refused_config : (d : Desc) (memory : List Window) → IsFilled d (Ok memory) → first_redistributors d.shape memory d.tables ≡ Err Config
    → made d ≡ Err Config
refused_config d memory filled none = filled ∙ ap (λ (r : Result (List Redistributor) DescFault). r >>= λ rs. Ok (started d memory rs)) none
