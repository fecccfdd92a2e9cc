-- The LPI registers of redistributors, where the guest programs them.
use Rattle.std.proofs.Common.{◌≡◌, ℕ, zero, suc, ◌+◌, ◌<◌, Bool, true, if◌then◌else◌, List, [], ◌∷◌, ◌++◌, length, map, take, get_or, Option, Some, None}
use Rattle.std.proofs.Common.{inl, inr, refl, sym, ap, subst, ◌∙◌, arith}
use Rattle.std.specs.Prelude.{◌&&◌, is_some, slice_get, slice_index_or, slice_set}
use Rattle.std.specs.Option.{option_map}
use Rattle.std.proofs.lemmas.Bool.{cases_eq}
use Rattle.std.proofs.lemmas.List.{get_or-map, get_or-set_same, get_or-set_other, length-map, length-append}
use Rattle.std.proofs.lemmas.Option.{same_Some}
use lib.ListN.{length-set, get_or-append}
use lib.Seq.{length-take-le, get_or-take, get_or-append_seam, ext_get_or}
use Rattle.its_types.specs.declared.translation.Bases.{Bases}
use Rattle.gicr_regs.specs.Registers.{asked_by, AreKept, AreLow, ValuesComeBack, restored_bases, all_restored_bases, values_of, written_gicr}
use Rattle.gicr_regs.specs.declared.values.GicrRegisters.{GicrRegisters}
use Rattle.its_plain.specs.Plain.{Plain, Redistributor, ConfState, conf_of, pend_of, redistributor, with_redistributor, no_redistributor}
use Rattle.its_plain.specs.Answer.{answer, left, gicr_written}
use Rattle.its_plain.specs.declared.call.Call.TheVariants as call
use Rattle.saved_state.specs.Laws.{bases_of}
use Rattle.lpi_config.specs.Conf.{Conf}
use Rattle.lpi_pending.specs.InHand.{RedistParts, conf_in, pend_in, set_conf, set_pend}
use Rattle.lpi_pending.specs.Pend.{Pend}
use Rattle.lpi_pending.specs.Rooms.{is_enable}
use Rattle.owned_parts.specs.Owned.{HasLpisOfConf, HasLpisOfPend, IsConfOf, IsPendOf, conf_state, pend_state, redistributor_of, state_of_parts}
use Rattle.owned_parts.specs.Places.{AreInHandAt}
use Rattle.dirty_log.specs.declared.tracked.Tracked.{Tracked}
use Rattle.owned_parts.specs.declared.parts.Parts.{Parts}
use Rattle.cmd_exec.proofs.Places.{set_viewed, set_get_other, shown_of}
use Rattle.owned_machine.specs.Whole.{IsMachine, GoesOn, enables}
use Rattle.owned_machine.specs.Migrations.{AreRead}
use Rattle.owned_machine.proofs.Kept.{redists_are, goes_on, conf_here, redistributor_here}

-- the bases of a redistributor have kept bits alone
pub bases_kept : (p : Parts) (v : ℕ) (c : Conf) → IsMachine p → p.layout.gicr ≡ true → conf_in p.redists v ≡ Some c → AreKept c.bases
bases_kept p v c m gicr is =
    let x = shown_of conf_of (slice_get (state_of_parts p).redistributors v) (conf_state c) ((redists_are p m).0 v c is).same in
    subst AreKept (ap (λ (y : ConfState). y.bases) x.2) ((m.sound.redistributors v x.0 x.1).kept gicr)

pub bases_low : (p : Parts) (v : ℕ) (c : Conf) → IsMachine p → p.layout.gicr ≡ true → conf_in p.redists v ≡ Some c → AreLow c.bases
bases_low p v c m gicr is = let k = bases_kept p v c m gicr is in record { prop = k.prop_low; pend = k.pend_low }

-- ---- a write

within : {X : Type 0} (xs : List (Option X)) (v : ℕ) (x : X) → slice_index_or xs v None ≡ Some x → v < length xs
within [] v x e = absurd cc
within (y ∷ ys) zero x e = omega arith
within (y ∷ ys) (suc v) x e = let lt = within ys v x e in omega (arith, lt)

-- a place that is emptied, and filled again
module _ {X : Type 0} (xs : List (Option X)) (v : ℕ) (old : X) (is : slice_index_or xs v None ≡ Some old) where
  emptied : slice_index_or (slice_set xs v None) v None ≡ None
  emptied = get_or-set_same xs v None None (within xs v old is)

  filled : (x : X) → slice_index_or (slice_set (slice_set xs v None) v (Some x)) v None ≡ Some x
  filled x =
      let lt = within xs v old is in let long = length-set xs v None in
      get_or-set_same (slice_set xs v None) v (Some x) None (omega (arith, lt, long))

  set_there : (x : X) → slice_index_or (slice_set xs v (Some x)) v None ≡ Some x
  set_there x = get_or-set_same xs v (Some x) None (within xs v old is)

  filled_else : (x : X) (k : ℕ) → (k ≡ v → ⊥) → slice_index_or (slice_set (slice_set xs v None) v (Some x)) k None ≡ slice_index_or xs k None
  filled_else x k apart = get_or-set_other (slice_set xs v None) v k (Some x) None apart ∙ get_or-set_other xs v k None None apart

  set_else : (x : X) (k : ℕ) → (k ≡ v → ⊥) → slice_index_or (slice_set xs v (Some x)) k None ≡ slice_index_or xs k None
  set_else x k apart = get_or-set_other xs v k (Some x) None apart

-- its configuration was taken out
pub is_taken : (p : Parts) (v : ℕ) (c : Conf) (taken : RedistParts) → conf_in p.redists v ≡ Some c → taken ≡ set_conf p.redists v None → conf_in taken v ≡ None
is_taken p v c taken is took = ap (λ (r : RedistParts). conf_in r v) took ∙ emptied p.redists.confs v c is

module _ (p : Parts) (v : ℕ) (c c' : Conf) (q q' : Pend) (off size value : ℕ) (m : IsMachine p) (gicr : p.layout.gicr ≡ true)
    (here : AreInHandAt p.redists v c q) (has_conf : HasLpisOfConf p.layout.shape c') (has_pend : HasLpisOfPend p.layout.shape q')
    (written : redistributor_of c' q' ≡ written_gicr p.layout.shape p.memory (redistributor_of c q) off size value) where
  abbrev now : RedistParts
  now = record { confs = slice_set (slice_set p.redists.confs v None) v (Some c'); pends = slice_set p.redists.pends v (Some q') }

  abbrev f : Redistributor → Redistributor
  f x = written_gicr p.layout.shape p.memory x off size value

  abbrev state : Plain
  state = with_redistributor (state_of_parts p) v (f (redistributor (state_of_parts p) v))

  -- what the state has at the place
  there : f (redistributor (state_of_parts p) v) ≡ redistributor_of c' q'
  there = ap f (redistributor_here p v c q m here) ∙ sym written

  confs_now : (k : ℕ) (x : Conf) → conf_in now k ≡ Some x → IsConfOf state k x
  confs_now k x is =
      let rs = (state_of_parts p).redistributors in
      let r = f (redistributor (state_of_parts p) v) in
      elim (cases_eq k v) [
        | inl same ↦
            let at : conf_in now v ≡ Some x = ap (conf_in now) (sym same) ∙ is in
            let it : c' ≡ x = same_Some c' x (sym (filled p.redists.confs v c here.conf c') ∙ at) in
            subst (λ (j : ℕ). IsConfOf state j x) (sym same) (record {
              lpis = subst (HasLpisOfConf p.layout.shape) it has_conf;
              same =
                  set_viewed conf_of rs v r (conf_state c) ((redists_are p m).0 v c here.conf).same
                  ∙ ap (λ (y : Redistributor). Some (conf_of y)) there
                  ∙ ap (λ (y : Conf). Some (conf_state y)) it;
            })
        | inr apart ↦
            let at = (redists_are p m).0 k x (sym (filled_else p.redists.confs v c here.conf c' k apart) ∙ is) in
            record { lpis = at.lpis; same = ap (option_map conf_of) (set_get_other rs v k r apart) ∙ at.same }
      ]

  pends_now : (k : ℕ) (x : Pend) → pend_in now k ≡ Some x → IsPendOf state k x
  pends_now k x is =
      let rs = (state_of_parts p).redistributors in
      let r = f (redistributor (state_of_parts p) v) in
      elim (cases_eq k v) [
        | inl same ↦
            let at : pend_in now v ≡ Some x = ap (pend_in now) (sym same) ∙ is in
            let it : q' ≡ x = same_Some q' x (sym (set_there p.redists.pends v q here.pend q') ∙ at) in
            subst (λ (j : ℕ). IsPendOf state j x) (sym same) (record {
              lpis = subst (HasLpisOfPend p.layout.shape) it has_pend;
              same =
                  set_viewed pend_of rs v r (pend_state q) ((redists_are p m).1 v q here.pend).same
                  ∙ ap (λ (y : Redistributor). Some (pend_of y)) there
                  ∙ ap (λ (y : Pend). Some (pend_state y)) it;
            })
        | inr apart ↦
            let at = (redists_are p m).1 k x (sym (set_else p.redists.pends v q here.pend q' k apart) ∙ is) in
            record { lpis = at.lpis; same = ap (option_map pend_of) (set_get_other rs v k r apart) ∙ at.same }
      ]

  confs_alike : (k : ℕ) → is_some (conf_in now k) ≡ is_some (conf_in p.redists k)
  confs_alike k = elim (cases_eq k v) [
    | inl same ↦
        ap (λ (j : ℕ). is_some (conf_in now j)) same ∙ ap is_some (filled p.redists.confs v c here.conf c') ∙ sym (ap is_some here.conf)
        ∙ ap (λ (j : ℕ). is_some (conf_in p.redists j)) (sym same)
    | inr apart ↦ ap is_some (filled_else p.redists.confs v c here.conf c' k apart)
  ]

  pends_alike : (k : ℕ) → is_some (pend_in now k) ≡ is_some (pend_in p.redists k)
  pends_alike k = elim (cases_eq k v) [
    | inl same ↦
        ap (λ (j : ℕ). is_some (pend_in now j)) same ∙ ap is_some (set_there p.redists.pends v q here.pend q') ∙ sym (ap is_some here.pend)
        ∙ ap (λ (j : ℕ). is_some (pend_in p.redists j)) (sym same)
    | inr apart ↦ ap is_some (set_else p.redists.pends v q here.pend q' k apart)
  ]

  opened : gicr_written (state_of_parts p) v off size value ≡ state
  opened = ap (λ (b : Bool). if b then state else state_of_parts p) gicr

  left_is : (answer (state_of_parts p) (call.WriteGicr (record { 0 = v }) off size value)).1 ≡ state
  unfolding left
  left_is = opened

  pub gicr_goes : GoesOn (record p { redists = now }) (gicr_written (state_of_parts p) v off size value)
  gicr_goes =
      subst (λ (u : Plain). GoesOn (record p { redists = now }) u) (sym opened)
      (goes_on p (record p { redists = now }) (call.WriteGicr (record { 0 = v }) off size value) state m refl left_is
      (record { confs = confs_alike; pends = pends_alike }) refl refl refl (confs_now, pends_now))

  -- from one place to the next
  pub gicr_left : (taken lent left : RedistParts) → taken ≡ set_conf p.redists v None → lent ≡ set_pend taken v (Some q') → left ≡ set_conf lent v (Some c')
      → GoesOn (record p { redists = left }) (gicr_written (state_of_parts p) v off size value)
  gicr_left taken lent left took wrote put =
      let is : left ≡ now =
      put ∙ ap (λ (r : RedistParts). set_conf r v (Some c')) wrote ∙ ap (λ (r : RedistParts). set_conf (set_pend r v (Some q')) v (Some c')) took in
      subst (λ (r : RedistParts). GoesOn (record p { redists = r }) (gicr_written (state_of_parts p) v off size value)) (sym is) gicr_goes

-- it asks to turn LPIs on
pub enables_is : (p : Parts) (v off size value : ℕ) (c : Conf) → IsMachine p → p.layout.gicr ≡ true → conf_in p.redists v ≡ Some c
    → is_enable (asked_by c.bases off size value) ≡ true → enables (state_of_parts p) v off size value ≡ true
enables_is p v off size value c m gicr is asks =
    ap (λ (b : Bool). b && is_enable (asked_by (redistributor (state_of_parts p) v).bases off size value)) gicr
    ∙ ap (λ (x : ConfState). is_enable (asked_by x.bases off size value)) (conf_here p v c m is)
    ∙ asks

-- ---- reads of all

pub one_read : ValuesComeBack → (p : Parts) (registers : List GicrRegisters) (n : ℕ) (c : Conf) → IsMachine p → p.layout.gicr ≡ true
    → conf_in p.redists n ≡ Some c → AreRead p registers n → AreRead p (registers ++ values_of c.bases ∷ []) (n + 1)
one_read come_back p registers n c m gicr is before =
    let u = state_of_parts p in
    let x = values_of c.bases in
    record {
      many = length-append registers (x ∷ []) ∙ (let many = before.many in omega (arith, many));
      each = λ k d lt. elim (cases_eq k n) [
        | inl same ↦
            ap (λ (j : ℕ). restored_bases (get_or (registers ++ x ∷ []) j d)) (same ∙ sym before.many)
            ∙ ap restored_bases (get_or-append_seam registers x [] d)
            ∙ come_back c.bases (bases_kept p n c m gicr is)
            ∙ sym (ap (λ (y : ConfState). y.bases) (conf_here p n c m is))
            ∙ ap (λ (j : ℕ). (redistributor u j).bases) (sym same)
        | inr apart ↦
            let below : k < n = omega (arith, lt, apart) in
            ap restored_bases (get_or-append registers (x ∷ []) d k (let many = before.many in omega (arith, below, many))) ∙ before.each k d below
      ];
    }

pub all_read : (p : Parts) (registers : List GicrRegisters) → IsMachine p → AreRead p registers p.layout.shape.vcpus → all_restored_bases p.layout.shape.vcpus
    (record { registers = registers }) ≡ bases_of (state_of_parts p)
all_read p registers m read =
    let n = p.layout.shape.vcpus in
    let u = state_of_parts p in
    let d : GicrRegisters = record { ctlr = 0; propbaser = 0; pendbaser = 0 } in
    let xs : List Bases = map restored_bases (take n registers) in
    let ys : List Bases = map (λ (r : Redistributor). r.bases) u.redistributors in
    let short : length (take n registers) ≡ n = length-take-le n registers (let long = read.many in omega (arith, long)) in
    let long : length xs ≡ n = length-map (take n registers) restored_bases ∙ short in
    let many : length ys ≡ n = length-map u.redistributors (λ (r : Redistributor). r.bases) ∙ m.sound.vcpus in
    ext_get_or no_redistributor.bases xs ys (long ∙ sym many) (λ i lt.
    get_or-map restored_bases (take n registers) i d no_redistributor.bases (omega (arith, lt, long, short))
    ∙ ap restored_bases (get_or-take n registers i d (omega (arith, lt, long)))
    ∙ read.each i d (omega (arith, lt, long))
    ∙ sym (get_or-map (λ (r : Redistributor). r.bases) u.redistributors i no_redistributor no_redistributor.bases
    (let all = m.sound.vcpus in omega (arith, lt, long, all))))

-- what is read doesn't depend on the second memory
pub read_with : (p : Parts) (t : Option Tracked) (registers : List GicrRegisters) (n : ℕ) → AreRead p registers n
    → AreRead (record p { track = t }) registers n
read_with p t registers n h = record { many = h.many; each = h.each }

pub read_without : (p : Parts) (t : Option Tracked) (registers : List GicrRegisters) (n : ℕ) → AreRead (record p { track = t }) registers n
    → AreRead p registers n
read_without p t registers n h = record { many = h.many; each = h.each }
