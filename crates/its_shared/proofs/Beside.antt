-- Configurations were taken beside the maps and memory, and the word was read with all of them in hand.
use Rattle.std.proofs.Common.{◌≡◌, ℕ, ◌<◌, true, nat_lt, List, Option, Some, None, length, map, refl, ap, sym, ◌∙◌, subst, arith}
use Rattle.std.specs.Prelude.{slice_get, is_some}
use Rattle.std.specs.List.{AllByRecursion, flat_map, range_with_len}
use Rattle.std.specs.Option.{option_map}
use Rattle.std.proofs.lemmas.Bool.{and_from, lt-ltb}
use Rattle.std.proofs.lemmas.List.FromFn.{length-map-range_with_len, get_or-map-range_with_len}
use Rattle.std.proofs.lemmas.List.Folds.{flat_map-map}
use Rattle.std.proofs.lemmas.List.{length-map}
use Rattle.std.proofs.lemmas.Option.{slice_get-map, slice_get_within, slice_get-get_or}
use mathlib.Core.List.{IsPrefix, map-map}
use Rattle.gicr_lpi.proofs.Lows.{low_bases}
use Rattle.gicr_regs.specs.Registers.{AreLow}
use Rattle.its_types.specs.declared.machine.Shape.{Shape}
use Rattle.its_types.specs.declared.machine.Word.{Word}
use Rattle.its_plain.specs.History.{after}
use Rattle.its_plain.specs.Plain.{Plain, Redistributor, ConfState, conf_of, no_redistributor}
use Rattle.its_plain.specs.declared.call.Entry.{Entry}
use Rattle.its_plain.specs.declared.layout.Layout.{Layout}
use Rattle.its_steps.specs.MayCommit.{IsRight}
use Rattle.its_steps.specs.Parts.{Setup, IsOfMachine, vcpu_count}
use Rattle.its_steps.specs.World.{View}
use Rattle.its_steps.proofs.Lists.{prefix_self}
use Rattle.its_turns.specs.Calls.{GoesOn}
use Rattle.its_turns.specs.Told.{Looks}
use Rattle.its_turns.proofs.Telling.{goes_looked}
use Rattle.held_parts.specs.Once.{TakesAtOnce}
use Rattle.held_parts.specs.Redists.{AreConfsOfSet, IsConfIn, conf_held, confs_held, held_if_in, row_of}
use Rattle.held_parts.specs.Taking.{holding}
use Rattle.held_parts.proofs.InRows.{row_each}
use Rattle.held_parts.proofs.Lists.{same_lists}
use Rattle.lpi_config.specs.Conf.{Conf, conf_state}
use Rattle.lpi_pending.specs.InHand.{RedistParts, conf_in}
use Rattle.owned_parts.specs.Owned.{conf_or, redistributor_in}
use Rattle.owned_parts.specs.RedistSets.{is_in}
use Rattle.owned_parts.specs.declared.redist_set.RedistSet.{RedistSet}
use Rattle.table_save.specs.Areas.{redistributors_of}
use Rattle.step_views.specs.Reads.{byte_read, byte_reads, table_read, table_reads}
use Rattle.its_shared.specs.Besides.{HaveRead, besides_reads, configs_of, stretches, told_first}
use Rattle.its_shared.specs.Seeing.{HasSeenBeside}
use Rattle.its_shared.specs.declared.besides.Besides.{Besides}
use Rattle.its_shared.specs.declared.besides.Besides.TheVariants.{Nothing, Entry as FirstEntry, Byte, Tables}
use Rattle.its_shared.specs.declared.step_reads.StepReads.{StepReads}
use Rattle.its_shared.proofs.Seen.{saw, right_now}

there : (o : Option Conf) → is_some o ≡ true → (c : Conf) × (o ≡ Some c)
there None is = absurd cc
there (Some c) is = (c, refl)

-- so many are in hand where they are wanted
have_read : (n : ℕ) (rs : RedistParts) (b : Besides)
    → ((v : ℕ) → v < n → is_in (configs_of n b) v ≡ true → (c : Conf) × (conf_in rs v ≡ Some c) × AreLow c.bases) → HaveRead n rs b
have_read n rs Nothing f = tt
have_read n rs (FirstEntry a) f = tt
have_read n rs (Byte intid) f = λ v below. f v below (lt-ltb v n below)
have_read n rs Tables f = λ v below. f v below (lt-ltb v n below)

-- what is read goes with configurations alone
bytes_by : (intid : ℕ) (xs : List Redistributor) → byte_reads intid xs ≡ flat_map (byte_read intid) (map conf_of xs)
bytes_by intid xs = sym (flat_map-map (byte_read intid) conf_of xs)

tables_by : (s : Shape) (xs : List Redistributor) → table_reads s xs ≡ flat_map (table_read s) (map conf_of xs)
tables_by s xs = sym (flat_map-map (table_read s) conf_of xs)

same_reads : (s : Shape) (xs ys : List Redistributor) (n : ℕ) (b : Besides)
    → (((v : ℕ) → v < n → is_in (configs_of n b) v ≡ true) → map conf_of xs ≡ map conf_of ys) → besides_reads s xs b ≡ besides_reads s ys b
same_reads s xs ys n Nothing same = refl
same_reads s xs ys n (FirstEntry a) same = refl
same_reads s xs ys n (Byte intid) same =
    bytes_by intid.0 xs ∙ ap (λ (l : List ConfState). flat_map (byte_read intid.0) l) (same (λ v below. lt-ltb v n below)) ∙ sym (bytes_by intid.0 ys)
same_reads s xs ys n Tables same =
    tables_by s xs ∙ ap (λ (l : List ConfState). flat_map (table_read s) l) (same (λ v below. lt-ltb v n below)) ∙ sym (tables_by s ys)

-- those in hand are these redistributors'
module _ (shape : Shape) (rs : RedistParts) (ys : List Redistributor) (many : length ys ≡ shape.vcpus)
    (each : (v : ℕ) → v < shape.vcpus → option_map conf_of (slice_get ys v) ≡ Some (conf_or (conf_in rs v))) where
  of_hand : map conf_of (redistributors_of shape rs) ≡ map (λ v. conf_or (conf_in rs v)) (range_with_len 0 shape.vcpus)
  of_hand = map-map conf_of (redistributor_in rs) (range_with_len 0 shape.vcpus)

  hand_at : (v : ℕ) → v < shape.vcpus → slice_get (map (λ k. conf_or (conf_in rs k)) (range_with_len 0 shape.vcpus)) v ≡ Some (conf_or (conf_in rs v))
  hand_at v below =
      let f : ℕ → ConfState = λ k. conf_or (conf_in rs k) in
      let long = length-map-range_with_len f 0 shape.vcpus in
      slice_get-get_or (map f (range_with_len 0 shape.vcpus)) v (conf_of no_redistributor) (omega (arith, below, long))
      ∙ ap (λ (c : ConfState). Some c) (get_or-map-range_with_len f 0 shape.vcpus v v (conf_of no_redistributor) below (omega arith))

  pub same_confs : map conf_of (redistributors_of shape rs) ≡ map conf_of ys
  same_confs =
      let f : ℕ → ConfState = λ k. conf_or (conf_in rs k) in
      let long = length-map-range_with_len f 0 shape.vcpus in
      of_hand ∙ same_lists (map f (range_with_len 0 shape.vcpus)) (map conf_of ys) (long ∙ sym (length-map ys conf_of ∙ many)) (λ i c is.
      let within = slice_get_within (map f (range_with_len 0 shape.vcpus)) i c is in
      let below : i < shape.vcpus = omega (arith, within, long) in
      slice_get-map conf_of ys i ∙ each i below ∙ sym (hand_at i below) ∙ is)

module _ (s : Setup) (v w x : View) (set : RedistSet) (rs : RedistParts) (own : v.setup ≡ s) (taken : TakesAtOnce (IsConfIn set) v w)
    (held : w.held ≡ confs_held rs (vcpu_count s) v.held) (are : AreConfsOfSet s set rs) (word : Word) (looks : Looks w word x) where
  on : GoesOn v w.tries w
  on = record {
    same = taken.same ∙ ap (λ (y : View). record v { seen = y.seen; last = y.last; held = w.held; cache = w.cache; tries = w.tries }) (sym taken.same);
    longer = subst (λ (l : List Entry). IsPrefix v.seen l) (sym (ap (λ (y : View). y.seen) taken.same)) (prefix_self v.seen);
    tries = refl;
  }

  abbrev now : Plain
  now = after v.setup.start x.seen

  setup_is : w.setup ≡ v.setup
  setup_is = ap (λ (y : View). y.setup) on.same

  pub machine : IsOfMachine v.setup now
  machine = subst (λ (k : Setup). IsOfMachine k (after k.start x.seen)) setup_is looks.machine

  all_right : AllByRecursion (IsRight v.setup word now) (confs_held rs (vcpu_count s) v.held)
  all_right = subst (AllByRecursion (IsRight v.setup word now)) held (right_now v w x x w.tries on (λ _. ap (λ (y : View). y.seen) taken.same) word looks refl)

  pub rest_right : AllByRecursion (IsRight v.setup word now) v.held
  rest_right = (row_each (row_of conf_held rs.confs) v.held (IsRight v.setup word now) (vcpu_count s) all_right).1

  conf_right : (k : ℕ) → k < vcpu_count s → (c : Conf) → conf_in rs k ≡ Some c → option_map conf_of (slice_get now.redistributors k) ≡ Some (conf_state c)
  conf_right k below c is =
      (row_each (row_of conf_held rs.confs) v.held (IsRight v.setup word now) (vcpu_count s) all_right).0 k (conf_held k c) below
      (ap (held_if_in conf_held k) is)

  in_hand : (k : ℕ) → k < vcpu_count s → is_in set k ≡ true → (c : Conf) × (conf_in rs k ≡ Some c)
  in_hand k below is =
      let here = lt-ltb k (vcpu_count s) below in
      there (conf_in rs k) (are.hand k ∙ and_from (is_in set k) (nat_lt k (vcpu_count s)) is here)

  low : (k : ℕ) → k < vcpu_count s → (c : Conf) → conf_in rs k ≡ Some c → AreLow c.bases
  low k below c is = low_bases v.setup (record { 0 = k }) (conf_state c) record {
    history = x.seen;
    word = word;
    machine = machine;
    right = conf_right k below c is;
  }

  module _ (shape : Shape) (b : Besides) (shape_is : shape ≡ s.start.layout.shape) (set_is : set ≡ configs_of shape.vcpus b) where
    many_is : shape.vcpus ≡ vcpu_count s
    many_is = ap (λ (k : Shape). k.vcpus) shape_is

    wanted : (k : ℕ) → is_in (configs_of shape.vcpus b) k ≡ true → is_in set k ≡ true
    wanted k is = ap (λ (z : RedistSet). is_in z k) set_is ∙ is

    below_all : (k : ℕ) → k < shape.vcpus → k < vcpu_count s
    below_all k below = subst (λ n. k < n) many_is below

    pub have_now : HaveRead shape.vcpus rs b
    have_now = have_read shape.vcpus rs b (λ k below is.
        let h = in_hand k (below_all k below) (wanted k is) in (h.0, h.1, low k (below_all k below) h.0 h.1))

    now_many : length now.redistributors ≡ shape.vcpus
    now_many = machine.sound.vcpus ∙ (ap (λ (l : Layout). l.shape.vcpus) (sym machine.layout) ∙ (ap (λ (k : Setup). vcpu_count k) own ∙ sym many_is))

    now_each : ((k : ℕ) → k < shape.vcpus → is_in (configs_of shape.vcpus b) k ≡ true) → (k : ℕ) → k < shape.vcpus
        → option_map conf_of (slice_get now.redistributors k) ≡ Some (conf_or (conf_in rs k))
    now_each all k below =
        let h = in_hand k (below_all k below) (wanted k (all k below)) in
        conf_right k (below_all k below) h.0 h.1 ∙ ap (λ (o : Option Conf). Some (conf_or o)) (sym h.1)

    -- they say of this state what they say of what is in hand
    pub reads_now : (command : StepReads) → command.besides ≡ b
        → stretches shape (redistributors_of shape rs) command ≡ stretches shape now.redistributors command
    reads_now command is =
        ap (told_first command.command)
        (ap (λ (k : Besides). besides_reads shape (redistributors_of shape rs) k) is
        ∙ same_reads shape (redistributors_of shape rs) now.redistributors shape.vcpus b
        (λ all. same_confs shape rs now.redistributors now_many (now_each all))
        ∙ sym (ap (λ (k : Besides). besides_reads shape now.redistributors k) is))

  -- and they went home
  module _ (z : View) (home : z ≡ holding x v.held) where
    seen_is : z.seen ≡ x.seen
    seen_is = ap (λ (y : View). y.seen) home

    goes_home : GoesOn v w.tries z
    goes_home =
        let far = goes_looked v w w.tries on x word looks in
        subst (GoesOn v w.tries) (sym home) record {
          same = ap (λ (y : View). holding y v.held) far.same;
          longer = far.longer;
          tries = far.tries;
        }

    pub saw_beside : HasSeenBeside v word.place z
    saw_beside = record {
      seen = saw v w x z w.tries on (λ lone. ap (λ (y : View). y.seen) taken.same) word looks seen_is goes_home (ap (λ (y : View). y.held) home);
      word = word;
      machine = subst (λ (h : List Entry). IsOfMachine v.setup (after v.setup.start h)) (sym seen_is) machine;
      right = subst (λ (h : List Entry). AllByRecursion (IsRight v.setup word (after v.setup.start h)) v.held) (sym seen_is) rest_right;
    }
