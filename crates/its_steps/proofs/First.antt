-- The first world is good.
use Rattle.std.proofs.Common.{◌≡◌, ℕ, zero, suc, ◌+◌, ◌*◌, ◌<◌, List, [], ◌∷◌, ◌++◌, length, map, get_or, replicate, Some, None, refl, ap, sym, ◌∙◌, subst}
use Rattle.std.proofs.Common.{inl, inr, arith, length-append}
use Rattle.std.proofs.lemmas.List.{length-map, length-replicate, get_or-replicate, get_or_past}
use Rattle.std.proofs.lemmas.Bool.{cases_lt}
use Rattle.std.proofs.lemmas.Option.{slice_get-get_or, get_or_from_slice_get}
use mathlib.Core.Option.{Option, some, some-injective, some-ne-none}
use lib.ListN.{get_elem?}
use Rattle.atomic_table.proofs.Lists.{at_index, at_map, at_longer}
use Rattle.its_types.specs.declared.machine.Part.{Part}
use Rattle.its_types.specs.declared.machine.Part.TheVariants as part
use Rattle.its_plain.specs.Plain.{translator, redistributor, no_translator, no_redistributor, conf_of, pend_of}
use Rattle.its_plain.specs.Sound.{IsSound}
use Rattle.xlate_cache.specs.Ways.{no_entries}
use Rattle.xlate_cache.specs.declared.entry.Entry.{Entry as Translation}
use Rattle.xlate_cache.proofs.Sets.{none_at, empty_shard}
use Rattle.its_steps.specs.Parts.{Setup, Stands, index_of, part_count, translator_count, vcpu_count}
use Rattle.its_steps.specs.Contents.{Content, Maps, Mem, Shard, Conf, Pend}
use Rattle.its_steps.specs.World.{RootView, View, first_word, first_view, first_slots, first_world}
use Rattle.its_steps.specs.Good.{IsHome, IsPass, Good}
use Rattle.its_steps.specs.Laws.{FirstIsGood}
use Rattle.its_steps.proofs.Indexes.{row_below}
use Rattle.its_steps.proofs.Lists.{seen_there}
use Rattle.its_steps.proofs.Stamps.{stamp_zero}
use Rattle.its_steps.proofs.Views.{no_pass}

-- an element behind the first list
past : {A : Type 0} (xs ys : List A) (n j : ℕ) (a : A) → n ≡ length xs + j → get_elem? ys j ≡ some a → get_elem? (xs ++ ys) n ≡ some a
past [] ys n j a e there = let same : n ≡ j = omega (arith, e) in ap (get_elem? ys) same ∙ there
past (x ∷ xs) ys zero j a e there = absurd (omega (arith, e))
past (x ∷ xs) ys (suc n) j a e there = past xs ys n j a (omega (arith, e)) there

some_at : {A : Type 0} (xs : List A) (i : ℕ) (d : A) → i < length xs → get_elem? xs i ≡ some (get_or xs i d)
some_at xs i d lt = at_index xs i (get_or xs i d) lt (sym (get_or_from_slice_get xs i (get_or xs i d) (get_or xs i d) (slice_get-get_or xs i d lt)))

copies_at : {A : Type 0} (n i : ℕ) (a : A) → i < n → get_elem? (replicate n a) i ≡ some a
copies_at {A = A} n i a lt = let long : length (replicate n a) ≡ n = length-replicate {A = A} n a in at_index (replicate n a) i a (omega (arith, lt, long))
    (sym (get_or-replicate n i a a lt))

nothing : (s : Setup) (its n : ℕ) (e : Translation) (i : ℕ) → get_or no_entries i None ≡ Some e → ⊥
nothing s its n e i there = let t : None ≡ Some e = sym (none_at i) ∙ there in cc

module _ (s : Setup) (sound : IsSound s.start) where
  abbrev maps : List (Option Content)
  maps = map (λ t. some (Maps t)) s.start.translators

  abbrev shards : List (Option Content)
  shards = replicate (translator_count s * s.shards) (some (Shard no_entries))

  abbrev confs : List (Option Content)
  confs = map (λ r. some (Conf (conf_of r))) s.start.redistributors

  abbrev pends : List (Option Content)
  pends = map (λ r. some (Pend (pend_of r))) s.start.redistributors

  abbrev redists : List (Option Content)
  redists = confs ++ pends

  maps_long : length maps ≡ translator_count s
  maps_long = length-map s.start.translators (λ t. some (Maps t))

  shards_long : length shards ≡ translator_count s * s.shards
  shards_long = length-replicate {A = Option Content} (translator_count s * s.shards) (some (Shard no_entries))

  confs_long : length confs ≡ vcpu_count s
  confs_long = length-map s.start.redistributors (λ r. some (Conf (conf_of r))) ∙ sound.vcpus

  pends_long : length pends ≡ vcpu_count s
  pends_long = length-map s.start.redistributors (λ r. some (Pend (pend_of r))) ∙ sound.vcpus

  pub slots_long : length (first_slots s) ≡ part_count s
  slots_long = omega (
    arith,
    length-append maps (some (Mem s.start.memory s.start.track) ∷ (shards ++ redists)),
    length-append shards redists,
    length-append confs pends,
    maps_long,
    shards_long,
    confs_long,
    pends_long,
  )

  past_shards : (k : ℕ) (x : Option Content) → get_elem? redists k ≡ some x
      → get_elem? (first_slots s) (translator_count s + 1 + translator_count s * s.shards + k) ≡ some x
  past_shards k x there =
      past maps (some (Mem s.start.memory s.start.track) ∷ (shards ++ redists)) (translator_count s + 1 + translator_count s * s.shards + k)
      (suc (translator_count s * s.shards + k)) x (omega (arith, maps_long))
      (past shards redists (translator_count s * s.shards + k) k x (omega (arith, shards_long)) there)

  first_home : (p : Part) → Stands s p → IsHome s first_word s.start (first_slots s) p
  first_home (part.Maps its) st = record {
    content = Maps (translator s.start its);
    slot = at_longer maps (some (Mem s.start.memory s.start.track) ∷ (shards ++ redists)) its (some (Maps (translator s.start its)))
        (at_map (λ t. some (Maps t)) s.start.translators its (translator s.start its) (some_at s.start.translators its no_translator st));
    right = slice_get-get_or s.start.translators its no_translator st;
  }
  first_home part.Mem st = record {
    content = Mem s.start.memory s.start.track;
    slot = past maps (some (Mem s.start.memory s.start.track) ∷ (shards ++ redists)) (translator_count s) 0 (some (Mem s.start.memory s.start.track))
        (omega (arith, maps_long)) refl;
    right = (refl, refl);
  }
  first_home (part.Shard its n) st = record {
    content = Shard no_entries;
    slot = past maps (some (Mem s.start.memory s.start.track) ∷ (shards ++ redists)) (translator_count s + 1 + (its * s.shards + n)) (suc (its * s.shards + n))
        (some (Shard no_entries)) (omega (arith, maps_long))
        (at_longer shards redists (its * s.shards + n) (some (Shard no_entries)) (copies_at (translator_count s * s.shards) (its * s.shards + n)
        (some (Shard no_entries)) (row_below (translator_count s) s.shards its n st.0 st.1)));
    right = record { shard = empty_shard; entries = λ i e there. absurd (nothing s its n e i there) };
  }
  first_home (part.Conf vcpu) st =
      let inside : vcpu.0 < length s.start.redistributors = omega (arith, st, sound.vcpus) in
      record {
        content = Conf (conf_of (redistributor s.start vcpu.0));
        slot = past_shards vcpu.0 (some (Conf (conf_of (redistributor s.start vcpu.0))))
            (at_longer confs pends vcpu.0 (some (Conf (conf_of (redistributor s.start vcpu.0))))
            (at_map (λ r. some (Conf (conf_of r))) s.start.redistributors vcpu.0 (redistributor s.start vcpu.0)
            (some_at s.start.redistributors vcpu.0 no_redistributor inside)));
        right = seen_there conf_of s.start.redistributors vcpu.0 no_redistributor inside;
      }
  first_home (part.Pend vcpu) st =
      let inside : vcpu.0 < length s.start.redistributors = omega (arith, st, sound.vcpus) in
      let flat : translator_count s + 1 + translator_count s * s.shards + vcpu_count s + vcpu.0
      ≡ translator_count s + 1 + translator_count s * s.shards + (vcpu_count s + vcpu.0) = omega arith in
      record {
        content = Pend (pend_of (redistributor s.start vcpu.0));
        slot = ap (get_elem? (first_slots s)) flat ∙ past_shards (vcpu_count s + vcpu.0) (some (Pend (pend_of (redistributor s.start vcpu.0))))
            (past confs pends (vcpu_count s + vcpu.0) vcpu.0 (some (Pend (pend_of (redistributor s.start vcpu.0)))) (omega (arith, confs_long))
            (at_map (λ r. some (Pend (pend_of r))) s.start.redistributors vcpu.0 (redistributor s.start vcpu.0)
            (some_at s.start.redistributors vcpu.0 no_redistributor inside)));
        right = seen_there pend_of s.start.redistributors vcpu.0 no_redistributor inside;
      }

  -- no turn is taken
  abbrev zeros : ℕ → List ℕ
  zeros n = replicate n 0

  free : (n k : ℕ) → get_or (zeros n) k 0 ≡ 0
  free n k = elim (cases_lt k n) [ inl lt ↦ get_or-replicate n k 0 0 lt | inr le ↦ get_or_past (zeros n) k 0 (omega (arith, le, length-replicate {A = ℕ} n 0)) ]

  one_view : (i : ℕ) (v : View) → get_elem? (first_view s ∷ []) i ≡ some v → (i ≡ 0) × (first_view s ≡ v)
  one_view zero v e = (refl, some-injective (first_view s) v e)
  one_view (suc i) v e = absurd (some-ne-none v (sym e))

  abbrev none_yet : RootView
  none_yet = record { made = 1; ended = [] }

  first_pass : IsPass s [] first_word (replicate (part_count s) 0) (first_slots s) (λ n. n) none_yet 0 (first_view s)
  first_pass = record {
    setup = refl;
    sits = record { seat_is = refl; given = omega arith; present = λ e. e };
    knows = record { seen = ([], refl); told = ([], refl); mine = refl; place = refl; last = λ _. refl };
    holds = record { apart = tt; held = tt };
  }

  first_good : Good s [] (first_world s)
  first_good = record {
    history = record {
      sound = sound;
      legal = tt;
      place = refl;
      within = record { place = omega arith; stamps = λ its lt. omega (arith, stamp_zero (translator_count s) its) };
    };
    seat = λ n. n;
    root = none_yet;
    numbers = record {
      bound = omega arith;
      first = record { view = first_view s; at = refl; passes = refl; is = (refl, refl) };
      each = λ n lt. let z : 0 ≡ n = omega (arith, lt) in inl record {
        view = first_view s;
        at = ap (get_elem? (first_view s ∷ [])) (sym z);
        passes = refl;
        is = z;
      };
      distinct = tt;
      whole = tt;
      calls = tt;
      latest = (0, omega arith, record { view = first_view s; at = refl; passes = refl; is = refl });
    };
    views = λ i v e pv. let o = one_view i v e in subst (λ (x : ℕ × View). IsPass s [] first_word (replicate (part_count s) 0) (first_slots s)
        (λ n. n) none_yet x.0 x.1) (λ d. (sym o.0 d, o.1 d)) first_pass;
    notes = λ i v e nv. absurd (no_pass v nv (ap (λ (x : View). x.standing) (sym (one_view i v e).1)));
    parts = record {
      wide = record { each_turn = length-replicate {A = ℕ} (part_count s) 0; each_slot = slots_long };
      home = λ p st e. first_home p st;
      taken = λ p n st e. absurd (omega (arith, sym e ∙ free (part_count s) (index_of s p)));
    };
  }

pub first : FirstIsGood
first s sound = first_good s sound
