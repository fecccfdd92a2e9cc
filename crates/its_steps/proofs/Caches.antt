-- Shards stay right: what a commit leaves in those held, and what every other one has.
use Rattle.std.proofs.Common.{◌≡◌, ◌⊎◌, ℕ, ◌<◌, Bool, true, false, eqb, cond, List, [], length, get_or, Option, Some, None, Ok, refl, ap, sym, ◌∙◌, subst}
use Rattle.std.proofs.Common.{inl}
use Rattle.std.proofs.Common.{inr, ⊎_elim, arith, eq-eqb}
use Rattle.std.specs.List.{AllByRecursion}
use Rattle.std.specs.Cmp.Derive.{both_true}
use Rattle.std.proofs.lemmas.Bool.{both_ways, eqb-true}
use Rattle.std.proofs.lemmas.Option.{get_or_from_slice_get}
use Rattle.its_types.specs.Ranges.{is_lpi}
use Rattle.its_types.specs.declared.ids.DeviceId.{DeviceId}
use Rattle.its_types.specs.declared.ids.EventId.{EventId}
use Rattle.its_types.specs.declared.ids.Target.{Target}
use Rattle.its_types.specs.declared.machine.Part.{Part}
use Rattle.its_types.specs.declared.machine.Part.TheVariants as part
use Rattle.its_types.specs.declared.machine.Word.{Word}
use Rattle.its_plain.specs.Answer.{left, answer}
use Rattle.its_plain.specs.Parts.{conf, pend}
use Rattle.its_plain.specs.Plain.{Plain, Translator, PendState, translator, redistributor, no_translator, no_redistributor, conf_of, pend_of, is_on}
use Rattle.its_plain.specs.declared.layout.Layout.{Layout}
use Rattle.its_plain.specs.Translation.{located, translated}
use Rattle.its_plain.specs.declared.call.Call.{Call}
use Rattle.plain_footprint.proofs.Listed.{same_or, seen_or}
use Rattle.plain_soundness.proofs.States.{IsLpi}
use Rattle.plain_soundness.proofs.Translated.{if_ok_at, goes_to_lpi}
use Rattle.xlate_cache.specs.Pairs.{shard_number}
use Rattle.xlate_cache.specs.Ways.{entry, is_of, filled, dropped, no_entries, IsShard}
use Rattle.xlate_cache.specs.declared.entry.Entry.{Entry as Translation}
use Rattle.xlate_cache.proofs.Founds.{dropped_kept}
use Rattle.xlate_cache.proofs.Lawful.{filled_lawful}
use Rattle.xlate_cache.proofs.Sets.{none_at, empty_shard, dropped_shard}
use Rattle.its_steps.specs.Parts.{Setup, IsOfMachine, translator_count, vcpu_count, stamp_of, IsCached, IsCache, Right}
use Rattle.its_steps.specs.Contents.{Content, Maps, Shard, Held}
use Rattle.its_steps.specs.Good.{Holds, Apart}
use Rattle.its_steps.specs.MayCommit.{IsRight}
use Rattle.its_steps.specs.MayCall.{Owes, MayFill, MayChange, IsWithout, IsSteady, AreSteady, IsFill, HasFillsAlone, StampStays, StampRises, StampRenews}
use Rattle.its_steps.specs.MayCall.{MayCall}
use Rattle.its_steps.specs.World.{word_after}
use Rattle.its_steps.specs.Renewal.{assembled, its_of, is_shard_of, changed, content_in, renewed}
use Rattle.its_steps.specs.declared.change.ShardChange.{ShardChange}
use Rattle.its_steps.specs.declared.change.ShardChange.TheVariants as change
use Rattle.its_steps.specs.declared.commit.Commit.{Commit}
use Rattle.its_steps.proofs.Assembled.{holds_or_not}
use Rattle.its_steps.proofs.Does.{Does, does}
use Rattle.its_steps.proofs.Found.{both_of}
use Rattle.its_steps.proofs.Helds.{holds_same, same_apart}
use Rattle.its_steps.proofs.Machines.{next_of}
use Rattle.its_steps.proofs.Owed.{owes_holds, owes_once, owes_all, same_renewed, owes_renewed, steady_at}
use Rattle.its_steps.proofs.Translations.{translated_is, translated_from, on_within}

abbrev ways_in : Content → List (Option Translation)
ways_in (Shard ways) = ways
ways_in c = []

if_shard : (b : Bool) (xs ys : List (Option Translation)) → IsShard xs → IsShard ys → IsShard (cond b xs ys)
if_shard true xs ys x y = x
if_shard false xs ys x y = y

module _ (s : Setup) (a : Commit) (held : List Held) (may : MayCall s a held) (u : Plain) (m : IsOfMachine s u)
    (right : AllByRecursion (IsRight s a.expected u) held) where
  abbrev to : Word
  to = word_after a

  abbrev c : Call
  c = a.call

  abbrev before : Plain
  before = left (assembled s held) c a.reply

  abbrev u' : Plain
  u' = (answer u c).1

  abbrev owed : List Held
  owed = renewed s a before held

  pub d : Does s a held u
  d = does s a held may.stands may.apart u m right may.answered

  pub m' : IsOfMachine s u'
  m' = next_of s u c m

  pub vcpus : (z : Plain) → IsOfMachine s z → length z.redistributors ≡ vcpu_count s
  vcpus z n = n.sound.vcpus ∙ ap (λ (l : Layout). l.shape.vcpus) (sym n.layout)

  -- ---- what the state has after the call

  pub translator_held : (its : ℕ) → Holds (part.Maps its) held → translator before its ≡ translator u' its
  translator_held its h = same_or before.translators u'.translators its no_translator (d.held_same (part.Maps its) h)

  pub conf_held : (v : ℕ) → Holds (conf v) held → conf_of (redistributor before v) ≡ conf_of (redistributor u' v)
  conf_held v h = seen_or conf_of before.redistributors u'.redistributors v no_redistributor (d.held_same (conf v) h)

  pub pend_held : (v : ℕ) → Holds (pend v) held → pend_of (redistributor before v) ≡ pend_of (redistributor u' v)
  pend_held v h = seen_or pend_of before.redistributors u'.redistributors v no_redistributor (d.held_same (pend v) h)

  translator_other : (its : ℕ) → ¬ Holds (part.Maps its) held → translator u its ≡ translator u' its
  translator_other its n = same_or u.translators u'.translators its no_translator (d.others_same (part.Maps its) n)

  -- ---- where the maps send pairs stays

  maps_steady : (its : ℕ) (x : Content) → Right s a.expected u (part.Maps its) x → IsSteady s its owed (part.Maps its) x
      (content_in s a before (part.Maps its) x)
      → (dev ev : ℕ) (t : Target) → located (translator u its) dev ev ≡ Ok t → (located (translator before its) dev ev ≡ Ok t) ⊎ IsWithout s its dev ev owed
  maps_steady its (Maps x) is steady dev ev t e =
      let same : translator u its ≡ x = get_or_from_slice_get u.translators its x no_translator is in
      steady refl dev ev t (subst (λ (y : Translator). located y dev ev ≡ Ok t) same e)
  maps_steady its x is steady dev ev t e = absurd is

  still_located : (its : ℕ) → its < translator_count s → AreSteady s its owed held owed → (dev ev : ℕ) (t : Target) → located (translator u its) dev ev ≡ Ok t
      → (located (translator u' its) dev ev ≡ Ok t) ⊎ IsWithout s its dev ev owed
  still_located its lt steady dev ev t e = ⊎_elim
      (λ (h : Holds (part.Maps its) held).
      let x = steady_at s a before a.expected u its owed held steady right (part.Maps its) h in
      ⊎_elim (λ (y : located (translator before its) dev ev ≡ Ok t). inl (subst (λ (z : Translator). located z dev ev ≡ Ok t) (translator_held its h) y))
      (λ y. inr y) (maps_steady its x.0 x.1 x.2 dev ev t e))
      (λ (n : ¬ Holds (part.Maps its) held). inl (subst (λ (z : Translator). located z dev ev ≡ Ok t) (translator_other its n) e))
      (holds_or_not s (part.Maps its) lt held may.stands)

  -- ---- entries

  -- what a fill puts in is where the maps send the pair after the call
  filled_is : (its n : ℕ) (dev : DeviceId) (ev : EventId) (t : Target) → MayFill s c before held dev ev t → its ≡ its_of c
      → shard_number dev.0 ev.0 s.shards ≡ n → IsCached s to u' its n (entry dev ev (stamp_of s to its) t)
  filled_is its n dev ev t f is here =
      let x = translated_is before (its_of c) dev.0 ev.0 t f.agrees in
      let sent : located (translator u' (its_of c)) dev.0 ev.0 ≡ Ok t =
      subst (λ (z : Translator). located z dev.0 ev.0 ≡ Ok t) (translator_held (its_of c) f.maps) x.0 in
      let on : is_on u' t.vcpu.0 ≡ true = ap (λ (y : PendState). y.accepts) (sym (pend_held t.vcpu.0 f.pend)) ∙ x.1 in
      let good = if_ok_at (λ (z : Target). IsLpi u' z.intid.0 × (is_on u' z.vcpu.0 ≡ true)) (translated u' (its_of c) dev.0 ev.0) t
      (goes_to_lpi u' (its_of c) dev.0 ev.0 m'.sound) (translated_from u' (its_of c) dev.0 ev.0 t sent on) in
      record {
        shard = here;
        stamp = omega arith;
        vcpu = let within = on_within u' t.vcpu.0 on in omega (arith, within, vcpus u' m');
        lpi = ap (λ (l : Layout). is_lpi l.shape.lpi_bits t.intid.0) m'.layout ∙ good.0;
        current = λ _. subst (λ (i : ℕ). located (translator u' i) dev.0 ev.0 ≡ Ok t) (sym is) sent;
      }

  fill_is : (x : ShardChange) → MayChange s c x before held → (its n : ℕ) (e : Translation) → IsFill s to c x its e → shard_number e.dev.0 e.ev.0 s.shards ≡ n
      → IsCached s to u' its n e
  fill_is (change.Fill dev ev t) f its n e is here = subst (IsCached s to u' its n) (sym is.1)
      (filled_is its n dev ev t f is.0 (ap (λ (y : Translation). shard_number y.dev.0 y.ev.0 s.shards) (sym is.1) ∙ here))
  fill_is x f its n e is here = absurd is

  is_fill : (its n : ℕ) (e : Translation) → IsFill s to c a.change its e → shard_number e.dev.0 e.ev.0 s.shards ≡ n → IsCached s to u' its n e
  is_fill its n e is here = fill_is a.change may.may_change its n e is here

  -- an entry that was there, where its pair's may not be gone
  old_is : (its n : ℕ) (e : Translation) → its < translator_count s → IsCached s a.expected u its n e → ¬ IsWithout s its e.dev.0 e.ev.0 owed
      → (StampRenews s a its held owed → IsCached s to u' its n e) → IsCached s to u' its n e
  old_is its n e lt old kept renews = ⊎_elim
      (λ (t : StampStays s a its held owed). record {
        shard = old.shard;
        stamp = omega (arith, old.stamp, t.same);
        vcpu = old.vcpu;
        lpi = old.lpi;
        current = λ is. ⊎_elim (λ (y : located (translator u' its) e.dev.0 e.ev.0 ≡ Ok e.target). y) (λ (w : IsWithout s its e.dev.0 e.ev.0 owed). absurd
            (kept w))
            (still_located its lt t.steady e.dev.0 e.ev.0 e.target (old.current (is ∙ t.same)));
      })
      (λ rest. ⊎_elim
      (λ (t : StampRises s a its held). record {
        shard = old.shard;
        stamp = omega (arith, old.stamp, t.next);
        vcpu = old.vcpu;
        lpi = old.lpi;
        current = λ is. absurd (omega (arith, is, old.stamp, t.next));
      })
      renews rest)
      (may.stamps its lt)

  -- ---- shards

  apart_owed : Apart owed
  apart_owed = same_apart held owed (same_renewed s a before held may.out) may.apart

  owed_held : (p : Part) → Holds p owed → Holds p held
  owed_held p h = holds_same p held owed (same_renewed s a before held may.out) h

  changed_shard : (x : ShardChange) (its n : ℕ) (ways : List (Option Translation)) → IsShard ways → IsShard (changed s to c x its n ways)
  unfolding changed
  changed_shard change.Keep its n ways h = h
  changed_shard (change.Fill dev ev t) its n ways h = if_shard (is_shard_of s c dev ev its n) (filled ways (entry dev ev (stamp_of s to its) t)) ways
      (filled_lawful ways (entry dev ev (stamp_of s to its) t) h).shard h
  changed_shard (change.Drop dev ev) its n ways h = if_shard (is_shard_of s c dev ev its n) (dropped ways dev.0 ev.0) ways (dropped_shard ways dev.0 ev.0 h) h
  changed_shard change.Empty its n ways h = if_shard (eqb its (its_of c)) no_entries ways empty_shard h

  abbrev Comes : ShardChange → ℕ → ℕ → List (Option Translation) → Translation → Type 0
  Comes x its n ways e = (IsFill s to c x its e × (shard_number e.dev.0 e.ev.0 s.shards ≡ n)) ⊎ ((k : ℕ) × (get_or ways k None ≡ Some e))

  changed_entry : (x : ShardChange) (its n : ℕ) (ways : List (Option Translation)) → IsShard ways → (i : ℕ) (e : Translation)
      → get_or (changed s to c x its n ways) i None ≡ Some e → Comes x its n ways e
  unfolding changed
  changed_entry change.Keep its n ways h i e there = inr (i, there)
  changed_entry (change.Fill dev ev t) its n ways h i e there = at (is_shard_of s c dev ev its n) refl there
    where
      new : Translation
      new = entry dev ev (stamp_of s to its) t

      at : (b : Bool) → is_shard_of s c dev ev its n ≡ b → get_or (cond b (filled ways (entry dev ev (stamp_of s to its) t)) ways) i None ≡ Some e
          → Comes (change.Fill dev ev t) its n ways e
      at false is there = inr (i, there)
      at true is there =
          let tests = both_of (eqb its (its_of c)) (eqb n (shard_number dev.0 ev.0 s.shards)) is in
          ⊎_elim
          (λ (f : e ≡ entry dev ev (stamp_of s to its) t).
          inl (
            (eqb-true its (its_of c) tests.0, f),
            (ap (λ (y : Translation). shard_number y.dev.0 y.ev.0 s.shards) f
                ∙ sym (eqb-true n (shard_number dev.0 ev.0 s.shards) tests.1)),
          ))
          (λ (o : get_or ways i None ≡ Some e). inr (i, o))
          ((filled_lawful ways (entry dev ev (stamp_of s to its) t) h).entries i e there)
  changed_entry (change.Drop dev ev) its n ways h i e there = at (is_shard_of s c dev ev its n) there
    where
      at : (b : Bool) → get_or (cond b (dropped ways dev.0 ev.0) ways) i None ≡ Some e → Comes (change.Drop dev ev) its n ways e
      at false there = inr (i, there)
      at true there = inr (i, (dropped_kept dev.0 ev.0 ways i e there).0)
  changed_entry change.Empty its n ways h i e there = at (eqb its (its_of c)) there
    where
      none_some : None ≡ Some e → ⊥
      none_some t = cc

      at : (b : Bool) → get_or (cond b no_entries ways) i None ≡ Some e → Comes change.Empty its n ways e
      at false there = inr (i, there)
      at true there = absurd (none_some (sym (none_at i) ∙ there))

  is_own : (e : Translation) → is_of e.dev.0 e.ev.0 (Some e) ≡ true
  is_own e = both_true (eq-eqb e.dev.0 e.dev.0 refl) (eq-eqb e.ev.0 e.ev.0 refl)

  pub cache_held : (its n : ℕ) (ways : List (Option Translation)) → its < translator_count s → Owes (part.Shard its n) (Shard ways) held
      → IsCache s a.expected u its n ways → IsCache s to u' its n (changed s to c a.change its n ways)
  cache_held its n ways lt owes h =
      let ways' : List (Option Translation) = changed s to c a.change its n ways in
      let own : Owes (part.Shard its n) (Shard ways') owed = owes_renewed s a before (part.Shard its n) (Shard ways) held owes in
      let is_kept : (i : ℕ) (e : Translation) → get_or ways' i None ≡ Some e → shard_number e.dev.0 e.ev.0 s.shards ≡ n
      → ¬ IsWithout s its e.dev.0 e.ev.0 owed = λ i e there here w.
      let other : Owes (part.Shard its n) (Shard w.ways) owed = subst (λ (k : ℕ). Owes (part.Shard its k) (Shard w.ways) owed) here w.owes in
      let same : w.ways ≡ ways' = ap ways_in (owes_once (part.Shard its n) (Shard w.ways) (Shard ways') owed apart_owed other own) in
      both_ways (is_of e.dev.0 e.ev.0 (Some e)) (ap (is_of e.dev.0 e.ev.0) (sym there)
      ∙ (ap (λ (ws : List (Option Translation)). is_of e.dev.0 e.ev.0 (get_or ws i None)) (sym same) ∙ w.none i)) (is_own e) in
      record {
        shard = changed_shard a.change its n ways h.shard;
        entries = λ i e there. ⊎_elim
            (λ (f : IsFill s to c a.change its e × (shard_number e.dev.0 e.ev.0 s.shards ≡ n)). is_fill its n e f.0 f.1)
            (λ (o : (k : ℕ) × (get_or ways k None ≡ Some e)).
            let old = h.entries o.0 e o.1 in
            old_is its n e lt old (is_kept i e there old.shard)
            (λ t. is_fill its n e (owes_all (HasFillsAlone s to c a.change its) (part.Shard its n) (Shard ways') owed own t.fills refl i e there) old.shard))
            (changed_entry a.change its n ways h.shard i e there);
      }

  pub cache_other : (its n : ℕ) (ways : List (Option Translation)) → its < translator_count s → n < s.shards → ¬ Holds (part.Shard its n) held
      → IsCache s a.expected u its n ways → IsCache s to u' its n ways
  cache_other its n ways lt ln lacks h = record {
    shard = h.shard;
    entries = λ i e there.
        let old = h.entries i e there in
        old_is its n e lt old
        (λ w. lacks (owed_held (part.Shard its n) (subst (λ (k : ℕ). Holds (part.Shard its k) owed) old.shard
        (owes_holds (part.Shard its (shard_number e.dev.0 e.ev.0 s.shards)) (Shard w.ways) owed w.owes))))
        (λ t. absurd (lacks (t.shards n ln)));
  }
