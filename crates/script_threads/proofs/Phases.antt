-- A phase from its parts.
use Rattle.std.proofs.Common.{◌≡◌, ℕ, suc, ◌+◌, ◌<◌, ◌≤◌, List, [], ◌∷◌, ◌++◌, map, take, drop, length, get_or, Option, Some, None, inl, inr, ⊎_elim, refl}
use Rattle.std.proofs.Common.{sym, ap, ◌∙◌, subst, arith}
use Rattle.std.proofs.Math.Seq.{take-append_seam}
use Rattle.std.proofs.lemmas.List.{length-map}
use Rattle.std.specs.Prelude.{IsSome}
use Rattle.std.specs.List.{AllByRecursion}
use Rattle.its_types.specs.declared.machine.Placed.{Placed}
use Rattle.its_types.specs.declared.machine.Word.{Word}
use Rattle.its_plain.specs.History.{IsLegal}
use Rattle.its_plain.specs.Runs.{Phase, IsOfPasses, IsPhase, IsPartOfPhase}
use Rattle.its_plain.specs.declared.call.Entry.{Entry}
use Rattle.its_plain.specs.declared.call.Reply.{Reply}
use Rattle.its_steps.specs.Good.{Ended}
use Rattle.its_steps.specs.Parts.{Setup}
use Rattle.its_steps.specs.World as world
use Rattle.its_steps.specs.World.{View}
use Rattle.its_steps.proofs.Lists.{prefix_length}
use Rattle.its_turns.specs.Machines.{setup, view}
use Rattle.its_turns.specs.Told.{Looks}
use Rattle.its_turns.specs.declared.machine.Machine.{Machine}
use Rattle.script_threads.specs.declared.job.Job.{Job}
use Rattle.script_threads.specs.declared.stop.Stop.{Stop}
use Rattle.script_threads.specs.declared.stop.Stop.TheVariants.{Spent, NoMemory}
use Rattle.script_threads.specs.Jobs.{AreNew, Both, IsFreeJob, IsReady, SeenBy, Worked, call_list, end_of, entries_of, reply_list, worst_from}
use Rattle.script_threads.specs.Phases.{IsCut, IsCutAtMemory, Phased, SomeThread, replies_of}
use Rattle.script_threads.specs.Rests.{Rests}
use Rattle.script_threads.specs.Roots.{Counted, Gave, Knows, TookIn}
use Rattle.script_threads.proofs.Counts.{entries_long, long, long_cut, long_whole}
use Rattle.script_threads.proofs.Grown.{Grown, grown, listed}
use Rattle.script_threads.proofs.Stops.{SomeStopped, SomeStop, NeverStopped, never_stopped, some_stopped, some_stop}
use Rattle.script_threads.proofs.Threads.{HaveEntries, AreWhole, has_first, has_all, replies_are}

-- what a slice of the whole of a list leaves in it
pub written_back : {A : Type 0} (old new : List A) (n : ℕ) → length old ≡ n → length new ≡ length old → take n (new ++ drop (length new) old) ≡ new
written_back old new n is len = ap (λ k. take k (new ++ drop (length new) old)) (sym is ∙ sym len) ∙ take-append_seam new (drop (length new) old)

pub both : {A : Type 0} (R : A → A → Type 0) (xs ys : List A) → length ys ≡ length xs → ((i : ℕ) (d : A) → i < length xs → R (get_or xs i d) (get_or ys i d))
    → Both R xs ys
both R [] [] len f = tt
both R [] (y ∷ ys) len f = absurd (omega arith)
both R (x ∷ xs) [] len f = absurd (omega arith)
both R (x ∷ xs) (y ∷ ys) len f = (f 0 x (omega arith), both R xs ys (omega arith) (λ i d lt. f (suc i) d (omega arith)))

abbrev SameSetup : View → Job → Type 0
SameSetup w j = (view j.pass).setup ≡ w.setup

pub same_setups : (m : Machine) (w : View) (js : List Job) → w.setup ≡ setup m → AllByRecursion (IsReady m) js → AllByRecursion (SameSetup w) js
same_setups m w [] is rs = tt
same_setups m w (j ∷ js) is rs = (rs.0.of.1 ∙ sym is, same_setups m w js is rs.1)

module _ (m : Machine) where
  pub free_after : (js ks : List Job) → Both (Worked m) js ks → AllByRecursion (IsFreeJob m) ks
  free_after [] [] b = tt
  free_after [] (k ∷ ks) b = absurd b
  free_after (j ∷ js) [] b = absurd b
  free_after (j ∷ js) (k ∷ ks) b = ((b.0.of, b.0.ran.free.held), free_after js ks b.1)

  pub length_after : (js ks : List Job) → Both (Worked m) js ks → length ks ≡ length js
  length_after [] [] b = refl
  length_after [] (k ∷ ks) b = absurd b
  length_after (j ∷ js) [] b = absurd b
  length_after (j ∷ js) (k ∷ ks) b = omega (arith, length_after js ks b.1)

  counted_after : (made : ℕ) (js ks : List Job) → AreNew made js → Both (Worked m) js ks → Counted made (map end_of ks)
  counted_after made [] [] new b = tt
  counted_after made [] (k ∷ ks) new b = absurd b
  counted_after made (j ∷ js) [] new b = absurd b
  counted_after made (j ∷ js) (k ∷ ks) new b = (b.0.ran.free.number ∙ new.0, counted_after (suc made) js ks new.2 b.1)

  entries_after : (made n : ℕ) (h : List Entry) (js ks : List Job) → AreNew made js → Both (Worked m) js ks → map (λ (x : ℕ × world.Placed). x.1)
      (map end_of ks) ≡ listed made (length (map end_of ks)) n h
      → HaveEntries made n h (map call_list js) (map reply_list ks)
  entries_after made n h [] [] new b e = tt
  entries_after made n h [] (k ∷ ks) new b e = absurd b
  entries_after made n h (j ∷ js) [] new b e = absurd b
  entries_after made n h (j ∷ js) (k ∷ ks) new b e =
      let mine : (view k.pass).mine ≡ entries_of made j.calls.now k.done.items = b.0.ran.mine
      ∙ (λ d. new.1 d ++ entries_of (new.0 d) j.calls.now k.done.items) in
      (sym (head e) ∙ mine, b.0.ran.most, entries_after (suc made) n h js ks new.2 b.1 (tail e))
    where
      head : {x y : world.Placed} {xs ys : List world.Placed} → x ∷ xs ≡ y ∷ ys → x ≡ y
      head e = cc e

      tail : {x y : world.Placed} {xs ys : List world.Placed} → x ∷ xs ≡ y ∷ ys → xs ≡ ys
      tail e = cc e

  whole_after : (js ks : List Job) → Both (Worked m) js ks → AllByRecursion NeverStopped ks → AreWhole (map call_list js) (map reply_list ks)
  whole_after [] [] b never = tt
  whole_after [] (k ∷ ks) b never = absurd b
  whole_after (j ∷ js) [] b never = absurd b
  whole_after (j ∷ js) (k ∷ ks) b never = (b.0.ran.whole never.0, whole_after js ks b.1 never.1)

  -- a pass that found the places spent had seen as many entries as there can be
  spent_after : (w : View) (js ks : List Job) → Both (Worked m) js ks → AllByRecursion (SameSetup w) js → AllByRecursion (SeenBy w) ks → SomeStopped Spent ks
      → SomeThread IsCut (map call_list js) (map reply_list ks) × (w.setup.limits.place_last ≤ length w.seen)
  spent_after w [] [] b same told t = absurd t
  spent_after w [] (k ∷ ks) b same told t = absurd b
  spent_after w (j ∷ js) [] b same told t = absurd b
  spent_after w (j ∷ js) (k ∷ ks) b same told t = ⊎_elim
      (λ (e : k.stop ≡ Some Spent).
      let last : (view j.pass).setup.limits.place_last ≡ w.setup.limits.place_last = ap (λ (s : Setup). s.limits.place_last) same.0 in
      (inl (b.0.ran.cut (stopped k.stop Spent e)), omega (arith, b.0.ran.spent e, last, prefix_length (view k.pass).seen w.seen told.0)))
      (λ (e : SomeStopped Spent ks). let r = spent_after w js ks b.1 same.1 told.1 e in (inr r.0, r.1)) t
    where
      stopped : (o : Option Stop) (s : Stop) → o ≡ Some s → IsSome o
      stopped None s e = absurd (cc e)
      stopped (Some x) s e = refl

  cut_after : (js ks : List Job) → Both (Worked m) js ks → SomeStop ks → SomeThread IsCut (map call_list js) (map reply_list ks)
  cut_after [] [] b t = absurd t
  cut_after [] (k ∷ ks) b t = absurd b
  cut_after (j ∷ js) [] b t = absurd b
  cut_after (j ∷ js) (k ∷ ks) b t = ⊎_elim (λ (e : IsSome k.stop). inl (b.0.ran.cut e)) (λ (e : SomeStop ks). inr (cut_after js ks b.1 e)) t

  memory_after : (js ks : List Job) → Both (Worked m) js ks → SomeStopped NoMemory ks → SomeThread IsCutAtMemory (map call_list js) (map reply_list ks)
  memory_after [] [] b t = absurd t
  memory_after [] (k ∷ ks) b t = absurd b
  memory_after (j ∷ js) [] b t = absurd b
  memory_after (j ∷ js) (k ∷ ks) b t = ⊎_elim (λ (e : k.stop ≡ Some NoMemory). inl (b.0.ran.memory e))
      (λ (e : SomeStopped NoMemory ks). inr (memory_after js ks b.1 e)) t

  pub phased : (threads : Phase) (lists : List (List (Placed Reply))) (stop : Option Stop) (v u w : View) (js ks : List Job) → Rests v → Knows v
      → Gave v (length threads) u → map call_list js ≡ threads → AreNew v.root.made js
      → Both (Worked m) js ks → TookIn u (map end_of ks) w → lists ≡ map reply_list ks → stop ≡ worst_from None ks
      → AllByRecursion (SameSetup w) js → AllByRecursion (SeenBy w) ks → Phased v threads lists stop w
  phased threads lists stop v u w js ks rests knew gave calls new worked took lines is same told =
      let xs : Ended = map end_of ks in
      let count : length xs ≡ length threads = length-map ks end_of ∙ (length_after js ks worked ∙ (sym (length-map js call_list) ∙ ap length calls)) in
      let g : Grown v xs w = grown v u w xs rests knew (gave.number ∙ rests.lone.0) (gave.held ∙ rests.held) (gave.made ∙ ap (λ n. v.root.made + n) (sym count))
      gave.mine gave.ended gave.longer (gave.knows knew rests.lone.0) took
      (counted_after v.root.made js ks new worked) in
      let setup_is : w.setup ≡ v.setup = took.setup ∙ gave.setup in
      let last : w.setup.limits.place_last ≡ v.setup.limits.place_last = ap (λ (s : Setup). s.limits.place_last) setup_is in
      let only : AllByRecursion (IsOfPasses v.root.made (length threads)) g.more = subst (λ (n : ℕ). AllByRecursion (IsOfPasses v.root.made n) g.more) count
      g.only in
      let put : (P : Phase → List (List (Placed Reply)) → Type 0) → P (map call_list js) (map reply_list ks) → P threads lists = λ P p.
      subst (λ (z : Phase × List (List (Placed Reply))). P z.0 z.1) (λ d. (calls d, sym lines d)) p in
      let have : HaveEntries v.root.made (length v.seen) g.more threads lists = put (HaveEntries v.root.made (length v.seen) g.more)
      (entries_after v.root.made (length v.seen) g.more js ks new worked g.lists) in
      let lists_is : lists ≡ replies_of v.root.made (length threads) (length v.seen) g.more = replies_are v.root.made (length v.seen) g.more threads lists
      have in
      let long_is : length g.more ≡ long lists = entries_long v.root.made (length threads) (length v.seen) g.more only ∙ ap long (sym lists_is) in
      record {
        rests = g.rests;
        setup = setup_is;
        made = took.made ∙ gave.made;
        legal = subst (λ (s : Setup). IsLegal s.start w.seen) setup_is g.knows.legal;
        more = g.more;
        seen = g.seen;
        part = record { only = only; calls = has_first v.root.made (length v.seen) g.more threads lists have };
        whole = λ none. record {
          only = only;
          calls = has_all v.root.made (length v.seen) g.more threads lists have
              (put AreWhole (whole_after js ks worked (never_stopped ks (sym is ∙ none))));
        };
        lists_are = lists_is;
        fits = omega (arith, g.knows.within, last);
        all = λ none. long_is ∙ long_whole threads lists (put AreWhole (whole_after js ks worked (never_stopped ks (sym is ∙ none))));
        short = λ some. omega (
          arith,
          long_is,
          long_cut v.root.made (length v.seen) g.more threads lists have
              (put (SomeThread IsCut) (cut_after js ks worked (some_stop ks (subst (λ (o : Option Stop). IsSome o) is some)))),
        );
        spent = λ e. let r = spent_after w js ks worked same told (some_stopped ks Spent (sym is ∙ e)) in (
          put (SomeThread IsCut) r.0,
          omega
              (arith, r.1, g.knows.within, last),
        );
        memory = λ e. put (SomeThread IsCutAtMemory) (memory_after js ks worked (some_stopped ks NoMemory (sym is ∙ e)));
      }

-- the root looked first
pub phased_before : (threads : Phase) (lists : List (List (Placed Reply))) (stop : Option Stop) (v b w : View) (word : Word) → Rests v → Looks v word b
    → Phased b threads lists stop w → Phased v threads lists stop w
phased_before threads lists stop v b w word rests looks p =
    let made : b.root.made ≡ v.root.made = ap (λ (x : View). x.root.made) looks.same in
    let seen : b.seen ≡ v.seen = looks.still rests.lone in
    let same : b.setup ≡ v.setup = ap (λ (x : View). x.setup) looks.same in record {
      rests = p.rests;
      setup = p.setup ∙ same;
      made = p.made ∙ ap (λ n. n + length threads) made;
      legal = subst (λ (s : Setup). IsLegal s.start w.seen) same p.legal;
      more = p.more;
      seen = p.seen ∙ ap (λ z. z ++ p.more) seen;
      part = subst (λ (n : ℕ). IsPartOfPhase n threads p.more) made p.part;
      whole = λ none. subst (λ (n : ℕ). IsPhase n threads p.more) made (p.whole none);
      lists_are = p.lists_are ∙ (λ d. replies_of (made d) (length threads) (length (seen d)) p.more);
      fits = subst (λ (s : Setup). length w.seen ≤ s.limits.place_last) same p.fits;
      all = p.all;
      short = p.short;
      spent = λ e. let r = p.spent e in (r.0, r.1 ∙ ap (λ (s : Setup). s.limits.place_last) same);
      memory = p.memory;
    }
