-- A save needs all maps, memory, and all redistributors.
use Rattle.std.proofs.Common.{◌≡◌, ◌⊎◌, ℕ, zero, suc, ◌<◌, List, [], ◌∷◌, ◌++◌, length, Result, Ok, Err, refl, ap, sym, ◌∙◌, subst, inl, inr, ⊎_elim, arith}
use Rattle.std.specs.List.{AllByRecursion}
use Rattle.std.proofs.lemmas.Option.{slice_get-get_or}
use mathlib.Core.Logic.{dite}
use native.Mathlib.Decide.{ℕ_discrete}
use Rattle.its_types.specs.declared.machine.Part.{Part}
use Rattle.its_types.specs.declared.machine.Part.TheVariants as part
use Rattle.its_types.specs.declared.machine.Word.{Word}
use Rattle.its_plain.specs.Answer.{reply_of, left, save_left, save_reply}
use Rattle.its_plain.specs.Parts.{footprint, conf, pend, confs_below, pends_below, translators_below}
use Rattle.its_plain.specs.Plain.{Plain, translator, redistributor, conf_of, pend_of, no_translator, no_redistributor}
use Rattle.its_plain.specs.Regions.{savable}
use Rattle.its_plain.specs.declared.call.Call.TheVariants as call
use Rattle.its_plain.specs.declared.call.Reply.{Reply}
use Rattle.its_plain.specs.declared.fault.SaveFault.{SaveFault}
use Rattle.its_plain.specs.declared.layout.Layout.{Layout}
use Rattle.its_steps.specs.Calls.{staying, each_held, maps_held, confs_held, pends_held, whole_held, SaveMayCommit}
use Rattle.its_steps.specs.Contents.{Content, Maps, Mem, Conf, Pend, Held}
use Rattle.its_steps.specs.Good.{Holds, Apart}
use Rattle.its_steps.specs.MayCall.{Covers}
use Rattle.its_steps.specs.MayCommit.{IsOut}
use Rattle.its_steps.specs.Parts.{Setup, Stands, Has, IsOfMachine, vcpu_count}
use Rattle.its_steps.specs.Renewal.{content_in, renewed}
use Rattle.its_steps.specs.States.{IsReady}
use Rattle.its_steps.specs.World.{out}
use Rattle.its_steps.specs.declared.change.ShardChange.TheVariants as change
use Rattle.its_steps.specs.declared.commit.Commit.{Commit}
use Rattle.its_steps.proofs.Lists.{all_snoc, seen_there}
use Rattle.its_steps.proofs.Stamping.{calm_in}

-- ---- parts of one kind, each got after the one before it

module _ (part_at : ℕ → Part) (content_at : ℕ → Content) where
  abbrev row : ℕ → List Held → List Held
  row n rest = each_held part_at content_at n rest

  pub row_all : (P : Held → Type 0) (n : ℕ) (rest : List Held) → ((i : ℕ) → i < n → P (out (part_at i) (content_at i))) → AllByRecursion P rest
      → AllByRecursion P (row n rest)
  row_all P zero rest f ps = ps
  row_all P (suc n) rest f ps = (f n (omega arith), row_all P n rest (λ i lt. f i (omega (arith, lt))) ps)

  -- one held is of the row, or of the rest
  pub row_held : (n : ℕ) (rest : List Held) (p : Part) → Holds p (row n rest) → ((i : ℕ) × (i < n) × (part_at i ≡ p)) ⊎ Holds p rest
  row_held zero rest p h = inr h
  row_held (suc n) rest p (inl e) = inl (n, omega arith, e)
  row_held (suc n) rest p (inr h) = ⊎_elim (λ (t : (i : ℕ) × (i < n) × (part_at i ≡ p)). inl (t.0, (let lt = t.1 in omega (arith, lt)), t.2))
      (λ (t : Holds p rest). inr t) (row_held n rest p h)

  pub row_rest : (n : ℕ) (rest : List Held) (p : Part) → Holds p rest → Holds p (row n rest)
  row_rest zero rest p h = h
  row_rest (suc n) rest p h = inr (row_rest n rest p h)

  pub row_there : (n : ℕ) (rest : List Held) (i : ℕ) → i < n → Holds (part_at i) (row n rest)
  row_there zero rest i lt = absurd (omega (arith, lt))
  row_there (suc n) rest i lt = dite (ℕ_discrete n i) (λ e. inl (ap part_at e)) (λ ne. inr (row_there n rest i (omega (arith, lt, ne))))

  -- where parts of the kind have numbers of their own, and the rest has none of the kind
  pub row_apart : (number : Part → ℕ) → ((i : ℕ) → number (part_at i) ≡ i) → (n : ℕ) (rest : List Held) → ((i : ℕ) → ¬ Holds (part_at i) rest) → Apart rest
      → Apart (row n rest)
  row_apart number is zero rest none apart = apart
  row_apart number is (suc n) rest none apart = (
    (λ h. ⊎_elim
        (λ (r : (i : ℕ) × (i < n) × (part_at i ≡ part_at n)). let same : r.0 ≡ n = sym (is r.0) ∙ (ap number r.2 ∙ is n) in absurd (omega (arith, r.1, same)))
        (λ (t : Holds (part_at n) rest). none n t) (row_held n rest (part_at n) h)),
    row_apart number is n rest none apart,
  )

  -- what they owe after a commit
  pub row_renewed : (s : Setup) (a : Commit) (z : Plain) (after : ℕ → Content) → ((i : ℕ) → content_in s a z (part_at i) (content_at i) ≡ after i)
      → (n : ℕ) (rest : List Held) → renewed s a z (row n rest) ≡ each_held part_at after n (renewed s a z rest)
  row_renewed s a z after is zero rest = refl
  row_renewed s a z after is (suc n) rest = λ d. out (part_at n) (is n d) ∷ row_renewed s a z after is n rest d

-- a list of parts that is one longer each time
module _ (P : Part → Type 0) (part_at : ℕ → Part) (below : ℕ → List Part) (none : below 0 ≡ []) (more : (n : ℕ) → below (suc n) ≡ below n ++ part_at n ∷ [])
  where
    pub each_below : (n : ℕ) → ((i : ℕ) → i < n → P (part_at i)) → AllByRecursion P (below n)
    each_below zero f = subst (AllByRecursion P) (sym none) tt
    each_below (suc n) f =
        subst (AllByRecursion P) (sym (more n))
        (all_snoc P (below n) (part_at n) (each_below n (λ i lt. f i (omega (arith, lt)))) (f n (omega arith)))

all_append : (P : Part → Type 0) (xs ys : List Part) → AllByRecursion P xs → AllByRecursion P ys → AllByRecursion P (xs ++ ys)
all_append P [] ys ps qs = qs
all_append P (x ∷ xs) ys ps qs = (ps.0, all_append P xs ys ps.1 qs)

-- ---- the three rows

abbrev number_of : Part → ℕ
number_of (part.Maps its) = its
number_of (part.Conf vcpu) = vcpu.0
number_of (part.Pend vcpu) = vcpu.0
number_of p = 0

abbrev maps_at : ℕ → Part
maps_at its = part.Maps its

module _ (u : Plain) where
  abbrev map_content : ℕ → Content
  map_content i = Maps (translator u i)

  abbrev conf_content : ℕ → Content
  conf_content i = Conf (conf_of (redistributor u i))

  abbrev pend_content : ℕ → Content
  pend_content i = Pend (pend_of (redistributor u i))

  abbrev ts : ℕ
  ts = length u.translators

  abbrev rs : ℕ
  rs = length u.redistributors

  abbrev mem : Held
  mem = out part.Mem (Mem u.memory u.track)

  abbrev with_mem : List Held
  with_mem = mem ∷ maps_held u ts

  abbrev with_confs : List Held
  with_confs = confs_held u rs with_mem

  pub all_whole : (P : Held → Type 0) → ((i : ℕ) → i < ts → P (out (part.Maps i) (map_content i))) → P mem
      → ((i : ℕ) → i < rs → P (out (conf i) (conf_content i))) → ((i : ℕ) → i < rs → P (out (pend i) (pend_content i))) → AllByRecursion P (whole_held u)
  all_whole P f m g h =
      row_all pend pend_content P rs with_confs h
      (row_all conf conf_content P rs with_mem g (m, row_all maps_at map_content P ts [] f tt))

  no_mem : ¬ Holds part.Mem (maps_held u ts)
  no_mem h = ⊎_elim (λ (r : (i : ℕ) × (i < ts) × (part.Maps i ≡ part.Mem)). cc (r.2)) (λ (t : ⊥). t) (row_held maps_at map_content ts [] part.Mem h)

  no_conf : (i : ℕ) → ¬ Holds (conf i) with_mem
  no_conf i (inl e) = cc
  no_conf i (inr h) = ⊎_elim (λ (r : (j : ℕ) × (j < ts) × (part.Maps j ≡ conf i)). cc (r.2)) (λ (t : ⊥). t) (row_held maps_at map_content ts [] (conf i) h)

  no_pend : (i : ℕ) → ¬ Holds (pend i) with_confs
  no_pend i h = ⊎_elim (λ (r : (j : ℕ) × (j < rs) × (conf j ≡ pend i)). cc (r.2)) (λ (t : Holds (pend i) with_mem). not_behind t)
      (row_held conf conf_content rs with_mem (pend i) h)
    where
      not_behind : ¬ Holds (pend i) with_mem
      not_behind (inl e) = cc
      not_behind (inr t) = ⊎_elim (λ (r : (j : ℕ) × (j < ts) × (part.Maps j ≡ pend i)). cc (r.2)) (λ (t : ⊥). t) (row_held maps_at map_content ts [] (pend i) t)

  pub whole_apart : Apart (whole_held u)
  whole_apart =
      row_apart pend pend_content number_of (λ i. refl) rs with_confs no_pend
      (row_apart conf conf_content number_of (λ i. refl) rs with_mem no_conf
      (no_mem, row_apart maps_at map_content number_of (λ i. refl) ts [] (λ i h. h) tt))

  abbrev IsHeld : Part → Type 0
  IsHeld p = Holds p (whole_held u)

  -- each part of the call is held
  pub whole_covers : Covers u call.Save (whole_held u)
  unfolding footprint
  whole_covers = (
    up part.Mem (inl refl),
    all_append IsHeld (translators_below ts ++ confs_below rs) (pends_below rs)
        (all_append IsHeld (translators_below ts) (confs_below rs)
        (each_below IsHeld maps_at translators_below refl (λ n. refl) ts (λ i lt. up (maps_at i) (inr (row_there maps_at map_content ts [] i lt))))
        (each_below IsHeld conf confs_below refl (λ n. refl) rs
        (λ i lt. row_rest pend pend_content rs with_confs (conf i) (row_there conf conf_content rs with_mem i lt))))
        (each_below IsHeld pend pends_below refl (λ n. refl) rs (row_there pend pend_content rs with_confs)),
  )
    where
      up : (p : Part) → Holds p with_mem → Holds p (whole_held u)
      up p h = row_rest pend pend_content rs with_confs p (row_rest conf conf_content rs with_mem p h)

-- ---- what is left

-- a save leaves as many of all
same_count : (u : Plain) (r : Result (Unit {0}) SaveFault) → let z : Plain = save_left u r in (length u.translators ≡ length z.translators)
    × (length u.redistributors ≡ length z.redistributors)
same_count u (Ok done) = (refl, refl)
same_count u (Err fault) = (refl, refl)

abbrev redists_of : Plain → ℕ → List Held → List Held
redists_of z n rest = pends_held z n (confs_held z n rest)

whole_renewed : (s : Setup) (a : Commit) (u : Plain) (r : Result (Unit {0}) SaveFault) → renewed s a (save_left u r) (whole_held u) ≡ whole_held (save_left u r)
whole_renewed s a u r =
    let z : Plain = save_left u r in
    let k = same_count u r in
    let maps_now : renewed s a z (maps_held u (length u.translators)) ≡ maps_held z (length u.translators) =
    row_renewed maps_at (map_content u) s a z (map_content z) (λ i. refl) (length u.translators) [] in
    row_renewed pend (pend_content u) s a z (pend_content z) (λ i. refl) (length u.redistributors) (with_confs u)
    ∙ (ap (pends_held z (length u.redistributors)) (row_renewed conf (conf_content u) s a z (conf_content z) (λ i. refl) (length u.redistributors) (with_mem u))
    ∙ (λ d. redists_of z (k.1 d) (out part.Mem (Mem z.memory z.track) ∷ (maps_now ∙ ap (maps_held z) k.0) d)))

module _ (s : Setup) (u : Plain) (m : IsOfMachine s u) where
  vcpus : length u.redistributors ≡ vcpu_count s
  vcpus = m.sound.vcpus ∙ ap (λ (l : Layout). l.shape.vcpus) (sym m.layout)

  pub ready : (last : Word) → last.place < s.limits.place_last → IsReady s u last call.Save (save_reply (savable u)) (whole_held u)
  unfolding reply_of
  ready last room = record {
    machine = m;
    has = all_whole u (λ x. Has u x.part x.owed) (λ i lt. slice_get-get_or u.translators i no_translator lt) (refl, refl)
        (λ i lt. seen_there conf_of u.redistributors i no_redistributor lt) (λ i lt. seen_there pend_of u.redistributors i no_redistributor lt);
    room = room;
    stands = all_whole u (λ x. Stands s x.part) (λ i lt. omega (arith, lt, m.translators)) tt (λ i lt. omega (arith, lt, vcpus))
        (λ i lt. omega (arith, lt, vcpus));
    apart = whole_apart u;
    out = all_whole u IsOut (λ i lt. refl) refl (λ i lt. refl) (λ i lt. refl);
    answered = record { covers = whole_covers u; reply_is = refl };
  }

-- a save leaves what it leaves, whatever its reply
left_saved : (u : Plain) (r : Reply) → left u call.Save r ≡ save_left u (savable u)
unfolding left
left_saved u r = refl

pub saves : SaveMayCommit
saves s last u m room =
    let r : Reply = save_reply (savable u) in
    let a : Commit = staying last call.Save r change.Keep in
    let may = calm_in s u last call.Save r (whole_held u) (ready s u m last room) change.Keep tt tt in
    (may.0, may.1 ∙ (ap (λ (z : Plain). renewed s a z (whole_held u)) (left_saved u r) ∙ whole_renewed s a u (savable u)))
