-- The state that the parts held stand for agrees with the machine's on them.
use Rattle.std.proofs.Common.{◌≡◌, ◌≢◌, ◌⊎◌, ℕ, zero, suc, ◌<◌, List, [], ◌∷◌, length, set, slice_get, Option, Some, refl, ap, sym, ◌∙◌, subst, inl, inr, ⊎_elim}
use Rattle.std.proofs.Common.{arith, length-set}
use Rattle.std.specs.List.{AllByRecursion}
use Rattle.std.specs.Option.{option_map}
use Rattle.std.proofs.lemmas.Option.{same_Some}
use mathlib.Core.Logic.{dite}
use native.Mathlib.Decide.{ℕ_discrete}
use Rattle.its_types.specs.declared.machine.Part.{Part}
use Rattle.its_types.specs.declared.machine.Part.TheVariants as part
use Rattle.its_types.specs.declared.machine.Word.{Word}
use Rattle.its_plain.specs.Parts.{SamePart, IsIn}
use Rattle.its_plain.specs.Plain.{Plain, Redistributor, conf_of, pend_of, with_conf, with_pend, redistributor}
use Rattle.its_plain.specs.declared.layout.Layout.{Layout}
use Rattle.plain_footprint.proofs.Listed.{in_head, in_tail}
use Rattle.plain_footprint.proofs.Stays.{Stay, stay, stay_translator, stay_conf, stay_pend, stay_memory}
use Rattle.its_steps.specs.Contents.{Content, Maps, Mem, Shard, Conf, Pend, Held, parts_of}
use Rattle.its_steps.specs.Good.{Holds, Apart}
use Rattle.its_steps.specs.Facts.{AssembledHas}
use Rattle.its_steps.specs.MayCall.{Owes}
use Rattle.its_steps.specs.Parts.{Setup, HasVcpus, Stands, Has, HasAll, Suits, IsOfMachine, index_of, translator_count, vcpu_count, Right}
use Rattle.its_steps.specs.Renewal.{with_part, assembled}
use Rattle.its_steps.specs.States.{RightIsHad}
use Rattle.its_steps.proofs.Indexes.{index_injective}
use Rattle.its_steps.proofs.Owed.{owes_holds}

-- ---- parts that are the same

pub same_back : (u w : Plain) (p : Part) → SamePart u w p → SamePart w u p
same_back u w (part.Maps its) e = sym e
same_back u w part.Mem e = (sym e.0, sym e.1)
same_back u w (part.Shard its n) e = tt
same_back u w (part.Conf vcpu) e = sym e
same_back u w (part.Pend vcpu) e = sym e

pub same_through : (u w x : Plain) (p : Part) → SamePart u w p → SamePart w x p → SamePart u x p
same_through u w x (part.Maps its) e f = e ∙ f
same_through u w x part.Mem e f = (e.0 ∙ f.0, e.1 ∙ f.1)
same_through u w x (part.Shard its n) e f = tt
same_through u w x (part.Conf vcpu) e f = e ∙ f
same_through u w x (part.Pend vcpu) e f = e ∙ f

-- ---- lists of parts

pub in_holds : (p : Part) (held : List Held) → IsIn p (parts_of held) → Holds p held
in_holds p [] (n, e) = absurd cc
in_holds p (x ∷ xs) (zero, e) = inl (same_Some x.part p e)
in_holds p (x ∷ xs) (suc n, e) = inr (in_holds p xs (n, e))

pub holds_in : (p : Part) (held : List Held) → Holds p held → IsIn p (parts_of held)
holds_in p [] h = absurd h
holds_in p (x ∷ xs) h = ⊎_elim (λ (e : x.part ≡ p). subst (λ (q : Part). IsIn p (q ∷ parts_of xs)) (sym e) (in_head p (parts_of xs)))
    (λ (t : Holds p xs). in_tail p x.part (parts_of xs) (holds_in p xs t)) h

pub all_in : (P : Part → Type 0) (ps : List Part) (p : Part) → IsIn p ps → AllByRecursion P ps → P p
all_in P [] p (n, e) all = absurd cc
all_in P (q ∷ ps) p (zero, e) all = subst P (same_Some q p e) all.0
all_in P (q ∷ ps) p (suc n, e) all = all_in P ps p (n, e) all.1

pub holds_or_not : (s : Setup) (p : Part) → Stands s p → (held : List Held) → AllByRecursion (λ x. Stands s x.part) held → Holds p held ⊎ (¬ Holds p held)
holds_or_not s p st [] all = inr (λ h. h)
holds_or_not s p st (x ∷ xs) all = dite (ℕ_discrete (index_of s x.part) (index_of s p))
    (λ e. inl (inl (index_injective s x.part p all.0 st e)))
    (λ ne. ⊎_elim (λ (h : Holds p xs). inl (inr h)) (λ (n : ¬ Holds p xs). inr (λ h. ⊎_elim (λ (e : x.part ≡ p). ne (ap (index_of s) e)) n h))
    (holds_or_not s p st xs all.1))

pub in_or_not : (s : Setup) (p : Part) → Stands s p → (ps : List Part) → AllByRecursion (Stands s) ps → IsIn p ps ⊎ (¬ IsIn p ps)
in_or_not s p st [] all = inr (λ (n, e). cc)
in_or_not s p st (q ∷ ps) all = dite (ℕ_discrete (index_of s q) (index_of s p))
    (λ e. inl (subst (λ (x : Part). IsIn p (x ∷ ps)) (sym (index_injective s q p all.0 st e)) (in_head p ps)))
    (λ ne. ⊎_elim (λ (h : IsIn p ps). inl (in_tail p q ps h)) (λ (n : ¬ IsIn p ps). inr (lacks ne n)) (in_or_not s p st ps all.1))
  where
    lacks : index_of s q ≢ index_of s p → ¬ IsIn p ps → ¬ IsIn p (q ∷ ps)
    lacks ne n (zero, e) = ne (ap (index_of s) (same_Some q p e))
    lacks ne n (suc k, e) = n (k, e)

-- ---- one part put in

pub record IsPut (b : Plain) (p : Part) (z : Plain) : Type 0 where
  pub stays : Stay b (p ∷ []) z
  pub long : length z.redistributors ≡ length b.redistributors

no_part : (b : Plain) (p : Part) → IsPut b p b
no_part b p = record { stays = stay b (p ∷ []); long = refl }

pub is_put : (p : Part) (c : Content) (b : Plain) → IsPut b p (with_part p c b)
is_put (part.Maps its) (Maps t) b = record {
  stays = stay_translator b b (part.Maps its ∷ []) its t (in_head (part.Maps its) []) (stay b (part.Maps its ∷ []));
  long = refl;
}
is_put part.Mem (Mem memory track) b = record {
  stays = stay_memory b b (part.Mem ∷ []) memory track (in_head part.Mem []) (stay b
      (part.Mem ∷ []));
  long = refl;
}
is_put (part.Conf vcpu) (Conf c) b = record {
  stays = stay_conf b b (part.Conf vcpu ∷ []) vcpu.0 c (in_head (part.Conf vcpu) []) (stay b (part.Conf vcpu ∷ []));
  long = length-set b.redistributors vcpu.0 (with_conf c (redistributor b vcpu.0));
}
is_put (part.Pend vcpu) (Pend q) b = record {
  stays = stay_pend b b (part.Pend vcpu ∷ []) vcpu.0 q (in_head (part.Pend vcpu) []) (stay b (part.Pend vcpu ∷ []));
  long = length-set b.redistributors vcpu.0 (with_pend q (redistributor b vcpu.0));
}
is_put p c b = no_part b p

pub get_set_here : {A : Type 0} (xs : List A) (i : ℕ) (y : A) → i < length xs → slice_get (set xs i y) i ≡ Some y
get_set_here [] i y lt = absurd (omega arith)
get_set_here (x ∷ xs) zero y lt = refl
get_set_here (x ∷ xs) (suc i) y lt = get_set_here xs i y (omega arith)

-- the part then has it
has_here : (s : Setup) (p : Part) (c : Content) (b : Plain) → length b.translators ≡ translator_count s → length b.redistributors ≡ vcpu_count s → Stands s p
    → Suits p c → Has (with_part p c b) p c
has_here s (part.Maps its) (Maps t) b ts rs st suits = get_set_here b.translators its t (omega (arith, st, ts))
has_here s part.Mem (Mem x y) b ts rs st suits = (refl, refl)
has_here s (part.Shard its n) (Shard x) b ts rs st suits = tt
has_here s (part.Conf vcpu) (Conf x) b ts rs st suits =
    ap (λ (o : Option Redistributor). option_map conf_of o)
    (get_set_here b.redistributors vcpu.0 (with_conf x (redistributor b vcpu.0)) (omega (arith, st, rs)))
has_here s (part.Pend vcpu) (Pend x) b ts rs st suits =
    ap (λ (o : Option Redistributor). option_map pend_of o)
    (get_set_here b.redistributors vcpu.0 (with_pend x (redistributor b vcpu.0)) (omega (arith, st, rs)))
has_here s p c b ts rs st suits = absurd suits

-- two states that have the same in a part
both_have : (u w : Plain) (p : Part) (c : Content) → Has u p c → Has w p c → SamePart u w p
both_have u w (part.Maps its) (Maps t) a b = a ∙ sym b
both_have u w part.Mem (Mem x y) a b = (a.0 ∙ sym b.0, a.1 ∙ sym b.1)
both_have u w (part.Shard its n) c a b = tt
both_have u w (part.Conf vcpu) (Conf c) a b = a ∙ sym b
both_have u w (part.Pend vcpu) (Pend q) a b = a ∙ sym b
both_have u w p c a b = absurd a

-- what is had suits its part
pub has_suits : (u : Plain) (p : Part) (c : Content) → Has u p c → Suits p c
has_suits u (part.Maps its) (Maps t) h = tt
has_suits u part.Mem (Mem x y) h = tt
has_suits u (part.Shard its n) (Shard x) h = tt
has_suits u (part.Conf vcpu) (Conf c) h = tt
has_suits u (part.Pend vcpu) (Pend q) h = tt
has_suits u p c h = absurd h

-- the same part has what it had
same_has : (u w : Plain) (p : Part) (c : Content) → SamePart u w p → Has u p c → Has w p c
same_has u w (part.Maps its) (Maps t) e h = sym e ∙ h
same_has u w part.Mem (Mem x y) e h = (sym e.0 ∙ h.0, sym e.1 ∙ h.1)
same_has u w (part.Shard its n) (Shard x) e h = tt
same_has u w (part.Conf vcpu) (Conf c) e h = sym e ∙ h
same_has u w (part.Pend vcpu) (Pend q) e h = sym e ∙ h
same_has u w p c e h = absurd h

pub not_only : (q p : Part) → ¬ (q ≡ p) → ¬ IsIn p (q ∷ [])
not_only q p ne (zero, e) = ne (same_Some q p e)
not_only q p ne (suc n, e) = cc

-- ---- all parts held

-- a state with the layout of the machine's, and as many translators and redistributors
pub record IsSized (s : Setup) (a : Plain) : Type 0 where
  pub layout : s.start.layout ≡ a.layout
  pub translators : length s.start.translators ≡ length a.translators
  pub redistributors : length s.start.redistributors ≡ length a.redistributors

pub machine_sized : (s : Setup) (u : Plain) → IsOfMachine s u → IsSized s u
machine_sized s u m = record { layout = m.layout; translators = m.translators; redistributors = m.redistributors }

pub machine_vcpus : (s : Setup) (u : Plain) → IsOfMachine s u → HasVcpus s
machine_vcpus s u m = m.redistributors ∙ (m.sound.vcpus ∙ ap (λ (l : Layout). l.shape.vcpus) (sym m.layout))

pub is_assembled : (s : Setup) (held : List Held) → IsSized s (assembled s held)
is_assembled s [] = record { layout = refl; translators = refl; redistributors = refl }
is_assembled s (x ∷ xs) =
    let i = is_assembled s xs in
    let z = is_put x.part x.owed (assembled s xs) in
    record { layout = i.layout ∙ z.stays.layout; translators = i.translators ∙ z.stays.translators; redistributors = i.redistributors ∙ sym z.long }

-- what is owed is had
pub had : (u : Plain) (held : List Held) → HasAll u held → (p : Part) (c : Content) → Owes p c held → Has u p c
had u [] has p c o = absurd o
had u (x ∷ xs) has p c o = ⊎_elim
    (λ (e : (x.part ≡ p) × (x.owed ≡ c)). subst (λ (q : Part). Has u q c) e.0 (subst (Has u x.part) e.1 has.0))
    (λ (t : Owes p c xs). had u xs has.1 p c t) o

module _ (s : Setup) (vcpus : HasVcpus s) where
  -- the part put in last has what was put in, and each other one what it had
  has_last : (x : Held) (xs : List Held) → Stands s x.part → Suits x.part x.owed → Has (assembled s (x ∷ xs)) x.part x.owed
  has_last x xs st suits = let i = is_assembled s xs in has_here s x.part x.owed (assembled s xs) (sym i.translators) (sym i.redistributors ∙ vcpus) st suits

  same_behind : (x : Held) (xs : List Held) (p : Part) → ¬ Holds x.part xs → Holds p xs → SamePart (assembled s xs) (assembled s (x ∷ xs)) p
  same_behind x xs p lone h = (is_put x.part x.owed (assembled s xs)).stays.parts p (not_only x.part p (λ e. lone (subst (λ (q : Part). Holds q xs) (sym e) h)))

  assembled_has_all : (held : List Held) → Apart held → AllByRecursion (λ x. Stands s x.part) held → (p : Part) (c : Content) → Suits p c → Owes p c held
      → Has (assembled s held) p c
  assembled_has_all [] apart st p c suits o = absurd o
  assembled_has_all (x ∷ xs) apart st p c suits o = ⊎_elim
      (λ (e : (x.part ≡ p) × (x.owed ≡ c)).
      let back : Suits x.part x.owed = subst (Suits x.part) (sym e.1) (subst (λ (q : Part). Suits q c) (sym e.0) suits) in
      subst (λ (q : Part). Has (assembled s (x ∷ xs)) q c) e.0 (subst (Has (assembled s (x ∷ xs)) x.part) e.1 (has_last x xs st.0 back)))
      (λ (t : Owes p c xs). same_has (assembled s xs) (assembled s (x ∷ xs)) p c (same_behind x xs p apart.0 (owes_holds p c xs t))
      (assembled_has_all xs apart.1 st.1 p c suits t))
      o

  -- so it agrees on what is held with each state that has it
  pub agree_held : (u : Plain) (held : List Held) → Apart held → AllByRecursion (λ x. Stands s x.part) held → HasAll u held → (p : Part) → Holds p held
      → SamePart (assembled s held) u p
  agree_held u [] apart st has p h = absurd h
  agree_held u (x ∷ xs) apart st has p h = ⊎_elim
      (λ (e : x.part ≡ p). subst (SamePart (assembled s (x ∷ xs)) u) e
      (both_have (assembled s (x ∷ xs)) u x.part x.owed (has_last x xs st.0 (has_suits u x.part x.owed has.0)) has.0))
      (λ (t : Holds p xs). same_through (assembled s (x ∷ xs)) (assembled s xs) u p
      (same_back (assembled s xs) (assembled s (x ∷ xs)) p (same_behind x xs p apart.0 t)) (agree_held u xs apart.1 st.1 has.1 p t))
      h

pub assembled_has : AssembledHas
assembled_has s vcpus held apart st p c suits o = assembled_has_all s vcpus held apart st p c suits o

-- what is right is had
right_has : (s : Setup) (word : Word) (u : Plain) (p : Part) (c : Content) → Right s word u p c → Has u p c
right_has s word u (part.Maps its) (Maps t) r = r
right_has s word u part.Mem (Mem x y) r = r
right_has s word u (part.Shard its n) (Shard ways) r = tt
right_has s word u (part.Conf vcpu) (Conf x) r = r
right_has s word u (part.Pend vcpu) (Pend x) r = r
right_has s word u p c r = absurd r

pub right_had : RightIsHad
right_had s word u [] right = tt
right_had s word u (x ∷ xs) right = (right_has s word u x.part x.owed right.0, right_had s word u xs right.1)
