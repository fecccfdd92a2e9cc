-- What stands in the slots at the end.
use Rattle.std.proofs.Common.{◌≡◌, ℕ, ◌+◌, ◌*◌, ◌<◌, List, [], ◌∷◌, length, Option, Some, None, Box, Global, set, get_or, slice_get}
use Rattle.std.proofs.Common.{ap, sym, ◌∙◌, subst, arith, inl, inr, get_or-set_same, get_or-set_other}
use Rattle.std.specs.Prelude.{MatchOption}
use Rattle.std.specs.Option.{option_map}
use Rattle.std.proofs.lemmas.Bool.{cases_lt}
use lib.ListN.{get_elem?}
use mathlib.Core.Logic.{dite}
use native.Mathlib.Decide.{ℕ_discrete}
use mathlib.Core.Option.{some, some-injective, some-ne-none}
use Rattle.its_types.specs.declared.ids.Vcpu.{Vcpu}
use Rattle.its_types.specs.declared.machine.Part.TheVariants as part
use Rattle.its_types.specs.declared.machine.Word.{Word}
use Rattle.its_plain.specs.Plain.{Plain, Translator, conf_of, pend_of}
use Rattle.its_plain.specs.declared.layout.Layout.{Layout}
use Rattle.lpi_config.specs.Conf.{conf_state}
use Rattle.lpi_pending.specs.InHand.{pend_state, AreEmpty, HasLpisOfConf, HasLpisOfPend}
use Rattle.owned_parts.specs.Owned.{translator_of, translators_of, IsConfOf, IsPendOf}
use Rattle.owned_parts.specs.declared.parts.Translator.{Translator as TranslatorInHand}
use Rattle.lpi_config.specs.Conf.{Conf as ConfInHand}
use Rattle.lpi_pending.specs.Pend.{Pend as PendInHand}
use Rattle.its_steps.specs.Parts.{Setup, IsOfMachine, Right, vcpu_count}
use Rattle.its_steps.specs.Contents.{Content}
use Rattle.its_turns.specs.declared.value.GuestMemory.{GuestMemory}
use Rattle.its_turns.specs.declared.value.Value.{Value}
use Rattle.its_turns.specs.declared.value.Value.TheVariants.{Vacant, Maps, Mem, Shard, Conf, Pend}
use Rattle.its_turns.specs.Contents.{content_of, IsFit}
use Rattle.its_turns.specs.Closed.{AreBelow, HasTranslatorAt, HasMemoryAt, HasConfAt, HasPendAt}

same_translator : (x y : Translator) → Some x ≡ Some y → x ≡ y
same_translator x y e = cc

abbrev pub IsMaps : Plain → ℕ → Value → Type 0
IsMaps u its (Maps b) = slice_get u.translators its ≡ Some (translator_of b.value)
IsMaps u its x = ⊥

abbrev pub IsMem : Setup → Plain → Value → Type 0
IsMem s u (Mem b) = AreEmpty (vcpu_count s) b.value.redists × ((u.memory ≡ b.value.memory) × (u.track ≡ b.value.track))
IsMem s u x = ⊥

abbrev pub IsConf : Setup → Plain → ℕ → Value → Type 0
IsConf s u v (Conf b) = HasLpisOfConf s.start.layout.shape b.value × (option_map conf_of (slice_get u.redistributors v) ≡ Some (conf_state b.value))
IsConf s u v x = ⊥

abbrev pub IsPend : Setup → Plain → ℕ → Value → Type 0
IsPend s u v (Pend b) = HasLpisOfPend s.start.layout.shape b.value × (option_map pend_of (slice_get u.redistributors v) ≡ Some (pend_state b.value))
IsPend s u v x = ⊥

module _ (s : Setup) (word : Word) (u : Plain) where
  same_content : (c d : Content) → some c ≡ some d → d ≡ c
  same_content c d e = sym (some-injective c d e)

  pub is_maps : (its : ℕ) (x : Value) (c : Content) → content_of x ≡ some c → Right s word u (part.Maps its) c → IsMaps u its x
  is_maps its Vacant c e r = absurd (some-ne-none c (sym e))
  is_maps its (Maps b) c e r = subst (Right s word u (part.Maps its)) (same_content _ c e) r
  is_maps its (Mem b) c e r = subst (Right s word u (part.Maps its)) (same_content _ c e) r
  is_maps its (Shard b) c e r = subst (Right s word u (part.Maps its)) (same_content _ c e) r
  is_maps its (Conf b) c e r = subst (Right s word u (part.Maps its)) (same_content _ c e) r
  is_maps its (Pend b) c e r = subst (Right s word u (part.Maps its)) (same_content _ c e) r

  pub is_mem : (x : Value) (c : Content) → content_of x ≡ some c → IsFit s x → Right s word u part.Mem c → IsMem s u x
  is_mem Vacant c e f r = absurd (some-ne-none c (sym e))
  is_mem (Maps b) c e f r = subst (Right s word u part.Mem) (same_content _ c e) r
  is_mem (Mem b) c e f r = (f, subst (Right s word u part.Mem) (same_content _ c e) r)
  is_mem (Shard b) c e f r = subst (Right s word u part.Mem) (same_content _ c e) r
  is_mem (Conf b) c e f r = subst (Right s word u part.Mem) (same_content _ c e) r
  is_mem (Pend b) c e f r = subst (Right s word u part.Mem) (same_content _ c e) r

  pub is_conf : (v : Vcpu) (x : Value) (c : Content) → content_of x ≡ some c → IsFit s x → Right s word u (part.Conf v) c → IsConf s u v.0 x
  is_conf v Vacant c e f r = absurd (some-ne-none c (sym e))
  is_conf v (Maps b) c e f r = subst (Right s word u (part.Conf v)) (same_content _ c e) r
  is_conf v (Mem b) c e f r = subst (Right s word u (part.Conf v)) (same_content _ c e) r
  is_conf v (Shard b) c e f r = subst (Right s word u (part.Conf v)) (same_content _ c e) r
  is_conf v (Conf b) c e f r = (f, subst (Right s word u (part.Conf v)) (same_content _ c e) r)
  is_conf v (Pend b) c e f r = subst (Right s word u (part.Conf v)) (same_content _ c e) r

  pub is_pend : (v : Vcpu) (x : Value) (c : Content) → content_of x ≡ some c → IsFit s x → Right s word u (part.Pend v) c → IsPend s u v.0 x
  is_pend v Vacant c e f r = absurd (some-ne-none c (sym e))
  is_pend v (Maps b) c e f r = subst (Right s word u (part.Pend v)) (same_content _ c e) r
  is_pend v (Mem b) c e f r = subst (Right s word u (part.Pend v)) (same_content _ c e) r
  is_pend v (Shard b) c e f r = subst (Right s word u (part.Pend v)) (same_content _ c e) r
  is_pend v (Conf b) c e f r = subst (Right s word u (part.Pend v)) (same_content _ c e) r
  is_pend v (Pend b) c e f r = (f, subst (Right s word u (part.Pend v)) (same_content _ c e) r)

-- a translator's maps stand there
pub maps_there : (u : Plain) (its : ℕ) (xs : List Value) (x : Value) → get_elem? xs (8 * its) ≡ some x → IsMaps u its x → HasTranslatorAt its xs
maps_there u its xs Vacant e i = absurd i
maps_there u its xs (Maps b) e i = (b, e)
maps_there u its xs (Mem b) e i = absurd i
maps_there u its xs (Shard b) e i = absurd i
maps_there u its xs (Conf b) e i = absurd i
maps_there u its xs (Pend b) e i = absurd i

pub mem_there : (s : Setup) (u : Plain) (at : ℕ) (xs : List Value) (x : Value) → get_elem? xs (8 * at) ≡ some x → IsMem s u x → HasMemoryAt at xs
mem_there s u at xs Vacant e i = absurd i
mem_there s u at xs (Maps b) e i = absurd i
mem_there s u at xs (Mem b) e i = (b, e)
mem_there s u at xs (Shard b) e i = absurd i
mem_there s u at xs (Conf b) e i = absurd i
mem_there s u at xs (Pend b) e i = absurd i

pub conf_there : (s : Setup) (u : Plain) (v at : ℕ) (xs : List Value) (x : Value) → get_elem? xs (8 * at) ≡ some x → IsConf s u v x → HasConfAt at xs
conf_there s u v at xs Vacant e i = absurd i
conf_there s u v at xs (Maps b) e i = absurd i
conf_there s u v at xs (Mem b) e i = absurd i
conf_there s u v at xs (Shard b) e i = absurd i
conf_there s u v at xs (Conf b) e i = (b, e)
conf_there s u v at xs (Pend b) e i = absurd i

pub pend_there : (s : Setup) (u : Plain) (v at : ℕ) (xs : List Value) (x : Value) → get_elem? xs (8 * at) ≡ some x → IsPend s u v x → HasPendAt at xs
pend_there s u v at xs Vacant e i = absurd i
pend_there s u v at xs (Maps b) e i = absurd i
pend_there s u v at xs (Mem b) e i = absurd i
pend_there s u v at xs (Shard b) e i = absurd i
pend_there s u v at xs (Conf b) e i = absurd i
pend_there s u v at xs (Pend b) e i = (b, e)

-- and nothing else
pub no_maps : (its : ℕ) (xs : List Value) (x : Value) → get_elem? xs (8 * its) ≡ some x → HasTranslatorAt its xs
    → ((b : Box TranslatorInHand Global) → x ≡ Maps b → ⊥) → ⊥
no_maps its xs x e has never = never has.0 (some-injective x (Maps has.0) (sym e ∙ has.1))

pub no_mem : (at : ℕ) (xs : List Value) (x : Value) → get_elem? xs (8 * at) ≡ some x → HasMemoryAt at xs
    → ((b : Box GuestMemory Global) → x ≡ Mem b → ⊥) → ⊥
no_mem at xs x e has never = never has.0 (some-injective x (Mem has.0) (sym e ∙ has.1))

pub no_conf : (at : ℕ) (xs : List Value) (x : Value) → get_elem? xs (8 * at) ≡ some x → HasConfAt at xs
    → ((b : Box ConfInHand Global) → x ≡ Conf b → ⊥) → ⊥
no_conf at xs x e has never = never has.0 (some-injective x (Conf has.0) (sym e ∙ has.1))

pub no_pend : (at : ℕ) (xs : List Value) (x : Value) → get_elem? xs (8 * at) ≡ some x → HasPendAt at xs
    → ((b : Box PendInHand Global) → x ≡ Pend b → ⊥) → ⊥
no_pend at xs x e has never = never has.0 (some-injective x (Pend has.0) (sym e ∙ has.1))

-- what is so of a second translator, where there is one
pub each_second : (P Q : TranslatorInHand → Type 0) (second : Option TranslatorInHand) (n k : ℕ) → n ≡ k → ((t : TranslatorInHand) → k ≡ 2 → P t → Q t)
    → MatchOption second (n ≡ 1) (λ t. (n ≡ 2) × P t) → MatchOption second (k ≡ 1) (λ t. (k ≡ 2) × Q t)
each_second P Q None n k e f x = sym e ∙ x
each_second P Q (Some t) n k e f x = let two = sym e ∙ x.0 in (two, f t two x.1)

-- one or two translators are all that the state has, where each stands there
pub all_translators : (ts : List Translator) (first : TranslatorInHand) (second : Option TranslatorInHand) (n : ℕ) → length ts ≡ n
    → slice_get ts 0 ≡ Some (translator_of first) → MatchOption second (n ≡ 1) (λ t. (n ≡ 2) × (slice_get ts 1 ≡ Some (translator_of t)))
    → translators_of first second ≡ ts
all_translators [] first None n long one two = absurd (omega (arith, long, two))
all_translators [] first (Some t) n long one two = absurd (omega (arith, long, two.0))
all_translators (a ∷ []) first None n long one two = ap (λ (x : Translator). (let l : List Translator = x ∷ [] in l)) (sym (same_translator a _ one))
all_translators (a ∷ []) first (Some t) n long one two = absurd (omega (arith, long, two.0))
all_translators (a ∷ b ∷ ts) first None n long one two = absurd (omega (arith, long, two))
all_translators (a ∷ b ∷ []) first (Some t) n long one two =
    let e = sym (same_translator a _ one) in let f = sym (same_translator b _ two.1) in λ d. e d ∷ f d ∷ []
all_translators (a ∷ b ∷ c ∷ ts) first (Some t) n long one two = absurd (omega (arith, long, two.0))

-- ---- the parts of redistributors, in their places

module _ {T : Type 0} (is : ℕ → T → Type 0) where
  pub one_more_below : (v : ℕ) (xs : List (Option T)) (x : T) → v < length xs → AreBelow T is v xs → is v x → AreBelow T is (v + 1) (set xs v (Some x))
  one_more_below v xs x inside are this = record {
    below = λ k lt. dite (ℕ_discrete k v)
        (λ e. subst (λ (j : ℕ). (y : T) × (get_or (set xs v (Some x)) j None ≡ Some y) × is j y) (sym e) (x, get_or-set_same xs v (Some x) None inside, this))
        (λ ne. let b = are.below k (omega (arith, lt, ne)) in (b.0, get_or-set_other xs v k (Some x) None ne ∙ b.1, b.2));
    others = λ k le. get_or-set_other xs v k (Some x) None (λ e. absurd (omega arith)) ∙ are.others k (omega arith);
  }

  same_some : (x y : T) → Some x ≡ Some y → x ≡ y
  same_some x y e = cc

  none_some : (x : T) → None ≡ Some x → ⊥
  none_some x e = cc

  -- whatever is in hand is as the state has it
  pub each_of : (n : ℕ) (xs : List (Option T)) → AreBelow T is n xs → (v : ℕ) (x : T) → get_or xs v None ≡ Some x → is v x
  each_of n xs are v x at = elim (cases_lt v n) [
    | inl lt ↦ let b = are.below v lt in subst (is v) (same_some b.0 x (sym b.1 ∙ at)) b.2
    | inr le ↦ absurd (none_some x (sym (are.others v le) ∙ at))
  ]

  -- nothing is in hand at first
  pub none_below : (xs : List (Option T)) → ((k : ℕ) → get_or xs k None ≡ None) → AreBelow T is 0 xs
  none_below xs e = record { below = λ k lt. absurd (omega arith); others = λ k le. e k }

-- a configuration that a state of the machine has
pub conf_is : (s : Setup) (u : Plain) (v : ℕ) (c : ConfInHand) → IsOfMachine s u → HasLpisOfConf s.start.layout.shape c
    → option_map conf_of (slice_get u.redistributors v) ≡ Some (conf_state c) → IsConfOf u v c
conf_is s u v c m lpis same = record { lpis = subst (λ (l : Layout). HasLpisOfConf l.shape c) m.layout lpis; same = same }

pub pend_is : (s : Setup) (u : Plain) (v : ℕ) (p : PendInHand) → IsOfMachine s u → HasLpisOfPend s.start.layout.shape p
    → option_map pend_of (slice_get u.redistributors v) ≡ Some (pend_state p) → IsPendOf u v p
pend_is s u v p m lpis same = record { lpis = subst (λ (l : Layout). HasLpisOfPend l.shape p) m.layout lpis; same = same }
