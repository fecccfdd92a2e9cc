-- The table that a machine begins with keeps the rule.
use Rattle.std.proofs.Common.{◌≡◌, ℕ, zero, suc, ◌+◌, ◌*◌, ◌≤◌, List, [], ◌∷◌, ◌++◌, map, replicate, length, set, get_or, refl, ap, sym, ◌∙◌, subst}
use Rattle.std.proofs.Common.{arith, append_assoc, append-nil, get_or-set_other}
use Rattle.std.specs.Prelude as std
use Rattle.std.specs.List.{AllByRecursion, range_with_len}
use Rattle.std.proofs.lemmas.List.FromFn.{map-range_with_len_more}
use mathlib.Core.List.{map-map}
use mathlib.Core.Option.{Option, none, some, some-injective, some-ne-none}
use lib.ListN.{get_elem?, length-map, length-replicate}
use Rattle.atomic_table.specs.Table.{opening}
use Rattle.its_plain.specs.Plain.{Plain, Translator, conf_of, pend_of}
use Rattle.its_plain.specs.Sound.{IsSound}
use Rattle.its_plain.specs.declared.desc.Desc.{Desc}
use Rattle.lpi_pending.specs.InHand.{RedistParts, conf_in, pend_in}
use Rattle.owned_parts.specs.Owned.{conf_or, pend_or, redistributor_in, translators_of, state_of_parts}
use Rattle.owned_parts.specs.declared.parts.Parts.{Parts}
use Rattle.owned_parts.specs.declared.parts.Translator.{Translator as TranslatorInHand}
use Rattle.xlate_cache.specs.Ways.{no_entries}
use Rattle.its_steps.specs.Parts.{Setup, part_count}
use Rattle.its_steps.specs.Contents.{Content, Maps, Mem, Shard, Conf, Pend}
use Rattle.its_steps.specs.World.{first_word, first_view, first_slots, first_world}
use Rattle.its_steps.specs.Good.{Good}
use Rattle.its_steps.proofs.First.{first, slots_long}
use Rattle.its_turns.specs.declared.value.Value.{Value}
use Rattle.its_turns.specs.declared.value.Value.TheVariants.{Vacant}
use Rattle.its_turns.specs.Contents.{content_of, IsFit, shelved}
use Rattle.its_turns.specs.Opening.{setup_from, AreMaps, AreFirst, apart, first_words}
use Rattle.its_turns.specs.Rule.{Kept, world_of}
use Rattle.its_turns.specs.declared.word.Packing.{Packing}
use Rattle.its_turns.specs.declared.word.Packing.TheVariants.{Place40, Place56}
use Rattle.its_turns.specs.Words.{unpacked, packing_of, spaced, turns_in, slots_in}

zeros_at : (n k : ℕ) → get_or {A = ℕ} (replicate n 0) k 0 ≡ 0
zeros_at zero k = refl
zeros_at (suc n) zero = refl
zeros_at (suc n) (suc k) = zeros_at n k

zero_turns : (m k n : ℕ) → spaced {A = ℕ} 0 16 (replicate m 0) k n ≡ replicate n 0
zero_turns m k zero = refl
zero_turns m k (suc n) = let here = zeros_at m (16 * k) in let rest = zero_turns m (suc k) n in λ d. here d ∷ rest d

-- ---- slots with empty ones behind

abbrev Homes : Type 0
Homes = List (Option Value)

-- seven empty slots
abbrev behind : Homes → Homes
behind xs = some Vacant ∷ some Vacant ∷ some Vacant ∷ some Vacant ∷ some Vacant ∷ some Vacant ∷ some Vacant ∷ xs

later_slots : (o : Option Value) (xs : Homes) (k n : ℕ) → spaced none 8 (o ∷ behind xs) (suc k) n ≡ spaced none 8 xs k n
later_slots o xs k zero = refl
later_slots o xs k (suc n) =
    let i : 8 * suc k ≡ suc (suc (suc (suc (suc (suc (suc (suc (8 * k)))))))) = omega arith in
    let here : get_or (o ∷ behind xs) (8 * suc k) none ≡ get_or xs (8 * k) none = ap (λ (j : ℕ). get_or (o ∷ behind xs) j none) i in
    let rest = later_slots o xs (suc k) n in
    λ d. here d ∷ rest d

first_of_each : (values : List Value) → spaced none 8 (map some (apart values)) 0 (length values) ≡ map some values
first_of_each [] = refl
first_of_each (x ∷ xs) = ap (λ (l : Homes). some x ∷ l) (later_slots (some x) (map some (apart xs)) 0 (length xs) ∙ first_of_each xs)

all_shelved : (xs : List Value) → map shelved (map some xs) ≡ map content_of xs
all_shelved [] = refl
all_shelved (x ∷ xs) = ap (λ (l : List (Option Content)). content_of x ∷ l) (all_shelved xs)

pub apart_long : (xs : List Value) → length (apart xs) ≡ 8 * length xs
apart_long [] = refl
apart_long (x ∷ xs) = let rest = apart_long xs in omega (arith, rest)

apart_fit : (s : Setup) (xs : List Value) → AllByRecursion (IsFit s) xs → AllByRecursion (IsFit s) (apart xs)
apart_fit s [] fs = tt
apart_fit s (x ∷ xs) fs = (fs.0, (tt, (tt, (tt, (tt, (tt, (tt, (tt, apart_fit s xs fs.1))))))))

all_fit : (s : Setup) (xs : List Value) → AllByRecursion (IsFit s) xs → (k : ℕ) (x : Value) → get_elem? (map some xs) k ≡ some (some x) → IsFit s x
all_fit s [] fs k x e = absurd (some-ne-none (some x) (sym e))
all_fit s (y ∷ ys) fs zero x e = subst (IsFit s) (some-injective y x (some-injective (some y) (some x) e)) fs.0
all_fit s (y ∷ ys) fs (suc k) x e = all_fit s ys fs.1 k x e

apart_more : (xs : List Value) (x : Value) → apart (xs ++ x ∷ []) ≡ apart xs ++ x ∷ replicate 7 Vacant
apart_more [] x = refl
apart_more (y ∷ ys) x = ap (λ (l : List Value). y ∷ (replicate 7 Vacant ++ l)) (apart_more ys x)

pub one_more_apart : (xs : List Value) (x : Value) (slots more : List Value) → slots ≡ apart xs → more ≡ slots ++ x ∷ replicate 7 Vacant
    → more ≡ apart (xs ++ x ∷ [])
one_more_apart xs x slots more so_far is = is ∙ (ap (λ (l : List Value). l ++ x ∷ replicate 7 Vacant) so_far ∙ sym (apart_more xs x))

-- there is a value for each part
pub values_long : (s : Setup) (values : List Value) → IsSound s.start → AreFirst s values → length values ≡ part_count s
values_long s values sound are = sym (length-map values content_of) ∙ (ap (λ (l : List (Option Content)). length l) are.contents ∙ slots_long s sound)

unpacked_zero : (p : Packing) → unpacked p 0 ≡ first_word
unpacked_zero Place40 = refl
unpacked_zero Place56 = refl

pub opens : (s : Setup) (values : List Value) → IsSound s.start → AreFirst s values
    → Kept s (opening (first_words (part_count s)) (apart values) (first_view s))
opens s values sound are =
    let n : ℕ = part_count s in
    let m : ℕ = 16 * (n + 1) in
    let long : length values ≡ n = values_long s values sound are in
    let word : unpacked (packing_of s.limits) (get_or (first_words n) 0 0) ≡ first_word =
    ap (unpacked (packing_of s.limits)) (zeros_at m 0) ∙ unpacked_zero (packing_of s.limits) in
    let turns = zero_turns m 1 n in
    let slots : slots_in (map some (apart values)) n ≡ first_slots s =
    ap (λ (k : ℕ). slots_in (map some (apart values)) k) (sym long) ∙ (ap (map shelved) (first_of_each values) ∙ (all_shelved values ∙ are.contents)) in
    let worlds : world_of s (opening (first_words n) (apart values) (first_view s)) ≡ first_world s = λ d. record {
      word = word d;
      turns = turns d;
      slots = slots d;
      views = first_view s ∷ [];
    } in
    record {
      history = [];
      good = subst (Good s []) (sym worlds) (first s sound);
      wide = omega (arith, length-replicate {A = ℕ} m 0);
      deep = omega (arith, length-map (apart values) (λ (x : Value). (let o : Option Value = some x in o)), apart_long values, long);
      out = λ k j e. absurd (let z : get_or (turns_in (first_words n) n) k 0 ≡ 0 = ap (λ (ts : List ℕ). get_or ts k 0) turns ∙ zeros_at n k in omega
          (arith, z, e));
      fit = all_fit s (apart values) (apart_fit s values are.fit);
    }

-- ---- the first values

contents_more : (xs : List Value) (x : Value) → map content_of (xs ++ x ∷ []) ≡ map content_of xs ++ content_of x ∷ []
contents_more [] x = refl
contents_more (y ∷ ys) x = ap (λ (l : List (Option Content)). content_of y ∷ l) (contents_more ys x)

-- the translators, memory and so many shards, with other parts behind
abbrev pub front : Plain → ℕ → List (Option Content) → List (Option Content)
front u shards rest = map (λ t. some (Maps t)) u.translators ++ (some (Mem u.memory u.track) ∷ (replicate shards (some (Shard no_entries)) ++ rest))

one_shard : (n : ℕ) → replicate n (some (Shard no_entries)) ++ some (Shard no_entries) ∷ [] ≡ replicate (suc n) (some (Shard no_entries))
one_shard zero = refl
one_shard (suc n) = ap (λ (l : List (Option Content)). some (Shard no_entries) ∷ l) (one_shard n)

-- one more behind the front
front_more : (u : Plain) (n : ℕ) (rest : List (Option Content)) (o : Option Content) → front u n rest ++ o ∷ [] ≡ front u n (rest ++ o ∷ [])
front_more u n rest o =
    append_assoc (map (λ t. some (Maps t)) u.translators) (some (Mem u.memory u.track) ∷ (replicate n (some (Shard no_entries)) ++ rest)) (o ∷ [])
    ∙ ap (λ (l : List (Option Content)). map (λ t. some (Maps t)) u.translators ++ (some (Mem u.memory u.track) ∷ l))
    (append_assoc (replicate n (some (Shard no_entries))) rest (o ∷ []))

-- memory behind the translators
pub with_memory : (u : Plain) (values : List Value) (x : Value) → AreMaps u.translators values → content_of x ≡ some (Mem u.memory u.track)
    → map content_of (values ++ x ∷ []) ≡ front u 0 []
with_memory u values x are shows = contents_more values x ∙ (λ d. are.contents d ++ shows d ∷ [])

pub next_shard : (u : Plain) (n : ℕ) (values : List Value) (x : Value) → content_of x ≡ some (Shard no_entries) → map content_of values ≡ front u n []
    → map content_of (values ++ x ∷ []) ≡ front u (n + 1) []
next_shard u n values x shows so_far =
    let more : suc n ≡ n + 1 = omega arith in
    contents_more values x ∙ (λ d. so_far d ++ shows d ∷ [])
    ∙ (front_more u n [] (some (Shard no_entries))
    ∙ (ap (λ (l : List (Option Content)). map (λ t. some (Maps t)) u.translators ++ (some (Mem u.memory u.track) ∷ l))
    (one_shard n ∙ ap (λ (j : ℕ). replicate j (some (Shard no_entries))) more ∙ sym (append-nil (replicate (n + 1) (some (Shard no_entries)))))))

-- one more of those that a function of the number tells, after others
pub next_listed : (u : Plain) (shards : ℕ) (others : List (Option Content)) (shown : ℕ → Option Content) (v : ℕ) (values : List Value) (x : Value)
    → content_of x ≡ shown v → map content_of values ≡ front u shards (others ++ map shown (range_with_len 0 v))
    → map content_of (values ++ x ∷ []) ≡ front u shards (others ++ map shown (range_with_len 0 (v + 1)))
next_listed u shards others shown v values x shows so_far =
    let listed : List (Option Content) = map shown (range_with_len 0 v) in
    contents_more values x ∙ (λ d. so_far d ++ shows d ∷ [])
    ∙ (front_more u shards (others ++ listed) (shown v)
    ∙ ap (front u shards) (append_assoc others listed (shown v ∷ []) ∙ ap (λ (l : List (Option Content)). others ++ l)
    (sym (map-range_with_len_more shown 0 v v (omega arith)))))

-- the configuration of a virtual processor
abbrev pub conf_shown : RedistParts → ℕ → Option Content
conf_shown redists v = some (Conf (conf_or (conf_in redists v)))

-- what is pending at it
abbrev pub pend_shown : RedistParts → ℕ → Option Content
pend_shown redists v = some (Pend (pend_or (pend_in redists v)))

pub all_values : (d : Desc) (p : Parts) (shards n v : ℕ) (values : List Value) → shards ≡ length (translators_of p.first p.second) * d.shards
    → n ≡ p.layout.shape.vcpus → v ≡ p.layout.shape.vcpus → AllByRecursion (IsFit (setup_from d p)) values
    → map content_of values ≡ front (state_of_parts p) shards (map (conf_shown p.redists) (range_with_len 0 n) ++ map (pend_shown p.redists) (range_with_len 0 v))
    → AreFirst (setup_from d p) values
all_values d p shards n v values count all is fit so_far =
    let u : Plain = state_of_parts p in
    let confs : map (conf_shown p.redists) (range_with_len 0 n) ≡ map (λ r. some (Conf (conf_of r))) u.redistributors =
    ap (λ (j : ℕ). map (conf_shown p.redists) (range_with_len 0 j)) all
    ∙ sym (map-map (λ r. some (Conf (conf_of r))) (redistributor_in p.redists) (range_with_len 0 p.layout.shape.vcpus)) in
    let pends : map (pend_shown p.redists) (range_with_len 0 v) ≡ map (λ r. some (Pend (pend_of r))) u.redistributors =
    ap (λ (j : ℕ). map (pend_shown p.redists) (range_with_len 0 j)) is
    ∙ sym (map-map (λ r. some (Pend (pend_of r))) (redistributor_in p.redists) (range_with_len 0 p.layout.shape.vcpus)) in
    record { contents = so_far ∙ (λ e. front u (count e) (confs e ++ pends e)); fit = fit }

-- as many as there are translators
pub maps_long : (ts : List Translator) (values : List Value) → AreMaps ts values → length values ≡ length ts
maps_long ts values are = sym (length-map values content_of) ∙ (ap (λ (l : List (Option Content)). length l) are.contents
    ∙ length-map ts (λ t. some (Maps t)))

pub most_maps : (first : TranslatorInHand) (second : std.Option TranslatorInHand) (values : List Value) (n : ℕ) → n ≡ length values
    → AreMaps (translators_of first second) values → n ≤ 2
most_maps first std.None values n e are = let long = maps_long (translators_of first std.None) values are in omega (arith, e, long)
most_maps first (std.Some t) values n e are = let long = maps_long (translators_of first (std.Some t)) values are in omega (arith, e, long)

-- a place that is emptied leaves the later ones
pub later_same : {T : Type 0} (xs ys : List (std.Option T)) (v k : ℕ) → v + 1 ≤ k → ((j : ℕ) → v ≤ j → get_or xs j std.None ≡ get_or ys j std.None)
    → get_or (set xs v std.None) k std.None ≡ get_or ys k std.None
later_same xs ys v k le same = get_or-set_other xs v k std.None std.None (λ e. absurd (omega arith)) ∙ same k (omega arith)

pub same_some : {T : Type 0} (x y : T) → std.Some x ≡ std.Some y → x ≡ y
same_some x y e = cc
