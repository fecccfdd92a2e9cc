-- The first world of the program.
use Rattle.std.proofs.Common.{◌≡◌, ℕ, zero, suc, ◌*◌, List, [], ◌∷◌, ◌++◌, length, map, replicate, refl, ap, sym, ◌∙◌}
use Rattle.std.specs.Prelude as std
use Rattle.std.proofs.lemmas.List.{map-append, length-map}
use mathlib.Core.Option.{Option, some}
use Rattle.xlate_cache.specs.Ways.{no_entries}
use Rattle.its_plain.specs.Plain.{Translator, Redistributor, conf_of, pend_of}
use Rattle.its_plain.specs.Sound.{IsSound}
use Rattle.its_plain.specs.declared.call.Entry.{Entry}
use Rattle.its_steps.specs.Contents.{Content}
use Rattle.its_steps.specs.Contents as steps
use Rattle.its_player.specs.declared.content.Content.{Content as Value}
use Rattle.its_player.specs.declared.content.Content.TheVariants.{Maps, Mem, Shard, Conf, Pend}
use Rattle.its_steps.specs.Parts.{Setup, part_count}
use Rattle.its_player.specs.Shared.{known, view_of, slot_as, home_slots}
use Rattle.its_steps.specs.Steps.{first_core}
use Rattle.its_steps.specs.World.{View, fresh, first_word, first_view, first_slots}
use Rattle.its_steps.specs.declared.standing.Standing.TheVariants.{Pass}
use Rattle.its_player.specs.declared.view.View.{View as Known}
use Rattle.its_steps.proofs.First.{slots_long}
use Rattle.its_player.proofs.Seats.{pass_view}

map_maps : (xs : List Translator) → map slot_as (map (λ t. std.Some (Maps t)) xs) ≡ map (λ t. some (steps.Maps t)) xs
map_maps [] = refl
map_maps (x ∷ xs) = ap (λ (l : List (Option Content)). some (steps.Maps x) ∷ l) (map_maps xs)

map_confs : (xs : List Redistributor) → map slot_as (map (λ r. std.Some (Conf (conf_of r))) xs) ≡ map (λ r. some (steps.Conf (conf_of r))) xs
map_confs [] = refl
map_confs (x ∷ xs) = ap (λ (l : List (Option Content)). some (steps.Conf (conf_of x)) ∷ l) (map_confs xs)

map_pends : (xs : List Redistributor) → map slot_as (map (λ r. std.Some (Pend (pend_of r))) xs) ≡ map (λ r. some (steps.Pend (pend_of r))) xs
map_pends [] = refl
map_pends (x ∷ xs) = ap (λ (l : List (Option Content)). some (steps.Pend (pend_of x)) ∷ l) (map_pends xs)

map_shards : (n : ℕ) → map slot_as (replicate n (std.Some (Shard no_entries))) ≡ replicate n (some (steps.Shard no_entries))
map_shards zero = refl
map_shards (suc n) = ap (λ (l : List (Option Content)). some (steps.Shard no_entries) ∷ l) (map_shards n)

pub slots_first : (s : Setup) → map slot_as (home_slots s.start s.shards) ≡ first_slots s
slots_first s =
    let n : ℕ = length s.start.translators * s.shards in
    let confs : List (std.Option Value) = map (λ r. std.Some (Conf (conf_of r))) s.start.redistributors in
    let pends : List (std.Option Value) = map (λ r. std.Some (Pend (pend_of r))) s.start.redistributors in
    map-append slot_as (map (λ t. std.Some (Maps t)) s.start.translators)
    (std.Some (Mem (record { memory = s.start.memory; track = s.start.track }))
    ∷ (replicate n (std.Some (Shard no_entries)) ++ (confs ++ pends)))
    ∙ (λ d. map_maps s.start.translators d
    ++ (some (steps.Mem s.start.memory s.start.track) ∷ (map-append slot_as (replicate n (std.Some (Shard no_entries)))
    (confs ++ pends) ∙ (λ e. map_shards n e ++ (map-append slot_as confs pends
    ∙ (λ k. map_confs s.start.redistributors k ++ map_pends s.start.redistributors k)) e)) d))

pub first_shared : (s : Setup) → IsSound s.start → (history : List Entry) (notes : List ℕ) (slots : List (std.Option Value))
    (turns : List ℕ) (y : Known)
    (none : List Known) (seen : List Entry) (views : List Known) → history ≡ [] → notes ≡ [] → slots ≡ home_slots s.start s.shards
    → turns ≡ replicate (length slots) 0 → known s y ≡ fresh s 0 1 seen first_word → seen ≡ [] → views ≡ none ++ y ∷ [] → none ≡ []
    → record {
      setup = s;
      history = history;
      world = record { word = first_word; turns = turns; slots = map slot_as slots; views = map (view_of s) views };
      notes = notes;
    } ≡ first_core s
first_shared s sound history notes slots turns y none seen views no_history no_notes home free first no_seen one empty =
    let e : map slot_as slots ≡ first_slots s = ap (map slot_as) home ∙ slots_first s in
    let long : length slots ≡ part_count s = sym (length-map slots slot_as) ∙ (ap length e ∙ slots_long s sound) in
    let t : turns ≡ replicate (part_count s) 0 = free ∙ ap (λ (k : ℕ). replicate k 0) long in
    let p : y.standing ≡ Pass = ap (λ (u : View). u.standing) first in
    let f : known s y ≡ first_view s = first ∙ ap (λ (l : List Entry). fresh s 0 1 l first_word) no_seen in
    let v : map (view_of s) views ≡ first_view s ∷ [] = ap (map (view_of s)) (one ∙ ap (λ (l : List Known). l ++ y ∷ []) empty) ∙ ap (λ (u : View). u ∷ [])
    (pass_view s y p ∙ f) in
    (λ d. record { setup = s; history = no_history d; world = record { word = first_word; turns = t d; slots = e d; views = v d }; notes = no_notes d })
