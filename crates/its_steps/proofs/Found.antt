-- What is found in a shard stands in one of its ways.
use Rattle.std.proofs.Common.{◌≡◌, ℕ, suc, Bool, true, false, ◌&&◌, cond, eqb, List, [], ◌∷◌, get_or, Option, Some, None, refl}
use Rattle.std.proofs.lemmas.Bool.{eqb-true}
use Rattle.its_types.specs.declared.ids.DeviceId.{DeviceId}
use Rattle.its_types.specs.declared.ids.EventId.{EventId}
use Rattle.its_types.specs.declared.ids.Target.{Target}
use Rattle.xlate_cache.specs.Ways.{entry, is_of, has_stamp, holds, target_in, found}
use Rattle.xlate_cache.specs.declared.entry.Entry.{Entry as Translation}

pub both_of : (a b : Bool) → (a && b) ≡ true → (a ≡ true) × (b ≡ true)
both_of true b e = (refl, e)
both_of false b e = absurd cc

way_is : (dev : DeviceId) (ev : EventId) (stamp : ℕ) (t : Target) (way : Option Translation) → holds dev.0 ev.0 stamp way ≡ true → target_in way ≡ Some t
    → way ≡ Some (entry dev ev stamp t)
way_is dev ev stamp t None h e = absurd cc
way_is dev ev stamp t (Some x) h e =
    let tests = both_of (is_of dev.0 ev.0 (Some x)) (has_stamp stamp (Some x)) h in
    let pair = both_of (eqb x.dev.0 dev.0) (eqb x.ev.0 ev.0) tests.0 in
    let d : x.dev.0 ≡ dev.0 = eqb-true x.dev.0 dev.0 pair.0 in
    let v : x.ev.0 ≡ ev.0 = eqb-true x.ev.0 ev.0 pair.1 in
    let n : x.stamp ≡ stamp = eqb-true x.stamp stamp tests.1 in
    let same : x.target ≡ t = cc in
    (λ i. Some (record { dev = record { 0 = d i }; ev = record { 0 = v i }; stamp = n i; target = same i }))

-- where what is found stands
pub found_at : (dev : DeviceId) (ev : EventId) (stamp : ℕ) (t : Target) (ways : List (Option Translation)) → found ways dev.0 ev.0 stamp ≡ Some t → (i : ℕ)
    × (get_or ways i None ≡ Some (entry dev ev stamp t))
found_at dev ev stamp t [] e = absurd cc
found_at dev ev stamp t (way ∷ ways) e = at (found_at dev ev stamp t ways) (holds dev.0 ev.0 stamp way) refl e
  where
    at : (found ways dev.0 ev.0 stamp ≡ Some t → (i : ℕ) × (get_or ways i None ≡ Some (entry dev ev stamp t))) → (b : Bool) → holds dev.0 ev.0 stamp way ≡ b
        → cond b (target_in way) (found ways dev.0 ev.0 stamp) ≡ Some t
        → (i : ℕ) × (get_or (way ∷ ways) i None ≡ Some (entry dev ev stamp t))
    at more true h e = (0, way_is dev ev stamp t way h e)
    at more false h e = let rest = more e in (suc rest.0, rest.1)
