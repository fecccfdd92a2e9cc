-- Tables that are written one after another.
use Rattle.std.specs.List.{flat_map}
use Rattle.std.specs.Option.{option_map}
use Rattle.std.proofs.Common.{◌≡◌, ◌*◌, refl, sym, ap, ◌∙◌, List, [], ◌∷◌, ◌++◌, Option, Some, None}
use Rattle.dirty_log.specs.Copies.{wrote}
use Rattle.dirty_log.specs.declared.tracked.Tracked.{Tracked}
use Rattle.its_plain.specs.Saved.{Words, put_tables, wrote_tables}
use Rattle.plain_machine.specs.Memories.{Memories, put_table, put_all}

pub put_more : (m : Memories) (ts us : List Words) → put_all m (ts ++ us) ≡ put_all (put_all m ts) us
put_more m [] us = refl
put_more m (t ∷ ts) us = put_more (put_table m t) ts us

-- the first of some tables, and then the others
pub put_front : {A : Type 0} (m : Memories) (f : A → List Words) (x : A) (xs : List A) → put_all (put_all m (f x)) (flat_map f xs)
    ≡ put_all m (flat_map f (x ∷ xs))
put_front m f x xs = sym (put_more m (f x) (flat_map f xs))

-- both memories
pub put_both : (m : Memories) (ws : List Words) → put_all m ws ≡ record { memory = put_tables m.memory ws; track = option_map (wrote_tables ws) m.track }
put_both m [] = ap (λ (t : Option Tracked). record { memory = m.memory; track = t }) (same m.track)
  where
    same : (t : Option Tracked) → t ≡ option_map (wrote_tables []) t
    same None = refl
    same (Some t) = refl
put_both m (w ∷ ws) =
    put_both (put_table m w) ws
    ∙ ap (λ (t : Option Tracked). record { memory = put_tables m.memory (w ∷ ws); track = t }) (twice m.track)
  where
    twice : (t : Option Tracked) → option_map (wrote_tables ws) (option_map (wrote w.base (8 * w.count)) t) ≡ option_map (wrote_tables (w ∷ ws)) t
    twice None = refl
    twice (Some t) = refl
