-- Passes and notes that come and go keep the rule of the table.
use Rattle.std.proofs.Common.{◌≡◌, ℕ, ◌<◌, ◌^◌, List, [], ◌∷◌, ◌++◌, Bool, true, false, cond, sym, ◌∙◌, subst}
use mathlib.Core.List.{IsPrefix}
use Rattle.atomic_table.specs.Table.{Splits, Joins}
use Rattle.atomic_table.proofs.Lists.{set_else, set_again}
use Rattle.its_plain.specs.declared.call.Entry.{Entry}
use Rattle.its_steps.specs.Parts.{Setup}
use Rattle.its_steps.specs.World.{View, split_off, has_split, has_joined, note_of, has_met, spent}
use Rattle.its_steps.specs.Good.{Good}
use Rattle.its_steps.specs.declared.standing.Standing.TheVariants.{Pass, Note as Noted}
use Rattle.its_steps.proofs.Passes.{splits, joins, notes, meets}
use Rattle.its_turns.specs.Rule.{Kept, world_of}

module _ (s : Setup) (id : ℕ) (v : View) (passes : v.standing ≡ Pass) where
  pub allows_split : v.number ≡ 0 → v.root.made < 2 ^ 32 → Splits (Kept s) id v (has_split v) (split_off v)
  allows_split root few t kp at = record {
    history = kp.history;
    good = splits s kp.history (world_of s t) kp.good id v at passes root few;
    wide = kp.wide;
    deep = kp.deep;
    out = kp.out;
    fit = kp.fit;
  }

  pub allows_join : v.number ≡ 0 → (other : ℕ) (u : View) → u.standing ≡ Pass → u.held ≡ [] → Joins (Kept s) id v other u (has_joined v u) spent
  allows_join root other u is bare t kp at ne there = record {
    history = kp.history;
    good = joins s kp.history (world_of s t) kp.good id v at passes root other u ne (sym (set_else t.views id other (has_joined v u) ne) ∙ there) is bare;
    wide = kp.wide;
    deep = kp.deep;
    out = kp.out;
    fit = kp.fit;
  }

  pub allows_note : Splits (Kept s) id v v (note_of v)
  allows_note t kp at = record {
    history = kp.history;
    good = subst (λ (vs : List View). Good s kp.history record (world_of s t) { views = vs ++ note_of v ∷ [] }) (sym (set_again t.views id v at))
        (notes s kp.history (world_of s t) kp.good id v at passes);
    wide = kp.wide;
    deep = kp.deep;
    out = kp.out;
    fit = kp.fit;
  }

  pub allows_meet : (other : ℕ) (u : View) → u.standing ≡ Noted → Joins (Kept s) id v other u (has_met v u) spent
  allows_meet other u is t kp at ne there = record {
    history = kp.history;
    good = meets s kp.history (world_of s t) kp.good id v at passes other u (sym (set_else t.views id other (has_met v u) ne) ∙ there) is;
    wide = kp.wide;
    deep = kp.deep;
    out = kp.out;
    fit = kp.fit;
  }

-- what both had seen is seen after a join
pub both_seen : (b : Bool) (v u : View) (x : List Entry) → IsPrefix (cond b u v).seen x → IsPrefix (cond b v u).seen x → IsPrefix v.seen x × IsPrefix u.seen x
both_seen true v u x p q = (q, p)
both_seen false v u x p q = (p, q)
