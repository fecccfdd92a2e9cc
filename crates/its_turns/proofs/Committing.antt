-- Commits keep the rule of the table.
use Rattle.std.proofs.Common.{◌≡◌, ◌≢◌, ℕ, ◌<◌, eqb, List, [], ◌∷◌, ◌++◌, set, get_or, refl, ap, sym, ◌∙◌, subst, arith, length-set, get_or-set_same}
use mathlib.Core.Option.{none, some}
use lib.ListN.{get_elem?}
use prog.Atomic.{either}
use Rattle.atomic_table.specs.Table.{Me, step, Act, keeps, stepped, carried_after, Valid, Allows}
use Rattle.atomic_table.proofs.Lists.{exchanged}
use Rattle.its_types.specs.declared.machine.Word.{Word}
use Rattle.its_plain.specs.History.{IsLegal}
use Rattle.its_plain.specs.declared.call.Entry.{Entry}
use Rattle.its_steps.specs.Parts.{Setup, part_count}
use Rattle.its_steps.specs.Contents.{Held}
use Rattle.its_steps.specs.declared.standing.Standing.TheVariants.{Pass}
use Rattle.its_steps.specs.World.{View, World, loaded, entry_of, committed, word_after}
use Rattle.its_steps.specs.Good.{Good}
use Rattle.its_steps.specs.MayCall.{MayCall}
use Rattle.its_steps.specs.Renewal.{renewal}
use Rattle.its_steps.proofs.Holders.{holders}
use Rattle.its_steps.proofs.Steps.{pass}
use Rattle.its_steps.proofs.Words.{keeps_commit, reader}
use Rattle.its_turns.proofs.Homes.{St, turns_stay}
use Rattle.its_turns.proofs.Looking.{sees, looks_in, later_word, reads}
use Rattle.its_turns.specs.Rule.{Kept, world_of}
use Rattle.its_turns.specs.Told.{Loses, committed_by, committing}
use Rattle.its_turns.specs.Words.{unpacked, packing_of, turns_in}
use Rattle.its_steps.specs.declared.commit.Commit.{Commit}
use Rattle.its_turns.specs.declared.value.Value.{Value}

module _ (s : Setup) (slots id : ℕ) (me : Me Value View) (passes : me.0.standing ≡ Pass) (first second : ℕ) (a : Commit) where
  abbrev Done : ℕ → ℕ → St → Type 0
  Done n x t = (v : View) × (b : Act Value) × Valid t.homes me.1 b × Kept s (stepped t 0 x id me.1 v b) × committing a (step slots 0 first second none) me n
      (v, carried_after me.1 b)

  abbrev to : Word
  to = word_after a

  -- the word is the one expected
  wins : unpacked (packing_of s.limits) first ≡ a.expected → a.expected ≡ me.0.last → unpacked (packing_of s.limits) second ≡ word_after a → MayCall s a me.0.held
      → (t : St) → Kept s t → get_elem? t.views id ≡ some me.0 → get_or t.words 0 0 ≡ first → Done (get_or t.words 0 0) second t
  wins first_is last second_is may t kp at hit =
      let n : ℕ = get_or t.words 0 0 in
      let w : World = world_of s t in
      let h : List Entry = kp.history in
      let fits = pass s h w kp.good id me.0 at passes in
      let now : w.word ≡ a.expected = ap (unpacked (packing_of s.limits)) hit ∙ first_is in
      let seen : me.0.seen ≡ h = (reader s h w kp.good id me.0 at passes (ap (λ (x : Word). x.place) (sym (now ∙ last)))).1 in
      let owed : List Held = renewal s a me.0.held in
      let v1 : View = committed me.0 h a owed in
      let v' : View = committed_by me.0 a in
      let e : Entry = entry_of me.0 a in
      let same : v1 ≡ v' = λ d. committed me.0 (sym seen d) a (renewal (sym fits.setup d) a me.0.held) in
      let good1 : Good s (h ++ e ∷ []) record w { word = to; views = set w.views id v1 } = keeps_commit s h w kp.good id me.0 at passes a owed now
      (holders s a me.0.held may) in
      let good' : Good s (h ++ e ∷ []) record w { word = to; views = set w.views id v' } =
      subst (λ (v : View). Good s (h ++ e ∷ []) record w { word = to; views = set w.views id v }) same good1 in
      let new_word : get_or (set t.words 0 second) 0 0 ≡ second = get_or-set_same t.words 0 second 0 (omega (arith, kp.wide)) in
      let new_turns : turns_in (set t.words 0 second) (part_count s) ≡ w.turns = turns_stay t.words (part_count s) second in
      let worlds : world_of s (stepped t 0 second id me.1 v' keeps) ≡ record w { word = to; views = set w.views id v' } =
      λ d. record { word = (ap (unpacked (packing_of s.limits)) new_word ∙ second_is) d; turns = new_turns d; slots = w.slots; views = set t.views id v' } in
      let legal : IsLegal me.0.setup.start v'.seen = subst (λ (x : Setup × List Entry). IsLegal x.0.start x.1) (λ d. (sym fits.setup d, sym seen d ++ e ∷ []))
      good'.history.legal in (
        v',
        keeps,
        tt,
        record {
          history = h ++ e ∷ [];
          good = subst (Good s (h ++ e ∷ [])) (sym worlds) good';
          wide = omega (arith, kp.wide, length-set t.words 0 second);
          deep = kp.deep;
          out = λ j m q. kp.out j m (ap (λ (ts : List ℕ). get_or ts j 0) (sym new_turns) ∙ q);
          fit = kp.fit;
        },
        (refl, (λ _. record { view = refl; legal = legal }), (λ ne. absurd (ne hit))),
      )

  -- it is another
  loses : unpacked (packing_of s.limits) first ≡ a.expected → (t : St) → Kept s t → get_elem? t.views id ≡ some me.0 → get_or t.words 0 0 ≢ first
      → Done (get_or t.words 0 0) (get_or t.words 0 0) t
  loses first_is t kp at other =
      let n : ℕ = get_or t.words 0 0 in
      let later : a.expected ≡ me.0.last → (a.expected.place < (unpacked (packing_of s.limits) n).place) × _ = λ is. let z = later_word s slots id me passes t kp at first other
      (first_is ∙ is) in (subst (λ (x : Word). x.place < (unpacked (packing_of s.limits) n).place) (sym is) z.0, z.1) in (
        loaded me.0 (unpacked (packing_of s.limits) n) kp.history,
        keeps,
        tt,
        looks_in s slots id me passes t kp at n refl,
        (
          refl,
          (λ e. absurd (other e)),
          (λ _. subst (λ (x : Word). Loses me.0 a x (loaded me.0 (unpacked (packing_of s.limits) n) kp.history)) (reads s slots id me passes t kp at)
              record { looks = sees s slots id me passes t kp at; later = later }),
        ),
      )

  pub allows_commit : unpacked (packing_of s.limits) first ≡ a.expected → a.expected ≡ me.0.last → unpacked (packing_of s.limits) second ≡ word_after a → MayCall s a me.0.held
      → Allows (Kept s) slots id me 0 (λ n. either (eqb n first) second n) (committing a (step slots 0 first second none) me)
  allows_commit first_is last second_is may t kp deep at small =
      let n : ℕ = get_or t.words 0 0 in
      exchanged n first second (λ (x : ℕ). Done n x t) (λ (hit : n ≡ first). wins first_is last second_is may t kp at hit)
      (λ (other : n ≢ first). loses first_is t kp at other)
