-- Every event and every schedule keeps the good world.
use Rattle.std.proofs.Common.{◌≡◌, ◌≢◌, ℕ, zero, suc, List, [], ◌∷◌, ◌++◌, set, refl, ap, sym, ◌∙◌, subst, ⊎_elim}
use mathlib.Core.Logic.{dite}
use native.Mathlib.Decide.{ℕ_discrete}
use mathlib.Core.Option.{some, some-injective}
use lib.ListN.{get_elem?}
use Rattle.atomic_table.proofs.Lists.{set_here, set_else}
use Rattle.its_types.specs.declared.machine.Part.{Part}
use Rattle.its_types.specs.declared.machine.Word.{Word}
use Rattle.its_plain.specs.declared.call.Entry.{Entry}
use Rattle.its_steps.specs.Parts.{Setup}
use Rattle.its_steps.specs.World.{View, World, loaded, has_split, split_off, has_joined, has_met, spent}
use Rattle.its_steps.specs.declared.standing.Standing.TheVariants.{Pass}
use Rattle.its_steps.specs.Good.{Good}
use Rattle.its_steps.specs.Renewal.{renewal}
use Rattle.its_steps.specs.Steps.{Core, IsGoodCore, Tries, Gets, Misses, loads, Commits, Splits, Joins, Meets, Moves, Does, StepsKeep, RunsKeep}
use Rattle.its_steps.specs.declared.commit.Commit.{Commit}
use Rattle.its_steps.specs.declared.event.Kind.{Kind}
use Rattle.its_steps.specs.declared.event.Kind.TheVariants as kind
use Rattle.its_steps.proofs.Holders.{holders}
use Rattle.its_steps.proofs.Lists.{at_below}
use Rattle.its_steps.proofs.Passes.{splits, joins, notes, meets}
use Rattle.its_steps.proofs.Views.{no_pass}
use Rattle.its_steps.proofs.Together.{set_over}
use Rattle.its_steps.proofs.Turns.{tries, takes_out, puts_home, releases}
use Rattle.its_steps.proofs.Words.{keeps_load, keeps_miss, keeps_commit}

-- two writes at different places
set_apart : {A : Type 0} (xs : List A) (i j : ℕ) (a b : A) → i ≢ j → set (set xs j b) i a ≡ set (set xs i a) j b
set_apart [] i j a b ne = refl
set_apart (x ∷ xs) zero zero a b ne = absurd (ne refl)
set_apart (x ∷ xs) zero (suc j) a b ne = refl
set_apart (x ∷ xs) (suc i) zero a b ne = refl
set_apart (x ∷ xs) (suc i) (suc j) a b ne = ap (λ ys. x ∷ ys) (set_apart xs i j a b (λ e. ne (ap suc e)))

-- words are told apart by their numbers
same_word : (a b : Word) → Dec (a ≡ b)
same_word a b = dite (ℕ_discrete a.stamp b.stamp)
    (λ e. dite (ℕ_discrete a.place b.place) (λ f. yes (λ d. record { stamp = e d; place = f d })) (λ ne. no (λ same. ne (ap (λ (x : Word). x.place) same))))
    (λ ne. no (λ same. ne (ap (λ (x : Word). x.stamp) same)))

module _ (c : Core) (good : IsGoodCore c) (i : ℕ) (v : View) (at : get_elem? c.world.views i ≡ some v) (passes : v.standing ≡ Pass) where
  abbrev s : Setup
  s = c.setup

  abbrev h : List Entry
  h = c.history

  abbrev w : World
  w = c.world

  abbrev Keeps : Core → Type 0
  Keeps d = Good d.setup d.history d.world

  loads_keep : IsGoodCore (loads c i v)
  loads_keep = keeps_load s h w good i v at passes

  tries_keep : (d : Core) (p : Part) → Tries c i v p d → IsGoodCore d
  tries_keep d p t = ⊎_elim
      (λ (g : Gets c i v p d). subst Keeps (sym g.leaves) (tries s h w good i v at passes p g.content t.stands g.free g.slot))
      (λ (m : Misses c i v p d). subst Keeps (sym m.leaves) (keeps_miss s h w good i v at passes p m.found)) t.does

  commits_keep : (d : Core) (a : Commit) → Commits c i v a d → IsGoodCore d
  commits_keep d a t = dite (same_word w.word a.expected)
      (λ e. subst Keeps (sym (t.found e)) (keeps_commit s h w good i v at passes a (renewal s a v.held) e (holders s a v.held t.may)))
      (λ ne. subst Keeps (sym (t.raced ne)) loads_keep)

  splits_keep : (d : Core) → Splits c i v d → IsGoodCore d
  splits_keep d t =
      let v1 : View = loaded v w.word h in
      let views1 : List View = set w.views i v1 in
      let here : get_elem? views1 i ≡ some v1 = set_here w.views i v1 (at_below w.views i v at) in
      let two = splits s h _ loads_keep i v1 here passes t.root t.room in
      subst Keeps (sym t.leaves) (subst (λ (vs : List View). Good s h record w { views = vs ++ split_off v1 ∷ [] }) (set_over w.views i v1 (has_split v1)) two)

  -- the pass at i has a view more, one at j is spent, and then it loads the word
  then_load : (j : ℕ) (v1 : View) → v1.standing ≡ Pass → j ≢ i → Good s h record w { views = set (set w.views i v1) j spent }
      → Good s h record w { views = set (set w.views i (loaded v1 w.word h)) j spent }
  then_load j v1 passes1 ne g =
      let views1 : List View = set (set w.views i v1) j spent in
      let here : get_elem? views1 i ≡ some v1 = set_else (set w.views i v1) j i spent (λ e. ne (sym e)) ∙ set_here w.views i v1 (at_below w.views i v at) in
      let two = keeps_load s h _ g i v1 here passes1 in
      let same : set views1 i (loaded v1 w.word h) ≡ set (set w.views i (loaded v1 w.word h)) j spent =
      set_apart (set w.views i v1) i j (loaded v1 w.word h) spent (λ e. ne (sym e)) ∙ ap (λ (vs : List View). set vs j spent)
      (set_over w.views i v1 (loaded v1 w.word h)) in
      subst (λ (vs : List View). Good s h record w { views = vs }) same two

  joins_keep : (d : Core) (number : ℕ) → Joins c i v number d → IsGoodCore d
  joins_keep d number t =
      let ne : t.index ≢ i = λ e.
      t.other (sym t.is_at.number_is ∙ (ap (λ (x : View). x.number) (some-injective t.view v (sym t.is_at.at ∙ (ap (get_elem? w.views) e ∙ at)))
      ∙ t.root)) in
      subst Keeps (sym t.leaves)
      (then_load t.index (has_joined v t.view) passes ne (joins s h w good i v at passes t.root t.index t.view ne t.is_at.at t.is_at.passes t.bare))

  meets_keep : (d : Core) (n : ℕ) → Meets c i v n d → IsGoodCore d
  meets_keep d n t =
      let ne : t.index ≢ i = λ e. no_pass t.note t.is_at.is_note
      (ap (λ (x : View). x.standing) (some-injective t.note v (sym t.is_at.at ∙ (ap (get_elem? w.views) e ∙ at))) ∙ passes) in
      subst Keeps (sym t.leaves) (then_load t.index (has_met v t.note) passes ne (meets s h w good i v at passes t.index t.note t.is_at.at t.is_at.is_note))

  moves_keep : (k : Kind) (d : Core) → Moves c i v k d → IsGoodCore d
  moves_keep kind.Load d t = subst Keeps (sym t) loads_keep
  moves_keep (kind.Try p) d t = tries_keep d p t
  moves_keep (kind.TakeOut p) d t = subst Keeps (sym t.leaves) (takes_out s h w good i v at passes p t.content t.before t.behind t.held)
  moves_keep (kind.Commit a) d t = commits_keep d a t
  moves_keep (kind.PutHome p) d t = subst Keeps (sym t.leaves) (puts_home s h w good i v at passes p t.content t.before t.behind t.held)
  moves_keep (kind.Release p) d t = subst Keeps (sym t.leaves) (releases s h w good i v at passes p t.content t.before t.behind t.held)
  moves_keep kind.Split d t = splits_keep d t
  moves_keep kind.Note d t = subst Keeps (sym t) (notes s h w good i v at passes)
  moves_keep (kind.Join number) d t = joins_keep d number t
  moves_keep (kind.Meet n) d t = meets_keep d n t

pub steps : StepsKeep
steps c e d good one = ⊎_elim
    (λ (t : Does c e d). moves_keep c good t.index t.view t.is_at.at t.is_at.passes e.kind d t.moves)
    (λ (t : ((x : Core) → ¬ Does c e x) × (d ≡ c)). subst IsGoodCore (sym t.1) good) one

pub runs : RunsKeep
runs c [] d good run = subst IsGoodCore (sym run) good
runs c (e ∷ es) d good run = runs run.0 es d (steps c e run.0 good run.1) run.2
