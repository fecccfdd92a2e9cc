-- A commit that is tried again with the word that it found.
use Rattle.std.proofs.Common.{◌≡◌, ◌<◌, length, refl, ap, sym, ◌∙◌, subst, inl, inr, ⊎_elim}
use Rattle.its_types.specs.declared.machine.Word.{Word}
use Rattle.its_plain.specs.History.{IsLegal}
use Rattle.its_plain.specs.declared.call.Call.{Call}
use Rattle.its_plain.specs.declared.call.Reply.{Reply}
use Rattle.its_steps.specs.Calls.{staying}
use Rattle.its_steps.specs.Renewal.{renewal}
use Rattle.its_steps.specs.World.{View, loaded, committed}
use Rattle.its_steps.specs.declared.change.ShardChange.{ShardChange}
use Rattle.its_steps.proofs.Lists.{prefix_through}
use Rattle.its_turns.proofs.Steps.{looks_again, lost_after, makes_of}
use Rattle.its_turns.specs.Calls.{Makes, IsLost}
use Rattle.its_turns.specs.Steps.{IsRaced, at_word, ComesTo, CommitsAt, IsRacedAt}
use Rattle.its_turns.specs.Told.{Looks, IsLone, Commits}
use Rattle.its_turns.specs.declared.attempts.Lost.TheVariants as lost
use Rattle.its_turns.specs.declared.commits.Raced.{Raced}
use Rattle.its_steps.specs.declared.commit.Commit.{Commit}

-- ---- the first exchange, and further ones

module _ (v : View) (first : Word) where
  pub comes_first : first.place < v.setup.limits.place_last → ComesTo v first first v
  comes_first room = record { stamp = refl; room = room; read = inl (refl, refl) }

  pub raced_first : first.place < v.setup.limits.place_last → (r : Raced) (x : View) → IsRaced v first r x → IsRacedAt v first r x
  raced_first room r x raced =
      let z = subst (λ (w : Word). ComesTo v first w v × IsRaced v w r x) (sym raced.expected_is) (comes_first room, raced) in
      record { mid = v; comes = z.0; raced = z.1 }

  module _ (r : Raced) (x : View) (before : IsRacedAt v first r x) where
    pub raced_looks : Looks v r.found x
    raced_looks = ⊎_elim
        (λ (e : (before.mid ≡ v) × (r.expected ≡ first)). subst (λ (u : View). Looks u r.found x) e.0 before.raced.looks)
        (λ (looks : Looks v r.expected before.mid). looks_again v before.mid x r.expected r.found looks before.raced.looks)
        before.comes.read

    pub raced_out : ¬ IsLone v
    raced_out alone = ⊎_elim
        (λ (e : (before.mid ≡ v) × (r.expected ≡ first)). before.raced.out (subst IsLone (sym e.0) alone))
        (λ (looks : Looks v r.expected before.mid). before.raced.out (subst IsLone (sym looks.same) alone))
        before.comes.read

    module _ (stamp : r.found.stamp ≡ first.stamp) (room : r.found.place < v.setup.limits.place_last) where
      pub comes_more : ComesTo v first r.found x
      comes_more = record { stamp = stamp; room = room; read = inr raced_looks }

      pub raced_more : (q : Raced) (y : View) → IsRaced x r.found q y → IsRacedAt v first q y
      raced_more q y raced =
          let z = subst (λ (w : Word). ComesTo v first w x × IsRaced x w q y) (sym raced.expected_is) (comes_more, raced) in
          record { mid = x; comes = z.0; raced = z.1 }

pub made_first : (v : View) (a : Commit) (x : View) → a.expected.place < v.setup.limits.place_last → Commits v a x → CommitsAt v a a.expected x
made_first v a x room commits = record { mid = v; comes = comes_first v a.expected room; commits = commits }

pub made_more : (v : View) (a : Commit) (r : Raced) (x y : View) → IsRacedAt v a.expected r x → r.found.stamp ≡ a.expected.stamp
    → r.found.place < v.setup.limits.place_last → Commits x (at_word a r.found) y → CommitsAt v a r.found y
made_more v a r x y before stamp room commits = record { mid = x; comes = comes_more v a.expected r x before stamp room; commits = commits }

-- ---- what they tell a call

-- what was looked up to before is looked up to
pub comes_from : (v x u : View) (first w : Word) → Looks v first x → ComesTo x first w u → Looks v w u
comes_from v x u first w looks comes = ⊎_elim
    (λ (e : (u ≡ x) × (w ≡ first)). subst (λ (z : Word × View). Looks v z.0 z.1) (λ d. (sym e.1 d, sym e.0 d)) looks)
    (λ (more : Looks x w u). looks_again v x u first w looks more)
    comes.read

-- a call that was made after a load
pub makes_after : (v x y : View) (w : Word) (a : Commit) → Looks v w x → Makes x a y → Makes v a y
makes_after v x y w a looks made = record {
  seen = made.seen;
  longer = prefix_through v.seen x.seen made.seen looks.longer made.longer;
  place = made.place;
  room = subst (λ (u : View). a.expected.place < u.setup.limits.place_last) looks.same made.room;
  view = made.view ∙ ap (λ (u : View). committed (loaded u a.expected made.seen) made.seen a (renewal u.setup a u.held)) looks.same;
  legal = subst (λ (u : View). IsLegal u.setup.start y.seen) looks.same made.legal;
}

-- at another word, one that leaves the stamp as it is leaves that one's
pub stays_at : (c : Call) (r : Reply) (change : ShardChange) (first w : Word) → w.stamp ≡ first.stamp
    → at_word (staying first c r change) w ≡ staying w c r change
stays_at c r change first w stamp = λ d. record { expected = w; stamp = sym stamp d; call = c; reply = r; change = change }

pub makes_at : (v : View) (c : Call) (r : Reply) (change : ShardChange) (first w : Word) (y : View) → length v.seen ≡ first.place
    → CommitsAt v (staying first c r change) w y → Makes v (staying w c r change) y
makes_at v c r change first w y place made =
    let a : Commit = staying w c r change in
    let u = made.mid in
    let room = made.comes.room in
    let commits = subst (λ (b : Commit). Commits u b y) (stays_at c r change first w made.comes.stamp) made.commits in
    ⊎_elim
    (λ (e : (u ≡ v) × (w ≡ first)). makes_of v a y (subst (λ (z : View). Commits z a y) e.0 commits)
    (place ∙ ap (λ (z : Word). z.place) (sym e.1)) room)
    (λ (looks : Looks v w u). makes_after v u y w a looks
    (makes_of u a y commits looks.place (subst (λ (z : View). w.place < z.setup.limits.place_last) (sym looks.same) room)))
    made.comes.read

-- what it owes then
pub owed_at : (v : View) (a : Commit) (w : Word) (y : View) → CommitsAt v a w y → y.held ≡ renewal v.setup (at_word a w) v.held
owed_at v a w y made =
    let u = made.mid in
    ap (λ (z : View). z.held) made.commits.view ∙ ⊎_elim
    (λ (e : (u ≡ v) × (w ≡ a.expected)). ap (λ (z : View). renewal z.setup (at_word a w) z.held) e.0)
    (λ (looks : Looks v w u). ap (λ (z : View). renewal z.setup (at_word a w) z.held) looks.same)
    made.comes.read

-- one that was not made
pub lost_at : (v x y : View) (first : Word) (r : Raced) → Looks v first x → IsRacedAt x first r y → IsLost v (lost.Raced r) y
lost_at v x y first r looks raced = lost_after v raced.mid y r.expected r (comes_from v x raced.mid first r.expected looks raced.comes)
    (subst (λ (u : View). r.expected.place < u.setup.limits.place_last) looks.same raced.comes.room) raced.raced
