-- What a load, and a commit of what is held, tell a call.
use Rattle.std.proofs.Common.{◌≡◌, ◌<◌, List, length, ap, sym, ◌∙◌, subst}
use Rattle.its_types.specs.declared.machine.Word.{Word}
use Rattle.its_plain.specs.declared.call.Call.{Call}
use Rattle.its_plain.specs.declared.call.Reply.{Reply}
use Rattle.its_steps.specs.Parts.{Setup}
use Rattle.its_steps.specs.Calls.{staying, MayLeave}
use Rattle.its_steps.specs.MayCall.{MayCall}
use Rattle.its_steps.specs.Renewal.{renewal}
use Rattle.its_steps.specs.World.{View, loaded}
use Rattle.its_steps.specs.declared.change.ShardChange.{ShardChange}
use Rattle.its_steps.specs.Contents.{Held}
use Rattle.its_steps.proofs.Lists.{prefix_self, prefix_through}
use Rattle.its_turns.specs.Calls.{Makes}
use Rattle.its_turns.specs.Calls.{IsLost}
use Rattle.its_turns.specs.Steps.{IsRaced}
use Rattle.its_turns.specs.Told.{Looks, IsLone, Commits}
use Rattle.its_turns.specs.declared.attempts.Lost.{Lost}
use Rattle.its_turns.specs.declared.attempts.Lost.TheVariants as lost
use Rattle.its_turns.specs.declared.commits.Raced.{Raced}
use Rattle.its_steps.specs.declared.commit.Commit.{Commit}

-- ---- loads

pub looks_again : (v x y : View) (w z : Word) → Looks v w x → Looks x z y → Looks v z y
looks_again v x y w z a b =
    let is : x ≡ loaded v w x.seen = a.same in
    let b' : Looks (loaded v w x.seen) z y = subst (λ (u : View). Looks u z y) is b in
    record {
      same = b'.same;
      longer = prefix_through v.seen x.seen y.seen a.longer b'.longer;
      told = b'.told;
      legal = b'.legal;
      mine = b'.mine;
      place = b'.place;
      within = b'.within;
      machine = b'.machine;
      right = b'.right;
      still = λ alone. b'.still alone ∙ a.still alone;
      others = λ root. let k = b'.others root in record { given = k.given; whole = k.whole; joined = k.joined };
    }

pub looked_held : (v x : View) (w : Word) → Looks v w x → x.held ≡ v.held
looked_held v x w a = ap (λ (u : View). u.held) a.same

-- a commit that lost after a load
pub lost_after : (v x y : View) (w : Word) (r : Raced) → Looks v w x → w.place < v.setup.limits.place_last → IsRaced x w r y → IsLost v (lost.Raced r) y
lost_after v x y w r a room raced = (
  looks_again v x y w r.found a raced.looks,
  subst (λ (z : Word). z.place < v.setup.limits.place_last) (sym raced.expected_is) room,
  subst (λ (z : Word). z.place < r.found.place) (sym raced.expected_is) raced.later,
  (λ alone. raced.out (subst IsLone (sym a.same) alone)),
  record { mid = x; looks = subst (λ (z : Word). Looks v z x) (sym raced.expected_is) a; before = raced.looks.longer },
)

pub lost_held : (v x : View) (l : Lost) → IsLost v l x → x.held ≡ v.held
lost_held v x lost.Spent spent = looked_held v x x.last spent.0
lost_held v x (lost.Raced r) raced = looked_held v x r.found raced.0

-- ---- commits of what is held

module _ (s : Setup) (c : Call) (r : Reply) (change : ShardChange) (held : List Held) (owed : Word → List Held)
    (may : (w : Word) → w.place < s.limits.place_last → MayLeave s (staying w c r change) held (owed w)) (x : View) (has : x.held ≡ held) where
  pub may_here : (w : Word) → w.place < s.limits.place_last → MayCall s (staying w c r change) x.held
  may_here w room = subst (MayCall s (staying w c r change)) (sym has) (may w room).0

  pub owes_here : x.setup ≡ s → (w : Word) (y : View) → Makes x (staying w c r change) y → y.held ≡ owed w
  owes_here own w y made =
      ap (λ (u : View). u.held) made.view ∙ ((λ d. renewal (own d) (staying w c r change) (has d))
      ∙ (may w (subst (λ (z : Setup). w.place < z.limits.place_last) own made.room)).1)

-- a commit of the word that was read
pub makes_of : (v : View) (a : Commit) (y : View) → Commits v a y → length v.seen ≡ a.expected.place → a.expected.place < v.setup.limits.place_last
    → Makes v a y
makes_of v a y commits place room = record {
  seen = v.seen;
  longer = prefix_self v.seen;
  place = place;
  room = room;
  view = commits.view;
  legal = commits.legal;
}
