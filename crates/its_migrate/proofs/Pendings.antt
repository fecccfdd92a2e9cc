-- What is pending, one virtual processor after another, at rest.
use Rattle.std.proofs.Common.{◌≡◌, ◌<◌, ◌+◌, ℕ, List, [], ◌∷◌, ◌++◌, length, map, take, get_or, refl, ap, sym, ◌∙◌, subst}
use Rattle.std.proofs.Math.Seq.{take-length}
use Rattle.std.proofs.lemmas.List.{map-append, take_more}
use Rattle.its_types.specs.declared.ids.Intid.{Intid}
use Rattle.its_types.specs.declared.machine.Word.{Word}
use Rattle.its_plain.specs.Plain.{Redistributor, no_redistributor}
use Rattle.its_plain.specs.History.{after}
use Rattle.its_plain.specs.declared.call.Entry.{Entry}
use Rattle.its_plain.specs.declared.layout.Layout.{Layout}
use Rattle.its_steps.specs.Parts.{Setup, IsOfMachine, vcpu_count}
use Rattle.its_types.specs.declared.machine.Part.{Part}
use Rattle.its_steps.specs.Contents.{Content}
use Rattle.its_steps.specs.World.{View, loaded, took}
use Rattle.its_turns.specs.Told.{IsLone, Looks, IsLastOrLater, released}
use Rattle.held_parts.specs.Taking.{TakesInTime}
use Rattle.held_parts.proofs.Going.{took_alone}
use Rattle.held_parts.proofs.Wholes.{still_word}
use Rattle.its_migrate.specs.Resting.{Rests}

abbrev pub lpis_in : List Intid → List ℕ
lpis_in = map (λ i. i.0)

abbrev pub pending_in : Redistributor → List ℕ
pending_in r = r.pending

pub one_more_list : (xs : List (List Intid)) (x : List Intid) (rs : List Redistributor) (n : ℕ) → n < length rs → map lpis_in xs ≡ map pending_in (take n rs)
    → lpis_in x ≡ (get_or rs n no_redistributor).pending
    → map lpis_in (xs ++ x ∷ []) ≡ map pending_in (take (n + 1) rs)
one_more_list xs x rs n lt before here =
    map-append lpis_in xs (x ∷ []) ∙ ((λ d. before d ++ here d ∷ []) ∙ (sym (map-append pending_in (take n rs) (get_or rs n no_redistributor ∷ []))
    ∙ ap (λ (qs : List Redistributor). map pending_in qs) (sym (take_more rs n no_redistributor lt))))

pub all_lists : (rs : List Redistributor) (n : ℕ) → n ≡ length rs → map pending_in (take n rs) ≡ map pending_in rs
all_lists rs n e = ap (λ (k : ℕ). map pending_in (take k rs)) e ∙ ap (λ (qs : List Redistributor). map pending_in qs) (take-length rs)

-- ---- views

pub rests_looked : (v w : View) (z : Word) → IsLone v → Looks v z w → IsLastOrLater v z → Rests v w
rests_looked v w z alone looks later =
    let seen = looks.still alone in
    let last = still_word v z alone later in
    record {
      same = subst (λ (y : View). y ≡ record v { cache = y.cache; tries = record v.tries { won = y.tries.won } })
          (sym (looks.same ∙ (λ d. record v { last = last d; seen = seen d }))) refl;
    }

-- a part was got, the word read, and the part put back
pub rests_put : (v w x y : View) (p : Part) (c : Content) (z : Word) → IsLone v → TakesInTime v p c w → Looks w z x → IsLastOrLater w z → y ≡ released x
    → Rests v y
rests_put v w x y p c z lone takes looks later put =
    let here : w ≡ took v p c = took_alone v w p c takes lone in
    let lone_here = subst IsLone (sym here) lone in
    let seen = looks.still lone_here ∙ ap (λ (u : View). u.seen) here in
    let last = still_word w z lone_here later ∙ ap (λ (u : View). u.last) here in
    let back : y ≡ record v { cache = (took v p c).cache; tries = (took v p c).tries } = put ∙ (ap released (looks.same ∙ ap (λ (u : View).
    loaded u z x.seen) here) ∙ (λ d. record v { last = last d; seen = seen d; cache = (took v p c).cache; tries = (took v p c).tries })) in
    record { same = subst (λ (u : View). u ≡ record v { cache = u.cache; tries = record v.tries { won = u.tries.won } }) (sym back) refl }

-- there are as many redistributors as processors
pub as_many_rest : (s : Setup) (v w : View) (z : Word) → v.setup ≡ s → IsLone v → Looks v z w → length (after s.start v.seen).redistributors ≡ vcpu_count s
as_many_rest s v w z own alone looks =
    let m : IsOfMachine s (after s.start w.seen) = subst (λ (x : Setup). IsOfMachine x (after x.start w.seen)) own looks.machine in
    let at : IsOfMachine s (after s.start v.seen) = subst (λ (h : List Entry). IsOfMachine s (after s.start h)) (looks.still alone) m in
    at.sound.vcpus ∙ ap (λ (l : Layout). l.shape.vcpus) (sym at.layout)

module _ (v w : View) (rests : Rests v w) where
  pub rests_lone : IsLone v → IsLone w
  rests_lone alone = subst IsLone (sym rests.same) alone

  pub rests_free : v.held ≡ [] → w.held ≡ []
  rests_free bare = ap (λ (y : View). y.held) rests.same ∙ bare

  pub rests_seen : w.seen ≡ v.seen
  rests_seen = ap (λ (y : View). y.seen) rests.same

  pub rests_more : (x : View) → Rests w x → Rests v x
  rests_more x more = record {
    same = more.same ∙ ap (λ (y : View). record y { cache = x.cache; tries = record y.tries { won = x.tries.won } }) rests.same;
  }
