-- Two parts were taken, the state was seen with them in hand, and they went home.
use Rattle.std.proofs.Common.{◌≡◌, ℕ, List, [], ◌∷◌, length, Result, Ok, Err, refl, ap, sym, ◌∙◌, subst}
use Rattle.std.specs.List.{AllByRecursion}
use Rattle.its_types.specs.declared.machine.Part.{Part}
use Rattle.its_types.specs.declared.machine.Placed.{Placed}
use Rattle.its_types.specs.declared.machine.Word.{Word}
use Rattle.its_plain.specs.History.{after, IsLegal}
use Rattle.its_plain.specs.Plain.{Plain}
use Rattle.its_plain.specs.declared.call.Entry.{Entry}
use Rattle.its_steps.specs.Contents.{Content, Held}
use Rattle.its_steps.specs.MayCommit.{IsRight}
use Rattle.its_steps.specs.Parts.{IsOfMachine, Right, Setup}
use Rattle.its_steps.specs.World.{View, Tries, took}
use Rattle.its_steps.proofs.Lists.{prefix_through}
use Rattle.its_turns.specs.Calls.{GoesOn, Stays, got_all}
use Rattle.its_turns.specs.Contents.{held_before}
use Rattle.its_turns.specs.Told.{released}
use Rattle.its_turns.proofs.Telling.{goes_first, goes_took, goes_released, lone_on, stays_from}
use Rattle.its_shared.specs.Seeing.{HasSeen, HasSeenBeside, Sees, SeesBeside}
use Rattle.its_shared.specs.declared.unseen.Unseen.{Unseen}
use Rattle.its_shared.specs.declared.unseen.Unseen.TheVariants.{Busy, NoMemory}

module _ (v y w z : View) (p q : Part) (c d : Content) (first : y ≡ took (took v p c) q d) (home : z ≡ released (released w)) where
  abbrev t : Tries
  t = got_all (q ∷ p ∷ []) v.tries

  on : GoesOn v t y
  on = goes_took v (took v p c) (got_all (p ∷ []) v.tries) (goes_took v v v.tries (goes_first v) (took v p c) p c refl) y q d first

  setup_is : y.setup ≡ v.setup
  setup_is = ap (λ (u : View). u.setup) first

  seen_is : z.seen ≡ w.seen
  seen_is = ap (λ (u : View). u.seen) home

  on_by : Stays y w → GoesOn v w.tries w
  on_by stays =
      let held : y.held ≡ w.held = sym (ap (λ (u : View). u.held) stays.same) in
      record {
        same = stays.same ∙ (ap (λ (u : View). record u { seen = w.seen; last = w.last; cache = w.cache; tries = w.tries }) on.same
            ∙ ap (λ (l : List Held). record v { seen = w.seen; last = w.last; held = l; cache = w.cache; tries = w.tries }) held);
        longer = prefix_through v.seen y.seen w.seen on.longer stays.longer;
        tries = refl;
      }

  stays_home : Stays y w → Stays v z
  stays_home stays =
      stays_from v z w.tries (goes_released v (released w) w.tries (goes_released v w w.tries (on_by stays) (released w) refl) z home)
      (ap (λ (u : View). u.held) home
      ∙ ap (λ (l : List Held). held_before (held_before l)) (ap (λ (u : View). u.held) stays.same ∙ ap (λ (u : View). u.held) first))

  state_is : after y.setup.start w.seen ≡ after v.setup.start z.seen
  state_is = λ i. after (setup_is i).start (sym seen_is i)

  saw_home : (place : ℕ) → HasSeenBeside y place w → HasSeen v place z
  saw_home place b = record {
    stays = stays_home b.seen.stays;
    legal = subst (λ (k : Setup). IsLegal k.start z.seen) setup_is (subst (λ (h : List Entry). IsLegal y.setup.start h) (sym seen_is) b.seen.legal);
    place_is = ap length seen_is ∙ b.seen.place_is;
    still = λ lone. seen_is ∙ b.seen.still (lone_on v y t on lone) ∙ ap (λ (u : View). u.seen) first;
  }

  machine_home : (place : ℕ) → HasSeenBeside y place w → IsOfMachine v.setup (after v.setup.start z.seen)
  machine_home place b = subst (λ (u : Plain). IsOfMachine v.setup u) state_is
      (subst (λ (k : Setup). IsOfMachine k (after y.setup.start w.seen)) setup_is b.machine)

  right_home : (place : ℕ) (b : HasSeenBeside y place w)
      → Right v.setup b.word (after v.setup.start z.seen) p c × Right v.setup b.word (after v.setup.start z.seen) q d
  right_home place b =
      let all : AllByRecursion (IsRight v.setup b.word (after v.setup.start z.seen)) (took (took v p c) q d).held =
      subst (λ (u : Plain). AllByRecursion (IsRight v.setup b.word u) (took (took v p c) q d).held) state_is
      (subst (λ (k : Setup). AllByRecursion (IsRight k b.word (after y.setup.start w.seen)) (took (took v p c) q d).held) setup_is
      (subst (λ (l : List Held). AllByRecursion (IsRight y.setup b.word (after y.setup.start w.seen)) l) (ap (λ (u : View). u.held) first) b.right)) in
      (all.1.0, all.0)

  -- what is told with them in hand is told, and more of it by what they have
  pub sees_home : {T : Type 0} (wants : Type 0) (is also : Plain → T → Type 0) (r : Result (Placed T) Unseen)
      → ((u : Plain) (word : Word) (x : T) → IsOfMachine v.setup u → Right v.setup word u p c → Right v.setup word u q d → is u x → also u x)
      → SeesBeside wants is y w r → Sees wants also v z r
  sees_home {T} wants is also (Ok r) more s =
      let b = s.0 in
      let right = right_home r.place b in (
        saw_home r.place b,
        more (after v.setup.start z.seen) b.word r.reply (machine_home r.place b) right.0 right.1
            (subst (λ (u : Plain). is u r.reply) state_is s.1),
      )
  sees_home wants is also (Err Busy) more s = (stays_home s.0, λ lone. s.1 (lone_on v y t on lone))
  sees_home wants is also (Err NoMemory) more s = (stays_home s.0, s.1)
