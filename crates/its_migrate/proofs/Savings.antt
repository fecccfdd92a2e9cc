-- A save while other passes go on.
use Rattle.std.proofs.Common.{◌≡◌, ◌<◌, ◌≤◌, ℕ, List, [], Result, Ok, Err, refl, ap, sym, ◌∙◌, subst, length}
use Rattle.std.specs.Option.{option_map}
use Rattle.guest_windows.specs.Drafts.{Laid}
use Rattle.its_types.specs.declared.machine.Word.{Word}
use Rattle.its_plain.specs.Answer.{save_reply, save_left}
use Rattle.its_plain.specs.History.{after}
use Rattle.its_plain.specs.Plain.{Plain}
use Rattle.its_plain.specs.Regions.{savable}
use Rattle.its_plain.specs.declared.call.Call.TheVariants as call
use Rattle.its_plain.specs.declared.fault.SaveFault.{SaveFault}
use Rattle.its_plain.specs.declared.layout.Layout.{Layout}
use Rattle.its_steps.specs.Calls.{staying, whole_held, MayLeave}
use Rattle.its_steps.specs.Contents.{Held}
use Rattle.its_steps.specs.MayCall.{MayCall}
use Rattle.its_steps.specs.Parts.{Setup, vcpu_count}
use Rattle.its_steps.specs.World.{View, Tries}
use Rattle.its_steps.specs.declared.change.ShardChange.TheVariants.{Keep}
use Rattle.its_steps.specs.declared.commit.Commit.{Commit}
use Rattle.its_steps.proofs.Lists.{prefix_through}
use Rattle.its_steps.proofs.Saves.{saves}
use Rattle.its_turns.specs.Calls.{Stays, IsPlaced, Leaves, GoesOn, Makes, IsLost, IsMade}
use Rattle.its_turns.specs.Told.{Looks}
use Rattle.its_turns.specs.declared.attempts.Lost.TheVariants as lost
use Rattle.its_turns.proofs.Telling.{may_here, owes_here, goes_first, goes_looked, goes_emptied, looked_held, stays_from, makes_from, made_emptied}
use Rattle.its_turns.proofs.Telling.{placed_from, leaves_from}
use Rattle.lpi_pending.specs.InHand.{RedistParts}
use Rattle.owned_parts.specs.Owned.{AreAllInHand, state_of, translators_of}
use Rattle.owned_parts.specs.Places.{AreNotInHand}
use Rattle.held_parts.specs.Taking.{holding}
use Rattle.held_parts.specs.Wholes.{redists_in, state_of_whole, held_whole, IsWholeOf, TakesWhole}
use Rattle.held_parts.specs.declared.whole.Whole.{Whole}
use Rattle.held_parts.proofs.Wholes.{whole_confs, whole_pends, held_is}
use Rattle.its_migrate.specs.Saving.{LeavesMemory, FoundSpent, Waits, answered, marked, memory_or, track_or}
use Rattle.its_migrate.proofs.Taken.{taken_state, holds_all}

abbrev Answer : Type 0
Answer = Result (Unit {0}) SaveFault

abbrev Found : Type 0
Found = Result (List Laid) SaveFault

-- what was found before the commit is what is answered, and what the save leaves
answer_found : (u : Plain) (r : Found) → LeavesMemory u r → answered r ≡ savable u
answer_found u (Ok pages) h = sym h.0
answer_found u (Err fault) h = sym h

left_found : (u : Plain) (r : Found) → LeavesMemory u r → record u { memory = memory_or u.memory r; track = track_or u r } ≡ save_left u (savable u)
left_found u (Ok pages) h = (λ d. record u { memory = h.1 d; track = marked u }) ∙ ap (λ (a : Answer). save_left u a) (sym h.0)
left_found u (Err fault) h = ap (λ (a : Answer). save_left u a) (sym h)

-- the same parts but for memory
pub record IsReplaced (u : Plain) (r : Found) (x y : Whole) : Type 0 where
  pub first : y.first ≡ x.first
  pub second : y.second ≡ x.second
  pub redists : redists_in y ≡ redists_in x
  pub memory : y.memory.value.memory ≡ memory_or x.memory.value.memory r
  pub track : y.memory.value.track ≡ track_or u r

-- one wait after another
goes_then : (v w p : View) (t : Tries) → GoesOn v t w → GoesOn w w.tries p → GoesOn v t p
goes_then v w p t first last = record {
  same = last.same ∙ ap (λ (y : View). record y { seen = p.seen; last = p.last; held = p.held; cache = p.cache; tries = p.tries }) first.same;
  longer = prefix_through v.seen w.seen p.seen first.longer last.longer;
  tries = last.tries ∙ first.tries;
}

pub waits_more : (v w y : View) (z : Word) → Waits v w → Looks w z y → Waits v y
waits_more v w y z waits looks = record { on = goes_looked v w v.tries waits.on y z looks; held = looked_held w y z looks ∙ waits.held }

pub waits_first : (v : View) → Waits v v
waits_first v = record { on = goes_first v; held = refl }

module _ (s : Setup) (v w : View) (x : Whole) (taken : TakesWhole s v x w) (l : Layout) (same : l ≡ s.start.layout) where
  abbrev u : Plain
  u = after s.start w.seen

  module _ (found : Found) (finds : LeavesMemory (state_of_whole l x) found) where
    now_found : LeavesMemory u found
    now_found = subst (λ (z : Plain). LeavesMemory z found) (taken_state s v w x taken l same) finds

    abbrev left_held : List Held
    left_held = whole_held (save_left u (savable u))

    leaves : (z : Word) → z.place < s.limits.place_last → MayLeave s (staying z call.Save (save_reply (answered found)) Keep) (whole_held u) left_held
    leaves z room = subst (λ (q : Answer). MayLeave s (staying z call.Save (save_reply q) Keep) (whole_held u) left_held) (sym (answer_found u found now_found))
        (saves s z u taken.machine room)

    pub save_may : (z : Word) → z.place < s.limits.place_last → MayCall s (staying z call.Save (save_reply (answered found)) Keep) w.held
    save_may = may_here s call.Save (save_reply (answered found)) Keep (whole_held u) (λ _. left_held) leaves w (holds_all s v w x taken l same)

    -- what is in hand once the tables are written
    module _ (y : Whole) (is : IsReplaced (state_of_whole l x) found x y) where
      pub replaced_whole : IsWholeOf s y
      replaced_whole = record {
        translators = (λ d. length (translators_of (is.first d).value (option_map (λ b. b.value) (is.second d)))) ∙ taken.whole.translators;
        all_in_hand = subst (λ (rs : RedistParts). AreAllInHand s.start.layout.shape rs) (sym is.redists) taken.whole.all_in_hand;
        no_others = subst (λ (rs : RedistParts). (k : ℕ) → vcpu_count s ≤ k → AreNotInHand rs k) (sym is.redists) taken.whole.no_others;
        conf_room = ap (λ (rs : RedistParts). length rs.confs) is.redists ∙ taken.whole.conf_room;
        pend_room = ap (λ (rs : RedistParts). length rs.pends) is.redists ∙ taken.whole.pend_room;
      }

      replaced_state : state_of_whole s.start.layout y ≡ save_left u (savable u)
      replaced_state =
          let given = taken.state in
          let there = taken_state s v w x taken l same in
          (λ d. state_of s.start.layout (translators_of (is.first d).value (option_map (λ b. b.value) (is.second d))) (is.memory d) (is.track d) (is.redists d))
          ∙ ((λ d. record (given d) { memory = memory_or (given d).memory found; track = track_or (there d) found }) ∙ left_found u found now_found)

      -- all that is owed is in hand
      pub save_owes : w.setup ≡ s → (p : View) → Waits w p → (z : Word) (q : View) → Makes p (staying z call.Save (save_reply (answered found)) Keep) q
          → q.held ≡ held_whole s y
      save_owes own p waits z q made =
          owes_here s call.Save (save_reply (answered found)) Keep (whole_held u) (λ _. left_held) leaves p
          (waits.held ∙ holds_all s v w x taken l same) (ap (λ (k : View). k.setup) waits.on.same ∙ own) z q made
          ∙ (ap (λ (k : Plain). whole_held k) (sym replaced_state) ∙ sym (held_is s y (whole_confs s y replaced_whole) (whole_pends s y replaced_whole)))

  -- ---- what the pass knows

  goes_taken : GoesOn v w.tries w
  goes_taken = record {
    same = taken.same ∙ ap (λ (h : List Held). record v { seen = w.seen; last = w.last; held = h; cache = w.cache; tries = w.tries })
        (sym (ap (λ (y : View). y.held) taken.same));
    longer = taken.longer;
    tries = refl;
  }

  module _ (p : View) (waits : Waits w p) where
    goes_mid : GoesOn v w.tries p
    goes_mid = goes_then v w p w.tries goes_taken waits.on

    module _ (y z : View) (home : z ≡ holding y []) (bare : v.held ≡ []) where
      home_held : z.held ≡ v.held
      home_held = ap (λ (q : View). q.held) home ∙ sym bare

      pub save_placed : (a : Commit) → a.stamp ≡ a.expected.stamp → Makes p a y → IsPlaced v a.call a.reply a.expected.place z × Leaves a.change z
      save_placed a stamp made =
          let most : IsMade v w.tries a z = made_emptied v y w.tries a (makes_from v p w.tries goes_mid a y made) z home in
          (placed_from v z w.tries a most home_held, leaves_from v z w.tries a most stamp)

      pub save_spent : IsLost p lost.Spent y → FoundSpent v z
      save_spent spent = record {
        stays = stays_from v z w.tries (goes_emptied v y w.tries (goes_looked v p w.tries goes_mid y y.last spent.0) z home) home_held;
        spent = ap (λ (q : View). length q.seen) home ∙ (spent.0.place ∙ (spent.1 ∙ ap (λ (q : View). q.setup.limits.place_last) goes_mid.same));
      }

  pub none_saved : (z : View) → z ≡ holding w [] → v.held ≡ [] → Stays v z
  none_saved z home bare = stays_from v z w.tries (goes_emptied v w w.tries goes_taken z home) (ap (λ (q : View). q.held) home ∙ sym bare)
