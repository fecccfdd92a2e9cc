-- All parts but shards were taken, and the word was read once more.
use Rattle.std.proofs.Common.{◌≡◌, List, [], refl, ap, sym, ◌∙◌, subst}
use Rattle.its_types.specs.declared.machine.Word.{Word}
use Rattle.its_plain.specs.History.{after}
use Rattle.its_plain.specs.declared.layout.Layout.{Layout}
use Rattle.lpi_pending.specs.InHand.{RedistParts}
use Rattle.owned_parts.specs.Owned.{AreAllInHand}
use Rattle.owned_parts.specs.declared.in_place.InPlace.{InPlace}
use Rattle.its_steps.specs.Contents.{Held}
use Rattle.its_steps.specs.Parts.{Setup}
use Rattle.its_steps.specs.World.{View, Tries}
use Rattle.its_turns.specs.Calls.{GoesOn}
use Rattle.its_turns.specs.Told.{Looks, IsLastOrLater}
use Rattle.its_turns.proofs.Telling.{goes_emptied, goes_looked, got_first}
use Rattle.held_parts.specs.Taking.{TakesOnly, holding}
use Rattle.held_parts.specs.Wholes.{IsNoShard, TakesWhole, state_of_whole}
use Rattle.held_parts.specs.declared.whole.Whole.{Whole}
use Rattle.held_parts.proofs.Wholes.{takes_whole}
use Rattle.its_shared.specs.Seeing.{HasSeen}
use Rattle.its_shared.proofs.Seen.{saw}

-- of the parts lent all redistributors are in hand
pub lent_hand : (i : InPlace) (l : Layout) (rs : RedistParts) → i.layout.now ≡ l → i.redists.now ≡ rs → AreAllInHand l.shape rs
    → AreAllInHand i.layout.now.shape i.redists.now
lent_hand i l rs layout redists all =
    subst (λ (k : Layout). AreAllInHand k.shape i.redists.now) (sym layout) (subst (λ (xs : RedistParts). AreAllInHand l.shape xs) (sym redists) all)

module _ (s : Setup) (v w x z : View) (whole : Whole) (own : v.setup ≡ s) (taken : TakesWhole s v whole w) (bare : v.held ≡ []) (word : Word)
    (looks : Looks w word x) (later : IsLastOrLater w word) (home : z ≡ holding x []) where
  abbrev t : Tries
  t = w.tries

  on : GoesOn v t w
  on = record {
    same = taken.same ∙ ap (λ (h : List Held). record v { seen = w.seen; last = w.last; held = h; cache = w.cache; tries = w.tries })
        (sym (ap (λ (y : View). y.held) taken.same));
    longer = taken.longer;
    tries = refl;
  }

  pub saw_whole : HasSeen v word.place z
  saw_whole = saw v w x z t on (λ lone. (taken.still lone).0) word looks (ap (λ (y : View). y.seen) home)
      (goes_emptied v x t (goes_looked v w t on x word looks) z home) (ap (λ (y : View). y.held) home ∙ sym bare)

  nothing : TakesOnly IsNoShard w w
  nothing = record { same = refl; got = got_first IsNoShard w; alone = λ _. refl }

  -- they are those of the state that the history leaves by then
  pub whole_now : (l : Layout) → l ≡ s.start.layout → state_of_whole l whole ≡ after v.setup.start z.seen
  whole_now l same =
      ap (λ (k : Layout). state_of_whole k whole) same
      ∙ ((takes_whole s w w x whole word (ap (λ (y : View). y.setup) taken.same ∙ own) nothing (ap (λ (y : View). y.held) taken.same) looks later
      taken.whole).state
      ∙ (λ d. after (sym own d).start (sym (ap (λ (y : View). y.seen) home) d)))
