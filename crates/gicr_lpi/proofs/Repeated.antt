-- A call that needs some parts, tried again and again.
use Rattle.std.proofs.Common.{◌≡◌, ℕ, List, length, ap, ◌∙◌, arith}
use Rattle.std.specs.List.{AllByRecursion}
use Rattle.its_types.specs.declared.machine.Part.{Part}
use Rattle.its_plain.specs.declared.call.Call.{Call}
use Rattle.its_plain.specs.declared.call.Reply.{Reply}
use Rattle.its_steps.specs.World.{View, Tries}
use Rattle.its_steps.specs.declared.change.ShardChange.TheVariants.{Keep}
use Rattle.its_turns.specs.Calls.{Stays, IsPlaced, Leaves, GotOnly, StillAsks, got_all, WasRaced, WasSpent, GaveUp}
use Rattle.its_turns.specs.declared.commits.Raced.{Raced}
use Rattle.its_turns.specs.declared.turns.Busy.{Busy}
use Rattle.its_turns.proofs.Telling.{stays_again, placed_again, got_more}
use Rattle.gicr_lpi.specs.Tries.{FoundTaken}

module _ (P : Part → Type 0) (v w : View) (asks : StillAsks P v w) where
  -- such turns were got, and none was lost
  got_these : (x : View) (got : List Part) → AllByRecursion P got → x.tries ≡ got_all got w.tries → GotOnly P v x
  got_these x got only tries = got_more P v w x got asks.got only (ap (λ (t : Tries). t.won) tries)
      (let same = ap (λ (t : Tries). t.lost) tries in omega (arith, same))

  pub again_taken : (b : Busy) (x : View) → FoundTaken P w b x → StillAsks P v x
  again_taken b x f = record {
    stays = stays_again v w x asks.stays f.busy.stays;
    got = got_more P v w x f.got asks.got f.only (ap (λ (t : Tries). t.won) f.busy.tries)
        (let lost = ap (λ (t : Tries). t.lost) f.busy.tries in omega (arith, lost));
  }

  pub again_raced : (r : Raced) (x : View) → (got : List Part) × AllByRecursion P got × WasRaced w got r x → StillAsks P v x
  again_raced r x a = record { stays = stays_again v w x asks.stays a.2.stays; got = got_these x a.0 a.1 a.2.tries }

  pub asked_done : (c : Call) (r : Reply) (place : ℕ) (x : View)
      → (got : List Part) × AllByRecursion P got × IsPlaced w c r place x × Leaves Keep x × (x.tries ≡ got_all got w.tries)
      → IsPlaced v c r place x × Leaves Keep x × GotOnly P v x
  asked_done c r place x a = (placed_again v w x c r place asks.stays a.2, a.3, got_these x a.0 a.1 a.4)

  pub asked_spent : (x : View) → (got : List Part) × AllByRecursion P got × WasSpent w got x
      → Stays v x × (length x.seen ≡ v.setup.limits.place_last) × GotOnly P v x
  asked_spent x a = (
    stays_again v w x asks.stays a.2.stays,
    a.2.spent ∙ ap (λ (y : View). y.setup.limits.place_last) asks.stays.same,
    got_these x a.0 a.1 a.2.tries,
  )

  pub asked_given_up : (x : View) (got : List Part) → AllByRecursion P got → GaveUp w got x → Stays v x × GotOnly P v x
  asked_given_up x got only up = (stays_again v w x asks.stays up.stays, got_these x got only up.tries)
