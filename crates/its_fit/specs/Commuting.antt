-- Calls that commute.
use Rattle.std.specs.Prelude.{◌≡◌, ℕ, ◌^◌, ◌≤◌, List, length}
use Rattle.its_plain.specs.Answer.{answer, reply_of}
use Rattle.its_plain.specs.Plain.{Plain}
use Rattle.its_plain.specs.declared.call.Call.{Call}
use Rattle.its_history.specs.Texts.{answered_text}
use Rattle.plain_footprint.specs.Laws.{HasRedistributors}

-- there are just the redistributors that the layout says, and no more than numbers for them
pub record IsSmall (u : Plain) : Type 0 where
  pub has : HasRedistributors u
  pub few : length u.redistributors ≤ 2 ^ 16

-- in both orders each call is answered alike, and the same state is left
pub record BothOrders (u : Plain) (c d : Call) : Type 0 where
  pub reply : reply_of u c ≡ reply_of (answer u d).1 c
  pub other_reply : reply_of u d ≡ reply_of (answer u c).1 d
  pub left : (answer (answer u d).1 c).1 ≡ (answer (answer u c).1 d).1

-- in every state
abbrev pub CallsCommute : Call → Call → Type 0
CallsCommute c d = (u : Plain) → HasRedistributors u → BothOrders u c d

-- in every state in which the second is answered as the second text says, and then the first as the first text does
abbrev pub CommuteAsTold : Call → List ℕ → Call → List ℕ → Type 0
CommuteAsTold c text d other =
    (u : Plain) → IsSmall u → other ≡ answered_text d (reply_of u d) → text ≡ answered_text c (reply_of (answer u d).1 c) → BothOrders u c d
