-- What a pass counts of its own calls.
use Rattle.std.specs.Prelude.{◌≡◌, ◌≢◌, ℕ, Bool, true, List, [], ◌∷◌, ◌++◌}
use Rattle.its_plain.specs.History.{after}
use Rattle.its_plain.specs.Plain.{Plain, maps_of}
use Rattle.its_plain.specs.declared.call.Call.{Call}
use Rattle.its_plain.specs.declared.call.Call.TheVariants as call
use Rattle.its_plain.specs.declared.call.Entry.{Entry}
use Rattle.its_plain.specs.declared.call.Reply.{Reply}
use Rattle.its_plain.specs.declared.call.Reply.TheVariants as replies
use Rattle.its_numbers.specs.Codes as codes
use Rattle.its_numbers.specs.Counters.{count_reply}
use Rattle.its_numbers.specs.Routes.{step_leaves_maps, is_no_table, counted}
use Rattle.its_numbers.specs.declared.counters.Counters.{Counters}
use Rattle.its_shared.specs.Knowing.{Known}
use Rattle.its_shared.specs.declared.answer.Answer.{Answer}
use Rattle.its_shared.specs.declared.answer.Answer.TheVariants.{Made}

-- ---- one call

-- a step that was answered so left the maps, and any other reply is none of a step
abbrev pub reply_leaves_maps : Reply → Bool
reply_leaves_maps (replies.Step step) = step_leaves_maps step
reply_leaves_maps other = true

-- a call that was answered so left the maps of every translator
abbrev pub leaves_maps : Call → Reply → Bool
leaves_maps (call.Step its) reply = reply_leaves_maps reply
leaves_maps (call.WriteReg its off size value) reply = is_no_table off
leaves_maps other reply = true

-- what a pass has counted after an answer
abbrev pub routes_after : {T : Type 0} → Call → (T → Reply) → Answer T → ℕ → ℕ
routes_after c f (Made p) n = counted (leaves_maps c (f p.reply)) n
routes_after c f other n = n

abbrev pub counters_after : {T : Type 0} → (T → Reply) → Answer T → Counters → Counters
counters_after f (Made p) counters = count_reply (f p.reply) counters
counters_after f other counters = counters

abbrev pub counted_so : {T : Type 0} → Call → (T → Reply) → Answer T → Known → Known
counted_so c f a k = record k { routes = routes_after c f a k.routes; counters = counters_after f a k.counters }

-- ---- as a caller in another language is told it

-- this was counted of an entry
pub record CountsEntry (e : Entry) (k l : Known) : Type 0 where
  pub routes : l.routes ≡ counted (leaves_maps e.call e.reply) k.routes
  pub counters : l.counters ≡ count_reply e.reply k.counters

-- the last entry that was seen is the call's own where it was done, and it was counted; else nothing was
pub record Counts (k l : Known) (code : ℕ) : Type 0 where
  pub done : code ≡ codes.done → (before : List Entry) (last : Entry) → l.view.seen ≡ before ++ last ∷ [] → CountsEntry last k l
  pub otherwise : code ≢ codes.done → (l.routes ≡ k.routes) × (l.counters ≡ k.counters)

-- the last entry of a history leaves the maps of every translator of the state before it
abbrev pub LastLeavesMaps : Plain → List Entry → Type 0
LastLeavesMaps start seen =
    (before : List Entry) (last : Entry) → seen ≡ before ++ last ∷ [] → (its : ℕ) → maps_of (after start seen) its ≡ maps_of (after start before) its

-- where a call was done and the count is the same, its entry leaves the maps of the state before it
abbrev pub KeepsRoutes : Known → Known → ℕ → Type 0
KeepsRoutes k l code = code ≡ codes.done → l.routes ≡ k.routes → LastLeavesMaps k.view.setup.start l.view.seen
