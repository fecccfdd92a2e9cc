-- When a translation may end: what a call leaves of the maps, and of the count of those that may have changed them.
use Rattle.std.specs.Prelude.{◌≡◌, ℕ, Bool}
use Rattle.its_plain.specs.Plain.{Plain, maps_of}
use Rattle.its_plain.specs.declared.call.StepReply.{StepReply}
use Rattle.its_numbers.specs.Counters.{count_step}
use Rattle.its_numbers.specs.Routes.{step_leaves_maps, counted}
use Rattle.its_c.specs.Keeping.{Held}

-- once a call left the machine in the state u
abbrev pub went_on : Held → Plain → Bool → Held
went_on h u leaves = record h { machine = u; routes = counted leaves h.routes }

-- once a step did, which was answered so
abbrev pub stepped : Held → Plain → StepReply → Held
stepped h u reply = record h { machine = u; routes = counted (step_leaves_maps reply) h.routes; counters = count_step reply h.counters }

-- where the count is the same, so are the maps of every translator, and each translation that there was
abbrev pub KeepsRoutes : Held → Held → Type 0
KeepsRoutes h k = k.routes ≡ h.routes → (its : ℕ) → maps_of k.machine its ≡ maps_of h.machine its
