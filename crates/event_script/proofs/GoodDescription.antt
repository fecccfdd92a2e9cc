-- Each line of the description leaves a good draft.
use Rattle.std.proofs.Common.{◌≡◌, ℕ, ◌-◌, ◌^◌, ◌<◌, ◌≤◌, Bool, true, false, not, ◌&&◌, nat_lt, nat_le, nat_eq, List, [], ◌∷◌, ◌++◌, length, set, replicate}
use Rattle.std.proofs.Common.{Option, Some, None, is_none, is_some, IfOk, ◌∙◌, refl, sym, arith}
use Rattle.std.specs.List.{list_all}
use Rattle.std.proofs.lemmas.Bool.{ltb-true, lt-ltb}
use Rattle.std.proofs.lemmas.List.{length-set, length-append, length-replicate}
use Rattle.gicr_regs.specs.declared.values.GicrRegisters.{GicrRegisters}
use Rattle.its_types.specs.Ranges.{most_vcpus}
use Rattle.its_types.specs.declared.ids.Addr.{Addr}
use Rattle.its_types.specs.declared.machine.Limits.{Limits}
use Rattle.event_script.specs.Text.{number}
use Rattle.event_script.specs.Fields.{arg, number_within, any_number, address, processor}
use Rattle.event_script.specs.Described.{most_stamp}
use Rattle.event_script.specs.Description.{at_start, in_description, count_line, shards_line, limits_line, ids_line, profile_of, profile_line}
use Rattle.event_script.specs.Description.{window_line, describes_tables, config_line, pending_line, gicr_line, is_given, is_shard_count, linux_line}
use Rattle.event_script.specs.Description.{track_line, allow_pair, pair_line, from_kvm_line}
use Rattle.event_script.specs.Limits.{are_limits}
use Rattle.event_script.specs.declared.fault.Kind.TheVariants as kind
use Rattle.event_script.specs.declared.draft.Draft.{Draft}
use Rattle.event_script.specs.declared.draft.Stage.TheVariants as stage
use Rattle.event_script.proofs.Steps.{left_true, both_true, below, bound, bound_by, ensured, IsBetween, number_in_range}
use Rattle.event_script.proofs.Good.{in_body, not_started, start_first, described_more, given_limits, HasDoors, IsFair, IsEarly, IsGood}

-- what was early stays so while calls are not read
pub still_early : (d e : Draft) → IsEarly d → e.legs ≡ d.legs → e.moves ≡ d.moves → e.phases ≡ d.phases → e.threads ≡ d.threads → e.calls ≡ d.calls
    → IsEarly e
still_early d e h l m p t c = record { legs = l ∙ h.legs; moves = m ∙ h.moves; phases = p ∙ h.phases; threads = t ∙ h.threads; calls = c ∙ h.calls }

-- what the lines so far gave is in range still, where it is the same but for registers, and for frames and requesters
pub still_fair : (d e : Draft) → IsFair d → e.stage ≡ d.stage → e.pending ≡ d.pending → e.shards ≡ d.shards → e.pair ≡ d.pair → e.limits ≡ d.limits
    → e.ids ≡ d.ids → e.windows ≡ d.windows → e.fills ≡ d.fills → e.fill_lines ≡ d.fill_lines
    → length e.registers ≡ length d.registers → HasDoors e.first e.second e.requesters e.requester_lines → IsFair e
still_fair d e h t p sh pr l i w f fl r doors = record {
  few = rw p h.few;
  some = rw (t, p) h.some;
  shards = rw sh h.shards;
  limits = rw (pr, l) h.limits;
  ids = rw i h.ids;
  windows = rw w h.windows;
  fills = rw f h.fills;
  fill_lines = rw (f, fl) h.fill_lines;
  registers = r ∙ rw p h.registers;
  doors = doors;
}

-- ---- lines of the description

pub shards_good : (d : Draft) (fs : List (List ℕ)) → IsGood d → IfOk (shards_line d fs) IsGood
unfolding shards_line
shards_good d fs h =
    ensured IsGood (in_description d.stage && is_none d.shards) kind.Order _ (λ order.
    let here = left_true (in_description d.stage) (is_none d.shards) order in
    ensured IsGood (nat_eq (length fs) 2) kind.Fields _ (λ _.
    bound IsGood (number_within 1 64 (arg fs 1)) _ (λ n.
    ensured IsGood (is_shard_count n) kind.Number _ (λ count.
    let e : Draft = record d { shards = Some n } in
    described_more e
    (record {
      few = h.fair.few;
      some = h.fair.some;
      shards = count;
      limits = h.fair.limits;
      ids = h.fair.ids;
      windows = h.fair.windows;
      fills = h.fair.fills;
      fill_lines = h.fair.fill_lines;
      registers = h.fair.registers;
      doors = h.fair.doors;
    })
    (still_early d e (h.early (not_started d.stage here)) refl refl refl refl refl) (not_started d.stage here)))))

pub count_good : (least most : ℕ) (d : Draft) (fs : List (List ℕ)) → 1 ≤ least → most ≤ most_vcpus → IsGood d → IfOk (count_line least most d fs) IsGood
unfolding count_line
count_good least most d fs some few h =
    ensured IsGood (at_start d.stage) kind.Order _ (λ start.
    ensured IsGood (nat_eq (length fs) 2) kind.Fields _ (λ _.
    bound_by IsGood (number_within least most (arg fs 1)) (IsBetween least most) _ (number_in_range least most (arg fs 1)) (λ n r.
    let table : Option Addr = None in
    let registers : Option GicrRegisters = None in
    let e : Draft = record d { stage = stage.Description; pending = replicate n table; registers = replicate n registers } in
    let count : length (replicate n table) ≡ n = length-replicate n table in
    described_more e
    (record {
      few = omega (arith, count, r.1, few);
      some = λ _. omega (arith, count, r.0, some);
      shards = h.fair.shards;
      limits = h.fair.limits;
      ids = h.fair.ids;
      windows = h.fair.windows;
      fills = h.fair.fills;
      fill_lines = h.fair.fill_lines;
      registers = length-replicate n registers ∙ sym count;
      doors = h.fair.doors;
    })
    (still_early d e (h.early (start_first d.stage start)) refl refl refl refl refl) refl)))

most_small : (pair : Bool) → most_stamp pair ≤ 2 ^ 24 - 1
most_small true = omega arith
most_small false = omega arith

pub limits_fit : (pair : Bool) (stamp place : ℕ) → IsBetween 1 (most_stamp pair) stamp → IsBetween 1 (2 ^ 40 - 1) place
    → given_limits pair (Some (record { stamp_last = stamp; place_last = place })) ≡ true
limits_fit pair stamp place s p =
    let small : stamp < 2 ^ 24 = omega (arith, s.1, most_small pair) in
    both_true (nat_le 1 stamp && nat_lt stamp (2 ^ 24) && nat_le 1 place && nat_lt place (2 ^ 40)) (nat_le stamp (most_stamp pair))
    (both_true (nat_le 1 stamp && nat_lt stamp (2 ^ 24) && nat_le 1 place) (nat_lt place (2 ^ 40))
    (both_true (nat_le 1 stamp && nat_lt stamp (2 ^ 24)) (nat_le 1 place)
    (both_true (nat_le 1 stamp) (nat_lt stamp (2 ^ 24)) (below 1 stamp s.0) (lt-ltb stamp (2 ^ 24) small))
    (below 1 place p.0))
    (lt-ltb place (2 ^ 40) (omega (arith, p.1))))
    (below stamp (most_stamp pair) s.1)

pub limits_good : (d : Draft) (fs : List (List ℕ)) → IsGood d → IfOk (limits_line d fs) IsGood
unfolding limits_line
limits_good d fs h =
    ensured IsGood (in_description d.stage && is_none d.limits) kind.Order _ (λ order.
    let off = not_started d.stage (left_true (in_description d.stage) (is_none d.limits) order) in
    ensured IsGood (nat_eq (length fs) 3) kind.Fields _ (λ _.
    bound_by IsGood (number_within 1 (most_stamp d.pair) (arg fs 1)) (IsBetween 1 (most_stamp d.pair)) _
    (number_in_range 1 (most_stamp d.pair) (arg fs 1)) (λ stamp s.
    bound_by IsGood (number_within 1 (2 ^ 40 - 1) (arg fs 2)) (IsBetween 1 (2 ^ 40 - 1)) _ (number_in_range 1 (2 ^ 40 - 1) (arg fs 2)) (λ place p.
    let e : Draft = record d { limits = Some (record { stamp_last = stamp; place_last = place }) } in
    described_more e
    (record {
      few = h.fair.few;
      some = h.fair.some;
      shards = h.fair.shards;
      limits = limits_fit d.pair stamp place s p;
      ids = h.fair.ids;
      windows = h.fair.windows;
      fills = h.fair.fills;
      fill_lines = h.fair.fill_lines;
      registers = h.fair.registers;
      doors = h.fair.doors;
    })
    (still_early d e (h.early off) refl refl refl refl refl) off))))

-- limits of two translators are limits
pair_limits : (pair : Bool) (o : Option Limits) → given_limits pair o ≡ true → allow_pair o ≡ true → given_limits true o ≡ true
pair_limits pair None h a = refl
pair_limits pair (Some l) h a = both_true (are_limits l) (nat_le l.stamp_last (most_stamp true)) (left_true (are_limits l) _ h) a

pub pair_good : (d : Draft) (fs : List (List ℕ)) → IsGood d → IfOk (pair_line d fs) IsGood
unfolding pair_line
pair_good d fs h =
    ensured IsGood (in_description d.stage && not d.pair) kind.Order _ (λ order.
    let off = not_started d.stage (left_true (in_description d.stage) (not d.pair) order) in
    ensured IsGood (nat_eq (length fs) 1) kind.Fields _ (λ _.
    ensured IsGood (allow_pair d.limits) kind.Number _ (λ allows.
    let e : Draft = record d { pair = true } in
    described_more e
    (record {
      few = h.fair.few;
      some = h.fair.some;
      shards = h.fair.shards;
      limits = pair_limits d.pair d.limits h.fair.limits allows;
      ids = h.fair.ids;
      windows = h.fair.windows;
      fills = h.fair.fills;
      fill_lines = h.fair.fill_lines;
      registers = h.fair.registers;
      doors = h.fair.doors;
    })
    (still_early d e (h.early off) refl refl refl refl refl) off)))

pub ids_good : (d : Draft) (fs : List (List ℕ)) → IsGood d → IfOk (ids_line d fs) IsGood
unfolding ids_line
ids_good d fs h =
    ensured IsGood (in_description d.stage && is_none d.ids) kind.Order _ (λ order.
    let off = not_started d.stage (left_true (in_description d.stage) (is_none d.ids) order) in
    ensured IsGood (nat_eq (length fs) 3) kind.Fields _ (λ _.
    bound_by IsGood (number_within 16 20 (arg fs 1)) (IsBetween 16 20) _ (number_in_range 16 20 (arg fs 1)) (λ dev p.
    bound_by IsGood (number_within 14 20 (arg fs 2)) (IsBetween 14 20) _ (number_in_range 14 20 (arg fs 2)) (λ lpi q.
    let e : Draft = record d { ids = Some (record { dev = dev; lpi = lpi }) } in
    described_more e
    (record {
      few = h.fair.few;
      some = h.fair.some;
      shards = h.fair.shards;
      limits = h.fair.limits;
      ids = (p, q);
      windows = h.fair.windows;
      fills = h.fair.fills;
      fill_lines = h.fair.fill_lines;
      registers = h.fair.registers;
      doors = h.fair.doors;
    })
    (still_early d e (h.early off) refl refl refl refl refl) off))))

pub profile_good : (d : Draft) (fs : List (List ℕ)) → IsGood d → IfOk (profile_line d fs) IsGood
unfolding profile_line
profile_good d fs h =
    ensured IsGood (in_description d.stage && is_none d.profile) kind.Order _ (λ order.
    let off = not_started d.stage (left_true (in_description d.stage) (is_none d.profile) order) in
    ensured IsGood (nat_eq (length fs) 2) kind.Fields _ (λ _.
    bound IsGood (number_within 1 2 (arg fs 1)) _ (λ n.
    let e : Draft = record d { profile = Some (profile_of n) } in
    described_more e (still_fair d e h.fair refl refl refl refl refl refl refl refl refl refl h.fair.doors)
    (still_early d e (h.early off) refl refl refl refl refl) off)))

pub window_good : (d : Draft) (fs : List (List ℕ)) → IsGood d → IfOk (window_line d fs) IsGood
unfolding window_line
window_good d fs h =
    ensured IsGood (in_description d.stage) kind.Order _ (λ here.
    let off = not_started d.stage here in
    ensured IsGood (nat_eq (length fs) 3) kind.Fields _ (λ _.
    bound IsGood (address (arg fs 1)) _ (λ base.
    bound IsGood (any_number (arg fs 2)) _ (λ len.
    ensured IsGood (nat_lt (length d.windows) 16) kind.Many _ (λ room.
    let e : Draft = record d { windows = d.windows ++ (base, len) ∷ [] } in
    described_more e
    (record {
      few = h.fair.few;
      some = h.fair.some;
      shards = h.fair.shards;
      limits = h.fair.limits;
      ids = h.fair.ids;
      windows = omega (arith, length-append d.windows ((base, len) ∷ []), ltb-true (length d.windows) 16 room);
      fills = h.fair.fills;
      fill_lines = h.fair.fill_lines;
      registers = h.fair.registers;
      doors = h.fair.doors;
    })
    (still_early d e (h.early off) refl refl refl refl refl) off)))))

no_body : (d : Draft) → describes_tables d ≡ true → in_body d.stage ≡ false
no_body d e = not_started d.stage (left_true (in_description d.stage) (not d.gicr) e)

pub config_good : (d : Draft) (fs : List (List ℕ)) → IsGood d → IfOk (config_line d fs) IsGood
unfolding config_line
config_good d fs h =
    ensured IsGood (describes_tables d && is_none d.config) kind.Order _ (λ order.
    let off = no_body d (left_true (describes_tables d) (is_none d.config) order) in
    ensured IsGood (nat_eq (length fs) 2) kind.Fields _ (λ _.
    bound IsGood (address (arg fs 1)) _ (λ base.
    let e : Draft = record d { config = Some base } in
    described_more e (still_fair d e h.fair refl refl refl refl refl refl refl refl refl refl h.fair.doors)
    (still_early d e (h.early off) refl refl refl refl refl) off)))

pub pending_good : (d : Draft) (fs : List (List ℕ)) → IsGood d → IfOk (pending_line d fs) IsGood
unfolding pending_line
pending_good d fs h =
    ensured IsGood (describes_tables d && not (is_given d.pending (number (arg fs 1)))) kind.Order _ (λ order.
    let off = no_body d (left_true (describes_tables d) (not (is_given d.pending (number (arg fs 1)))) order) in
    ensured IsGood (nat_eq (length fs) 3) kind.Fields _ (λ _.
    bound IsGood (processor (length d.pending) (arg fs 1)) _ (λ vcpu.
    bound IsGood (address (arg fs 2)) _ (λ base.
    let e : Draft = record d { pending = set d.pending vcpu.0 (Some base) } in
    let count : length e.pending ≡ length d.pending = length-set d.pending vcpu.0 (Some base) in
    described_more e
    (record {
      few = rw count h.fair.few;
      some = λ s. rw count (h.fair.some s);
      shards = h.fair.shards;
      limits = h.fair.limits;
      ids = h.fair.ids;
      windows = h.fair.windows;
      fills = h.fair.fills;
      fill_lines = h.fair.fill_lines;
      registers = h.fair.registers ∙ sym count;
      doors = h.fair.doors;
    })
    (still_early d e (h.early off) refl refl refl refl refl) off))))

pub gicr_good : (d : Draft) (fs : List (List ℕ)) → IsGood d → IfOk (gicr_line d fs) IsGood
unfolding gicr_line
gicr_good d fs h =
    ensured IsGood (describes_tables d && is_none d.config && list_all is_none d.pending) kind.Order _ (λ order.
    let none = left_true (describes_tables d && is_none d.config) (list_all is_none d.pending) order in
    let off = no_body d (left_true (describes_tables d) (is_none d.config) none) in
    ensured IsGood (nat_eq (length fs) 1) kind.Fields _ (λ _.
    let e : Draft = record d { gicr = true } in
    described_more e (still_fair d e h.fair refl refl refl refl refl refl refl refl refl refl h.fair.doors)
    (still_early d e (h.early off) refl refl refl refl refl) off))

pub linux_good : (d : Draft) (fs : List (List ℕ)) → IsGood d → IfOk (linux_line d fs) IsGood
unfolding linux_line
linux_good d fs h =
    ensured IsGood (in_description d.stage && not d.linux) kind.Order _ (λ order.
    let off = not_started d.stage (left_true (in_description d.stage) (not d.linux) order) in
    ensured IsGood (nat_eq (length fs) 1) kind.Fields _ (λ _.
    let e : Draft = record d { linux = true } in
    described_more e (still_fair d e h.fair refl refl refl refl refl refl refl refl refl refl h.fair.doors)
    (still_early d e (h.early off) refl refl refl refl refl) off))

pub track_good : (d : Draft) (fs : List (List ℕ)) → IsGood d → IfOk (track_line d fs) IsGood
unfolding track_line
track_good d fs h =
    ensured IsGood (in_description d.stage && not d.track) kind.Order _ (λ order.
    let off = not_started d.stage (left_true (in_description d.stage) (not d.track) order) in
    ensured IsGood (nat_eq (length fs) 1) kind.Fields _ (λ _.
    let e : Draft = record d { track = true } in
    described_more e (still_fair d e h.fair refl refl refl refl refl refl refl refl refl refl h.fair.doors)
    (still_early d e (h.early off) refl refl refl refl refl) off))

pub from_kvm_good : (d : Draft) (fs : List (List ℕ)) → IsGood d → IfOk (from_kvm_line d fs) IsGood
unfolding from_kvm_line
from_kvm_good d fs h =
    ensured IsGood (in_description d.stage && is_some d.first.restore && not d.from_kvm) kind.Order _ (λ order.
    let first = left_true (in_description d.stage && is_some d.first.restore) (not d.from_kvm) order in
    let off = not_started d.stage (left_true (in_description d.stage) (is_some d.first.restore) first) in
    ensured IsGood (nat_eq (length fs) 1) kind.Fields _ (λ _.
    let e : Draft = record d { from_kvm = true } in
    described_more e (still_fair d e h.fair refl refl refl refl refl refl refl refl refl refl h.fair.doors)
    (still_early d e (h.early off) refl refl refl refl refl) off))
