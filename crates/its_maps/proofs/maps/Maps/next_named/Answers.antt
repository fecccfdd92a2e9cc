use Rattle.std.proofs.Common.{◌≡◌, ◌≤◌, ◌<◌, ℕ, Bool, true, false, nat_lt, Option, Some, None, IfSome, sym, ap, ◌∙◌, arith}
use Rattle.std.proofs.lemmas.Bool.{lt-ltb}
use Rattle.its_types.specs.declared.ids.Icid.{Icid}
use Rattle.its_maps.specs.Counting.{has_events, named}
use Rattle.its_maps.specs.NextNamed.{IsNext, end_of}
use Rattle.its_maps.proofs.Counted.{names_shown}
use Rattle.its_maps.proofs.maps.Maps.next_named.Goals as goal

found : (count : ℕ → ℕ) (has : ℕ → Bool) (from : ℕ) (next : Option Icid) → ((n : ℕ) → n < 65536 → nat_lt 0 (count n) ≡ has n) → IsNext count from next
    → IfSome next (λ icid. (from ≤ icid.0) × (has icid.0 ≡ true))
found count has from None same is = is.here
found count has from (Some icid) same is = (is.here.0, sym (same icid.0 is.low) ∙ lt-ltb 0 (count icid.0) is.here.1)

pub returns-clause-here : goal.returns-clause-here
returns-clause-here c =
    let m = c.self.inside in
    found (named m.counts.tally) _ c.args.from c.next.result (λ n low.
    names_shown m.counts m.devices.map m.collections.map c.self.invariant.1 n low ∙ ap (λ m. has_events m.maps n) c.self.view_is) c.next.ensures

pub returns-clause-before : goal.returns-clause-before
returns-clause-before c n from low =
    let m = c.self.inside in
    let most = c.next.ensures.most in
    sym (names_shown m.counts m.devices.map m.collections.map c.self.invariant.1 n (omega arith) ∙ ap (λ m. has_events m.maps n) c.self.view_is)
    ∙ ap (nat_lt 0) (c.next.ensures.before n from low)
