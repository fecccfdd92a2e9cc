use Rattle.std.proofs.Common.{ℕ, Bool, List, ap, ◌∙◌, arith, eqb, get_or}
use Rattle.std.specs.Prelude.{◌||◌}
use Rattle.std.proofs.lemmas.List.Filters.{dedup_is}
use Rattle.its_types.specs.declared.ids.Addr.{Addr}
use Rattle.guest_windows.specs.Fields.{pairs}
use Rattle.dirty_log.specs.Pages.{meets, is_there}
use Rattle.dirty_log.proofs.Listed.{range_at, there_more, sorted_once, take_all}
use Rattle.dirty_log.proofs.log.all_numbers.Goals as goal

pub push_numbers-requires : goal.push_numbers-requires
push_numbers-requires c = let l = c.loop-window in range_at c.args.windows.now l.window-index _ c.requires (omega (arith, c.loop-window-test.true))

pub loop-window-preserved : goal.loop-window-preserved
loop-window-preserved c =
    let l = c.loop-window in
    let ws = c.args.windows.now in
    let d : Addr × ℕ = (record { 0 = 0 }, 0) in
    λ n. let pushed = c.in_ok-push_numbers.ensures n in
    let before = l.invariant n in
    let more = there_more ws l.window-index n d (omega (arith, c.loop-window-test.true)) in
    pushed ∙ ap (λ (b : Bool). b || meets (get_or ws l.window-index d).0.0 (get_or ws l.window-index d).1 n) before ∙ more

pub returns : goal.returns
returns c =
    let l = c.loop-window in
    let ws = c.args.windows.now in
    dedup_is eqb c.sort_unstable.new.self.items c.dedup.new.self.items c.dedup.ensures.filtered
    ∙ sorted_once (pairs ws) l.numbers.items c.sort_unstable.new.self.items
    (λ n. l.invariant n ∙ ap (λ (xs : List (Addr × ℕ)). is_there (pairs xs) n) (take_all ws l.window-index (omega (arith, c.loop-window-test.false))))
    c.sort_unstable.ensures.permutation c.sort_unstable.ensures.sorted
