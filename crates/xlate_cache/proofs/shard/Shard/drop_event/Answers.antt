use Rattle.std.proofs.Common.{◌≡◌, get_or, set, None, ◌+◌, ◌<◌, sym, ap, ◌∙◌, subst, arith}
use Rattle.xlate_cache.specs.Ways.{is_of, first_way, dropped, IsShard}
use Rattle.xlate_cache.proofs.Founds.{dropped_kept}
use Rattle.xlate_cache.proofs.Sets.{dropped_shard, set_below}
use Rattle.xlate_cache.proofs.Lawful.{IsPartlyDropped, drops, drop_begins, drop_more, keep_more, drop_ends}
use Rattle.xlate_cache.proofs.shard.Shard.drop_event.Goals as goal
use Rattle.xlate_cache.proofs.shard.Shard.drop_event.Goals.{then-is_of, else-is_of}

pub loop-way-init : goal.loop-way-init
loop-way-init c = subst (λ way. IsPartlyDropped c.self.inside.ways.value c.self.inside.ways.value c.args.dev.0 c.args.ev.0 way) (sym c.first_way-first.ensures)
    (drop_begins c.self.inside.ways.value c.self.invariant c.args.dev.0 c.args.ev.0)

pub loop-way-preserved : goal.loop-way-preserved
loop-way-preserved c =
    let old = c.self.inside.ways.value in
    let new = c.loop-way.self-inside.ways.value in
    let part = c.loop-way.invariant in
    let below = set_below c.args.dev.0 c.args.ev.0 in
    let in_range : c.loop-way.way < 256 = omega (arith, c.first_way-first.ensures) in
    let tested = ap (λ ways. is_of c.args.dev.0 c.args.ev.0 (get_or ways c.loop-way.way None)) (sym c.deref.ensures) ∙ sym c.is_of.ensures in
    elim c.if-is_of.branch [
      | then-is_of w ↦ subst (λ s. IsPartlyDropped old s.ways.value c.args.dev.0 c.args.ev.0 (c.loop-way.way + 1)) (sym w.self-inside-is)
          (subst (λ ways. IsPartlyDropped old (set ways c.loop-way.way None) c.args.dev.0 c.args.ev.0 (c.loop-way.way + 1)) (sym w.deref_mut.ensures.value)
          (drop_more old new c.args.dev.0 c.args.ev.0 c.loop-way.way part in_range (tested ∙ w.if-is_of.true)))
      | else-is_of w ↦ subst (λ s. IsPartlyDropped old s.ways.value c.args.dev.0 c.args.ev.0 (c.loop-way.way + 1)) (sym w.self-inside-is)
          (keep_more old new c.args.dev.0 c.args.ev.0 c.loop-way.way part (tested ∙ w.if-is_of.false))
    ]

pub invariant_of-self : goal.invariant_of-self
invariant_of-self c =
    let last : c.loop-way.way ≡ first_way c.args.dev.0 c.args.ev.0 + 4 = omega (arith, c.first_way-first.ensures) in
    let part = subst (λ way. IsPartlyDropped c.self.inside.ways.value c.loop-way.self-inside.ways.value c.args.dev.0 c.args.ev.0 way) last
    c.loop-way.invariant in
    subst IsShard (sym (drop_ends c.self.inside.ways.value c.loop-way.self-inside.ways.value c.self.invariant c.args.dev.0 c.args.ev.0 part))
    (dropped_shard c.self.inside.ways.value c.args.dev.0 c.args.ev.0 c.self.invariant)

pub returns-clause-ways : goal.returns-clause-ways
returns-clause-ways c =
    let last : c.loop-way.way ≡ first_way c.args.dev.0 c.args.ev.0 + 4 = omega (arith, c.first_way-first.ensures) in
    let part = subst (λ way. IsPartlyDropped c.self.inside.ways.value c.loop-way.self-inside.ways.value c.args.dev.0 c.args.ev.0 way) last
    c.loop-way.invariant in
    drop_ends c.self.inside.ways.value c.loop-way.self-inside.ways.value c.self.invariant c.args.dev.0 c.args.ev.0 part
    ∙ ap (λ ways. dropped ways c.args.dev.0 c.args.ev.0) c.self.view_is

pub returns-clause-found : goal.returns-clause-found
returns-clause-found c = drops c.args.self.now c.args.dev.0 c.args.ev.0

pub returns-clause-entries : goal.returns-clause-entries
returns-clause-entries c = dropped_kept c.args.dev.0 c.args.ev.0 c.args.self.now
