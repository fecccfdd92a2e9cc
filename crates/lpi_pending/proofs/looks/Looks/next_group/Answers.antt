use Rattle.std.proofs.Common.{◌+◌, ◌/◌, arith}
use Rattle.its_types.specs.Ranges.{lpi_count}
use Rattle.lpi_pending.proofs.Searching.{next_group, no_used_from}
use Rattle.lpi_pending.proofs.Bests.{none_in_unused_groups, none_up_to, none_to_end, groups_are, none_after}
use Rattle.lpi_pending.proofs.looks.Looks.next_group.Goals as goal

pub returns-in_default-next_group_below : goal.returns-in_default-next_group_below
returns-in_default-next_group_below g c =
    let words = c.self.inside.words.now in
    let config = c.self.inside.config.now.bytes in
    let s = c.self.invariant.summarized in
    let last = lpi_count c.self.inside.config.now.lpi_bits / 4096 in
    let next = next_group c.self.inside.summary.now c.loop-skipped.at c.in-Some.skipped c.in-Some.ensures in
    let before = none_in_unused_groups c.self.inside.summary.now words config c.args.limit c.args.from c.loop-skipped.at c.in-Some.skipped s next.1
    c.loop-skipped.invariant.before in
    rw (← c.self.view_is)
    (none_to_end c.self.inside.summary.now words config c.args.limit c.args.from last s
    (groups_are c.self.inside.summary.now words (lpi_count c.self.inside.config.now.lpi_bits) s c.self.invariant.size)
    (none_up_to words config c.args.limit c.args.from (c.loop-skipped.at + c.in-Some.skipped) last before c.in_default-next_group_below.ensures))

pub returns-then-group-used : goal.returns-then-group-used
returns-then-group-used g c =
    let words = c.self.inside.words.now in
    let config = c.self.inside.config.now.bytes in
    let s = c.self.invariant.summarized in
    let next = next_group c.self.inside.summary.now c.loop-skipped.at c.in-Some.skipped c.in-Some.ensures in
    let before = none_in_unused_groups c.self.inside.summary.now words config c.args.limit c.args.from c.loop-skipped.at c.in-Some.skipped s next.1
    c.loop-skipped.invariant.before in
    let first = c.in-Some-next_group_below.ensures in
    rw (← c.self.view_is) (record {
      from = omega (arith, c.loop-skipped.invariant.from, first.from);
      below = omega (arith, c.if-group-used.true, next.0, s.size);
      before = none_up_to words config c.args.limit c.args.from (c.loop-skipped.at + c.in-Some.skipped) c.in-Some-next_group_below.group before
          first.before;
    })

pub loop-skipped-preserved : goal.loop-skipped-preserved
loop-skipped-preserved g c =
    let words = c.self.inside.words.now in
    let config = c.self.inside.config.now.bytes in
    let s = c.self.invariant.summarized in
    let next = next_group c.self.inside.summary.now c.loop-skipped.at c.in-Some.skipped c.in-Some.ensures in
    let before = none_in_unused_groups c.self.inside.summary.now words config c.args.limit c.args.from c.loop-skipped.at c.in-Some.skipped s next.1
    c.loop-skipped.invariant.before in
    let first = c.in-Some-next_group_below.ensures in
    let all = groups_are c.self.inside.summary.now words (lpi_count c.self.inside.config.now.lpi_bits) s c.self.invariant.size in
    record {
      from = omega (arith, c.loop-skipped.invariant.from, first.from);
      within = omega (arith, first.below, all);
      before = none_up_to words config c.args.limit c.args.from (c.loop-skipped.at + c.in-Some.skipped) c.in-Some-next_group_below.group before
          first.before;
    }

pub returns : goal.returns
returns g c =
    let words = c.self.inside.words.now in
    let config = c.self.inside.config.now.bytes in
    rw (← c.self.view_is)
    (none_after words config c.args.limit c.args.from c.loop-skipped.at
    (no_used_from c.self.inside.summary.now words c.loop-skipped.at c.self.invariant.summarized c.loop-skipped.invariant.within c.in_default.ensures)
    c.loop-skipped.invariant.before)
