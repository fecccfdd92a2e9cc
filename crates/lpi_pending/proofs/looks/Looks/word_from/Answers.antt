use Rattle.std.proofs.Common.{◌+◌, ◌*◌, ◌/◌, get_or, length, subst, sym, arith}
use Rattle.lpi_pending.specs.Looks.{Looked}
use Rattle.lpi_pending.specs.Priorities.{NoneBelow, IsNextGroup}
use Rattle.lpi_pending.proofs.Searching.{summary_word}
use Rattle.lpi_pending.proofs.Bests.{next_word_is, none_in_rest, none_to_group, none_below_and}
use Rattle.lpi_pending.proofs.looks.Looks.word_from.Goals as goal

pub returns-in-Some : goal.returns-in-Some
returns-in-Some g c =
    let words = c.self.inside.words.now in
    let config = c.self.inside.config.now.bytes in
    let s = c.self.invariant.summarized in
    let at = c.loop-at.at in
    rw (← c.self.view_is)
    (next_word_is words config c.args.limit c.args.from at c.in-Some.bit (get_or c.self.inside.summary.now (at / 64) 0)
    (summary_word c.self.inside.summary.now words (at / 64) s) c.in-Some.ensures c.loop-at.invariant.from
    (omega (arith, s.size, c.loop-at-test.true)) (omega (arith, s.size, s.small)) c.loop-at.invariant.before)

pub returns-in_default-next_group : goal.returns-in_default-next_group
returns-in_default-next_group g c =
    let words = c.self.inside.words.now in
    let config = c.self.inside.config.now.bytes in
    let s = c.self.invariant.summarized in
    let at = c.loop-at.at in
    let none : NoneBelow words config c.args.limit (4096 * (at / 64 + 1)) (64 * length words) =
    subst (λ (l : Looked). NoneBelow l.words l.config c.args.limit (4096 * (c.loop-at.at / 64 + 1)) (64 * length l.words)) (sym c.self.view_is)
    c.in_default-next_group.ensures in
    rw (← c.self.view_is)
    (none_below_and words config c.args.limit (64 * c.args.from) (4096 * (at / 64 + 1)) (64 * length words)
    (none_in_rest words config c.args.limit c.args.from at (get_or c.self.inside.summary.now (at / 64) 0)
    (summary_word c.self.inside.summary.now words (at / 64) s) c.in_default.ensures c.loop-at.invariant.before) none)

pub loop-at-preserved : goal.loop-at-preserved
loop-at-preserved g c =
    let words = c.self.inside.words.now in
    let config = c.self.inside.config.now.bytes in
    let s = c.self.invariant.summarized in
    let at = c.loop-at.at in
    let next : IsNextGroup words config c.args.limit (at / 64 + 1) c.in-Some-next_group.next =
    subst (λ (l : Looked). IsNextGroup l.words l.config c.args.limit (c.loop-at.at / 64 + 1) c.in-Some-next_group.next) (sym c.self.view_is)
    c.in-Some-next_group.ensures in
    let low = next.from in
    record {
      from = omega (arith, c.loop-at.invariant.from, low);
      before = none_to_group words config c.args.limit c.args.from (at / 64 + 1) c.in-Some-next_group.next
          (none_in_rest words config c.args.limit c.args.from at (get_or c.self.inside.summary.now (at / 64) 0)
          (summary_word c.self.inside.summary.now words (at / 64) s) c.in_default.ensures c.loop-at.invariant.before) next;
    }

pub loop-at-smaller : goal.loop-at-smaller
loop-at-smaller g c =
    let words = c.self.inside.words.now in
    let config = c.self.inside.config.now.bytes in
    let next : IsNextGroup words config c.args.limit (c.loop-at.at / 64 + 1) c.in-Some-next_group.next =
    subst (λ (l : Looked). IsNextGroup l.words l.config c.args.limit (c.loop-at.at / 64 + 1) c.in-Some-next_group.next) (sym c.self.view_is)
    c.in-Some-next_group.ensures in
    let low = next.from in
    omega (arith, low, c.loop-at-test.true)

pub returns : goal.returns
returns g c =
    let before = c.loop-at.invariant.before in
    rw (← c.self.view_is) (λ y low high. before y low (omega (arith, high, c.loop-at-test.false)))
