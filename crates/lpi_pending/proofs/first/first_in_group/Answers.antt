use Rattle.std.proofs.Common.{◌≢◌, refl, arith}
use Rattle.lpi_config.proofs.LowestBits.{lowest}
use Rattle.lpi_pending.proofs.Searching.{searched_first, searched_next, searched_all, found_in_group, one_less, some_left}
use Rattle.lpi_pending.proofs.first.first_in_group.Goals as goal

pub loop-left-init : goal.loop-left-init
loop-left-init g c = record {
  fits = omega arith;
  searched = searched_first c.args.looks.now.words c.args.looks.now.config c.args.group c.args.used c.requires.used;
  cost = refl;
}

pub first_in_word-requires : goal.first_in_word-requires
first_in_word-requires g c =
    let some : c.loop-left.left ≢ 0 = omega (arith, c.loop-left-test.true) in
    let low = lowest c.loop-left.left some c.loop-left.invariant.fits in
    omega (arith, c.requires.within, low.below)

pub with_bit-left-requires : goal.with_bit-left-requires
with_bit-left-requires g c =
    let some : c.loop-left.left ≢ 0 = omega (arith, c.loop-left-test.true) in
    (lowest c.loop-left.left some c.loop-left.invariant.fits).below

pub returns-in-Some-clause-found : goal.returns-in-Some-clause-found
returns-in-Some-clause-found g c =
    let some : c.loop-left.left ≢ 0 = omega (arith, c.loop-left-test.true) in
    let low = lowest c.loop-left.left some c.loop-left.invariant.fits in
    found_in_group c.args.looks.now.words c.args.looks.now.config c.args.group c.loop-left.left _ c.in-Some.first c.loop-left.invariant.searched low
    c.in-Some.ensures.found

pub returns-in-Some-clause-cost : goal.returns-in-Some-clause-cost
returns-in-Some-clause-cost g c =
    let some : c.loop-left.left ≢ 0 = omega (arith, c.loop-left-test.true) in
    let low = lowest c.loop-left.left some c.loop-left.invariant.fits in
    omega (arith, c.loop-left.invariant.cost, c.first_in_word.ensures.cost, some_left c.loop-left.left _ low)

pub loop-left-smaller : goal.loop-left-smaller
loop-left-smaller g c =
    let some : c.loop-left.left ≢ 0 = omega (arith, c.loop-left-test.true) in
    let low = lowest c.loop-left.left some c.loop-left.invariant.fits in
    omega (arith, one_less c.loop-left.left c.with_bit-left.result _ low c.with_bit-left.ensures.same c.with_bit-left.ensures.others)

pub loop-left-preserved : goal.loop-left-preserved
loop-left-preserved g c =
    let some : c.loop-left.left ≢ 0 = omega (arith, c.loop-left-test.true) in
    let low = lowest c.loop-left.left some c.loop-left.invariant.fits in
    record {
      fits = omega arith;
      searched = searched_next c.args.looks.now.words c.args.looks.now.config c.args.group c.loop-left.left c.with_bit-left.result _ c.loop-left.invariant.searched
          low.below
          c.in_default.ensures.found c.with_bit-left.ensures.others;
      cost = omega (
        arith,
        c.loop-left.invariant.cost,
        c.first_in_word.ensures.cost,
        one_less c.loop-left.left c.with_bit-left.result _ low c.with_bit-left.ensures.same
            c.with_bit-left.ensures.others,
      );
    }

pub returns-clause-found : goal.returns-clause-found
returns-clause-found g c =
    searched_all c.args.looks.now.words c.args.looks.now.config c.args.group c.loop-left.left c.loop-left.invariant.searched c.loop-left-test.false
