use Rattle.std.proofs.Common.{◌≡◌, ◌*◌, ◌/◌, drop, length, Some, None, sym, ap, ◌∙◌, arith}
use Rattle.std.specs.Prelude.{position}
use Rattle.lpi_pending.specs.Summaries.{is_nonzero}
use Rattle.lpi_pending.proofs.Masks.{at_four, found_in_four, none_in_four, found_after, none_after}
use Rattle.lpi_pending.proofs.lanes.first_nonzero.Goals as goal

pub overflow_add-result : goal.overflow_add-result
overflow_add-result c =
    let here = at_four c.args.words.now c.as_chunks.result.0.now c.loop-at.at c.as_chunks.ensures.front (omega (arith, c.as_chunks.ensures.front_len)) in
    let found = found_in_four c.args.words.now _ c.loop-at.at c.in-Some.lane here c.loop-at.invariant c.in-Some.ensures in
    omega (arith, here.inside, found.0)

pub returns-in-Some : goal.returns-in-Some
returns-in-Some c =
    let here = at_four c.args.words.now c.as_chunks.result.0.now c.loop-at.at c.as_chunks.ensures.front (omega (arith, c.as_chunks.ensures.front_len)) in
    (found_in_four c.args.words.now _ c.loop-at.at c.in-Some.lane here c.loop-at.invariant c.in-Some.ensures).1

pub loop-at-preserved : goal.loop-at-preserved
loop-at-preserved c =
    let here = at_four c.args.words.now c.as_chunks.result.0.now c.loop-at.at c.as_chunks.ensures.front (omega (arith, c.as_chunks.ensures.front_len)) in
    none_in_four c.args.words.now _ c.loop-at.at here c.loop-at.invariant c.in_default.ensures

pub returns-in-Some-first_word : goal.returns-in-Some-first_word
returns-in-Some-first_word c =
    let words = c.args.words.now in
    let at_end : 4 * length c.as_chunks.result.0.now ≡ length words / 4 * 4 = omega (arith, c.as_chunks.ensures.front_len) in
    let rest : Some c.in-Some-first_word.at ≡ position is_nonzero (drop (4 * length c.as_chunks.result.0.now) words) =
    c.in-Some-first_word.ensures ∙ ap (position is_nonzero) (c.as_chunks.ensures.back ∙ ap (λ n. drop n words) (sym at_end))
    in
    (found_after words (4 * length c.as_chunks.result.0.now) c.in-Some-first_word.at (λ k lt. c.loop-at.invariant k (omega (arith, lt, c.loop-at-test.false)))
    rest).1

pub returns-in-None : goal.returns-in-None
returns-in-None c =
    let words = c.args.words.now in
    let at_end : 4 * length c.as_chunks.result.0.now ≡ length words / 4 * 4 = omega (arith, c.as_chunks.ensures.front_len) in
    let rest : None ≡ position is_nonzero (drop (4 * length c.as_chunks.result.0.now) words) =
    c.in-None.ensures ∙ ap (position is_nonzero) (c.as_chunks.ensures.back ∙ ap (λ n. drop n words) (sym at_end))
    in
    none_after words (4 * length c.as_chunks.result.0.now) (λ k lt. c.loop-at.invariant k (omega (arith, lt, c.loop-at-test.false))) rest
