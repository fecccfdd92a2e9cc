use Rattle.std.proofs.Common.{◌<◌, ap, sym, ◌∙◌, subst, arith}
use Rattle.its_types.specs.declared.machine.Word.{Word}
use Rattle.its_steps.specs.Parts.{Setup}
use Rattle.its_steps.specs.World.{View}
use Rattle.its_turns.specs.Machines.{setup, view}
use Rattle.its_turns.proofs.Coming.{made_more, raced_more}
use Rattle.its_turns.proofs.Steps.{looked_held}
use Rattle.its_turns.proofs.commits.commit_further.Goals as goal

pub returns-in-Ok-clause-result : goal.returns-in-Ok-clause-result
returns-in-Ok-clause-result c v own before =
    let m = c.args.machine.now in let r = c.loop.raced in
    let room : r.found.place < (setup m).limits.place_last = omega (arith, c.if-found-place_last.false, c.place_last.ensures) in
    made_more v c.args.made.now.value r (view c.loop.pass) (view c.exchange_at.new.pass) (c.loop.invariant.3 v own before) (c.if-found-first.false ∙ ap (λ (w : Word). w.stamp) c.requires.expected)
    (subst (λ (s : Setup). r.found.place < s.limits.place_last) (sym own) room) c.in-Ok.ensures.result.1

pub loop-preserved : goal.loop-preserved
loop-preserved c =
    let m = c.args.machine.now in let r = c.loop.raced in let raced = c.in-Err.ensures.result in let x = view c.loop.pass in let y = view c.exchange_at.new.pass in
    let room : r.found.place < (setup m).limits.place_last = omega (arith, c.if-found-place_last.false, c.place_last.ensures) in (
      c.exchange_at.ensures.of,
      ap (λ (u : View). u.last) (sym raced.looks.same),
      looked_held x y c.in-Err.lost.found raced.looks ∙ c.loop.invariant.2,
      λ v own before. raced_more v c.args.made.now.value.expected r x (c.loop.invariant.3 v own before) (c.if-found-first.false ∙ ap (λ (w : Word). w.stamp) c.requires.expected)
          (subst (λ (s : Setup). r.found.place < s.limits.place_last) (sym own) room) c.in-Err.lost y raced,
    )
