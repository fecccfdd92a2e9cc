use Rattle.std.proofs.Common.{◌∷◌, sym, ◌∙◌, add-one}
use Rattle.its_plain.proofs.Lines.{line_right, one_more}
use Rattle.its_plain.proofs.requester_ranges.all_new.Goals as goal

pub loop-n-preserved : goal.loop-n-preserved
loop-n-preserved c =
    let v = c.loop-n.invariant in
    let lt = c.loop-n-test.true in
    let is = sym c.are_new.ensures ∙ c.if-not-are_new.false in
    rw add-one (record {
      before = _ ∷ v.before;
      same = one_more c.args.lines.now v.before c.loop-n.n _ lt v.same;
      so_far = sym (line_right c.args.lines.now v.before c.loop-n.n _ lt v.same is) ∙ v.so_far;
    })
