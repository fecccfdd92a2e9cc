use Rattle.std.proofs.Common.{[], ◌∷◌, ◌++◌, Err, ap, sym, ◌∙◌}
use Rattle.std.proofs.lemmas.Result.{err_from_is_err_and}
use Rattle.table_save.proofs.Overlaps.{all_again, clashes, tried, untried}
use Rattle.table_save.proofs.overlap.find_overlap.Goals as goal

pub returns-in_err-none_clashes : goal.returns-in_err-none_clashes
returns-in_err-none_clashes c =
    let p = err_from_is_err_and c.from_residual.result c.from_residual.ensures.1 in let v = c.loop-rest.invariant in
    p.1 ∙ sym (clashes c.args.areas.now v.before c.loop-rest.rest.now c.one-item.result c.in-len1-up.len_at_least c.one-item.is v.all v.so_far p.0
    (sym c.none_clashes.ensures ∙ c.in_err-none_clashes.was ∙ ap Err (sym p.2)))

pub loop-rest-preserved-in_ok-none_clashes : goal.loop-rest-preserved-in_ok-none_clashes
loop-rest-preserved-in_ok-none_clashes c =
    let v = c.loop-rest.invariant in let all = c.args.areas.now in let rest = c.loop-rest.rest.now in let one = c.one-item.result in let some =
    c.in-len1-up.len_at_least in
    record {
      before = v.before ++ one ∷ [];
      all = all_again all v.before rest one some c.one-item.is v.all v.so_far;
      so_far = tried all v.before rest one some c.one-item.is v.all v.so_far (sym c.none_clashes.ensures ∙ c.in_ok-none_clashes.was);
    }

pub loop-rest-preserved : goal.loop-rest-preserved
loop-rest-preserved c =
    let v = c.loop-rest.invariant in let all = c.args.areas.now in let rest = c.loop-rest.rest.now in let one = c.one-item.result in let some =
    c.in-len1-up.len_at_least in
    record {
      before = v.before ++ one ∷ [];
      all = all_again all v.before rest one some c.one-item.is v.all v.so_far;
      so_far = untried all v.before rest one some c.one-item.is v.all v.so_far c.meets_another.ensures.some
          (sym (c.meets_another.ensures.meets all c.requires.all c.requires.written) ∙ c.if-meets_another.false);
    }
