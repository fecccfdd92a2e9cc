use Rattle.std.proofs.Common.{rules, ◌≡◌, ◌++◌, ◌∷◌, [], length, sym, ap, subst, ◌∙◌}
use Rattle.std.specs.List.{AllByRecursion}
use Rattle.event_script.specs.CallList.{calls_of, IsInside}
use Rattle.event_script.proofs.CallLists.{same_calls, still_inside, one_more_inside, one_more, on_err}
use Rattle.event_script.proofs.call_list.Calls.push.Goals as goal

pub returns-in_err-short-clause-err : goal.returns-in_err-short-clause-err
returns-in_err-short-clause-err c =
    on_err c.from_residual.result (same_calls c.self.inside.long.items c.shortened.new.long.items c.self.inside.short.items c.shortened.ensures.more
    c.self.invariant ∙ c.self.view_is)

pub invariant_of-self-in_err-push : goal.invariant_of-self-in_err-push
invariant_of-self-in_err-push c =
    let long = c.shortened.new.long.items in
    let same : c.push.new.self.items ≡ c.self.inside.short.items = search rules in
    subst (AllByRecursion (IsInside (length long))) (sym same)
    (still_inside c.self.inside.long.items long c.self.inside.short.items c.shortened.ensures.more c.self.invariant)

pub returns-in_err-push-clause-err : goal.returns-in_err-push-clause-err
returns-in_err-push-clause-err c =
    let long = c.shortened.new.long.items in
    let same : c.push.new.self.items ≡ c.self.inside.short.items = search rules in
    on_err c.from_residual-in_err-push.result (ap (calls_of long) same
    ∙ same_calls c.self.inside.long.items long c.self.inside.short.items c.shortened.ensures.more c.self.invariant ∙ c.self.view_is)

pub invariant_of-self-2 : goal.invariant_of-self-2
invariant_of-self-2 c =
    let long = c.shortened.new.long.items in let short = c.in_ok-short.short in
    let pushed : c.push.new.self.items ≡ c.self.inside.short.items ++ short ∷ [] = search rules in
    subst (AllByRecursion (IsInside (length long))) (sym pushed)
    (one_more_inside (length long) c.self.inside.short.items short
    (still_inside c.self.inside.long.items long c.self.inside.short.items c.shortened.ensures.more c.self.invariant) c.in_ok-short.ensures.inside)

pub returns-clause-ok : goal.returns-clause-ok
returns-clause-ok c =
    let long = c.shortened.new.long.items in let short = c.in_ok-short.short in
    let pushed : c.push.new.self.items ≡ c.self.inside.short.items ++ short ∷ [] = search rules in
    ap (calls_of long) pushed
    ∙ one_more c.self.inside.long.items long c.self.inside.short.items short c.args.call c.shortened.ensures.more c.self.invariant c.in_ok-short.ensures.call
    ∙ ap (λ calls. calls ++ c.args.call ∷ []) c.self.view_is
