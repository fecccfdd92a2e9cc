use Rattle.std.proofs.Common.{◌∙◌, refl, sym, arith}
use Rattle.std.proofs.lemmas.Bool.Decides.{not_from_Decides}
use Rattle.front_search.proofs.Trails.{all_more, go_all, not_late, not_none}
use Rattle.front_search.proofs.fronts.may_go.Goals as goal

pub returns-in_default-clause-may_go : goal.returns-in_default-clause-may_go
returns-in_default-clause-may_go c = (
  λ e. absurd (cc e),
  λ g. absurd (not_none c.args.threads.now c.args.front.now c.args.thread (sym c.next_of.ensures.next ∙ c.in_default.is) g),
)

pub loop-other-init : goal.loop-other-init
loop-other-init c = λ j o lt e. absurd (omega arith)

pub returns-then-returned_before-clause-may_go : goal.returns-then-returned_before-clause-may_go
returns-then-returned_before-clause-may_go c = (
  λ e. absurd (cc e),
  λ g. absurd (not_late c.args.threads.now c.args.front.now c.args.thread c.loop-other.other c.in-Some.span (sym c.next_of.ensures.next ∙ c.in-Some.is)
      (c.returned_before.ensures.0 c.if-returned_before.true) g),
)

pub loop-other-preserved : goal.loop-other-preserved
loop-other-preserved c =
    all_more c.args.threads.now c.args.front.now c.loop-other.other c.in-Some.span.begin c.loop-other.invariant
    (not_from_Decides c.returned_before.result c.returned_before.ensures c.if-returned_before.false)

pub returns-clause-may_go : goal.returns-clause-may_go
returns-clause-may_go c = (
  λ e. go_all c.args.threads.now c.args.front.now c.args.thread c.loop-other.other c.in-Some.span (sym c.next_of.ensures.next ∙ c.in-Some.is)
      c.loop-other-test.false c.loop-other.invariant,
  λ w. refl,
)
