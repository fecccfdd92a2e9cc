use Rattle.std.proofs.Common.{◌∙◌, length, refl, sym, ap, subst}
use Rattle.its_plain.specs.Plain.{Plain}
use Rattle.trace_check.specs.Steps.{AreEntries, IsOtherPending}
use Rattle.trace_check.specs.declared.verdict.Difference.{Difference}
use Rattle.trace_check.proofs.Checked.{after_vcpus, pending_differs}
use Rattle.trace_check.proofs.leg.check_leg.Goals as goal

pub check_pending-requires : goal.check_pending-requires
check_pending-requires c =
    let u = c.args.machine.now in let t = c.args.told.now in
    let a : AreEntries u c.args.leg.now c.as_slice-entries.result.now c.check_entries.new.machine = rw c.in_default.is at c.in_ok-difference.ensures.right in
    ap length c.as_slice.ensures ∙ (c.requires.vcpus ∙ (sym (after_vcpus u a.history) ∙ ap (λ (x : Plain). length x.redistributors) (sym a.now_is)))

pub returns-in-Some-2-clause-wrong : goal.returns-in-Some-2-clause-wrong
returns-in-Some-2-clause-wrong c =
    let u = c.args.machine.now in let t = c.args.told.now in let w = c.check_entries.new.machine in
    let a : AreEntries u c.args.leg.now c.as_slice-entries.result.now w = rw c.in_default.is at c.in_ok-difference.ensures.right in
    let o : IsOtherPending w c.as_slice.result.now c.in-Some-2.other.said c.in-Some-2.other.is = rw c.in-Some-2.is at c.in_ok-other.ensures.wrong in
    let d : Difference = record {
      leg = c.args.number;
      place = length c.as_slice-entries.result.now;
      said = c.in-Some-2.other.said;
      is = c.in-Some-2.other.is;
    } in
    pending_differs u c.args.leg.now t c.args.number w d (subst (λ es. AreEntries u c.args.leg.now es w) c.as_slice-entries.ensures a)
    (subst (λ ps. IsOtherPending w ps c.in-Some-2.other.said c.in-Some-2.other.is) c.as_slice.ensures o)
    refl (ap length c.as_slice-entries.ensures)
