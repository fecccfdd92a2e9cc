use Rattle.std.proofs.Common.{◌≡◌, ℕ, false, map, length, replicate, sym, ap, subst, ◌∙◌, arith}
use Rattle.std.specs.List.Sorted.{IsStrictlyIncreasing}
use Rattle.std.proofs.lemmas.List.{length-replicate}
use Rattle.guest_windows.specs.Fields.{pairs}
use Rattle.dirty_log.specs.Pages.{page, pages_of}
use Rattle.dirty_log.specs.Stretches.{numbers, paged, AreSmall}
use Rattle.dirty_log.proofs.Listed.{pages_rise, low_numbers}
use Rattle.dirty_log.proofs.Stretched.{all_small}
use Rattle.dirty_log.proofs.Paged.{all_clean}
use Rattle.dirty_log.proofs.log.DirtyLog.new.Goals as goal

pub stretches-requires : goal.stretches-requires
stretches-requires c =
    let ws = c.args.windows.now in
    let is : c.deref.result.now ≡ pages_of (pairs ws) = c.deref.ensures.value ∙ c.in_ok-numbers.ensures in
    subst AreSmall (sym is) (all_small (pages_of (pairs ws)) (low_numbers ws c.requires))

pub invariant_of-result : goal.invariant_of-result
invariant_of-result c =
    let ws = c.args.windows.now in
    let ns = numbers c.in_ok-stretches.stretches.items in
    let listed : ns ≡ c.deref.result.now = c.in_ok-stretches.ensures.numbers in
    let is : ns ≡ pages_of (pairs ws) = listed ∙ c.deref.ensures.value ∙ c.in_ok-numbers.ensures in
    record {
      laid = c.in_ok-stretches.ensures.laid;
      rise = subst IsStrictlyIncreasing (sym is) (pages_rise (pairs ws));
      small = subst AreSmall (sym is) (all_small (pages_of (pairs ws)) (low_numbers ws c.requires));
      size = ap length c.in_ok-marks.ensures ∙ length-replicate c.len-2.result false ∙ c.len-2.ensures ∙ sym c.deref.ensures.len ∙ sym (ap length listed);
      few = omega (arith, ap length c.in_ok-marks.ensures, length-replicate c.len-2.result false, c.len-2.ensures, c.len.ensures, c.if-len.false);
    }

pub returns : goal.returns
returns c =
    let ws = c.args.windows.now in
    let ns = numbers c.in_ok-stretches.stretches.items in
    let listed : ns ≡ c.deref.result.now = c.in_ok-stretches.ensures.numbers in
    let is : ns ≡ pages_of (pairs ws) = listed ∙ c.deref.ensures.value ∙ c.in_ok-numbers.ensures in
    let long : c.len-2.result ≡ length ns = c.len-2.ensures ∙ sym c.deref.ensures.len ∙ sym (ap length listed) in
    ap (paged ns) (c.in_ok-marks.ensures ∙ ap (λ (n : ℕ). replicate n false) long) ∙ all_clean ns ∙ ap (map (page false)) is
