use Rattle.std.proofs.Common.{◌≡◌, ℕ, ◌+◌, ◌-◌, ◌/◌, ◌<◌, Bool, false, List, get_or, sym, ap, ◌∙◌, arith}
use Rattle.std.specs.Prelude.{◌||◌, ◌&&◌, nat_le, nat_lt}
use Rattle.dirty_log.specs.Pages.{marked}
use Rattle.dirty_log.specs.Stretches.{numbers}
use Rattle.dirty_log.specs.declared.stretch.Stretch.{Stretch}
use Rattle.dirty_log.proofs.Paged.{meets_is, marked_is, no_mark}
use Rattle.dirty_log.proofs.log.DirtyLog.mark.Goals as goal

pub returns-then-len-eq0 : goal.returns-then-len-eq0
returns-then-len-eq0 c = no_mark c.args.addr.0 c.args.self.now ∙ ap (λ (n : ℕ). marked c.args.addr.0 n c.args.self.now) (sym c.if-len-eq0.true)

pub returns : goal.returns
returns c =
    let i = c.self.inside in
    let ns = numbers c.self.inside.stretches.items in
    let size = c.self.invariant.size in
    let now = c.mark_numbers.ensures in
    let address = c.args.addr.0 in
    let len = c.args.len in
    let some : 0 < len = omega (arith, c.if-len-eq0.false) in
    marked_is address len ns i.marks c.mark_numbers.new.marks size (now.size ∙ size) (λ k lt.
    let at : get_or (numbers c.deref.result.now) k 0 ≡ get_or ns k 0 = ap (λ (ss : List Stretch). get_or (numbers ss) k 0) c.deref.ensures.value in
    now.each k (omega (arith, lt, size))
    ∙ ap (λ (n : ℕ). get_or i.marks k false || (nat_le (address / 4096) n && nat_lt n ((address + (len - 1)) / 4096 + 1))) at
    ∙ ap (λ (b : Bool). get_or i.marks k false || b) (sym (meets_is address len (get_or ns k 0) some)))
    ∙ ap (marked address len) c.self.view_is
