use Rattle.std.proofs.Common.{◌≡◌, ◌<◌, Bool, true, false, length, get_or, refl, ap, ◌∙◌, arith}
use Rattle.std.specs.Prelude.{◌||◌, ◌&&◌, nat_le}
use Rattle.std.proofs.lemmas.Bool.{le-leb, lt-ltb}
use Rattle.dirty_log.specs.Pages.{set_all}
use Rattle.dirty_log.specs.Stretches.{numbers}
use Rattle.dirty_log.proofs.Paged.{set_is}
use Rattle.dirty_log.proofs.log.DirtyLog.mark_all.Goals as goal

or_true : (b : Bool) → (b || true) ≡ true
or_true true = refl
or_true false = refl

pub returns : goal.returns
returns c =
    let i = c.self.inside in
    let ns = numbers c.self.inside.stretches.items in
    let size = c.self.invariant.size in
    let now = c.mark_range.ensures in
    set_is true ns i.marks c.mark_range.new.self size (now.size ∙ size) (λ k lt.
    let here : k < length i.marks = omega (arith, lt, size) in
    now.each k here
    ∙ ap (λ (b : Bool). get_or i.marks k false || (nat_le 0 k && b)) (lt-ltb k c.len-places.result (omega (arith, here, c.len-places.ensures)))
    ∙ ap (λ (b : Bool). get_or i.marks k false || (b && true)) (le-leb 0 k (omega arith))
    ∙ or_true (get_or i.marks k false))
    ∙ ap (set_all true) c.self.view_is
