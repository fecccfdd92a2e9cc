use Rattle.std.proofs.Common.{◌≡◌, ℕ, ◌<◌, ◌≤◌, Bool, List, length, get_or, Some, ap, subst, ◌∙◌, arith}
use Rattle.dirty_log.specs.Pages.{next_dirty}
use Rattle.dirty_log.specs.Stretches.{numbers}
use Rattle.dirty_log.proofs.Paged.{Starts, first_dirty, none_dirty}
use Rattle.dirty_log.proofs.log.DirtyLog.next.Goals as goal

starts : (ns now : List ℕ) (bs : List Bool) (from start places : ℕ) → now ≡ ns → length bs ≡ length ns → places ≡ length bs
    → ((k : ℕ) → k < start → get_or now k 0 < from) → ((k : ℕ) → start ≤ k → k < places → from ≤ get_or now k 0) → Starts ns bs from start
starts ns now bs from start places is size all before after = record {
  size = size;
  before = λ k lt. subst (λ (l : List ℕ). get_or l k 0 < from) is (before k lt);
  after = λ k low lt. subst (λ (l : List ℕ). from ≤ get_or l k 0) is (after k low (omega (arith, lt, all, size)));
}

pub returns-in_default : goal.returns-in_default
returns-in_default c =
    let i = c.self.inside in
    let ns = numbers c.self.inside.stretches.items in
    let start = c.place_from-start in
    let is = ap numbers c.deref.ensures.value in
    none_dirty ns i.marks c.args.from start.result (starts ns (numbers c.deref.result.now) i.marks c.args.from start.result c.len.result is
    c.self.invariant.size c.len.ensures start.ensures.before start.ensures.after) c.in_default.ensures
    ∙ ap (next_dirty c.args.from) c.self.view_is

pub returns : goal.returns
returns c =
    let i = c.self.inside in
    let ns = numbers c.self.inside.stretches.items in
    let start = c.place_from-start in
    let is = ap numbers c.deref.ensures.value in
    let also = ap numbers c.deref-2.ensures.value in
    ap Some (c.number_at.ensures ∙ ap (λ (l : List ℕ). get_or l c.in-Some.place 0) also)
    ∙ first_dirty ns i.marks c.args.from start.result (starts ns (numbers c.deref.result.now) i.marks c.args.from start.result c.len.result is
    c.self.invariant.size c.len.ensures start.ensures.before start.ensures.after) c.in-Some.place c.in-Some.ensures
    ∙ ap (next_dirty c.args.from) c.self.view_is
