use Rattle.std.proofs.Common.{◌+◌, ◌∷◌, sym, ap, ◌∙◌, arith}
use Rattle.its_types.specs.Bitmap.{word_bit}
use Rattle.its_types.specs.declared.translation.Bases.{Bases}
use Rattle.step_views.specs.ConfigReads.{left_of}
use Rattle.step_views.proofs.TableReads.{passed, given}
use Rattle.step_views.proofs.UsedTables.{low_tables}
use Rattle.step_views.proofs.config_reads.ConfigReads.next.Goals as goal

pub overflow_add-result : goal.overflow_add-result
overflow_add-result c =
    let s = c.loop-self.self-inside in
    let r = c.loop-self.invariant.readable in
    let low = low_tables s.end s.redists.now s.next c.conf.result.now r.there c.loop-self-test.true c.conf.ensures in
    let at = ap (λ (b : Bases). b.prop.table.0) c.bases.ensures in
    omega (arith, r.near, low.prop, at)

pub returns-then-has_bit : goal.returns-then-has_bit
returns-then-has_bit c =
    let s = c.loop-self.self-inside in
    let r = c.loop-self.invariant.readable in
    let bit = ap (word_bit s.firsts) (sym c.from.ensures) ∙ sym c.has_bit.ensures ∙ c.if-has_bit.true in
    sym c.loop-self.invariant.left
    ∙ given s.redists.now s.offset s.length s.next s.end c.conf.result.now c.loop-self-test.true (sym (r.marked s.next c.loop-self-test.true) ∙ bit)
    c.conf.ensures
    ∙ ap (λ (b : Bases). (b.prop.table.0 + s.offset, s.length) ∷ left_of s.redists.now s.offset s.length (s.next + 1) s.end) (sym c.bases.ensures)

pub loop-self-preserved : goal.loop-self-preserved
loop-self-preserved c =
    let s = c.loop-self.self-inside in
    let r = c.loop-self.invariant.readable in
    let bit = ap (word_bit s.firsts) (sym c.from.ensures) ∙ sym c.has_bit.ensures ∙ c.if-has_bit.false in
    record {
      readable = record {
        few = r.few;
        left = omega (arith, c.loop-self-test.true);
        there = r.there;
        near = r.near;
        words = r.words;
        marked = r.marked;
      };
      left = sym (passed s.redists.now s.offset s.length s.next s.end c.loop-self-test.true (sym (r.marked s.next c.loop-self-test.true) ∙ bit))
          ∙ c.loop-self.invariant.left;
    }
