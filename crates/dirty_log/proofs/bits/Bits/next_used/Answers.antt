use Rattle.std.proofs.Common.{◌≡◌, ◌+◌, ◌*◌, ◌/◌, ◌%◌, ◌^◌, ◌<◌, ℕ, length, get_or, subst, sym, ◌∙◌, arith}
use Rattle.std.specs.Int.{w64, trailing_zeros}
use Rattle.std.proofs.lemmas.List.{get_or_default}
use Rattle.its_types.specs.Bits.{bit_of}
use Rattle.its_types.specs.Bitmap.{word_bit}
use Rattle.dirty_log.specs.Bits.{NoneIn, IsFirstIn}
use Rattle.dirty_log.proofs.Nexts.{found_next, none_next, used_word, no_used_word, summary_first, summary_none}
use Rattle.dirty_log.proofs.bits.Bits.next_used.Goals as goal

pub returns-in_default-first_nonzero-clause-first : goal.returns-in_default-first_nonzero-clause-first
returns-in_default-first_nonzero-clause-first c =
    let i = c.self.inside in let from = c.args.from in
    let here : c.index.result.now ≡ get_or i.summary.items (c.args.from / 64) 0 = c.index.ensures ∙ get_or_default i.summary.items
    (from / 64) c.index.result.now 0 (omega arith) in
    let none : NoneIn (bit_of (get_or i.summary.items (c.args.from / 64) 0)) (c.args.from % 64) 64 = subst (λ (w : ℕ). NoneIn (bit_of w) (c.args.from % 64) 64)
    here c.in_default.ensures in
    rw (← c.self.view_is)
    (summary_none i.summary.items i.words.items from c.self.invariant
    (none_next i.summary.items from (length i.summary.items) none
    (no_used_word i.summary.items c.deref.result.now (from / 64 + 1) c.deref.ensures.value c.in_default-first_nonzero.ensures)))

pub returns-clause-first : goal.returns-clause-first
returns-clause-first c =
    let i = c.self.inside in let from = c.args.from in let used : ℕ = c.args.from / 64 + 1 + c.in-Some-first_nonzero.skipped in
    let here : c.index.result.now ≡ get_or i.summary.items (c.args.from / 64) 0 = c.index.ensures ∙ get_or_default i.summary.items
    (from / 64) c.index.result.now 0 (omega arith) in
    let none : NoneIn (bit_of (get_or i.summary.items (c.args.from / 64) 0)) (c.args.from % 64) 64 = subst (λ (w : ℕ). NoneIn (bit_of w) (c.args.from % 64) 64)
    here c.in_default.ensures in
    let first = used_word i.summary.items c.deref.result.now (from / 64 + 1) c.in-Some-first_nonzero.skipped c.deref.ensures.value
    (omega arith) c.in-Some-first_nonzero.ensures in
    let word : c.index-2.result.now ≡ get_or i.summary.items used 0 = c.index-2.ensures ∙ get_or_default i.summary.items used c.index-2.result.now 0
    first.below in
    let fits : c.index-2.result.now < 2 ^ 64 = omega arith in
    rw (← c.self.view_is)
    (summary_first i.summary.items i.words.items from (64 * used + trailing_zeros w64 c.index-2.result.now) c.self.invariant
    (subst (λ (w : ℕ). IsFirstIn (word_bit i.summary.items) from (64 * length i.summary.items) (64 * used + trailing_zeros w64 w)) (sym word)
    (found_next i.summary.items from (length i.summary.items) used none (subst (λ (w : ℕ). w < 2 ^ 64) word fits) first)))
