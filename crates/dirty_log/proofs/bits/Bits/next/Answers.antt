use Rattle.std.proofs.Common.{◌≡◌, ◌+◌, ◌*◌, ◌/◌, ◌%◌, ◌^◌, ◌<◌, ℕ, List, length, get_or, subst, sym, ◌∙◌, arith}
use Rattle.std.specs.Int.{w64, trailing_zeros}
use Rattle.std.proofs.lemmas.List.{get_or_default}
use Rattle.its_types.specs.Bits.{bit_of}
use Rattle.its_types.specs.Bitmap.{word_bit}
use Rattle.dirty_log.specs.Bits.{NoneIn, IsFirstIn}
use Rattle.dirty_log.specs.Bits.{is_used}
use Rattle.dirty_log.proofs.Nexts.{found_next}
use Rattle.dirty_log.proofs.bits.Bits.next.Goals as goal

pub returns : goal.returns
returns c =
    let words = c.self.inside.words.items in let from = c.args.from in let used = c.in-Some-next_used.used in
    let here : c.index.result.now ≡ get_or words (c.args.from / 64) 0 = c.index.ensures ∙ get_or_default words (from / 64) c.index.result.now 0 (omega arith) in
    let none : NoneIn (bit_of (get_or words (c.args.from / 64) 0)) (c.args.from % 64) 64 = subst (λ (w : ℕ). NoneIn (bit_of w) (c.args.from % 64) 64) here
    c.in_default.ensures in
    let first : IsFirstIn (is_used words) (c.args.from / 64 + 1) (length words) used =
    subst (λ (ws : List ℕ). IsFirstIn (is_used ws) (c.args.from / 64 + 1) (length ws) used) (sym c.self.view_is) c.in-Some-next_used.ensures.first
    in
    let word : c.index-2.result.now ≡ get_or words used 0 = c.index-2.ensures ∙ get_or_default words used c.index-2.result.now 0 first.below in
    let fits : c.index-2.result.now < 2 ^ 64 = omega arith in
    rw (← c.self.view_is)
    (subst (λ (w : ℕ). IsFirstIn (word_bit words) from (64 * length words) (64 * used + trailing_zeros w64 w)) (sym word)
    (found_next words from (length words) used none (subst (λ (w : ℕ). w < 2 ^ 64) word fits) first))
