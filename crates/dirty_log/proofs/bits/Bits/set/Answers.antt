use Rattle.std.proofs.Common.{◌≡◌, ℕ, ◌/◌, ◌%◌, ◌<◌, Bool, List, true, cond, eqb, get_or, set, sym, ap, ◌∙◌, arith}
use Rattle.std.specs.Prelude.{◌||◌}
use Rattle.std.proofs.lemmas.List.{get_or_default}
use Rattle.its_types.specs.Bits.{bit_of}
use Rattle.its_types.specs.Bitmap.{word_bit}
use Rattle.its_types.proofs.Words.{word_bit-set}
use Rattle.dirty_log.proofs.bits.Bits.set.Goals as goal

pub returns-clause-bits : goal.returns-clause-bits
returns-clause-bits c k =
    let words = c.self.inside.words.items in
    let at = c.args.at in
    let view : words ≡ c.args.self.now = c.self.view_is in
    let here : c.index.result.now ≡ get_or words (c.args.at / 64) 0 = c.index.ensures ∙ get_or_default words (at / 64) c.index.result.now 0
    (omega (arith, c.requires, ap Rattle.std.proofs.Common.length view)) in
    ap (λ (ws : List ℕ). word_bit ws k) (c.put_word.ensures ∙ ap (λ (ws : List ℕ). set ws (at / 64) c.with_bit-word.result) (sym view))
    ∙ word_bit-set words at c.with_bit-word.result true (omega (arith, c.requires, ap Rattle.std.proofs.Common.length view)) c.with_bit-word.ensures.same
    (λ i lt ne. c.with_bit-word.ensures.others i lt ne ∙ ap (λ (w : ℕ). bit_of w i) here) k
    ∙ as_or (eqb k at) (word_bit words k) ∙ ap (λ (ws : List ℕ). eqb k at || word_bit ws k) view
  where
    as_or : (b c : Bool) → cond b true c ≡ (b || c)
    as_or true c = Rattle.std.proofs.Common.refl
    as_or Rattle.std.proofs.Common.false c = Rattle.std.proofs.Common.refl
