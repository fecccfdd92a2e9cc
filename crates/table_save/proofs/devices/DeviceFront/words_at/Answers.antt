use Rattle.std.proofs.Common.{◌≡◌, ℕ, ◌+◌, get_or, set, refl, subst, ap, ◌∙◌, arith, inl, inr}
use Rattle.std.proofs.lemmas.Bool.{cases_eq}
use Rattle.std.proofs.lemmas.List.{get_or-set_same, get_or-set_other, length-set}
use Rattle.table_save.specs.Pass.{RisesFrom, FitsDevice, pack_device, device_entry_word}
use Rattle.table_save.proofs.Rises.{passed_none, passed_more}
use Rattle.table_save.proofs.devices.DeviceFront.words_at.Goals as goal

pub loop-i-init : goal.loop-i-init
loop-i-init c = let here : c.args.id ≡ c.args.id + 0 = omega arith in record {
  size = refl;
  words = λ k lt. absurd (omega arith);
  passed = passed_none FitsDevice pack_device 16383 (c.args.id + 0) c.args.self.now
      (subst (λ (i : ℕ). RisesFrom i c.args.self.now) here c.requires.rises) c.requires.fit;
}

pub loop-i-preserved : goal.loop-i-preserved
loop-i-preserved c =
    let v = c.loop-i.invariant in
    let i = c.loop-i.i in
    let at = c.args.id + i in
    let xs = c.loop-i.words in
    let w = c.word_at.result in
    record {
      size = length-set xs i w ∙ v.size;
      words = λ k lt. elim (cases_eq k i) [
        | inl is ↦
            ap (λ (j : ℕ). get_or (set xs i w) j 0) is ∙ get_or-set_same xs i w 0 (omega arith) ∙ c.word_at.ensures.word ∙ v.passed.words at (omega arith)
            ∙ ap (λ (j : ℕ). device_entry_word c.args.self.now (c.args.id + j)) (omega (arith, is))
        | inr not ↦ get_or-set_other xs i k w 0 not ∙ v.words k (omega (arith, not))
      ];
      passed = passed_more FitsDevice pack_device 16383 at (c.args.id + (i + 1)) c.args.self.now c.loop-i.self c.word_at.new.self
          (omega arith) c.word_at.ensures.rest v.passed;
    }
