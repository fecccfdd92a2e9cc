use Rattle.std.proofs.Common.{◌≡◌, ap, sym, ◌∙◌, ◌+◌, ◌∷◌, suc, drop, add-one}
use Rattle.std.proofs.Math.Seq.{drop-cons}
use Rattle.std.specs.List.{flat_map}
use Rattle.its_plain.specs.Saved.{translator_words}
use Rattle.plain_machine.specs.Memories.{put_all}
use Rattle.plain_machine.proofs.SavedTables.{put_front}
use Rattle.plain_machine.proofs.save.write_translators.Goals as goal

pub loop-translator-preserved : goal.loop-translator-preserved
loop-translator-preserved c =
    let split : drop c.loop-translator.translator-index c.args.translators.now ≡ c.translator-item.result ∷ drop (c.loop-translator.translator-index + 1)
    c.args.translators.now =
    drop-cons c.args.translators.now c.loop-translator.translator-index c.translator-item.result c.loop-translator-test.true
    ∙ ap (λ x. x ∷ drop (suc c.loop-translator.translator-index) c.args.translators.now) (sym c.translator-item.is)
    ∙ ap (λ n. c.translator-item.result ∷ drop n c.args.translators.now) (sym (add-one c.loop-translator.translator-index))
    in
    rw c.in_ok-write_tables.ensures
    (put_front c.loop-translator.memory (translator_words c.args.shape.now c.args.before.now) c.translator-item.result
    (drop (c.loop-translator.translator-index + 1) c.args.translators.now)
    ∙ ap (λ ts. put_all c.loop-translator.memory (flat_map (translator_words c.args.shape.now c.args.before.now) ts)) (sym split) ∙ c.loop-translator.invariant)
