use Rattle.std.proofs.Common.{◌≡◌, ℕ, ◌+◌, ◌++◌, List, drop, get_or, replicate, ap, ◌∙◌, arith}
use Rattle.std.proofs.lemmas.List.{get_or_append_left, get_or-replicate, length-replicate, length-take-le}
use Rattle.table_save.specs.Pass.{FitsEvent, pack_event}
use Rattle.table_save.proofs.Rises.{none_below}
use Rattle.table_save.proofs.events.EventFront.next_words.Goals as goal

pub returns-in_default-clause-words : goal.returns-in_default-clause-words
returns-in_default-clause-words c k lt =
    let gap = c.gap-gap.result in
    let zeros : c.fill.new.self ≡ replicate gap 0 = c.fill.ensures.after (λ y same. same) ∙ ap (λ (n : ℕ). replicate n 0) (length-take-le gap c.args.words.now c.gap-gap.ensures.most) in
    ap (λ (zs : List ℕ). get_or (zs ++ drop gap c.args.words.now) k 0) zeros
    ∙ get_or_append_left (replicate gap 0) (drop gap c.args.words.now) 0 k (let size = length-replicate {A = ℕ} gap 0 in omega (arith, lt, size))
    ∙ get_or-replicate gap k 0 0 lt
    ∙ none_below FitsEvent pack_event 65535 c.args.id (c.args.id + gap) c.args.self.now c.requires.rises c.gap-gap.ensures.none (c.args.id + k)
    (omega arith) (omega (arith, lt))
