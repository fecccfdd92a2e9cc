use Rattle.std.proofs.Common.{◌≡◌, ℕ, List, get_or, set, drop, sym, subst, ap, ◌∙◌, arith, inl, inr}
use Rattle.std.specs.Prelude.{slice_index, slice_get}
use Rattle.std.proofs.lemmas.Bool.{cases_eq}
use Rattle.std.proofs.lemmas.List.{get_or-set_same, get_or-set_other, length-set}
use Rattle.guest_windows.specs.Drafts.{laid}
use Rattle.its_types.specs.declared.ids.Vcpu.{Vcpu}
use Rattle.its_plain.specs.Saved.{put_words, collection_entry}
use Rattle.table_save.specs.EntriesLeft.{Leaves}
use Rattle.table_save.proofs.CollectionWalks.{stepped}
use Rattle.table_save.proofs.Written.{same_words}
use Rattle.table_save.proofs.collections.put_some.Goals as goal

pub loop-i-preserved : goal.loop-i-preserved
loop-i-preserved c =
    let v = c.loop-i.invariant in
    let i = c.loop-i.i in
    let xs = c.loop-i.words in
    let w = c.word_of-in-loop-i.result in
    let next = c.next-in-loop-i in
    record {
      size = length-set xs i w ∙ v.size;
      words = λ es h k lt. elim (cases_eq k i) [
        | inl is ↦
            let t = stepped es i next.result next.new.self (next.ensures (drop i es) (v.left es h)) in
            ap (λ (j : ℕ). get_or (set xs i w) j 0) is ∙ get_or-set_same xs i w 0 (omega (arith, v.size)) ∙ c.word_of-in-loop-i.ensures ∙ t.word
            ∙ ap (λ (j : ℕ). collection_entry (slice_get es j)) (sym is)
        | inr not ↦ get_or-set_other xs i k w 0 not ∙ v.words es h k (omega (arith, lt, not))
      ];
      left = λ es h. (stepped es i next.result next.new.self (next.ensures (drop i es) (v.left es h))).left;
    }

pub returns-clause-memory : goal.returns-clause-memory
returns-clause-memory c es h =
    let v = c.loop-i.invariant in
    let xs = c.loop-i.words in
    let memory = laid c.args.draft.now c.args.under.now in
    c.in_ok-put_block.ensures ∙ ap (put_words memory c.args.base (slice_index xs)) v.size
    ∙ same_words memory c.args.base c.min-count.result (slice_index xs) (λ i. collection_entry (slice_get es i))
    (λ k lt. v.words es h k (omega (arith, lt, v.size)))
