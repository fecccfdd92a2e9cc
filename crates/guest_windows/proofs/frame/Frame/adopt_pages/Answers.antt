use Rattle.std.proofs.Common.{◌≡◌, ℕ, ◌+◌, ◌/◌, ◌%◌, ◌<◌, ◌≤◌, List, [], length, get_or, None, Option, sym, ap, ◌∙◌, inl, inr, arith}
use Rattle.std.proofs.lemmas.Bool.{cases_eq}
use Rattle.std.proofs.lemmas.List.{length-map}
use Rattle.guest_windows.specs.declared.page.Page.{Page}
use Rattle.guest_windows.specs.Chunks.{page_rows}
use Rattle.guest_windows.specs.Pages.{rows, byte_in}
use Rattle.guest_windows.specs.Drafts.{own_rows, numbered, byte_over}
use Rattle.guest_windows.proofs.Numbers.{row_numbered, same_page}
use Rattle.guest_windows.proofs.frame.Frame.adopt_pages.Goals as goal

pub loop-at-preserved : goal.loop-at-preserved
loop-at-preserved c =
    let l = c.loop-at in
    let inv = l.invariant in
    let at : ℕ = l.at in
    let numbers : List ℕ = c.args.numbers.now in
    let laid : List Page = c.args.laid.now in
    let left : List Page = l.laid in
    let n : ℕ = get_or numbers at 0 in
    let inside : at < length numbers = omega (arith, c.loop-at-test.true) in
    let done = c.adopt_page.ensures in
    let is = c.requires.numbered in
    let whole = c.requires.whole in
    let total = c.requires.count in
    let few : n ≤ length laid = is.1 at in
    let long : length (page_rows left) ≡ length (page_rows laid) =
    length-map left (λ (p : Page). p.bytes.items) ∙ inv.count ∙ sym (length-map laid (λ (p : Page). p.bytes.items)) in
    let same : numbered (page_rows left) n ≡ get_or (own_rows numbers laid) at None =
    same_page (page_rows laid) (page_rows left) n (omega (arith, few, length-map laid (λ (p : Page). p.bytes.items))) long
    (λ k next. inv.left at k (omega arith) next) ∙ sym (row_numbered numbers laid at) in
    record {
      left = λ j k past next.
          done.left k (λ this. absurd (omega (arith, past, is.2 at j (omega (arith, this)) (next ∙ sym this))))
          ∙ inv.left j k (omega (arith, past)) next;
      count = done.count ∙ inv.count;
      done = λ i lt chunk low. elim (cases_eq (i / 65536 % 4096) at) [
        | inl this ↦
            done.here i (omega (arith, lt, done.len)) (omega (arith, this, chunk, whole))
            ∙ ap (λ (x : ℕ). byte_over (numbered (page_rows left) n) (i % 65536) x) (inv.coming i chunk (omega (arith, this)))
            ∙ ap (λ (o : Option (List ℕ)). byte_over o (i % 65536) (byte_in (rows c.args.self.now.groups.items) i))
            (same ∙ ap (λ (k : ℕ). get_or (own_rows numbers laid) k None) (sym this))
        | inr other ↦
            done.others i (λ this. other (omega (arith, this, chunk, whole, inside, total)))
            ∙ inv.done i (omega (arith, lt, done.len)) chunk (omega (arith, other, low))
      ];
      coming = λ i chunk past. done.others i (λ this. omega (arith, this, chunk, whole, past, inside, total)) ∙ inv.coming i chunk (omega (arith, past));
      others = λ i out. done.others i (λ this. out (omega (arith, this, whole, inside, total))) ∙ inv.others i out;
      held =
          let chunk : c.args.first / 4096 ≡ (c.args.first + at) / 4096 = omega (arith, whole, inside, total) in
          ap (λ (k : ℕ). length (get_or (rows c.adopt_page.new.self.groups.items) k [])) chunk ∙ done.chunk;
      base = done.base ∙ inv.base;
      len = done.len ∙ inv.len;
    }
