use Rattle.std.proofs.Common.{◌≡◌, ℕ, ◌+◌, ◌/◌, ◌%◌, List, [], get_or, Option, None, sym, ap, ◌∙◌, inl, inr, arith}
use Rattle.std.proofs.lemmas.Bool.{cases_eq}
use Rattle.guest_windows.specs.Chunks.{page_rows}
use Rattle.guest_windows.specs.Pages.{rows, page_row}
use Rattle.guest_windows.specs.declared.draft_chunk.DraftChunk.{DraftChunk}
use Rattle.guest_windows.specs.Drafts.{chunk_rows, own_of, byte_over}
use Rattle.guest_windows.proofs.Fitting.{zero_at}
use Rattle.guest_windows.proofs.DraftChunks.{wrote, has_slot, slot_is, in_page}
use Rattle.guest_windows.proofs.draft.put_piece.Goals as goal

pub returns-then-are_zeros-clause-here : goal.returns-then-are_zeros-clause-here
returns-then-are_zeros-clause-here c k lt =
    let cs = c.args.chunks.now.items in
    let f = c.args.frame.now in
    let w = c.args.window in
    let at : ℕ = c.args.at in
    let q : ℕ = at / 65536 in
    let m : ℕ = (at + k) % 65536 in
    let is : (at + k) / 65536 ≡ q = omega (arith, lt, c.requires.page) in
    in_page cs f w q (at + k) is
    ∙ ap (λ (r : List (List ℕ)). byte_over (own_of cs w q) m (get_or (get_or r (q % 4096) []) m 0)) (sym c.chunk_of-under.ensures)
    ∙ ap (λ (xs : List DraftChunk). byte_over (own_of xs w q) m (get_or (get_or (page_rows c.chunk_of-under.result.now.pages.items) (q % 4096) []) m 0))
    (sym c.deref.ensures.value)
    ∙ c.is_held.ensures c.if-not-is_held.true m
    ∙ sym (zero_at c.args.bytes.now (sym c.are_zeros.ensures ∙ c.if-are_zeros.true) k)

pub returns-clause-here : goal.returns-clause-here
returns-clause-here c k lt =
    let lays = c.in_ok-place.ensures.lays in
    let cs = c.lay_chunk.new.chunks.items in
    let w = c.args.window in
    let at : ℕ = c.args.at in
    let q : ℕ = at / 65536 in
    let chunk = c.index_mut.result.now in
    let put = c.in_ok-put.ensures in
    let done = wrote cs w q c.in_ok-place.place chunk c.put.new.self put.put.0 lays c.index_mut.ensures.value (has_slot chunk q) put.window put.at put.put.1 in
    let f = c.args.frame.now in
    let is : (at + k) / 65536 ≡ q = omega (arith, lt, c.requires.page) in
    let m : (at + k) % 65536 ≡ at % 65536 + k = omega (arith, lt, c.requires.page) in
    in_page _ f w q (at + k) is
    ∙ ap (λ (o : Option (List ℕ)). byte_over o ((at + k) % 65536) (get_or (page_row (rows f.groups.items) q) ((at + k) % 65536) 0)) done.here
    ∙ ap (λ (n : ℕ). get_or put.put.0 n 0) m ∙ put.put.2 k lt

pub returns-clause-others : goal.returns-clause-others
returns-clause-others c i out =
    let lays = c.in_ok-place.ensures.lays in
    let cs = c.lay_chunk.new.chunks.items in
    let w = c.args.window in
    let at : ℕ = c.args.at in
    let q : ℕ = at / 65536 in
    let chunk = c.index_mut.result.now in
    let put = c.in_ok-put.ensures in
    let done = wrote cs w q c.in_ok-place.place chunk c.put.new.self put.put.0 lays c.index_mut.ensures.value (has_slot chunk q) put.window put.at put.put.1 in
    let f = c.args.frame.now in
    let old = c.args.chunks.now.items in
    let here : own_of cs w q ≡ own_of old w q = c.in_ok-place.ensures.same w q in
    elim (cases_eq (i / 65536) q) [
      | inl is ↦
          let m : ℕ = i % 65536 in
          let under : ℕ = get_or (page_row (rows f.groups.items) q) m 0 in
          let slot : get_or (chunk_rows chunk) (q % 4096) None ≡ own_of old w q =
          ap (λ (x : DraftChunk). get_or (chunk_rows x) (q % 4096) None) c.index_mut.ensures.value
          ∙ sym (slot_is cs w q c.in_ok-place.place chunk lays) ∙ here in
          in_page _ f w q i is ∙ ap (λ (o : Option (List ℕ)). byte_over o m under) done.here
          ∙ put.put.3 m (elim out [ inl low ↦ inl (omega (arith, low, is, c.requires.page)) | inr high ↦ inr (omega (arith, high, is, c.requires.page)) ])
          ∙ ap (λ (r : List (List ℕ)). byte_over (get_or (chunk_rows chunk) (q % 4096) None) m
          (get_or (get_or r (q % 4096) []) m 0)) c.chunk_of-under.ensures
          ∙ ap (λ (o : Option (List ℕ)). byte_over o m under) slot ∙ sym (in_page old f w q i is)
      | inr other ↦
          ap (λ (o : Option (List ℕ)). byte_over o (i % 65536) (get_or (page_row (rows f.groups.items) (i / 65536)) (i % 65536) 0))
          (done.others w (i / 65536) (λ both. other both.1) ∙ c.in_ok-place.ensures.same w (i / 65536))
    ]

pub returns-clause-apart : goal.returns-clause-apart
returns-clause-apart c k p other =
    let lays = c.in_ok-place.ensures.lays in
    let cs = c.lay_chunk.new.chunks.items in
    let w = c.args.window in
    let at : ℕ = c.args.at in
    let q : ℕ = at / 65536 in
    let chunk = c.index_mut.result.now in
    let put = c.in_ok-put.ensures in
    let done = wrote cs w q c.in_ok-place.place chunk c.put.new.self put.put.0 lays c.index_mut.ensures.value (has_slot chunk q) put.window put.at put.put.1 in
    done.others k p (λ both. other both.0) ∙ c.in_ok-place.ensures.same k p
