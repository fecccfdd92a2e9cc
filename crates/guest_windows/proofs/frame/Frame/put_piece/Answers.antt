use Rattle.std.proofs.Common.{ℕ, ◌<◌, ◌%◌, length, get_or, sym, refl, ap, inl, inr, ◌+◌, ◌/◌, ◌*◌, ◌∙◌, arith, List}
use Rattle.std.proofs.lemmas.Bool.{cases_eq}
use Rattle.guest_windows.specs.Pages.{rows, page_row, row_at, byte_in, chunk_row}
use Rattle.guest_windows.proofs.Fitting.{in_hand, there_of, still-set, row-set_same, row-set_other, chunk_within, page_within}
use Rattle.guest_windows.proofs.frame.Frame.put_piece.Goals as goal

pub index_mut-chunk-requires : goal.index_mut-chunk-requires
index_mut-chunk-requires c =
    let f = c.args.self.now in
    let q : ℕ = c.args.at / 65536 in
    let g = c.index_mut-group.result.now in
    let inside : 65536 * q < f.len = omega (arith, c.requires.inside, c.requires.some) in
    let in_row : q % 4096 < length (chunk_row (rows f.groups.items) q) = (there_of (rows f.groups.items) q c.requires.held).page in
    omega (arith, chunk_within f q g inside c.index_mut-group.ensures.value in_row, g.chunks.ok.0)

pub index_mut-requires : goal.index_mut-requires
index_mut-requires c =
    let f = c.args.self.now in
    let q : ℕ = c.args.at / 65536 in
    let g = c.index_mut-group.result.now in
    let inside : 65536 * q < f.len = omega (arith, c.requires.inside, c.requires.some) in
    let in_row : q % 4096 < length (chunk_row (rows f.groups.items) q) = (there_of (rows f.groups.items) q c.requires.held).page in
    let chunk = c.index_mut-chunk.result.now in
    omega (arith, page_within f q g chunk inside c.index_mut-group.ensures.value c.index_mut-chunk.ensures.value in_row, chunk.pages.ok.0)

pub put-requires-clause-held : goal.put-requires-clause-held
put-requires-clause-held c =
    let f = c.args.self.now in
    let q : ℕ = c.args.at / 65536 in
    let inside : 65536 * q < f.len = omega (arith, c.requires.inside, c.requires.some) in
    let place = there_of (rows f.groups.items) q c.requires.held in
    let group = c.index_mut-group in
    let chunk = c.index_mut-chunk in
    let hand =
    in_hand f q group.result.now chunk.result.now c.index_mut.result.now inside place.page group.ensures.value chunk.ensures.value c.index_mut.ensures.value in
    sym (ap length hand.row) ∙ c.requires.held

pub returns-clause-here : goal.returns-clause-here
returns-clause-here c k lt =
    let f = c.args.self.now in
    let at = c.args.at in
    let q : ℕ = at / 65536 in
    let rs = rows f.groups.items in
    let inside : 65536 * q < f.len = omega (arith, c.requires.inside, c.requires.some) in
    let place = there_of rs q c.requires.held in
    let group = c.index_mut-group in
    let chunk = c.index_mut-chunk in
    let hand =
    in_hand f q group.result.now chunk.result.now c.index_mut.result.now inside place.page group.ensures.value chunk.ensures.value c.index_mut.ensures.value in
    let new = c.put.new.self in
    ap (λ ts. byte_in ts (at + k)) (hand.after _ _ new refl refl)
    ∙ ap (λ (r : List ℕ). get_or r ((at + k) % 65536) 0) (row-set_same rs q new.bytes.items hand.there (at + k) (omega (arith, lt, c.requires.page)))
    ∙ ap (λ (n : ℕ). get_or new.bytes.items n 0) (omega (arith, lt, c.requires.page)) ∙ c.put.ensures.here k lt

pub returns-clause-others : goal.returns-clause-others
returns-clause-others c i out =
    let f = c.args.self.now in
    let at = c.args.at in
    let q : ℕ = at / 65536 in
    let rs = rows f.groups.items in
    let inside : 65536 * q < f.len = omega (arith, c.requires.inside, c.requires.some) in
    let place = there_of rs q c.requires.held in
    let group = c.index_mut-group in
    let chunk = c.index_mut-chunk in
    let hand =
    in_hand f q group.result.now chunk.result.now c.index_mut.result.now inside place.page group.ensures.value chunk.ensures.value c.index_mut.ensures.value in
    let new = c.put.new.self in
    ap (λ ts. byte_in ts i) (hand.after _ _ new refl refl)
    ∙ elim (cases_eq (i / 65536) q) [
      | inl is ↦
          ap (λ (r : List ℕ). get_or r (i % 65536) 0) (row-set_same rs q new.bytes.items hand.there i is)
          ∙ c.put.ensures.others (i % 65536) (elim out [ inl low ↦ inl (omega (arith, low, is)) | inr high ↦ inr (omega (arith, high, is)) ])
          ∙ ap (λ (r : List ℕ). get_or r (i % 65536) 0) (sym hand.row)
          ∙ ap (λ (p : ℕ). get_or (page_row rs p) (i % 65536) 0) (sym is)
      | inr other ↦ ap (λ (r : List ℕ). get_or r (i % 65536) 0) (row-set_other rs q new.bytes.items hand.there i other)
    ]

pub returns-clause-still : goal.returns-clause-still
returns-clause-still c i long =
    let f = c.args.self.now in
    let at = c.args.at in
    let q : ℕ = at / 65536 in
    let rs = rows f.groups.items in
    let inside : 65536 * q < f.len = omega (arith, c.requires.inside, c.requires.some) in
    let place = there_of rs q c.requires.held in
    let group = c.index_mut-group in
    let chunk = c.index_mut-chunk in
    let hand =
    in_hand f q group.result.now chunk.result.now c.index_mut.result.now inside place.page group.ensures.value chunk.ensures.value c.index_mut.ensures.value in
    let new = c.put.new.self in
    ap (λ ts. length (row_at ts i)) (hand.after _ _ new refl refl)
    ∙ still-set rs q new.bytes.items hand.there 65536 (λ _. c.put.ensures.size) i long
