use Rattle.std.proofs.Common.{◌≡◌, ℕ, ◌/◌, ◌%◌, List, get_or, Option, None, refl, sym, ap, ◌∙◌, inl, inr, arith}
use Rattle.std.proofs.lemmas.Bool.{cases_eq}
use Rattle.guest_windows.specs.Pages.{rows, byte_in}
use Rattle.guest_windows.specs.Drafts.{own_page, own_rows, chunk_rows, byte_over}
use Rattle.guest_windows.proofs.Fitting.{bytes_same}
use Rattle.guest_windows.proofs.Drafting.{laid_is}
use Rattle.guest_windows.proofs.DraftChunks.{own_there, own_elsewhere}
use Rattle.guest_windows.proofs.frame.Frame.adopt.Goals as goal

pub returns : goal.returns
returns c =
    let f = c.args.self.now in
    let chunk = c.args.chunk in
    let k = chunk.window in
    let group = c.hold_group_with in
    let hold = c.hold_chunk_with in
    let laid = c.adopt_pages in
    laid_is f laid.new.self (own_page chunk k) (laid.ensures.base ∙ hold.ensures.base ∙ group.ensures.base)
    (laid.ensures.len ∙ hold.ensures.len ∙ group.ensures.len) (λ i lt.
    let same =
    bytes_same (rows group.new.self.groups.items) (rows hold.new.self.groups.items) hold.ensures.same i
    ∙ bytes_same (rows f.groups.items) (rows group.new.self.groups.items) group.ensures.same i in
    elim (cases_eq (i / 65536 / 4096) chunk.at) [
      | inl is ↦
          let adopted : List (Option (List ℕ)) = own_rows c.deref.result.now c.deref_mut.result.now in
          let all : adopted ≡ chunk_rows chunk =
          ap (λ (numbers : List ℕ). own_rows numbers c.deref_mut.result.now) c.deref.ensures.value
          ∙ ap (own_rows chunk.numbers.items) c.deref_mut.ensures.value in
          laid.ensures.here i (omega (arith, lt, hold.ensures.len, group.ensures.len)) (omega (arith, is))
          ∙ ap (byte_over (get_or adopted (i / 65536 % 4096) None) (i % 65536)) same
          ∙ ap (λ (rs : List (Option (List ℕ))). byte_over (get_or rs (i / 65536 % 4096) None) (i % 65536) (byte_in (rows f.groups.items) i)) all
          ∙ ap (λ (o : Option (List ℕ)). byte_over o (i % 65536) (byte_in (rows f.groups.items) i)) (sym (own_there chunk k (i / 65536) refl (sym is)))
      | inr other ↦
          laid.ensures.others i (λ is. other (omega (arith, is))) ∙ same
          ∙ ap (λ (o : Option (List ℕ)). byte_over o (i % 65536) (byte_in (rows f.groups.items) i))
          (sym (own_elsewhere chunk k (i / 65536) (λ w a. other (sym a))))
    ])

pub returns-then-not-reaches : goal.returns-then-not-reaches
returns-then-not-reaches c =
    let f = c.args.self.now in
    let chunk = c.args.chunk in
    let past = c.reaches.ensures.outside c.if-not-reaches.true in
    laid_is f f (own_page chunk chunk.window) refl refl (λ i lt.
    ap (λ (o : Option (List ℕ)). byte_over o (i % 65536) (byte_in (rows f.groups.items) i))
    (sym (own_elsewhere chunk chunk.window (i / 65536) (λ w a. omega (arith, a, lt, past)))))
