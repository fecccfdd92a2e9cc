use Rattle.std.proofs.Common.{◌≡◌, ℕ, ◌+◌, ◌-◌, ◌<◌, ◌≤◌, ◌⊎◌, true, List, length, drop, sym, ap, ◌∙◌, arith, inl, inr, length-drop}
use Rattle.std.proofs.lemmas.List.{length-take-le, get_or-take, get_or-drop}
use Rattle.guest_windows.specs.Windows.{has, piece, put}
use Rattle.guest_windows.specs.Fields.{window}
use Rattle.guest_windows.specs.Pages.{rows, byte_in, bytes_of}
use Rattle.guest_windows.specs.declared.frame.Frame.{Frame}
use Rattle.guest_windows.proofs.Fitting.{fits_frame}
use Rattle.guest_windows.proofs.Sparse.{written_is, length-bytes, byte_of}
use Rattle.guest_windows.proofs.frame.Frame.copy_bytes.Goals as goal

copied_is : (f g h : Frame) (a n : ℕ) → f.base ≡ g.base → f.len ≡ g.len → has (window f) a n ≡ true → h.base ≡ f.base → h.len ≡ f.len
    → ((i : ℕ) → a - f.base ≤ i → i < a - f.base + n → byte_in (rows h.groups.items) i ≡ byte_in (rows g.groups.items) i)
    → ((i : ℕ) → (i < a - f.base) ⊎ (a - f.base + n ≤ i) → byte_in (rows h.groups.items) i ≡ byte_in (rows f.groups.items) i)
    → window h ≡ put (window f) a (piece (window g) a n)
copied_is f g h a n base len it new_base new_len here others =
    let t = fits_frame f a n it in
    let above = t.above in let below = t.below in
    let start = a - f.base in
    let rs = rows f.groups.items in
    let ts = rows g.groups.items in
    let now = rows h.groups.items in
    let all = bytes_of g.len ts in
    let place : a - g.base ≡ start = omega (arith, base) in
    let bs = piece (window g) a n in
    let long : length bs ≡ n = length-take-le n (drop (a - g.base) all) (omega (arith, above, below, base, len, length-drop (a - g.base) all, length-bytes g.len ts)) in
    ap (λ (b : ℕ). record { base = b; bytes = bytes_of h.len now }) new_base
    ∙ ap (λ (m : ℕ). record { base = f.base; bytes = bytes_of m now }) new_len
    ∙ ap (λ (xs : List ℕ). record { base = f.base; bytes = xs })
    (written_is f.len rs now start bs (omega (arith, above, below, long))
    (λ k lt.
    let less : k < n = omega (arith, lt, long) in
    here (start + k) (omega arith) (omega (arith, less))
    ∙ sym (get_or-take n (drop (a - g.base) all) k 0 less ∙ get_or-drop (a - g.base) all k 0
    ∙ byte_of g.len ts (a - g.base + k) (omega (arith, above, below, base, len, less))
    ∙ ap (λ (i : ℕ). byte_in ts (i + k)) place))
    (λ i out. others i (elim out [ inl low ↦ inl low | inr high ↦ inr (omega (arith, high, long)) ])))

pub copy_at-requires-clause-fits : goal.copy_at-requires-clause-fits
copy_at-requires-clause-fits c =
    let t = fits_frame c.args.self.now c.args.addr.0 c.args.len c.requires.has in
    omega (arith, t.above, t.below)

pub copy_at-requires-clause-held : goal.copy_at-requires-clause-held
copy_at-requires-clause-held c i low high =
    let t = fits_frame c.args.self.now c.args.addr.0 c.args.len c.requires.has in
    c.requires.whole i (omega arith) (omega (arith, t.above, t.below, high))

pub returns-clause-copied : goal.returns-clause-copied
returns-clause-copied c = copied_is c.args.self.now c.args.from.now c.copy_at.new.self c.args.addr.0 c.args.len c.requires.base c.requires.len c.requires.has
    c.copy_at.ensures.base c.copy_at.ensures.len c.copy_at.ensures.here c.copy_at.ensures.others

pub returns-clause-whole : goal.returns-clause-whole
returns-clause-whole c i low high = c.copy_at.ensures.still i (c.requires.whole i low (omega (arith, high, c.copy_at.ensures.len)))
