use Rattle.std.proofs.Common.{◌<◌, length, sym, ap, ◌∙◌, arith}
use Rattle.std.proofs.lemmas.List.{map-set, get_or-map, length-map}
use Rattle.guest_windows.specs.Fields.{window, windows}
use Rattle.guest_windows.specs.Drafts.{own_page}
use Rattle.guest_windows.proofs.Drafting.{laid_one, bare_below}
use Rattle.guest_windows.proofs.DraftChunks.{own_elsewhere}
use Rattle.guest_windows.proofs.adopt.adopt_chunk.Goals as goal

pub returns-then-at-len : goal.returns-then-at-len
returns-then-at-len c =
    let fs = c.args.frames.now.items in
    let chunk = c.args.chunk in
    let j = chunk.window in
    let f = c.index_mut.result.now in
    let there : j < length fs = omega (arith, c.if-at-len.true, c.len.ensures, c.args.frames.now.ok.0) in
    map-set window fs j c.adopt.new.self
    ∙ sym (laid_one (own_page chunk) j (windows fs) (window f) (window c.adopt.new.self) (omega (arith, there, length-map fs window))
    (λ n q other. own_elsewhere chunk n q (λ w a. other (sym w)))
    (get_or-map window fs j f (window f) there ∙ ap window (sym c.index_mut.ensures.value)) c.adopt.ensures)

pub returns-else-at-len : goal.returns-else-at-len
returns-else-at-len c =
    let fs = c.args.frames.now.items in
    let chunk = c.args.chunk in
    sym (bare_below (own_page chunk) 0 (windows fs) (λ n q low. own_elsewhere chunk n q (λ w a.
    omega (arith, w, low, c.if-at-len.false, c.len.ensures, c.args.frames.now.ok.0, length-map fs window))))
