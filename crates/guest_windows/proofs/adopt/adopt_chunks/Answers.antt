use Rattle.std.proofs.Common.{◌≡◌, List, ◌++◌, ◌∷◌, [], refl, sym, ap, ◌∙◌, arith}
use Rattle.guest_windows.specs.Fields.{windows}
use Rattle.guest_windows.specs.declared.draft_chunk.DraftChunk.{DraftChunk}
use Rattle.guest_windows.specs.Drafts.{laid_from, own_of, own_page}
use Rattle.guest_windows.proofs.Drafting.{twice, bare}
use Rattle.guest_windows.proofs.DraftChunks.{of_append, no_items}
use Rattle.guest_windows.proofs.adopt.adopt_chunks.Goals as goal

pub loop-chunk-preserved : goal.loop-chunk-preserved
loop-chunk-preserved c =
    let left = c.pop.new.self.items in
    let chunk = c.in-Some.chunk in
    let ws = windows c.loop-chunk.frames.items in
    ap (laid_from (own_of left) 0) c.adopt_chunk.ensures
    ∙ twice (own_of left) (own_page chunk) (own_of (left ++ chunk ∷ [])) (of_append left chunk) 0 ws
    ∙ ap (λ (cs : List DraftChunk). laid_from (own_of cs) 0 ws) (sym c.in-Some.ensures.items)
    ∙ c.loop-chunk.invariant

pub returns : goal.returns
returns c =
    let ws = windows c.loop-chunk.frames.items in
    let none : c.loop-chunk.chunks.items ≡ [] = no_items c.loop-chunk.chunks.items (omega (arith, c.in_default.ensures.cases.0, c.loop-chunk.chunks.ok.0)) in
    sym (ap (λ (cs : List DraftChunk). laid_from (own_of cs) 0 ws) none ∙ bare (own_of []) (λ k q. refl) 0 ws) ∙ c.loop-chunk.invariant
