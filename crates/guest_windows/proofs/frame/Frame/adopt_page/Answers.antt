use Rattle.std.proofs.Common.{◌≡◌, ℕ, ◌+◌, ◌-◌, ◌%◌, ◌<◌, List, [], length, get_or, Option, sym, ap, ◌∙◌, arith}
use Rattle.std.proofs.lemmas.List.{get_or-map, get_or-set_other, map-set, length-map}
use Rattle.guest_windows.specs.declared.page.Page.{Page}
use Rattle.guest_windows.specs.Chunks.{page_rows}
use Rattle.guest_windows.specs.Pages.{rows, page_row, byte_in}
use Rattle.guest_windows.specs.Drafts.{byte_over}
use Rattle.guest_windows.proofs.Numbers.{numbered_is}
use Rattle.guest_windows.proofs.frame.Frame.adopt_page.Goals as goal

pub returns-then-page-self-clause-here : goal.returns-then-page-self-clause-here
returns-then-page-self-clause-here c i lt is =
    let laid : List Page = c.args.laid.now in
    let n : ℕ = c.args.number in
    let place : ℕ = c.from.result - 1 in
    let next : n ≡ place + 1 = omega (arith, c.from.ensures, c.if-number-gt0.true) in
    let inside : place < length laid = omega (arith, next, c.requires.number) in
    let there : place < length (page_rows laid) = omega (arith, inside, length-map laid (λ (p : Page). p.bytes.items)) in
    let m : ℕ = i % 65536 in
    let fresh = c.index-laid-from.result in
    ap (λ (q : ℕ). get_or (page_row (rows c.exchange_page.new.self.groups.items) q) m 0) is
    ∙ ap (λ (row : List ℕ). get_or row m 0)
    (c.exchange_page.ensures.here
    ∙ sym (get_or-map (λ (p : Page). p.bytes.items) laid place fresh [] inside))
    ∙ sym (ap (λ (o : Option (List ℕ)). byte_over o m (byte_in (rows c.args.self.now.groups.items) i)) (numbered_is (page_rows laid) n place next there))

pub returns-then-page-self-clause-left : goal.returns-then-page-self-clause-left
returns-then-page-self-clause-left c k not =
    let laid : List Page = c.args.laid.now in
    let place : ℕ = c.from.result - 1 in
    let next : c.args.number ≡ place + 1 = omega (arith, c.from.ensures, c.if-number-gt0.true) in
    let left = c.exchange_page.new.fresh in
    ap (λ (rs : List (List ℕ)). get_or rs k []) (map-set (λ (p : Page). p.bytes.items) laid place left)
    ∙ get_or-set_other (page_rows laid) place k left.bytes.items [] (λ same. not (omega (arith, next, same)))
