use Rattle.std.proofs.Common.{◌≡◌, ℕ, Some, None, List, replicate, refl, ap, ◌∙◌, arith}
use Rattle.std.proofs.lemmas.List.{length-replicate}
use Rattle.guest_windows.specs.Windows.{are_windows}
use Rattle.guest_windows.specs.Fields.{windows, place_from}
use Rattle.guest_windows.proofs.Places.{not_found}
use Rattle.guest_windows.proofs.Frames.{AtFrame, at_frame}
use Rattle.guest_windows.proofs.Laws.{extents-write_at}
use Rattle.guest_windows.proofs.Fitting.{fits_frame}
use Rattle.guest_windows.proofs.memory.Memory.forget.Goals as goal

pub returns-in_default-clause-forgotten : goal.returns-in_default-clause-forgotten
returns-in_default-clause-forgotten c =
    let ws = windows c.self.inside.frames.items in
    let e : place_from 0 ws c.args.addr.0 c.args.len ≡ None = cc in
    rw (← c.self.view_is, (not_found ws 0 c.args.addr.0 c.args.len e).1 (replicate c.args.len 0) (length-replicate c.args.len 0)) (refl, refl)

pub index_mut-requires : goal.index_mut-requires
index_mut-requires c =
    let fs = c.self.inside.frames in
    let e : place_from 0 (windows fs.items) c.args.addr.0 c.args.len ≡ Some c.in-Some.at = cc in
    omega (arith, (at_frame fs.items c.args.addr.0 c.args.len c.in-Some.at e).inside, fs.ok.0)

pub forget-requires : goal.forget-requires
forget-requires c =
    let fs = c.self.inside.frames.items in
    let e : place_from 0 (windows fs) c.args.addr.0 c.args.len ≡ Some c.in-Some.at = cc in
    (at_frame fs c.args.addr.0 c.args.len c.in-Some.at e).yes _ c.index_mut.ensures.value

pub returns-clause-forgotten : goal.returns-clause-forgotten
returns-clause-forgotten c =
    let fs = c.self.inside.frames.items in
    let none : List ℕ = replicate c.args.len 0 in
    let e : place_from 0 (windows fs) c.args.addr.0 c.args.len ≡ Some c.in-Some.at = cc in
    let there : AtFrame fs c.args.addr.0 c.args.len c.in-Some.at = at_frame fs c.args.addr.0 c.args.len c.in-Some.at e in
    rw (← c.self.view_is, there.writes _ c.forget.new.self none c.index_mut.ensures.value (length-replicate c.args.len 0) c.forget.ensures) (refl, refl)

pub returns-clause-low : goal.returns-clause-low
returns-clause-low c =
    let fs = c.self.inside.frames.items in
    let e : place_from 0 (windows fs) c.args.addr.0 c.args.len ≡ Some c.in-Some.at = cc in
    let there : AtFrame fs c.args.addr.0 c.args.len c.in-Some.at = at_frame fs c.args.addr.0 c.args.len c.in-Some.at e in
    (fits_frame c.index_mut.result.now c.args.addr.0 c.args.len (there.yes _ c.index_mut.ensures.value)).low

pub invariant_of-self : goal.invariant_of-self
invariant_of-self c =
    let fs = c.self.inside.frames.items in
    let none : List ℕ = replicate c.args.len 0 in
    let e : place_from 0 (windows fs) c.args.addr.0 c.args.len ≡ Some c.in-Some.at = cc in
    let there : AtFrame fs c.args.addr.0 c.args.len c.in-Some.at = at_frame fs c.args.addr.0 c.args.len c.in-Some.at e in
    ap are_windows (extents-write_at (windows fs) c.args.addr.0 none _
    (there.writes _ c.forget.new.self none c.index_mut.ensures.value (length-replicate c.args.len 0) c.forget.ensures)) ∙ c.self.invariant
