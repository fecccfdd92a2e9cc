use Rattle.std.proofs.Common.{◌≡◌, Some, None, length, refl, ap, ◌∙◌, arith}
use Rattle.guest_windows.specs.Windows.{are_windows}
use Rattle.guest_windows.specs.Fields.{windows, place_from}
use Rattle.guest_windows.proofs.Places.{not_found}
use Rattle.guest_windows.proofs.Frames.{AtFrame, at_frame}
use Rattle.guest_windows.proofs.Laws.{extents-write_at}
use Rattle.guest_windows.proofs.memory.Memory.write_prepared.Goals as goal

pub returns-in_default-clause-written : goal.returns-in_default-clause-written
returns-in_default-clause-written c =
    let ws = windows c.self.inside.frames.items in
    let a = c.args.addr.0 in
    let bytes = c.args.bytes.now in
    let e : place_from 0 ws a (length bytes) ≡ None = cc in
    rw (← c.self.view_is, (not_found ws 0 a (length bytes) e).1 bytes refl) (refl, refl)

pub index_mut-requires : goal.index_mut-requires
index_mut-requires c =
    let fs = c.self.inside.frames in
    let e : place_from 0 (windows fs.items) c.args.addr.0 (length c.args.bytes.now) ≡ Some c.in-Some.at = cc in
    omega (arith, (at_frame fs.items c.args.addr.0 (length c.args.bytes.now) c.in-Some.at e).inside, fs.ok.0)

pub store_with-requires-clause-has : goal.store_with-requires-clause-has
store_with-requires-clause-has c =
    let fs = c.self.inside.frames.items in
    let e : place_from 0 (windows fs) c.args.addr.0 (length c.args.bytes.now) ≡ Some c.in-Some.at = cc in
    (at_frame fs c.args.addr.0 (length c.args.bytes.now) c.in-Some.at e).yes _ c.index_mut.ensures.value

pub returns-clause-written : goal.returns-clause-written
returns-clause-written c =
    let fs = c.self.inside.frames.items in
    let bytes = c.args.bytes.now in
    let e : place_from 0 (windows fs) c.args.addr.0 (length bytes) ≡ Some c.in-Some.at = cc in
    let there : AtFrame fs c.args.addr.0 (length bytes) c.in-Some.at = at_frame fs c.args.addr.0 (length bytes) c.in-Some.at e in
    rw (← c.self.view_is, there.writes _ c.store_with.new.self bytes c.index_mut.ensures.value refl c.store_with.ensures.written) (refl, refl)

pub invariant_of-self : goal.invariant_of-self
invariant_of-self c =
    let fs = c.self.inside.frames.items in
    let bytes = c.args.bytes.now in
    let e : place_from 0 (windows fs) c.args.addr.0 (length bytes) ≡ Some c.in-Some.at = cc in
    let there : AtFrame fs c.args.addr.0 (length bytes) c.in-Some.at = at_frame fs c.args.addr.0 (length bytes) c.in-Some.at e in
    ap are_windows (extents-write_at (windows fs) c.args.addr.0 bytes _
    (there.writes _ c.store_with.new.self bytes c.index_mut.ensures.value refl c.store_with.ensures.written)) ∙ c.self.invariant
