use Rattle.std.proofs.Common.{◌≡◌, ℕ, List, length, map, Some, None, refl, sym, ap, ◌∙◌, inl, inr, arith}
use Rattle.guest_windows.specs.Windows.{Window, write_at}
use Rattle.guest_windows.specs.Fields.{windows, place_from}
use Rattle.guest_windows.specs.Drafts.{Laid, laid, laid_of, own_by, own_of}
use Rattle.guest_windows.proofs.Places.{not_found}
use Rattle.guest_windows.proofs.Frames.{at_frame}
use Rattle.guest_windows.proofs.Drafting.{place_laid, wrote_window, has_window}
use Rattle.guest_windows.proofs.draft.Draft.write.Goals.{in-Ok, in-Err}
use Rattle.guest_windows.proofs.draft.Draft.write.Goals as goal

pub returns-in_default : goal.returns-in_default
returns-in_default c =
    let bs : List ℕ = c.args.bytes.now in
    let a = c.args.addr.0 in
    let ws = c.args.memory.now in
    let e : place_from 0 (windows c.memory.inside.frames.items) a (length c.args.bytes.now) ≡ None = cc in
    let at : place_from 0 ws a (length c.args.bytes.now) ≡ None = ap (λ (vs : List Window). place_from 0 vs a (length c.args.bytes.now)) (sym c.memory.view_is)
    ∙ e in
    let none : write_at (laid c.args.self.now ws) a bs ≡ None =
    (not_found (laid c.args.self.now ws) 0 a (length c.args.bytes.now) (place_laid (own_by c.args.self.now) 0 0 ws a (length c.args.bytes.now)
    ∙ at)).1 bs refl in
    record { written = rw none (refl, refl) }

pub index-requires : goal.index-requires
index-requires c =
    let fs = c.memory.inside.frames in
    let e : place_from 0 (windows fs.items) c.args.addr.0 (length c.args.bytes.now) ≡ Some c.in-Some.at = cc in
    omega (arith, (at_frame fs.items c.args.addr.0 (length c.args.bytes.now) c.in-Some.at e).inside, fs.ok.0)

pub write_in-requires : goal.write_in-requires
write_in-requires c =
    let fs = c.memory.inside.frames.items in
    let e : place_from 0 (windows fs) c.args.addr.0 (length c.args.bytes.now) ≡ Some c.in-Some.at = cc in
    (at_frame fs c.args.addr.0 (length c.args.bytes.now) c.in-Some.at e).yes _ c.index.ensures

pub returns : goal.returns
returns c =
    let bs : List ℕ = c.args.bytes.now in
    let a = c.args.addr.0 in
    let fs = c.memory.inside.frames.items in
    let ws = c.args.memory.now in
    let cs = c.self.inside.chunks.items in
    let new = c.write_in.new.chunks.items in
    let j = c.in-Some.at in
    let e : place_from 0 (windows fs) a (length c.args.bytes.now) ≡ Some j = cc in
    let same : write_at (laid c.args.self.now ws) a bs ≡ write_at (laid (map laid_of cs) (windows fs)) a bs =
    ap (λ (ds : List Laid). write_at (laid ds ws) a bs) (sym c.self.view_is)
    ∙ ap (λ (vs : List Window). write_at (laid (map laid_of cs) vs) a bs) (sym c.memory.view_is) in
    elim c.match-write_in.branch [
      | in-Ok w ↦
          let wrote : write_at (laid c.args.self.now ws) a bs ≡ Some (laid (map laid_of new) ws) =
          same ∙ wrote_window fs c.index.result.now (own_of cs) (own_of new) a j bs e c.index.ensures w.in-Ok.ensures.written w.in-Ok.ensures.apart
          ∙ ap (λ (vs : List Window). Some (laid (map laid_of new) vs)) c.memory.view_is in
          record { written = rw wrote (inl (w.result-is, refl)) }
      | in-Err w ↦
          let there = has_window fs c.index.result.now (own_of cs) a j bs e c.index.ensures in
          let some : write_at (laid c.args.self.now ws) a bs ≡ Some there.0 = same ∙ there.1 in
          record { written = rw some (inr w.result-is) }
    ]
