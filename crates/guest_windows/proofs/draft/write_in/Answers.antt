use Rattle.std.proofs.Common.{length, arith}
use Rattle.guest_windows.specs.Drafts.{own_of}
use Rattle.guest_windows.proofs.Drafting.{laid_written}
use Rattle.guest_windows.proofs.Fitting.{fits_frame}
use Rattle.guest_windows.proofs.draft.write_in.Goals as goal

pub write_at-requires : goal.write_at-requires
write_at-requires c =
    let t = fits_frame c.args.frame.now c.args.addr.0 (length c.args.bytes.now) c.requires in
    omega (arith, t.above, t.below)

pub returns-clause-written : goal.returns-clause-written
returns-clause-written c =
    let f = c.args.frame.now in
    let w = c.args.window in
    laid_written f (own_of c.args.chunks.now.items w) (own_of c.write_at.new.chunks.items w) c.args.addr.0 c.args.bytes.now c.requires
    c.in_ok-write_at.ensures.here c.in_ok-write_at.ensures.others
