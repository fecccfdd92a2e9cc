use Rattle.owned_machine.proofs.Grown.{window_goes}
use Rattle.owned_machine.proofs.windows.add_window.Goals as goal

pub returns-clause-added : goal.returns-clause-added
returns-clause-added c =
    window_goes c.args.parts.now (c.args.base.0, c.args.len) c.add_window.new.self c.in_ok-track.track c.requires c.in_ok-add_window.ensures.fits
    c.in_ok-add_window.ensures.added c.in_ok-track.ensures.track
