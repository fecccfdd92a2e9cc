use Rattle.dirty_log.proofs.Whole.{copy_is}
use Rattle.dirty_log.proofs.Tracks.{untouched_is, writes_keep, copies_keep, copy_has_all}
use Rattle.dirty_log.proofs.laws.copies_agree.Goals as goal

pub returns : goal.returns
returns c = record { untouched = untouched_is; write = writes_keep; copy = copies_keep; whole = copy_has_all; same = copy_is }
