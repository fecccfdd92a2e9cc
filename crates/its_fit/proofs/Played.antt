-- Calls that are made one after another.
use Rattle.std.proofs.Common.{◌≡◌, List, [], ◌∷◌, ◌++◌, refl}
use Rattle.its_plain.specs.Plain.{Plain}
use Rattle.its_plain.specs.Runs.{Phase}
use Rattle.its_fit.specs.Replays.{call_at, left_by, played}
use Rattle.its_fit.specs.declared.replay.Made.{Made}

pub played_more : (calls : Phase) (u : Plain) (log : List Made) (m : Made)
    → played calls u (log ++ m ∷ []) ≡ left_by (played calls u log) (call_at calls m.thread m.call)
played_more calls u [] m = refl
played_more calls u (x ∷ log) m = played_more calls (left_by u (call_at calls x.thread x.call)) log m
