use Rattle.std.proofs.Common.{ap, ◌∙◌}
use Rattle.report_places.specs.Lists.{place_text}
use Rattle.report_places.proofs.list.list_at.Goals as goal

pub returns-in_ok-text-in-Some : goal.returns-in_ok-text-in-Some
returns-in_ok-text-in-Some c = λ copies histories run same.
    let reaches = rw c.in-Some.is at c.in_ok-reached.ensures in c.in_ok-text-in-Some.ensures ∙ ap place_text (reaches copies histories run same)

pub returns-in_ok-text-in-None : goal.returns-in_ok-text-in-None
returns-in_ok-text-in-None c = λ copies histories run same.
    let reaches = rw c.in-None.is at c.in_ok-reached.ensures in c.in_ok-text-in-None.ensures.ok ∙ ap place_text (reaches copies histories run same)
