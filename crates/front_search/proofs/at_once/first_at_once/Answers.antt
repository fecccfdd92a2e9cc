use Rattle.front_search.proofs.at_once.first_at_once.Goals as goal

pub returns-then-goes_at_once-clause-at_once : goal.returns-then-goes_at_once-clause-at_once
returns-then-goes_at_once-clause-at_once g c = c.goes_at_once.ensures.at_once c.if-goes_at_once.true
