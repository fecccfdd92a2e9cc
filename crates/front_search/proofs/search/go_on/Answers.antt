use Rattle.std.proofs.Common.{◌≡◌, ◌∙◌, sym, subst}
use Rattle.front_search.specs.Sleeping.{NoneFrom}
use Rattle.front_search.specs.declared.trail.Search.{Search}
use Rattle.front_search.proofs.Trails.{none_fits}
use Rattle.front_search.proofs.search.go_on.Goals as goal
use Rattle.front_search.proofs.search.go_on.Goals.{then-is_longest+in_ok-further+else-further, else-is_longest}

pub run_on-requires-clause-none : goal.run_on-requires-clause-none
run_on-requires-clause-none g c =
    none_fits (g.C.Recorded.Goes c.args.calls.now) (g.C.Recorded.IsEnd c.args.calls.now) c.args.threads.now c.args.search.now.front.items
    c.args.search.now.state c.args.search.now.next c.requires.at.1.none_below c.requires.no_more c.requires.no_end

pub go_back-requires-clause-no_more : goal.go_back-requires-clause-no_more
go_back-requires-clause-no_more g c =
    let still : c.if-is_longest.search ≡ c.args.search.now =
    elim c.if-is_longest.branch [
      | then-is_longest+in_ok-further+else-further w ↦ w.search-is ∙ w.in_ok-further.ensures.stays w.if-further.false
      | else-is_longest w ↦ w.search-is
    ] in
    subst (λ (s : Search g.row.S.Denot). NoneFrom (g.C.Recorded.Goes c.args.calls.now) (g.C.Recorded.IsEnd c.args.calls.now) c.args.threads.now s.front.items
    s.state s.next) (sym still) c.requires.no_more
