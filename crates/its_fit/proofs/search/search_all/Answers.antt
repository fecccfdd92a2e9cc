use Rattle.std.proofs.Common.{◌≡◌, ◌∙◌, List, [], ap, subst}
use Rattle.front_search.specs.Fits.{Fits}
use Rattle.front_search.specs.Fronts.{Threads, start}
use Rattle.front_search.specs.Trails.{IsReached, NoneFits}
use Rattle.its_fit.specs.Replays.{Goes, IsEnd, spans_of}
use Rattle.its_fit.specs.declared.replay.Made.{Made}
use Rattle.its_fit.proofs.Confirming.{reached_by}
use Rattle.its_fit.proofs.Fitting.{none_explains, order_by}
use Rattle.its_fit.proofs.search.search_all.Goals as goal

pub returns-in-Nowhere-clause-nowhere : goal.returns-in-Nowhere-clause-nowhere
returns-in-Nowhere-clause-nowhere c =
    let r = c.args.recording.now in
    let spans : c.deref.result.now ≡ spans_of r.told.now.threads = c.deref.ensures.value ∙ c.in_ok-spans.ensures ∙ ap spans_of c.as_slice.ensures in
    let none : NoneFits (Goes r.desc.now r.calls.now r.told.now) (IsEnd r.desc.now r.calls.now r.told.now) c.deref.result.now c.new-none.result =
    rw c.in-Nowhere.is at c.in_ok-order.ensures.nowhere in
    let from : NoneFits (Goes r.desc.now r.calls.now r.told.now) (IsEnd r.desc.now r.calls.now r.told.now) (spans_of r.told.now.threads) [] =
    subst (λ (t : Threads). NoneFits (Goes r.desc.now r.calls.now r.told.now) (IsEnd r.desc.now r.calls.now r.told.now) t []) spans
    (subst (λ (log : List Made). NoneFits (Goes r.desc.now r.calls.now r.told.now) (IsEnd r.desc.now r.calls.now r.told.now) c.deref.result.now log)
    c.new-none.ensures none) in
    λ first lines starts. none_explains r.desc.now first starts r.calls.now r.told.now lines from

pub returns-in-Nowhere-clause-reached : goal.returns-in-Nowhere-clause-reached
returns-in-Nowhere-clause-reached c =
    let r = c.args.recording.now in
    let spans : c.deref.result.now ≡ spans_of r.told.now.threads = c.deref.ensures.value ∙ c.in_ok-spans.ensures ∙ ap spans_of c.as_slice.ensures in
    let at : IsReached (Goes r.desc.now r.calls.now r.told.now) c.deref.result.now c.new-none.result c.in-Nowhere.reached.items =
    rw c.in-Nowhere.is at c.in_ok-order.ensures.reached in
    reached_by r.desc.now r.calls.now r.told.now c.deref.result.now c.new-none.result c.in-Nowhere.reached.items spans c.new-none.ensures at

pub returns-in-Fits-clause-unconfirmed : goal.returns-in-Fits-clause-unconfirmed
returns-in-Fits-clause-unconfirmed c =
    let r = c.args.recording.now in
    let spans : c.deref.result.now ≡ spans_of r.told.now.threads = c.deref.ensures.value ∙ c.in_ok-spans.ensures ∙ ap spans_of c.as_slice.ensures in
    let fits : Fits (Goes r.desc.now r.calls.now r.told.now) (IsEnd r.desc.now r.calls.now r.told.now) c.deref.result.now (start c.deref.result.now)
    c.new-none.result c.in-Fits.order.items = rw c.in-Fits.is at c.in_ok-order.ensures.fits in
    order_by r.desc.now r.calls.now r.told.now c.deref.result.now c.new-none.result c.in-Fits.order.items spans c.new-none.ensures fits
