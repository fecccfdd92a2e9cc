use Rattle.std.proofs.Common.{ℕ, List, sym, subst, inl, inr}
use Rattle.its_fit.specs.Replays.{IsOrder}
use Rattle.its_fit.specs.Verdicts.{IsStart}
use Rattle.fit_answers.proofs.say.say_verdict.Goals as goal

pub returns-in_ok-line-in-Fits : goal.returns-in_ok-line-in-Fits
returns-in_ok-line-in-Fits c = let fits = rw c.in-Fits.is at c.requires.fits in (c.in-Fits.trace.legs, (fits, c.in_ok-line-in-Fits.ensures))

pub returns-in_ok-line-in-Nowhere : goal.returns-in_ok-line-in-Nowhere
returns-in_ok-line-in-Nowhere c =
    let recording = c.args.recording.now in
    let none = rw c.in-Nowhere.is at c.requires.nowhere in
    let goes = rw c.in-Nowhere.is at c.requires.reached in
    let text = c.in_ok-line-in-Nowhere.ensures in
    record {
      none = none;
      order = c.deref.result.now;
      goes = subst (λ (order : List ℕ). IsStart recording.desc.now recording.calls.now recording.told.now order) (sym c.deref.ensures.value) goes;
      more = text.0;
      text_is = text.1;
    }

pub returns-in_ok-line-in-Undecided : goal.returns-in_ok-line-in-Undecided
returns-in_ok-line-in-Undecided c = inl c.in_ok-line-in-Undecided.ensures

pub returns-in_ok-unconfirmed_text-in-Unconfirmed : goal.returns-in_ok-unconfirmed_text-in-Unconfirmed
returns-in_ok-unconfirmed_text-in-Unconfirmed c =
    let recording = c.args.recording.now in
    let fits = rw c.in-Unconfirmed.is at c.requires.unconfirmed in
    inr (record {
      order = c.deref-in-Unconfirmed.result.now;
      fits = subst (λ (order : List ℕ). IsOrder recording.desc.now recording.calls.now recording.told.now order) (sym c.deref-in-Unconfirmed.ensures.value) fits;
      text_is = c.in_ok-unconfirmed_text-in-Unconfirmed.ensures;
    })
