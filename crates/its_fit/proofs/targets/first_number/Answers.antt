use Rattle.std.proofs.Common.{◌≡◌, ◌∙◌, ℕ, length, take, sym, ap}
use Rattle.std.specs.Fmt.{decimal}
use Rattle.its_fit.proofs.Lists.{none_some, some_is}
use Rattle.its_fit.proofs.Sent.{before_space, space_at}
use Rattle.its_fit.proofs.targets.first_number.Goals as goal

pub returns-in_err-space : goal.returns-in_err-space
returns-in_err-space c n rest lt e =
    none_some (length (decimal n)) c.place_of.result c.in_err-space.was (c.place_of.ensures.place ∙ space_at n rest c.args.text.now lt e)

pub returns : goal.returns
returns c n rest lt e =
    let at : c.in_ok-space.space ≡ length (decimal n) = some_is (sym c.in_ok-space.was ∙ c.place_of.ensures.place ∙ space_at n rest c.args.text.now lt e) in
    c.parsed.ensures n lt (sym (ap (λ (k : ℕ). take k c.args.text.now) at ∙ before_space n rest c.args.text.now e))
