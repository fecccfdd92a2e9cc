use Rattle.std.proofs.Common.{◌≡◌, ◌+◌, ◌++◌, ℕ, length, refl, sym, ap, ◌∙◌, subst, arith}
use Rattle.its_maps.specs.Pages.{slots_from, paged, FollowFrom, AllFrom}
use Rattle.its_maps.specs.Walks.{left_of_pages}
use Rattle.its_maps.proofs.Walked.{places_taken, all_from}
use Rattle.its_maps.proofs.paged_walk.PagedWalk.places.Goals as goal

pub returns-clause-walk : goal.returns-clause-walk
returns-clause-walk g c =
    let w = c.self.inside in
    let same : w.key ≡ c.args.key = omega (arith, c.if-self-from.false, c.from.ensures) in
    sym (ap left_of_pages c.self.view_is)
    ∙ places_taken w.key c.min.result (w.key + length c.split_at.result.0.now) w.slots.now c.split_at.result.0.now c.split_at.result.1.now w.pages.now
    c.split_at.ensures.front c.split_at.ensures.back refl
    ∙ ap (λ (k : ℕ). slots_from k c.split_at.result.0.now ++ (slots_from (w.key + length c.split_at.result.0.now) c.split_at.result.1.now ++ paged w.pages.now)) same

pub returns-clause-after : goal.returns-clause-after
returns-clause-after g c some =
    let w = c.self.inside in
    let same : w.key ≡ c.args.key = omega (arith, c.if-self-from.false, c.from.ensures) in
    let front = c.split_at.result.0.now in
    let rest = c.split_at.result.1.now in
    let whole : w.key + length w.slots.now ≡ w.key + length front + length rest =
    omega (arith, c.split_at.ensures.front_len, c.split_at.ensures.back_len) in
    subst (λ (k : ℕ). AllFrom (k + length front) (slots_from (w.key + length front) rest ++ paged w.pages.now)) same
    (all_from (w.key + length front) rest w.pages.now (subst (λ (n : ℕ). FollowFrom n w.pages.now) whole c.self.invariant.2))
