use Rattle.std.proofs.Common.{◌≡◌, ap, sym, ◌∙◌}
use Rattle.xlate_cache.specs.Observed.{holds_only}
use Rattle.xlate_cache.proofs.OnlyGiven.{all_given, given_all}
use Rattle.xlate_cache.proofs.shard.Shard.holds_only.Goals as goal

pub returns-clause-only : goal.returns-clause-only
returns-clause-only c =
    let same : c.all_only.result ≡ holds_only c.args.self.now c.args.given = c.all_only.ensures
    ∙ ap (λ ways. holds_only ways c.args.given) c.ways.ensures.ways in
    (λ is. all_given c.args.given c.args.self.now (sym same ∙ is), λ h. same ∙ given_all c.args.given c.args.self.now h)
