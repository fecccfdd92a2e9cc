use Rattle.std.specs.String.{string_bytes}
use Rattle.its_explain.specs.Many.{migrations_text}
use Rattle.its_explain.proofs.Texts.{onto}
use Rattle.its_explain.proofs.many.push_migrations.Goals as goal

pub returns : goal.returns
unfolding migrations_text
returns c =
    onto c.push_enclosed-2.result _ (string_bytes c.push_enclosed.new.out) (string_bytes c.args.out.now) _ _
    c.in_ok-push_enclosed.ensures
    c.push_enclosed-2.ensures
