use Rattle.std.proofs.Common.{ℕ, List, length, sym, ap, ◌∙◌}
use Rattle.guest_windows.specs.Windows.{inside}
use Rattle.guest_port.proofs.Alone.{ok_is, outside_is}
use Rattle.guest_port.proofs.answers.poke_answer.Goals as goal

pub returns-then-inside : goal.returns-then-inside
returns-then-inside c =
    let ws = c.args.memory.now in
    record {
      reply = tt;
      answer = ok_is ws c.args.addr.0 c.args.bytes.now (ap (λ (bytes : List ℕ). inside ws c.args.addr.0 (length bytes)) (sym c.as_slice.ensures.bytes)
          ∙ sym c.inside.ensures.inside ∙ c.if-inside.true);
    }

pub returns-else-inside : goal.returns-else-inside
returns-else-inside c =
    let ws = c.args.memory.now in
    record {
      reply = tt;
      answer = outside_is ws c.args.addr.0 c.args.bytes.now (ap (λ (bytes : List ℕ). inside ws c.args.addr.0 (length bytes)) (sym c.as_slice.ensures.bytes)
          ∙ sym c.inside.ensures.inside ∙ c.if-inside.false);
    }
