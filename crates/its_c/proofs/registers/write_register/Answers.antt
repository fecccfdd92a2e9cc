use Rattle.std.proofs.Common.{ap}
use Rattle.its_plain.specs.Answer.{left, written}
use Rattle.its_numbers.specs.Routes.{is_no_table}
use Rattle.its_numbers.proofs.RoutesStay.{write_stays}
use Rattle.its_c.specs.Keeping.{Held}
use Rattle.its_c.proofs.RoutesStay.{counts}
use Rattle.its_c.proofs.registers.write_register.Goals as goal

pub returns-clause-routes : goal.returns-clause-routes
unfolding left
returns-clause-routes c =
    let h = c.args.kept.now in
    counts h c.answer.new.self c.count.new.self (written h.machine c.args.translator c.args.offset c.args.size c.args.value) c.is_no_table.result
    (is_no_table c.args.offset) c.in-Ok.ensures.left (ap (λ (k : Held). k.machine) c.count.ensures) (ap (λ (k : Held). k.routes) c.count.ensures)
    c.is_no_table.ensures (λ leaves its. write_stays h.machine c.args.translator its c.args.offset c.args.size c.args.value leaves)
