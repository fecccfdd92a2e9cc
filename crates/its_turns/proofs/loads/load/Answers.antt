use Rattle.std.proofs.Common.{◌≡◌, ℕ, arith, ap, sym, subst, ◌∙◌}
use Rattle.its_types.specs.declared.machine.Word.{Word}
use Rattle.its_steps.specs.Parts.{Setup}
use Rattle.its_steps.specs.World.{View}
use Rattle.its_turns.proofs.Looking.{allows_look}
use Rattle.its_turns.proofs.Stamps.{packed_by}
use Rattle.its_turns.specs.Machines.{setup}
use Rattle.its_turns.specs.Told.{Looks, IsLastOrLater, read_by}
use Rattle.its_turns.specs.Words.{unpacked, packing_of}
use Rattle.its_turns.specs.declared.machine.Machine.{Machine}
use Rattle.its_turns.specs.declared.word.Packing.{Packing}
use Rattle.its_turns.proofs.loads.load.Goals as goal

pub load-requires : goal.load-requires
load-requires c = let m = c.args.machine.now in let seat = c.args.seat.now in
    (c.requires.of, omega (arith, m.sized.1), allows_look (setup m) m.table.shared.table_id.slots seat.id seat.me c.requires.live)

-- the number is unpacked as the pass reads it
as_read : (m : Machine) (v : View) (n : ℕ) → v.setup ≡ setup m → unpacked m.packing n ≡ read_by v n
as_read m v n of = ap (λ (p : Packing). unpacked p n) (packed_by m ∙ ap (λ (s : Setup). packing_of s.limits) (sym of))

pub returns-clause-looks : goal.returns-clause-looks
returns-clause-looks c = let v = c.args.seat.now.me.0 in
    subst (λ (w : Word). Looks v w c.load.new.seat.me.0) (sym (c.unpack.ensures ∙ as_read c.args.machine.now v c.load.result c.requires.setup)) c.load.ensures.2.1

pub returns-clause-later : goal.returns-clause-later
returns-clause-later c = let v = c.args.seat.now.me.0 in
    subst (λ (w : Word). IsLastOrLater v w) (sym (c.unpack.ensures ∙ as_read c.args.machine.now v c.load.result c.requires.setup)) c.load.ensures.2.2
