use Rattle.std.proofs.Common.{◌+◌, ap, subst, sym, arith}
use Rattle.its_types.specs.declared.machine.Word.{Word}
use Rattle.its_steps.specs.World.{word_after}
use Rattle.its_steps.specs.declared.commit.Commit.{Commit}
use Rattle.its_turns.specs.Machines.{setup}
use Rattle.its_turns.specs.Words.{IsRoomFor}
use Rattle.its_turns.specs.declared.word.Packing.{Packing}
use Rattle.its_turns.proofs.Stamps.{has_stamps, has_room, room_of, packed_by}
use Rattle.its_turns.proofs.commits.exchange_at.Goals as goal

pub pack-old-requires : goal.pack-old-requires
pack-old-requires g c = let m = c.args.machine.now in let w = g.A.Announces.what.expected in
    subst (λ (z : Packing × Word). IsRoomFor z.0 z.1) (let by = sym (packed_by m) in let is = ap (λ (a : Commit). a.expected) c.requires.what in λ d. (by d, is d))
    (has_room (setup m) w (has_stamps m) (room_of m) c.requires.low (omega (arith, c.requires.may.room)))

pub pack-new-requires : goal.pack-new-requires
pack-new-requires g c = let m = c.args.machine.now in let w = word_after g.A.Announces.what in
    subst (λ (z : Packing × Word). IsRoomFor z.0 z.1)
    (let by = sym (packed_by m) in let place = ap (λ (a : Commit). a.expected) c.requires.what in let stamp = sym c.requires.stamp in
    λ d. (by d, record { stamp = stamp d; place = (place d).place + 1 }))
    (has_room (setup m) w (has_stamps m) (room_of m) c.requires.next (omega (arith, c.requires.may.room)))
