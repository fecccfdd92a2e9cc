use Rattle.std.proofs.Common.{sym, subst}
use Rattle.std.specs.Prelude.{OnOk}
use Rattle.its_player.specs.Shared.{core_of, IsMove}
use Rattle.its_steps.specs.declared.event.Kind.{Kind}
use Rattle.its_player.proofs.shared.Shared.moved.Goals as goal

pub returns-in-Load-clause-moves : goal.returns-in-Load-clause-moves
returns-in-Load-clause-moves c = subst (λ (k : Kind). OnOk c.load.result (IsMove (core_of c.args.self.now) c.args.at k (core_of c.load.new.self)))
    (sym c.in-Load.is) c.load.ensures.moves

pub returns-in-Try-clause-moves : goal.returns-in-Try-clause-moves
returns-in-Try-clause-moves c = subst (λ (k : Kind). OnOk c.try_part.result (IsMove (core_of c.args.self.now) c.args.at k (core_of c.try_part.new.self)))
    (sym c.in-Try.is) c.try_part.ensures.moves

pub returns-in-Commit-clause-moves : goal.returns-in-Commit-clause-moves
returns-in-Commit-clause-moves c = subst (λ (k : Kind). OnOk c.commit.result (IsMove (core_of c.args.self.now) c.args.at k (core_of c.commit.new.self)))
    (sym c.in-Commit.is) c.commit.ensures.moves

pub returns-in-PutHome-clause-moves : goal.returns-in-PutHome-clause-moves
returns-in-PutHome-clause-moves c = subst (λ (k : Kind). OnOk c.put_home.result (IsMove (core_of c.args.self.now) c.args.at k (core_of c.put_home.new.self)))
    (sym c.in-PutHome.is) c.put_home.ensures.moves

pub returns-in-Split-clause-moves : goal.returns-in-Split-clause-moves
returns-in-Split-clause-moves c = subst (λ (k : Kind). OnOk c.split.result (IsMove (core_of c.args.self.now) c.args.at k (core_of c.split.new.self)))
    (sym c.in-Split.is) c.split.ensures.moves

pub returns-in-Note-clause-moves : goal.returns-in-Note-clause-moves
returns-in-Note-clause-moves c = subst (λ (k : Kind). OnOk c.note.result (IsMove (core_of c.args.self.now) c.args.at k (core_of c.note.new.self)))
    (sym c.in-Note.is) c.note.ensures.moves

pub returns-in-Join-clause-moves : goal.returns-in-Join-clause-moves
returns-in-Join-clause-moves c = subst (λ (k : Kind). OnOk c.join.result (IsMove (core_of c.args.self.now) c.args.at k (core_of c.join.new.self)))
    (sym c.in-Join.is) c.join.ensures.moves

pub returns-in-Meet-clause-moves : goal.returns-in-Meet-clause-moves
returns-in-Meet-clause-moves c = subst (λ (k : Kind). OnOk c.meet.result (IsMove (core_of c.args.self.now) c.args.at k (core_of c.meet.new.self)))
    (sym c.in-Meet.is) c.meet.ensures.moves

pub returns-in-TakeOut-clause-moves : goal.returns-in-TakeOut-clause-moves
returns-in-TakeOut-clause-moves c = subst (λ (k : Kind). IsMove (core_of c.args.self.now) c.args.at k (core_of c.take_out.new.self))
    (sym c.in-TakeOut.is) c.take_out.ensures.moves

pub returns-in-Release-clause-moves : goal.returns-in-Release-clause-moves
returns-in-Release-clause-moves c = subst (λ (k : Kind). IsMove (core_of c.args.self.now) c.args.at k (core_of c.release.new.self))
    (sym c.in-Release.is) c.release.ensures.moves
