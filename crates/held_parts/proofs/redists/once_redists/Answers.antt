use Rattle.std.proofs.Common.{List, Option, length, ap, sym, ◌∙◌, subst}
use Rattle.lpi_config.specs.Conf.{Conf as ConfInHand}
use Rattle.its_steps.specs.Parts.{vcpu_count}
use Rattle.its_turns.specs.Machines.{setup, view}
use Rattle.held_parts.specs.Redists.{conf_held, row_of, pends_held, AreBeforePends, IsConfIn, IsPendIn, IsRedistIn}
use Rattle.held_parts.specs.Rows.{in_row}
use Rattle.held_parts.proofs.Once.{once_wider, once_then, busy_wider, busy_then, busy_held}
use Rattle.held_parts.proofs.Both.{conf_of_both, pend_of_both, confs_before_pends}
use Rattle.held_parts.proofs.redists.once_redists.Goals as goal

pub returns-in-Err-clause-result : goal.returns-in-Err-clause-result
returns-in-Err-clause-result c = let a = c.args in (
  busy_wider (IsConfIn a.confs) (IsRedistIn a.confs a.pends) (conf_of_both a.confs a.pends) (view a.pass.now) (view c.once_confs.new.pass) c.in-Err.busy
      c.in-Err.ensures.result.0,
  record {
    confs = c.in-Err.ensures.result.1;
    pends = rw (c.once_confs.ensures.pends) c.requires.empty.pends;
    places = record {
      confs = c.once_confs.ensures.room ∙ c.requires.empty.places.confs;
      pends = ap length c.once_confs.ensures.pends ∙ c.requires.empty.places.pends;
    };
  },
)

pub once_pends-requires-clause-empty : goal.once_pends-requires-clause-empty
once_pends-requires-clause-empty c = rw (c.once_confs.ensures.pends) c.requires.empty.pends

pub once_pends-requires-clause-room : goal.once_pends-requires-clause-room
once_pends-requires-clause-room c = ap length c.once_confs.ensures.pends ∙ c.requires.empty.places.pends

pub once_pends-requires-clause-order : goal.once_pends-requires-clause-order
once_pends-requires-clause-order c = subst AreBeforePends (sym c.in-Ok.ensures.result.1)
    (confs_before_pends (vcpu_count (setup c.args.machine.now)) c.once_confs.new.redists (view c.args.pass.now).held c.requires.before_pends)

pub returns-in-Ok-once_pends-clause-result : goal.returns-in-Ok-once_pends-clause-result
returns-in-Ok-once_pends-clause-result c =
    let a = c.args in let n = vcpu_count (setup a.machine.now) in let v = view a.pass.now in let x = view c.once_confs.new.pass in
    let y = view c.once_pends.new.pass in let first = c.in-Ok.ensures.result in let then = c.in-Ok-once_pends.ensures.result in
    let same = c.once_pends.ensures.confs in (
      once_then (IsRedistIn a.confs a.pends) v x y
          (once_wider (IsConfIn a.confs) (IsRedistIn a.confs a.pends) (conf_of_both a.confs a.pends) v x first.0)
          (once_wider (IsPendIn a.pends) (IsRedistIn a.confs a.pends) (pend_of_both a.confs a.pends) x y then.0),
      then.1 ∙ ap (pends_held c.once_pends.new.redists n)
          (first.1 ∙ ap (λ (cs : List (Option ConfInHand)). in_row (row_of conf_held cs) n v.held) (sym same)),
      record {
        confs = rw (same) first.2;
        pends = then.2;
        places = record {
          confs = ap length same ∙ (c.once_confs.ensures.room ∙ c.requires.empty.places.confs);
          pends = c.once_pends.ensures.room ∙ (ap length c.once_confs.ensures.pends ∙ c.requires.empty.places.pends);
        };
      },
    )

pub put_confs-requires-clause-hand : goal.put_confs-requires-clause-hand
put_confs-requires-clause-hand c = rw (c.once_pends.ensures.confs) c.in-Ok.ensures.result.2

pub put_confs-requires-clause-held : goal.put_confs-requires-clause-held
put_confs-requires-clause-held c =
    let a = c.args in let n = vcpu_count (setup a.machine.now) in let v = view a.pass.now in (
      v.held,
      busy_held (IsPendIn a.pends) (view c.once_confs.new.pass) (view c.once_pends.new.pass) c.in-Err-once_pends.busy c.in-Err-once_pends.ensures.result.0
          ∙ (c.in-Ok.ensures.result.1
          ∙ ap (λ (cs : List (Option ConfInHand)). in_row (row_of conf_held cs) n v.held) (sym c.once_pends.ensures.confs)),
    )

pub returns-in-Err-once_pends-clause-result : goal.returns-in-Err-once_pends-clause-result
returns-in-Err-once_pends-clause-result c =
    let a = c.args in let n = vcpu_count (setup a.machine.now) in let v = view a.pass.now in let x = view c.once_confs.new.pass in
    let y = view c.once_pends.new.pass in let b = c.in-Err-once_pends.busy in let f = c.in-Err-once_pends.ensures.result in
    let held = busy_held (IsPendIn a.pends) x y b f.0 ∙ (c.in-Ok.ensures.result.1
    ∙ ap (λ (cs : List (Option ConfInHand)). in_row (row_of conf_held cs) n v.held) (sym c.once_pends.ensures.confs)) in (
      busy_then (IsRedistIn a.confs a.pends) v x y (view c.put_confs.new.pass) b
          (once_wider (IsConfIn a.confs) (IsRedistIn a.confs a.pends) (conf_of_both a.confs a.pends) v x c.in-Ok.ensures.result.0)
          (busy_wider (IsPendIn a.pends) (IsRedistIn a.confs a.pends) (pend_of_both a.confs a.pends) x y b f.0)
          (c.put_confs.ensures.home v.held held),
      record {
        confs = c.put_confs.ensures.empty;
        pends = rw (c.put_confs.ensures.pends) f.1;
        places = record {
          confs = c.put_confs.ensures.room ∙ (ap length c.once_pends.ensures.confs ∙ (c.once_confs.ensures.room ∙ c.requires.empty.places.confs));
          pends = ap length c.put_confs.ensures.pends ∙ (c.once_pends.ensures.room
              ∙ (ap length c.once_confs.ensures.pends ∙ c.requires.empty.places.pends));
        };
      },
    )
