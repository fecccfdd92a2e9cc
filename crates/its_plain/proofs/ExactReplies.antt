-- Comparisons of replies tell equal values from others.
use Rattle.std.proofs.Common.{◌≡◌, ℕ, Bool, true, false, ◌&&◌, ◌==◌, List, [], ◌∷◌, ◌-◌, length, take, eqb, refl, sym, ◌∙◌}
use mathlib.Core.Bool.{false≢true}
use lib.Pointwise.{pointwise}
use Rattle.std.proofs.lemmas.Bool.{eqb-true, eq-eqb}
use Rattle.std.proofs.Math.Seq.{take-append_seam}
use Rattle.std.specs.Prelude.{replicate}
use denote.Enum.Declared.{declared}
use denote.Enum.Bare.{sameb, same_true, true_same}
use denote.Enum.Compared.{Each, by}
use Rattle.its_types.specs.declared.ids.Addr.{Addr}
use Rattle.its_types.specs.declared.ids.DeviceId.{DeviceId}
use Rattle.its_types.specs.declared.ids.EventId.{EventId}
use Rattle.its_types.specs.declared.ids.Intid.{Intid}
use Rattle.its_types.specs.declared.ids.Vcpu.{Vcpu}
use Rattle.its_command.specs.declared.command.Op.{Op}
use Rattle.its_command.specs.contracts.command.Op as op_type
use Rattle.its_plain.specs.declared.call.Reason.{Reason}
use Rattle.its_plain.specs.contracts.call.Reason as reason_type
use Rattle.its_plain.specs.declared.call.Cause.{Cause}
use Rattle.its_plain.specs.contracts.call.Cause as cause_type
use Rattle.its_plain.specs.declared.call.Signal.{Signal}
use Rattle.its_plain.specs.contracts.call.Signal as signal_type
use Rattle.its_plain.specs.declared.call.Ack.{Ack}
use Rattle.its_plain.specs.contracts.call.Ack as ack_type
use Rattle.its_plain.specs.declared.call.StepReply.{StepReply}
use Rattle.its_plain.specs.contracts.call.StepReply as step_type
use Rattle.its_plain.specs.declared.fault.Region.{Region}
use Rattle.its_plain.specs.contracts.fault.Region as region_type
use Rattle.its_plain.specs.declared.fault.SaveFault.{SaveFault}
use Rattle.its_plain.specs.contracts.fault.SaveFault as fault_type
use Rattle.its_plain.specs.declared.call.Reply.{Reply}
use Rattle.its_plain.specs.contracts.call.Reply as reply_type
use Rattle.its_plain.specs.Padded.{padded}
use Rattle.its_plain.proofs.Exact.{Exact, by_exact, none, one, two, front, rest, both, exact_number}

-- ---- numbers and bytes

pub exact_addr : Exact {K = Addr} (λ x y. x.0 == y.0)
exact_addr = record { same = λ x y p i. record { 0 = eqb-true x.0 y.0 p i }; self = λ x. eq-eqb x.0 x.0 refl }

pub exact_deviceid : Exact {K = DeviceId} (λ x y. x.0 == y.0)
exact_deviceid = record { same = λ x y p i. record { 0 = eqb-true x.0 y.0 p i }; self = λ x. eq-eqb x.0 x.0 refl }

pub exact_eventid : Exact {K = EventId} (λ x y. x.0 == y.0)
exact_eventid = record { same = λ x y p i. record { 0 = eqb-true x.0 y.0 p i }; self = λ x. eq-eqb x.0 x.0 refl }

pub exact_intid : Exact {K = Intid} (λ x y. x.0 == y.0)
exact_intid = record { same = λ x y p i. record { 0 = eqb-true x.0 y.0 p i }; self = λ x. eq-eqb x.0 x.0 refl }

pub exact_vcpu : Exact {K = Vcpu} (λ x y. x.0 == y.0)
exact_vcpu = record { same = λ x y p i. record { 0 = eqb-true x.0 y.0 p i }; self = λ x. eq-eqb x.0 x.0 refl }

alike : (xs ys : List ℕ) → pointwise eqb xs ys ≡ true → xs ≡ ys
alike [] [] p = refl
alike [] (y ∷ ys) p = absurd (false≢true p)
alike (x ∷ xs) [] p = absurd (false≢true p)
alike (x ∷ xs) (y ∷ ys) p = λ i. eqb-true x y (front (eqb x y) (pointwise eqb xs ys) p) i ∷ alike xs ys (rest (eqb x y) (pointwise eqb xs ys) p) i

alike_self : (xs : List ℕ) → pointwise eqb xs xs ≡ true
alike_self [] = refl
alike_self (x ∷ xs) = both (eqb x x) (pointwise eqb xs xs) (eq-eqb x x refl) (alike_self xs)

abbrev pub same_bytes : List ℕ → List ℕ → Bool
same_bytes xs ys = pointwise eqb (padded xs) (padded ys) && eqb (length xs) (length ys)

pub exact_bytes : Exact same_bytes
exact_bytes = record {
  same = λ xs ys p.
      let whole : padded xs ≡ padded ys = alike (padded xs) (padded ys) (front (pointwise eqb (padded xs) (padded ys)) (eqb (length xs) (length ys)) p) in
      let size : length xs ≡ length ys = eqb-true (length xs) (length ys) (rest (pointwise eqb (padded xs) (padded ys)) (eqb (length xs) (length ys)) p) in
      sym (take-append_seam xs (replicate (64 - length xs) 0)) ∙ (λ i. take (size i) (whole i)) ∙ take-append_seam ys (replicate (64 - length ys) 0);
  self = λ xs. both (pointwise eqb (padded xs) (padded xs)) (eqb (length xs) (length xs)) (alike_self (padded xs)) (eq-eqb (length xs) (length xs) refl);
}

-- ---- enums

abbrev each_op : Each Bool op_type.enum.parts
each_op = (
  λ x y. true,
  (
    λ x y.
        true,
    (
      λ x y. true,
      (
        λ x y.
            true,
        (λ x y. true, (λ x y. true, (λ x y. true, (λ x y. true, (λ x y. true, (λ x y. true, (λ x y. true, (λ x y. true, (λ x y. x.0 == y.0, tt))))))))),
      ),
    ),
  ),
)

abbrev same_op : Op → Op → Bool
same_op x y = by false false op_type.enum.parts each_op (op_type.enum.as_values x) (op_type.enum.as_values y)

exact_op : Exact same_op
exact_op = by_exact op_type.enum each_op (none, (none, (none, (none, (none, (none, (none, (none, (none, (none, (none, (none, (one exact_number, tt)))))))))))))

abbrev same_reason : Reason → Reason → Bool
same_reason x y = sameb (declared reason_type.enum) x y

exact_reason : Exact same_reason
exact_reason = record { same = λ x y p. same_true (declared reason_type.enum) tt x y p; self = λ x. true_same (declared reason_type.enum) x x refl }

abbrev same_cause : Cause → Cause → Bool
same_cause x y = sameb (declared cause_type.enum) x y

exact_cause : Exact same_cause
exact_cause = record { same = λ x y p. same_true (declared cause_type.enum) tt x y p; self = λ x. true_same (declared cause_type.enum) x x refl }

abbrev each_signal : Each Bool signal_type.enum.parts
each_signal = (λ x y. x.0.0 == y.0.0 && x.1.0.0 == y.1.0.0, (λ x y. same_cause x.0 y.0, tt))

abbrev same_signal : Signal → Signal → Bool
same_signal x y = by false false signal_type.enum.parts each_signal (signal_type.enum.as_values x) (signal_type.enum.as_values y)

exact_signal : Exact same_signal
exact_signal = by_exact signal_type.enum each_signal (two exact_vcpu exact_intid, (one exact_cause, tt))

abbrev each_ack : Each Bool ack_type.enum.parts
each_ack = (λ x y. x.0.0 == y.0.0 && x.1.0 == y.1.0, (λ x y. true, tt))

abbrev same_ack : Ack → Ack → Bool
same_ack x y = by false false ack_type.enum.parts each_ack (ack_type.enum.as_values x) (ack_type.enum.as_values y)

exact_ack : Exact same_ack
exact_ack = by_exact ack_type.enum each_ack (two exact_intid exact_number, (none, tt))

abbrev each_step : Each Bool step_type.enum.parts
each_step = (λ x y. true, (λ x y. same_op x.0 y.0, (λ x y. same_op x.0 y.0 && same_reason x.1.0 y.1.0, (λ x y. x.0.0 == y.0.0, tt))))

abbrev same_step : StepReply → StepReply → Bool
same_step x y = by false false step_type.enum.parts each_step (step_type.enum.as_values x) (step_type.enum.as_values y)

exact_step : Exact same_step
exact_step = by_exact step_type.enum each_step (none, (one exact_op, (two exact_op exact_reason, (one exact_addr, tt))))

abbrev each_region : Each Bool region_type.enum.parts
each_region = (
  λ x y. x.0 == y.0,
  (
    λ x y. x.0 == y.0,
    (
      λ x y. x.0 == y.0 && x.1.0 == y.1.0,
      (
        λ x y. x.0 == y.0,
        (λ x y. x.0 == y.0 && x.1.0.0 == y.1.0.0, (λ x y. x.0.0 == y.0.0, (λ x y. true, (λ x y. x.0.0 == y.0.0, (λ x y. x.0 == y.0, tt))))),
      ),
    ),
  ),
)

abbrev same_region : Region → Region → Bool
same_region x y = by false false region_type.enum.parts each_region (region_type.enum.as_values x) (region_type.enum.as_values y)

exact_region : Exact same_region
exact_region = by_exact region_type.enum each_region (
  one exact_number,
  (
    one exact_number,
    (
      two exact_number exact_number,
      (
        one exact_number,
        (
          two exact_number exact_deviceid,
          (
            one exact_vcpu,
            (
              none,
              (
                one exact_vcpu,
                (one exact_number, tt),
              ),
            ),
          ),
        ),
      ),
    ),
  ),
)

abbrev each_fault : Each Bool fault_type.enum.parts
each_fault = (λ x y. x.0 == y.0 && x.1.0.0 == y.1.0.0, (λ x y. same_region x.0 y.0, (λ x y. same_region x.0 y.0 && same_region x.1.0 y.1.0, tt)))

abbrev same_fault : SaveFault → SaveFault → Bool
same_fault x y = by false false fault_type.enum.parts each_fault (fault_type.enum.as_values x) (fault_type.enum.as_values y)

exact_fault : Exact same_fault
exact_fault = by_exact fault_type.enum each_fault (two exact_number exact_deviceid, (one exact_region, (two exact_region exact_region, tt)))

abbrev each_reply : Each Bool reply_type.enum.parts
each_reply = (
  λ x y. same_signal x.0 y.0,
  (
    λ x y. same_ack x.0 y.0,
    (
      λ x y. true,
      (
        λ x y. true,
        (
          λ x y. same_bytes x.0 y.0,
          (
            λ x y. x.0 == y.0,
            (
              λ x y. same_step x.0 y.0,
              (
                λ x y. true,
                (
                  λ x y. same_fault x.0 y.0,
                  (λ x y. x.0 == y.0, (λ x y. true, tt)),
                ),
              ),
            ),
          ),
        ),
      ),
    ),
  ),
)

abbrev pub same_reply : Reply → Reply → Bool
same_reply x y = by false false reply_type.enum.parts each_reply (reply_type.enum.as_values x) (reply_type.enum.as_values y)

pub exact_reply : Exact same_reply
exact_reply = by_exact reply_type.enum each_reply (
  one exact_signal,
  (
    one exact_ack,
    (
      none,
      (
        none,
        (
          one exact_bytes,
          (
            one exact_number,
            (
              one exact_step,
              (
                none,
                (
                  one exact_fault,
                  (
                    one exact_number,
                    (none, tt),
                  ),
                ),
              ),
            ),
          ),
        ),
      ),
    ),
  ),
)
