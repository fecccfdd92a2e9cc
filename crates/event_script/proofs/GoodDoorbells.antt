-- Lines of the description that say what is restored, where frames stand, and what is put into memory leave a good draft.
use Rattle.std.proofs.Common.{◌≡◌, ℕ, ◌-◌, ◌%◌, ◌^◌, true, not, ◌&&◌, nat_lt, nat_eq, List, [], ◌∷◌, ◌++◌, length, set}
use Rattle.std.proofs.Common.{Some, is_some, is_none, IfOk, refl, arith}
use Rattle.std.proofs.lemmas.Bool.{ltb-true}
use Rattle.std.proofs.lemmas.List.{length-set, length-append}
use Rattle.byteorder.specs.Endian.{little_bytes}
use Rattle.its_types.specs.declared.ids.Addr.{Addr}
use Rattle.its_plain.specs.declared.desc.Fill.{Fill}
use Rattle.its_plain.specs.declared.desc.Requesters.{Requesters}
use Rattle.event_script.specs.Text.{number}
use Rattle.event_script.specs.Fields.{arg, number_within, any_number, address, device, processor, bytes_within}
use Rattle.event_script.specs.Description.{in_description, register_values, restore_line, brestore_line, frames_base, its_base_line, b_base_line}
use Rattle.event_script.specs.Description.{redistributor_values, is_given, restores_registers, rrestore_line, bytes_line, word_fill_line}
use Rattle.event_script.specs.Description.{with_fill, requester_line}
use Rattle.event_script.specs.Limits.{has_bytes, is_fill}
use Rattle.event_script.specs.declared.fault.Kind.TheVariants as kind
use Rattle.event_script.specs.declared.draft.Draft.{Draft}
use Rattle.event_script.specs.declared.draft.TheConstants.{MOST_REQUESTERS}
use Rattle.event_script.proofs.Steps.{left_true, all_pushed, bound, bound_by, ensured, bytes_in_range}
use Rattle.event_script.proofs.Bytes.{little_bytes_small}
use Rattle.event_script.proofs.Good.{not_started, described_more, HasDoors, IsGood}
use Rattle.event_script.proofs.GoodDescription.{still_early, still_fair}

-- ---- what is restored

pub restore_good : (d : Draft) (fs : List (List ℕ)) → IsGood d → IfOk (restore_line d fs) IsGood
unfolding restore_line
restore_good d fs h =
    ensured IsGood (in_description d.stage && is_none d.first.restore) kind.Order _ (λ order.
    let off = not_started d.stage (left_true (in_description d.stage) (is_none d.first.restore) order) in
    ensured IsGood (nat_eq (length fs) 7) kind.Fields _ (λ _.
    bound IsGood (register_values fs) _ (λ values.
    let e : Draft = record d { first = record d.first { restore = Some values } } in
    let doors : HasDoors e.first e.second e.requesters e.requester_lines = record {
      first_frames = h.fair.doors.first_frames;
      second_frames = h.fair.doors.second_frames;
      few = h.fair.doors.few;
      numbered = h.fair.doors.numbered;
    } in
    described_more e (still_fair d e h.fair refl refl refl refl refl refl refl refl refl refl doors)
    (still_early d e (h.early off) refl refl refl refl refl) off)))

pub brestore_good : (d : Draft) (fs : List (List ℕ)) → IsGood d → IfOk (brestore_line d fs) IsGood
unfolding brestore_line
brestore_good d fs h =
    ensured IsGood (in_description d.stage && d.pair && is_none d.second.restore) kind.Order _ (λ order.
    let here = left_true (in_description d.stage && d.pair) (is_none d.second.restore) order in
    let off = not_started d.stage (left_true (in_description d.stage) d.pair here) in
    ensured IsGood (nat_eq (length fs) 7) kind.Fields _ (λ _.
    bound IsGood (register_values fs) _ (λ values.
    let e : Draft = record d { second = record d.second { restore = Some values } } in
    let doors : HasDoors e.first e.second e.requesters e.requester_lines = record {
      first_frames = h.fair.doors.first_frames;
      second_frames = h.fair.doors.second_frames;
      few = h.fair.doors.few;
      numbered = h.fair.doors.numbered;
    } in
    described_more e (still_fair d e h.fair refl refl refl refl refl refl refl refl refl refl doors)
    (still_early d e (h.early off) refl refl refl refl refl) off)))

pub rrestore_good : (d : Draft) (fs : List (List ℕ)) → IsGood d → IfOk (rrestore_line d fs) IsGood
unfolding rrestore_line
rrestore_good d fs h =
    ensured IsGood (restores_registers d && not (is_given d.registers (number (arg fs 1)))) kind.Order _ (λ order.
    let here = left_true (restores_registers d) (not (is_given d.registers (number (arg fs 1)))) order in
    let off = not_started d.stage (left_true (in_description d.stage) d.gicr (left_true (in_description d.stage && d.gicr) (is_some d.first.restore) here)) in
    ensured IsGood (nat_eq (length fs) 5) kind.Fields _ (λ _.
    bound IsGood (processor (length d.registers) (arg fs 1)) _ (λ vcpu.
    bound IsGood (redistributor_values fs) _ (λ values.
    let e : Draft = record d { registers = set d.registers vcpu.0 (Some values) } in
    let count = length-set d.registers vcpu.0 (Some values) in
    described_more e (still_fair d e h.fair refl refl refl refl refl refl refl refl refl count h.fair.doors)
    (still_early d e (h.early off) refl refl refl refl refl) off))))

-- ---- frames and requesters

frames_aligned : (f : List ℕ) → IfOk (frames_base f) (λ base. nat_eq (base.0 % 65536) 0 ≡ true)
unfolding frames_base
frames_aligned f =
    bound (λ base. nat_eq (base.0 % 65536) 0 ≡ true) (address f) _ (λ base.
    ensured (λ base. nat_eq (base.0 % 65536) 0 ≡ true) (nat_eq (base.0 % 65536) 0) kind.Number _ (λ e. e))

pub its_base_good : (d : Draft) (fs : List (List ℕ)) → IsGood d → IfOk (its_base_line d fs) IsGood
unfolding its_base_line
its_base_good d fs h =
    ensured IsGood (in_description d.stage && is_none d.first.frames) kind.Order _ (λ order.
    let off = not_started d.stage (left_true (in_description d.stage) (is_none d.first.frames) order) in
    ensured IsGood (nat_eq (length fs) 2) kind.Fields _ (λ _.
    bound_by IsGood (frames_base (arg fs 1)) (λ base. nat_eq (base.0 % 65536) 0 ≡ true) _ (frames_aligned (arg fs 1)) (λ base aligned.
    let e : Draft = record d { first = record d.first { frames = Some base } } in
    let doors : HasDoors e.first e.second e.requesters e.requester_lines = record {
      first_frames = aligned;
      second_frames = h.fair.doors.second_frames;
      few = h.fair.doors.few;
      numbered = h.fair.doors.numbered;
    } in
    described_more e (still_fair d e h.fair refl refl refl refl refl refl refl refl refl refl doors)
    (still_early d e (h.early off) refl refl refl refl refl) off)))

pub b_base_good : (d : Draft) (fs : List (List ℕ)) → IsGood d → IfOk (b_base_line d fs) IsGood
unfolding b_base_line
b_base_good d fs h =
    ensured IsGood (in_description d.stage && d.pair && is_none d.second.frames) kind.Order _ (λ order.
    let here = left_true (in_description d.stage && d.pair) (is_none d.second.frames) order in
    let off = not_started d.stage (left_true (in_description d.stage) d.pair here) in
    ensured IsGood (nat_eq (length fs) 2) kind.Fields _ (λ _.
    bound_by IsGood (frames_base (arg fs 1)) (λ base. nat_eq (base.0 % 65536) 0 ≡ true) _ (frames_aligned (arg fs 1)) (λ base aligned.
    let e : Draft = record d { second = record d.second { frames = Some base } } in
    let doors : HasDoors e.first e.second e.requesters e.requester_lines = record {
      first_frames = h.fair.doors.first_frames;
      second_frames = aligned;
      few = h.fair.doors.few;
      numbered = h.fair.doors.numbered;
    } in
    described_more e (still_fair d e h.fair refl refl refl refl refl refl refl refl refl refl doors)
    (still_early d e (h.early off) refl refl refl refl refl) off)))

pub requester_good : (d : Draft) (n : ℕ) (fs : List (List ℕ)) → IsGood d → IfOk (requester_line d n fs) IsGood
unfolding requester_line
requester_good d n fs h =
    ensured IsGood (in_description d.stage) kind.Order _ (λ here.
    let off = not_started d.stage here in
    ensured IsGood (nat_eq (length fs) 4) kind.Fields _ (λ _.
    bound IsGood (number_within 0 (2 ^ 32 - 1) (arg fs 1)) _ (λ first.
    bound IsGood (number_within 0 (2 ^ 32 - 1) (arg fs 2)) _ (λ last.
    bound IsGood (device (arg fs 3)) _ (λ dev.
    ensured IsGood (nat_lt (length d.requesters) MOST_REQUESTERS) kind.Many _ (λ room.
    let range : Requesters = record { first = first; last = last; dev = dev } in
    let e : Draft = record d { requesters = d.requesters ++ range ∷ []; requester_lines = d.requester_lines ++ n ∷ [] } in
    let doors : HasDoors e.first e.second e.requesters e.requester_lines = record {
      first_frames = h.fair.doors.first_frames;
      second_frames = h.fair.doors.second_frames;
      few = omega (arith, length-append d.requesters (range ∷ []), ltb-true (length d.requesters) MOST_REQUESTERS room);
      numbered = omega (arith, h.fair.doors.numbered, length-append d.requesters (range ∷ []), length-append d.requester_lines (n ∷ []));
    } in
    described_more e (still_fair d e h.fair refl refl refl refl refl refl refl refl refl refl doors)
    (still_early d e (h.early off) refl refl refl refl refl) off))))))

-- ---- bytes for the memory

-- with more bytes for the memory
pub fill_good : (d : Draft) (n : ℕ) (addr : Addr) (bytes : List ℕ) → IsGood d → in_description d.stage ≡ true → has_bytes 4096 bytes ≡ true
    → IsGood (with_fill d n addr bytes)
fill_good d n addr bytes h here sized =
    let off = not_started d.stage here in
    let e : Draft = with_fill d n addr bytes in
    let fill : Fill = record { addr = addr; bytes = bytes } in
    described_more e
    (record {
      few = h.fair.few;
      some = h.fair.some;
      shards = h.fair.shards;
      limits = h.fair.limits;
      ids = h.fair.ids;
      windows = h.fair.windows;
      fills = all_pushed is_fill d.fills (record { addr = addr; bytes = bytes }) h.fair.fills sized;
      fill_lines = omega (arith, h.fair.fill_lines, length-append d.fills (fill ∷ []), length-append d.fill_lines (n ∷ []));
      registers = h.fair.registers;
      doors = h.fair.doors;
    })
    (still_early d e (h.early off) refl refl refl refl refl) off

pub bytes_good : (d : Draft) (n : ℕ) (fs : List (List ℕ)) → IsGood d → IfOk (bytes_line d n fs) IsGood
unfolding bytes_line
bytes_good d n fs h =
    ensured IsGood (in_description d.stage) kind.Order _ (λ here.
    ensured IsGood (nat_eq (length fs) 3) kind.Fields _ (λ _.
    bound IsGood (address (arg fs 1)) _ (λ addr.
    bound_by IsGood (bytes_within 4096 (arg fs 2)) (λ b. has_bytes 4096 b ≡ true) _ (bytes_in_range 4096 (arg fs 2)) (λ bytes sized.
    fill_good d n addr bytes h here sized))))

pub word_fill_good : (d : Draft) (n : ℕ) (fs : List (List ℕ)) → IsGood d → in_description d.stage ≡ true → IfOk (word_fill_line d n fs) IsGood
unfolding word_fill_line
word_fill_good d n fs h here =
    ensured IsGood (nat_eq (length fs) 3) kind.Fields _ (λ _.
    bound IsGood (address (arg fs 1)) _ (λ addr.
    bound IsGood (any_number (arg fs 2)) _ (λ value.
    fill_good d n addr (little_bytes 8 value) h here (little_bytes_small 8 value))))
