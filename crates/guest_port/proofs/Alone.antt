-- Guest memory alone is enough.
use Rattle.std.proofs.Common.{◌≡◌, ◌<◌, ℕ, true, false, cond, ◌||◌, List, [], ◌∷◌, length, map, Option, Some, None, refl, ◌∙◌, subst}
use Rattle.std.specs.Prelude.{is_some}
use Rattle.std.specs.Option.{option_map}
use Rattle.guest_windows.specs.Windows.{Window, extent, has, put, inside, write_at}
use Rattle.dirty_log.specs.Copies.{caught_up}
use Rattle.dirty_log.specs.declared.tracked.Tracked.{Tracked}
use Rattle.its_types.specs.declared.ids.Addr.{Addr}
use Rattle.its_types.specs.declared.machine.Part.TheVariants as part
use Rattle.its_types.specs.declared.machine.Word.{Word}
use Rattle.its_plain.specs.Answer.{poke_reply, peek_reply, copy_count}
use Rattle.its_plain.specs.declared.call.Call.TheVariants as call
use Rattle.its_plain.specs.declared.call.Reply.TheVariants as reply
use Rattle.its_steps.specs.Parts.{HasVcpus, Setup}
use Rattle.its_steps.specs.World.{out}
use Rattle.its_steps.specs.declared.change.ShardChange.TheVariants.{Keep}
use Rattle.its_steps.specs.Contents.{Mem, Held}
use Rattle.its_steps.proofs.Ports.{pokes, peeks, dmas, copies}
use Rattle.its_steps.specs.Calls.{staying, MayLeave, peeked_in, poked_content}
use Rattle.its_turns.specs.Told.{HasStood}
use Rattle.guest_port.specs.Copies.{HasSameWindows}
use Rattle.guest_port.specs.Pokes.{write_of}
use Rattle.guest_port.specs.declared.writer.Writer.{Writer}
use Rattle.guest_port.specs.declared.writer.Writer.TheVariants.{Guest, Requester}

-- ---- the reply of a write

is_some-map : {X Y : Type 0} (f : X → Y) (o : Option X) → is_some (option_map f o) ≡ is_some o
is_some-map f None = refl
is_some-map f (Some x) = refl

is_some-write_at : (ws : List Window) (a : ℕ) (bytes : List ℕ) → is_some (write_at ws a bytes) ≡ inside ws a (length bytes)
is_some-write_at [] a bytes = refl
is_some-write_at (w ∷ ws) a bytes =
    elim (has w a (length bytes)) as (λ b. is_some (cond b (Some (put w a bytes ∷ ws)) (option_map (λ others. w ∷ others) (write_at ws a bytes)))
    ≡ (b || inside ws a (length bytes))) [
      | true ↦ refl
      | false ↦ is_some-map (λ others. w ∷ others) (write_at ws a bytes) ∙ is_some-write_at ws a bytes
    ]

written : (o : Option (List Window)) → is_some o ≡ true → reply.Ok ≡ poke_reply o
written None e = absurd cc
written (Some memory) e = refl

refused : (o : Option (List Window)) → is_some o ≡ false → reply.Outside ≡ poke_reply o
refused None e = refl
refused (Some memory) e = absurd cc

module _ (memory : List Window) (a : ℕ) (bytes : List ℕ) where
  pub ok_is : inside memory a (length bytes) ≡ true → reply.Ok ≡ poke_reply (write_at memory a bytes)
  ok_is e = written (write_at memory a bytes) (is_some-write_at memory a bytes ∙ e)

  pub outside_is : inside memory a (length bytes) ≡ false → reply.Outside ≡ poke_reply (write_at memory a bytes)
  outside_is e = refused (write_at memory a bytes) (is_some-write_at memory a bytes ∙ e)

-- ---- commits

-- memory, with the copy of it if there is one
abbrev pub one : List Window → Option Tracked → List Held
one memory track = out part.Mem (Mem memory track) ∷ []

-- and once it was written
abbrev pub one_written : List Window → Option Tracked → ℕ → List ℕ → List Held
one_written memory track address bytes = out part.Mem (poked_content memory track address bytes (write_at memory address bytes)) ∷ []

module _ (s : Setup) (memory : List Window) (track : Option Tracked) (vcpus : HasVcpus s) where
  pub writes_now : (writer : Writer) (addr : Addr) (bytes : List ℕ) (w : Word) → w.place < s.limits.place_last
      → MayLeave s (staying w (write_of writer addr bytes) (poke_reply (write_at memory addr.0 bytes)) Keep) (one memory track)
      (one_written memory track addr.0 bytes)
  writes_now Guest addr bytes w room = pokes s w addr bytes memory track vcpus room
  writes_now (Requester req) addr bytes w room = dmas s w req addr bytes memory track vcpus room

  pub peeks_now : (addr : Addr) (count : ℕ) (w : Word) → w.place < s.limits.place_last
      → MayLeave s (staying w (call.Peek addr count) (peek_reply (peeked_in memory addr.0 count)) Keep) (one memory track) (one memory track)
  peeks_now addr count w room = peeks s w addr count memory track vcpus room

  pub copies_now : (w : Word) → w.place < s.limits.place_last
      → MayLeave s (staying w call.Copy (reply.Copied (copy_count track)) Keep) (one memory track) (one memory (option_map (caught_up memory) track))
  copies_now w room = copies s w memory track vcpus room

-- ---- the copy's windows

pub same_windows : (s : Setup) (memory : List Window) (track : Option Tracked) → HasStood s part.Mem (Mem memory track) → HasSameWindows memory track
same_windows s memory track stood t is = subst (λ (ws : List Window). map extent t.copy ≡ map extent ws) stood.right.0
    (stood.machine.sound.tracked t (stood.right.1 ∙ is)).windows
