-- The bytes that a command is encoded to are that command.
use Rattle.std.proofs.Common.{◌≡◌, ℕ, ◌+◌, ◌-◌, ◌*◌, ◌^◌, ◌<◌, nat_eq, List, ap, ◌∙◌, sym, refl, arith, lit<}
use Rattle.its_types.specs.Bits.{field}
use Rattle.its_command.specs.Commands.{decoded, encoded, doublewords, of_device, at_target, at_valid, IsCommand, IsWithinBits, opcode_of, device_of, event_of}
use Rattle.its_command.specs.Commands.{icid_of, target_of, second_target_of}
use Rattle.its_command.specs.declared.command.Command.{Command}
use Rattle.its_command.specs.declared.command.Command.TheVariants.{Movi, Int, Clear, Sync, Mapd, Mapc, Mapti, Mapi, Inv, Invall, Movall, Discard, Unknown}
use Rattle.its_command.proofs.Words.{in_first, in_second, in_third, in_fourth, opcode-of_device, device-of_device, of_device-fits, low_field, low_16}
use Rattle.its_command.proofs.Words.{target-at_target, icid-mapc, target-mapc, valid-mapc, mapc-fits, itt-mapd, valid-mapd, mapd-fits, size-mapd, event-mapti}
use Rattle.its_command.proofs.Words.{intid-mapti, mapti-fits}
use Rattle.its_command.proofs.Meaning.{one_command}

-- the opcode and the DeviceID of a command of a device
opcode_there : (opcode dev b c d : ℕ) → opcode < 256 → dev < 2 ^ 32 → opcode_of (doublewords (of_device opcode dev) b c d) ≡ opcode
opcode_there opcode dev b c d lt fits = in_first (of_device opcode dev) b c d 0 8 opcode (of_device-fits opcode dev lt fits) (opcode-of_device opcode dev lt)

device_there : (opcode dev b c d : ℕ) → opcode < 256 → dev < 2 ^ 32 → device_of (doublewords (of_device opcode dev) b c d) ≡ dev
device_there opcode dev b c d lt fits = in_first (of_device opcode dev) b c d 32 32 dev (of_device-fits opcode dev lt fits)
    (device-of_device opcode dev lt fits)

event_there : (a ev c d : ℕ) → ev < 2 ^ 32 → event_of (doublewords a ev c d) ≡ ev
event_there a ev c d fits = in_second a ev c d 0 32 ev (omega arith) (low_field ev fits)

icid_there : (a b icid d : ℕ) → icid < 2 ^ 16 → icid_of (doublewords a b icid d) ≡ icid
icid_there a b icid d fits = in_third a b icid d 0 16 icid (omega arith) (low_16 icid fits)

target_there : (a b target d : ℕ) → target < 2 ^ 36 → target_of (doublewords a b (at_target target) d) ≡ target
target_there a b target d fits = in_third a b (at_target target) d 16 36 target (omega arith) (target-at_target target fits)

second_target_there : (a b c target : ℕ) → target < 2 ^ 36 → second_target_of (doublewords a b c (at_target target)) ≡ target
second_target_there a b c target fits = in_fourth a b c (at_target target) 16 36 target (omega arith) (target-at_target target fits)

-- the opcode of another command
plain_opcode : (opcode b c d : ℕ) → opcode < 256 → opcode_of (doublewords opcode b c d) ≡ opcode
plain_opcode opcode b c d lt = in_first opcode b c d 0 8 opcode (omega arith) (grind (arith))

pub is_encoded : (c : Command) → IsWithinBits c → IsCommand (encoded c) c
unfolding encoded
is_encoded (Movi dev ev icid) h = (
  opcode_there 0x01 dev.0 ev.0 icid.0 0 (lit< tt) h.0,
  device_there 0x01 dev.0 ev.0 icid.0 0 (lit< tt) h.0,
  event_there
      (of_device 0x01 dev.0) ev.0 icid.0 0 h.1,
  icid_there (of_device 0x01 dev.0) ev.0 icid.0 0 h.2,
)
is_encoded (Int dev ev) h = (
  opcode_there 0x03 dev.0 ev.0 0 0 (lit< tt) h.0,
  device_there 0x03 dev.0 ev.0 0 0 (lit< tt) h.0,
  event_there
      (of_device 0x03 dev.0) ev.0 0 0 h.1,
)
is_encoded (Clear dev ev) h = (
  opcode_there 0x04 dev.0 ev.0 0 0 (lit< tt) h.0,
  device_there 0x04 dev.0 ev.0 0 0 (lit< tt) h.0,
  event_there
      (of_device 0x04 dev.0) ev.0 0 0 h.1,
)
is_encoded (Sync target) h = (plain_opcode 0x05 0 (at_target target) 0 (lit< tt), target_there 0x05 0 target 0 h)
is_encoded (Mapd dev bits itt valid) h =
    let first : ℕ = of_device 0x08 dev.0 in
    let third : ℕ = itt + at_valid valid in
    let fits : third < 2 ^ 64 = mapd-fits itt valid h.2.1 in (
      opcode_there 0x08 dev.0 (bits - 1) third 0 (lit< tt) h.0,
      device_there 0x08 dev.0 (bits - 1) third 0 (lit< tt) h.0,
      ap (λ n. n + 1) (in_second first (bits - 1) third 0 0 5 (field (bits - 1) 0 5) (omega arith) refl) ∙ size-mapd bits h.1.0 h.1.1,
      ap (λ n. n * 2 ^ 8) (in_third first (bits - 1) third 0 8 44 (field third 8 44) fits refl) ∙ itt-mapd itt valid h.2.0 h.2.1,
      ap (λ n. nat_eq n 1) (in_third first (bits - 1) third 0 63 1 (field third 63 1) fits refl) ∙ valid-mapd itt valid h.2.1,
    )
is_encoded (Mapc icid target valid) h =
    let third : ℕ = icid.0 + at_target target + at_valid valid in
    let fits : third < 2 ^ 64 = mapc-fits icid.0 target valid h.0 h.1 in (
      plain_opcode 0x09 0 third 0 (lit< tt),
      in_third 0x09 0 third 0 0 16 icid.0 fits (icid-mapc icid.0 target valid h.0),
      in_third 0x09 0 third 0 16 36 target fits (target-mapc icid.0 target valid h.0 h.1),
      ap (λ n. nat_eq n 1) (in_third 0x09 0 third 0 63 1 (field third 63 1) fits refl) ∙ valid-mapc icid.0 target valid h.0 h.1,
    )
is_encoded (Mapti dev ev intid icid) h =
    let first : ℕ = of_device 0x0A dev.0 in
    let second : ℕ = ev.0 + intid.0 * 2 ^ 32 in
    let fits : second < 2 ^ 64 = mapti-fits ev.0 intid.0 h.1 h.2 in (
      opcode_there 0x0A dev.0 second icid.0 0 (lit< tt) h.0,
      device_there 0x0A dev.0 second icid.0 0 (lit< tt) h.0,
      in_second first second icid.0 0 0 32 ev.0 fits (event-mapti ev.0 intid.0 h.1),
      in_second first second icid.0 0 32 32 intid.0 fits (intid-mapti ev.0 intid.0 h.1 h.2),
      icid_there first second icid.0 0 h.3,
    )
is_encoded (Mapi dev ev icid) h = (
  opcode_there 0x0B dev.0 ev.0 icid.0 0 (lit< tt) h.0,
  device_there 0x0B dev.0 ev.0 icid.0 0 (lit< tt) h.0,
  event_there
      (of_device 0x0B dev.0) ev.0 icid.0 0 h.1,
  icid_there (of_device 0x0B dev.0) ev.0 icid.0 0 h.2,
)
is_encoded (Inv dev ev) h = (
  opcode_there 0x0C dev.0 ev.0 0 0 (lit< tt) h.0,
  device_there 0x0C dev.0 ev.0 0 0 (lit< tt) h.0,
  event_there
      (of_device 0x0C dev.0) ev.0 0 0 h.1,
)
is_encoded (Invall icid) h = (plain_opcode 0x0D 0 icid.0 0 (lit< tt), icid_there 0x0D 0 icid.0 0 h)
is_encoded (Movall from to) h = (
  plain_opcode 0x0E 0 (at_target from) (at_target to) (lit< tt),
  target_there 0x0E 0 from (at_target to) h.0,
  second_target_there
      0x0E 0 (at_target from) to h.1,
)
is_encoded (Discard dev ev) h = (
  opcode_there 0x0F dev.0 ev.0 0 0 (lit< tt) h.0,
  device_there 0x0F dev.0 ev.0 0 0 (lit< tt) h.0,
  event_there
      (of_device 0x0F dev.0) ev.0 0 0 h.1,
)
is_encoded (Unknown opcode) h = (plain_opcode opcode 0 0 0 h.0, h.1)

pub bytes_are_command : (b : List ℕ) (c : Command) → b ≡ encoded c → IsWithinBits c → IsCommand b c
bytes_are_command b c e h = rw e (is_encoded c h)

pub decodes_back : (c : Command) → IsWithinBits c → decoded (encoded c) ≡ c
decodes_back c h = sym (one_command (encoded c) c (is_encoded c h))
