-- Configuration bytes of some LPIs, read of one table and put in place of others.
use Rattle.std.proofs.Common.{◌≡◌, ℕ, zero, suc, ◌+◌, ◌-◌, ◌<◌, ◌≤◌, true, false, List, [], ◌∷◌, ◌++◌, length, map, take, drop, set, get_or, Option, Some, None, refl, sym, ap, subst}
use Rattle.std.proofs.Common.{◌∙◌, arith}
use Rattle.std.specs.Prelude.{All, IfSome}
use Rattle.std.proofs.lemmas.List.{take_more, take_more_set, map-append, drop_more, drop_all}
use Rattle.std.proofs.lemmas.Bool.{cond-true, cond-false}
use Rattle.guest_windows.specs.Windows.{Window, byte_at}
use Rattle.its_types.specs.Ranges.{is_lpi}
use Rattle.its_types.specs.declared.ids.Addr.{Addr}
use Rattle.its_types.specs.declared.ids.Intid.{Intid}
use Rattle.its_types.specs.declared.translation.Bases.{Bases}
use Rattle.its_plain.specs.Plain.{ConfState}
use Rattle.its_plain.specs.Commands.{conf_reread_at, conf_all_reread_at}
use Rattle.lpi_config.specs.Conf.{Conf, conf_state}
use Rattle.cmd_exec.specs.InHand.{CanReread, CanRereadAll, conf_as, conf_by}
use Rattle.cmd_exec.specs.Reloaded.{numbers, bytes_of, reloaded, with_read, CanRead}
use Rattle.cmd_exec.specs.LastRead.{IsReadOf}
use Rattle.cmd_exec.specs.declared.rereading.LastRead.{LastRead}
use Rattle.cmd_exec.proofs.Opened.{conf_reread_at_is}

-- ---- bytes that are read one by one

pub bytes_more : (memory : List Window) (table : ℕ) (xs : List Intid) (at : ℕ) (d : Intid) (bytes : List (Option ℕ)) (byte : Option ℕ) → at < length xs
    → at < length bytes → take at bytes ≡ bytes_of memory table (take at xs) → byte ≡ byte_at memory (table + ((get_or xs at d).0 - 8192))
    → take (at + 1) (set bytes at byte) ≡ bytes_of memory table (take (at + 1) xs)
bytes_more memory table xs at d bytes byte within within' before is =
    let read : Intid → Option ℕ = λ (x : Intid). byte_at memory (table + (x.0 - 8192)) in
    take_more_set bytes at byte within'
    ∙ ap (λ (bs : List (Option ℕ)). bs ++ byte ∷ []) before
    ∙ ap (λ (b : Option ℕ). bytes_of memory table (take at xs) ++ b ∷ []) is
    ∙ sym (ap (map read) (take_more xs at d within) ∙ map-append read (take at xs) (get_or xs at d ∷ []))

-- ---- bytes that are put one by one

pub reload_step : (xs : List Intid) (bytes : List (Option ℕ)) (at : ℕ) (d : Intid) (e o : Option ℕ) (c c' : Conf) → at < length xs → length bytes ≡ length xs
    → get_or bytes at e ≡ o → c' ≡ conf_as c (with_read (get_or xs at d).0 (conf_state c) o)
    → conf_by (reloaded (drop (at + 1) xs) (drop (at + 1) bytes)) c' ≡ conf_by (reloaded (drop at xs) (drop at bytes)) c
reload_step xs bytes at d e o c c' within size o_is c_is =
    let within' : at < length bytes = omega (arith, within, size) in
    ap (conf_by (reloaded (drop (at + 1) xs) (drop (at + 1) bytes))) c_is
    ∙ ap (λ (b : Option ℕ). conf_by (reloaded (get_or xs at d ∷ drop (at + 1) xs) (b ∷ drop (at + 1) bytes)) c) (sym o_is)
    ∙ sym (ap (λ (ys : List Intid). conf_by (reloaded ys (drop at bytes)) c) (drop_more xs at d within)
    ∙ ap (λ (bs : List (Option ℕ)). conf_by (reloaded (get_or xs at d ∷ drop (at + 1) xs) bs) c) (drop_more bytes at e within'))

pub reload_end : (xs : List Intid) (bytes : List (Option ℕ)) (at : ℕ) (c : Conf) → length xs ≤ at → conf_by (reloaded (drop at xs) bytes) c ≡ c
reload_end xs bytes at c past = ap (λ (ys : List Intid). conf_by (reloaded ys bytes) c) (drop_all at xs past)

-- ---- those of its own table are what it reads again

pub bases_kept : (intid : ℕ) (c : ConfState) (o : Option ℕ) → (with_read intid c o).bases ≡ c.bases
bases_kept intid c None = refl
bases_kept intid c (Some byte) = refl

read_is : (memory : List Window) (table intid : ℕ) (c : ConfState) → c.bases.on ≡ true → c.bases.prop.table.0 ≡ table
    → with_read intid c (byte_at memory (table + (intid - 8192))) ≡ conf_reread_at memory intid c
read_is memory table intid c on at =
    sym (conf_reread_at_is memory intid c
    ∙ cond-true c.bases.on (with_read intid c (byte_at memory (c.bases.prop.table.0 + (intid - 8192)))) c on
    ∙ ap (λ (k : ℕ). with_read intid c (byte_at memory (k + (intid - 8192)))) at)

pub all_read : (memory : List Window) (table : ℕ) (xs : List Intid) (c : ConfState) → c.bases.on ≡ true → c.bases.prop.table.0 ≡ table
    → reloaded xs (bytes_of memory table xs) c ≡ conf_all_reread_at memory (numbers xs) c
all_read memory table [] c on at = refl
all_read memory table (x ∷ xs) c on at =
    let o = byte_at memory (table + (x.0 - 8192)) in let same = bases_kept x.0 c o in
    all_read memory table xs (with_read x.0 c o) (ap (λ (b : Bases). b.on) same ∙ on) (ap (λ (b : Bases). b.prop.table.0) same ∙ at)
    ∙ ap (conf_all_reread_at memory (numbers xs)) (read_is memory table x.0 c on at)

-- where LPIs are off nothing is
pub none_read : (memory : List Window) (xs : List ℕ) (c : ConfState) → c.bases.on ≡ false → conf_all_reread_at memory xs c ≡ c
none_read memory [] c off = refl
none_read memory (x ∷ xs) c off =
    ap (conf_all_reread_at memory xs) (conf_reread_at_is memory x c
    ∙ cond-false c.bases.on (with_read x c (byte_at memory (c.bases.prop.table.0 + (x - 8192)))) c off)
    ∙ none_read memory xs c off

-- ---- what was read last

pub last_is : (memory : List Window) (xs : List Intid) (last : LastRead) (table : Addr) → IsReadOf memory xs last → last.table ≡ Some table
    → take (length xs) last.bytes ≡ bytes_of memory table.0 xs
last_is memory xs last table h e =
    subst (λ (o : Option Addr). IfSome o (λ (a : Addr). take (length xs) last.bytes ≡ bytes_of memory a.0 xs)) e h

-- ---- what can be read

pub can_at : (c : Conf) (xs : List Intid) (k : ℕ) (d : Intid) → k < length xs → CanRereadAll c (numbers xs) → CanReread c (get_or xs k d).0
can_at c [] k d within h = absurd (omega (arith, within))
can_at c (x ∷ xs) zero d within h = h.0
can_at c (x ∷ xs) (suc k) d within h = can_at c xs k d (omega (arith, within)) h.1

from_lpi : (bits x : ℕ) → is_lpi bits x ≡ true → 8192 ≤ x
from_lpi bits x h = grind (arith, h)

pub all_can : (c : Conf) (xs : List Intid) → c.bases.on ≡ true → CanRereadAll c (numbers xs) → All (CanRead c.bases.prop.table.0) xs
all_can c xs on h = λ k d within.
    let can : CanReread c (get_or xs k d).0 = can_at c xs k d within h in
    record { low = can.low on; lpi = from_lpi c.config.lpi_bits (get_or xs k d).0 can.lpi }

pub all_lpis : (c : Conf) (xs : List Intid) → CanRereadAll c (numbers xs) → All (λ x. is_lpi c.config.lpi_bits x.0 ≡ true) xs
all_lpis c xs h = λ k d within. (can_at c xs k d within h).lpi
