-- The pages of a device table, written one after another.
use Rattle.std.proofs.Common.{◌≡◌, ℕ, ◌+◌, ◌*◌, List, Option, Some, None, refl, sym, ap, ◌∙◌, arith, add-one}
use Rattle.std.proofs.Math.Nat.{mul-suc}
use Rattle.std.specs.List.{AllByRecursion}
use Rattle.guest_windows.specs.Windows.{Window}
use Rattle.its_types.specs.declared.ids.Addr.{Addr}
use Rattle.its_types.specs.declared.translation.Device.{Device}
use Rattle.its_plain.specs.Saved.{put_words, put_tables}
use Rattle.table_save.specs.Pass.{RisesFrom, FitsDevice, PassedDevices, device_entry_word, pack_device}
use Rattle.table_save.specs.Tables.{page_at, page_table, page_tables}
use Rattle.table_save.proofs.Rises.{passed_none, passed_then}
use Rattle.table_save.proofs.Written.{same_words, tables_append}

same_page : (memory : List Window) (all rest : List (ℕ × Device)) (first n : ℕ) (page : Option Addr) → PassedDevices first all rest
    → put_tables memory (page_table rest first n page) ≡ put_tables memory (page_table all first n page)
same_page memory all rest first n None p = refl
same_page memory all rest first n (Some base) p =
    same_words memory base.0 n (λ i. device_entry_word rest (first + i)) (λ i. device_entry_word all (first + i)) (λ k lt. p.words (first + k) (omega arith))

-- one page more
pub page_more : (memory before now : List Window) (all rest : List (ℕ × Device)) (n : ℕ) (pages : List (Option Addr)) (k : ℕ)
    → before ≡ put_tables memory (page_tables all n pages k)
    → PassedDevices (n * k) all rest → now ≡ put_tables before (page_table rest (n * k) n (page_at pages k))
    → now ≡ put_tables memory (page_tables all n pages (k + 1))
page_more memory before now all rest n pages k so_far p wrote =
    let last = page_table all (n * k) n (page_at pages k) in
    rw add-one (wrote ∙ same_page before all rest (n * k) n (page_at pages k) p ∙ ap (λ (m : List Window). put_tables m last) so_far
    ∙ sym (tables_append memory (page_tables all n pages k) last))

pub past_page : (all some rest : List (ℕ × Device)) (n k : ℕ) → PassedDevices (n * k) all some → PassedDevices (n * k + n) some rest
    → PassedDevices (n * (k + 1)) all rest
past_page all some rest n k p q =
    let e : n * (k + 1) ≡ n * k + n = rw add-one (mul-suc n k) in
    rw e (passed_then FitsDevice pack_device 16383 (n * k) (n * k + n) all some rest (omega arith) p q)

-- a page that is there
pub this_page : (memory now : List Window) (devices : List (ℕ × Device)) (first n : ℕ) (page : Option Addr) (base : Addr) → page ≡ Some base
    → now ≡ put_words memory base.0 (λ i. device_entry_word devices (first + i)) n → now ≡ put_tables memory (page_table devices first n page)
this_page memory now devices first n None base is wrote = absurd cc
this_page memory now devices first n (Some b) base is wrote = let e : b ≡ base = cc in wrote
    ∙ ap (λ (a : Addr). put_words memory a.0 (λ i. device_entry_word devices (first + i)) n) (sym e)

-- none yet
pub no_pages : (devices : List (ℕ × Device)) (n : ℕ) → RisesFrom 0 devices → AllByRecursion FitsDevice devices → PassedDevices (n * 0) devices devices
no_pages devices n rises fit = let e : n * 0 ≡ 0 = omega arith in rw e (passed_none FitsDevice pack_device 16383 0 devices rises fit)
