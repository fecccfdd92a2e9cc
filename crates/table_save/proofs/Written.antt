-- Words of a table, written one after another.
use Rattle.std.proofs.Common.{◌≡◌, ℕ, zero, suc, ◌<◌, List, [], ◌∷◌, ◌++◌, refl, ap, ◌∙◌, arith}
use Rattle.guest_windows.specs.Windows.{Window}
use Rattle.baser_place.specs.Places.{entry_address}
use Rattle.its_plain.specs.Saved.{Words, put_word, put_words, put_tables}

-- the same words, whatever the function is behind them
pub same_words : (memory : List Window) (base n : ℕ) (v w : ℕ → ℕ) → ((k : ℕ) → k < n → v k ≡ w k) → put_words memory base v n ≡ put_words memory base w n
same_words memory base zero v w same = refl
same_words memory base (suc n) v w same =
    ap (λ (m : List Window). put_word m (entry_address base n) (v n)) (same_words memory base n v w (λ k lt. same k (omega arith)))
    ∙ ap (put_word (put_words memory base w n) (entry_address base n)) (same n (omega arith))

-- tables after tables
pub tables_append : (memory : List Window) (ts us : List Words) → put_tables memory (ts ++ us) ≡ put_tables (put_tables memory ts) us
tables_append memory [] us = refl
tables_append memory (t ∷ ts) us = tables_append (put_words memory t.base t.word t.count) ts us
