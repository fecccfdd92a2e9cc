-- Two questions that compare as equal are the same.
use Rattle.std.proofs.Common.{◌≡◌, ℕ, ◌&&◌, ◌==◌, refl, sym, ◌∙◌}
use Rattle.std.specs.Cmp.{tied_then, unsigned_tied}
use Rattle.std.specs.Ordering.{is_eq, nat_cmp}
use Rattle.its_explain.specs.Book.{is_key}
use Rattle.its_explain.specs.contracts.book.AskedOrd.TheImpl as asked
use Rattle.call_facts.specs.contracts.answers.KeyOrd.TheImpl as order
use Rattle.call_facts.specs.declared.answers.Key.{Key}
use Rattle.call_facts.specs.declared.answers.Key.TheVariants as key

pub key_tied : (k l : Key) → is_eq (order.ghosts.cmp k l) ≡ is_key k l
key_tied (key.Device d) (key.Device e) = unsigned_tied d.0 e.0
key_tied (key.Device d) (key.Event e w) = refl
key_tied (key.Device d) (key.Collection c) = refl
key_tied (key.Event d v) (key.Device e) = refl
key_tied (key.Event d v) (key.Event e w) =
    sym (tied_then (nat_cmp d.0 e.0) (nat_cmp v.0 w.0)) ∙ (λ i. unsigned_tied d.0 e.0 i && unsigned_tied v.0 w.0 i)
key_tied (key.Event d v) (key.Collection c) = refl
key_tied (key.Collection b) (key.Device e) = refl
key_tied (key.Collection b) (key.Event e w) = refl
key_tied (key.Collection b) (key.Collection c) = unsigned_tied b.0 c.0

pub asked_tied : (its i : ℕ) (k l : Key)
    → is_eq (asked.ghosts.cmp (record { its = its; key = k }) (record { its = i; key = l })) ≡ (its == i && is_key k l)
asked_tied its i k l = sym (tied_then (nat_cmp its i) (order.ghosts.cmp k l)) ∙ (λ j. unsigned_tied its i j && key_tied k l j)
