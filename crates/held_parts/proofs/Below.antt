-- Parts of redistributors below a number, put home where a higher one was another's.
use Rattle.std.proofs.Common.{◌≡◌, ℕ, ◌≤◌, ◌&&◌, Bool, true, false, nat_lt, List, Option, refl, ap, sym, ◌∙◌, inl, inr, arith}
use Rattle.std.proofs.lemmas.Bool.{cases_lt, le-ltb, lt-ltb}
use Rattle.std.specs.Prelude.{is_some}
use Rattle.its_steps.specs.Contents.{Held}
use Rattle.its_steps.specs.Parts.{Setup, vcpu_count}
use Rattle.owned_parts.specs.RedistSets.{is_in}
use Rattle.owned_parts.specs.declared.redist_set.RedistSet.{RedistSet}
use Rattle.held_parts.specs.Redists.{AreBelow}
use Rattle.held_parts.proofs.RedistLoops.{AreTaken}

-- a machine with so many virtual processors
abbrev pub sized : ℕ → Setup → Setup
sized n s = record s { start = record s.start { layout = record s.start.layout { shape = record s.start.layout.shape { vcpus = n } } } }

and_true : (a b c : Bool) → b ≡ true → c ≡ true → (a && b) ≡ (a && c)
and_true a b c e f = ap (λ (x : Bool). a && x) (e ∙ sym f)

and_false : (a b : Bool) → b ≡ false → (a && b) ≡ false
and_false true b e = e
and_false false b e = refl

-- those that were taken so far
pub taken_below : {T : Type 0} (as_held : ℕ → T → Held) (has_lpis : T → Type 0) (s : Setup) (wanted : RedistSet) (n : ℕ) (places : List (Option T))
    (before now : List Held) → n ≤ vcpu_count s → AreTaken as_held has_lpis s wanted n places before now → AreBelow T has_lpis n wanted places
taken_below {T} as_held has_lpis s wanted n places before now low h = record {
  hand = λ k. elim (cases_lt k n) [
    | inl lt ↦ h.hand k lt ∙ and_true (is_in wanted k) (nat_lt k (vcpu_count s)) (nat_lt k n) (lt-ltb k (vcpu_count s) (omega (arith, lt, low))) (lt-ltb k n lt)
    | inr le ↦ ap (λ (o : Option T). is_some o) (h.above k le) ∙ sym (and_false (is_in wanted k) (nat_lt k n) (le-ltb k n le))
  ];
  lpis = h.lpis;
}
