use Rattle.std.proofs.Common.{◌≡◌, ℕ, ◌<◌, ◌+◌, Bool, true, false, length, get_or, inl, inr, refl, sym, ap, ◌∙◌, arith}
use Rattle.std.specs.Prelude.{◌||◌, ◌&&◌, nat_le, nat_lt}
use Rattle.std.proofs.lemmas.Bool.{cases_lt, lt-ltb, le-ltb}
use Rattle.dirty_log.specs.Stretches.{numbers}
use Rattle.dirty_log.specs.declared.stretch.Stretch.{Stretch}
use Rattle.dirty_log.proofs.Stretched.{before, stretch_at, all_before}
use Rattle.dirty_log.proofs.stretch.mark_numbers.Goals as goal

abbrev none : Stretch
none = record { first = 0; end = 0; place = 0 }

or_same : (b x : Bool) → ((b || false) || x) ≡ (b || x)
or_same true x = refl
or_same false x = refl

pub mark_stretch-requires-clause-some : goal.mark_stretch-requires-clause-some
mark_stretch-requires-clause-some c = (stretch_at c.args.stretches.now c.loop-at.at none c.requires.laid c.loop-at-test.true).some

pub mark_stretch-requires-clause-fits : goal.mark_stretch-requires-clause-fits
mark_stretch-requires-clause-fits c =
    let h = stretch_at c.args.stretches.now c.loop-at.at none c.requires.laid c.loop-at-test.true in
    omega (arith, h.fits, c.requires.size, c.loop-at.invariant.size)

pub loop-at-preserved : goal.loop-at-preserved
loop-at-preserved c =
    let l = c.loop-at in
    let ss = c.args.stretches.now in
    let h = stretch_at c.args.stretches.now c.loop-at.at none c.requires.laid c.loop-at-test.true in
    let next = h.next in
    let place = h.place in
    let now = c.mark_stretch.ensures in
    record {
      size = now.size ∙ l.invariant.size;
      each = λ k lt.
          let n : ℕ = get_or (numbers c.args.stretches.now) k 0 in
          let was : Bool = get_or c.args.marks.now k false in
          let met : Bool = nat_le c.args.first (get_or (numbers c.args.stretches.now) k 0) && nat_lt (get_or (numbers c.args.stretches.now) k 0) c.args.end in
          let lt' : k < length l.marks = omega (arith, lt, l.invariant.size) in
          elim (cases_lt k (before ss l.at)) [
            | inl low ↦
                now.others k lt' (inl (omega (arith, low, place))) ∙ l.invariant.each k lt
                ∙ ap (λ (b : Bool). was || (b && met)) (lt-ltb k (before ss l.at) low ∙ sym (lt-ltb k (before ss (l.at + 1)) (omega (arith, low, next, place))))
            | inr high ↦ elim (cases_lt k (before ss (l.at + 1))) [
              | inl inside ↦
                  let num = h.is k (omega (arith, high, place)) (omega (arith, inside, next)) in
                  let so_far : get_or l.marks k false ≡ (was || false) = l.invariant.each k lt
                  ∙ ap (λ (b : Bool). was || (b && met)) (le-ltb k (before ss l.at) high) in
                  now.inside k (omega (arith, high, place)) (omega (arith, inside, next))
                  ∙ (λ i. so_far i || (nat_le c.args.first (sym num i) && nat_lt (sym num i) c.args.end))
                  ∙ or_same was met
                  ∙ ap (λ (b : Bool). was || (b && met)) (sym (lt-ltb k (before ss (l.at + 1)) inside))
              | inr past ↦
                  now.others k lt' (inr (omega (arith, past, next))) ∙ l.invariant.each k lt
                  ∙ ap (λ (b : Bool). was || (b && met)) (le-ltb k (before ss l.at) high ∙ sym (le-ltb k (before ss (l.at + 1)) past))
            ]
          ];
    }

pub returns-clause-each : goal.returns-clause-each
returns-clause-each c k lt =
    let l = c.loop-at in
    let ss = c.args.stretches.now in
    let n : ℕ = get_or (numbers c.args.stretches.now) k 0 in
    let all = all_before ss l.at (omega (arith, c.loop-at-test.false, l.auto.at-end)) in
    l.invariant.each k lt
    ∙ ap (λ (b : Bool). get_or c.args.marks.now k false || (b && (nat_le c.args.first (get_or (numbers c.args.stretches.now) k 0)
    && nat_lt (get_or (numbers c.args.stretches.now) k 0) c.args.end)))
    (lt-ltb k (before ss l.at) (omega (arith, lt, all, c.requires.size)))
