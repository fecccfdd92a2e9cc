-- The texts of lines and legs, piece behind piece.
use Rattle.std.proofs.Common.{◌≡◌, ℕ, List, ◌∷◌, ◌++◌, append_assoc}
use Rattle.std.specs.Prelude.{codes}
use Rattle.std.specs.Fmt.{decimal}
use Rattle.its_history.specs.Report.{told_text, line_text, entry_lines, vcpu_text, vcpu_lines_from, end_line, leg_text}
use Rattle.its_history.specs.declared.trace.EntryLine.{EntryLine}
use Rattle.its_history.specs.declared.trace.Leg.{Leg}

pub told_flat : (phase thread : ℕ) (text : List ℕ) → told_text phase thread text ≡ decimal phase ++ (46 ∷ (decimal thread ++ (32 ∷ text)))
unfolding told_text
told_flat phase thread text = simp append_assoc

pub line_flat : (l : EntryLine) → line_text l ≡ decimal l.place ++ (32 ∷ told_text l.phase l.thread l.text)
unfolding line_text
line_flat l = simp append_assoc

pub vcpu_flat : (vcpu : ℕ) (pending : List ℕ) → vcpu_text vcpu pending ≡ codes "vcpu " ++ (decimal vcpu ++ (codes " pending " ++ pending))
unfolding vcpu_text
vcpu_flat vcpu pending = simp append_assoc

pub leg_flat : (number : ℕ) (leg : Leg) (later : List ℕ)
    → leg_text number leg ++ later ≡ (codes "leg " ++ decimal number)
    ++ (10 ∷ (entry_lines leg.entries ++ (vcpu_lines_from 0 leg.pending ++ (end_line leg.end ++ later))))
unfolding leg_text
leg_flat number leg later = simp append_assoc

-- a line with its end, and what follows
pub line_on : (line rest : List ℕ) → (line ++ codes "\n") ++ rest ≡ line ++ (10 ∷ rest)
line_on line rest = append_assoc line (codes "\n") rest
