-- Histories of calls and replies.
use Rattle.std.specs.Prelude.{◌≡◌, ℕ, suc, ◌==◌, if◌then◌else◌, List, [], ◌∷◌}
use Rattle.its_plain.specs.Plain.{Plain}
use Rattle.its_plain.specs.Answer.{answer}
use Rattle.its_plain.specs.declared.call.Call.{Call}
use Rattle.its_plain.specs.declared.call.Entry.{Entry}

-- the state at the end of a history
abbrev pub after : Plain → List Entry → Plain
after u [] = u
after u (e ∷ h) = after (answer u e.call).1 h

-- each reply is the plain machine's, on the state that the entries before it leave
abbrev pub IsLegal : Plain → List Entry → Type 0
IsLegal u [] = Unit {0}
IsLegal u (e ∷ h) = (e.reply ≡ (answer u e.call).0) × IsLegal (answer u e.call).1 h

-- the calls of one pass, in their order
abbrev pub calls_by : ℕ → List Entry → List Call
calls_by pass [] = []
calls_by pass (e ∷ h) = if e.pass == pass then e.call ∷ calls_by pass h else calls_by pass h

-- the entries of one pass, each with its place, where the first place is n
abbrev pub placed : ℕ → ℕ → List Entry → List (ℕ × Entry)
placed pass n [] = []
placed pass n (e ∷ h) = if e.pass == pass then (n, e) ∷ placed pass (suc n) h else placed pass (suc n) h
