-- A step on memory that is lent for it: guest memory is neither read nor changed.
use Rattle.std.specs.Prelude.{ℕ, List}
use Rattle.guest_windows.specs.Windows.{Window}
use Rattle.its_plain.specs.Answer.{step_left}
use Rattle.its_plain.specs.Plain.{Plain}

-- the state on other memory
abbrev pub on : List Window → Plain → Plain
on memory u = record u { memory = memory }

-- what a step of translator number i leaves that is made on other memory
abbrev pub left_on : List Window → Plain → ℕ → Plain
left_on memory u i = on u.memory (step_left (on memory u) i)
