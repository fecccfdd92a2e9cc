-- Writes of the registers of a translator.
use Rattle.std.specs.Prelude.{ℕ, Bool, if◌then◌else◌}
use Rattle.gits_regs.specs.Registers.{write_reg}
use Rattle.its_types.specs.declared.machine.Shape.{Shape}
use Rattle.its_plain.specs.Answer.{translator_written}
use Rattle.its_plain.specs.Plain.{Translator}
use Rattle.its_plain.specs.declared.call.Call.{Call}
use Rattle.its_plain.specs.declared.call.Call.TheVariants as call
use Rattle.its_steps.specs.Calls as calls
use Rattle.its_steps.specs.Endings.{Ending, Nothing, All}
use Rattle.cmd_engine.specs.declared.writing.RegWrite.{RegWrite}

abbrev pub write_call : ℕ → RegWrite → Call
write_call its r = call.WriteReg its r.off r.size r.value

-- what it leaves of the translator
abbrev pub after_write : Shape → RegWrite → Translator → Translator
after_write s r t = translator_written s t (write_reg t.regs r.off r.size r.value)

-- it turns the translator off
abbrev pub turns_off : RegWrite → Translator → Bool
turns_off r t = calls.turns_off t r.off r.size r.value

-- what it ends
abbrev pub write_ending : RegWrite → Translator → Ending
write_ending r t = if turns_off r t then All else Nothing
