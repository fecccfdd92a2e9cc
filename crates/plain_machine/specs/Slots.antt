-- Translators and redistributors as lists, in which one is changed.
use Rattle.std.specs.Prelude.{ℕ, List, slice_index_or, slice_set}
use Rattle.gits_regs.specs.Registers.{Registers}
use Rattle.its_types.specs.Maps.{Maps}
use Rattle.its_plain.specs.Plain.{Translator, Redistributor, no_translator, no_redistributor}

abbrev pub translator_in : List Translator → ℕ → Translator
translator_in ts its = slice_index_or ts its no_translator

abbrev pub maps_set : List Translator → ℕ → Maps → List Translator
maps_set ts its maps = slice_set ts its (record (translator_in ts its) { maps = maps })

abbrev pub regs_set : List Translator → ℕ → Registers → List Translator
regs_set ts its regs = slice_set ts its (record (translator_in ts its) { regs = regs })

abbrev pub redistributor_in : List Redistributor → ℕ → Redistributor
redistributor_in rs vcpu = slice_index_or rs vcpu no_redistributor

abbrev pub pending_set : List Redistributor → ℕ → List ℕ → List Redistributor
pending_set rs vcpu pending = slice_set rs vcpu (record (redistributor_in rs vcpu) { pending = pending })
