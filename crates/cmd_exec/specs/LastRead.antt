-- What was read last of a configuration table (IHI 0069, section 5.1.1).
use Rattle.std.specs.Prelude.{◌≡◌, List, length, take, IfSome}
use Rattle.guest_windows.specs.Windows.{Window}
use Rattle.its_types.specs.declared.ids.Intid.{Intid}
use Rattle.cmd_exec.specs.declared.rereading.LastRead.{LastRead}
use Rattle.cmd_exec.specs.Reloaded.{bytes_of}

-- where a table was read, these are its bytes of these LPIs
abbrev pub IsReadOf : List Window → List Intid → LastRead → Type 0
IsReadOf memory intids last = IfSome last.table (λ table. take (length intids) last.bytes ≡ bytes_of memory table.0 intids)
