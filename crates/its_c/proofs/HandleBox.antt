-- A handle owns what a box of a machine owns.
use mathlib.Core.List.{[]}
use Rattle.std.proofs.Common.{Some}
use denote.RawPtr.{Ptr}
use Rattle.std_heap.specs.declared.Global.{Global}
use Rattle.its_c.specs.Keeping.{Held}
use mir.Syntax.{impl, tnil, dnil}
use denote.Signature.{Slot, plain}
use Rattle.std_alloc.proofs.BoxSteps.Form.{Bx, D}
use Rattle.std_heap.specs.contracts.Global.{the_row as global_row}
use Rattle.std_heap.specs.contracts.GlobalAllocator.TheImpl.{ghosts, dict}
use Rattle.std_heap.proofs.Global.TheLaws as global
use Rattle.its_c.specs.contracts.kept.Kept.{the_row as machine_row}
use Rattle.its_c.proofs.kept.Kept.TheLaws as machine
use Rattle.its_c.specs.contracts.handle.Handle.{the_row as handle_row}
use Rattle.its_c.specs.declared.handle.Handle.{Handle}
use Rattle.its_numbers.proofs.LooseValues.{Loose}

abbrev pub machine_box : Bx
machine_box = record {
  row = machine_row;
  laws = machine.the_row_laws;
  al = record { row = global_row; laws = global.the_row_laws; g = ghosts; d = dict; drops = impl [] tnil dnil };
}

-- a handle with a machine in the state u, and the box that it stands for
abbrev pub holder : Ptr → Global → Held → Handle
holder at alloc u = record { at = at; alloc = alloc; machine = Some u }

abbrev pub box_of : Ptr → Global → Held → D machine_box
box_of at alloc u = record { ptr = at; alloc = alloc; value = u }

-- a parameter that is a handle
abbrev pub a_handle : Slot 0
a_handle = plain (λ _. handle_row)

-- a parameter that is a machine's loose box
abbrev pub a_loose : Slot 0
a_loose = plain (λ _. Loose machine_row global_row global.the_row_laws ghosts)
