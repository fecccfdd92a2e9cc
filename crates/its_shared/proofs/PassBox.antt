-- A handle owns what a box of a pass with its machine owns.
use mathlib.Core.List.{[]}
use Rattle.std.proofs.Common.{Some}
use denote.RawPtr.{Ptr}
use Rattle.std_heap.specs.declared.Global.{Global}
use Rattle.its_shared.specs.Knowing.{Known}
use mir.Syntax.{impl, tnil, dnil}
use denote.Signature.{Slot, plain}
use Rattle.std_alloc.proofs.BoxSteps.Form.{Bx, D}
use Rattle.std_heap.specs.contracts.Global.{the_row as global_row}
use Rattle.std_heap.specs.contracts.GlobalAllocator.TheImpl.{ghosts, dict}
use Rattle.std_heap.proofs.Global.TheLaws as global
use Rattle.its_shared.specs.contracts.port.Port.{the_row as port_row}
use Rattle.its_shared.proofs.port.Port.TheLaws as port
use Rattle.its_shared.specs.contracts.pass.Pass.{the_row as handle_row}
use Rattle.its_shared.specs.declared.pass.Pass.{Pass}
use Rattle.its_numbers.proofs.LooseValues.{Loose}

abbrev pub port_box : Bx
port_box = record {
  row = port_row;
  laws = port.the_row_laws;
  al = record { row = global_row; laws = global.the_row_laws; g = ghosts; d = dict; drops = impl [] tnil dnil };
}

-- a handle with a pass that knows u, and the box that it stands for
abbrev pub holder : Ptr → Global → Known → Pass
holder at alloc u = record { at = at; alloc = alloc; known = Some u }

abbrev pub box_of : Ptr → Global → Known → D port_box
box_of at alloc u = record { ptr = at; alloc = alloc; value = u }

-- a parameter that is a handle
abbrev pub a_handle : Slot 0
a_handle = plain (λ _. handle_row)

-- a parameter that is a pass's loose box
abbrev pub a_loose : Slot 0
a_loose = plain (λ _. Loose port_row global_row global.the_row_laws ghosts)
