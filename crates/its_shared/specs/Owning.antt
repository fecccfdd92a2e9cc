-- What a handle owns: at null nothing, and else the pass on the heap, with its share of the machine.
use Rattle.std.specs.Prelude.{◌≡◌, Option, Some, None}
use base.Fml.{Fml, ftrue, fex}
use denote.RawPtr.{Ptr, null_ptr}
use Rattle.std_alloc.specs.Box.Ownership.{box_owns}
use Rattle.std_heap.specs.declared.Global.{Global}
use Rattle.std_heap.specs.contracts.GlobalAllocator.TheImpl.{ghosts}
use Rattle.its_shared.specs.Knowing.{Known}
use Rattle.its_shared.specs.contracts.port.Port.{the_row}

abbrev pub held : Global → Ptr → Option Known → Fml
held alloc at None = fex (at ≡ null_ptr) (λ _. ftrue)
held alloc at (Some k) = box_owns (ghosts.dealloc_token alloc) the_row at k
