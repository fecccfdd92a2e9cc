-- Faults with all their numbers. Those that a kind doesn't name are 0.
use Rattle.std.specs.Prelude.{ℕ}
use Rattle.gits_regs.specs.declared.values.Register.{Register}
use Rattle.gits_regs.specs.declared.values.Register.TheVariants as registers
use Rattle.its_plain.specs.declared.desc.DescFault.{DescFault}
use Rattle.its_plain.specs.declared.desc.DescFault.TheVariants as made
use Rattle.its_plain.specs.declared.fault.Region.{Region}
use Rattle.its_plain.specs.declared.fault.Region.TheVariants as regions
use Rattle.its_plain.specs.declared.fault.RestoreFault.{RestoreFault}
use Rattle.its_plain.specs.declared.fault.RestoreFault.TheVariants as restored
use Rattle.its_plain.specs.declared.fault.SaveFault.{SaveFault}
use Rattle.its_plain.specs.declared.fault.SaveFault.TheVariants as saves
use Rattle.its_plain.specs.declared.fault.Table.{Table}
use Rattle.its_plain.specs.declared.fault.Table.TheVariants as tables
use Rattle.its_numbers.specs.declared.faults.MakeFaultOut.{MakeFaultOut}
use Rattle.its_numbers.specs.declared.faults.SaveFaultOut.{SaveFaultOut}

-- ---- saves

-- the kind, and which of the kind
abbrev pub region_numbers : Region → ℕ × ℕ
region_numbers (regions.Devices its) = (1, 0)
region_numbers (regions.Level1 its) = (2, 0)
region_numbers (regions.Page its entry) = (3, entry)
region_numbers (regions.Collections its) = (4, 0)
region_numbers (regions.Itt its device) = (5, device.0)
region_numbers (regions.Pending vcpu) = (6, vcpu.0)
region_numbers regions.Config = (7, 0)
region_numbers (regions.ConfigOf vcpu) = (8, vcpu.0)
region_numbers (regions.Queue its) = (9, 0)

-- the translator that it is of, or 0
abbrev pub translator_of : Region → ℕ
translator_of (regions.Devices its) = its
translator_of (regions.Level1 its) = its
translator_of (regions.Page its entry) = its
translator_of (regions.Collections its) = its
translator_of (regions.Itt its device) = its
translator_of (regions.Pending vcpu) = 0
translator_of regions.Config = 0
translator_of (regions.ConfigOf vcpu) = 0
translator_of (regions.Queue its) = its

abbrev pub no_save_fault : SaveFaultOut
no_save_fault = record {
  kind = 0;
  translator = 0;
  device = 0;
  region = 0;
  number = 0;
  other_region = 0;
  other_number = 0;
  other_translator = 0;
}

abbrev pub save_fault_out : SaveFault → SaveFaultOut
save_fault_out (saves.NoPlace its device) = record no_save_fault { kind = 1; translator = its; device = device.0 }
save_fault_out (saves.Outside region) = record no_save_fault {
  kind = 2;
  translator = translator_of region;
  region = (region_numbers region).0;
  number = (region_numbers region).1;
}
save_fault_out (saves.Overlap region other) = record {
  kind = 3;
  translator = translator_of region;
  device = 0;
  region = (region_numbers region).0;
  number = (region_numbers region).1;
  other_region = (region_numbers other).0;
  other_number = (region_numbers other).1;
  other_translator = translator_of other;
}

-- ---- descriptions, and what is restored

abbrev pub no_make_fault : MakeFaultOut
no_make_fault = record {
  kind = 0;
  translator = 0;
  vcpu = 0;
  device = 0;
  event = 0;
  intid = 0;
  collection = 0;
  table = 0;
  entry = 0;
  distance = 0;
  register_offset = 0;
  number = 0;
  address = 0;
}

-- where a register is in the control frame (IHI 0069, section 12.19)
abbrev pub offset_of : Register → ℕ
offset_of registers.Cbaser = 0x80
offset_of registers.Cwriter = 0x88
offset_of registers.Creadr = 0x90
offset_of registers.Baser0 = 0x100
offset_of registers.Baser1 = 0x108

abbrev pub past_end_out : Table → ℕ → ℕ → MakeFaultOut
past_end_out tables.Devices entry distance = record no_make_fault { kind = 8; table = 1; entry = entry; distance = distance }
past_end_out (tables.Itt device) entry distance = record no_make_fault { kind = 8; device = device.0; table = 2; entry = entry; distance = distance }

abbrev pub restore_fault_out : RestoreFault → MakeFaultOut
restore_fault_out (restored.OutsideTable address) = record no_make_fault { kind = 5; address = address.0 }
restore_fault_out (restored.BadSize device) = record no_make_fault { kind = 6; device = device.0 }
restore_fault_out (restored.BadIntid device event intid) = record no_make_fault { kind = 7; device = device.0; event = event.0; intid = intid.0 }
restore_fault_out (restored.PastEnd table entry distance) = past_end_out table entry distance
restore_fault_out (restored.BadTarget collection number) = record no_make_fault { kind = 9; collection = collection.0; number = number }
restore_fault_out (restored.DoubleCollection collection) = record no_make_fault { kind = 10; collection = collection.0 }
restore_fault_out (restored.NotValid register) = record no_make_fault { kind = 11; register_offset = offset_of register }
restore_fault_out (restored.BadCollection collection) = record no_make_fault { kind = 12; collection = collection.0 }
restore_fault_out (restored.BadRedist vcpu) = record no_make_fault { kind = 13; vcpu = vcpu.0 }

abbrev pub make_fault_out : DescFault → MakeFaultOut
make_fault_out made.Windows = record no_make_fault { kind = 1 }
make_fault_out made.Config = record no_make_fault { kind = 2 }
make_fault_out (made.Pending vcpu) = record no_make_fault { kind = 3; vcpu = vcpu.0 }
make_fault_out (made.Bytes number) = record no_make_fault { kind = 4; number = number }
make_fault_out (made.Frames its) = record no_make_fault { kind = 14; translator = its }
make_fault_out (made.Requesters number) = record no_make_fault { kind = 15; number = number }
make_fault_out (made.Restore its offence) = record (restore_fault_out offence) { translator = its }
