-- What the entries of the program show: their fields.
use Rattle.table_entries.specs.Fields.{DeviceFields, CollectionFields, EventFields}
use Rattle.table_entries.specs.declared.dte.Dte.{Dte}
use Rattle.table_entries.specs.declared.cte.Cte.{Cte}
use Rattle.table_entries.specs.declared.ite.Ite.{Ite}

abbrev pub fields_of_dte : Dte → DeviceFields
fields_of_dte e = record { next = e.next; itt = e.itt.0; bits = e.bits }

abbrev pub fields_of_cte : Cte → CollectionFields
fields_of_cte e = record { vcpu_number = e.vcpu_number; icid = e.icid.0 }

abbrev pub fields_of_ite : Ite → EventFields
fields_of_ite e = record { next = e.next; intid = e.intid.0; icid = e.icid.0 }
