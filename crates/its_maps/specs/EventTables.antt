-- The events of a device, in one vector or in pages.
use Rattle.its_types.specs.declared.translation.Event.{Event}
use Rattle.its_maps.specs.MapRoom.{MapRoom}
use Rattle.its_maps.specs.declared.event_table.Form.{Form}
use Rattle.its_maps.specs.declared.event_table.Form.TheVariants.{Few, Many}

abbrev pub events_of : Form → MapRoom Event
events_of (Few events) = events
events_of (Many pages) = pages
