use Rattle.device_port.proofs.Doorbells.{devices, kept, own_range, own_device, stands}
use Rattle.device_port.proofs.laws.requesters_are_apart.Goals as goal

pub returns-clause-kept : goal.returns-clause-kept
returns-clause-kept c = kept

pub returns-clause-own_range : goal.returns-clause-own_range
returns-clause-own_range c = own_range

pub returns-clause-own_device : goal.returns-clause-own_device
returns-clause-own_device c = own_device

pub returns-clause-devices : goal.returns-clause-devices
returns-clause-devices c = devices

pub returns-clause-stands : goal.returns-clause-stands
returns-clause-stands c = stands
