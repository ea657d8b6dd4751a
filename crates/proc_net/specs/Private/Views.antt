-- A net as callers see it.
use Rattle.proc_net.specs.declared.net.Net.TheInside.{Inside}
use Rattle.proc_net.specs.Nets.{NetState}
use Rattle.proc_net.specs.Private.States.{IsState}

abbrev pub net_of : Inside → NetState
net_of net = record { processors = net.processors; rows = net.rows; stream = net.stream; capacity = net.capacity }

abbrev pub IsNet : Inside → Type 0
IsNet net = IsState (net_of net)
