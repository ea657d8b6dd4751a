use Rattle.std.proofs.Common.{subst}
use Rattle.plan_core.specs.declared.schedule.Assigned.{Assigned}
use Rattle.schedule_priority.specs.Private.Destinations.{AreReadersOf}
use Rattle.schedule_priority.proofs.Readers.{listed, some_listed, set_there}
use Rattle.schedule_priority.proofs.destinations.Destinations.list.Goals as goal

pub index-requires : goal.index-requires
index-requires c =
    set_there c.args.self.now c.self.inside.readers
    (subst (λ (a : Assigned). AreReadersOf a c.self.inside.readers) c.self.view_is c.self.invariant) c.args.v c.requires

pub returns-clause-ok : goal.returns-clause-ok
returns-clause-ok c =
    listed c.args.self.now c.self.inside.readers
    (subst (λ (a : Assigned). AreReadersOf a c.self.inside.readers) c.self.view_is c.self.invariant) c.args.v c.requires
    c.index.result.now c.index.ensures c.list_ports.result c.list_ports.new.ports.items c.list_ports.ensures.ok

pub returns-clause-err : goal.returns-clause-err
returns-clause-err c =
    some_listed c.args.self.now c.self.inside.readers
    (subst (λ (a : Assigned). AreReadersOf a c.self.inside.readers) c.self.view_is c.self.invariant) c.args.v c.requires
    c.index.result.now c.index.ensures c.list_ports.result c.list_ports.new.ports.items c.list_ports.ensures.err
