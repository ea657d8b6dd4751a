-- The scope of the code as a value.
use Rattle.loop_expand.specs.declared.scope.Scope.{Scope as RustScope}
use Rattle.loop_expand.specs.Private.Scopes.{Scope, view_bodies, view_signals}

abbrev pub view_scope : RustScope → Scope
view_scope s = record {
  tables = s.tables.now;
  bodies = view_bodies s.bodies.now;
  instances = s.instances.now;
  firsts = s.firsts.now;
  number = s.number;
  first = s.first;
  signals = view_signals s.signals.now;
}
