use Rattle.std.proofs.Common.{[], sym, subst}
use Rattle.datapath.specs.declared.types.Datapath.{Datapath}
use Rattle.bus_alloc.specs.Private.Stands.{StandsAround}
use Rattle.bus_alloc.proofs.FreshRows.{stands_fresh}
use Rattle.bus_alloc.proofs.modulo.ModuloTable.new.Goals as goal

pub invariant_of-result : goal.invariant_of-result
invariant_of-result c = record {
  are = c.in_ok-fresh_rows.ensures.rows;
  stands = subst (λ (d : Datapath). StandsAround d [] c.in_ok-fresh_rows.field-0) (sym c.of.ensures)
      (stands_fresh c.args.datapath.now c.in_ok-fresh_rows.field-0 c.requires c.in_ok-fresh_rows.ensures.fresh);
}
