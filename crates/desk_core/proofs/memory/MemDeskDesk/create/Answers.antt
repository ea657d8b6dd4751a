use Rattle.std.proofs.Common.{arith, subst, sym, Option}
use Rattle.std.specs.Option.{ForSome}
use Rattle.desk_core.specs.Stored.{IsFirst, IsOpen}
use Rattle.desk_core.specs.declared.stored.OpenInput.{OpenInput}
use Rattle.desk_core.proofs.StoredLemmas.{other_than_open, found_first, for_this}
use Rattle.desk_core.proofs.memory.MemDeskDesk.create.Goals as goal

pub invariant_of-self : goal.invariant_of-self
invariant_of-self c = record {
  moves = c.args.self.now.moves;
  input_stands =
      subst (λ (o : Option OpenInput). ForSome o (λ i. IsOpen c.put.new.files i)) (sym c.other_than-self.ensures)
      (other_than_open _ _ _ _ _ c.in-Ok.ensures.kept c.in-Ok.ensures.place c.args.self.now.input_stands);
  output_stands = for_this (IsFirst c.put.new.files) _ (found_first _ _ _ c.in-Ok.ensures.place);
  wants_within =
      (let counted = c.saturating_add-self.ensures in let within = c.args.self.now.wants_within in omega arith);
}
