use Rattle.std.proofs.Common.{subst, sym, Option}
use Rattle.std.specs.Option.{ForSome}
use Rattle.desk_core.specs.Stored.{IsOpen}
use Rattle.desk_core.specs.declared.stored.OpenInput.{OpenInput}
use Rattle.desk_core.proofs.StoredLemmas.{other_than_open, output_kept}
use Rattle.desk_core.proofs.memory.MemDesk.put.Goals as goal

pub invariant_of-self-2 : goal.invariant_of-self-2
invariant_of-self-2 c = record {
  moves = c.args.self.now.moves;
  input_stands =
      subst (λ (o : Option OpenInput). ForSome o (λ i. IsOpen c.put.new.files i)) (sym c.other_than-self.ensures)
      (other_than_open _ _ _ _ _ c.in_ok-at.ensures.kept c.in_ok-at.ensures.place c.args.self.now.input_stands);
  output_stands = output_kept _ _ _ _ c.in_ok-at.ensures.kept c.args.self.now.output_stands;
  wants_within = c.args.self.now.wants_within;
}
