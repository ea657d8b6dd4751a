use Rattle.equation_eval.proofs.Arithmetic.{mask_small}
use Rattle.equation_eval.proofs.memory.Mask.get.Goals as goal

pub returns-clause-most : goal.returns-clause-most
returns-clause-most c = mask_small c.self.inside.bits c.self.invariant
