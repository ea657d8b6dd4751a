use Rattle.std.proofs.Common.{◌+◌, ◌++◌, ◌∷◌, [], sym, ◌∙◌, ap, List, ℕ}
use Rattle.lists.proofs.Ranges.{range_more}
use Rattle.loop_expand.proofs.program.outs.Goals as goal

pub loop-k-preserved : goal.loop-k-preserved
loop-k-preserved c =
    c.in_ok-push.ensures.ok ∙ ap (λ (ks : List ℕ). ks ++ (c.count-first.result + c.loop-k.k) ∷ []) c.loop-k.invariant
    ∙ sym (range_more c.count-first.result c.loop-k.k)
