use Rattle.std.proofs.Common.{sym, ◌∙◌, ap, subst, List, Some}
use Rattle.desk_core.specs.View.{Content}
use Rattle.desk_core.specs.Stored.{IsFound}
use Rattle.desk_core.specs.declared.stored.Stored.{Stored}
use Rattle.desk_core.proofs.StoredLemmas.{stored_at, lookup_found}
use Rattle.desk_core.proofs.memory.MemDesk.get.Goals as goal

pub returns : goal.returns
returns c =
    let found =
    subst (λ (fs : List Stored). IsFound fs c.args.name.now c.in_ok-at.at) c.as_slice.ensures c.in_ok-at.ensures in
    lookup_found _ _ _ found
    ∙ ap (λ (b : Content). Some b)
    (sym (c.as_slice-2.ensures
    ∙ stored_at c.args.self.now.files c.in_ok-at.at c.index.result.now found.inside c.index.ensures))
