use Rattle.std.proofs.Common.{ap, ◌∙◌, ◌++◌}
use Rattle.lists.proofs.Results.{on_ok}
use Rattle.desk_core.specs.View.{Content}
use Rattle.desk_core.proofs.StoredLemmas.{named_at, stored_at, appended_set}
use Rattle.desk_core.proofs.stored.append.Goals as goal

pub returns-clause-ok : goal.returns-clause-ok
returns-clause-ok c =
    on_ok _ _ _ (λ more. appended_set c.args.files.now c.args.file _ c.args.piece.now c.requires
    (named_at c.args.files.now c.args.file c.index_mut.result.now c.requires.inside c.index_mut.ensures.value)
    (more
    ∙ ap (λ (xs : Content). xs ++ c.args.piece.now)
    (stored_at c.args.files.now c.args.file c.index_mut.result.now c.requires.inside c.index_mut.ensures.value)))
    c.extend_from_slice.ensures.ok
