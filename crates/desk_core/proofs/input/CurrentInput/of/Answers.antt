use Rattle.std.proofs.Common.{arith, ◌≡◌, sym, ◌∙◌, ap, subst, length, Some, ℕ}
use Rattle.std.proofs.lemmas.List.{take_all}
use Rattle.desk_core.specs.View.{Name, Content}
use Rattle.desk_core.specs.Desk.{content_of}
use Rattle.desk_core.specs.Stored.{bytes_at, IsOpen}
use Rattle.desk_core.specs.Inputs.{opened_name}
use Rattle.desk_core.proofs.StoredLemmas.{bytes_is, found_open, lookup_found}
use Rattle.desk_core.proofs.input.CurrentInput.of.Goals as goal

pub returns-in-Some-clause-stands : goal.returns-in-Some-clause-stands
returns-in-Some-clause-stands c =
    let found = c.in-Some.ensures in
    let bytes = bytes_is c.args.files.now c.in-Some.file c.index-files-file.result found.inside in
    λ input is. subst (IsOpen c.args.files.now) (cc)
    (found_open _ _ _ _ found (c.len.ensures ∙ ap (length {A = ℕ}) bytes))

pub returns-in-Some-clause-named : goal.returns-in-Some-clause-named
returns-in-Some-clause-named c =
    let found = c.in-Some.ensures in
    ap (λ (n : Name). Some (Some n)) found.named ∙ sym (ap (opened_name c.args.name.now) (lookup_found _ _ _ found))

pub returns-in-Some-clause-bytes : goal.returns-in-Some-clause-bytes
returns-in-Some-clause-bytes c =
    let found = c.in-Some.ensures in
    let bytes = bytes_is c.args.files.now c.in-Some.file c.index-files-file.result found.inside in
    let size : c.len.result ≡ length (bytes_at c.args.files.now c.in-Some.file) =
    c.len.ensures ∙ ap (length {A = ℕ}) bytes in
    ap (λ (b : Content). Some b)
    (take_all _ _ (omega arith) ∙ sym (ap content_of (lookup_found _ _ _ found)))
