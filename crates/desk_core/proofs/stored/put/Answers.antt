use Rattle.std.proofs.Common.{◌≡◌, sym, ◌∙◌, subst, List, None}
use Rattle.desk_core.specs.Stored.{lookup, IsFound}
use Rattle.desk_core.specs.declared.stored.Stored.{Stored}
use Rattle.desk_core.proofs.StoredLemmas.{named_at, found_set, put_set, keeps_set, found_push, put_push, keeps_push}
use Rattle.desk_core.proofs.stored.put.Goals as goal

pub returns-in-Some-clause-place : goal.returns-in-Some-clause-place
returns-in-Some-clause-place c =
    let found =
    subst (λ (fs : List Stored). IsFound fs c.args.name.now c.in-Some.at) c.as_slice.ensures c.in-Some.ensures in
    found_set c.args.files.now c.args.name.now c.in-Some.at _
    (named_at c.args.files.now c.in-Some.at c.index_mut.result.now found.inside c.index_mut.ensures.value) found

pub returns-in-Some-clause-put : goal.returns-in-Some-clause-put
returns-in-Some-clause-put c =
    let found =
    subst (λ (fs : List Stored). IsFound fs c.args.name.now c.in-Some.at) c.as_slice.ensures c.in-Some.ensures in
    put_set c.args.files.now c.args.name.now c.in-Some.at _
    (named_at c.args.files.now c.in-Some.at c.index_mut.result.now found.inside c.index_mut.ensures.value) found

pub returns-in-Some-clause-kept : goal.returns-in-Some-clause-kept
returns-in-Some-clause-kept c =
    let found =
    subst (λ (fs : List Stored). IsFound fs c.args.name.now c.in-Some.at) c.as_slice.ensures c.in-Some.ensures in
    keeps_set c.args.files.now c.args.name.now c.in-Some.at _
    (named_at c.args.files.now c.in-Some.at c.index_mut.result.now found.inside c.index_mut.ensures.value) found

pub returns-clause-place : goal.returns-clause-place
returns-clause-place c =
    let none = subst (λ (fs : List Stored). lookup fs c.args.name.now ≡ None) c.as_slice.ensures c.in_default.ensures in
    subst (IsFound c.push.new.self c.args.name.now) (sym c.len-at.ensures)
    (found_push c.args.files.now _ _ _ c.in_ok-push.ensures.ok (c.in_ok-name.ensures ∙ c.as_bytes.ensures.value) none)

pub returns-clause-put : goal.returns-clause-put
returns-clause-put c =
    let none = subst (λ (fs : List Stored). lookup fs c.args.name.now ≡ None) c.as_slice.ensures c.in_default.ensures in
    put_push c.args.files.now _ _ _ c.in_ok-push.ensures.ok (c.in_ok-name.ensures ∙ c.as_bytes.ensures.value) none

pub returns-clause-kept : goal.returns-clause-kept
returns-clause-kept c = keeps_push c.args.files.now _ _ _ c.in_ok-push.ensures.ok
