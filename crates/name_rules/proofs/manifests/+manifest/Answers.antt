-- Each way through a number: the fault of a part is handed on, and an operator is judged last.
use Rattle.std.proofs.Common.{◌≡◌, ap, ◌∙◌, Err, refl, arith, neg_ℤ, to_z, of_z}
use mir.Syntax.{w32, w64}
use Rattle.std.proofs.lemmas.Int.{ints}
use Rattle.std.proofs.lemmas.Result.{err_from_is_err_and}
use Rattle.silage_syntax.specs.Manifests.{combined}
use Rattle.silage_syntax.specs.Tree.{view_manifest}
use Rattle.name_rules.proofs.ManifestMet.{whole_exact, counter_exact, minus_stops, minus_exact, left_stops}
use Rattle.name_rules.proofs.ManifestMet.{right_stops, both_exact}
use Rattle.name_rules.proofs.manifests.+manifest.Goals as goal

pub returns-in-Whole : goal.returns-in-Whole
returns-in-Whole t c =
    let e = whole_exact c.args.env.now _ _ _ c.whole.result (ap view_manifest c.in-Whole.is) c.whole.ensures in
    record { value = e.value; fault = e.fault }

pub returns-in-Index : goal.returns-in-Index
returns-in-Index t c =
    let e =
    counter_exact c.args.env.now _ _ _ c.index.result c.ok_or.result (ap view_manifest c.in-Index.is)
    c.index.ensures c.ok_or.ensures.value in
    record { value = e.value; fault = e.fault }

pub returns-in_err-value-in-Negate : goal.returns-in_err-value-in-Negate
returns-in_err-value-in-Negate t c =
    let p = err_from_is_err_and c.from_residual.result c.from_residual.ensures.1 in
    let met = (c.in_err-value-in-Negate.ensures.fault _).0 refl in
    let e = minus_stops _ _ _ _ _ _ (ap view_manifest c.in-Negate.is) (p.1 ∙ ap Err p.2) (rw c.deref.ensures at met) in
    record { value = e.value; fault = e.fault }

pub returns-in_ok-value-in-Negate : goal.returns-in_ok-value-in-Negate
returns-in_ok-value-in-Negate t c =
    let has = (c.in_ok-value-in-Negate.ensures.value c.in_ok-value-in-Negate.value).0 refl in
    let same : to_z w32 (of_z w32 c.in_ok-value-in-Negate.value) ≡ c.in_ok-value-in-Negate.value =
    omega (arith, ints) in
    let number : to_z w64 (of_z w64 c.negate.result) ≡ c.negate.result = omega (arith, ints) in
    let e =
    minus_exact _ _ _ _ _ _ c.in_range.result (ap view_manifest c.in-Negate.is) (rw c.deref.ensures at has)
    (number ∙ c.negate.ensures ∙ ap neg_ℤ same) c.in_range.ensures in
    record { value = e.value; fault = e.fault }

pub returns-in_err-left-in-Binary : goal.returns-in_err-left-in-Binary
returns-in_err-left-in-Binary t c =
    let p =
    err_from_is_err_and c.from_residual-in_err-left-in-Binary.result
    c.from_residual-in_err-left-in-Binary.ensures.1 in
    let met = (c.in_err-left-in-Binary.ensures.fault _).0 refl in
    let e =
    left_stops _ _ _ _ _ _ _ _ (ap view_manifest c.in-Binary.is) (p.1 ∙ ap Err p.2)
    (rw c.deref-in-Binary.ensures at met) in
    record { value = e.value; fault = e.fault }

pub returns-in_err-right-in-Binary : goal.returns-in_err-right-in-Binary
returns-in_err-right-in-Binary t c =
    let p =
    err_from_is_err_and c.from_residual-in_err-right-in-Binary.result
    c.from_residual-in_err-right-in-Binary.ensures.1 in
    let left = (c.in_ok-left-in-Binary.ensures.value _).0 refl in
    let met = (c.in_err-right-in-Binary.ensures.fault _).0 refl in
    let e =
    right_stops _ _ _ _ _ _ _ _ _ (ap view_manifest c.in-Binary.is) (rw c.deref-in-Binary.ensures at left)
    (p.1 ∙ ap Err p.2) (rw c.deref-in-Binary-2.ensures at met) in
    record { value = e.value; fault = e.fault }

pub returns-in_ok-right-in-Binary : goal.returns-in_ok-right-in-Binary
returns-in_ok-right-in-Binary t c =
    let left = (c.in_ok-left-in-Binary.ensures.value c.in_ok-left-in-Binary.left).0 refl in
    let right = (c.in_ok-right-in-Binary.ensures.value c.in_ok-right-in-Binary.right).0 refl in
    let same_left : to_z w32 (of_z w32 c.in_ok-left-in-Binary.left) ≡ c.in_ok-left-in-Binary.left =
    omega (arith, ints) in
    let same_right : to_z w32 (of_z w32 c.in_ok-right-in-Binary.right) ≡ c.in_ok-right-in-Binary.right =
    omega (arith, ints) in
    let number : to_z w64 (of_z w64 c.combine.result) ≡ c.combine.result = omega (arith, ints) in
    let exact =
    number ∙ c.combine.ensures
    ∙ ap (λ x. combined c.in-Binary.operator x (to_z w32 (of_z w32 c.in_ok-right-in-Binary.right))) same_left
    ∙ ap (combined c.in-Binary.operator c.in_ok-left-in-Binary.left) same_right in
    let e =
    both_exact _ _ _ _ _ _ _ _ _ c.in_range-in-Binary.result (ap view_manifest c.in-Binary.is)
    (rw c.deref-in-Binary.ensures at left) (rw c.deref-in-Binary-2.ensures at right) exact
    c.in_range-in-Binary.ensures in
    record { value = e.value; fault = e.fault }
