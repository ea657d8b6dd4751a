use Rattle.std.proofs.Common.{◌≡◌, List, Ok, Err, refl, ap, sym}
use Rattle.std.proofs.lemmas.List.{map-append}
use Rattle.toml.specs.Data.{Members}
use Rattle.toml.specs.View.{view, table_view}
use Rattle.toml_rows.specs.declared.misfit.Misfit.TheVariants.{WrongKind}
use Rattle.toml_rows.specs.Values.{a_table}
use Rattle.toml_rows.proofs.ArrayEntries.{goes_on, stops}
use Rattle.net_file.proofs.procs.table_entries.Goals as goal

pub returns-in-None : goal.returns-in-None
returns-in-None c =
    let bad : a_table (view c.value-item.result) ≡ Err WrongKind = rw (← c.as_table.ensures, c.in-None.is) refl in
    rw (← c.deref-value-items.ensures.value)
    (sym (stops a_table c.deref-value-items.result.now c.loop-value.value-index c.value-item.result
    c.loop-value-test.true c.value-item.is bad))

pub loop-value-preserved : goal.loop-value-preserved
loop-value-preserved c =
    let good : a_table (view c.value-item.result) ≡ Ok (table_view c.in-Some.table.now) = rw
    (← c.as_table.ensures, c.in-Some.is) refl in
    goes_on a_table c.deref-value-items.result.now c.loop-value.value-index c.value-item.result _ _
    c.loop-value-test.true c.value-item.is c.loop-value.invariant
    (rw (good, c.in_ok-push-in-Some.ensures.ok) (ap (λ (ms : List Members). Ok ms) (simp map-append)))
