use Rattle.std.proofs.Common.{◌≡◌, ℕ, List, Ok, Err, refl, ap, sym}
use Rattle.std.proofs.lemmas.List.{map-append}
use Rattle.toml.specs.View.{view}
use Rattle.datapath.specs.declared.fault.Misfit.TheVariants.{WrongKind}
use Rattle.datapath.specs.Values.{text}
use Rattle.datapath.proofs.ArrayEntries.{goes_on, stops}
use Rattle.datapath.proofs.arrays.text_entries.Goals as goal

pub returns-in-None : goal.returns-in-None
returns-in-None c =
    let bad : text (view c.value-item.result) ≡ Err WrongKind = rw (← c.as_str.ensures, c.in-None.is) refl in
    rw (← c.deref-value-items.ensures.value)
    (sym (stops text c.deref-value-items.result.now c.loop-value.value-index c.value-item.result
    c.loop-value-test.true c.value-item.is bad))

pub loop-value-preserved : goal.loop-value-preserved
loop-value-preserved c =
    let good : text (view c.value-item.result) ≡ Ok c.in-Some.text.now = rw (← c.as_str.ensures, c.in-Some.is) refl in
    goes_on text c.deref-value-items.result.now c.loop-value.value-index c.value-item.result _ _
    c.loop-value-test.true c.value-item.is c.loop-value.invariant
    (rw (good, c.in_ok-push-in-Some.ensures.ok) (ap (λ (ms : List (List ℕ)). Ok ms) (simp map-append)))
