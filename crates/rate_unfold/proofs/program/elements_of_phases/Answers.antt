use Rattle.std.proofs.Common.{◌≡◌, ◌∙◌, ℕ, ◌++◌, List, [], length, map, sym, ap, ap₂, subst, arith}
use Rattle.std.proofs.lemmas.List.{length-map}
use Rattle.signal_graph.specs.declared.flat.FlatElem.{FlatElem}
use Rattle.signal_graph.specs.Flat.{view, view_elem, Element}
use Rattle.rate_unfold.specs.Frames.{Rates}
use Rattle.rate_unfold.specs.Private.Limits.{AreShort}
use Rattle.rate_unfold.specs.Private.Unfolding.{elements_in_phase}
use Rattle.rate_unfold.proofs.PhaseElements.{are_short, phases_more}
use Rattle.rate_unfold.proofs.program.elements_of_phases.Goals as goal

pub put_elements-requires : goal.put_elements-requires
put_elements-requires c =
    let elems = c.args.f.now.elems in
    let count : length (map view_elem elems) ≡ c.len.result = length-map elems view_elem ∙ sym c.len.ensures in
    record {
      phase = record {
        first = c.requires.phases.0;
        last = c.requires.phases.1;
        number = c.loop-number-test.true;
        elements = omega (arith, count, c.requires.sound.element_count);
      };
      count = c.len.ensures ∙ ap (λ (xs : List FlatElem). length xs) (sym c.deref.ensures);
      elements = subst (λ (xs : List FlatElem). AreShort c.len.result (map view_elem xs)) (sym c.deref.ensures)
          (subst (λ (k : ℕ). AreShort k (map view_elem elems)) count (are_short (view c.args.f.now) c.requires.sound));
    }

pub loop-number-preserved : goal.loop-number-preserved
loop-number-preserved c =
    let rates : Rates = record { phases = c.args.m; down = []; up = c.args.up.now } in
    c.in_ok-put_elements.ensures
    ∙ ap₂ (λ (xs ys : List Element). xs ++ ys) c.loop-number.invariant
    (ap (λ (xs : List FlatElem). elements_in_phase rates (map view_elem xs) c.loop-number.number) c.deref.ensures)
    ∙ sym (phases_more rates (map view_elem c.args.f.now.elems) c.loop-number.number)
