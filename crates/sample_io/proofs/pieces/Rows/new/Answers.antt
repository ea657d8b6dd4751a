-- New rows have taken no byte.
use Rattle.std.proofs.Common.{[], length, None, refl, ap, sym, ◌∙◌, subst}
use Rattle.std.proofs.lemmas.List.{length-replicate}
use Rattle.sample_io.specs.Channels.{AreChannels}
use Rattle.sample_io.specs.Private.Places.{kept_of, HasLed}
use Rattle.sample_io.proofs.Fed.{taken_of}
use Rattle.sample_io.proofs.Feeding.{none_led}
use Rattle.sample_io.proofs.Files.{nothing_read}
use Rattle.sample_io.proofs.pieces.Rows.new.Goals as goal

pub invariant_of-result : goal.invariant_of-result
invariant_of-result c =
    let are = subst AreChannels (sym c.in_ok-from_slice.ensures) c.requires in
    let kept = kept_of c.in_ok-from_slice.field-0 c.in_ok-zeros-2.field-0 None c.new.result c.in_ok-zeros.field-0 in
    record {
      sound = are;
      shown = ap length c.in_ok-zeros-2.ensures ∙ length-replicate _ _ ∙ sym (ap length c.in_ok-from_slice.ensures);
      filled = ap length c.in_ok-zeros.ensures ∙ length-replicate _ _ ∙ sym (ap length c.in_ok-from_slice.ensures);
      led = λ running. (
        [],
        subst (λ b. HasLed kept b []) (sym c.none.ensures)
            (none_led kept are refl (nothing_read _ are c.new.result c.new.ensures)),
      );
    }

pub returns-clause-taken : goal.returns-clause-taken
returns-clause-taken c =
    let are = subst AreChannels (sym c.in_ok-from_slice.ensures) c.requires in
    let kept = kept_of c.in_ok-from_slice.field-0 c.in_ok-zeros-2.field-0 None c.new.result c.in_ok-zeros.field-0 in
    taken_of kept c.none.result [] [] c.none.ensures
    (none_led kept are refl (nothing_read _ are c.new.result c.new.ensures))
