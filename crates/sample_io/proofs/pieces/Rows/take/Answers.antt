-- A byte ends a word or a row, or is the first bad one.
use Rattle.std.proofs.Common.{rules, ◌++◌, ◌∷◌, [], List, length, ℕ, ℤ, Ok, Err, refl, ap, sym, ◌∙◌, subst, FitsSigned}
use Rattle.std.proofs.Common.{w64, to_z, of_z, set}
use Rattle.std.proofs.lemmas.Int.{to_z-of_z}
use Rattle.std.proofs.lemmas.List.{length-set}
use Rattle.sample_io.specs.declared.read.Progress.TheVariants.{Within, Word, Row}
use Rattle.sample_io.specs.Pieces.{HasTaken}
use Rattle.sample_io.specs.Samples.{Lines, StopsAfter}
use Rattle.sample_io.specs.Private.Places.{kept_of}
use Rattle.sample_io.specs.Private.Reading.{Reads}
use Rattle.sample_io.proofs.Fed.{led_of, taken_more, led_more}
use Rattle.sample_io.proofs.Feeding.{within_led, word_led, row_led, fault_met}
use Rattle.sample_io.proofs.pieces.Rows.take.Goals as goal

pub invariant_of-self : goal.invariant_of-self
invariant_of-self c =
    let old =
    kept_of c.self.inside.channels c.self.inside.shown c.self.inside.fault c.self.inside.reader
    c.self.inside.begun in
    let new =
    kept_of c.self.inside.channels c.self.inside.shown c.self.inside.fault c.step.new.self c.self.inside.begun in
    let reads : Reads c.self.inside.channels c.self.inside.reader c.args.byte (Ok Within) c.step.new.self =
    subst (λ p. Reads c.self.inside.channels c.self.inside.reader c.args.byte (Ok p) c.step.new.self)
    c.in-Ok-Within.field-0-is
    (subst (λ l. Reads l c.self.inside.reader c.args.byte (Ok c.in-Ok-Within.field-0) c.step.new.self) c.deref.ensures
    c.in-Ok-Within.ensures) in
    let leads = within_led old new c.args.byte refl refl refl reads in
    record {
      sound = c.self.invariant.sound;
      shown = c.self.invariant.shown;
      filled = c.self.invariant.filled;
      led =
          led_more old new c.self.inside.taken c.push.new.self c.args.byte (λ rows. rows) c.self.invariant
          c.push.ensures leads;
    }

pub returns-in-Ok-Within-clause-takes : goal.returns-in-Ok-Within-clause-takes
returns-in-Ok-Within-clause-takes c =
    let old =
    kept_of c.self.inside.channels c.self.inside.shown c.self.inside.fault c.self.inside.reader
    c.self.inside.begun in
    let new =
    kept_of c.self.inside.channels c.self.inside.shown c.self.inside.fault c.step.new.self c.self.inside.begun in
    let reads : Reads c.self.inside.channels c.self.inside.reader c.args.byte (Ok Within) c.step.new.self =
    subst (λ p. Reads c.self.inside.channels c.self.inside.reader c.args.byte (Ok p) c.step.new.self)
    c.in-Ok-Within.field-0-is
    (subst (λ l. Reads l c.self.inside.reader c.args.byte (Ok c.in-Ok-Within.field-0) c.step.new.self) c.deref.ensures
    c.in-Ok-Within.ensures) in
    let leads = within_led old new c.args.byte refl refl refl reads in (
      ap (λ s. s.row) c.self.view_is,
      λ bytes before h.
          taken_more old new c.self.inside.taken c.push.new.self c.args.byte (λ rows. rows) c.self.invariant
          c.push.ensures leads bytes before (subst (λ s. HasTaken s bytes before) (sym c.self.view_is) h),
    )

pub invariant_of-self-in-Ok-Word : goal.invariant_of-self-in-Ok-Word
invariant_of-self-in-Ok-Word c =
    let old =
    kept_of c.self.inside.channels c.self.inside.shown c.self.inside.fault c.self.inside.reader
    c.self.inside.begun in
    let new = kept_of c.self.inside.channels c.self.inside.shown c.self.inside.fault c.step.new.self
    (set c.self.inside.begun c.column-column.result (to_z w64 (of_z w64 c.in-Ok-Word.word))) in
    let fits : FitsSigned w64 c.in-Ok-Word.word = search rules in
    let begun = ap (λ (w : ℤ). set c.self.inside.begun c.column-column.result w) (to_z-of_z w64 c.in-Ok-Word.word fits)
    ∙ ap (λ n. set c.self.inside.begun n c.in-Ok-Word.word) c.column-column.ensures in
    let reads : Reads c.self.inside.channels c.self.inside.reader c.args.byte (Ok (Word c.in-Ok-Word.word))
    c.step.new.self =
    subst (λ p. Reads c.self.inside.channels c.self.inside.reader c.args.byte (Ok p) c.step.new.self)
    c.in-Ok-Word.field-0-is
    (subst (λ l. Reads l c.self.inside.reader c.args.byte (Ok c.in-Ok-Word.field-0) c.step.new.self) c.deref.ensures
    c.in-Ok-Word.ensures) in
    let leads = word_led old new c.args.byte c.in-Ok-Word.word refl refl begun c.self.invariant.filled reads in
    record {
      sound = c.self.invariant.sound;
      shown = c.self.invariant.shown;
      filled = length-set c.self.inside.begun c.column-column.result _ ∙ c.self.invariant.filled;
      led =
          led_more old new c.self.inside.taken c.push.new.self c.args.byte (λ rows. rows) c.self.invariant
          c.push.ensures leads;
    }

pub returns-in-Ok-Word-clause-takes : goal.returns-in-Ok-Word-clause-takes
returns-in-Ok-Word-clause-takes c =
    let old =
    kept_of c.self.inside.channels c.self.inside.shown c.self.inside.fault c.self.inside.reader
    c.self.inside.begun in
    let new = kept_of c.self.inside.channels c.self.inside.shown c.self.inside.fault c.step.new.self
    (set c.self.inside.begun c.column-column.result (to_z w64 (of_z w64 c.in-Ok-Word.word))) in
    let fits : FitsSigned w64 c.in-Ok-Word.word = search rules in
    let begun = ap (λ (w : ℤ). set c.self.inside.begun c.column-column.result w) (to_z-of_z w64 c.in-Ok-Word.word fits)
    ∙ ap (λ n. set c.self.inside.begun n c.in-Ok-Word.word) c.column-column.ensures in
    let reads : Reads c.self.inside.channels c.self.inside.reader c.args.byte (Ok (Word c.in-Ok-Word.word))
    c.step.new.self =
    subst (λ p. Reads c.self.inside.channels c.self.inside.reader c.args.byte (Ok p) c.step.new.self)
    c.in-Ok-Word.field-0-is
    (subst (λ l. Reads l c.self.inside.reader c.args.byte (Ok c.in-Ok-Word.field-0) c.step.new.self) c.deref.ensures
    c.in-Ok-Word.ensures) in
    let leads = word_led old new c.args.byte c.in-Ok-Word.word refl refl begun c.self.invariant.filled reads in (
      ap (λ s. s.row) c.self.view_is,
      λ bytes before h.
          taken_more old new c.self.inside.taken c.push.new.self c.args.byte (λ rows. rows) c.self.invariant
          c.push.ensures leads bytes before (subst (λ s. HasTaken s bytes before) (sym c.self.view_is) h),
    )

pub invariant_of-self-in-Ok-Row : goal.invariant_of-self-in-Ok-Row
invariant_of-self-in-Ok-Row c =
    let old =
    kept_of c.self.inside.channels c.self.inside.shown c.self.inside.fault c.self.inside.reader
    c.self.inside.begun in
    let new =
    kept_of c.self.inside.channels c.end_row.new.shown c.self.inside.fault c.step.new.self c.end_row.new.begun in
    let fits : FitsSigned w64 c.in-Ok-Row.word = search rules in
    let row =
    c.end_row.ensures.shown
    ∙ ap (λ (w : ℤ). set c.self.inside.begun c.column-column.result w) (to_z-of_z w64 c.in-Ok-Row.word fits)
    ∙ ap (λ n. set c.self.inside.begun n c.in-Ok-Row.word) c.column-column.ensures in
    let reads : Reads c.self.inside.channels c.self.inside.reader c.args.byte (Ok (Row c.in-Ok-Row.word))
    c.step.new.self =
    subst (λ p. Reads c.self.inside.channels c.self.inside.reader c.args.byte (Ok p) c.step.new.self)
    c.in-Ok-Row.field-0-is
    (subst (λ l. Reads l c.self.inside.reader c.args.byte (Ok c.in-Ok-Row.field-0) c.step.new.self) c.deref.ensures
    c.in-Ok-Row.ensures) in
    let ends = row_led old new c.args.byte c.in-Ok-Row.word refl refl row c.self.invariant.filled reads in
    record {
      sound = c.self.invariant.sound;
      shown =
          ap length c.end_row.ensures.shown ∙ length-set c.self.inside.begun c.column-column.result _
          ∙ c.self.invariant.filled;
      filled = ap length c.end_row.ensures.begun ∙ c.self.invariant.shown;
      led =
          led_more old new c.self.inside.taken c.push.new.self c.args.byte (λ rows. rows ++ c.end_row.new.shown ∷ [])
          c.self.invariant c.push.ensures (λ bytes before h. (ends bytes before h).1);
    }

pub returns-in-Ok-Row-clause-takes : goal.returns-in-Ok-Row-clause-takes
returns-in-Ok-Row-clause-takes c =
    let old =
    kept_of c.self.inside.channels c.self.inside.shown c.self.inside.fault c.self.inside.reader
    c.self.inside.begun in
    let new =
    kept_of c.self.inside.channels c.end_row.new.shown c.self.inside.fault c.step.new.self c.end_row.new.begun in
    let fits : FitsSigned w64 c.in-Ok-Row.word = search rules in
    let row =
    c.end_row.ensures.shown
    ∙ ap (λ (w : ℤ). set c.self.inside.begun c.column-column.result w) (to_z-of_z w64 c.in-Ok-Row.word fits)
    ∙ ap (λ n. set c.self.inside.begun n c.in-Ok-Row.word) c.column-column.ensures in
    let reads : Reads c.self.inside.channels c.self.inside.reader c.args.byte (Ok (Row c.in-Ok-Row.word))
    c.step.new.self =
    subst (λ p. Reads c.self.inside.channels c.self.inside.reader c.args.byte (Ok p) c.step.new.self)
    c.in-Ok-Row.field-0-is
    (subst (λ l. Reads l c.self.inside.reader c.args.byte (Ok c.in-Ok-Row.field-0) c.step.new.self) c.deref.ensures
    c.in-Ok-Row.ensures) in
    let ends = row_led old new c.args.byte c.in-Ok-Row.word refl refl row c.self.invariant.filled reads in
    λ bytes before h.
    let known = subst (λ s. HasTaken s bytes before) (sym c.self.view_is) h in
    let line = (ends bytes before (led_of old c.self.inside.taken c.self.invariant bytes before known)).0 in (
      subst (λ s. Lines (bytes ++ c.args.byte ∷ []) s.channels (before ++ c.end_row.new.shown ∷ [])) c.self.view_is
          line,
      taken_more old new c.self.inside.taken c.push.new.self c.args.byte (λ rows. rows ++ c.end_row.new.shown ∷ [])
          c.self.invariant c.push.ensures (λ bytes before h. (ends bytes before h).1) bytes before known,
    )

pub returns-in-Err-clause-fault : goal.returns-in-Err-clause-fault
returns-in-Err-clause-fault c =
    let old =
    kept_of c.self.inside.channels c.self.inside.shown c.self.inside.fault c.self.inside.reader
    c.self.inside.begun in
    let reads : Reads c.self.inside.channels c.self.inside.reader c.args.byte (Err c.in-Err.fault) c.step.new.self =
    subst (λ l. Reads l c.self.inside.reader c.args.byte (Err c.in-Err.fault) c.step.new.self) c.deref.ensures
    c.in-Err.ensures in
    λ bytes before h.
    let led =
    led_of old c.self.inside.taken c.self.invariant bytes before
    (subst (λ s. HasTaken s bytes before) (sym c.self.view_is) h) in
    subst (λ s. (more : List ℕ) → StopsAfter s.channels ((bytes ++ c.args.byte ∷ []) ++ more) before c.in-Err.fault)
    c.self.view_is
    (fault_met old c.args.byte c.in-Err.fault c.step.new.self reads bytes before led)
