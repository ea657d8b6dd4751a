-- At the end of input no line is begun, or a row's text, or a line that is no row.
use Rattle.std.proofs.Common.{rules, ℤ, FitsSigned, w64, ◌++◌, ◌∷◌, [], Ok, Err, Some, None, refl, ap, sym, ◌∙◌, subst}
use Rattle.std.proofs.Common.{set}
use Rattle.std.proofs.lemmas.Int.{to_z-of_z}
use Rattle.sample_io.specs.Pieces.{HasTaken}
use Rattle.sample_io.specs.Samples.{Lines, LacksLastEnd, StopsAfter}
use Rattle.sample_io.specs.Private.Places.{kept_of}
use Rattle.sample_io.specs.Private.Reading.{Ends}
use Rattle.sample_io.proofs.Fed.{led_of}
use Rattle.sample_io.proofs.Feeding.{row_ended}
use Rattle.sample_io.proofs.pieces.Rows.finish.Goals as goal

pub returns-in-Ok-None-clause-ends : goal.returns-in-Ok-None-clause-ends
returns-in-Ok-None-clause-ends c =
    let kept =
    kept_of c.self.inside.channels c.self.inside.shown c.self.inside.fault c.self.inside.reader
    c.self.inside.begun in
    let ends : Ends c.self.inside.channels c.self.inside.reader (Ok None) =
    subst (λ p. Ends c.self.inside.channels c.self.inside.reader (Ok p)) c.in-Ok-None.field-0-is
    (subst (λ l. Ends l c.self.inside.reader (Ok c.in-Ok-None.field-0)) c.deref.ensures c.in-Ok-None.ensures) in (
      refl,
      λ bytes before h.
          let led =
          led_of kept c.self.inside.taken c.self.invariant bytes before
          (subst (λ s. HasTaken s bytes before) (sym c.self.view_is) h) in
          subst (λ s. Lines bytes s.channels before) c.self.view_is (ends bytes before led.words led.so_far).0,
    )

pub returns-in-Ok-Some-clause-ends : goal.returns-in-Ok-Some-clause-ends
returns-in-Ok-Some-clause-ends c =
    let kept =
    kept_of c.self.inside.channels c.self.inside.shown c.self.inside.fault c.self.inside.reader
    c.self.inside.begun in
    let fits : FitsSigned w64 c.in-Ok-Some.word = search rules in
    let row = c.show_last.ensures
    ∙ ap (λ (w : ℤ). set c.self.inside.begun c.column-column.result w) (to_z-of_z w64 c.in-Ok-Some.word fits)
    ∙ ap (λ n. set c.self.inside.begun n c.in-Ok-Some.word) c.column-column.ensures in
    let ends : Ends c.self.inside.channels c.self.inside.reader (Ok (Some c.in-Ok-Some.word)) =
    subst (λ p. Ends c.self.inside.channels c.self.inside.reader (Ok p)) c.in-Ok-Some.field-0-is
    (subst (λ l. Ends l c.self.inside.reader (Ok c.in-Ok-Some.field-0)) c.deref.ensures c.in-Ok-Some.ensures) in (
      refl,
      λ bytes before h.
          let led =
          led_of kept c.self.inside.taken c.self.invariant bytes before
          (subst (λ s. HasTaken s bytes before) (sym c.self.view_is) h) in
          subst (λ s. LacksLastEnd bytes s.channels (before ++ c.show_last.new.shown ∷ [])) c.self.view_is
          (row_ended kept c.show_last.new.shown c.in-Ok-Some.word row c.self.invariant.filled ends bytes before led),
    )

pub returns-in-Err-clause-fault : goal.returns-in-Err-clause-fault
returns-in-Err-clause-fault c =
    let kept =
    kept_of c.self.inside.channels c.self.inside.shown c.self.inside.fault c.self.inside.reader
    c.self.inside.begun in
    let ends : Ends c.self.inside.channels c.self.inside.reader (Err c.in-Err.fault) =
    subst (λ l. Ends l c.self.inside.reader (Err c.in-Err.fault)) c.deref.ensures c.in-Err.ensures in
    λ bytes before h.
    let led =
    led_of kept c.self.inside.taken c.self.invariant bytes before
    (subst (λ s. HasTaken s bytes before) (sym c.self.view_is) h) in
    subst (λ s. StopsAfter s.channels bytes before c.in-Err.fault) c.self.view_is
    (ends bytes before led.words led.so_far)
