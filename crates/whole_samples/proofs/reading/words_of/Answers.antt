-- A row more, the end of the text, and the first bad place.
use Rattle.std.proofs.Common.{◌≡◌, [], ◌∷◌, ◌++◌, List, drop, ap, ◌∙◌, sym, subst, Result, Err, IfErr}
use Rattle.std.specs.Prelude.{IsErrAnd}
use Rattle.std.proofs.lemmas.Result.{err_from_is_err_and}
use Rattle.sample_io.specs.Pieces.{TakesPiece, EndsInput, MeetsFault}
use Rattle.sample_io.specs.Samples.{RowsOf}
use Rattle.sample_io.specs.declared.channel.Channel.{Channel}
use Rattle.sample_io.specs.declared.pieces.Step.TheVariants.{Row}
use Rattle.whole_samples.specs.Reading.{words_of, IsSamplesFault}
use Rattle.whole_samples.specs.declared.reading.SamplesFault.{SamplesFault}
use Rattle.whole_samples.specs.declared.reading.SamplesFault.TheVariants as samples
use Rattle.whole_samples.proofs.FedTexts.{rest_of, fed_more, fed_all, can_finish, with_last, without_last}
use Rattle.whole_samples.proofs.FedTexts.{bad_place, bad_end, words-push}
use Rattle.whole_samples.proofs.reading.words_of.Goals as goal
use Rattle.whole_samples.proofs.reading.words_of.Goals.{in-Row-2+in_ok-extend_from_slice-2, in_default-2}

refused : {A : Type 0} (r : Result A SamplesFault) (P : SamplesFault → Type 0) (told : SamplesFault)
    → IsErrAnd r (λ e. e ≡ told)
    → P told
    → IfErr r P
refused {A = A} r P told is h =
    let x = err_from_is_err_and r is in
    subst (λ (y : Result A SamplesFault). IfErr y P) (sym (x.1 ∙ ap (λ (e : SamplesFault). Err e) x.2)) h

pub returns-in_err-count-clause-err : goal.returns-in_err-count-clause-err
returns-in_err-count-clause-err c =
    let (list, fed, _) = c.rows.invariant in
    let text = c.args.text.now in
    refused c.from_residual.result (IsSamplesFault c.args.rows.now.channels text) (samples.Row c.in_err-count.field-0.0)
    c.from_residual.ensures.1
    (bad_place c.args.rows.now.channels text c.rows.at c.rows.rows list c.in_err-count.field-0.0 fed
    (subst (λ p. MeetsFault c.rows.rows p c.in_err-count.field-0.0) (rest_of text c.rows.at fed.within)
    c.in_err-count.ensures.fault))

pub rows-preserved : goal.rows-preserved
rows-preserved c =
    let (list, fed, words) = c.rows.invariant in
    let text = c.args.text.now in
    let found : TakesPiece c.rows.rows (drop c.rows.at text) c.feed.new.self (Row c.in-Row.count) =
    subst (TakesPiece c.rows.rows (drop c.rows.at text) c.feed.new.self) c.in-Row.is
    (subst (λ p. TakesPiece c.rows.rows p c.feed.new.self c.in_ok-count.field-0) (rest_of text c.rows.at fed.within)
    c.in_ok-count.ensures.takes) in (
      list ++ c.feed.new.self.row ∷ [],
      fed_more c.args.rows.now.channels text c.rows.at c.in-Row.count c.rows.rows c.feed.new.self list fed
          c.in_ok-count.ensures.channels found,
      c.in_ok-extend_from_slice.ensures.ok ∙ ap (λ ws. ws ++ c.row.result.now) words
          ∙ ap (λ row. words_of list ++ row) c.row.ensures.row ∙ words-push list c.feed.new.self.row,
    )

pub finish-requires : goal.finish-requires
finish-requires c =
    let (list, fed, _) = c.rows.invariant in
    let text = c.args.text.now in
    let found =
    subst (λ p. TakesPiece c.rows.rows p c.feed.new.self c.in_ok-count.field-0)
    (rest_of text c.rows.at fed.within) c.in_ok-count.ensures.takes in
    can_finish text c.feed.new.self list c.requires.few
    (fed_all c.args.rows.now.channels text c.rows.at c.rows.rows c.feed.new.self list c.in_ok-count.field-0
    fed found c.in_default.not-Row)

pub returns-in_err-finish-clause-err : goal.returns-in_err-finish-clause-err
returns-in_err-finish-clause-err c =
    let (list, fed, _) = c.rows.invariant in
    let text = c.args.text.now in
    let found =
    subst (λ p. TakesPiece c.rows.rows p c.feed.new.self c.in_ok-count.field-0)
    (rest_of text c.rows.at fed.within) c.in_ok-count.ensures.takes in
    let taken =
    fed_all c.args.rows.now.channels text c.rows.at c.rows.rows c.feed.new.self list c.in_ok-count.field-0 fed found
    c.in_default.not-Row in
    refused c.from_residual-in_err-finish.result (IsSamplesFault c.args.rows.now.channels text)
    (samples.Row c.in_err-finish.field-0.0) c.from_residual-in_err-finish.ensures.1
    (bad_end c.args.rows.now.channels text c.feed.new.self list c.in_err-finish.field-0.0
    (c.in_ok-count.ensures.channels ∙ fed.channels_are) taken c.in_err-finish.ensures.fault)

pub returns-clause-ok : goal.returns-clause-ok
returns-clause-ok c =
    let (list, fed, words) = c.rows.invariant in
    let text = c.args.text.now in
    let rows = c.feed.new.self in
    let found =
    subst (λ p. TakesPiece c.rows.rows p rows c.in_ok-count.field-0) (rest_of text c.rows.at fed.within)
    c.in_ok-count.ensures.takes in
    let taken =
    fed_all c.args.rows.now.channels text c.rows.at c.rows.rows rows list c.in_ok-count.field-0 fed found
    c.in_default.not-Row in
    let same = c.in_ok-count.ensures.channels ∙ fed.channels_are in
    let ends = c.in_ok-finish.ensures.ends in
    elim c.match-branch-5.branch [
      | in-Row-2+in_ok-extend_from_slice-2 w ↦ (
        list ++ c.finish.new.self.row ∷ [],
        subst (λ (channels : List Channel). RowsOf text channels (list ++ c.finish.new.self.row ∷ [])) same
            (with_last text rows c.finish.new.self list w.in-Row-2.field-0 taken
            (subst (EndsInput rows c.finish.new.self) w.in-Row-2.is ends)),
        w.words-is ∙ w.in_ok-extend_from_slice-2.ensures.ok ∙ ap (λ ws. ws ++ w.row-in-Row-2.result.now) words
            ∙ ap (λ row. words_of list ++ row) w.row-in-Row-2.ensures.row ∙ words-push list c.finish.new.self.row,
      )
      | in_default-2 w ↦ (
        list,
        subst (λ (channels : List Channel). RowsOf text channels list) same
            (without_last text rows c.finish.new.self list c.in_ok-finish.field-0 taken ends w.in_default-2.not-Row),
        w.words-is ∙ words,
      )
    ]
