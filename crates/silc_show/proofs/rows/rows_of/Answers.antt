-- A row more, and the end of the file.
use Rattle.std.proofs.Common.{◌+◌, [], ◌∷◌, ◌++◌, List, drop, ap, ◌∙◌, sym, subst}
use Rattle.sample_io.specs.Pieces.{TakesPiece, EndsInput}
use Rattle.sample_io.specs.Samples.{RowsOf}
use Rattle.sample_io.specs.declared.channel.Channel.{Channel}
use Rattle.sample_io.specs.declared.pieces.Step.TheVariants.{Row}
use Rattle.whole_samples.proofs.FedTexts.{IsFedTo, rest_of, fed_more, fed_all, can_finish, with_last, without_last}
use Rattle.silc_show.proofs.rows.rows_of.Goals as goal
use Rattle.silc_show.proofs.rows.rows_of.Goals.{in-Row-2+in_ok-push_row-2, in_default-2}

pub rows-preserved : goal.rows-preserved
rows-preserved c =
    let fed = c.rows.invariant in
    let samples = c.args.samples.now in
    let found : TakesPiece c.rows.rows (drop c.rows.at samples) c.feed.new.self (Row c.in-Row.count) =
    subst (TakesPiece c.rows.rows (drop c.rows.at samples) c.feed.new.self) c.in-Row.is
    (subst (λ p. TakesPiece c.rows.rows p c.feed.new.self c.in_ok-count.field-0) (rest_of samples c.rows.at fed.within)
    c.in_ok-count.ensures.takes) in
    let list = c.in_ok-push_row.ensures ∙ ap (λ row. c.rows.list ++ row ∷ []) c.row.ensures.row in
    subst (IsFedTo c.args.rows.now.channels samples (c.rows.at + c.in-Row.count) c.feed.new.self) (sym list)
    (fed_more c.args.rows.now.channels samples c.rows.at c.in-Row.count c.rows.rows c.feed.new.self c.rows.list fed
    c.in_ok-count.ensures.channels found)

pub finish-requires : goal.finish-requires
finish-requires c =
    let fed = c.rows.invariant in
    let samples = c.args.samples.now in
    let found =
    subst (λ p. TakesPiece c.rows.rows p c.feed.new.self c.in_ok-count.field-0)
    (rest_of samples c.rows.at fed.within) c.in_ok-count.ensures.takes in
    can_finish samples c.feed.new.self c.rows.list c.requires.few
    (fed_all c.args.rows.now.channels samples c.rows.at c.rows.rows c.feed.new.self c.rows.list c.in_ok-count.field-0
    fed found c.in_default.not-Row)

pub returns : goal.returns
returns c =
    let fed = c.rows.invariant in
    let samples = c.args.samples.now in
    let rows = c.feed.new.self in
    let found =
    subst (λ p. TakesPiece c.rows.rows p rows c.in_ok-count.field-0) (rest_of samples c.rows.at fed.within)
    c.in_ok-count.ensures.takes in
    let taken =
    fed_all c.args.rows.now.channels samples c.rows.at c.rows.rows rows c.rows.list c.in_ok-count.field-0 fed found
    c.in_default.not-Row in
    let same = c.in_ok-count.ensures.channels ∙ fed.channels_are in
    let ends = c.in_ok-finish.ensures.ends in
    subst (λ (channels : List Channel). RowsOf samples channels c.match-branch-5.list) same
    (elim c.match-branch-5.branch [
      | in-Row-2+in_ok-push_row-2 w ↦
          let list =
          w.list-is ∙ w.in_ok-push_row-2.ensures ∙ ap (λ row. c.rows.list ++ row ∷ []) w.row-in-Row-2.ensures.row in
          subst (RowsOf samples rows.channels) (sym list)
          (with_last samples rows c.finish.new.self c.rows.list w.in-Row-2.field-0 taken
          (subst (EndsInput rows c.finish.new.self) w.in-Row-2.is ends))
      | in_default-2 w ↦
          subst (RowsOf samples rows.channels) (sym w.list-is)
          (without_last samples rows c.finish.new.self c.rows.list c.in_ok-finish.field-0 taken ends
          w.in_default-2.not-Row)
    ])
