-- A run over the bytes of samples comes to one end.
use Rattle.std.proofs.Common.{◌≡◌, ◌∙◌, refl, sym, ap, subst, arith, inl, inr, ⊎_elim, ◌⊎◌, ℕ, ◌<◌, List, [], ◌++◌}
use Rattle.std.proofs.Common.{length, take, Option, Some, None}
use Rattle.std.proofs.lemmas.List.{append-nil, take_all}
use Rattle.lists.specs.Rows.{Rows}
use Rattle.desk_core.specs.View.{Content}
use Rattle.micro_image.specs.declared.conflict.Conflict.{Conflict as ConflictValue}
use Rattle.sample_commands.specs.StreamEnds.{status_of}
use Rattle.sample_io.specs.declared.RowFault.{RowFault}
use Rattle.sample_io.specs.declared.channel.Channel.{Channel}
use Rattle.sample_io.specs.Channels.{AreChannels}
use Rattle.sample_io.specs.Samples.{RowsOf, StopsAfter}
use Rattle.sample_io.proofs.Streams.{RowsOf_once, RowsOf_first, RowsOf-no_bad_place, bad_place_once, bad_place_first}
use Rattle.sample_io.proofs.Streams.{first_lines, lines_compare}
use Rattle.sample_io.proofs.Taken.{so_far_sound}
use Rattle.sample_loops.specs.declared.stream.StreamFault.{StreamFault}
use Rattle.sample_loops.specs.declared.stream.StreamFault.TheVariants.{Desk, Row, TooLong, Conflict}
use Rattle.silc_laws.specs.Samples.{RunsThrough, HasFirstRows, HasFirstBadPlace, AreTooMany, StopsRun}
use Rattle.statuses.specs.declared.status.Status.{Status}
use Rattle.statuses.specs.declared.status.Status.TheVariants.{Done}

-- it comes to the end of its stream, or stops so
abbrev pub IsEnd : (end : ℕ)
    → List Channel
    → (clear : Rows → Type 0)
    → (meets : Rows → ConflictValue → Type 0)
    → Content
    → Option StreamFault
    → Type 0
IsEnd end channels clear meets bytes None = RunsThrough end channels clear bytes
IsEnd end channels clear meets bytes (Some fault) = StopsRun end channels clear meets bytes fault

-- the status of an end
abbrev pub status_at : Option StreamFault → Status
status_at None = Done
status_at (Some fault) = status_of fault

module _ (end : ℕ) (channels : List Channel) (are : AreChannels channels) (bytes : Content) where
  whole : length bytes < end → take end bytes ≡ bytes
  whole few = take_all end bytes (omega (arith, few))

  -- the first bad place is that of the first bytes
  stop_of : (rows : Rows) (fault : RowFault)
      → HasFirstBadPlace end channels bytes rows fault
      → StopsAfter channels (take end bytes) rows fault
  stop_of rows fault (inl stops) =
      subst (λ b. StopsAfter channels b rows fault) (append-nil (take end bytes)) (stops [])
  stop_of rows fault (inr last) = last.1

  pub one_bad_place : (rows others : Rows) (fault other : RowFault)
      → HasFirstBadPlace end channels bytes rows fault
      → HasFirstBadPlace end channels bytes others other
      → fault ≡ other
  one_bad_place rows others fault other bad its =
      bad_place_once (take end bytes) channels fault other are (stop_of rows fault bad).0 (stop_of others other its).0

  pub stream_not_bad : (rows others : Rows) (fault : RowFault)
      → length bytes < end
      → RowsOf bytes channels rows
      → HasFirstBadPlace end channels bytes others fault
      → ⊥
  stream_not_bad rows others fault few of bad =
      RowsOf-no_bad_place (take end bytes) channels rows fault are
      (subst (λ b. RowsOf b channels rows) (sym (whole few)) of) (stop_of others fault bad).0

  pub many_not_bad : (rows others : Rows) (fault : RowFault)
      → AreTooMany end channels bytes rows
      → HasFirstBadPlace end channels bytes others fault
      → ⊥
  many_not_bad rows others fault many (inl stops) =
      so_far_sound channels are (take end bytes) rows many.lines (take end bytes) [] others fault
      (sym (append-nil (take end bytes))) stops
  many_not_bad rows others fault many (inr last) = let least = many.many in omega (arith, least, last.0)

  -- rows at the front of the bytes are the first of the stream, of the rows before the first bad place, and of those
  -- before there are too many bytes
  pub first_of_stream : (some rows : Rows)
      → HasFirstRows end channels bytes some
      → length bytes < end
      → RowsOf bytes channels rows
      → (more : Rows) × (rows ≡ some ++ more)
  first_of_stream some rows (inl (front, rest, is, lines)) few of =
      RowsOf_first channels are front rest some rows lines
      (subst (λ b. RowsOf b channels rows) (sym (whole few) ∙ is) of)
  first_of_stream some rows (inr all) few of = (
    [],
    RowsOf_once bytes channels rows some are of (subst (λ b. RowsOf b channels some) (whole few) all.1)
        ∙ sym (append-nil some),
  )

  pub first_before_bad : (some rows : Rows) (fault : RowFault)
      → HasFirstRows end channels bytes some
      → HasFirstBadPlace end channels bytes rows fault
      → (more : Rows) × (rows ≡ some ++ more)
  first_before_bad some rows fault (inl (front, rest, is, lines)) bad =
      let stops = subst (λ b. StopsAfter channels b rows fault) is (stop_of rows fault bad) in
      let (more, before) = bad_place_first channels are front rest some fault lines stops.0 in
      (more, sym stops.1 ∙ before)
  first_before_bad some rows fault (inr all) bad =
      absurd (stream_not_bad some rows fault all.0 (subst (λ b. RowsOf b channels some) (whole all.0) all.1) bad)

  pub first_before_many : (some rows : Rows)
      → HasFirstRows end channels bytes some
      → AreTooMany end channels bytes rows
      → (more : Rows) × (rows ≡ some ++ more)
  first_before_many some rows (inl (front, rest, is, lines)) many =
      let so = many.lines in
      first_lines channels are front rest so.front so.line some rows (sym is ∙ so.bytes_are) lines so.before so.unended
  first_before_many some rows (inr all) many = let least = many.many in absurd (omega (arith, least, all.0))

  pub one_first : (some others : Rows)
      → HasFirstRows end channels bytes some
      → HasFirstRows end channels bytes others
      → ((more : Rows) × (others ≡ some ++ more)) ⊎ ((more : Rows) × (some ≡ others ++ more))
  one_first some others (inl (front, rest, is, lines)) (inl (front', rest', is', lines')) =
      lines_compare channels are front rest front' rest' some others (sym is ∙ is') lines lines'
  one_first some others h (inr all) =
      inl (first_of_stream some others h all.0 (subst (λ b. RowsOf b channels others) (whole all.0) all.1))
  one_first some others (inr all) h =
      inr (first_of_stream others some h all.0 (subst (λ b. RowsOf b channels some) (whole all.0) all.1))

  -- rows with a conflict are no first rows of rows without one, and have one first conflict
  module _ (clear : Rows → Type 0) (meets : Rows → ConflictValue → Type 0)
      (apart : (some more : Rows) (conflict : ConflictValue) → clear (some ++ more) → meets some conflict → ⊥)
      (once : (some more : Rows) (conflict other : ConflictValue)
      → meets some conflict → meets (some ++ more) other → conflict ≡ other) where
    not_met : (some rows : Rows) (conflict : ConflictValue)
        → clear rows
        → meets some conflict
        → (more : Rows) × (rows ≡ some ++ more)
        → ⊥
    not_met some rows conflict runs met (more, is) = apart some more conflict (subst clear is runs) met

    one_conflict : (some others : Rows) (conflict other : ConflictValue)
        → meets some conflict
        → meets others other
        → ((more : Rows) × (others ≡ some ++ more)) ⊎ ((more : Rows) × (some ≡ others ++ more))
        → conflict ≡ other
    one_conflict some others conflict other met its =
        ⊎_elim (λ h. once some h.0 conflict other met (subst (λ rows. meets rows other) h.1 its))
        (λ h. sym (once others h.0 other conflict its (subst (λ rows. meets rows conflict) h.1 met)))

    abbrev Ends : Option StreamFault → Type 0
    Ends = IsEnd end channels clear meets bytes

    not_many : RunsThrough end channels clear bytes → (rows : Rows) → AreTooMany end channels bytes rows → ⊥
    not_many a rows many = let few = a.within in let least = many.many in omega (arith, few, least)

    pub one_end : (one other : Option StreamFault) → Ends one → Ends other → one ≡ other
    one_end None None a b = refl
    one_end None (Some (Row fault)) a (rows, bad, runs) =
        absurd (stream_not_bad a.stream rows fault a.within a.rows_of bad)
    one_end None (Some TooLong) a (rows, many, runs) = absurd (not_many a rows many)
    one_end None (Some (Conflict conflict)) a (some, are_first, met) =
        absurd (not_met some a.stream conflict a.runs met (first_of_stream some a.stream are_first a.within a.rows_of))
    one_end (Some (Row fault)) None (rows, bad, runs) b =
        absurd (stream_not_bad b.stream rows fault b.within b.rows_of bad)
    one_end (Some (Row fault)) (Some (Row other)) (rows, bad, runs) (others, its, run) =
        ap (λ f. Some (Row f)) (one_bad_place rows others fault other bad its)
    one_end (Some (Row fault)) (Some TooLong) (rows, bad, runs) (others, many, run) =
        absurd (many_not_bad others rows fault many bad)
    one_end (Some (Row fault)) (Some (Conflict conflict)) (rows, bad, runs) (some, are_first, met) =
        absurd (not_met some rows conflict runs met (first_before_bad some rows fault are_first bad))
    one_end (Some TooLong) None (rows, many, runs) b = absurd (not_many b rows many)
    one_end (Some TooLong) (Some (Row fault)) (rows, many, runs) (others, bad, run) =
        absurd (many_not_bad rows others fault many bad)
    one_end (Some TooLong) (Some TooLong) a b = refl
    one_end (Some TooLong) (Some (Conflict conflict)) (rows, many, runs) (some, are_first, met) =
        absurd (not_met some rows conflict runs met (first_before_many some rows are_first many))
    one_end (Some (Conflict conflict)) None (some, are_first, met) b =
        absurd (not_met some b.stream conflict b.runs met (first_of_stream some b.stream are_first b.within b.rows_of))
    one_end (Some (Conflict conflict)) (Some (Row fault)) (some, are_first, met) (rows, bad, runs) =
        absurd (not_met some rows conflict runs met (first_before_bad some rows fault are_first bad))
    one_end (Some (Conflict conflict)) (Some TooLong) (some, are_first, met) (rows, many, runs) =
        absurd (not_met some rows conflict runs met (first_before_many some rows are_first many))
    one_end (Some (Conflict conflict)) (Some (Conflict other)) (some, are_first, met) (others, its, meet) =
        ap (λ c. Some (Conflict c))
        (one_conflict some others conflict other met meet (one_first some others are_first its))
    one_end (Some Desk) other a b = absurd a
    one_end one (Some Desk) a b = absurd b
