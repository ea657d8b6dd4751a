-- The rows that a piece ends, one after another.
use Rattle.std.proofs.Common.{◌≡◌, ℕ, ◌+◌, ◌-◌, ◌≤◌, [], ◌∷◌, ◌++◌, length, take, drop, None, IsSome, refl}
use Rattle.std.proofs.Common.{ap, sym, ◌∙◌, subst, append_assoc, inl, inr, arith, length-drop}
use Rattle.std.proofs.Math.Seq.{take-add}
use Rattle.std.proofs.lemmas.List.{append-nil, length-append, length-take-le, take-append-drop, take_all}
use Rattle.std.proofs.lemmas.List.Elements.{All-contains, Contains-push}
use Rattle.lists.specs.Rows.{Rows}
use Rattle.desk_core.specs.View.{Content}
use Rattle.sample_io.specs.declared.RowFault.{RowFault}
use Rattle.sample_io.specs.declared.pieces.Step.{Step}
use Rattle.sample_io.specs.declared.pieces.Step.TheVariants.{Need, Row}
use Rattle.sample_io.specs.Channels.{IsRow}
use Rattle.sample_io.specs.FedRows.{FedRows}
use Rattle.sample_io.specs.Pieces.{HasTaken, CanTake, TakesPiece, MeetsFault, EndsInput}
use Rattle.sample_io.specs.Samples.{Lines, StopsAfter}
use Rattle.sample_io.proofs.Streams.{RowsOf-stream}
use Rattle.sample_loops.specs.Private.Running.{TakesRows, MeetsAfter, EndsLines, EndsRows}

-- nothing was taken
pub takes_none : (rows : FedRows) (piece : Content) → TakesRows rows (take 0 piece) [] rows
takes_none rows piece = record {
  channels = refl;
  taken = λ front before h.
      subst (λ b. HasTaken rows b (before ++ [])) (sym (append-nil front))
      (subst (HasTaken rows front) (sym (append-nil before)) h);
}

-- the piece and its rest have room where the whole had
pub room_for_rest : (old new : FedRows) (piece : Content) (at : ℕ) (rows : Rows)
    → CanTake old (length piece)
    → old.fault ≡ None
    → at ≤ length piece
    → TakesRows old (take at piece) rows new
    → CanTake new (length (drop at piece))
room_for_rest old new piece at rows (inl kept) running within takes =
    let none : IsSome {T = RowFault} None = subst IsSome running kept in absurd (cc)
room_for_rest old new piece at rows (inr (front, before, h, few)) running within takes =
    let size = length-append front (take at piece) in
    inr (
      front ++ take at piece,
      before ++ rows,
      takes.taken front before h,
      omega (arith, size, length-take-le at piece within, length-drop at piece, few),
    )

-- a row more
pub takes_more : (old mid new : FedRows) (piece : Content) (at count : ℕ) (rows : Rows)
    → TakesRows old (take at piece) rows mid
    → new.channels ≡ mid.channels
    → TakesPiece mid (drop at piece) new (Row count)
    → TakesRows old (take (at + count) piece) (rows ++ new.row ∷ []) new
takes_more old mid new piece at count rows before channels now = record {
  channels = channels ∙ before.channels;
  taken = λ front some h.
      let found = (now.2 (front ++ take at piece) (some ++ rows) (before.taken front some h)).1 in
      subst (λ b. HasTaken new b (some ++ (rows ++ new.row ∷ [])))
      (append_assoc front (take at piece) (take count (drop at piece))
      ∙ ap (λ l. front ++ l) (sym (take-add at count piece)))
      (subst (HasTaken new ((front ++ take at piece) ++ take count (drop at piece)))
      (append_assoc some rows (new.row ∷ [])) found);
}

-- and no row more
pub takes_rest : (old mid new : FedRows) (piece : Content) (at : ℕ) (rows : Rows)
    → TakesRows old (take at piece) rows mid
    → new.channels ≡ mid.channels
    → TakesPiece mid (drop at piece) new Need
    → TakesRows old piece rows new
takes_rest old mid new piece at rows before channels now = record {
  channels = channels ∙ before.channels;
  taken = λ front some h.
      subst (λ b. HasTaken new b (some ++ rows))
      (append_assoc front (take at piece) (drop at piece) ∙ ap (λ l. front ++ l) (take-append-drop at piece))
      (now.1 (front ++ take at piece) (some ++ rows) (before.taken front some h));
}

-- the row that is shown is a row of the channels
pub row_shown : (old mid new : FedRows) (piece : Content) (at count : ℕ) (rows : Rows)
    → CanTake old (length piece)
    → old.fault ≡ None
    → TakesRows old (take at piece) rows mid
    → TakesPiece mid (drop at piece) new (Row count)
    → IsRow old.channels new.row
row_shown old mid new piece at count rows (inl kept) running takes now =
    let none : IsSome {T = RowFault} None = subst IsSome running kept in absurd (cc)
row_shown old mid new piece at count rows (inr (front, before, h, few)) running takes now =
    let lines = (now.2 (front ++ take at piece) (before ++ rows) (takes.taken front before h)).0 in
    let stream = RowsOf-stream _ mid.channels ((before ++ rows) ++ new.row ∷ []) (inl lines) in
    subst (λ c. IsRow c new.row) takes.channels
    (All-contains (IsRow mid.channels) ((before ++ rows) ++ new.row ∷ []) new.row stream
    (Contains-push (before ++ rows) new.row))

-- all that is left of the piece
pub rest_of : (piece : Content) (at : ℕ) → at ≤ length piece → take (length piece - at) (drop at piece) ≡ drop at piece
rest_of piece at within = take_all (length piece - at) (drop at piece) (omega (arith, length-drop at piece))

pub takes_end : (old mid new : FedRows) (piece : Content) (at : ℕ) (rows : Rows) (step : Step)
    → TakesRows old (take at piece) rows mid
    → new.channels ≡ mid.channels
    → TakesPiece mid (drop at piece) new step
    → ((count : ℕ) → step ≡ Row count → ⊥)
    → TakesRows old piece rows new
takes_end old mid new piece at rows Need before channels now no_row =
    takes_rest old mid new piece at rows before channels now
takes_end old mid new piece at rows (Row count) before channels now no_row = absurd (no_row count refl)

-- a bad place behind rows of the piece
pub fault_after : (old mid : FedRows) (piece : Content) (at : ℕ) (rows : Rows) (fault : RowFault)
    → TakesRows old (take at piece) rows mid
    → MeetsFault mid (drop at piece) fault
    → MeetsAfter old piece rows fault
fault_after old mid piece at rows fault takes meets front before h more =
    let all = append_assoc front (take at piece) (drop at piece) ∙ ap (λ l. front ++ l) (take-append-drop at piece) in
    subst (λ c. StopsAfter c ((front ++ piece) ++ more) (before ++ rows) fault) takes.channels
    (subst (λ b. StopsAfter mid.channels (b ++ more) (before ++ rows) fault) all
    (meets (front ++ take at piece) (before ++ rows) (takes.taken front before h) more))

-- the lines of the rows up to the one that is shown
pub lines_ended : (old mid new : FedRows) (piece : Content) (at count : ℕ) (rows : Rows)
    → at ≤ length piece
    → TakesRows old (take at piece) rows mid
    → TakesPiece mid (drop at piece) new (Row count)
    → EndsLines old piece (rows ++ new.row ∷ [])
lines_ended old mid new piece at count rows within takes now = (
  at + count,
  omega (arith, now.0),
  omega (arith, within, now.1, length-drop at piece),
  λ front before h.
      let lines = (now.2 (front ++ take at piece) (before ++ rows) (takes.taken front before h)).0 in
      let bytes =
      append_assoc front (take at piece) (take count (drop at piece))
      ∙ ap (λ l. front ++ l) (sym (take-add at count piece)) in
      subst (λ c. Lines (front ++ take (at + count) piece) c (before ++ (rows ++ new.row ∷ []))) takes.channels
      (subst (λ b. Lines b mid.channels (before ++ (rows ++ new.row ∷ []))) bytes
      (subst (Lines ((front ++ take at piece) ++ take count (drop at piece)) mid.channels)
      (append_assoc before rows (new.row ∷ [])) lines)),
)

-- the row that lacks its end of line
pub last_shown : (old new : FedRows) (count : ℕ)
    → CanTake old 0
    → old.fault ≡ None
    → EndsInput old new (Row count)
    → IsRow old.channels new.row
last_shown old new count (inl kept) running ends =
    let none : IsSome {T = RowFault} None = subst IsSome running kept in absurd (cc)
last_shown old new count (inr (front, before, h, few)) running ends =
    All-contains (IsRow old.channels) (before ++ new.row ∷ []) new.row
    (RowsOf-stream front old.channels (before ++ new.row ∷ []) (inr (ends.1 front before h)))
    (Contains-push before new.row)

pub last_ends : (old new : FedRows) (count : ℕ) → EndsInput old new (Row count) → EndsRows old (new.row ∷ [])
last_ends old new count ends front before h = inr (ends.1 front before h)

pub none_ends : (old new : FedRows) (step : Step)
    → EndsInput old new step
    → ((count : ℕ) → step ≡ Row count → ⊥)
    → EndsRows old []
none_ends old new Need ends no_row front before h =
    inl (subst (Lines front old.channels) (sym (append-nil before)) (ends.1 front before h))
none_ends old new (Row count) ends no_row front before h = absurd (no_row count refl)
