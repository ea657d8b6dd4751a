-- A text that is fed to rows, from one end of a row to the next.
use Rattle.std.proofs.Common.{◌≡◌, ℕ, ◌+◌, ◌-◌, ◌<◌, ◌≤◌, ◌^◌, List, [], ◌∷◌, ◌++◌, length, take, drop, refl, sym, ◌∙◌}
use Rattle.std.proofs.Common.{subst, inl, inr, arith, length-drop, append-nil, ℤ}
use Rattle.std.proofs.Math.Seq.{take-add}
use Rattle.std.proofs.lemmas.List.{length-take-le, take-append-drop, take_all, flat_map_more}
use Rattle.lists.specs.Rows.{Rows as Stream}
use Rattle.sample_io.specs.declared.channel.Channel.{Channel}
use Rattle.sample_io.specs.FedRows.{FedRows}
use Rattle.sample_io.specs.Pieces.{HasTaken, CanTake, TakesPiece, EndsInput, MeetsFault, EndsInFault}
use Rattle.sample_io.specs.Samples.{RowsOf, StopsAfter, IsFirstBadPlace}
use Rattle.sample_io.specs.declared.RowFault.{RowFault}
use Rattle.sample_io.specs.declared.pieces.Step.{Step}
use Rattle.sample_io.specs.declared.pieces.Step.TheVariants.{Need, Row}
use Rattle.whole_samples.specs.Reading.{words_of}

-- the rows took the bytes up to this one, which are the lines of the rows in the list and a line begun
pub record IsFedTo (channels : List Channel) (samples : List ℕ) (at : ℕ) (rows : FedRows) (list : Stream) : Type 0 where
  pub within : at ≤ length samples
  pub channels_are : rows.channels ≡ channels
  pub taken : HasTaken rows (take at samples) list

pub fed_none : (rows : FedRows) (samples : List ℕ) → HasTaken rows [] [] → IsFedTo rows.channels samples 0 rows []
fed_none rows samples fresh = record { within = omega arith; channels_are = refl; taken = fresh }

-- all that is left
pub rest_of : (samples : List ℕ) (at : ℕ)
    → at ≤ length samples
    → take (length samples - at) (drop at samples) ≡ drop at samples
rest_of samples at within = take_all (length samples - at) (drop at samples) (omega (arith, length-drop at samples))

pub can_feed : (channels : List Channel) (samples : List ℕ) (at : ℕ) (rows : FedRows) (list : Stream)
    → length samples < 2 ^ 60
    → IsFedTo channels samples at rows list
    → CanTake rows (length (drop at samples))
can_feed channels samples at rows list few fed =
    inr
    (take at samples, list, fed.taken, omega (arith, length-take-le at samples fed.within, length-drop at samples, few))

-- a row more
pub fed_more : (channels : List Channel) (samples : List ℕ) (at count : ℕ) (rows new : FedRows) (list : Stream)
    → IsFedTo channels samples at rows list
    → new.channels ≡ rows.channels
    → TakesPiece rows (drop at samples) new (Row count)
    → IsFedTo channels samples (at + count) new (list ++ new.row ∷ [])
fed_more channels samples at count rows new list fed same now = record {
  within = omega (arith, now.1, length-drop at samples, fed.within);
  channels_are = same ∙ fed.channels_are;
  taken = subst (λ b. HasTaken new b (list ++ new.row ∷ [])) (sym (take-add at count samples))
      (now.2 (take at samples) list fed.taken).1;
}

-- and all of the bytes
pub fed_all : (channels : List Channel) (samples : List ℕ) (at : ℕ) (rows new : FedRows) (list : Stream) (step : Step)
    → IsFedTo channels samples at rows list
    → TakesPiece rows (drop at samples) new step
    → ((count : ℕ) → step ≡ Row count → ⊥)
    → HasTaken new samples list
fed_all channels samples at rows new list Need fed now no_row =
    subst (λ b. HasTaken new b list) (take-append-drop at samples) (now.1 (take at samples) list fed.taken)
fed_all channels samples at rows new list (Row count) fed now no_row = absurd (no_row count refl)

pub can_finish : (samples : List ℕ) (rows : FedRows) (list : Stream)
    → length samples < 2 ^ 60
    → HasTaken rows samples list
    → CanTake rows 0
can_finish samples rows list few taken = inr (samples, list, taken, omega (arith, few))

-- the last row, which lacks its end of line
pub with_last : (samples : List ℕ) (rows new : FedRows) (list : Stream) (count : ℕ)
    → HasTaken rows samples list
    → EndsInput rows new (Row count)
    → RowsOf samples rows.channels (list ++ new.row ∷ [])
with_last samples rows new list count taken ends = inr (ends.1 samples list taken)

pub without_last : (samples : List ℕ) (rows new : FedRows) (list : Stream) (step : Step)
    → HasTaken rows samples list
    → EndsInput rows new step
    → ((count : ℕ) → step ≡ Row count → ⊥)
    → RowsOf samples rows.channels list
without_last samples rows new list Need taken ends no_row = inl (ends.1 samples list taken)
without_last samples rows new list (Row count) taken ends no_row = absurd (no_row count refl)

module _ (channels : List Channel) (samples : List ℕ) where
  of_these : (rows : FedRows) (before : Stream) (place : RowFault) (bytes : List ℕ)
      → rows.channels ≡ channels
      → bytes ≡ samples
      → StopsAfter rows.channels bytes before place
      → IsFirstBadPlace samples channels place
  of_these rows before place bytes same all stops =
      subst (λ b. IsFirstBadPlace b channels place) all
      (subst (λ (cs : List Channel). IsFirstBadPlace bytes cs place) same stops.0)

  -- the first bad place is among the bytes, or the end of the bytes is one
  pub bad_place : (at : ℕ) (rows : FedRows) (list : Stream) (place : RowFault)
      → IsFedTo channels samples at rows list
      → MeetsFault rows (drop at samples) place
      → IsFirstBadPlace samples channels place
  bad_place at rows list place fed meets =
      of_these rows list place (take at samples ++ drop at samples ++ []) fed.channels_are
      (append-nil (take at samples ++ drop at samples) ∙ take-append-drop at samples)
      (meets (take at samples) list fed.taken [])

  pub bad_end : (rows : FedRows) (list : Stream) (place : RowFault)
      → rows.channels ≡ channels
      → HasTaken rows samples list
      → EndsInFault rows place
      → IsFirstBadPlace samples channels place
  bad_end rows list place same taken ends = of_these rows list place samples same refl (ends samples list taken)

-- a row more is its words more
pub words-push : (list : Stream) (row : List ℤ) → words_of list ++ row ≡ words_of (list ++ row ∷ [])
words-push list row = flat_map_more (λ r. r) [] list row
