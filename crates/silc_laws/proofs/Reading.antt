-- What a run has read shows to what end it comes over all bytes.
use Rattle.std.proofs.Common.{◌≡◌, ◌∙◌, sym, ap, subst, arith, inl, inr, ◌⊎◌, ℕ, ◌<◌, ◌≤◌, List, ◌++◌, length, take}
use Rattle.std.proofs.Common.{drop, append_assoc}
use Rattle.std.proofs.lemmas.List.{length-take, take-append-drop, take-take, take_all}
use Rattle.lists.specs.Rows.{Rows}
use Rattle.desk_core.specs.View.{Content}
use Rattle.sample_io.specs.declared.RowFault.{RowFault}
use Rattle.sample_io.specs.declared.channel.Channel.{Channel}
use Rattle.sample_io.specs.Pieces.{AreLinesSoFar}
use Rattle.sample_io.specs.Samples.{RowsOf, Lines, StopsAfter}
use Rattle.silc_laws.specs.Samples.{HasFirstRows, HasFirstBadPlace, AreTooMany}

-- these bytes were read, of the front of all
module _ (end : ℕ) (channels : List Channel) (all bytes : Content) (prefix : bytes ≡ take (length bytes) all)
    (within : length bytes ≤ end) where
  abbrev beyond : Content
  beyond = drop (length bytes) (take end all)

  first_bytes : take end all ≡ bytes ++ beyond
  first_bytes =
      sym (take-append-drop (length bytes) (take end all))
      ∙ ap (λ b. b ++ beyond) (take-take (length bytes) end all within ∙ sym prefix)

  few : bytes ≡ all → length bytes < end → length all < end
  few is less = subst (λ b. length b < end) is less

  whole : bytes ≡ all → length bytes < end → bytes ≡ take end all
  whole is less = let less' = few is less in is ∙ sym (take_all end all (omega (arith, less')))

  pub bad_place_read : (rows : Rows) (fault : RowFault)
      → ((more : Content) → StopsAfter channels (bytes ++ more) rows fault)
      ⊎ ((bytes ≡ all) × (length bytes < end) × StopsAfter channels bytes rows fault)
      → HasFirstBadPlace end channels all rows fault
  bad_place_read rows fault (inl stops) =
      inl (λ more.
      subst (λ b. StopsAfter channels b rows fault)
      (sym (append_assoc bytes beyond more) ∙ ap (λ b. b ++ more) (sym first_bytes)) (stops (beyond ++ more)))
  bad_place_read rows fault (inr (is, less, stops)) =
      inr (few is less, subst (λ b. StopsAfter channels b rows fault) (whole is less) stops)

  pub lines_read : (rows : Rows) (front rest : Content)
      → bytes ≡ front ++ rest
      → Lines front channels rows
      → HasFirstRows end channels all rows
  lines_read rows front rest is lines = inl (
    front,
    rest ++ beyond,
    first_bytes ∙ ap (λ b. b ++ beyond) is ∙ append_assoc front rest beyond,
    lines,
  )

  pub all_rows_read : (rows : Rows)
      → bytes ≡ all
      → length bytes < end
      → RowsOf bytes channels rows
      → HasFirstRows end channels all rows
  all_rows_read rows is less of = inr (few is less, subst (λ b. RowsOf b channels rows) (whole is less) of)

  pub many_read : (rows : Rows)
      → length bytes ≡ end
      → AreLinesSoFar channels bytes rows
      → AreTooMany end channels all rows
  many_read rows place lines = record {
    many = omega (arith, ap length prefix, length-take (length bytes) all, place);
    lines = subst (λ b. AreLinesSoFar channels b rows) (prefix ∙ ap (λ n. take n all) place) lines;
  }
