-- Printing piece after piece.
use Rattle.std.proofs.Common.{◌≡◌, ap, ◌∙◌, ℕ, ◌+◌, ◌≤◌, ◌++◌, length, take}
use Rattle.std.proofs.lemmas.List.{append_assoc}
use Rattle.desk_core.specs.View.{Content, View}
use Rattle.desk_core.specs.Desk.{FaultsNeverFall, IfSpecified, IsPrinted}
use Rattle.desk_core.proofs.DeskLemmas.{never_fall_trans, same_input_trans}
use Rattle.silc_files.specs.Printing.{IsPrintedMore, PrintsOnly}
use Rattle.silc_files.specs.Private.Printing.{IsPrintedSoFar}

prints_trans : (old mid new : View) → PrintsOnly old mid → PrintsOnly mid new → PrintsOnly old new
prints_trans old mid new h k = record {
  files = k.files ∙ h.files;
  input = same_input_trans old mid new h.input k.input;
  place = k.place ∙ h.place;
  output = k.output ∙ h.output;
  reads = k.reads ∙ h.reads;
  writes = k.writes ∙ h.writes;
}

-- a piece more is printed
module _ (bytes piece : Content) (done n : ℕ) (old mid new : View) (sofar : IsPrintedSoFar bytes done old mid)
    (step : IsPrinted n piece mid new) (grown : take done bytes ++ take n piece ≡ take (done + n) bytes) where
  more_bytes : IfSpecified (IsPrintedMore (take (done + n) bytes)) old.printed new.printed
  more_bytes after is =
      let (middle, its, ends) = step.printed after is in
      let (before, there, begins) = sofar.printed middle its in (
        before,
        there,
        ends ∙ ap (λ (xs : Content). xs ++ take n piece) begins ∙ append_assoc before (take done bytes) (take n piece)
            ∙ ap (λ (xs : Content). before ++ xs) grown,
      )

  pub printed_more : FaultsNeverFall mid new → done + n ≤ length bytes → IsPrintedSoFar bytes (done + n) old new
  printed_more later within = record {
    never_fall = never_fall_trans old mid new sofar.never_fall later;
    within = within;
    prints = prints_trans old mid new sofar.prints
        (record {
          files = step.files;
          input = step.input;
          place = step.place;
          output = step.output;
          reads = step.reads;
          writes = step.writes;
        });
    printed = more_bytes;
  }
