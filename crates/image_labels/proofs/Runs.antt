-- A labelled image runs the solution of the graph.
use Rattle.std.proofs.Common.{◌≡◌, ℕ, ◌+◌, ◌*◌, ◌/◌, ◌%◌, ◌<◌, ◌≤◌, ⊎_elim, sym, ap, ◌∙◌, arith, length, pos, subst}
use Rattle.std.proofs.Common.{map}
use Rattle.std.specs.List.{range_with_len}
use Rattle.std.proofs.Math.Nat.{mod-lt}
use Rattle.signal_graph.specs.GraphRules.{IsGraph, first_output}
use Rattle.signal_graph.specs.GraphSolves.{graph_out}
use Rattle.signal_graph.specs.declared.graph.Graph.{Graph}
use Rattle.micro_image.specs.declared.image.Image.{Image}
use Rattle.micro_image.specs.Fields.{microprogram_of}
use Rattle.micro_image.specs.Log.{Latch, Content}
use Rattle.micro_image.specs.Run.{IsRunOut}
use Rattle.micro_image.specs.Valid.{IsValid}
use Rattle.micro_image.proofs.Lists.{map-same, In-range}
use Rattle.plan_soundness.specs.Run.{RunsSolution}
use Rattle.plan_soundness.proofs.Samples.{split}
use Rattle.image_labels.specs.declared.label.Certificate.{Certificate}
use Rattle.image_labels.specs.Labelled.{IsLabelled}
use Rattle.image_labels.specs.Run.{Run, rows_of}
use Rattle.image_labels.proofs.Clear.{all_clear}
use Rattle.image_labels.proofs.Latches.{latch_right}

module _ {g : Graph} {image : Image} {certificate : Certificate} (run : Run g image certificate) where
  some_sample : 0 < image.unroll
  some_sample =
      ⊎_elim (λ one. omega (arith, one)) (λ more. ⊎_elim (λ two. omega (arith, two)) (λ four. omega (arith, four)) more)
      run.valid.unroll

  word_put : (n j : ℕ)
      → n < length run.stream
      → j < g.outs
      → run.words (first_output g + j) (pos n)
      ≡ Content (microprogram_of image) (rows_of run) (Latch j) ((n + 1) * image.period)
  word_put n j in-n in-j =
      let k : ℕ = n / image.unroll in
      let m : ℕ = n % image.unroll in
      let whole : n ≡ k * image.unroll + m = split n image.unroll in
      let in-run : k * image.unroll + m < length run.stream = subst (λ n. n < length run.stream) whole in-n in
      ap (λ n. run.words (first_output g + j) (pos n)) whole
      ∙ sym (latch_right run k m (mod-lt n some_sample) in-run j (omega (arith, in-j, run.fits.outs)))
      ∙ ap (λ n. Content (microprogram_of image) (rows_of run) (Latch j) ((n + 1) * image.period)) (sym whole)

  runs_out : IsRunOut (microprogram_of image) run.stream (graph_out g run.words (length run.stream))
  runs_out = record {
    clear = all_clear run;
    put = map-same _ _ (range_with_len 0 (length run.stream)) (λ n in-n.
        ap (λ outs. map (λ j. run.words (first_output g + j) (pos n)) (range_with_len 0 outs)) (sym run.fits.outs)
        ∙ map-same _ _ (range_with_len 0 image.outs) (λ j in-j.
        word_put n j (below n (length run.stream) (In-range 0 (length run.stream) n in-n))
        (out j (In-range 0 image.outs j in-j))));
  }
    where
      below : (n count : ℕ) → (0 ≤ n) × (n < 0 + count) → n < count
      below n count h = omega (arith, h.1)

      out : (j : ℕ) → (0 ≤ j) × (j < 0 + image.outs) → j < g.outs
      out j h = omega (arith, h.1, run.fits.outs)

-- a labelled image runs the solution
pub labelled_runs : (g : Graph) (image : Image) (certificate : Certificate)
    → IsGraph g
    → IsValid image
    → IsLabelled g image certificate
    → RunsSolution g image
labelled_runs g image certificate sound valid fits stream words solves =
    runs_out (record {
      sound = sound;
      valid = valid;
      fits = fits;
      stream = stream;
      words = words;
      solves = solves;
    })
