-- A run of a labelled image over a stream, and what its places hold where the labels are right.
use Rattle.std.specs.Prelude.{◌≡◌, ℕ, ◌+◌, ◌*◌, ◌<◌, [], length, ℤ, pos, ◌-ℤ◌}
use Rattle.lists.specs.Rows.{Rows}
use Rattle.signal_graph.specs.Values.{Words}
use Rattle.signal_graph.specs.GraphRules.{IsGraph}
use Rattle.signal_graph.specs.GraphSolves.{GraphSolves}
use Rattle.signal_graph.specs.declared.graph.Graph.{Graph}
use Rattle.micro_image.specs.declared.image.Image.{Image}
use Rattle.micro_image.specs.Fields.{microprogram_of, unit_of, nth}
use Rattle.micro_image.specs.Log.{Register, Cell, Content}
use Rattle.micro_image.specs.Run.{spread}
use Rattle.micro_image.specs.Valid.{IsValid}
use Rattle.plan_soundness.specs.Samples.{past}
use Rattle.plan_soundness.specs.Private.Cells.{cell_in}
use Rattle.image_labels.specs.declared.label.Label.{Label}
use Rattle.image_labels.specs.declared.label.Label.TheVariants.{Unknown, Signal, Address, Constant}
use Rattle.image_labels.specs.declared.label.Certificate.{Certificate}
use Rattle.image_labels.specs.Labels.{turn_of, register_label, cell_label}
use Rattle.image_labels.specs.Labelled.{IsLabelled}

pub record Run (g : Graph) (image : Image) (certificate : Certificate) : Type 0 where
  pub sound : IsGraph g
  pub valid : IsValid image
  pub fits : IsLabelled g image certificate
  pub stream : Rows
  pub words : Words
  pub solves : GraphSolves g stream words

module _ {g : Graph} {image : Image} {certificate : Certificate} (run : Run g image certificate) where
  -- a row for each cycle
  abbrev pub rows_of : Rows
  rows_of = spread image.period run.stream

  -- the label says this of a value, in turn k of the run
  abbrev pub Says : (k : ℕ) → Label → ℤ → Type 0
  Says k Unknown value = Unit {0}
  Says k (Signal v sample) value = value ≡ run.words v (pos (k * image.unroll + sample) -ℤ pos past)
  Says k (Address cells x) value = value ≡ pos (cell_in cells 0 x (k * image.unroll))
  Says k (Constant word) value = value ≡ word

  -- at the start of cycle c of turn k the labels say what registers and cells hold
  pub record IsRight (k c : ℕ) : Type 0 where
    pub registers : (u p r : ℕ)
        → u < length image.units
        → p < length (unit_of (microprogram_of image) u).files
        → r < length (nth (unit_of (microprogram_of image) u).files p [])
        → Says k (register_label image certificate u p r c)
        (Content (microprogram_of image) rows_of (Register u p r) (k * turn_of image + c))
    pub cells : (u x : ℕ)
        → u < length image.units
        → x < length (unit_of (microprogram_of image) u).cells
        → Says k (cell_label image certificate u x c)
        (Content (microprogram_of image) rows_of
        (Cell u (cell_in (length (unit_of (microprogram_of image) u).cells) 0 x (k * image.unroll)))
        (k * turn_of image + c))
