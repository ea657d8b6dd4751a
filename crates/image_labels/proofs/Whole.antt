-- All checks together say that the image is labelled.
use Rattle.std.proofs.Common.{◌≡◌, ℕ, ◌*◌, ◌<◌, ◌∙◌, arith, [], length, subst, Result, Ok, Err, OnErr}
use Rattle.signal_graph.specs.declared.graph.Graph.{Graph}
use Rattle.operations.proofs.Ports.{few_ports}
use Rattle.micro_image.specs.declared.image.Image.{Image}
use Rattle.micro_image.specs.Fields.{microprogram_of, unit_of, no_unit}
use Rattle.micro_image.specs.Valid.{IsValid, IsUnit}
use Rattle.image_labels.specs.declared.label.Certificate.{Certificate}
use Rattle.image_labels.specs.Labels.{turn_of}
use Rattle.image_labels.specs.Rules.{AreCopies}
use Rattle.image_labels.specs.Labelled.{IsLabelled, IsRegisterStart, IsCellStart}
use Rattle.image_labels.specs.Private.Checked.{AreCyclesFit, AreRegistersStart, AreCellsStart, AreRowsPut}

-- what holds holds on an error
pub on_err : {A E P : Type 0} (r : Result A E) → P → OnErr r P
on_err (Ok x) p = tt
on_err (Err e) p = p

module _ (g : Graph) (image : Image) (certificate : Certificate) (valid : IsValid image) (turn : ℕ)
    (is : turn ≡ length image.words) where
  same : turn ≡ turn_of image
  same = is ∙ valid.word_count ∙ turned
    where
      turned : image.period * image.unroll ≡ image.unroll * image.period
      turned = grind arith

  unit_valid : (u : ℕ) → u < length image.units → IsUnit image.units (unit_of (microprogram_of image) u)
  unit_valid u below = valid.units u no_unit below

  pub labelled : image.outs ≡ g.outs
      → AreCopies g certificate.representatives (length g.nodes)
      → AreCyclesFit g image certificate turn
      → AreRegistersStart g image certificate turn 32
      → AreCellsStart g image certificate turn 32
      → AreRowsPut image image.unroll
      → IsLabelled g image certificate
  labelled outs copies cycles registers cells rows = record {
    outs = outs;
    copies = copies;
    cycles = λ c below. cycles c (omega (arith, below, same));
    registers = λ u p r in-u in-p in-r.
        let unit : IsUnit image.units (unit_of (microprogram_of image) u) = unit_valid u in-u in
        subst (λ t. IsRegisterStart g image certificate t u p r) same
        (registers u (omega (arith, in-u, valid.unit_count.1)) in-u p
        (omega (arith, in-p, unit.file_count, few_ports (unit_of (microprogram_of image) u).kind)) in-p r
        (omega (arith, in-r, (unit.files p [] in-p).size.1)) in-r);
    cells = λ u x in-u in-x.
        subst
        (λ t. IsCellStart g image certificate t (length (unit_of (microprogram_of image) u).cells) u x) same
        (cells u (omega (arith, in-u, valid.unit_count.1)) in-u x in-x);
    rows = λ m j in-m in-j. rows m in-m j in-j;
  }

  -- and its microwords fit where it is labelled
  pub cycles_fit : IsLabelled g image certificate → AreCyclesFit g image certificate turn
  cycles_fit is c below = is.cycles c (omega (arith, below, same))
