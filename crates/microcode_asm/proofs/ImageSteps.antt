-- The image from its parts.
use Rattle.std.proofs.Common.{◌≡◌, ℕ, ⊎_elim, refl, ◌∙◌, List, length, map}
use Rattle.std.specs.Prelude.{Result, Ok, Err, IfOk}
use Rattle.datapath.specs.declared.types.Datapath.{Datapath}
use Rattle.plan_core.specs.declared.plan.Plan.{Plan}
use Rattle.micro_image.specs.declared.image.UnitDesc.{UnitDesc}
use Rattle.micro_image.specs.declared.image.Word.{Word}
use Rattle.micro_image.specs.declared.image.Image.{Image}
use Rattle.micro_image.specs.Log.{Register, Cell}
use Rattle.plan_soundness.specs.Parts.{lines_of}
use Rattle.plan_soundness.specs.ImageOf.{IsImageOf, width_of}
use Rattle.plan_soundness.proofs.SomeImage.{some_image}
use Rattle.microcode_asm.specs.Private.Ready.{IsReady}
use Rattle.microcode_asm.specs.Private.Starts.{AreUnitsOf, AreStarted}
use Rattle.microcode_asm.specs.Private.Words.{AreWords}

-- what holds of a result by what is known of it
pub if_ok : {A E : Type 0} (P Q : A → Type 0) (r : Result A E) → IfOk r P → ((a : A) → P a → Q a) → IfOk r Q
if_ok P Q (Ok a) is to = to a is
if_ok P Q (Err e) is to = tt

module _ (d : Datapath) (p : Plan) (ready : IsReady d p) where
  pub image_is : (inputs : List ℕ) (buses : ℕ) (units : List UnitDesc) (words : List Word)
      → inputs ≡ map width_of p.inputs
      → AreUnitsOf d units
      → ((image : Image) → IsImageOf d p image → AreStarted d p image (length p.arcs) (length (lines_of p)) units)
      → buses ≡ length d.buses
      → AreWords d p p.unroll words
      → IsImageOf d p
      (record {
        period = d.period;
        unroll = p.unroll;
        inputs = inputs;
        outs = p.outs;
        units = units;
        buses = buses;
        words = words;
      })
  image_is inputs buses units words inputs-are are starts buses-are words-are =
      let target = some_image ready.graph d p ready.machine ready.plan in
      let image : Image = target.0 in
      let of : IsImageOf d p image = target.1 in
      let started : AreStarted d p image (length p.arcs) (length (lines_of p)) units = starts image of in
      record {
        period = refl;
        unroll = refl;
        inputs = inputs-are;
        outs = refl;
        buses = buses-are;
        unit_count = are.count;
        units = are.each;
        starts = record {
          register = λ port reg k i ago preload.
              started.register port reg k i ago preload.preload.there preload
              ∙ of.starts.register port reg k i ago preload;
          other_register = λ port reg none.
              ⊎_elim (λ same. same ∙ of.starts.other_register port reg none) (λ zero_there. zero_there)
              (started.only (Register port.unit port.port reg));
          cell = λ ram cell l ago preload.
              started.cell ram cell l ago preload.there preload ∙ of.starts.cell ram cell l ago preload;
          other_cell = λ ram cell none.
              ⊎_elim (λ same. same ∙ of.starts.other_cell ram cell none) (λ zero_there. zero_there)
              (started.only (Cell ram cell));
        };
        word_count = words-are.count;
        words = words-are.each;
      }
