-- What is shown of an image beside a graph.
use Rattle.std.specs.Prelude.{◌≡◌, map}
use Rattle.micro_image.specs.declared.image.Image.{Image}
use Rattle.plan_soundness.specs.ImageOf.{width_of}
use Rattle.plan_soundness.specs.Run.{RunsSolution}
use Rattle.signal_graph.specs.declared.graph.Graph.{Graph}
use Rattle.same_source.specs.declared.refusal.Refusal.{Refusal}
use Rattle.same_source.specs.declared.refusal.Refusal.TheVariants.{OtherWords, NotShown, Memory}

-- the image takes the graph's input words in their widths, and puts as many words as the graph
pub record HasWordsOf (g : Graph) (image : Image) : Type 0 where
  pub inputs : image.inputs ≡ map width_of g.inputs
  pub outs : image.outs ≡ g.outs

-- the same, and it runs the graph's solution
pub record RunsGraph (g : Graph) (image : Image) : Type 0 where
  pub inputs : image.inputs ≡ map width_of g.inputs
  pub outs : image.outs ≡ g.outs
  pub runs : RunsSolution g image

-- what a refusal says of an image beside a graph
abbrev pub IsGraphRefusal : Graph → Image → Refusal → Type 0
IsGraphRefusal g image OtherWords = HasWordsOf g image → ⊥
IsGraphRefusal g image (NotShown mismatch) = Unit {0}
IsGraphRefusal g image Memory = Unit {0}
IsGraphRefusal g image _ = ⊥
