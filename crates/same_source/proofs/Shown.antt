-- An image that runs the graph of a program runs the source that has that program.
use Rattle.std.proofs.Common.{◌≡◌, ◌∙◌, ap, sym, length, map, List, ℕ}
use Rattle.loop_expand.specs.GraphFor.{IsGraphFor}
use Rattle.micro_image.specs.declared.image.Image.{Image}
use Rattle.plan_commands.proofs.Compiled.{runs_the_solution}
use Rattle.plan_soundness.specs.ImageOf.{width_of}
use Rattle.signal_graph.specs.declared.graph.Graph.{Graph}
use Rattle.silage_syntax.specs.Tree.{Program}
use Rattle.source_faults.specs.Faults.{HasProgram}
use Rattle.same_source.specs.Same.{IsOnlyImage, RunsSource, IsRefusal}
use Rattle.silage_meaning.specs.Solves.{input_types, output_types}
use Rattle.same_source.specs.Private.Image.{HasWordsOf, RunsGraph, IsGraphRefusal}
use Rattle.same_source.specs.declared.refusal.Refusal.{Refusal}
use Rattle.same_source.specs.declared.refusal.Refusal.TheVariants.{Source, TooLong, Microcode, OtherWords}
use Rattle.same_source.specs.declared.refusal.Refusal.TheVariants.{NotShown, Memory}

module _ (source microcode : List ℕ) (p : Program) (g : Graph) (image : Image)
    (program : HasProgram source p) (graph : IsGraphFor p g) (spelled : IsOnlyImage microcode image) where
  pub runs_source : RunsGraph g image → RunsSource source microcode
  runs_source runs = record {
    tokens = program.read.tokens;
    lexed = program.read.lexed;
    program = p;
    parsed = program.read.parsed.is;
    image = image;
    spelled = spelled;
    inputs = runs.inputs ∙ ap (map width_of) graph.keeps.inputs;
    outs = runs.outs ∙ graph.keeps.outs;
    runs = runs_the_solution p g image graph runs.runs;
  }

  other_words : (HasWordsOf g image → ⊥)
      → image.inputs ≡ map width_of (input_types p)
      → image.outs ≡ length (output_types p)
      → ⊥
  other_words none inputs outs =
      none
      (record { inputs = inputs ∙ sym (ap (map width_of) graph.keeps.inputs); outs = outs ∙ sym graph.keeps.outs })

  pub graph_refusal : (refusal : Refusal) → IsGraphRefusal g image refusal → IsRefusal source microcode refusal
  graph_refusal (Source line fault) is = absurd is
  graph_refusal TooLong is = absurd is
  graph_refusal (Microcode fault) is = absurd is
  graph_refusal OtherWords is = record {
    program = p;
    has = program;
    image = image;
    spells = spelled.spells;
    other = other_words is;
  }
  graph_refusal (NotShown mismatch) is = ((p, program), (image, spelled.spells))
  graph_refusal Memory is = is
