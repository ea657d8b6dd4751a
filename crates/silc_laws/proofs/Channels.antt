-- The input words of an image and of a program have channels that rows can be read on.
use Rattle.std.proofs.Common.{arith, ℕ, List, [], ◌∷◌, map}
use Rattle.std.specs.List.{All}
use Rattle.std.proofs.lemmas.List.{length-map}
use Rattle.std.proofs.lemmas.List.Elements.{All-head, All-tail, All-cons, All-nil}
use Rattle.fix_word.specs.declared.types.SigType.{SigType}
use Rattle.fix_word.specs.declared.types.SigType.TheVariants as sig
use Rattle.source_faults.specs.Faults.{HasProgram}
use Rattle.front_end.proofs.Counts.{checked}
use Rattle.loop_expand.specs.Checked.{IsChecked}
use Rattle.loop_expand.proofs.FlatWords.{input_count, input_types_allowed}
use Rattle.micro_image.specs.Valid.{IsValid}
use Rattle.micro_image.specs.declared.image.Image.{Image}
use Rattle.sample_commands.specs.Eval.{type_channel, program_channels}
use Rattle.sample_io.specs.Channels.{IsChannel, AreChannels, channel_of}
use Rattle.sample_io.proofs.Widths.{channel_is, each_channel_is}
use Rattle.sample_loops.specs.Machines.{channels_of}
use Rattle.signal_graph.specs.Rules.{IsType}
use Rattle.silage_meaning.specs.Solves.{input_types}
use Rattle.silage_syntax.specs.Tree.{Program}

pub image_channels : (image : Image) → IsValid image → AreChannels (channels_of image.inputs)
image_channels image valid =
    let count = length-map image.inputs channel_of in
    let (some, few) = valid.input_count in
    record {
      some = omega (arith, count, some);
      few = omega (arith, count, few);
      each = each_channel_is image.inputs valid.inputs;
    }

type_channel_is : (ty : SigType) → IsType ty → IsChannel (type_channel ty)
type_channel_is (sig.Fix t) is = channel_is t.shape.w is.width.widest
type_channel_is sig.Bool is = channel_is 0 (omega arith)

type_channels_are : (types : List SigType) → All IsType types → All IsChannel (map type_channel types)
type_channels_are [] all = All-nil IsChannel
type_channels_are (ty ∷ types) all =
    All-cons IsChannel (type_channel ty) (map type_channel types) (type_channel_is ty (All-head IsType ty types all))
    (type_channels_are types (All-tail IsType ty types all))

pub channels_of_program : (source : List ℕ) (p : Program) → HasProgram source p → AreChannels (program_channels p)
channels_of_program source p has =
    let is : IsChecked p =
    checked source p has.read (record { names = has.names; elements = has.elements; types = has.types }) in
    let count = length-map (input_types p) type_channel in
    let (some, few) = input_count p is in
    record {
      some = omega (arith, count, some);
      few = omega (arith, count, few);
      each = type_channels_are (input_types p) (input_types_allowed p is);
    }
