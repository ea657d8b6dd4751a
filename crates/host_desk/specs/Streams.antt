-- What a name stands for on the host.
use Rattle.std.specs.Prelude.{List, ℕ, codes}
use Rattle.host_desk.specs.declared.streams.Sink.{Sink}
use Rattle.host_desk.specs.declared.streams.Sink.TheVariants as sink
use Rattle.host_desk.specs.declared.streams.Source.{Source}
use Rattle.host_desk.specs.declared.streams.Source.TheVariants as source

-- the names of the standard input and output
abbrev pub standard_input : List ℕ
standard_input = codes "/dev/stdin"

abbrev pub standard_output : List ℕ
standard_output = codes "/dev/stdout"

-- the stream that the process was given, and not a file opened anew
abbrev pub IsGivenSource : Source → Type 0
IsGivenSource (source.Given stream) = Unit {0}
IsGivenSource (source.Opened file) = ⊥

abbrev pub IsGivenSink : Sink → Type 0
IsGivenSink (sink.Given stream) = Unit {0}
IsGivenSink (sink.Opened file) = ⊥
