use Rattle.std.proofs.Common.{◌∙◌, sym, ap, w64}
use Rattle.std.specs.Option.{option_or}
use Rattle.std.specs.Prelude.{ℤ}
use Rattle.std.proofs.lemmas.Int.{to_z-of_z}
use Rattle.flow_graph.specs.Private.Words.{number_in, number_if}
use Rattle.flow_graph.proofs.NumberSteps.{new_word}
use Rattle.flow_graph.proofs.numbers.Numbering.number_word.Goals as goal

pub returns : goal.returns
returns c =
    let same = to_z-of_z w64 c.args.word c.ranges.word in
    new_word c.args.self.now.words c.add.new.self c.args.self.now.count c.args.word
    (sym (ap (number_in c.args.self.now.words) same) ∙ sym c.get.ensures ∙ c.in_default.is)
    (λ k.
    c.in_ok-add.ensures k
    ∙ ap (λ (z : ℤ). option_or (number_in c.args.self.now.words k) (number_if z c.args.self.now.count k)) same)
