use Rattle.std.proofs.Common.{ℕ, List, ◌++◌, sym, ap, ◌∙◌}
use Rattle.std.proofs.lemmas.List.{append-nil}
use Rattle.micro_image.specs.Spells.{bits_of}
use Rattle.micro_bits.proofs.BitNumbers.{no_bits}
use Rattle.micro_bits.proofs.bit_writer.BitWriter.new.Goals as goal

pub returns : goal.returns
returns c =
    ap (λ (xs : List ℕ). bits_of c.args.bytes ++ xs) (sym (no_bits 0)) ∙ append-nil (bits_of c.args.bytes)
