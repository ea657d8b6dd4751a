use Rattle.std.proofs.Common.{arith, ap, ◌∙◌, ℕ}
use Rattle.std.specs.Int.{bit_at}
use Rattle.std.proofs.lemmas.Nat.Bits.{bit_at_ones}
use Rattle.bus_alloc.proofs.Blocked.{first_zero_is}
use Rattle.bus_alloc.proofs.rows.first_zero.Goals as goal

pub returns-then-word-eq18446744073709551615 : goal.returns-then-word-eq18446744073709551615
returns-then-word-eq18446744073709551615 c i small =
    ap (λ (w : ℕ). bit_at w i) c.if-word-eq18446744073709551615.true ∙ bit_at_ones 64 i small

pub returns : goal.returns
returns c = first_zero_is c.args.word c.trailing_ones.result (omega arith) c.trailing_ones.ensures
