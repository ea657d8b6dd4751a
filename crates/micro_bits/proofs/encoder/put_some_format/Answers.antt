use Rattle.std.proofs.Common.{◌≡◌, ◌∙◌, ◌++◌, ◌-◌, ap, subst, ℕ, List, OnOk, rules}
use Rattle.std.specs.Prelude.{◌+ℤ◌, pos}
use Rattle.std.specs.Int.{w64, cast_unsigned}
use Rattle.micro_bits.proofs.Encoded.{format_number}
use Rattle.micro_bits.proofs.encoder.put_some_format.Goals as goal

pub returns : goal.returns
returns c =
    let shift : c.cast_unsigned-shift.result ≡ cast_unsigned w64 (c.args.fmt.now.shift +ℤ pos 40) = search rules in
    subst (λ (own : List ℕ). OnOk c.put.result (c.put.new.self ≡ c.args.out.now ++ own))
    (format_number c.args.fmt.now _ _ _
    shift
    (c.from-2.ensures ∙ c.mode_number_of.ensures)
    (c.less_1.ensures ∙ ap (λ (n : ℕ). n - 1) c.from-3.ensures))
    c.put.ensures
