use Rattle.std.proofs.Common.{◌≡◌, subst, ℕ, List, ◌++◌, ◌%◌, ap, replicate, OnOk, arith}
use Rattle.micro_bits.proofs.Encoded.{take_number}
use Rattle.micro_bits.proofs.encoder.put_take.Goals as goal

pub returns : goal.returns
returns c =
    subst (λ (own : List ℕ).
    OnOk c.put_behind.result (c.put_behind.new.out ≡ c.args.out.now ++ (replicate c.args.ends 0 ++ own)))
    (take_number c.args.take.now _ _ (ap (λ (bus : ℕ). bus % 32) c.from.ensures) c.from-2.ensures (omega arith))
    c.put_behind.ensures
