use Rattle.std.proofs.Common.{◌≡◌, ◌++◌, subst, ℕ, List, OnOk}
use Rattle.micro_bits.proofs.Placed.{zeros_in_front}
use Rattle.micro_bits.proofs.encoder.put_behind.Goals as goal

pub returns-then-zeros-count : goal.returns-then-zeros-count
returns-then-zeros-count c =
    subst (λ (new : List ℕ). OnOk c.put.result (c.put.new.self ≡ c.args.out.now ++ new))
    (zeros_in_front c.args.zeros c.args.count c.args.number c.requires.small)
    c.put.ensures
