use Rattle.std.proofs.Common.{◌≡◌, ◌∙◌, ap, subst, ℕ, List, ◌++◌, OnOk}
use Rattle.micro_image.specs.Bits.{bits}
use Rattle.micro_bits.proofs.Encoded.{flag_bits}
use Rattle.micro_bits.proofs.encoder.put_flag.Goals as goal

pub returns : goal.returns
returns c =
    subst (λ (front : List ℕ). OnOk c.put.result (c.put.new.self ≡ c.args.out.now ++ front))
    (ap (bits 1) c.from.ensures ∙ flag_bits c.args.flag) c.put.ensures
