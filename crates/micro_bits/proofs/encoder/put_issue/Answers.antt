use Rattle.std.proofs.Common.{◌≡◌, ◌∙◌, ap, subst, ℕ, List, ◌++◌, ◌∷◌, [], replicate, OnOk, append_assoc}
use Rattle.micro_image.specs.Bits.{in_bits}
use Rattle.micro_image.specs.Form.{spelled_operation}
use Rattle.micro_bits.proofs.Placed.{one_flag}
use Rattle.micro_bits.proofs.encoder.put_issue.Goals as goal

pub returns : goal.returns
returns c =
    let own : List ℕ = spelled_operation in_bits c.args.issue.now in
    let zeros : List ℕ = replicate c.args.none 0 in
    subst (λ (new : List ℕ). OnOk c.put_operation.result (c.put_operation.new.out ≡ new))
    (ap (λ (t : List ℕ). t ++ own)
    (c.in_ok-put_behind.ensures ∙ ap (λ (flag : List ℕ). c.args.out.now ++ (zeros ++ flag)) one_flag)
    ∙ append_assoc c.args.out.now (zeros ++ 1 ∷ []) own
    ∙ ap (λ (t : List ℕ). c.args.out.now ++ t) (append_assoc zeros (1 ∷ []) own))
    c.put_operation.ensures
