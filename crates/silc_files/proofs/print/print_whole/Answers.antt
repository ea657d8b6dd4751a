use Rattle.std.proofs.Common.{arith, ◌≡◌, sym, ap, ◌∙◌, ◌-◌, ◌≤◌, ℕ, List, ◌++◌, length, take, drop, length-drop}
use Rattle.std.proofs.Math.Seq.{take-add}
use Rattle.std.proofs.lemmas.Grind.{common_steps}
use Rattle.silc_files.proofs.Printed.{printed_more}
use Rattle.silc_files.proofs.print.print_whole.Goals as goal

pub loop-done-preserved : goal.loop-done-preserved
loop-done-preserved g c =
    let sofar = c.loop-done.invariant in
    let step = c.in_ok-done.ensures.ok in
    let within : c.loop-done.done ≤ length c.args.bytes.now = sofar.within in
    let rest : take (length c.args.bytes.now - c.loop-done.done) (drop c.loop-done.done c.args.bytes.now)
    ≡ drop c.loop-done.done c.args.bytes.now = grind (arith, common_steps) in
    let room : c.in_ok-done.field-0
    ≤ length
    (take (length c.args.bytes.now - c.loop-done.done) (drop c.loop-done.done c.args.bytes.now)) = step.room in
    printed_more _ _ _ _ _ _ _ sofar step
    (ap (λ (p : List ℕ). take c.loop-done.done c.args.bytes.now ++ take c.in_ok-done.field-0 p) rest
    ∙ sym (take-add c.loop-done.done c.in_ok-done.field-0 c.args.bytes.now))
    c.in_ok-done.ensures.never_fall
    (omega (arith, length-drop c.loop-done.done c.args.bytes.now, ap (length {A = ℕ}) rest))
