-- What a write added stands behind what was written before.
use Rattle.std.proofs.Common.{arith, ◌≡◌, sym, ap, subst, ◌∙◌, ◌-◌, ◌≤◌, ℕ, List, ◌++◌, length, take, drop, length-drop}
use Rattle.std.proofs.Math.Seq.{take-add}
use Rattle.std.proofs.lemmas.Grind.{common_steps}
use Rattle.desk_core.proofs.DeskLemmas.{never_fall_trans}
use Rattle.sample_loops.specs.Private.Buffers.{IsAppended}
use Rattle.sample_loops.proofs.Appending.{appended_more}
use Rattle.sample_loops.proofs.writing.write_all.Goals as goal

pub loop-done-preserved : goal.loop-done-preserved
loop-done-preserved g c =
    let sofar = c.loop-done.invariant in
    let step = c.in_ok-done.ensures.ok in
    let bytes = c.args.bytes.now in
    let done = c.loop-done.done in
    let within : done ≤ length bytes = sofar.within in
    let rest : take (length bytes - done) (drop done bytes) ≡ drop done bytes = grind (arith, common_steps) in
    let room : c.in_ok-done.field-0 ≤ length (take (length bytes - done) (drop done bytes)) = step.room in
    let old = g.D.Desk.view c.args.desk.now in
    let new = g.D.Desk.view c.write.new.self in
    record {
      never_fall = never_fall_trans _ _ _ sofar.never_fall c.in_ok-done.ensures.never_fall;
      within = omega (arith, length-drop done bytes, ap (length {A = ℕ}) rest);
      appended = subst (λ b. IsAppended b old new)
          (ap (λ (p : List ℕ). take done bytes ++ take c.in_ok-done.field-0 p) rest
          ∙ sym (take-add done c.in_ok-done.field-0 bytes))
          (appended_more _ _ _ _ _ _ sofar.appended step);
    }
