use Rattle.std.proofs.Common.{ℕ, arith}
use Rattle.std.proofs.lemmas.Grind.{common_steps}
use Rattle.std.proofs.lemmas.List.FromFn.{map-range_with_len_more}
use Rattle.element_rules.specs.declared.elements.Element.{Element}
use Rattle.elaboration_run.proofs.entries.put_signal.Goals as goal

pub loop-place-preserved : goal.loop-place-preserved
loop-place-preserved c =
    let f : ℕ → Element = λ k. record { inst = c.args.inst; decl = c.args.decl; place = k } in
    let more = map-range_with_len_more f 0 c.loop-place.place c.loop-place.place (omega arith) in
    grind (arith, common_steps, more)
