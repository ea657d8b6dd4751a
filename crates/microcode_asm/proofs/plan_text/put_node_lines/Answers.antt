use Rattle.std.proofs.Common.{◌∙◌, sym, ap, arith, ◌++◌, List, ℕ}
use Rattle.std.specs.List.{flat_map, range_with_len}
use Rattle.microcode_asm.specs.Printable.{node_line}
use Rattle.microcode_asm.proofs.RegisterLists.{after, flat_range_more}
use Rattle.microcode_asm.proofs.plan_text.put_node_lines.Goals as goal

pub loop-v-preserved : goal.loop-v-preserved
loop-v-preserved c =
    let v = c.loop-v.v in
    let line = node_line c.args.printed.now in
    c.in_ok-put_node.ensures ∙ ap (λ (l : List ℕ). l ++ line v) c.loop-v.invariant
    ∙ after c.args.out.now (flat_map line (range_with_len 0 v)) (line v)
    ∙ ap (λ (l : List ℕ). c.args.out.now ++ l) (sym (flat_range_more line 0 v v (omega arith)))
