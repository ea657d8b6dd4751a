-- One dim after another.
use Rattle.std.proofs.Common.{◌∷◌, []}
use Rattle.silage_lex.specs.declared.TokenKind.TheVariants as kind
use Rattle.silage_print.specs.Text.{bracketed}
use Rattle.silage_print.proofs.Spelled.{nothing, followed, more}
use Rattle.silage_print.proofs.print_types.put_dims.Goals as goal

pub loop-dim-init : goal.loop-dim-init
loop-dim-init c = nothing

pub loop-dim-preserved : goal.loop-dim-preserved
loop-dim-preserved c =
    more (λ n. bracketed (kind.Whole n ∷ [])) _ _ c.from.result _ _ _ _ c.loop-dim-test.true c.from.ensures
    c.loop-dim.invariant
    (followed c.in_ok-put_symbol.ensures (followed c.in_ok-put_whole.ensures c.in_ok-put_symbol-2.ensures))
