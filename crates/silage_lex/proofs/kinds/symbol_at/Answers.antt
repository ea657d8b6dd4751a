use Rattle.std.proofs.Common.{ℕ, Option, [], ◌∷◌, sym, ap, ◌∙◌}
use Rattle.std.specs.Prelude.{slice_index}
use Rattle.silage_lex.specs.Texts.{symbols}
use Rattle.silage_lex.specs.Scan.{position_of}
use Rattle.silage_lex.proofs.Positions.{double_at, single_at, none_at}
use Rattle.silage_lex.proofs.kinds.symbol_at.Goals as goal

-- the symbol of the first byte with another
with_next : ℕ → ℕ → Option ℕ
with_next first second = position_of symbols (first ∷ second ∷ [])

pub returns-in-Some-clause-some : goal.returns-in-Some-clause-some
unfolding with_next
returns-in-Some-clause-some c =
    double_at c.args.src.now c.args.at c.in-Some.symbol c.requires.inside
    (ap (with_next (slice_index c.args.src.now c.args.at)) (sym c.byte_at.ensures) ∙ sym c.in-Some.ensures)

pub returns-in-Some-single_symbol-clause-some : goal.returns-in-Some-single_symbol-clause-some
unfolding with_next
returns-in-Some-single_symbol-clause-some c =
    single_at c.args.src.now c.args.at c.in-Some-single_symbol.symbol c.requires.inside
    (ap (with_next (slice_index c.args.src.now c.args.at)) (sym c.byte_at.ensures) ∙ sym c.in_default.ensures)
    (sym c.in-Some-single_symbol.ensures)

pub returns-in-None-clause-none : goal.returns-in-None-clause-none
unfolding with_next
returns-in-None-clause-none c =
    none_at c.args.src.now c.args.at c.requires.inside
    (ap (with_next (slice_index c.args.src.now c.args.at)) (sym c.byte_at.ensures) ∙ sym c.in_default.ensures)
    (sym c.in-None.ensures)
