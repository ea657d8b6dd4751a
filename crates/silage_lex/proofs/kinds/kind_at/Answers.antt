use Rattle.std.proofs.Common.{◌+◌, [], refl, ap, arith, sym, subst, ℕ, length}
use Rattle.std.specs.Prelude.{slice_index}
use Rattle.std.proofs.lemmas.Option.{get_or_from_slice_get}
use Rattle.silage_lex.specs.Texts.{symbols}
use Rattle.silage_lex.specs.Tokens.{IsSpan}
use Rattle.silage_lex.specs.declared.TokenKind.TheVariants.{Symbol}
use Rattle.silage_lex.proofs.Longest.{symbol_span, no_token}
use Rattle.silage_lex.proofs.Numbers.{no_name_byte}
use Rattle.silage_lex.proofs.kinds.kind_at.Goals as goal

pub returns-in-Some-clause-ok : goal.returns-in-Some-clause-ok
returns-in-Some-clause-ok c =
    let first = c.in-Some.ensures.some in
    let P : ℕ → Type 0 = λ to. IsSpan c.args.src.now (Symbol c.in-Some.symbol) c.args.at to in
    subst P (sym first.1) (symbol_span c.args.src.now c.args.at c.in-Some.symbol (omega arith) first.0)

pub returns-in-None-clause-err : goal.returns-in-None-clause-err
returns-in-None-clause-err c = λ _. (
  refl,
  record {
    within = c.requires.inside;
    no_blank = c.requires.starts.no_blank;
    no_comment = c.requires.starts.no_comment;
    no_token =
        no_token c.args.src.now c.args.at
        (no_name_byte (slice_index c.args.src.now c.args.at) (sym c.if-is_letter.ensures) (sym c.if-is_digit.ensures))
        c.in-None.ensures.none;
  },
)
