-- Each token by its kind, and what stands between them.
use Rattle.std.proofs.Common.{◌≡◌, refl, arith, inl, inr, ℕ, true, false}
use Rattle.silage_lex.specs.Tokens.{IsSpan, IsToken, line_at, Gap, none, blank, comment}
use Rattle.silage_lex.specs.declared.TokenKind.{TokenKind}
use Rattle.silage_lex.specs.declared.keywords.TheConstants.{FUNC}
use Rattle.silage_lex.specs.declared.punctuation.TheConstants.{AT_AT, LESS_EQUAL, PIPE_PIPE}
use Rattle.silage_lex.proofs.Numbers.{digit_span}
use Rattle.worked_values.specs.Tokens.{each_kind, token}
use Rattle.worked_values.proofs.Lexing.{word_at, name_span, reserved_span, whole_number_span, point_span}
use Rattle.worked_values.proofs.Lexing.{mark_span, no_close}
use Rattle.worked_values.proofs.tokens.Goals as goal

on_line : {k : TokenKind} {from to : ℕ} (line : ℕ)
    → line ≡ line_at each_kind from
    → IsSpan each_kind k from to
    → IsToken each_kind (token k from to line)
on_line line e span = record { span = span; line = e }

a_comment : Gap each_kind 7 16
a_comment =
    blank refl
    (comment
    (record {
      opened = refl;
      close = 13;
      behind = omega arith;
      closed = refl;
      next = no_close each_kind 10 3 refl;
      ends = refl;
    })
    (blank refl none))

pub returns-clause-each : goal.returns-clause-each
returns-clause-each _ = (
  none,
  on_line 1 refl
      (reserved_span each_kind FUNC 0 4 (word_at each_kind 0 4 (omega arith) (omega arith) refl refl refl) refl),
  (
    blank refl none,
    on_line 1 refl
        (name_span each_kind 5 7 (word_at each_kind 5 7 (omega arith) (omega arith) refl refl refl) refl refl),
    (
      a_comment,
      on_line 1 refl (mark_span each_kind AT_AT 16 (omega arith) (omega arith) refl refl),
      (
        none,
        on_line 1 refl
            (point_span each_kind 18 19 22 (omega arith) refl refl
            (digit_span each_kind 20 22 (omega arith) (omega arith) refl refl refl) (omega arith) refl),
        (
          none,
          on_line 1 refl (mark_span each_kind LESS_EQUAL 22 (omega arith) (omega arith) refl refl),
          (
            none,
            on_line 1 refl
                (whole_number_span each_kind 24 25
                (digit_span each_kind 24 25 (omega arith) (omega arith) refl refl refl) (omega arith) refl refl),
            (
              blank refl none,
              on_line 2 refl (mark_span each_kind PIPE_PIPE 26 (omega arith) (omega arith) refl refl),
              (
                blank refl none,
                on_line 2 refl
                    (name_span each_kind 29 32 (word_at each_kind 29 32 (omega arith) (omega arith) refl refl refl) refl
                    refl),
                none,
              ),
            ),
          ),
        ),
      ),
    ),
  ),
)

pub returns-clause-others : goal.returns-clause-others
returns-clause-others _ = (
  λ h. h.1.span.longest 2 (omega arith) (omega arith) (inr (inr (4, omega arith, refl))),
  λ h. h.1.span.longest 3 (omega arith) (omega arith) (inl refl),
  λ h. h.1.span.text.free (10, omega arith, refl),
  λ h. no_letter h.1.span.ends.0,
)
  where
    no_letter : true ≡ false → ⊥
    no_letter e = cc
