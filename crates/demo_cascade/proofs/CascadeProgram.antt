-- The program of a cascade's source: it has one input word and one output word, of 16 bits each.
use Rattle.std.proofs.Common.{◌≡◌, refl, sym, subst, ◌∙◌, arith, ℕ, ◌+◌, ◌-◌, ◌<◌, ◌≤◌, true, Bool, ◌&&◌, nat_le}
use Rattle.std.proofs.Common.{nat_eq, List, [], ◌∷◌, ◌++◌, map, Some}
use Rattle.std.specs.Prelude.{codes, decimal}
use Rattle.std.specs.Fmt.{digits}
use Rattle.std.specs.List.{range_with_len}
use Rattle.std.proofs.lemmas.Bool.{and_from}
use Rattle.std.proofs.lemmas.List.{append_assoc}
use Rattle.std.proofs.lemmas.List.FromFn.{get_or-map-range_with_len, length-map-range_with_len}
use Rattle.std.proofs.lemmas.List.Sums.{AllPass-from_list_all}
use Rattle.fix_word.specs.declared.types.Mode.TheVariants.{Trunc}
use Rattle.fix_word.specs.declared.types.SigType.{SigType}
use Rattle.fix_word.specs.declared.types.SigType.TheVariants.{Fix}
use Rattle.silage_lex.specs.Texts.{is_digits, digit_count, decimal as value_of}
use Rattle.silage_lex.specs.Tokens.{TokenList, HasTokens}
use Rattle.silage_lex.specs.declared.keywords.TheConstants.{BEGIN, END, FIX, FUNC, VAR}
use Rattle.silage_lex.specs.declared.punctuation.TheConstants.{AT, COLON, COLON_COLON, COMMA, DOT_DOT, EQUAL, GREATER}
use Rattle.silage_lex.specs.declared.punctuation.TheConstants.{LEFT_BRACKET, LEFT_PAREN, LESS, MINUS, PLUS}
use Rattle.silage_lex.specs.declared.punctuation.TheConstants.{RIGHT_BRACKET, RIGHT_PAREN, SEMICOLON, STAR}
use Rattle.silage_lex.proofs.OneReading.{tokens_once}
use Rattle.silage_syntax.specs.Grammar.{Derives, kind_at, from_at, operator, IsManifest, Manifest_, Term, Primary_}
use Rattle.silage_syntax.specs.Grammar.{IsExpr, Chain, Or, Sum, Product, Shift, Primary, last, scalar, vector, no_mode}
use Rattle.silage_syntax.specs.Grammar.{fix, declared, decl, terms, no_term, one_term, factors, no_factor}
use Rattle.silage_syntax.specs.Grammar.{primary_factor, whole_primary, name_primary, no_sub, one_sub, no_delay, delay}
use Rattle.silage_syntax.specs.Grammar.{chain, no_more, one_more, no_comparison, shifts, no_shift, primary, number}
use Rattle.silage_syntax.specs.Grammar.{place, no_target_sub, one_target_sub, target, last_arg, is_equation, is_call}
use Rattle.silage_syntax.specs.Grammar.{is_loop, no_items, one_item, no_locals, some_locals, one_result, is_function}
use Rattle.silage_syntax.specs.Grammar.{no_tops, one_top}
use Rattle.silage_syntax.specs.Tree.{Manifest, Expr, binary, Program}
use Rattle.silage_syntax.specs.declared.tree.BinOp.{BinOp}
use Rattle.silage_meaning.specs.Solves.{input_types, output_types}
use Rattle.demo_cascade.specs.Cascade.{cascade_source, source_head, first_signal, section_call, source_end}
use Rattle.demo_cascade.proofs.Spelling.{Spelling, a_name, a_word, a_symbol, a_whole, a_point, Piece, joined, spaced}
use Rattle.demo_cascade.proofs.Spelling.{on_line, spelled, ArePieces, pieces_front, laid, spelled_tokens}

-- The source, token by token.
-- up to the size of the array
abbrev head_pieces : List Piece
head_pieces =
    joined (a_word FUNC) ∷ spaced (a_name (codes "biquad")) ∷ joined (a_symbol LEFT_PAREN) ∷
    joined (a_name (codes "x")) ∷ spaced (a_symbol COLON) ∷ spaced (a_word FIX) ∷ joined (a_symbol LESS) ∷
    joined (a_whole 16 (codes "16")) ∷ joined (a_symbol COMMA) ∷ joined (a_whole 8 (codes "8")) ∷
    joined (a_symbol GREATER) ∷ joined (a_symbol RIGHT_PAREN) ∷ spaced (a_name (codes "y")) ∷
    spaced (a_symbol COLON) ∷ spaced (a_word FIX) ∷ joined (a_symbol LESS) ∷ joined (a_whole 16 (codes "16")) ∷
    joined (a_symbol COMMA) ∷ joined (a_whole 8 (codes "8")) ∷ joined (a_symbol GREATER) ∷ spaced (a_symbol EQUAL) ∷
    spaced (a_word BEGIN) ∷ on_line (a_name (codes "y")) ∷ spaced (a_symbol EQUAL) ∷
    spaced (a_point (codes "0") (codes "5")) ∷ spaced (a_symbol STAR) ∷ spaced (a_name (codes "x")) ∷
    spaced (a_symbol PLUS) ∷ spaced (a_point (codes "0") (codes "25")) ∷ spaced (a_symbol STAR) ∷
    spaced (a_name (codes "x")) ∷ joined (a_symbol AT) ∷ joined (a_whole 1 (codes "1")) ∷ spaced (a_symbol PLUS) ∷
    spaced (a_point (codes "0") (codes "125")) ∷ spaced (a_symbol STAR) ∷ spaced (a_name (codes "x")) ∷
    joined (a_symbol AT) ∷ joined (a_whole 2 (codes "2")) ∷ spaced (a_symbol MINUS) ∷
    spaced (a_point (codes "0") (codes "25")) ∷ spaced (a_symbol STAR) ∷ spaced (a_name (codes "y")) ∷
    joined (a_symbol AT) ∷ joined (a_whole 1 (codes "1")) ∷ spaced (a_symbol MINUS) ∷
    spaced (a_point (codes "0") (codes "125")) ∷ spaced (a_symbol STAR) ∷ spaced (a_name (codes "y")) ∷
    joined (a_symbol AT) ∷ joined (a_whole 2 (codes "2")) ∷ joined (a_symbol SEMICOLON) ∷ on_line (a_word END) ∷
    joined (a_symbol SEMICOLON) ∷ on_line (a_word FUNC) ∷ spaced (a_name (codes "main")) ∷
    joined (a_symbol LEFT_PAREN) ∷ joined (a_name (codes "x")) ∷ spaced (a_symbol COLON) ∷ spaced (a_word FIX) ∷
    joined (a_symbol LESS) ∷ joined (a_whole 16 (codes "16")) ∷ joined (a_symbol COMMA) ∷
    joined (a_whole 8 (codes "8")) ∷ joined (a_symbol GREATER) ∷ joined (a_symbol RIGHT_PAREN) ∷
    spaced (a_name (codes "y")) ∷ spaced (a_symbol COLON) ∷ spaced (a_word FIX) ∷ joined (a_symbol LESS) ∷
    joined (a_whole 16 (codes "16")) ∷ joined (a_symbol COMMA) ∷ joined (a_whole 8 (codes "8")) ∷
    joined (a_symbol GREATER) ∷ spaced (a_symbol EQUAL) ∷ spaced (a_word BEGIN) ∷ on_line (a_word VAR) ∷
    spaced (a_name (codes "s")) ∷ joined (a_symbol LEFT_BRACKET) ∷ []

-- up to the last index of the loop
abbrev array_pieces : List Piece
array_pieces =
    joined (a_symbol RIGHT_BRACKET) ∷ spaced (a_symbol COLON) ∷ spaced (a_word FIX) ∷ joined (a_symbol LESS) ∷
    joined (a_whole 16 (codes "16")) ∷ joined (a_symbol COMMA) ∷ joined (a_whole 8 (codes "8")) ∷
    joined (a_symbol GREATER) ∷ joined (a_symbol SEMICOLON) ∷ on_line (a_name (codes "s")) ∷
    joined (a_symbol LEFT_BRACKET) ∷ joined (a_whole 0 (codes "0")) ∷ joined (a_symbol RIGHT_BRACKET) ∷
    spaced (a_symbol EQUAL) ∷ spaced (a_name (codes "x")) ∷ joined (a_symbol SEMICOLON) ∷
    on_line (a_symbol LEFT_PAREN) ∷ joined (a_name (codes "i")) ∷ spaced (a_symbol COLON) ∷
    spaced (a_whole 0 (codes "0")) ∷ spaced (a_symbol DOT_DOT) ∷ []

-- up to the index of the output
abbrev loop_pieces : List Piece
loop_pieces =
    joined (a_symbol RIGHT_PAREN) ∷ spaced (a_symbol COLON_COLON) ∷ spaced (a_word BEGIN) ∷
    on_line (a_name (codes "s")) ∷ joined (a_symbol LEFT_BRACKET) ∷ joined (a_name (codes "i")) ∷
    spaced (a_symbol PLUS) ∷ spaced (a_whole 1 (codes "1")) ∷ joined (a_symbol RIGHT_BRACKET) ∷
    spaced (a_symbol EQUAL) ∷ spaced (a_name (codes "biquad")) ∷ joined (a_symbol LEFT_PAREN) ∷
    joined (a_name (codes "s")) ∷ joined (a_symbol LEFT_BRACKET) ∷ joined (a_name (codes "i")) ∷
    joined (a_symbol RIGHT_BRACKET) ∷ joined (a_symbol RIGHT_PAREN) ∷ joined (a_symbol SEMICOLON) ∷
    on_line (a_word END) ∷ joined (a_symbol SEMICOLON) ∷ on_line (a_name (codes "y")) ∷ spaced (a_symbol EQUAL) ∷
    spaced (a_name (codes "s")) ∷ joined (a_symbol LEFT_BRACKET) ∷ []

-- the end
abbrev end_pieces : List Piece
end_pieces =
    joined (a_symbol RIGHT_BRACKET) ∷ joined (a_symbol SEMICOLON) ∷ on_line (a_word END) ∷
    joined (a_symbol SEMICOLON) ∷ []

-- a number in decimal
abbrev a_number : ℕ → Spelling
a_number n = a_whole n (decimal n)

abbrev from_output : (sections : ℕ) → List Piece
from_output sections = joined (a_number sections) ∷ end_pieces

abbrev from_index : (sections : ℕ) → List Piece
from_index sections = spaced (a_number (sections - 1)) ∷ (loop_pieces ++ from_output sections)

abbrev from_size : (sections : ℕ) → List Piece
from_size sections = joined (a_number (sections + 1)) ∷ (array_pieces ++ from_index sections)

abbrev cascade_pieces : (sections : ℕ) → List Piece
cascade_pieces sections = head_pieces ++ from_size sections

abbrev line_end : List ℕ
line_end = 10 ∷ []

abbrev cascade_tokens : (sections : ℕ) → TokenList
cascade_tokens sections = laid (spelled (cascade_pieces sections) line_end) 0 (cascade_pieces sections)

-- the digits of each number below 34 spell it
abbrev is_written : ℕ → Bool
is_written n = is_digits (decimal n) && (nat_le (digit_count (decimal n)) 18 && nat_eq n (value_of (decimal n)))

written : (n : ℕ) → n < 34 → is_written n ≡ true
unfolding digits
written n below =
    sym (get_or-map-range_with_len is_written 0 34 n n true below (omega arith))
    ∙ AllPass-from_list_all (λ b. b) (map is_written (range_with_len 0 34)) refl n true
    (omega (arith, below, length-map-range_with_len is_written 0 34))

number_pass : (n : ℕ) (behind : Bool) → n < 34 → behind ≡ true → (is_written n && behind) ≡ true
number_pass n behind below h = and_from _ _ (written n below) h

are_pieces : (sections : ℕ) → sections ≤ 32 → ArePieces (cascade_pieces sections) line_end
are_pieces sections few =
    pieces_front head_pieces (from_size sections) line_end refl (
      number_pass (sections + 1) _ (omega (arith, few)) refl,
      pieces_front array_pieces (from_index sections) line_end refl (
        number_pass (sections - 1) _ (omega (arith, few)) refl,
        pieces_front loop_pieces (from_output sections) line_end refl
            (number_pass sections _ (omega (arith, few)) refl, pieces_front end_pieces [] line_end refl refl),
      ),
    )

-- the source is the text of the pieces
numbers_between : (a m b n c o d : List ℕ) → a ++ m ++ b ++ n ++ c ++ o ++ d ≡ a ++ (m ++ (b ++ (n ++ (c ++ (o ++ d)))))
numbers_between a m b n c o d =
    append_assoc (a ++ m ++ b ++ n ++ c) o d ∙ append_assoc (a ++ m ++ b ++ n) c (o ++ d)
    ∙ append_assoc (a ++ m ++ b) n (c ++ (o ++ d))
    ∙ append_assoc (a ++ m) b (n ++ (c ++ (o ++ d))) ∙ append_assoc a m (b ++ (n ++ (c ++ (o ++ d))))

is_spelled : (sections : ℕ) → cascade_source sections ≡ spelled (cascade_pieces sections) line_end
unfolding cascade_source
is_spelled sections =
    numbers_between source_head (decimal (sections + 1)) first_signal (decimal (sections - 1)) section_call
    (decimal sections) source_end

has_tokens : (sections : ℕ) → sections ≤ 32 → HasTokens (cascade_source sections) (cascade_tokens sections)
has_tokens sections few =
    subst (λ bytes. HasTokens bytes (cascade_tokens sections)) (sym (is_spelled sections))
    (spelled_tokens (cascade_pieces sections) line_end (are_pieces sections few))

-- how the parts of an expression are one
module _ {ts : TokenList} where
  shift_of : {i j : ℕ} {e : Expr} → IsExpr ts Primary i e j → IsExpr ts Shift i e j
  shift_of x = shifts (primary x) no_shift

  lone_product : {i j : ℕ} {e : Expr} → IsExpr ts Primary i e j → IsExpr ts (Chain Product) i e j
  lone_product x = chain (shift_of x) no_more

  expression : {i j : ℕ} {e : Expr} → IsExpr ts (Chain Sum) i e j → IsExpr ts (Chain Or) i e j
  expression x = chain (chain (no_comparison x) no_more) no_more

  lone : {i j : ℕ} {e : Expr} → IsExpr ts Primary i e j → IsExpr ts (Chain Or) i e j
  lone x = expression (chain (lone_product x) no_more)

  term : {i j : ℕ} {m : Manifest} → IsManifest ts Primary_ i m j → IsManifest ts Term i m j
  term x = factors (primary_factor x) no_factor

  lone_term : {i j : ℕ} {m : Manifest} → IsManifest ts Primary_ i m j → IsManifest ts Manifest_ i m j
  lone_term x = terms (term x) no_term

  product : {i j k : ℕ} {a b : Expr} {o : BinOp}
      → IsExpr ts Primary i a j
      → operator Product (kind_at ts j) ≡ Some o
      → IsExpr ts Primary (j + 1) b k
      → IsExpr ts (Chain Product) i (binary (from_at ts j) o a b) k
  product x star y = chain (shift_of x) (one_more star (shift_of y) no_more)

abbrev pub cascade_type : SigType
cascade_type = Fix (record { shape = record { w = 16; f = 8 }; mode = Trunc })

-- one input word and one output word
pub record HasOneWordEach (p : Program) : Type 0 where
  pub inputs : input_types p ≡ cascade_type ∷ []
  pub outputs : output_types p ≡ cascade_type ∷ []

-- the tokens are such a program
cascade_derives : (sections : ℕ) → (p : Program) × Derives (cascade_tokens sections) p × HasOneWordEach p
cascade_derives sections = (
  record { tops = _ },
  (
    _,
    one_top
        (is_function refl refl refl
        (last (decl (declared refl scalar) refl (fix (no_mode refl refl refl refl refl refl)))) refl
        (one_result (decl (declared refl scalar) refl (fix (no_mode refl refl refl refl refl refl))))
        refl refl
        no_locals
        (one_item
        (is_equation (target refl no_target_sub) refl
        (expression (chain (product (number refl) refl (place refl no_sub no_delay))
        (one_more refl (product (number refl) refl (place refl no_sub (delay refl (whole_primary refl))))
        (one_more refl (product (number refl) refl (place refl no_sub (delay refl (whole_primary refl))))
        (one_more refl (product (number refl) refl (place refl no_sub (delay refl (whole_primary refl))))
        (one_more refl (product (number refl) refl (place refl no_sub (delay refl (whole_primary refl)))) no_more))))))
        refl)
        no_items)
        refl refl)
        (one_top
        (is_function refl refl refl
        (last (decl (declared refl scalar) refl (fix (no_mode refl refl refl refl refl refl)))) refl
        (one_result (decl (declared refl scalar) refl (fix (no_mode refl refl refl refl refl refl))))
        refl refl
        (some_locals refl (last (declared refl (vector refl refl refl))) refl
        (fix (no_mode refl refl refl refl refl refl)) refl no_locals)
        (one_item
        (is_equation (target refl (one_target_sub refl (lone_term (whole_primary refl)) refl)) refl
        (lone (place refl no_sub no_delay)) refl)
        (one_item
        (is_loop refl refl refl (lone_term (whole_primary refl)) refl (lone_term (whole_primary refl)) refl refl refl
        (one_item
        (is_call (target refl
        (one_target_sub refl (terms (term (name_primary refl)) (one_term refl (term (whole_primary refl)) no_term))
        refl))
        refl refl refl (last_arg (lone (place refl (one_sub refl (lone_term (name_primary refl)) refl) no_delay))) refl
        refl)
        no_items) refl refl)
        (one_item
        (is_equation (target refl no_target_sub) refl
        (lone (place refl (one_sub refl (lone_term (whole_primary refl)) refl) no_delay)) refl)
        no_items)))
        refl refl)
        no_tops),
  ),
  record { inputs = refl; outputs = refl },
)

-- so the only program of the source is one
pub one_word_each : (sections : ℕ)
    → sections ≤ 32
    → (ts : TokenList)
    → HasTokens (cascade_source sections) ts
    → (p : Program)
    → ((other : Program) → Derives ts other → other ≡ p)
    → HasOneWordEach p
one_word_each sections few ts lexed p only =
    let same = tokens_once (cascade_source sections) ts (cascade_tokens sections) lexed (has_tokens sections few) in
    let (own, derives, one) = cascade_derives sections in
    subst HasOneWordEach (only own (subst (λ ts. Derives ts own) (sym same) derives)) one
