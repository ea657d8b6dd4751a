-- The canonical text of a program: its tokens, each followed by one blank.
use Rattle.std.specs.Prelude.{ℕ, ◌+◌, ◌-◌, ◌||◌, not as negation, if◌then◌else◌, nat_eq, nat_lt, Bool, true, false}
use Rattle.std.specs.Prelude.{List, [], ◌∷◌, ◌++◌, Option, Some, None, length, take, drop, replicate, slice_index_or}
use Rattle.std.specs.Prelude.{decimal}
use Rattle.std.specs.List.{flat_map}
use Rattle.fix_word.specs.declared.types.FixType.{FixType}
use Rattle.fix_word.specs.declared.types.Mode.{Mode}
use Rattle.fix_word.specs.declared.types.Mode.TheVariants.{Trunc, Round, Sat, RoundSat}
use Rattle.fix_word.specs.declared.types.SigType.{SigType}
use Rattle.fix_word.specs.declared.types.SigType.TheVariants.{Fix, Bool as Truths}
use Rattle.silage_lex.specs.declared.TokenKind.{TokenKind}
use Rattle.silage_lex.specs.declared.TokenKind.TheVariants as kind
use Rattle.silage_lex.specs.Texts.{reserved_words, symbols}
use Rattle.silage_lex.specs.declared.punctuation.TheConstants.{COLON_COLON, DOT_DOT, EQUAL_EQUAL, BANG_EQUAL}
use Rattle.silage_lex.specs.declared.punctuation.TheConstants.{LESS_EQUAL, GREATER_EQUAL, LESS_LESS, GREATER_GREATER}
use Rattle.silage_lex.specs.declared.punctuation.TheConstants.{ARROW, PIPE_PIPE, AT_AT, LEFT_PAREN, RIGHT_PAREN}
use Rattle.silage_lex.specs.declared.punctuation.TheConstants.{LEFT_BRACKET, RIGHT_BRACKET, COMMA, SEMICOLON, COLON}
use Rattle.silage_lex.specs.declared.punctuation.TheConstants.{EQUAL, LESS, GREATER, PLUS, MINUS, STAR, AMPERSAND, PIPE}
use Rattle.silage_lex.specs.declared.punctuation.TheConstants.{BANG, AT}
use Rattle.silage_lex.specs.declared.keywords.TheConstants.{FUNC, CONST, VAR, BEGIN, END, FIX, BOOL, TRUNC, ROUND, IF}
use Rattle.silage_lex.specs.declared.keywords.TheConstants.{FI, TRUE, FALSE, SAT}
use Rattle.silage_print.specs.Precedence as precedence
use Rattle.silage_syntax.specs.declared.tree.BinOp.{BinOp}
use Rattle.silage_syntax.specs.declared.tree.BinOp.TheVariants as op
use Rattle.silage_syntax.specs.declared.tree.MOp.{MOp}
use Rattle.silage_syntax.specs.declared.tree.MOp.TheVariants as mop
use Rattle.silage_syntax.specs.declared.tree.Lit.{Lit}
use Rattle.silage_syntax.specs.declared.tree.Lit.TheVariants.{Number, Truth}
use Rattle.silage_syntax.specs.declared.tree.ConstDef.{ConstDef}
use Rattle.silage_syntax.specs.declared.tree.Decl.{Decl}
use Rattle.silage_syntax.specs.Tree.{Manifest, whole, counter, minus, both, Place, Expr, literal, read, negate, not}
use Rattle.silage_syntax.specs.Tree.{binary, shift, cast, choose, Branches, no_branch, branch, Item, equation, call}
use Rattle.silage_syntax.specs.Tree.{loop, initial, Items, no_item, item, Func, Top, table, function, Program}

-- Lexemes.
-- digits, with leading zeros where no digit would be left before the point
abbrev pub filled : List ℕ → ℕ → List ℕ
filled digits places = replicate (places + 1 - length digits) 48 ++ digits

-- digits with a point before the last ones
abbrev pub pointed : List ℕ → ℕ → List ℕ
pointed digits places = take (length digits - places) digits ++ 46 ∷ drop (length digits - places) digits

abbrev pub token_text : TokenKind → List ℕ
token_text (kind.Name name) = name
token_text (kind.Whole value) = decimal value
token_text (kind.Point digits places) = pointed (filled (decimal digits) places) places
token_text (kind.Reserved n) = slice_index_or reserved_words n []
token_text (kind.Symbol n) = slice_index_or symbols n []

-- a token with the blank after it
abbrev pub spaced : TokenKind → List ℕ
spaced k = token_text k ++ 32 ∷ []

unfoldable pub spelled : List TokenKind → List ℕ
spelled ks = flat_map spaced ks

-- Parts of texts.
abbrev pub symbol : ℕ → TokenKind
symbol n = kind.Symbol n

abbrev pub word : ℕ → TokenKind
word n = kind.Reserved n

abbrev pub opened : Bool → List TokenKind
opened true = symbol LEFT_PAREN ∷ []
opened false = []

abbrev pub closed : Bool → List TokenKind
closed true = symbol RIGHT_PAREN ∷ []
closed false = []

-- in parentheses, where the test says so
abbrev pub enclosed : Bool → List TokenKind → List TokenKind
enclosed b ks = opened b ++ ks ++ closed b

-- a part in a context that asks for a precedence: in parentheses where its own is lower
abbrev pub in_context : (asked own : ℕ) → List TokenKind → List TokenKind
in_context asked own ks = enclosed (nat_lt own asked) ks

abbrev pub after_comma : {A : Type 0} → (A → List TokenKind) → A → List TokenKind
after_comma text x = symbol COMMA ∷ text x

-- with commas between
abbrev pub listed : {A : Type 0} → (A → List TokenKind) → List A → List TokenKind
listed text [] = []
listed text (x ∷ xs) = text x ++ flat_map (after_comma text) xs

-- whether there are several, or none
abbrev pub several : {A : Type 0} → List A → Bool
several xs = negation (nat_eq (length xs) 1)

-- one by itself, several in parentheses
abbrev pub grouped : {A : Type 0} → (A → List TokenKind) → List A → List TokenKind
grouped text xs = enclosed (several xs) (listed text xs)

abbrev pub bracketed : List TokenKind → List TokenKind
bracketed ks = symbol LEFT_BRACKET ∷ ks ++ symbol RIGHT_BRACKET ∷ []

abbrev pub number : ℕ → ℕ → TokenKind
number digits places = if nat_eq places 0 then kind.Whole digits else kind.Point digits places

abbrev pub truth_word : Bool → ℕ
truth_word true = TRUE
truth_word false = FALSE

abbrev pub sign_text : Bool → List TokenKind
sign_text true = symbol MINUS ∷ []
sign_text false = []

abbrev pub lit_text : Lit → List TokenKind
lit_text (Number neg digits places at) = sign_text neg ++ number digits places ∷ []
lit_text (Truth value at) = word (truth_word value) ∷ []

-- Types and declarations. The mode is always written.
abbrev pub dims_text : List ℕ → List TokenKind
dims_text dims = flat_map (λ n. bracketed (kind.Whole n ∷ [])) dims

abbrev pub mode_text : Mode → List TokenKind
mode_text Trunc = word TRUNC ∷ []
mode_text Round = word ROUND ∷ []
mode_text Sat = word SAT ∷ []
mode_text RoundSat = word ROUND ∷ symbol COMMA ∷ word SAT ∷ []

abbrev pub fix_text : FixType → List TokenKind
fix_text ty =
    word FIX ∷ symbol LESS ∷ kind.Whole ty.shape.w ∷ symbol COMMA ∷ kind.Whole ty.shape.f
    ∷ symbol COMMA ∷ mode_text ty.mode ++ symbol GREATER ∷ []

abbrev pub type_text : SigType → List TokenKind
type_text (Fix ty) = fix_text ty
type_text Truths = word BOOL ∷ []

abbrev pub decl_text : Decl → List TokenKind
decl_text d = kind.Name d.name ∷ dims_text d.dims ++ symbol COLON ∷ type_text d.ty

-- Manifest constants.
abbrev pub manifest_precedence : Manifest → ℕ
manifest_precedence (whole value at) = precedence.primary
manifest_precedence (counter name at) = precedence.primary
manifest_precedence (minus at m) = precedence.unary
manifest_precedence (both at mop.Mul a b) = precedence.product
manifest_precedence (both at _ a b) = precedence.sum

-- the mark of an operator, and the precedences that its sides ask for
abbrev pub term_mark : MOp → ℕ
term_mark mop.Add = PLUS
term_mark mop.Sub = MINUS
term_mark mop.Mul = STAR

abbrev pub term_left : MOp → ℕ
term_left mop.Mul = precedence.product
term_left _ = precedence.sum

abbrev pub term_right : MOp → ℕ
term_right mop.Mul = precedence.unary
term_right _ = precedence.product

abbrev pub manifest_text : Manifest → List TokenKind
manifest_text (whole value at) = kind.Whole value ∷ []
manifest_text (counter name at) = kind.Name name ∷ []
manifest_text (minus at m) = symbol MINUS ∷ in_context precedence.unary (manifest_precedence m) (manifest_text m)
manifest_text (both at o a b) =
    in_context (term_left o) (manifest_precedence a) (manifest_text a) ++ symbol (term_mark o)
    ∷ in_context (term_right o) (manifest_precedence b) (manifest_text b)

abbrev pub manifest_in : (asked : ℕ) → Manifest → List TokenKind
manifest_in asked m = in_context asked (manifest_precedence m) (manifest_text m)

-- the amount of a delay, of a shift or of an initial value
abbrev pub amount_text : Manifest → List TokenKind
amount_text m = manifest_in precedence.primary m

-- Places.
abbrev pub subscript_text : Manifest → List TokenKind
subscript_text m = bracketed (manifest_text m)

abbrev pub subscripts_text : List Manifest → List TokenKind
subscripts_text ms = flat_map subscript_text ms

abbrev pub place_text : Place → List TokenKind
place_text p = kind.Name p.name ∷ subscripts_text p.subs

abbrev pub delay_text : Option Manifest → List TokenKind
delay_text None = []
delay_text (Some m) = symbol AT ∷ amount_text m

-- Expressions.
abbrev pub operator_mark : BinOp → ℕ
operator_mark op.Add = PLUS
operator_mark op.Sub = MINUS
operator_mark op.Mul = STAR
operator_mark op.Lt = LESS
operator_mark op.Le = LESS_EQUAL
operator_mark op.Eq = EQUAL_EQUAL
operator_mark op.Ne = BANG_EQUAL
operator_mark op.Gt = GREATER
operator_mark op.Ge = GREATER_EQUAL
operator_mark op.And = AMPERSAND
operator_mark op.Or = PIPE

-- the precedence of an operator, and what its sides ask for. Chains are left-associative, comparisons do not chain
abbrev pub operator_precedence : BinOp → ℕ
operator_precedence op.Or = precedence.or
operator_precedence op.And = precedence.and
operator_precedence op.Add = precedence.sum
operator_precedence op.Sub = precedence.sum
operator_precedence op.Mul = precedence.product
operator_precedence _ = precedence.comparison

abbrev pub left_precedence : BinOp → ℕ
left_precedence op.Or = precedence.or
left_precedence op.And = precedence.and
left_precedence op.Mul = precedence.product
left_precedence _ = precedence.sum

abbrev pub right_precedence : BinOp → ℕ
right_precedence op.Or = precedence.and
right_precedence op.And = precedence.comparison
right_precedence op.Add = precedence.product
right_precedence op.Sub = precedence.product
right_precedence op.Mul = precedence.shift
right_precedence _ = precedence.sum

abbrev pub expr_precedence : Expr → ℕ
expr_precedence (literal (Number true digits places at)) = precedence.unary
expr_precedence (negate at e) = precedence.unary
expr_precedence (not at e) = precedence.unary
expr_precedence (binary at o a b) = operator_precedence o
expr_precedence (shift at left e m) = precedence.shift
expr_precedence _ = precedence.primary

-- a number without a sign, which a `-` before it would make negative
abbrev pub is_unsigned : Expr → Bool
is_unsigned (literal (Number false digits places at)) = true
is_unsigned _ = false

-- whether an operand of `-` needs parentheses
abbrev pub is_loose_operand : Expr → Bool
is_loose_operand e = nat_lt (expr_precedence e) precedence.unary || is_unsigned e

abbrev pub shift_mark : Bool → ℕ
shift_mark true = LESS_LESS
shift_mark false = GREATER_GREATER

abbrev mutual
  pub expr_text : Expr → List TokenKind
  expr_text (literal l) = lit_text l
  expr_text (read p delay) = place_text p ++ delay_text delay
  expr_text (negate at e) = symbol MINUS ∷ enclosed (is_loose_operand e) (expr_text e)
  expr_text (not at e) = symbol BANG ∷ in_context precedence.unary (expr_precedence e) (expr_text e)
  expr_text (binary at o a b) =
      in_context (left_precedence o) (expr_precedence a) (expr_text a) ++ symbol (operator_mark o)
      ∷ in_context (right_precedence o) (expr_precedence b) (expr_text b)
  expr_text (shift at left e m) =
      in_context precedence.shift (expr_precedence e) (expr_text e) ++ symbol (shift_mark left) ∷ amount_text m
  expr_text (cast at ty e) = fix_text ty ++ enclosed true (expr_text e)
  expr_text (choose at bs last) = word IF ∷ branches_text bs ++ expr_text last ++ word FI ∷ []

  pub branches_text : Branches → List TokenKind
  branches_text no_branch = []
  branches_text (branch c v bs) = expr_text c ++ symbol ARROW ∷ expr_text v ++ symbol PIPE_PIPE ∷ branches_text bs

-- Items. One target is without parentheses.
-- a function's name and its arguments
abbrev pub call_text : List ℕ → List Expr → List TokenKind
call_text func args = kind.Name func ∷ symbol LEFT_PAREN ∷ listed expr_text args ++ symbol RIGHT_PAREN ∷ []

-- the index of a loop and its bounds
abbrev pub turns_text : List ℕ → Manifest → Manifest → List TokenKind
turns_text index lo hi =
    symbol LEFT_PAREN ∷ kind.Name index ∷ symbol COLON ∷ manifest_text lo
    ++ symbol DOT_DOT ∷ manifest_text hi ++ symbol RIGHT_PAREN ∷ []

-- an item without the `;` after it
abbrev mutual
  pub clause_text : Item → List TokenKind
  clause_text (equation p e) = place_text p ++ symbol EQUAL ∷ expr_text e
  clause_text (call places func args at) = grouped place_text places ++ symbol EQUAL ∷ call_text func args
  clause_text (loop index lo hi items at) =
      turns_text index lo hi ++ symbol COLON_COLON ∷ word BEGIN ∷ items_text items ++ word END ∷ []
  clause_text (initial p k value) = place_text p ++ symbol AT_AT ∷ amount_text k ++ symbol EQUAL ∷ lit_text value

  pub items_text : Items → List TokenKind
  items_text no_item = []
  items_text (item x xs) = clause_text x ++ symbol SEMICOLON ∷ items_text xs

-- Tables, functions and programs. One result is without parentheses, and each local has its own `var`.
abbrev pub words_text : List ℕ → List Lit → List TokenKind
words_text dims words = enclosed (nat_lt 0 (length dims) || nat_lt 1 (length words)) (listed lit_text words)

abbrev pub table_text : ConstDef → List TokenKind
table_text c =
    word CONST ∷ kind.Name c.name ∷ dims_text c.dims ++ symbol COLON ∷ fix_text c.ty
    ++ symbol EQUAL ∷ words_text c.dims c.words ++ symbol SEMICOLON ∷ []

abbrev pub local_text : Decl → List TokenKind
local_text d = word VAR ∷ decl_text d ++ symbol SEMICOLON ∷ []

abbrev pub head_text : Func → List TokenKind
head_text f =
    word FUNC ∷ kind.Name f.name ∷ enclosed true (listed decl_text f.params) ++ grouped decl_text f.results

abbrev pub body_text : List Decl → Items → List TokenKind
body_text locals items =
    word BEGIN ∷ flat_map local_text locals ++ items_text items ++ word END ∷ symbol SEMICOLON ∷ []

abbrev pub func_text : Func → List TokenKind
func_text f = head_text f ++ symbol EQUAL ∷ body_text f.locals f.items

abbrev pub top_text : Top → List TokenKind
top_text (table c) = table_text c
top_text (function f) = func_text f

abbrev pub tops_text : List Top → List TokenKind
tops_text tops = flat_map top_text tops

abbrev pub program_text : Program → List TokenKind
program_text p = tops_text p.tops

-- the bytes of the canonical text
abbrev pub canonical : Program → List ℕ
canonical p = spelled (program_text p)
