-- Tokens and the program that they are. Token k begins at byte k, so that a position is the number of a token.
use Rattle.std.specs.Prelude.{◌≡◌, ℕ, ◌+◌, codes, true, false, List, [], ◌∷◌, Some, None, map, replicate}
use Rattle.fix_word.specs.declared.types.Mode.TheVariants.{Trunc, Round, Sat, RoundSat}
use Rattle.fix_word.specs.declared.types.SigType.{SigType}
use Rattle.fix_word.specs.declared.types.SigType.TheVariants as sig
use Rattle.silage_lex.specs.declared.Token.{Token}
use Rattle.silage_lex.specs.declared.TokenKind.{TokenKind}
use Rattle.silage_lex.specs.declared.TokenKind.TheVariants as kind
use Rattle.silage_lex.specs.declared.keywords.TheConstants.{FUNC, CONST, VAR, BEGIN, END, FIX, BOOL, TRUNC, ROUND, IF}
use Rattle.silage_lex.specs.declared.keywords.TheConstants.{FI}
use Rattle.silage_lex.specs.declared.keywords.TheConstants.{TRUE, FALSE, SAT}
use Rattle.silage_lex.specs.declared.punctuation.TheConstants.{COLON_COLON, DOT_DOT, EQUAL_EQUAL, BANG_EQUAL}
use Rattle.silage_lex.specs.declared.punctuation.TheConstants.{LESS_EQUAL}
use Rattle.silage_lex.specs.declared.punctuation.TheConstants.{GREATER_EQUAL, LESS_LESS, GREATER_GREATER, ARROW}
use Rattle.silage_lex.specs.declared.punctuation.TheConstants.{PIPE_PIPE}
use Rattle.silage_lex.specs.declared.punctuation.TheConstants.{AT_AT, LEFT_PAREN, RIGHT_PAREN, LEFT_BRACKET}
use Rattle.silage_lex.specs.declared.punctuation.TheConstants.{RIGHT_BRACKET}
use Rattle.silage_lex.specs.declared.punctuation.TheConstants.{COMMA, SEMICOLON, COLON, EQUAL, LESS, GREATER, PLUS}
use Rattle.silage_lex.specs.declared.punctuation.TheConstants.{MINUS}
use Rattle.silage_lex.specs.declared.punctuation.TheConstants.{STAR, AMPERSAND, PIPE, BANG, AT}
use Rattle.silage_syntax.specs.declared.tree.BinOp.TheVariants as op
use Rattle.silage_syntax.specs.declared.tree.Decl.{Decl}
use Rattle.silage_syntax.specs.declared.tree.Lit.TheVariants.{Number, Truth}
use Rattle.silage_syntax.specs.declared.tree.MOp.TheVariants as mop
use Rattle.silage_syntax.specs.Grammar.{weighs}
use Rattle.silage_syntax.specs.Tree.{Manifest, whole, counter, minus, both, Place, Expr, literal, read, negate, not}
use Rattle.silage_syntax.specs.Tree.{binary}
use Rattle.silage_syntax.specs.Tree.{shift, cast, choose, no_branch, branch, Item, equation, call, loop, initial}
use Rattle.silage_syntax.specs.Tree.{items_of}
use Rattle.silage_syntax.specs.Tree.{Func, Top, table, function}
use Rattle.silage_parse.specs.Answers.{IsOnly}
use Rattle.worked_values.specs.Trees.{fix_type}

-- a name, a whole number, a number with a point, a reserved word, a symbol
abbrev pub n : List ℕ → TokenKind
n = kind.Name

abbrev pub w : ℕ → TokenKind
w = kind.Whole

abbrev pub r : ℕ → TokenKind
r = kind.Reserved

abbrev pub s : ℕ → TokenKind
s = kind.Symbol

-- the tokens of these kinds, from this one on
abbrev pub tokens_from : ℕ → List TokenKind → List Token
tokens_from k [] = []
tokens_from k (x ∷ xs) = record { kind = x; from = k; to = k + 1; line = 1 } ∷ tokens_from (k + 1) xs

abbrev pub kinds : List TokenKind
kinds =
    -- const k[2] : fix<8,4,round,sat> = (0.5, -1);
    r CONST ∷ n (codes "k") ∷ s LEFT_BRACKET ∷ w 2 ∷ s RIGHT_BRACKET ∷ s COLON ∷ r FIX ∷ s LESS ∷ w 8 ∷ s COMMA
    ∷ w 4 ∷ s COMMA ∷ r ROUND ∷ s COMMA ∷ r SAT ∷ s GREATER ∷ s EQUAL ∷ s LEFT_PAREN ∷ kind.Point 5 1 ∷ s COMMA
    ∷ s MINUS ∷ w 1 ∷ s RIGHT_PAREN ∷ s SEMICOLON
    -- func f(x : fix<8,4>, v[2] : bool) (y : bool, z[2][3] : fix<9,0,sat>) =
    ∷ r FUNC ∷ n (codes "f") ∷ s LEFT_PAREN ∷ n (codes "x") ∷ s COLON ∷ r FIX ∷ s LESS ∷ w 8 ∷ s COMMA ∷ w 4
    ∷ s GREATER ∷ s COMMA ∷ n (codes "v") ∷ s LEFT_BRACKET ∷ w 2 ∷ s RIGHT_BRACKET ∷ s COLON ∷ r BOOL
    ∷ s RIGHT_PAREN ∷ s LEFT_PAREN ∷ n (codes "y") ∷ s COLON ∷ r BOOL ∷ s COMMA ∷ n (codes "z") ∷ s LEFT_BRACKET
    ∷ w 2 ∷ s RIGHT_BRACKET ∷ s LEFT_BRACKET ∷ w 3 ∷ s RIGHT_BRACKET ∷ s COLON ∷ r FIX ∷ s LESS ∷ w 9 ∷ s COMMA
    ∷ w 0 ∷ s COMMA ∷ r SAT ∷ s GREATER ∷ s RIGHT_PAREN ∷ s EQUAL
    -- begin var p, q : fix<8,4,trunc>;
    ∷ r BEGIN ∷ r VAR ∷ n (codes "p") ∷ s COMMA ∷ n (codes "q") ∷ s COLON ∷ r FIX ∷ s LESS ∷ w 8 ∷ s COMMA ∷ w 4
    ∷ s COMMA ∷ r TRUNC ∷ s GREATER ∷ s SEMICOLON
    -- y = !v[0] & x < q + k[1] * -x << 1 | true;
    ∷ n (codes "y") ∷ s EQUAL ∷ s BANG ∷ n (codes "v") ∷ s LEFT_BRACKET ∷ w 0 ∷ s RIGHT_BRACKET ∷ s AMPERSAND
    ∷ n (codes "x") ∷ s LESS ∷ n (codes "q") ∷ s PLUS ∷ n (codes "k") ∷ s LEFT_BRACKET ∷ w 1 ∷ s RIGHT_BRACKET
    ∷ s STAR ∷ s MINUS ∷ n (codes "x") ∷ s LESS_LESS ∷ w 1 ∷ s PIPE ∷ r TRUE ∷ s SEMICOLON
    -- z[i - 1][2 * -(3)] = if y -> -1.5 || v[1] -> x@2 || fix<9,0,round>(x >> 1) fi;
    ∷ n (codes "z") ∷ s LEFT_BRACKET ∷ n (codes "i") ∷ s MINUS ∷ w 1 ∷ s RIGHT_BRACKET ∷ s LEFT_BRACKET ∷ w 2
    ∷ s STAR ∷ s MINUS ∷ s LEFT_PAREN ∷ w 3 ∷ s RIGHT_PAREN ∷ s RIGHT_BRACKET ∷ s EQUAL ∷ r IF ∷ n (codes "y")
    ∷ s ARROW ∷ s MINUS ∷ kind.Point 15 1 ∷ s PIPE_PIPE ∷ n (codes "v") ∷ s LEFT_BRACKET ∷ w 1 ∷ s RIGHT_BRACKET
    ∷ s ARROW ∷ n (codes "x") ∷ s AT ∷ w 2 ∷ s PIPE_PIPE ∷ r FIX ∷ s LESS ∷ w 9 ∷ s COMMA ∷ w 0 ∷ s COMMA ∷ r ROUND
    ∷ s GREATER ∷ s LEFT_PAREN ∷ n (codes "x") ∷ s GREATER_GREATER ∷ w 1 ∷ s RIGHT_PAREN ∷ r FI ∷ s SEMICOLON
    -- (p, q) = f(x, y);
    ∷ s LEFT_PAREN ∷ n (codes "p") ∷ s COMMA ∷ n (codes "q") ∷ s RIGHT_PAREN ∷ s EQUAL ∷ n (codes "f")
    ∷ s LEFT_PAREN ∷ n (codes "x") ∷ s COMMA ∷ n (codes "y") ∷ s RIGHT_PAREN ∷ s SEMICOLON
    -- p = g(-(x));
    ∷ n (codes "p") ∷ s EQUAL ∷ n (codes "g") ∷ s LEFT_PAREN ∷ s MINUS ∷ s LEFT_PAREN ∷ n (codes "x")
    ∷ s RIGHT_PAREN ∷ s RIGHT_PAREN ∷ s SEMICOLON
    -- (i : 0 .. 3) :: begin q = x; end;
    ∷ s LEFT_PAREN ∷ n (codes "i") ∷ s COLON ∷ w 0 ∷ s DOT_DOT ∷ w 3 ∷ s RIGHT_PAREN ∷ s COLON_COLON ∷ r BEGIN
    ∷ n (codes "q") ∷ s EQUAL ∷ n (codes "x") ∷ s SEMICOLON ∷ r END ∷ s SEMICOLON
    -- p @@ 1 = -1;
    ∷ n (codes "p") ∷ s AT_AT ∷ w 1 ∷ s EQUAL ∷ s MINUS ∷ w 1 ∷ s SEMICOLON
    -- end;
    ∷ r END ∷ s SEMICOLON
    ∷ []

-- a declared name, a name alone, with one subscript, and read
abbrev pub decl : (name : List ℕ) → (at : ℕ) → (dims : List ℕ) → SigType → Decl
decl name at dims ty = record { name = name; at = at; dims = dims; ty = ty }

abbrev pub place : (name : List ℕ) → (at : ℕ) → List Manifest → Place
place name at subs = record { name = name; at = at; subs = subs }

abbrev pub var : List ℕ → (at : ℕ) → Expr
var name at = read (place name at []) None

abbrev pub entry : List ℕ → (at : ℕ) → Manifest → Expr
entry name at sub = read (place name at (sub ∷ [])) None

abbrev pub eight_four : SigType
eight_four = sig.Fix (fix_type 8 4 Trunc)

-- k[2] of fix<8,4,round,sat>: 0.5 and -1
abbrev pub the_table : Top
the_table =
    table (record {
      name = codes "k";
      at = 1;
      dims = 2 ∷ [];
      ty = fix_type 8 4 RoundSat;
      words = Number false 5 1 18 ∷ Number true 1 0 20 ∷ [];
    })

-- (!v[0] & (x < (q + (k[1] * ((-x) << 1))))) | true
abbrev pub nested : Expr
nested =
    binary 102 op.Or
    (binary 88 op.And (not 83 (entry (codes "v") 84 (whole 0 86)))
    (binary 90 op.Lt (var (codes "x") 89)
    (binary 92 op.Add (var (codes "q") 91)
    (binary 97 op.Mul (entry (codes "k") 93 (whole 1 95))
    (shift 100 true (negate 98 (var (codes "x") 99)) (whole 1 101))))))
    (literal (Truth true 103))

-- if y -> -1.5 || v[1] -> x@2 || fix<9,0,round>(x >> 1) fi
abbrev pub chosen : Expr
chosen =
    choose 120
    (branch (var (codes "y") 121) (literal (Number true 15 1 123))
    (branch (entry (codes "v") 126 (whole 1 128)) (read (place (codes "x") 131 []) (Some (whole 2 133))) no_branch))
    (cast 135 (fix_type 9 0 Round) (shift 145 false (var (codes "x") 144) (whole 1 146)))

-- z[i - 1][2 * -(3)]
abbrev pub target : Place
target =
    place (codes "z") 105
    (both 108 mop.Sub (counter (codes "i") 107) (whole 1 109) ∷ both 113 mop.Mul (whole 2 112) (minus 114 (whole 3 116))
    ∷ [])

abbrev pub the_items : List Item
the_items =
    equation (place (codes "y") 81 []) nested
    ∷ equation target chosen
    ∷ call (place (codes "p") 151 [] ∷ place (codes "q") 153 [] ∷ []) (codes "f")
    (var (codes "x") 158 ∷ var (codes "y") 160 ∷ []) 156
    ∷ call (place (codes "p") 163 [] ∷ []) (codes "g") (negate 167 (var (codes "x") 169) ∷ []) 165
    ∷ loop (codes "i") (whole 0 176) (whole 3 178)
    (items_of (equation (place (codes "q") 182 []) (var (codes "x") 184) ∷ [])) 173
    ∷ initial (place (codes "p") 188 []) (whole 1 190) (Number true 1 0 192)
    ∷ []

abbrev pub the_function : Func
the_function = record {
  name = codes "f";
  at = 25;
  params = decl (codes "x") 27 [] eight_four ∷ decl (codes "v") 36 (2 ∷ []) sig.Bool ∷ [];
  results =
      decl (codes "y") 44 [] sig.Bool ∷ decl (codes "z") 48 (2 ∷ 3 ∷ []) (sig.Fix (fix_type 9 0 Sat)) ∷ [];
  locals = decl (codes "p") 68 [] eight_four ∷ decl (codes "q") 70 [] eight_four ∷ [];
  items = items_of the_items;
}

-- these tokens are this program, and no other
abbrev pub TokensAreTheProgram : Type 0
TokensAreTheProgram = IsOnly (tokens_from 0 kinds) (record { tops = the_table ∷ function the_function ∷ [] })

-- what counts in the weight of an expression, and what does not
abbrev pub heavy : List TokenKind
heavy =
    s LEFT_PAREN ∷ s LEFT_BRACKET ∷ s PLUS ∷ s MINUS ∷ s STAR ∷ s BANG ∷ s AMPERSAND ∷ s PIPE ∷ s LESS_LESS
    ∷ s GREATER_GREATER ∷ s LESS ∷ s LESS_EQUAL ∷ s EQUAL_EQUAL ∷ s BANG_EQUAL ∷ s GREATER ∷ s GREATER_EQUAL ∷ s AT
    ∷ r IF ∷ s ARROW ∷ s PIPE_PIPE ∷ r FIX ∷ []

abbrev pub light : List TokenKind
light =
    s RIGHT_PAREN ∷ s RIGHT_BRACKET ∷ s COMMA ∷ s SEMICOLON ∷ s COLON ∷ s COLON_COLON ∷ s EQUAL ∷ s DOT_DOT ∷ s AT_AT
    ∷ r FI ∷ r TRUE ∷ r FALSE ∷ r BOOL ∷ r TRUNC ∷ r ROUND ∷ r SAT ∷ r FUNC ∷ r CONST ∷ r VAR ∷ r BEGIN ∷ r END
    ∷ n (codes "x") ∷ w 1 ∷ kind.Point 5 1 ∷ []

abbrev pub KindsHaveWeights : Type 0
KindsHaveWeights = (map weighs heavy ≡ replicate 21 true) × (map weighs light ≡ replicate 24 false)
