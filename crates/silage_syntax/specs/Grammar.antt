-- The grammar: which tokens are which tree. The production in EBNF is above each rule; a rule has one case for each way
-- through its production. A chain continues from the tree before it, so that chains are left-associative.
use Rattle.std.specs.Prelude.{◌≡◌, ℕ, ◌+◌, ◌-◌, ◌^◌, ◌||◌, if◌then◌else◌, nat_eq, min, Bool, true, false, List, [], ◌∷◌}
use Rattle.std.specs.Prelude.{◌++◌, map, Option, Some, None, length, slice_get, slice_range}
use Rattle.std.specs.List.{range_with_len}
use Rattle.fix_word.specs.declared.types.FixType.{FixType}
use Rattle.fix_word.specs.declared.types.Mode.{Mode}
use Rattle.fix_word.specs.declared.types.Mode.TheVariants.{Trunc, Round, Sat, RoundSat}
use Rattle.fix_word.specs.declared.types.SigType.{SigType}
use Rattle.fix_word.specs.declared.types.SigType.TheVariants.{Fix, Bool as Truths}
use Rattle.silage_lex.specs.declared.Token.{Token}
use Rattle.silage_lex.specs.declared.TokenKind.{TokenKind}
use Rattle.silage_lex.specs.declared.TokenKind.TheVariants as kind
use Rattle.silage_lex.specs.declared.punctuation.TheConstants.{COLON_COLON, DOT_DOT, EQUAL_EQUAL, BANG_EQUAL}
use Rattle.silage_lex.specs.declared.punctuation.TheConstants.{LESS_EQUAL, GREATER_EQUAL, LESS_LESS, GREATER_GREATER}
use Rattle.silage_lex.specs.declared.punctuation.TheConstants.{ARROW, PIPE_PIPE, AT_AT, LEFT_PAREN, RIGHT_PAREN}
use Rattle.silage_lex.specs.declared.punctuation.TheConstants.{LEFT_BRACKET, RIGHT_BRACKET, COMMA, SEMICOLON, COLON}
use Rattle.silage_lex.specs.declared.punctuation.TheConstants.{EQUAL, LESS, GREATER, PLUS, MINUS, STAR, AMPERSAND, PIPE}
use Rattle.silage_lex.specs.declared.punctuation.TheConstants.{BANG, AT}
use Rattle.silage_lex.specs.declared.keywords.TheConstants.{FUNC, CONST, VAR, BEGIN, END, FIX, BOOL, TRUNC, ROUND, IF}
use Rattle.silage_lex.specs.declared.keywords.TheConstants.{FI, TRUE, FALSE, SAT}
use Rattle.silage_syntax.specs.declared.tree.BinOp.{BinOp}
use Rattle.silage_syntax.specs.declared.tree.BinOp.TheVariants as op
use Rattle.silage_syntax.specs.declared.tree.MOp.{MOp}
use Rattle.silage_syntax.specs.declared.tree.MOp.TheVariants as mop
use Rattle.silage_syntax.specs.declared.tree.Lit.{Lit}
use Rattle.silage_syntax.specs.declared.tree.Lit.TheVariants.{Number, Truth}
use Rattle.silage_syntax.specs.declared.tree.Decl.{Decl}
use Rattle.silage_syntax.specs.Tree.{Manifest, whole, counter, minus, both, Place, Expr, literal, read, negate, not}
use Rattle.silage_syntax.specs.Tree.{binary, shift, cast, choose, Branches, no_branch, branch, Item, equation, call}
use Rattle.silage_syntax.specs.Tree.{loop, initial, Items, no_item, item, Top, table, function, Program}

-- What tokens are. The position of a token is the byte at which it begins.
abbrev pub kind_of : Option Token → Option TokenKind
kind_of None = None
kind_of (Some t) = Some t.kind

abbrev pub from_of : Option Token → ℕ
from_of None = 0
from_of (Some t) = t.from

-- the digits of a number, and how many of them are after the point
abbrev pub number_of : Option TokenKind → Option (ℕ × ℕ)
number_of (Some (kind.Whole n)) = Some (n, 0)
number_of (Some (kind.Point digits places)) = Some (digits, places)
number_of _ = None

-- what a table has at a number
abbrev pub row : {A : Type 0} → List (ℕ × A) → ℕ → Option A
row [] n = None
row (x ∷ xs) n = if nat_eq x.0 n then Some x.1 else row xs n

-- what a table of punctuation, or of keywords, has for a token
abbrev pub marked : {A : Type 0} → List (ℕ × A) → Option TokenKind → Option A
marked xs (Some (kind.Symbol n)) = row xs n
marked xs _ = None

abbrev pub worded : {A : Type 0} → List (ℕ × A) → Option TokenKind → Option A
worded xs (Some (kind.Reserved n)) = row xs n
worded xs _ = None

-- "true" | "false"
abbrev pub truth_of : Option TokenKind → Option Bool
truth_of k = worded ((TRUE, true) ∷ (FALSE, false) ∷ []) k

-- "+" | "-"
abbrev pub term_operator : Option TokenKind → Option MOp
term_operator k = marked ((PLUS, mop.Add) ∷ (MINUS, mop.Sub) ∷ []) k

-- "<" | "<=" | "==" | "!=" | ">" | ">="
abbrev pub comparison : Option TokenKind → Option BinOp
comparison k =
    marked ((LESS, op.Lt) ∷ (LESS_EQUAL, op.Le) ∷ (EQUAL_EQUAL, op.Eq) ∷ (BANG_EQUAL, op.Ne) ∷ (GREATER, op.Gt)
    ∷ (GREATER_EQUAL, op.Ge) ∷ []) k

-- "<<" | ">>", and whether it shifts to the left
abbrev pub shift_operator : Option TokenKind → Option Bool
shift_operator k = marked ((LESS_LESS, true) ∷ (GREATER_GREATER, false) ∷ []) k

-- What tokens make. A dim or a size that is too great for its field is the greatest number there, out of range.
abbrev pub dim : ℕ → ℕ
dim n = min n (2 ^ 32 - 1)

abbrev pub size : ℕ → ℕ
size n = min n 255

abbrev pub fix_type : ℕ → ℕ → Mode → FixType
fix_type w f mode = record { shape = record { w = size w; f = size f }; mode = mode }

-- a declared name with its dims
pub record Declared : Type 0 where
  pub name : List ℕ
  pub at : ℕ
  pub dims : List ℕ

abbrev pub typed : SigType → Declared → Decl
typed ty d = record { name = d.name; at = d.at; dims = d.dims; ty = ty }

-- The nonterminals of manifest constants. A chain continues from its first terms, or factors.
pub data ManifestRule : Type 0 where
  Manifest_ : ManifestRule
  Terms : Manifest → ManifestRule
  Term : ManifestRule
  Factors : Manifest → ManifestRule
  Factor : ManifestRule
  Primary_ : ManifestRule

-- The operators whose chains are left-associative, the loosest first.
pub data Level : Type 0 where
  Or : Level
  And : Level
  Sum : Level
  Product : Level

-- The nonterminals of expressions. A chain continues from an expression; `Arms` are the arms of a conditional after its
-- first, and the position is that of its `if`.
pub data ExprRule : Type 0 where
  Chain : Level → ExprRule
  Rest : Level → Expr → ExprRule
  Comparison : ExprRule
  Shift : ExprRule
  Shifts : Expr → ExprRule
  Unary : ExprRule
  Primary : ExprRule
  Arms : ℕ → ExprRule

-- what is between the operators of a chain
abbrev pub part : Level → ExprRule
part Or = Chain And
part And = Comparison
part Sum = Chain Product
part Product = Shift

abbrev pub operator : Level → Option TokenKind → Option BinOp
operator Or k = marked ((PIPE, op.Or) ∷ []) k
operator And k = marked ((AMPERSAND, op.And) ∷ []) k
operator Sum k = marked ((PLUS, op.Add) ∷ (MINUS, op.Sub) ∷ []) k
operator Product k = marked ((STAR, op.Mul) ∷ []) k

-- What a token is to the nesting limits. An outermost expression is a right side, an argument of a call, a subscript
-- of a target, a bound of a loop or the amount of an initial value.
pub data Role : Type 0 where
  -- none of those below
  Plain : Role
  -- after it an outermost expression begins, with no weight so far
  Starts : Role
  -- it counts in the weight of the outermost expression around it
  Weighs : Role
  -- the `begin` of a loop, and its `end`
  Enters : Role
  Leaves : Role

abbrev pub among : List ℕ → ℕ → Bool
among [] n = false
among (m ∷ ms) n = nat_eq m n || among ms n

-- the tokens that count in the weight of an expression
abbrev pub weighs : TokenKind → Bool
weighs (kind.Symbol n) =
    among (LEFT_PAREN ∷ LEFT_BRACKET ∷ MINUS ∷ BANG ∷ PLUS ∷ STAR ∷ LESS_LESS ∷ GREATER_GREATER
    ∷ LESS ∷ LESS_EQUAL ∷ EQUAL_EQUAL ∷ BANG_EQUAL ∷ GREATER ∷ GREATER_EQUAL
    ∷ AMPERSAND ∷ PIPE ∷ PIPE_PIPE ∷ ARROW ∷ AT ∷ []) n
weighs (kind.Reserved n) = among (IF ∷ FIX ∷ []) n
weighs _ = false

abbrev pub weight_role : Token → Role
weight_role t = if weighs t.kind then Weighs else Plain

-- tokens from i to j that are outside of outermost expressions
abbrev pub plain : ℕ → ℕ → List Role
plain i j = map (λ _. Plain) (range_with_len i (j - i))

-- In a list of tokens. Each rule says which tokens, from the first number up to the second, are which part of the tree.
module _ (ts : List Token) where
  abbrev pub kind_at : ℕ → Option TokenKind
  kind_at i = kind_of (slice_get ts i)

  -- the position of token i
  abbrev pub from_at : ℕ → ℕ
  from_at i = from_of (slice_get ts i)

  -- token i is this punctuation, this keyword, this name, this number without a point, this number
  abbrev pub IsPunctuation : ℕ → ℕ → Type 0
  IsPunctuation i n = kind_at i ≡ Some (kind.Symbol n)

  abbrev pub IsKeyword : ℕ → ℕ → Type 0
  IsKeyword i n = kind_at i ≡ Some (kind.Reserved n)

  abbrev pub IsName : ℕ → List ℕ → Type 0
  IsName i name = kind_at i ≡ Some (kind.Name name)

  abbrev pub IsWhole : ℕ → ℕ → Type 0
  IsWhole i n = kind_at i ≡ Some (kind.Whole n)

  abbrev pub IsNumber : ℕ → ℕ → ℕ → Type 0
  IsNumber i digits places = number_of (kind_at i) ≡ Some (digits, places)

  -- the roles of the tokens of an outermost expression
  abbrev pub weights : ℕ → ℕ → List Role
  weights i j = map weight_role (slice_range ts i j)

  -- one { "," one }
  pub data IsList (A : Type 0) (One : ℕ → A → ℕ → Type 0) : ℕ → List A → ℕ → Type 0 where
    last : {i j : ℕ} {x : A}
        → One i x j
        → IsList A One i (x ∷ []) j
    more : {i j k : ℕ} {x : A} {xs : List A}
        → One i x j
        → IsPunctuation j COMMA
        → IsList A One (j + 1) xs k
        → IsList A One i (x ∷ xs) k

  -- signed = [ "-" ] number
  pub data IsSigned : ℕ → Lit → ℕ → Type 0 where
    positive : {i d p : ℕ}
        → IsNumber i d p
        → IsSigned i (Number false d p (from_at i)) (i + 1)
    negative : {i d p : ℕ}
        → IsPunctuation i MINUS
        → IsNumber (i + 1) d p
        → IsSigned i (Number true d p (from_at i)) (i + 2)

  -- dims = [ "[" whole "]" [ "[" whole "]" ] ]
  pub data IsDims : ℕ → List ℕ → ℕ → Type 0 where
    scalar : {i : ℕ} → IsDims i [] i
    vector : {i n : ℕ}
        → IsPunctuation i LEFT_BRACKET
        → IsWhole (i + 1) n
        → IsPunctuation (i + 2) RIGHT_BRACKET
        → IsDims i (dim n ∷ []) (i + 3)
    matrix : {i n m : ℕ}
        → IsPunctuation i LEFT_BRACKET
        → IsWhole (i + 1) n
        → IsPunctuation (i + 2) RIGHT_BRACKET
        → IsPunctuation (i + 3) LEFT_BRACKET
        → IsWhole (i + 4) m
        → IsPunctuation (i + 5) RIGHT_BRACKET
        → IsDims i (dim n ∷ dim m ∷ []) (i + 6)

  -- "trunc" | "round" [ "," "sat" ] | "sat"
  pub data IsMode : ℕ → Mode → ℕ → Type 0 where
    trunc : {i : ℕ}
        → IsKeyword i TRUNC
        → IsMode i Trunc (i + 1)
    round : {i : ℕ}
        → IsKeyword i ROUND
        → IsMode i Round (i + 1)
    round_sat : {i : ℕ}
        → IsKeyword i ROUND
        → IsPunctuation (i + 1) COMMA
        → IsKeyword (i + 2) SAT
        → IsMode i RoundSat (i + 3)
    sat : {i : ℕ}
        → IsKeyword i SAT
        → IsMode i Sat (i + 1)

  -- fix = "fix" "<" whole "," whole [ "," ( "trunc" | "round" [ "," "sat" ] | "sat" ) ] ">"
  pub data IsFix : ℕ → FixType → ℕ → Type 0 where
    no_mode : {i w f : ℕ}
        → IsKeyword i FIX
        → IsPunctuation (i + 1) LESS
        → IsWhole (i + 2) w
        → IsPunctuation (i + 3) COMMA
        → IsWhole (i + 4) f
        → IsPunctuation (i + 5) GREATER
        → IsFix i (fix_type w f Trunc) (i + 6)
    with_mode : {i j w f : ℕ} {m : Mode}
        → IsKeyword i FIX
        → IsPunctuation (i + 1) LESS
        → IsWhole (i + 2) w
        → IsPunctuation (i + 3) COMMA
        → IsWhole (i + 4) f
        → IsPunctuation (i + 5) COMMA
        → IsMode (i + 6) m j
        → IsPunctuation j GREATER
        → IsFix i (fix_type w f m) (j + 1)

  -- type = fix | "bool"
  pub data IsType : ℕ → SigType → ℕ → Type 0 where
    fix : {i j : ℕ} {f : FixType}
        → IsFix i f j
        → IsType i (Fix f) j
    bool : {i : ℕ}
        → IsKeyword i BOOL
        → IsType i Truths (i + 1)

  -- declared = name dims
  pub data IsDeclared : ℕ → Declared → ℕ → Type 0 where
    declared : {i j : ℕ} {name dims : List ℕ}
        → IsName i name
        → IsDims (i + 1) dims j
        → IsDeclared i (record { name = name; at = from_at i; dims = dims }) j

  -- decl = declared ":" type
  pub data IsDecl : ℕ → Decl → ℕ → Type 0 where
    decl : {i j k : ℕ} {d : Declared} {ty : SigType}
        → IsDeclared i d j
        → IsPunctuation j COLON
        → IsType (j + 1) ty k
        → IsDecl i (typed ty d) k

  pub data IsManifest : ManifestRule → ℕ → Manifest → ℕ → Type 0 where
    -- manifest = term { ( "+" | "-" ) term }
    terms : {i j k : ℕ} {a m : Manifest}
        → IsManifest Term i a j
        → IsManifest (Terms a) j m k
        → IsManifest Manifest_ i m k
    no_term : {i : ℕ} {a : Manifest} → IsManifest (Terms a) i a i
    one_term : {i j k : ℕ} {a b m : Manifest} {o : MOp}
        → term_operator (kind_at i) ≡ Some o
        → IsManifest Term (i + 1) b j
        → IsManifest (Terms (both (from_at i) o a b)) j m k
        → IsManifest (Terms a) i m k
    -- term = factor { "*" factor }
    factors : {i j k : ℕ} {a m : Manifest}
        → IsManifest Factor i a j
        → IsManifest (Factors a) j m k
        → IsManifest Term i m k
    no_factor : {i : ℕ} {a : Manifest} → IsManifest (Factors a) i a i
    one_factor : {i j k : ℕ} {a b m : Manifest}
        → IsPunctuation i STAR
        → IsManifest Factor (i + 1) b j
        → IsManifest (Factors (both (from_at i) mop.Mul a b)) j m k
        → IsManifest (Factors a) i m k
    -- factor = "-" factor | manifest_primary
    minus_factor : {i j : ℕ} {m : Manifest}
        → IsPunctuation i MINUS
        → IsManifest Factor (i + 1) m j
        → IsManifest Factor i (minus (from_at i) m) j
    primary_factor : {i j : ℕ} {m : Manifest}
        → IsManifest Primary_ i m j
        → IsManifest Factor i m j
    -- manifest_primary = whole | name | "(" manifest ")"
    whole_primary : {i n : ℕ}
        → IsWhole i n
        → IsManifest Primary_ i (whole n (from_at i)) (i + 1)
    name_primary : {i : ℕ} {name : List ℕ}
        → IsName i name
        → IsManifest Primary_ i (counter name (from_at i)) (i + 1)
    paren_primary : {i j : ℕ} {m : Manifest}
        → IsPunctuation i LEFT_PAREN
        → IsManifest Manifest_ (i + 1) m j
        → IsPunctuation j RIGHT_PAREN
        → IsManifest Primary_ i m (j + 1)

  -- subscripts = [ "[" manifest "]" [ "[" manifest "]" ] ]
  pub data IsSubscripts : ℕ → List Manifest → ℕ → Type 0 where
    no_sub : {i : ℕ} → IsSubscripts i [] i
    one_sub : {i j : ℕ} {m : Manifest}
        → IsPunctuation i LEFT_BRACKET
        → IsManifest Manifest_ (i + 1) m j
        → IsPunctuation j RIGHT_BRACKET
        → IsSubscripts i (m ∷ []) (j + 1)
    two_subs : {i j k : ℕ} {m n : Manifest}
        → IsPunctuation i LEFT_BRACKET
        → IsManifest Manifest_ (i + 1) m j
        → IsPunctuation j RIGHT_BRACKET
        → IsPunctuation (j + 1) LEFT_BRACKET
        → IsManifest Manifest_ (j + 2) n k
        → IsPunctuation k RIGHT_BRACKET
        → IsSubscripts i (m ∷ n ∷ []) (k + 1)

  -- [ "@" manifest_primary ]
  pub data IsDelay : ℕ → Option Manifest → ℕ → Type 0 where
    no_delay : {i : ℕ} → IsDelay i None i
    delay : {i j : ℕ} {m : Manifest}
        → IsPunctuation i AT
        → IsManifest Primary_ (i + 1) m j
        → IsDelay i (Some m) j

  pub data IsExpr : ExprRule → ℕ → Expr → ℕ → Type 0 where
    -- expression = and { "|" and }
    -- and = comparison { "&" comparison }
    -- sum = product { ( "+" | "-" ) product }
    -- product = shift { "*" shift }
    chain : {l : Level} {i j k : ℕ} {a e : Expr}
        → IsExpr (part l) i a j
        → IsExpr (Rest l a) j e k
        → IsExpr (Chain l) i e k
    no_more : {l : Level} {i : ℕ} {a : Expr} → IsExpr (Rest l a) i a i
    one_more : {l : Level} {i j k : ℕ} {a b e : Expr} {o : BinOp}
        → operator l (kind_at i) ≡ Some o
        → IsExpr (part l) (i + 1) b j
        → IsExpr (Rest l (binary (from_at i) o a b)) j e k
        → IsExpr (Rest l a) i e k
    -- comparison = sum [ ( "<" | "<=" | "==" | "!=" | ">" | ">=" ) sum ]
    no_comparison : {i j : ℕ} {a : Expr}
        → IsExpr (Chain Sum) i a j
        → IsExpr Comparison i a j
    comparison_of : {i j k : ℕ} {a b : Expr} {o : BinOp}
        → IsExpr (Chain Sum) i a j
        → comparison (kind_at j) ≡ Some o
        → IsExpr (Chain Sum) (j + 1) b k
        → IsExpr Comparison i (binary (from_at j) o a b) k
    -- shift = unary { ( "<<" | ">>" ) manifest_primary }
    shifts : {i j k : ℕ} {a e : Expr}
        → IsExpr Unary i a j
        → IsExpr (Shifts a) j e k
        → IsExpr Shift i e k
    no_shift : {i : ℕ} {a : Expr} → IsExpr (Shifts a) i a i
    one_shift : {i j k : ℕ} {a e : Expr} {m : Manifest} {left : Bool}
        → shift_operator (kind_at i) ≡ Some left
        → IsManifest Primary_ (i + 1) m j
        → IsExpr (Shifts (shift (from_at i) left a m)) j e k
        → IsExpr (Shifts a) i e k
    -- unary = "-" unary | "!" unary | primary; a "-" directly before a number belongs to the number
    negative_number : {i d p : ℕ}
        → IsPunctuation i MINUS
        → IsNumber (i + 1) d p
        → IsExpr Unary i (literal (Number true d p (from_at i))) (i + 2)
    negated : {i j : ℕ} {e : Expr}
        → IsPunctuation i MINUS
        → number_of (kind_at (i + 1)) ≡ None
        → IsExpr Unary (i + 1) e j
        → IsExpr Unary i (negate (from_at i) e) j
    denied : {i j : ℕ} {e : Expr}
        → IsPunctuation i BANG
        → IsExpr Unary (i + 1) e j
        → IsExpr Unary i (not (from_at i) e) j
    primary : {i j : ℕ} {e : Expr}
        → IsExpr Primary i e j
        → IsExpr Unary i e j
    -- primary = number | "true" | "false" | read | cast | "(" expression ")" | choice
    number : {i d p : ℕ}
        → IsNumber i d p
        → IsExpr Primary i (literal (Number false d p (from_at i))) (i + 1)
    truth : {i : ℕ} {b : Bool}
        → truth_of (kind_at i) ≡ Some b
        → IsExpr Primary i (literal (Truth b (from_at i))) (i + 1)
    -- read = name subscripts [ "@" manifest_primary ]
    place : {i j k : ℕ} {name : List ℕ} {subs : List Manifest} {d : Option Manifest}
        → IsName i name
        → IsSubscripts (i + 1) subs j
        → IsDelay j d k
        → IsExpr Primary i (read (record { name = name; at = from_at i; subs = subs }) d) k
    -- cast = fix "(" expression ")"
    cast_of : {i j k : ℕ} {f : FixType} {e : Expr}
        → IsFix i f j
        → IsPunctuation j LEFT_PAREN
        → IsExpr (Chain Or) (j + 1) e k
        → IsPunctuation k RIGHT_PAREN
        → IsExpr Primary i (cast (from_at i) f e) (k + 1)
    -- "(" expression ")"
    paren : {i j : ℕ} {e : Expr}
        → IsPunctuation i LEFT_PAREN
        → IsExpr (Chain Or) (i + 1) e j
        → IsPunctuation j RIGHT_PAREN
        → IsExpr Primary i e (j + 1)
    -- choice = "if" expression "->" expression { "||" expression "->" expression } "||" expression "fi"
    choice : {i j k m : ℕ} {c v e : Expr} {bs : Branches}
        → IsKeyword i IF
        → IsExpr (Chain Or) (i + 1) c j
        → IsPunctuation j ARROW
        → IsExpr (Chain Or) (j + 1) v k
        → IsExpr (Arms (from_at i)) k (choose (from_at i) bs e) m
        → IsExpr Primary i (choose (from_at i) (branch c v bs) e) m
    one_arm : {at i j k m : ℕ} {c v e : Expr} {bs : Branches}
        → IsPunctuation i PIPE_PIPE
        → IsExpr (Chain Or) (i + 1) c j
        → IsPunctuation j ARROW
        → IsExpr (Chain Or) (j + 1) v k
        → IsExpr (Arms at) k (choose at bs e) m
        → IsExpr (Arms at) i (choose at (branch c v bs) e) m
    last_arm : {at i j : ℕ} {e : Expr}
        → IsPunctuation i PIPE_PIPE
        → IsExpr (Chain Or) (i + 1) e j
        → IsKeyword j FI
        → IsExpr (Arms at) i (choose at no_branch e) (j + 1)

  -- subscripts = [ "[" manifest "]" [ "[" manifest "]" ] ], of a target
  pub data IsTargetSubscripts : ℕ → List Manifest → List Role → ℕ → Type 0 where
    no_target_sub : {i : ℕ} → IsTargetSubscripts i [] [] i
    one_target_sub : {i j : ℕ} {m : Manifest}
        → IsPunctuation i LEFT_BRACKET
        → IsManifest Manifest_ (i + 1) m j
        → IsPunctuation j RIGHT_BRACKET
        → IsTargetSubscripts i (m ∷ []) (Starts ∷ weights (i + 1) j ++ Plain ∷ []) (j + 1)
    two_target_subs : {i j k : ℕ} {m n : Manifest}
        → IsPunctuation i LEFT_BRACKET
        → IsManifest Manifest_ (i + 1) m j
        → IsPunctuation j RIGHT_BRACKET
        → IsPunctuation (j + 1) LEFT_BRACKET
        → IsManifest Manifest_ (j + 2) n k
        → IsPunctuation k RIGHT_BRACKET
        → IsTargetSubscripts i (m ∷ n ∷ [])
        (Starts ∷ weights (i + 1) j ++ Plain ∷ Starts ∷ weights (j + 2) k ++ Plain ∷ []) (k + 1)

  -- target = name subscripts
  pub data IsTarget : ℕ → Place → List Role → ℕ → Type 0 where
    target : {i j : ℕ} {name : List ℕ} {subs : List Manifest} {rs : List Role}
        → IsName i name
        → IsTargetSubscripts (i + 1) subs rs j
        → IsTarget i (record { name = name; at = from_at i; subs = subs }) (Plain ∷ rs) j

  -- target { "," target }
  pub data IsTargets : ℕ → List Place → List Role → ℕ → Type 0 where
    last_target : {i j : ℕ} {p : Place} {rs : List Role}
        → IsTarget i p rs j
        → IsTargets i (p ∷ []) rs j
    more_targets : {i j k : ℕ} {p : Place} {ps : List Place} {rs qs : List Role}
        → IsTarget i p rs j
        → IsPunctuation j COMMA
        → IsTargets (j + 1) ps qs k
        → IsTargets i (p ∷ ps) (rs ++ Plain ∷ qs) k

  -- arguments = expression { "," expression }
  pub data IsArguments : ℕ → List Expr → List Role → ℕ → Type 0 where
    last_arg : {i j : ℕ} {e : Expr}
        → IsExpr (Chain Or) i e j
        → IsArguments i (e ∷ []) (weights i j) j
    more_args : {i j k : ℕ} {e : Expr} {es : List Expr} {rs : List Role}
        → IsExpr (Chain Or) i e j
        → IsPunctuation j COMMA
        → IsArguments (j + 1) es rs k
        → IsArguments i (e ∷ es) (weights i j ++ Starts ∷ rs) k

  -- signed | "true" | "false"
  pub data IsInitialValue : ℕ → Lit → ℕ → Type 0 where
    signed : {i j : ℕ} {l : Lit}
        → IsSigned i l j
        → IsInitialValue i l j
    truth_value : {i : ℕ} {b : Bool}
        → truth_of (kind_at i) ≡ Some b
        → IsInitialValue i (Truth b (from_at i)) (i + 1)

  mutual
    -- item = equation | call | calls | loop | initial
    pub data IsItem : ℕ → Item → List Role → ℕ → Type 0 where
      -- equation = target "=" expression ";"
      is_equation : {i j k : ℕ} {p : Place} {e : Expr} {rs : List Role}
          → IsTarget i p rs j
          → IsPunctuation j EQUAL
          → IsExpr (Chain Or) (j + 1) e k
          → IsPunctuation k SEMICOLON
          → IsItem i (equation p e) (rs ++ Starts ∷ weights (j + 1) k ++ Plain ∷ []) (k + 1)
      -- call = target "=" name "(" arguments ")" ";"
      is_call : {i j k : ℕ} {p : Place} {f : List ℕ} {es : List Expr} {rs qs : List Role}
          → IsTarget i p rs j
          → IsPunctuation j EQUAL
          → IsName (j + 1) f
          → IsPunctuation (j + 2) LEFT_PAREN
          → IsArguments (j + 3) es qs k
          → IsPunctuation k RIGHT_PAREN
          → IsPunctuation (k + 1) SEMICOLON
          → IsItem i (call (p ∷ []) f es (from_at (j + 1))) (rs ++ Starts ∷ Plain ∷ Starts ∷ qs ++ Plain ∷ Plain ∷ [])
          (k + 2)
      -- calls = "(" target { "," target } ")" "=" name "(" arguments ")" ";"
      is_calls : {i j k : ℕ} {ps : List Place} {f : List ℕ} {es : List Expr} {rs qs : List Role}
          → IsPunctuation i LEFT_PAREN
          → IsTargets (i + 1) ps rs j
          → IsPunctuation j RIGHT_PAREN
          → IsPunctuation (j + 1) EQUAL
          → IsName (j + 2) f
          → IsPunctuation (j + 3) LEFT_PAREN
          → IsArguments (j + 4) es qs k
          → IsPunctuation k RIGHT_PAREN
          → IsPunctuation (k + 1) SEMICOLON
          → IsItem i (call ps f es (from_at (j + 2)))
          (Plain ∷ rs ++ Plain ∷ Plain ∷ Plain ∷ Starts ∷ qs ++ Plain ∷ Plain ∷ []) (k + 2)
      -- loop = "(" name ":" manifest ".." manifest ")" "::" "begin" { item } "end" ";"
      is_loop : {i j k m : ℕ} {name : List ℕ} {lo hi : Manifest} {xs : Items} {rs : List Role}
          → IsPunctuation i LEFT_PAREN
          → IsName (i + 1) name
          → IsPunctuation (i + 2) COLON
          → IsManifest Manifest_ (i + 3) lo j
          → IsPunctuation j DOT_DOT
          → IsManifest Manifest_ (j + 1) hi k
          → IsPunctuation k RIGHT_PAREN
          → IsPunctuation (k + 1) COLON_COLON
          → IsKeyword (k + 2) BEGIN
          → IsItems (k + 3) xs rs m
          → IsKeyword m END
          → IsPunctuation (m + 1) SEMICOLON
          → IsItem i (loop name lo hi xs (from_at i))
          (Plain ∷ Plain ∷ Starts ∷ weights (i + 3) j ++ Starts ∷ weights (j + 1) k ++ Plain ∷ Plain ∷ Enters ∷ rs
          ++ Leaves ∷ Plain ∷ [])
          (m + 2)
      -- initial = target "@@" manifest_primary "=" ( signed | "true" | "false" ) ";"
      is_initial : {i j k m : ℕ} {p : Place} {a : Manifest} {l : Lit} {rs : List Role}
          → IsTarget i p rs j
          → IsPunctuation j AT_AT
          → IsManifest Primary_ (j + 1) a k
          → IsPunctuation k EQUAL
          → IsInitialValue (k + 1) l m
          → IsPunctuation m SEMICOLON
          → IsItem i (initial p a l) (rs ++ Starts ∷ weights (j + 1) k ++ plain k (m + 1)) (m + 1)

    -- { item }
    pub data IsItems : ℕ → Items → List Role → ℕ → Type 0 where
      no_items : {i : ℕ} → IsItems i no_item [] i
      one_item : {i j k : ℕ} {x : Item} {xs : Items} {rs qs : List Role}
          → IsItem i x rs j
          → IsItems j xs qs k
          → IsItems i (item x xs) (rs ++ qs) k

  -- { locals }; locals = "var" declared { "," declared } ":" type ";"
  pub data IsLocals : ℕ → List Decl → ℕ → Type 0 where
    no_locals : {i : ℕ} → IsLocals i [] i
    some_locals : {i j k m : ℕ} {ds : List Declared} {ty : SigType} {rest : List Decl}
        → IsKeyword i VAR
        → IsList Declared IsDeclared (i + 1) ds j
        → IsPunctuation j COLON
        → IsType (j + 1) ty k
        → IsPunctuation k SEMICOLON
        → IsLocals (k + 1) rest m
        → IsLocals i (map (typed ty) ds ++ rest) m

  -- results = decl | "(" decl { "," decl } ")"
  pub data IsResults : ℕ → List Decl → ℕ → Type 0 where
    one_result : {i j : ℕ} {d : Decl}
        → IsDecl i d j
        → IsResults i (d ∷ []) j
    results : {i j : ℕ} {ds : List Decl}
        → IsPunctuation i LEFT_PAREN
        → IsList Decl IsDecl (i + 1) ds j
        → IsPunctuation j RIGHT_PAREN
        → IsResults i ds (j + 1)

  -- words = signed | "(" signed { "," signed } ")"
  pub data IsWords : ℕ → List Lit → ℕ → Type 0 where
    one_word : {i j : ℕ} {l : Lit}
        → IsSigned i l j
        → IsWords i (l ∷ []) j
    words : {i j : ℕ} {ls : List Lit}
        → IsPunctuation i LEFT_PAREN
        → IsList Lit IsSigned (i + 1) ls j
        → IsPunctuation j RIGHT_PAREN
        → IsWords i ls (j + 1)

  pub data IsTop : ℕ → Top → List Role → ℕ → Type 0 where
    -- table = "const" declared ":" fix "=" words ";"
    is_table : {i j k m : ℕ} {d : Declared} {f : FixType} {ls : List Lit}
        → IsKeyword i CONST
        → IsDeclared (i + 1) d j
        → IsPunctuation j COLON
        → IsFix (j + 1) f k
        → IsPunctuation k EQUAL
        → IsWords (k + 1) ls m
        → IsPunctuation m SEMICOLON
        → IsTop i (table (record { name = d.name; at = d.at; dims = d.dims; ty = f; words = ls })) (plain i (m + 1))
        (m + 1)
    -- function = "func" name "(" decl { "," decl } ")" results "=" "begin" { locals } { item } "end" ";"
    is_function : {i j k m n : ℕ} {name : List ℕ} {ps rs ls : List Decl} {xs : Items} {qs : List Role}
        → IsKeyword i FUNC
        → IsName (i + 1) name
        → IsPunctuation (i + 2) LEFT_PAREN
        → IsList Decl IsDecl (i + 3) ps j
        → IsPunctuation j RIGHT_PAREN
        → IsResults (j + 1) rs k
        → IsPunctuation k EQUAL
        → IsKeyword (k + 1) BEGIN
        → IsLocals (k + 2) ls m
        → IsItems m xs qs n
        → IsKeyword n END
        → IsPunctuation (n + 1) SEMICOLON
        → IsTop i (function
        (record { name = name; at = from_at (i + 1); params = ps; results = rs; locals = ls; items = xs }))
        (plain i m ++ qs ++ Plain ∷ Plain ∷ []) (n + 2)

  -- program = { table | function }
  pub data IsTops : ℕ → List Top → List Role → ℕ → Type 0 where
    no_tops : {i : ℕ} → IsTops i [] [] i
    one_top : {i j k : ℕ} {t : Top} {rest : List Top} {rs qs : List Role}
        → IsTop i t rs j
        → IsTops j rest qs k
        → IsTops i (t ∷ rest) (rs ++ qs) k

  -- the tokens are the program, and each has this role
  abbrev pub HasRoles : Program → List Role → Type 0
  HasRoles program roles = IsTops 0 program.tops roles (length ts)

  -- the tokens are the program
  abbrev pub Derives : Program → Type 0
  Derives program = (roles : List Role) × HasRoles program roles
