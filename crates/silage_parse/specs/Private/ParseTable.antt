-- The LL(1) parse table of the grammar: the productions of each nonterminal, and the next tokens that choose between
-- them; the semantic actions, and the values on the machine's stack.
use Rattle.std.specs.Prelude.{ℕ, Bool, true, false, ◌||◌, nat_eq, List, [], ◌∷◌, ◌++◌, Option, Some, None}
use Rattle.fix_word.specs.declared.types.FixType.{FixType}
use Rattle.fix_word.specs.declared.types.Mode.{Mode}
use Rattle.fix_word.specs.declared.types.Mode.TheVariants.{Trunc, Round, Sat, RoundSat}
use Rattle.fix_word.specs.declared.types.SigType.{SigType}
use Rattle.silage_lex.specs.declared.Token.{Token}
use Rattle.silage_lex.specs.declared.TokenKind.{TokenKind}
use Rattle.silage_lex.specs.declared.TokenKind.TheVariants as kind
use Rattle.silage_lex.specs.declared.punctuation.TheConstants as punctuation
use Rattle.silage_lex.specs.declared.keywords.TheConstants as keyword
use Rattle.silage_syntax.specs.declared.tree.Lit.{Lit}
use Rattle.silage_syntax.specs.declared.tree.Decl.{Decl}
use Rattle.silage_syntax.specs.Tree.{Manifest, Place, Expr, Item, Top}
use Rattle.silage_syntax.specs.Grammar.{Declared, Level, Or, And, Sum, Product}

-- the terminals: which tokens may be next
pub data Terminal : Type 0 where
  Punctuation : ℕ → Terminal
  Keyword : ℕ → Terminal
  AName : Terminal
  AWhole : Terminal
  APoint : Terminal
  -- after the last token
  End : Terminal

abbrev pub is : Terminal → Option TokenKind → Bool
is (Punctuation n) (Some (kind.Symbol m)) = nat_eq n m
is (Keyword n) (Some (kind.Reserved m)) = nat_eq n m
is AName (Some (kind.Name name)) = true
is AWhole (Some (kind.Whole n)) = true
is APoint (Some (kind.Point digits places)) = true
is End None = true
is _ _ = false

abbrev pub is_one : List Terminal → Option TokenKind → Bool
is_one [] k = false
is_one (t ∷ ts) k = is t k || is_one ts k

-- What a token does to the counts that the limits bound: nothing, it begins an outermost expression, it is in one,
-- it enters a loop, it leaves a loop.
pub data Effect : Type 0 where
  Outside : Effect
  Begins : Effect
  Inside : Effect
  Enters : Effect
  Leaves : Effect

-- the nonterminals
pub data Nonterminal : Type 0 where
  Source : Nonterminal
  Tops : Nonterminal
  Signed : Nonterminal
  Words : Nonterminal
  MoreWords : Nonterminal
  Dims : Nonterminal
  SecondDim : Nonterminal
  -- a fix type in a declaration, and in an expression
  FixIn : Effect → Nonterminal
  -- its end after its sizes, its mode, and what comes after the `round` of a mode
  FixEnd : Effect → Nonterminal
  Mode_ : Effect → Nonterminal
  AfterRound : Effect → Nonterminal
  Type_ : Nonterminal
  Name_ : Nonterminal
  MoreNames : Nonterminal
  Decl_ : Nonterminal
  MoreDecls : Nonterminal
  Results : Nonterminal
  Locals : Nonterminal
  Manifest_ : Nonterminal
  Terms : Nonterminal
  Term : Nonterminal
  Factors : Nonterminal
  Factor : Nonterminal
  ManifestPrimary : Nonterminal
  Subs : Nonterminal
  SecondSub : Nonterminal
  Delay : Nonterminal
  Chain : Level → Nonterminal
  Rest : Level → Nonterminal
  Comparison : Nonterminal
  CompareRest : Nonterminal
  Shift : Nonterminal
  Shifts : Nonterminal
  Unary : Nonterminal
  -- a unary that begins with no name
  OtherUnary : Nonterminal
  AfterMinus : Nonterminal
  Primary : Nonterminal
  -- a primary that is no place
  OtherPrimary : Nonterminal
  Arms : Nonterminal
  ArmEnd : Nonterminal
  TargetSubs : Nonterminal
  SecondTargetSub : Nonterminal
  Target : Nonterminal
  MoreTargets : Nonterminal
  Args : Nonterminal
  MoreArgs : Nonterminal
  Items_ : Nonterminal
  Item_ : Nonterminal
  AfterTarget : Nonterminal
  RightSide : Nonterminal
  AfterRightName : Nonterminal
  AfterOpenName : Nonterminal
  InitialValue : Nonterminal

-- Semantic values, which the machine keeps on its stack: the tokens and trees read so far.
pub data Value : Type 0 where
  token : Token → Value
  lit : Lit → Value
  lits : List Lit → Value
  dims : List ℕ → Value
  mode : Mode → Value
  fix : (at : ℕ) → FixType → Value
  ty : SigType → Value
  name : Declared → Value
  names : List Declared → Value
  decl : Decl → Value
  decls : List Decl → Value
  manifest : Manifest → Value
  subs : List Manifest → Value
  place : Place → Value
  places : List Place → Value
  delay : Option Manifest → Value
  expr : Expr → Value
  exprs : List Expr → Value
  arms : (at : ℕ) → List (Expr × Expr) → Value
  an_item : Item → Value
  items : List Item → Value
  tops : List Top → Value

-- the semantic actions
pub data Action : Type 0 where
  no_tops : Action
  add_table : Action
  add_function : Action
  positive : Action
  negative : Action
  truth : Action
  first_word : Action
  add_word : Action
  close_words : Action
  no_dims : Action
  one_dim : Action
  two_dims : Action
  one_word : Mode → Action
  three_words : Mode → Action
  fix_plain : Action
  fix_mode : Action
  type_fix : Action
  type_bool : Action
  declared : Action
  first_name : Action
  add_name : Action
  typed_decl : Action
  first_decl : Action
  add_decl : Action
  close_decls : Action
  no_locals : Action
  add_locals : Action
  add_term : Action
  add_factor : Action
  minus_factor : Action
  whole_manifest : Action
  name_manifest : Action
  close_manifest : Action
  no_subs : Action
  one_sub : Action
  two_subs : Action
  no_delay : Action
  some_delay : Action
  add_part : Level → Action
  compare : Action
  add_shift : Action
  negate_expr : Action
  not_expr : Action
  literal_expr : Action
  read_expr : Action
  cast_expr : Action
  close_expr : Action
  first_arm : Action
  add_arm : Action
  choose_expr : Action
  a_place : Action
  first_place : Action
  add_place : Action
  first_arg : Action
  add_arg : Action
  no_items : Action
  add_item : Action
  is_equation : Action
  is_call : Action
  is_calls : Action
  is_loop : Action
  is_initial : Action

-- what a production is made of: terminals (one of several, with its effect), nonterminals and semantic actions
pub data Symbol : Type 0 where
  Match : List Terminal → Effect → Symbol
  Expand : Nonterminal → Symbol
  Act : Action → Symbol

abbrev pub punctuation_of : ℕ → Effect → Symbol
punctuation_of n e = Match (Punctuation n ∷ []) e

abbrev pub keyword_of : ℕ → Effect → Symbol
keyword_of n e = Match (Keyword n ∷ []) e

-- the productions of a nonterminal: by the next token, and the one where the next token is none of those
pub record Productions : Type 0 where
  pub by_lookahead : List (List Terminal × List Symbol)
  pub otherwise : List Symbol

abbrev pub always : List Symbol → Productions
always ss = record { by_lookahead = []; otherwise = ss }

-- one production where the next token is one of these, else the other
abbrev pub if_next : List Terminal → List Symbol → List Symbol → Productions
if_next ks production other = record { by_lookahead = (ks, production) ∷ []; otherwise = other }

abbrev pub if_punctuation : ℕ → List Symbol → List Symbol → Productions
if_punctuation n production other = if_next (Punctuation n ∷ []) production other

abbrev pub number : List Terminal
number = AWhole ∷ APoint ∷ []

abbrev pub operators : Level → List Terminal
operators Or = Punctuation punctuation.PIPE ∷ []
operators And = Punctuation punctuation.AMPERSAND ∷ []
operators Sum = Punctuation punctuation.PLUS ∷ Punctuation punctuation.MINUS ∷ []
operators Product = Punctuation punctuation.STAR ∷ []

abbrev pub comparisons : List Terminal
comparisons =
    Punctuation punctuation.LESS ∷ Punctuation punctuation.LESS_EQUAL ∷ Punctuation punctuation.EQUAL_EQUAL
    ∷ Punctuation punctuation.BANG_EQUAL ∷ Punctuation punctuation.GREATER ∷ Punctuation punctuation.GREATER_EQUAL ∷ []

abbrev pub shift_operators : List Terminal
shift_operators = Punctuation punctuation.LESS_LESS ∷ Punctuation punctuation.GREATER_GREATER ∷ []

abbrev pub truths : List Terminal
truths = Keyword keyword.TRUE ∷ Keyword keyword.FALSE ∷ []

-- the operands of a level of operators
abbrev pub operand_of : Level → Nonterminal
operand_of Or = Chain And
operand_of And = Comparison
operand_of Sum = Chain Product
operand_of Product = Shift

-- what may follow the first unary of an expression, the tightest operators first
abbrev pub rests : List Symbol
rests =
    Expand Shifts ∷ Expand (Rest Product) ∷ Expand (Rest Sum) ∷ Expand CompareRest ∷ Expand (Rest And)
    ∷ Expand (Rest Or) ∷ []

-- THE TABLE

abbrev pub productions : Nonterminal → Productions
productions Source = always (Act no_tops ∷ Expand Tops ∷ Match (End ∷ []) Outside ∷ [])
productions Tops = record {
  by_lookahead = (
    Keyword keyword.CONST ∷ [],
    keyword_of keyword.CONST Outside ∷ Expand Name_
        ∷ punctuation_of punctuation.COLON Outside ∷ Expand (FixIn Outside)
        ∷ punctuation_of punctuation.EQUAL Outside ∷ Expand Words ∷ punctuation_of punctuation.SEMICOLON Outside
        ∷ Act add_table ∷ Expand Tops ∷ [],
  )
      ∷ (
        Keyword keyword.FUNC ∷ [],
        keyword_of keyword.FUNC Outside ∷ Match (AName ∷ []) Outside
            ∷ punctuation_of punctuation.LEFT_PAREN Outside ∷ Expand Decl_ ∷ Act first_decl ∷ Expand MoreDecls
            ∷ punctuation_of punctuation.RIGHT_PAREN Outside ∷ Expand Results
            ∷ punctuation_of punctuation.EQUAL Outside ∷ keyword_of keyword.BEGIN Outside ∷ Act no_locals
            ∷ Expand Locals ∷ Act no_items ∷ Expand Items_ ∷ keyword_of keyword.END Outside
            ∷ punctuation_of punctuation.SEMICOLON Outside ∷ Act add_function ∷ Expand Tops ∷ [],
      )
      ∷ [];
  otherwise = [];
}
productions Signed = if_punctuation punctuation.MINUS
    (punctuation_of punctuation.MINUS Outside ∷ Match number Outside ∷ Act negative ∷ [])
    (Match number Outside ∷ Act positive ∷ [])
productions Words = if_punctuation punctuation.LEFT_PAREN
    (punctuation_of punctuation.LEFT_PAREN Outside ∷ Expand Signed ∷ Act first_word ∷ Expand MoreWords
    ∷ punctuation_of punctuation.RIGHT_PAREN Outside ∷ Act close_words ∷ [])
    (Expand Signed ∷ Act first_word ∷ [])
productions MoreWords = if_punctuation punctuation.COMMA
    (punctuation_of punctuation.COMMA Outside ∷ Expand Signed ∷ Act add_word ∷ Expand MoreWords ∷ [])
    []
productions Dims = if_punctuation punctuation.LEFT_BRACKET
    (punctuation_of punctuation.LEFT_BRACKET Outside ∷ Match (AWhole ∷ []) Outside
    ∷ punctuation_of punctuation.RIGHT_BRACKET Outside ∷ Expand SecondDim ∷ [])
    (Act no_dims ∷ [])
productions SecondDim = if_punctuation punctuation.LEFT_BRACKET
    (punctuation_of punctuation.LEFT_BRACKET Outside ∷ Match (AWhole ∷ []) Outside
    ∷ punctuation_of punctuation.RIGHT_BRACKET Outside ∷ Act two_dims ∷ [])
    (Act one_dim ∷ [])
productions (FixIn e) = always
    (keyword_of keyword.FIX e ∷ punctuation_of punctuation.LESS e ∷ Match (AWhole ∷ []) e
    ∷ punctuation_of punctuation.COMMA e ∷ Match (AWhole ∷ []) e ∷ Expand (FixEnd e) ∷ [])
productions (FixEnd e) = if_punctuation punctuation.COMMA
    (punctuation_of punctuation.COMMA e ∷ Expand (Mode_ e) ∷ punctuation_of punctuation.GREATER e ∷ Act fix_mode ∷ [])
    (punctuation_of punctuation.GREATER e ∷ Act fix_plain ∷ [])
productions (Mode_ e) = record {
  by_lookahead =
      (Keyword keyword.TRUNC ∷ [], keyword_of keyword.TRUNC e ∷ Act (one_word Trunc) ∷ [])
      ∷ (Keyword keyword.SAT ∷ [], keyword_of keyword.SAT e ∷ Act (one_word Sat) ∷ [])
      ∷ [];
  otherwise = keyword_of keyword.ROUND e ∷ Expand (AfterRound e) ∷ [];
}
productions (AfterRound e) = if_punctuation punctuation.COMMA
    (punctuation_of punctuation.COMMA e ∷ keyword_of keyword.SAT e ∷ Act (three_words RoundSat) ∷ [])
    (Act (one_word Round) ∷ [])
productions Type_ = if_next (Keyword keyword.BOOL ∷ [])
    (keyword_of keyword.BOOL Outside ∷ Act type_bool ∷ [])
    (Expand (FixIn Outside) ∷ Act type_fix ∷ [])
productions Name_ = always (Match (AName ∷ []) Outside ∷ Expand Dims ∷ Act declared ∷ [])
productions MoreNames = if_punctuation punctuation.COMMA
    (punctuation_of punctuation.COMMA Outside ∷ Expand Name_ ∷ Act add_name ∷ Expand MoreNames ∷ [])
    []
productions Decl_ = always
    (Expand Name_ ∷ punctuation_of punctuation.COLON Outside ∷ Expand Type_ ∷ Act typed_decl ∷ [])
productions MoreDecls = if_punctuation punctuation.COMMA
    (punctuation_of punctuation.COMMA Outside ∷ Expand Decl_ ∷ Act add_decl ∷ Expand MoreDecls ∷ [])
    []
productions Results = if_punctuation punctuation.LEFT_PAREN
    (punctuation_of punctuation.LEFT_PAREN Outside ∷ Expand Decl_ ∷ Act first_decl ∷ Expand MoreDecls
    ∷ punctuation_of punctuation.RIGHT_PAREN Outside ∷ Act close_decls ∷ [])
    (Expand Decl_ ∷ Act first_decl ∷ [])
productions Locals = if_next (Keyword keyword.VAR ∷ [])
    (keyword_of keyword.VAR Outside ∷ Expand Name_ ∷ Act first_name ∷ Expand MoreNames
    ∷ punctuation_of punctuation.COLON Outside ∷ Expand Type_ ∷ punctuation_of punctuation.SEMICOLON Outside
    ∷ Act add_locals ∷ Expand Locals ∷ [])
    []
productions Manifest_ = always (Expand Term ∷ Expand Terms ∷ [])
productions Terms = if_next (operators Sum)
    (Match (operators Sum) Inside ∷ Expand Term ∷ Act add_term ∷ Expand Terms ∷ [])
    []
productions Term = always (Expand Factor ∷ Expand Factors ∷ [])
productions Factors = if_punctuation punctuation.STAR
    (punctuation_of punctuation.STAR Inside ∷ Expand Factor ∷ Act add_factor ∷ Expand Factors ∷ [])
    []
productions Factor = if_punctuation punctuation.MINUS
    (punctuation_of punctuation.MINUS Inside ∷ Expand Factor ∷ Act minus_factor ∷ [])
    (Expand ManifestPrimary ∷ [])
productions ManifestPrimary = record {
  by_lookahead =
      (AWhole ∷ [], Match (AWhole ∷ []) Inside ∷ Act whole_manifest ∷ [])
      ∷ (AName ∷ [], Match (AName ∷ []) Inside ∷ Act name_manifest ∷ [])
      ∷ [];
  otherwise = punctuation_of punctuation.LEFT_PAREN Inside ∷ Expand Manifest_
      ∷ punctuation_of punctuation.RIGHT_PAREN Inside ∷ Act close_manifest ∷ [];
}
productions Subs = if_punctuation punctuation.LEFT_BRACKET
    (punctuation_of punctuation.LEFT_BRACKET Inside ∷ Expand Manifest_
    ∷ punctuation_of punctuation.RIGHT_BRACKET Inside ∷ Expand SecondSub ∷ [])
    (Act no_subs ∷ [])
productions SecondSub = if_punctuation punctuation.LEFT_BRACKET
    (punctuation_of punctuation.LEFT_BRACKET Inside ∷ Expand Manifest_
    ∷ punctuation_of punctuation.RIGHT_BRACKET Inside ∷ Act two_subs ∷ [])
    (Act one_sub ∷ [])
productions Delay = if_punctuation punctuation.AT
    (punctuation_of punctuation.AT Inside ∷ Expand ManifestPrimary ∷ Act some_delay ∷ [])
    (Act no_delay ∷ [])
productions (Chain l) = always (Expand (operand_of l) ∷ Expand (Rest l) ∷ [])
productions (Rest l) = if_next (operators l)
    (Match (operators l) Inside ∷ Expand (operand_of l) ∷ Act (add_part l) ∷ Expand (Rest l) ∷ [])
    []
productions Comparison = always (Expand (Chain Sum) ∷ Expand CompareRest ∷ [])
productions CompareRest = if_next comparisons
    (Match comparisons Inside ∷ Expand (Chain Sum) ∷ Act compare ∷ [])
    []
productions Shift = always (Expand Unary ∷ Expand Shifts ∷ [])
productions Shifts = if_next shift_operators
    (Match shift_operators Inside ∷ Expand ManifestPrimary ∷ Act add_shift ∷ Expand Shifts ∷ [])
    []
productions Unary = record {
  by_lookahead =
      (Punctuation punctuation.MINUS ∷ [], punctuation_of punctuation.MINUS Inside ∷ Expand AfterMinus ∷ [])
      ∷ (Punctuation punctuation.BANG ∷ [], punctuation_of punctuation.BANG Inside ∷ Expand Unary ∷ Act not_expr ∷ [])
      ∷ [];
  otherwise = Expand Primary ∷ [];
}
productions OtherUnary = record {
  by_lookahead =
      (Punctuation punctuation.MINUS ∷ [], punctuation_of punctuation.MINUS Inside ∷ Expand AfterMinus ∷ [])
      ∷ (Punctuation punctuation.BANG ∷ [], punctuation_of punctuation.BANG Inside ∷ Expand Unary ∷ Act not_expr ∷ [])
      ∷ [];
  otherwise = Expand OtherPrimary ∷ [];
}
productions AfterMinus = if_next number
    (Match number Inside ∷ Act negative ∷ Act literal_expr ∷ [])
    (Expand Unary ∷ Act negate_expr ∷ [])
productions Primary = if_next (AName ∷ [])
    (Match (AName ∷ []) Inside ∷ Expand Subs ∷ Act a_place ∷ Expand Delay ∷ Act read_expr ∷ [])
    (Expand OtherPrimary ∷ [])
productions OtherPrimary = record {
  by_lookahead =
      (number, Match number Inside ∷ Act positive ∷ Act literal_expr ∷ [])
      ∷ (truths, Match truths Inside ∷ Act truth ∷ Act literal_expr ∷ [])
      ∷ (
        Keyword keyword.FIX ∷ [],
        Expand (FixIn Inside) ∷ punctuation_of punctuation.LEFT_PAREN Inside
            ∷ Expand (Chain Or) ∷ punctuation_of punctuation.RIGHT_PAREN Inside ∷ Act cast_expr ∷ [],
      )
      ∷ (
        Keyword keyword.IF ∷ [],
        keyword_of keyword.IF Inside ∷ Expand (Chain Or)
            ∷ punctuation_of punctuation.ARROW Inside ∷ Expand (Chain Or) ∷ Act first_arm ∷ Expand Arms ∷ [],
      )
      ∷ [];
  otherwise = punctuation_of punctuation.LEFT_PAREN Inside ∷ Expand (Chain Or)
      ∷ punctuation_of punctuation.RIGHT_PAREN Inside ∷ Act close_expr ∷ [];
}
productions Arms = always (punctuation_of punctuation.PIPE_PIPE Inside ∷ Expand (Chain Or) ∷ Expand ArmEnd ∷ [])
productions ArmEnd = if_punctuation punctuation.ARROW
    (punctuation_of punctuation.ARROW Inside ∷ Expand (Chain Or) ∷ Act add_arm ∷ Expand Arms ∷ [])
    (keyword_of keyword.FI Inside ∷ Act choose_expr ∷ [])
productions TargetSubs = if_punctuation punctuation.LEFT_BRACKET
    (punctuation_of punctuation.LEFT_BRACKET Begins ∷ Expand Manifest_
    ∷ punctuation_of punctuation.RIGHT_BRACKET Outside ∷ Expand SecondTargetSub ∷ [])
    (Act no_subs ∷ [])
productions SecondTargetSub = if_punctuation punctuation.LEFT_BRACKET
    (punctuation_of punctuation.LEFT_BRACKET Begins ∷ Expand Manifest_
    ∷ punctuation_of punctuation.RIGHT_BRACKET Outside ∷ Act two_subs ∷ [])
    (Act one_sub ∷ [])
productions Target = always (Match (AName ∷ []) Outside ∷ Expand TargetSubs ∷ Act a_place ∷ [])
productions MoreTargets = if_punctuation punctuation.COMMA
    (punctuation_of punctuation.COMMA Outside ∷ Expand Target ∷ Act add_place ∷ Expand MoreTargets ∷ [])
    []
productions Args = always (Expand (Chain Or) ∷ Act first_arg ∷ Expand MoreArgs ∷ [])
productions MoreArgs = if_punctuation punctuation.COMMA
    (punctuation_of punctuation.COMMA Begins ∷ Expand (Chain Or) ∷ Act add_arg ∷ Expand MoreArgs ∷ [])
    []
productions Items_ = if_next (AName ∷ Punctuation punctuation.LEFT_PAREN ∷ [])
    (Expand Item_ ∷ Act add_item ∷ Expand Items_ ∷ [])
    []
productions Item_ = if_next (AName ∷ [])
    (Expand Target ∷ Expand AfterTarget ∷ [])
    (punctuation_of punctuation.LEFT_PAREN Outside ∷ Match (AName ∷ []) Outside ∷ Expand AfterOpenName ∷ [])
productions AfterTarget = if_punctuation punctuation.AT_AT
    (punctuation_of punctuation.AT_AT Begins ∷ Expand ManifestPrimary ∷ punctuation_of punctuation.EQUAL Outside
    ∷ Expand InitialValue ∷ punctuation_of punctuation.SEMICOLON Outside ∷ Act is_initial ∷ [])
    (punctuation_of punctuation.EQUAL Begins ∷ Expand RightSide ∷ [])
productions InitialValue = if_next truths
    (Match truths Outside ∷ Act truth ∷ [])
    (Expand Signed ∷ [])
productions RightSide = if_next (AName ∷ [])
    (Match (AName ∷ []) Inside ∷ Expand AfterRightName ∷ [])
    (Expand OtherUnary ∷ (rests ++ punctuation_of punctuation.SEMICOLON Outside ∷ Act is_equation ∷ []))
productions AfterRightName = if_punctuation punctuation.LEFT_PAREN
    (punctuation_of punctuation.LEFT_PAREN Begins ∷ Expand Args ∷ punctuation_of punctuation.RIGHT_PAREN Outside
    ∷ punctuation_of punctuation.SEMICOLON Outside ∷ Act is_call ∷ [])
    (Expand Subs ∷ Act a_place ∷ Expand Delay ∷ Act read_expr
    ∷ (rests ++ punctuation_of punctuation.SEMICOLON Outside ∷ Act is_equation ∷ []))
productions AfterOpenName = if_punctuation punctuation.COLON
    (punctuation_of punctuation.COLON Begins ∷ Expand Manifest_ ∷ punctuation_of punctuation.DOT_DOT Begins
    ∷ Expand Manifest_ ∷ punctuation_of punctuation.RIGHT_PAREN Outside
    ∷ punctuation_of punctuation.COLON_COLON Outside ∷ keyword_of keyword.BEGIN Enters ∷ Act no_items ∷ Expand Items_
    ∷ keyword_of keyword.END Leaves ∷ punctuation_of punctuation.SEMICOLON Outside ∷ Act is_loop ∷ [])
    (Expand TargetSubs ∷ Act a_place ∷ Act first_place ∷ Expand MoreTargets
    ∷ punctuation_of punctuation.RIGHT_PAREN Outside ∷ punctuation_of punctuation.EQUAL Outside
    ∷ Match (AName ∷ []) Outside ∷ punctuation_of punctuation.LEFT_PAREN Begins ∷ Expand Args
    ∷ punctuation_of punctuation.RIGHT_PAREN Outside ∷ punctuation_of punctuation.SEMICOLON Outside
    ∷ Act is_calls ∷ [])
