-- FIRST and FOLLOW of each nonterminal, and that the table is LL(1): the next token alone decides the production.
use Rattle.std.proofs.Common.{◌≡◌, ℕ, ◌+◌, Bool, true, false, not, ◌&&◌, ◌||◌, if◌then◌else◌, nat_lt, List, [], ◌∷◌}
use Rattle.std.proofs.Common.{◌++◌, refl}
use Rattle.silage_lex.specs.declared.punctuation.TheConstants as punctuation
use Rattle.silage_lex.specs.declared.keywords.TheConstants as keyword
use Rattle.silage_syntax.specs.Grammar.{Level, Or, And, Sum, Product}
use Rattle.silage_parse.specs.Private.ParseTable as the
use Rattle.silage_parse.specs.Private.ParseTable.{Terminal, Punctuation, Keyword, AName, AWhole, APoint, End, Effect}
use Rattle.silage_parse.specs.Private.ParseTable.{Nonterminal, Source, Tops, Signed, Words, MoreWords, Dims, SecondDim}
use Rattle.silage_parse.specs.Private.ParseTable.{FixIn, FixEnd, Mode_, AfterRound, Type_, Name_, MoreNames, Decl_}
use Rattle.silage_parse.specs.Private.ParseTable.{MoreDecls, Results}
use Rattle.silage_parse.specs.Private.ParseTable.{Locals, Manifest_, Terms, Term, Factors, Factor, ManifestPrimary}
use Rattle.silage_parse.specs.Private.ParseTable.{Subs, SecondSub, Delay, Chain, Rest, Comparison, CompareRest, Shift}
use Rattle.silage_parse.specs.Private.ParseTable.{Shifts, Unary, OtherUnary, AfterMinus, Primary, OtherPrimary, Arms}
use Rattle.silage_parse.specs.Private.ParseTable.{ArmEnd, TargetSubs, SecondTargetSub, Target, MoreTargets, Args}
use Rattle.silage_parse.specs.Private.ParseTable.{MoreArgs, Items_, Item_, AfterTarget, RightSide, AfterRightName}
use Rattle.silage_parse.specs.Private.ParseTable.{AfterOpenName, InitialValue, Symbol, Match, Expand, Act, productions}
use Rattle.silage_parse.specs.Private.ParseTable.{number, operators, comparisons, shift_operators}
use Rattle.silage_parse.specs.Private.Machine.{alternatives}
use Rattle.silage_parse.proofs.Terminals.{has, within, apart}

-- what an expression may begin with that is no sign and no name
abbrev others : List Terminal
others =
    AWhole ∷ APoint ∷ Keyword keyword.TRUE ∷ Keyword keyword.FALSE ∷ Keyword keyword.FIX ∷ Keyword keyword.IF
    ∷ Punctuation punctuation.LEFT_PAREN ∷ []

abbrev signed : List Terminal
signed = Punctuation punctuation.MINUS ∷ Punctuation punctuation.BANG ∷ others

abbrev expressions : List Terminal
expressions = AName ∷ signed

abbrev manifests : List Terminal
manifests = AWhole ∷ AName ∷ Punctuation punctuation.LEFT_PAREN ∷ []

-- what may follow a whole expression, an operand of the loosest operators, and so on inwards
abbrev ends : List Terminal
ends =
    Punctuation punctuation.ARROW ∷ Punctuation punctuation.RIGHT_PAREN ∷ Punctuation punctuation.COMMA
    ∷ Punctuation punctuation.PIPE_PIPE ∷ Keyword keyword.FI ∷ Punctuation punctuation.SEMICOLON ∷ []

abbrev after_comparison : List Terminal
after_comparison = Punctuation punctuation.AMPERSAND ∷ Punctuation punctuation.PIPE ∷ ends

abbrev after_product : List Terminal
after_product = Punctuation punctuation.PLUS ∷ Punctuation punctuation.MINUS ∷ comparisons ++ after_comparison

abbrev after_shift : List Terminal
after_shift = Punctuation punctuation.STAR ∷ after_product

abbrev after_unary : List Terminal
after_unary = shift_operators ++ after_shift

abbrev after_chain : Level → List Terminal
after_chain Or = ends
after_chain And = Punctuation punctuation.PIPE ∷ ends
after_chain Sum = comparisons ++ after_comparison
after_chain Product = after_product

abbrev after_manifest : List Terminal
after_manifest =
    Punctuation punctuation.RIGHT_PAREN ∷ Punctuation punctuation.RIGHT_BRACKET ∷ Punctuation punctuation.DOT_DOT ∷ []

-- FIRST: the terminals with which a nonterminal may begin
abbrev pub first_set : Nonterminal → List Terminal
first_set Source = Keyword keyword.CONST ∷ Keyword keyword.FUNC ∷ End ∷ []
first_set Tops = Keyword keyword.CONST ∷ Keyword keyword.FUNC ∷ []
first_set Signed = Punctuation punctuation.MINUS ∷ number
first_set Words = Punctuation punctuation.LEFT_PAREN ∷ Punctuation punctuation.MINUS ∷ number
first_set MoreWords = Punctuation punctuation.COMMA ∷ []
first_set Dims = Punctuation punctuation.LEFT_BRACKET ∷ []
first_set SecondDim = Punctuation punctuation.LEFT_BRACKET ∷ []
first_set (FixIn e) = Keyword keyword.FIX ∷ []
first_set (FixEnd e) = Punctuation punctuation.COMMA ∷ Punctuation punctuation.GREATER ∷ []
first_set (Mode_ e) = Keyword keyword.TRUNC ∷ Keyword keyword.ROUND ∷ Keyword keyword.SAT ∷ []
first_set (AfterRound e) = Punctuation punctuation.COMMA ∷ []
first_set Type_ = Keyword keyword.BOOL ∷ Keyword keyword.FIX ∷ []
first_set Name_ = AName ∷ []
first_set MoreNames = Punctuation punctuation.COMMA ∷ []
first_set Decl_ = AName ∷ []
first_set MoreDecls = Punctuation punctuation.COMMA ∷ []
first_set Results = AName ∷ Punctuation punctuation.LEFT_PAREN ∷ []
first_set Locals = Keyword keyword.VAR ∷ []
first_set Manifest_ = Punctuation punctuation.MINUS ∷ manifests
first_set Terms = operators Sum
first_set Term = Punctuation punctuation.MINUS ∷ manifests
first_set Factors = operators Product
first_set Factor = Punctuation punctuation.MINUS ∷ manifests
first_set ManifestPrimary = manifests
first_set Subs = Punctuation punctuation.LEFT_BRACKET ∷ []
first_set SecondSub = Punctuation punctuation.LEFT_BRACKET ∷ []
first_set Delay = Punctuation punctuation.AT ∷ []
first_set (Chain l) = expressions
first_set (Rest l) = operators l
first_set Comparison = expressions
first_set CompareRest = comparisons
first_set Shift = expressions
first_set Shifts = shift_operators
first_set Unary = expressions
first_set OtherUnary = signed
first_set AfterMinus = expressions
first_set Primary = AName ∷ others
first_set OtherPrimary = others
first_set Arms = Punctuation punctuation.PIPE_PIPE ∷ []
first_set ArmEnd = Punctuation punctuation.ARROW ∷ Keyword keyword.FI ∷ []
first_set TargetSubs = Punctuation punctuation.LEFT_BRACKET ∷ []
first_set SecondTargetSub = Punctuation punctuation.LEFT_BRACKET ∷ []
first_set Target = AName ∷ []
first_set MoreTargets = Punctuation punctuation.COMMA ∷ []
first_set Args = expressions
first_set MoreArgs = Punctuation punctuation.COMMA ∷ []
first_set Items_ = AName ∷ Punctuation punctuation.LEFT_PAREN ∷ []
first_set Item_ = AName ∷ Punctuation punctuation.LEFT_PAREN ∷ []
first_set AfterTarget = Punctuation punctuation.AT_AT ∷ Punctuation punctuation.EQUAL ∷ []
first_set RightSide = expressions
first_set AfterRightName =
    Punctuation punctuation.LEFT_PAREN ∷ Punctuation punctuation.LEFT_BRACKET ∷ Punctuation punctuation.AT ∷ after_unary
first_set AfterOpenName =
    Punctuation punctuation.COLON ∷ Punctuation punctuation.LEFT_BRACKET ∷ Punctuation punctuation.COMMA
    ∷ Punctuation punctuation.RIGHT_PAREN ∷ []
first_set InitialValue = Keyword keyword.TRUE ∷ Keyword keyword.FALSE ∷ Punctuation punctuation.MINUS ∷ number

-- whether a nonterminal may be empty
abbrev pub nullable : Nonterminal → Bool
nullable Tops = true
nullable MoreWords = true
nullable Dims = true
nullable SecondDim = true
nullable (AfterRound e) = true
nullable MoreNames = true
nullable MoreDecls = true
nullable Locals = true
nullable Terms = true
nullable Factors = true
nullable Subs = true
nullable SecondSub = true
nullable Delay = true
nullable (Rest l) = true
nullable CompareRest = true
nullable Shifts = true
nullable TargetSubs = true
nullable SecondTargetSub = true
nullable MoreTargets = true
nullable MoreArgs = true
nullable Items_ = true
nullable _ = false

-- FOLLOW: the terminals that may follow a nonterminal
abbrev pub follow_set : Nonterminal → List Terminal
follow_set Source = []
follow_set Tops = End ∷ []
follow_set Signed =
    Punctuation punctuation.RIGHT_PAREN ∷ Punctuation punctuation.COMMA ∷ Punctuation punctuation.SEMICOLON ∷ []
follow_set Words = Punctuation punctuation.SEMICOLON ∷ []
follow_set MoreWords = Punctuation punctuation.RIGHT_PAREN ∷ []
follow_set Dims = Punctuation punctuation.COLON ∷ Punctuation punctuation.COMMA ∷ []
follow_set SecondDim = Punctuation punctuation.COLON ∷ Punctuation punctuation.COMMA ∷ []
follow_set (FixIn e) =
    Punctuation punctuation.RIGHT_PAREN ∷ Punctuation punctuation.COMMA ∷ Punctuation punctuation.EQUAL
    ∷ Punctuation punctuation.LEFT_PAREN ∷ Punctuation punctuation.SEMICOLON ∷ []
follow_set (FixEnd e) =
    Punctuation punctuation.RIGHT_PAREN ∷ Punctuation punctuation.COMMA ∷ Punctuation punctuation.EQUAL
    ∷ Punctuation punctuation.LEFT_PAREN ∷ Punctuation punctuation.SEMICOLON ∷ []
follow_set (Mode_ e) = Punctuation punctuation.GREATER ∷ []
follow_set (AfterRound e) = Punctuation punctuation.GREATER ∷ []
follow_set Type_ =
    Punctuation punctuation.RIGHT_PAREN ∷ Punctuation punctuation.COMMA ∷ Punctuation punctuation.EQUAL
    ∷ Punctuation punctuation.SEMICOLON ∷ []
follow_set Name_ = Punctuation punctuation.COLON ∷ Punctuation punctuation.COMMA ∷ []
follow_set MoreNames = Punctuation punctuation.COLON ∷ []
follow_set Decl_ =
    Punctuation punctuation.RIGHT_PAREN ∷ Punctuation punctuation.COMMA ∷ Punctuation punctuation.EQUAL ∷ []
follow_set MoreDecls = Punctuation punctuation.RIGHT_PAREN ∷ []
follow_set Results = Punctuation punctuation.EQUAL ∷ []
follow_set Locals = AName ∷ Keyword keyword.END ∷ Punctuation punctuation.LEFT_PAREN ∷ []
follow_set Manifest_ = after_manifest
follow_set Terms = after_manifest
follow_set Term = operators Sum ++ after_manifest
follow_set Factors = operators Sum ++ after_manifest
follow_set Factor = Punctuation punctuation.STAR ∷ operators Sum ++ after_manifest
follow_set ManifestPrimary =
    Punctuation punctuation.RIGHT_BRACKET ∷ Punctuation punctuation.DOT_DOT ∷ Punctuation punctuation.EQUAL
    ∷ after_unary
follow_set Subs = Punctuation punctuation.AT ∷ after_unary
follow_set SecondSub = Punctuation punctuation.AT ∷ after_unary
follow_set Delay = after_unary
follow_set (Chain l) = after_chain l
follow_set (Rest l) = after_chain l
follow_set Comparison = after_comparison
follow_set CompareRest = after_comparison
follow_set Shift = after_shift
follow_set Shifts = after_shift
follow_set Unary = after_unary
follow_set OtherUnary = after_unary
follow_set AfterMinus = after_unary
follow_set Primary = after_unary
follow_set OtherPrimary = after_unary
follow_set Arms = after_unary
follow_set ArmEnd = after_unary
follow_set TargetSubs =
    Punctuation punctuation.RIGHT_PAREN ∷ Punctuation punctuation.COMMA ∷ Punctuation punctuation.EQUAL
    ∷ Punctuation punctuation.AT_AT ∷ []
follow_set SecondTargetSub =
    Punctuation punctuation.RIGHT_PAREN ∷ Punctuation punctuation.COMMA ∷ Punctuation punctuation.EQUAL
    ∷ Punctuation punctuation.AT_AT ∷ []
follow_set Target =
    Punctuation punctuation.RIGHT_PAREN ∷ Punctuation punctuation.COMMA ∷ Punctuation punctuation.EQUAL
    ∷ Punctuation punctuation.AT_AT ∷ []
follow_set MoreTargets = Punctuation punctuation.RIGHT_PAREN ∷ []
follow_set Args = Punctuation punctuation.RIGHT_PAREN ∷ []
follow_set MoreArgs = Punctuation punctuation.RIGHT_PAREN ∷ []
follow_set Items_ = Keyword keyword.END ∷ []
follow_set Item_ = AName ∷ Keyword keyword.END ∷ Punctuation punctuation.LEFT_PAREN ∷ []
follow_set AfterTarget = AName ∷ Keyword keyword.END ∷ Punctuation punctuation.LEFT_PAREN ∷ []
follow_set RightSide = AName ∷ Keyword keyword.END ∷ Punctuation punctuation.LEFT_PAREN ∷ []
follow_set AfterRightName = AName ∷ Keyword keyword.END ∷ Punctuation punctuation.LEFT_PAREN ∷ []
follow_set AfterOpenName = AName ∷ Keyword keyword.END ∷ Punctuation punctuation.LEFT_PAREN ∷ []
follow_set InitialValue = Punctuation punctuation.SEMICOLON ∷ []

-- the terminals with which symbols may begin that these follow
abbrev pub first_of : List Symbol → List Terminal → List Terminal
first_of [] f = f
first_of (Match ks e ∷ ss) f = ks
first_of (Expand p ∷ ss) f = first_set p ++ (if nullable p then first_of ss f else [])
first_of (Act a ∷ ss) f = first_of ss f

abbrev pub all_nullable : List Symbol → Bool
all_nullable [] = true
all_nullable (Match ks e ∷ ss) = false
all_nullable (Expand p ∷ ss) = nullable p && all_nullable ss
all_nullable (Act a ∷ ss) = all_nullable ss

abbrev pub first_of_any : List (List Terminal × List Symbol) → List Symbol → List Terminal → List Terminal
first_of_any [] other f = first_of other f
first_of_any (x ∷ xs) other f = first_of x.1 f ++ first_of_any xs other f

-- where these terminals follow, a production begins with the terminals that choose it, and no later production does
abbrev pub decides : List (List Terminal × List Symbol) → List Symbol → List Terminal → Bool
decides [] other f = true
decides (x ∷ xs) other f = within (first_of x.1 f) x.0 && (apart x.0 (first_of_any xs other f) && decides xs other f)

abbrev pub is_source : Nonterminal → Bool
is_source Source = true
is_source _ = false

-- a token is asked for, and not the end
abbrev pub inner : List Terminal → Bool
inner [] = false
inner (k ∷ ks) = not (has (k ∷ ks) End)

-- where these terminals follow, each nonterminal is followed by what may follow it
abbrev pub keeps : List Terminal → List Symbol → Bool
keeps f [] = true
keeps f (Match ks e ∷ ss) = inner ks && keeps f ss
keeps f (Expand p ∷ ss) = not (is_source p) && (within (first_of ss f) (follow_set p) && keeps f ss)
keeps f (Act a ∷ ss) = keeps f ss

abbrev pub every : {A : Type 0} → (A → Bool) → List A → Bool
every f [] = true
every f (x ∷ xs) = f x && every f xs

abbrev pub begins_right : Nonterminal → List Symbol → Bool
begins_right p ss = within (first_of ss []) (first_set p) && (not (all_nullable ss) || nullable p)

abbrev pub decided : Nonterminal → Bool
decided AfterMinus = true
decided p = decides (productions p).by_lookahead (productions p).otherwise (follow_set p)

-- a production that ends
abbrev pub short : Nonterminal → List Symbol
short ManifestPrimary = Match (AWhole ∷ []) the.Inside ∷ Act the.whole_manifest ∷ []
short OtherPrimary = Match number the.Inside ∷ Act the.positive ∷ Act the.literal_expr ∷ []
short AfterMinus = Match number the.Inside ∷ Act the.negative ∷ Act the.literal_expr ∷ []
short p = (productions p).otherwise

-- how many symbols that production has, with those of its nonterminals
abbrev pub steps : Nonterminal → ℕ
steps Source = 4
steps Signed = 3
steps Words = 5
steps Dims = 2
steps SecondDim = 2
steps (FixIn e) = 9
steps (FixEnd e) = 3
steps (Mode_ e) = 4
steps (AfterRound e) = 2
steps Type_ = 11
steps Name_ = 5
steps Decl_ = 19
steps Results = 21
steps Manifest_ = 8
steps Term = 6
steps Factor = 4
steps ManifestPrimary = 3
steps Subs = 2
steps SecondSub = 2
steps Delay = 2
steps (Chain Or) = 18
steps (Chain And) = 16
steps (Chain Sum) = 12
steps (Chain Product) = 10
steps Comparison = 14
steps Shift = 8
steps Unary = 6
steps OtherUnary = 5
steps AfterMinus = 4
steps Primary = 5
steps OtherPrimary = 4
steps Arms = 23
steps ArmEnd = 3
steps TargetSubs = 2
steps SecondTargetSub = 2
steps Target = 5
steps Args = 21
steps Item_ = 37
steps AfterTarget = 16
steps InitialValue = 4
steps RightSide = 14
steps AfterRightName = 15
steps AfterOpenName = 34
steps _ = 1

abbrev pub size : List Symbol → ℕ
size [] = 0
size (Match ks e ∷ ss) = 1 + size ss
size (Expand p ∷ ss) = steps p + size ss
size (Act a ∷ ss) = 1 + size ss

pub short_ends : (p : Nonterminal) → nat_lt (size (short p)) (steps p) ≡ true
short_ends (Chain Or) = refl
short_ends (Chain And) = refl
short_ends (Chain Sum) = refl
short_ends (Chain Product) = refl
short_ends p = refl

pub begins : (p : Nonterminal) → every (begins_right p) (alternatives (productions p)) ≡ true
begins (Chain Or) = refl
begins (Chain And) = refl
begins (Chain Sum) = refl
begins (Chain Product) = refl
begins (Rest Or) = refl
begins (Rest And) = refl
begins (Rest Sum) = refl
begins (Rest Product) = refl
begins p = refl

abbrev pub is_right : Nonterminal → Bool
is_right p = every (keeps (follow_set p)) (alternatives (productions p)) && decided p

pub right : (p : Nonterminal) → is_source p ≡ false → is_right p ≡ true
right Source h = cc
right (Chain Or) h = refl
right (Chain And) h = refl
right (Chain Sum) h = refl
right (Chain Product) h = refl
right (Rest Or) h = refl
right (Rest And) h = refl
right (Rest Sum) h = refl
right (Rest Product) h = refl
right p h = refl
