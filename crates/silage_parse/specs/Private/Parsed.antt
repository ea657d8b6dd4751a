-- What the methods of the parser ensure, said of the run of the LL(1) machine.
use Rattle.std.specs.Prelude.{Box, ◌≡◌, ℕ, ◌+◌, ◌≤◌, ◌&&◌, Bool, true, List, [], ◌∷◌, ◌++◌, map, slice_get, Option}
use Rattle.std.specs.Prelude.{Some, None, Result, Ok, Err}
use Rattle.fix_word.specs.declared.types.Mode.{Mode}
use Rattle.fix_word.specs.declared.types.FixType.{FixType}
use Rattle.silage_syntax.specs.declared.tree.Lit.{Lit}
use Rattle.silage_lex.specs.declared.Token.{Token}
use Rattle.silage_lex.specs.declared.TokenKind.{TokenKind}
use Rattle.silage_lex.specs.declared.TokenKind.TheVariants as kind
use Rattle.silage_lex.specs.declared.punctuation.TheConstants as punctuation
use Rattle.silage_lex.specs.declared.keywords.TheConstants as keyword
use Rattle.silage_syntax.specs.declared.tree.Manifest.{Manifest as RustManifest}
use Rattle.silage_syntax.specs.declared.tree.Place.{Place}
use Rattle.silage_syntax.specs.declared.tree.Expr.{Expr}
use Rattle.silage_syntax.specs.declared.tree.BinOp.{BinOp}
use Rattle.std.specs.Global.{Global}
use Rattle.silage_syntax.specs.declared.tree.Item.{Item}
use Rattle.silage_syntax.specs.declared.tree.ConstDef.{ConstDef}
use Rattle.silage_syntax.specs.declared.tree.Func.{Func}
use Rattle.silage_syntax.specs.declared.tree.Top.{Top as RustTop}
use Rattle.silage_syntax.specs.declared.tree.Program.{Program}
use Rattle.silage_syntax.specs.Tree as tree
use Rattle.silage_syntax.specs.Tree.{Top, table, function, view, view_manifest, view_delay, view_place, view_expr}
use Rattle.silage_syntax.specs.Tree.{view_item, view_func, view_top}
use Rattle.silage_syntax.specs.Grammar.{Or, dim, Declared, fix_type, kind_at, from_at, number_of}
use Rattle.silage_parse.specs.declared.ParseFault.{ParseFault}
use Rattle.silage_parse.specs.declared.ParseFault.TheVariants.{Syntax, Deep, Memory}
use Rattle.silage_parse.specs.declared.parser.Counts.{Counts}
use Rattle.silage_parse.specs.declared.parser.Effect.{Effect as RustEffect}
use Rattle.silage_parse.specs.declared.parser.Effect.TheVariants as r
use Rattle.silage_parse.specs.declared.parser.Parser.{Parser}
use Rattle.silage_parse.specs.declared.program.Head.{Head}
use Rattle.silage_syntax.specs.declared.tree.Decl.{Decl}
use Rattle.silage_parse.specs.declared.declarations.Declared.{Declared as RustDeclared}
use Rattle.silage_parse.specs.Private.ParseTable.{productions, if_punctuation, no_subs, two_subs, one_sub, add_locals}
use Rattle.silage_parse.specs.Private.ParseTable.{Type_, Chain, shift_operators, add_shift, choose_expr, Terminal}
use Rattle.silage_parse.specs.Private.ParseTable.{Punctuation, Keyword, AName, AWhole, End, is_one, Effect, Outside}
use Rattle.silage_parse.specs.Private.ParseTable.{Begins, Inside, Enters, Leaves, Value, Symbol, Match, Expand, Act}
use Rattle.silage_parse.specs.Private.ParseTable.{punctuation_of, keyword_of, Nonterminal, number, Name_, Locals}
use Rattle.silage_parse.specs.Private.ParseTable.{no_locals, Args, Manifest_, ManifestPrimary, InitialValue}
use Rattle.silage_parse.specs.Private.ParseTable.{AfterOpenName, Items_, no_items, FixIn, Words, add_table, Results}
use Rattle.silage_parse.specs.Private.ParseTable.{add_function, Tops}
use Rattle.silage_parse.specs.Private.ParseTable as the
use Rattle.silage_parse.specs.Private.CommaLists.{list_of, list_in_parentheses}
use Rattle.silage_parse.specs.Private.CommaLists as comma
use Rattle.silage_parse.specs.Private.Machine.{branches_of, name_text, whole_value, Count, allowed, counted, Outcome}
use Rattle.silage_parse.specs.Private.Machine.{done, fault, Runs, RunsTo}

-- THE STATE OF THE PARSER

abbrev pub counts_of : Counts → Count
counts_of c = record { weight = c.weight; loops = c.loops }

abbrev pub effect : RustEffect → Effect
effect r.Outside = Outside
effect r.Begins = Begins
effect r.Inside = Inside
effect r.Enters = Enters
effect r.Leaves = Leaves

-- the kind of the next token, and of the token after it
abbrev pub next : Parser → Option TokenKind
next p = kind_at p.tokens.now p.at

abbrev pub later : Parser → Option TokenKind
later p = kind_at p.tokens.now (p.at + 1)

-- the name that a token is, and the number without a point
abbrev pub name_of : Option TokenKind → Option (List ℕ)
name_of (Some (kind.Name name)) = Some name
name_of _ = None

abbrev pub whole_of : Option TokenKind → Option ℕ
whole_of (Some (kind.Whole n)) = Some n
whole_of _ = None

-- the byte at which the next token begins
abbrev pub start_of : Parser → ℕ
start_of p = from_at p.tokens.now p.at

-- from here, with these symbols to go through and these values on its stack, the machine comes to this outcome
abbrev pub RunsFrom : Parser → List Symbol → List Value → Outcome → Type 0
RunsFrom p ss vs o = Runs p.tokens.now ss p.at (counts_of p.counts) vs o

-- From one state of the parser to another the symbols ss become rest and the values vs become ws, whatever is below.
pub record Leads
    (ss : List Symbol) (from : Parser) (vs : List Value) (rest : List Symbol) (to : Parser) (ws : List Value)
    : Type 0 where
  pub same : to.tokens.now ≡ from.tokens.now
  pub order : from.at ≤ to.at
  pub run : (below : List Symbol) (under : List Value) (o : Outcome)
      → RunsFrom to (rest ++ below) (ws ++ under) o
      → RunsFrom from (ss ++ below) (vs ++ under) o

-- the machine stops with the fault inside these symbols
abbrev pub Halts : List Symbol → Parser → List Value → ParseFault → Type 0
Halts ss from vs Memory = Unit {0}
Halts ss from vs (Syntax k) =
    (below : List Symbol) (under : List Value) → RunsFrom from (ss ++ below) (vs ++ under) (fault (Syntax k))
Halts ss from vs (Deep k) =
    (below : List Symbol) (under : List Value) → RunsFrom from (ss ++ below) (vs ++ under) (fault (Deep k))

-- WHAT A METHOD READS

-- Where it answers a value, this is so of the value; where it answers a fault, the machine stops with it inside ss.
abbrev pub Reads : {A : Type 0} → List Symbol → Parser → List Value → (A → Type 0) → Result A ParseFault → Type 0
Reads ss from vs is (Ok x) = is x
Reads ss from vs is (Err f) = Halts ss from vs f

-- It goes through the symbols, and the values vs on the stack become those of what it answers.
abbrev pub IsRead : {A : Type 0}
    → List Symbol
    → Parser
    → List Value
    → (A → List Value)
    → Parser
    → Result A ParseFault
    → Type 0
IsRead ss from vs values to result = Reads ss from vs (λ x. Leads ss from vs [] to (values x)) result

-- it reads one nonterminal
abbrev pub IsParsed : {A : Type 0} → Nonterminal → Parser → (A → Value) → Parser → Result A ParseFault → Type 0
IsParsed p from value to result = IsRead (Expand p ∷ []) from [] (λ x. value x ∷ []) to result

-- it reads what is between two tokens
abbrev pub ReadsBetween : {A : Type 0} → List Symbol → (A → Value) → Parser → Parser → Result A ParseFault → Type 0
ReadsBetween ss value from to result = Reads ss from [] (λ x.
    (opened : Token) × (closed : Token)
    × Leads ss from [] [] to (the.token closed ∷ value x ∷ the.token opened ∷ [])) result

-- the next token is one of these, and the parser goes past it
pub record Matches (ks : List Terminal) (e : Effect) (from to : Parser) : Type 0 where
  pub token : Token
  pub there : slice_get from.tokens.now from.at ≡ Some token
  pub is_of : is_one ks (next from) ≡ true
  pub same : to.tokens.now ≡ from.tokens.now
  pub one : to.at ≡ from.at + 1
  pub run : (below : List Symbol) (under : List Value) (o : Outcome)
      → RunsFrom to below (the.token token ∷ under) o
      → RunsFrom from (Match ks e ∷ below) under o

-- the limits let the token pass, and the counts become these
pub record IsCounted (t : Token) (e : Effect) (from to : Counts) : Type 0 where
  pub passes : allowed e (Some t) (counts_of from) ≡ true
  pub counts : counts_of to ≡ counted e (Some t) (counts_of from)

-- it goes past the next token, whichever terminals that is one of
pub record Advances (e : Effect) (from to : Parser) : Type 0 where
  pub same : to.tokens.now ≡ from.tokens.now
  pub one : to.at ≡ from.at + 1
  pub as_one_of : (ks : List Terminal) → is_one ks (next from) ≡ true → Matches ks e from to

-- it goes past a token that may be one of these, and past any token
abbrev pub Passes : List Terminal → Effect → Parser → Parser → Result Unit ParseFault → Type 0
Passes ks e from to result = Reads (Match ks e ∷ []) from [] (λ x. Matches ks e from to) result

abbrev pub PassesAny : Effect → Parser → Parser → Result Unit ParseFault → Type 0
PassesAny e from to (Ok x) = Advances e from to
PassesAny e from to (Err f) = (ks : List Terminal) → is_one ks (next from) ≡ true → Halts (Match ks e ∷ []) from [] f

-- it reads a name, a number without a point, the digits and the places of a number
abbrev pub ReadsName : Effect → Parser → Parser → Result (List ℕ) ParseFault → Type 0
ReadsName e from to result = Reads (Match (AName ∷ []) e ∷ []) from [] (λ name.
    Matches (AName ∷ []) e from to × (next from ≡ Some (kind.Name name))) result

abbrev pub ReadsWhole : Effect → Parser → Parser → Result ℕ ParseFault → Type 0
ReadsWhole e from to result = Reads (Match (AWhole ∷ []) e ∷ []) from [] (λ n.
    Matches (AWhole ∷ []) e from to × (next from ≡ Some (kind.Whole n))) result

abbrev pub ReadsNumber : Effect → Parser → Parser → Result (ℕ × ℕ) ParseFault → Type 0
ReadsNumber e from to result = Reads (Match number e ∷ []) from [] (λ n.
    Matches number e from to × (number_of (next from) ≡ Some n)) result

-- TYPES

-- it reads what comes after the `round` of a mode, of which the machine makes the mode
abbrev pub EndsMode : Effect → Parser → Parser → Result Mode ParseFault → Type 0
EndsMode e from to result =
    (word : Token)
    → IsRead (Expand (the.AfterRound e) ∷ []) from (the.token word ∷ []) (λ m. the.mode m ∷ []) to result

-- what is on the stack where the sizes of a fix type are read
abbrev pub sizes_read : (fraction comma width below fix : Token) → List Value
sizes_read fraction comma width below fix =
    the.token fraction ∷ the.token comma ∷ the.token width ∷ the.token below ∷ the.token fix ∷ []

-- it reads the end of a fix type after its sizes, of which the machine makes the type
abbrev pub EndsFix : Effect → Parser → Parser → Result Mode ParseFault → Type 0
EndsFix e from to result = (fraction comma width below fix : Token)
    → IsRead (Expand (the.FixEnd e) ∷ []) from (sizes_read fraction comma width below fix)
    (λ m. the.fix fix.from (fix_type (whole_value width) (whole_value fraction) m) ∷ []) to result

-- MANIFESTS AND PLACES

abbrev pub manifest_value : RustManifest → Value
manifest_value m = the.manifest (view_manifest m)

abbrev pub subs_value : List RustManifest → Value
subs_value ms = the.subs (map view_manifest ms)

abbrev pub delay_value : Option RustManifest → Value
delay_value d = the.delay (view_delay d)

abbrev pub place_value : Place → Value
place_value p = the.place (view_place p)

abbrev pub place_values : List Place → Value
place_values ps = the.places (map view_place ps)

-- a manifest in brackets, with their effects
abbrev pub in_brackets : Effect → Effect → List Symbol
in_brackets before after =
    punctuation_of punctuation.LEFT_BRACKET before ∷ Expand Manifest_ ∷ punctuation_of punctuation.RIGHT_BRACKET after
    ∷ []

-- the nonterminal stands for none, one or two manifests in brackets with these effects
pub record AreSubscripts (subs second : Nonterminal) (before after : Effect) : Type 0 where
  pub none : productions subs
      ≡ if_punctuation punctuation.LEFT_BRACKET (in_brackets before after ++ Expand second ∷ []) (Act no_subs ∷ [])
  pub one : productions second
      ≡ if_punctuation punctuation.LEFT_BRACKET (in_brackets before after ++ Act two_subs ∷ []) (Act one_sub ∷ [])

-- DECLARATIONS

abbrev pub view_declared : RustDeclared → Declared
view_declared d = record { name = d.name; at = d.at; dims = d.dims }

abbrev pub declared_value : RustDeclared → Value
declared_value d = the.name (view_declared d)

abbrev pub declared_values : List RustDeclared → Value
declared_values ds = the.names (map view_declared ds)

-- the type of a line of locals, the line, and all lines
abbrev pub type_in_line : List Symbol
type_in_line =
    punctuation_of punctuation.COLON Outside ∷ Expand Type_ ∷ punctuation_of punctuation.SEMICOLON Outside ∷ []

abbrev pub local_line : List Symbol
local_line = keyword_of keyword.VAR Outside ∷ list_of comma.names ++ type_in_line ++ Act add_locals ∷ []

abbrev pub local_lines : List Symbol
local_lines = Act no_locals ∷ Expand Locals ∷ []

-- a dim in brackets
abbrev pub dim_in_brackets : List Symbol
dim_in_brackets =
    punctuation_of punctuation.LEFT_BRACKET Outside ∷ Match (AWhole ∷ []) Outside
    ∷ punctuation_of punctuation.RIGHT_BRACKET Outside ∷ []

abbrev pub ReadsDim : Parser → Parser → Result ℕ ParseFault → Type 0
ReadsDim from to result = Reads dim_in_brackets from [] (λ n.
    (opened : Token) × (size : Token) × (closed : Token) × (dim (whole_value size) ≡ n)
    × Leads dim_in_brackets from [] [] to (the.token closed ∷ the.token size ∷ the.token opened ∷ [])) result

-- EXPRESSIONS

abbrev pub expr_value : Expr → Value
expr_value e = the.expr (view_expr e)

abbrev pub expr_values : List Expr → Value
expr_values es = the.exprs (map view_expr es)

-- an expression in parentheses; an operator with the amount of a shift; what comes after the condition of a branch,
-- and after the last value of a choice
abbrev pub in_parentheses : List Symbol
in_parentheses =
    punctuation_of punctuation.LEFT_PAREN Inside ∷ Expand (Chain Or) ∷ punctuation_of punctuation.RIGHT_PAREN Inside
    ∷ []

abbrev pub shifted : List Symbol
shifted = Match shift_operators Inside ∷ Expand ManifestPrimary ∷ Act add_shift ∷ []

abbrev pub branch_value : List Symbol
branch_value = punctuation_of punctuation.ARROW Inside ∷ Expand (Chain Or) ∷ []

abbrev pub choice_end : List Symbol
choice_end = keyword_of keyword.FI Inside ∷ Act choose_expr ∷ []

-- it reads the value of a branch, and adds the branch with this condition to the others
abbrev pub ReadsBranch : Expr → (before after : List (Expr × Expr)) → Parser → Parser → Result Unit ParseFault → Type 0
ReadsBranch when before after from to result = Reads branch_value from [] (λ x.
    (arrow : Token) × (value : Expr) × (after ≡ before ++ (when, value) ∷ [])
    × Leads branch_value from [] [] to (expr_value value ∷ the.token arrow ∷ [])) result

-- the tree of an operator at this byte with its operands
abbrev pub binary_value : ℕ → BinOp → tree.Expr → Box Expr Global → Value
binary_value at operator left right = the.expr (tree.binary at operator left (view_expr right.value))

-- the branches of a choice so far, and the choice of them and its last value
abbrev pub view_branch : Expr × Expr → tree.Expr × tree.Expr
view_branch x = (view_expr x.0, view_expr x.1)

abbrev pub branches_value : ℕ → List (Expr × Expr) → Value
branches_value at xs = the.arms at (map view_branch xs)

abbrev pub choice_value : ℕ → List (Expr × Expr) → Box Expr Global → Value
choice_value at xs last = the.expr (tree.choose at (branches_of (map view_branch xs)) (view_expr last.value))

-- ITEMS

abbrev pub item_value : Item → Value
item_value x = the.an_item (view_item x)

abbrev pub item_values : List Item → Value
item_values xs = the.items (map view_item xs)

abbrev pub item_list : List Symbol
item_list = Act no_items ∷ Expand Items_ ∷ []

-- the arguments of a call with what ends it; an initial value after its place; the value of an equation with its end;
-- the bounds of a loop after its index, and the upper one after the lower one
abbrev pub call_end : List Symbol
call_end =
    punctuation_of punctuation.LEFT_PAREN Begins ∷ Expand Args ∷ punctuation_of punctuation.RIGHT_PAREN Outside
    ∷ punctuation_of punctuation.SEMICOLON Outside ∷ []

abbrev pub initial_end : List Symbol
initial_end =
    punctuation_of punctuation.AT_AT Begins ∷ Expand ManifestPrimary ∷ punctuation_of punctuation.EQUAL Outside
    ∷ Expand InitialValue
    ∷ punctuation_of punctuation.SEMICOLON Outside ∷ []

abbrev pub equation_end : List Symbol
equation_end = Expand (Chain Or) ∷ punctuation_of punctuation.SEMICOLON Outside ∷ []

abbrev pub upper_bound : List Symbol
upper_bound =
    punctuation_of punctuation.DOT_DOT Begins ∷ Expand Manifest_ ∷ punctuation_of punctuation.RIGHT_PAREN Outside
    ∷ punctuation_of punctuation.COLON_COLON Outside ∷ []

abbrev pub loop_bounds : List Symbol
loop_bounds = punctuation_of punctuation.COLON Begins ∷ Expand Manifest_ ∷ upper_bound

-- what comes after the `(` of an item
abbrev pub after_open : List Symbol
after_open = Match (AName ∷ []) Outside ∷ Expand AfterOpenName ∷ []

-- the next token is the name of a function that is called
abbrev pub is_called : Parser → Bool
is_called p = is_one (AName ∷ []) (next p) && is_one (Punctuation punctuation.LEFT_PAREN ∷ []) (later p)

abbrev pub ReadsCallEnd : Parser → Parser → Result (List Expr) ParseFault → Type 0
ReadsCallEnd from to result = Reads call_end from [] (λ args.
    (opened : Token) × (closed : Token) × (ended : Token)
    × Leads call_end from [] [] to
    (the.token ended ∷ the.token closed ∷ expr_values args ∷ the.token opened ∷ [])) result

abbrev pub ReadsInitial : Parser → Parser → Result (RustManifest × Lit) ParseFault → Type 0
ReadsInitial from to result = Reads initial_end from [] (λ x.
    (marks : Token) × (equal : Token) × (ended : Token)
    × Leads initial_end from [] [] to
    (the.token ended ∷ the.lit x.1 ∷ the.token equal ∷ manifest_value x.0 ∷ the.token marks ∷ [])) result

abbrev pub ReadsEquationEnd : Parser → Parser → Result Expr ParseFault → Type 0
ReadsEquationEnd from to result = Reads equation_end from [] (λ e.
    (ended : Token) × Leads equation_end from [] [] to (the.token ended ∷ expr_value e ∷ [])) result

abbrev pub ReadsUpperBound : Parser → Parser → Result RustManifest ParseFault → Type 0
ReadsUpperBound from end result = Reads upper_bound from [] (λ hi.
    (each : Token) × (closed : Token) × (to : Token)
    × Leads upper_bound from [] [] end
    (the.token each ∷ the.token closed ∷ manifest_value hi ∷ the.token to ∷ [])) result

-- what is on the stack where the bounds of a loop are read
abbrev pub bounds_read : (each closed to colon : Token) → RustManifest × RustManifest → List Value
bounds_read each closed to colon bounds =
    the.token each ∷ the.token closed ∷ manifest_value bounds.1 ∷ the.token to ∷ manifest_value bounds.0
    ∷ the.token colon ∷ []

-- the end of a block with the effect of its `end`, and the body of a loop
abbrev pub block_end : Effect → List Symbol
block_end e = keyword_of keyword.END e ∷ punctuation_of punctuation.SEMICOLON Outside ∷ []

abbrev pub loop_body : List Symbol
loop_body = keyword_of keyword.BEGIN Enters ∷ item_list ++ block_end Leaves

abbrev pub ReadsBlockEnd : Effect → Parser → Parser → Result Unit ParseFault → Type 0
ReadsBlockEnd e from to result = Reads (block_end e) from [] (λ x.
    (closed : Token) × (ended : Token)
    × Leads (block_end e) from [] [] to (the.token ended ∷ the.token closed ∷ [])) result

abbrev pub ReadsLoopBody : Parser → Parser → Result (List Item) ParseFault → Type 0
ReadsLoopBody from to result = Reads loop_body from [] (λ xs.
    (opened : Token) × (closed : Token) × (ended : Token)
    × Leads loop_body from [] [] to
    (the.token ended ∷ the.token closed ∷ item_values xs ∷ the.token opened ∷ [])) result

abbrev pub ReadsBounds : Parser → Parser → Result (RustManifest × RustManifest) ParseFault → Type 0
ReadsBounds from end result = Reads loop_bounds from [] (λ bounds.
    (each : Token) × (closed : Token) × (to : Token) × (colon : Token)
    × Leads loop_bounds from [] [] end (bounds_read each closed to colon bounds)) result

-- THE WHOLE SOURCE

-- what a table has after its name
abbrev pub table_content : List Symbol
table_content =
    punctuation_of punctuation.COLON Outside ∷ Expand (FixIn Outside) ∷ punctuation_of punctuation.EQUAL Outside
    ∷ Expand Words
    ∷ punctuation_of punctuation.SEMICOLON Outside ∷ []

abbrev pub table_row : List Symbol
table_row = keyword_of keyword.CONST Outside ∷ Expand Name_ ∷ table_content ++ Act add_table ∷ []

-- what is on the stack where the content of a table is read, whose type begins at this byte
abbrev pub content_read : (colon equal ended : Token) → (at : ℕ) → FixType × List Lit → List Value
content_read colon equal ended at content =
    the.token ended ∷ the.lits content.1 ∷ the.token equal ∷ the.fix at content.0 ∷ the.token colon ∷ []

abbrev pub ReadsContent : Parser → Parser → Result (FixType × List Lit) ParseFault → Type 0
ReadsContent from to result = Reads table_content from [] (λ content.
    (colon : Token) × (equal : Token) × (ended : Token) × (at : ℕ)
    × Leads table_content from [] [] to (content_read colon equal ended at content)) result

-- a function has a head, which are its name, its parameters and its results, and a body
abbrev pub function_head : List Symbol
function_head = Match (AName ∷ []) Outside ∷ list_in_parentheses comma.decls ++ Expand Results ∷ []

abbrev pub function_body : List Symbol
function_body =
    punctuation_of punctuation.EQUAL Outside ∷ keyword_of keyword.BEGIN Outside
    ∷ local_lines ++ item_list ++ block_end Outside

abbrev pub function_row : List Symbol
function_row = keyword_of keyword.FUNC Outside ∷ function_head ++ function_body ++ Act add_function ∷ []

-- what is on the stack where the head of a function is read, and where its body is read
abbrev pub head_read : (name opened closed : Token) → Head → List Value
head_read name opened closed head =
    the.decls head.results ∷ the.token closed ∷ the.decls head.params ∷ the.token opened ∷ the.token name ∷ []

abbrev pub body_read : (equal opened closed ended : Token) → List Decl × List Item → List Value
body_read equal opened closed ended body =
    the.token ended ∷ the.token closed ∷ item_values body.1 ∷ the.decls body.0 ∷ the.token opened ∷ the.token equal
    ∷ []

abbrev pub ReadsHead : Parser → Parser → Result Head ParseFault → Type 0
ReadsHead from to result = Reads function_head from [] (λ head.
    (name : Token) × (opened : Token) × (closed : Token) × (name_text name ≡ head.name) × (name.from ≡ head.at)
    × Leads function_head from [] [] to (head_read name opened closed head)) result

abbrev pub ReadsBody : Parser → Parser → Result (List Decl × List Item) ParseFault → Type 0
ReadsBody from to result = Reads function_body from [] (λ body.
    (equal : Token) × (opened : Token) × (closed : Token) × (ended : Token)
    × Leads function_body from [] [] to (body_read equal opened closed ended body)) result

-- what the whole source goes on with between tables and functions
abbrev pub source_rest : List Symbol
source_rest = Expand Tops ∷ Match (End ∷ []) Outside ∷ []

-- the tables and functions so far, with one more
abbrev pub with_table : List Top → ConstDef → List Value
with_table tops t = the.tops (tops ++ table t ∷ []) ∷ []

abbrev pub with_function : List Top → Func → List Value
with_function tops f = the.tops (tops ++ function (view_func f) ∷ []) ∷ []

abbrev pub with_top : List Top → RustTop → List Value
with_top tops t = the.tops (tops ++ view_top t ∷ []) ∷ []

-- it reads a table or a function, to where the machine looks for the next one
abbrev pub ReadsTop : Parser → List Top → Parser → Result RustTop ParseFault → Type 0
ReadsTop from tops to result = Reads source_rest from (the.tops tops ∷ []) (λ top.
    Leads source_rest from (the.tops tops ∷ []) source_rest to (with_top tops top)) result

-- what the whole run comes to, memory aside
abbrev pub IsRun : List Token → Result Program ParseFault → Type 0
IsRun ts (Ok p) = RunsTo ts (done (the.tops (view p).tops ∷ []))
IsRun ts (Err (Syntax k)) = RunsTo ts (fault (Syntax k))
IsRun ts (Err (Deep k)) = RunsTo ts (fault (Deep k))
IsRun ts (Err Memory) = Unit {0}
