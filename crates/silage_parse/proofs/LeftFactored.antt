-- Productions with a common first token, which the table has left-factored.
use Rattle.std.proofs.Common.{◌≡◌, ℕ, ◌+◌, List, [], ◌∷◌, ◌++◌, refl, true, false, Bool}
use Rattle.std.specs.Prelude.{◌&&◌}
use Rattle.lists.proofs.Bools.{both_true}
use Rattle.silage_lex.specs.declared.Token.{Token}
use Rattle.silage_lex.specs.declared.punctuation.TheConstants as punctuation
use Rattle.silage_syntax.specs.Grammar.{kind_at, Or}
use Rattle.silage_parse.specs.declared.parser.Parser.{Parser}
use Rattle.silage_parse.specs.Private.ParseTable.{AName, Punctuation, Outside, Value, Symbol, Match, Expand, Act, Chain}
use Rattle.silage_parse.specs.Private.ParseTable.{RightSide, is_equation, is_calls, is_one, punctuation_of}
use Rattle.silage_parse.specs.Private.Machine.{Count, Outcome, Runs, expands}
use Rattle.silage_parse.specs.Private.Parsed.{next, later, Leads, after_open, is_called, call_end}
use Rattle.silage_parse.specs.Private.CommaLists.{list_of, places}
use Rattle.silage_parse.proofs.RightSides.{gone, taken_then, equation_at_name, equation_at_other}
use Rattle.silage_parse.proofs.Steps.{turns}

-- what comes after the places of a call
abbrev pub calls_rest : List Symbol
calls_rest =
    punctuation_of punctuation.RIGHT_PAREN Outside ∷ punctuation_of punctuation.EQUAL Outside
    ∷ Match (AName ∷ []) Outside
    ∷ call_end ++ Act is_calls ∷ []

-- a list of places, where it is known that no loop begins
to_calls : {ts : List Token} {ss : List Symbol} {i : ℕ} {c : Count} {vs : List Value} {o : Outcome}
    → is_one (Punctuation punctuation.COLON ∷ []) (kind_at ts (i + 1)) ≡ false
    → Runs ts (list_of places ++ (calls_rest ++ ss)) i c vs o
    → Runs ts (after_open ++ ss) i c vs o
to_calls no_loop r = taken_then (λ d ws q. expands (rw no_loop q)) (gone r)

pub calls_begin : {ss : List Symbol} {from to : Parser} {vs us : List Value}
    → Leads ss from vs after_open to us
    → is_one (Punctuation punctuation.COLON ∷ []) (later to) ≡ false
    → Leads ss from vs (list_of places ++ calls_rest) to us
calls_begin l no_loop = turns l (λ below under o r. to_calls no_loop r)

-- an expression on the right, where it is known that no call begins
no_call : {ts : List Token} {ss : List Symbol} {i : ℕ} {c : Count} {vs : List Value} {o : Outcome} (name open_ : Bool)
    → is_one (AName ∷ []) (kind_at ts i) ≡ name
    → is_one (Punctuation punctuation.LEFT_PAREN ∷ []) (kind_at ts (i + 1)) ≡ open_
    → (name && open_) ≡ false
    → Runs ts (Expand (Chain Or) ∷ punctuation_of punctuation.SEMICOLON Outside ∷ Act is_equation ∷ ss) i c vs o
    → Runs ts (Expand RightSide ∷ ss) i c vs o
no_call true true n op h r = cc
no_call true false n op h r = equation_at_name n op r
no_call false open_ n op h r = equation_at_other n r

pub equation_begins : {ss rest : List Symbol} {from to : Parser} {vs us : List Value}
    → Leads ss from vs (Expand RightSide ∷ rest) to us
    → is_called to ≡ false
    → Leads ss from vs (Expand (Chain Or) ∷ punctuation_of punctuation.SEMICOLON Outside ∷ Act is_equation ∷ rest) to us
equation_begins l h = turns l (λ below under o r. no_call _ _ refl refl h r)

pub called : (p : Parser)
    → is_called p ≡ true
    → (is_one (AName ∷ []) (next p) ≡ true) × (is_one (Punctuation punctuation.LEFT_PAREN ∷ []) (later p) ≡ true)
called p h = both_true _ _ h
