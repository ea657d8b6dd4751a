-- The steps of a method: how what it has read so far goes on, and how a fault of a part is the fault of the whole.
use Rattle.std.proofs.Common.{◌≡◌, ℕ, ◌+◌, ◌<◌, List, ◌++◌, Option, Some, subst, true, false, append_assoc, Result, Ok}
use Rattle.std.proofs.Common.{Err}
pub use Rattle.std.proofs.Common.{refl, sym, ap, ◌∙◌, [], ◌∷◌, arith}
pub use Rattle.silage_parse.proofs.Tokens.{taken_from, taken_as, taken_name, taken_whole, then_next}
use Rattle.std.specs.Prelude.{slice_get, OnOk, IsErrAnd}
use Rattle.silage_lex.specs.declared.Token.{Token}
use Rattle.silage_parse.specs.declared.ParseFault.{ParseFault}
use Rattle.silage_parse.specs.declared.ParseFault.TheVariants.{Syntax, Deep, Memory}
use Rattle.silage_parse.specs.declared.parser.Parser.{Parser}
use Rattle.silage_parse.specs.Private.ParseTable.{Terminal, Effect, Value, Symbol, Match, Expand, Act, Nonterminal}
use Rattle.silage_parse.specs.Private.ParseTable.{Action, Productions, productions, always, is_one}
use Rattle.silage_parse.specs.Private.ParseTable as the
use Rattle.silage_parse.specs.Private.Machine.{Outcome, fault, Runs, allowed, counted, pushed, predict, expands, acts}
use Rattle.silage_parse.specs.Private.Machine.{made}
use Rattle.silage_parse.specs.Private.Machine as machine
use Rattle.silage_parse.specs.Private.Parsed.{counts_of, next, RunsFrom, Leads, Halts, Matches, IsRead, ReadsBetween}
use Rattle.silage_parse.specs.Private.Parsed.{IsCounted}

-- nothing is read yet
pub start : (ss : List Symbol) (from : Parser) (vs : List Value) → Leads ss from vs ss from vs
start ss from vs = record { same = refl; order = omega arith; run = λ below under o r. r }

-- a token is read
pub matches : {ss rest : List Symbol} {from mid to : Parser} {vs us : List Value} {ks : List Terminal} {e : Effect}
    → Leads ss from vs (Match ks e ∷ rest) mid us
    → (t : Matches ks e mid to)
    → Leads ss from vs rest to (the.token t.token ∷ us)
matches l t = record {
  same = t.same ∙ l.same;
  order = let a = l.order in let b = t.one in omega arith;
  run = λ below under o r. l.run _ _ _ (t.run _ _ _ r);
}

pub with_effect : {ks : List Terminal} {e f : Effect} {from to : Parser}
    → f ≡ e
    → Matches ks e from to
    → Matches ks f from to
with_effect same t = rw same t

-- a nonterminal is read
pub parses : {ss rest : List Symbol} {from mid to : Parser} {vs us : List Value} {p : Nonterminal} {v : Value}
    → Leads ss from vs (Expand p ∷ rest) mid us
    → Leads (Expand p ∷ []) mid [] [] to (v ∷ [])
    → Leads ss from vs rest to (v ∷ us)
parses l g = record {
  same = g.same ∙ l.same;
  order = let a = l.order in let b = g.order in omega arith;
  run = λ below under o r. l.run _ _ _ (g.run _ _ _ r);
}

-- some symbols are read, over some values
pub reads : (ps : List Symbol) (ws us : List Value) {ss rest : List Symbol} {from mid to : Parser} {vs xs : List Value}
    → Leads ss from vs (ps ++ rest) mid (ws ++ us)
    → Leads ps mid ws [] to xs
    → Leads ss from vs rest to (xs ++ us)
reads ps ws us {rest = rest} {xs = xs} l g = record {
  same = g.same ∙ l.same;
  order = let a = l.order in let b = g.order in omega arith;
  run = λ below under o r.
      l.run below under o
      (rw (append_assoc ps rest below, append_assoc ws us under)
      (g.run (rest ++ below) (us ++ under) o (rw (← (append_assoc xs us under)) r)));
}

-- an action is done
pub does : {ss rest : List Symbol} {from to : Parser} {vs us ws : List Value} {a : Action}
    → Leads ss from vs (Act a ∷ rest) to us
    → ((under : List Value) → made a (us ++ under) ≡ ws ++ under)
    → Leads ss from vs rest to ws
does {rest = rest} {to = to} l same = record {
  same = l.same;
  order = l.order;
  run = λ below under o r.
      l.run below under o (acts (subst (λ vs. RunsFrom to (rest ++ below) vs o) (sym (same under)) r));
}

-- an action is done whose result computes
pub computes : {ss rest : List Symbol} {from to : Parser} {vs us : List Value} {a : Action}
    → Leads ss from vs (Act a ∷ rest) to us
    → ((under : List Value) → made a (us ++ under) ≡ made a us ++ under)
    → Leads ss from vs rest to (made a us)
computes l same = does l same

-- the stack, written otherwise
pub giving : {ss rest : List Symbol} {from to : Parser} {vs us ws : List Value}
    → Leads ss from vs rest to us
    → us ≡ ws
    → Leads ss from vs rest to ws
giving {ss} {rest} {from} {to} {vs} l same = subst (λ us. Leads ss from vs rest to us) same l

-- the symbols that are left, written otherwise
pub turns : {ss ps qs : List Symbol} {from to : Parser} {vs us : List Value}
    → Leads ss from vs ps to us
    → ((below : List Symbol) (under : List Value) (o : Outcome)
    → RunsFrom to (qs ++ below) (us ++ under) o
    → RunsFrom to (ps ++ below) (us ++ under) o)
    → Leads ss from vs qs to us
turns l turn =
    record { same = l.same; order = l.order; run = λ below under o r. l.run below under o (turn below under o r) }

-- The machine replaces a nonterminal by the production that the table predicts.
pub predicts : {ss rest : List Symbol} {from to : Parser} {vs us : List Value} {p : Nonterminal} (row : List Symbol)
    → Leads ss from vs (Expand p ∷ rest) to us
    → predict (productions p) (next to) ≡ row
    → Leads ss from vs (row ++ rest) to us
predicts {rest = rest} {to = to} {us = us} {p} row l is = record {
  same = l.same;
  order = l.order;
  run = λ below under o r.
      l.run below under o
      (expands (subst (λ ps. RunsFrom to (ps ++ (rest ++ below)) (us ++ under) o) (sym is)
      (rw (← (append_assoc row rest below)) r)));
}

pub only : {ss rest row : List Symbol} {from to : Parser} {vs us : List Value} {p : Nonterminal}
    → Leads ss from vs (Expand p ∷ rest) to us
    → productions p ≡ always row
    → Leads ss from vs (row ++ rest) to us
only {row = row} l table = predicts row l (rw table refl)

pub first :
    {ss rest row other : List Symbol} {from to : Parser} {vs us : List Value} {p : Nonterminal} {ks : List Terminal}
    {rows : List (List Terminal × List Symbol)}
    → Leads ss from vs (Expand p ∷ rest) to us
    → productions p ≡ record { by_lookahead = (ks, row) ∷ rows; otherwise = other }
    → is_one ks (next to) ≡ true
    → Leads ss from vs (row ++ rest) to us
first {row = row} l table this = predicts row l (rw (table, this) refl)

pub second :
    {ss rest row row2 other : List Symbol} {from to : Parser} {vs us : List Value} {p : Nonterminal}
    {ks ls : List Terminal} {rows : List (List Terminal × List Symbol)}
    → Leads ss from vs (Expand p ∷ rest) to us
    → productions p ≡ record { by_lookahead = (ks, row) ∷ (ls, row2) ∷ rows; otherwise = other }
    → is_one ks (next to) ≡ false
    → is_one ls (next to) ≡ true
    → Leads ss from vs (row2 ++ rest) to us
second {row2 = row2} l table before this = predicts row2 l (rw (table, before, this) refl)

pub other :
    {ss rest row other : List Symbol} {from to : Parser} {vs us : List Value} {p : Nonterminal} {ks : List Terminal}
    → Leads ss from vs (Expand p ∷ rest) to us
    → productions p ≡ record { by_lookahead = (ks, row) ∷ []; otherwise = other }
    → is_one ks (next to) ≡ false
    → Leads ss from vs (other ++ rest) to us
other {other = row} l table before = predicts row l (rw (table, before) refl)

pub other_of_two :
    {ss rest row row2 other : List Symbol} {from to : Parser} {vs us : List Value} {p : Nonterminal}
    {ks ls : List Terminal}
    → Leads ss from vs (Expand p ∷ rest) to us
    → productions p ≡ record { by_lookahead = (ks, row) ∷ (ls, row2) ∷ []; otherwise = other }
    → is_one ks (next to) ≡ false
    → is_one ls (next to) ≡ false
    → Leads ss from vs (other ++ rest) to us
other_of_two {other = row} l table before after = predicts row l (rw (table, before, after) refl)

-- A fault of a part is the fault of the whole.
pub stops :
    (ps rest : List Symbol) (ws us : List Value) {ss : List Symbol} {from mid : Parser} {vs : List Value}
    (f : ParseFault)
    → Leads ss from vs (ps ++ rest) mid (ws ++ us)
    → Halts ps mid ws f
    → Halts ss from vs f
stops ps rest ws us (Syntax k) l h = λ below under.
    l.run below under _ (rw (append_assoc ps rest below, append_assoc ws us under) (h (rest ++ below) (us ++ under)))
stops ps rest ws us (Deep k) l h = λ below under.
    l.run below under _ (rw (append_assoc ps rest below, append_assoc ws us under) (h (rest ++ below) (us ++ under)))
stops ps rest ws us Memory l h = tt

pub stops_at : {s : Symbol} {ss rest : List Symbol} {from mid : Parser} {vs us : List Value} (f : ParseFault)
    → Leads ss from vs (s ∷ rest) mid us
    → Halts (s ∷ []) mid [] f
    → Halts ss from vs f
stops_at {s} {rest = rest} {us = us} f l h = stops (s ∷ []) rest [] us f l h

-- the fault that `?` passes on
pub fault_is : {A : Type 0} {f : ParseFault} (r : Result A ParseFault) → IsErrAnd r (λ e. e ≡ f) → r ≡ Err f
fault_is (Ok x) same = absurd same
fault_is (Err e) same = ap (λ x. Err x) same

-- the next token is gone past, or passes a limit
pub taken : {ks : List Terminal} {e : Effect} {from to : Parser} (t : Token)
    → slice_get from.tokens.now from.at ≡ Some t
    → IsCounted t e from.counts to.counts
    → to.tokens.now ≡ from.tokens.now
    → to.at ≡ from.at + 1
    → is_one ks (next from) ≡ true
    → Matches ks e from to
taken {ks} {e} {from} {to} t there c same one is_of = record {
  token = t;
  there = there;
  is_of = is_of;
  same = same;
  one = one;
  run = λ below under o r.
      let P : Option Token → Type 0 = λ x.
      Runs from.tokens.now below (from.at + 1) (counted e x (counts_of from.counts)) (pushed x under) o in
      machine.matches is_of (rw there c.passes) (subst P (sym there) (rw (← c.counts, ← same, ← one) r));
}

pub limited : {ks : List Terminal} {e : Effect} (from : Parser) (t : Token)
    → slice_get from.tokens.now from.at ≡ Some t
    → allowed e (Some t) (counts_of from.counts) ≡ false
    → is_one ks (next from) ≡ true
    → Halts (Match ks e ∷ []) from [] (Deep from.at)
limited from t there deep is_of = λ below under. machine.limit is_of (rw there deep)

-- another token is next, or none
pub unlike : {ks : List Terminal} {e : Effect} (from : Parser)
    → is_one ks (next from) ≡ false
    → Halts (Match ks e ∷ []) from [] (Syntax from.at)
unlike from differs = λ below under. machine.wrong differs

-- what reads the symbols that are left reads the whole
pub whole :
    {A : Type 0} {ss : List Symbol} {from : Parser} {vs : List Value} (ps : List Symbol) {mid : Parser}
    (ws : List Value) (values : A → List Value) (to : Parser) (r : Result A ParseFault)
    → Leads ss from vs ps mid ws
    → IsRead ps mid ws values to r
    → IsRead ss from vs values to r
whole ps ws values to (Ok x) l g = record {
  same = g.same ∙ l.same;
  order = let a = l.order in let b = g.order in omega arith;
  run = λ below under o r. l.run below under o (g.run below under o r);
}
whole ps ws values to (Err (Syntax k)) l h = λ below under. l.run below under _ (h below under)
whole ps ws values to (Err (Deep k)) l h = λ below under. l.run below under _ (h below under)
whole ps ws values to (Err Memory) l h = tt

-- what is read after a token that was read is further on
pub further :
    {A : Type 0} (ss : List Symbol) (n : ℕ) (mid : Parser) (vs : List Value) (values : A → List Value) (to : Parser)
    (r : Result A ParseFault)
    → n < mid.at
    → IsRead ss mid vs values to r
    → OnOk r (n < to.at)
further ss n mid vs values to (Ok x) less g = let order = g.order in omega arith
further ss n mid vs values to (Err f) less g = tt

-- what is between two tokens, which an action takes off
pub between :
    {A : Type 0} (ps : List Symbol) (value : A → Value) (a : Action) {ss : List Symbol} {from mid : Parser}
    {vs : List Value} (to : Parser) (r : Result A ParseFault)
    → ((opened closed : Token) (x : A) (under : List Value)
    → made a (the.token closed ∷ value x ∷ the.token opened ∷ under) ≡ value x ∷ under)
    → Leads ss from vs (ps ++ Act a ∷ []) mid []
    → ReadsBetween ps value mid to r
    → IsRead ss from vs (λ x. value x ∷ []) to r
between ps value a to (Ok x) same l read = does (reads ps [] [] l read.2) (λ under. same read.0 read.1 x under)
between ps value a to (Err f) same l stop = stops ps _ [] [] f l stop
