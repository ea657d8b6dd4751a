-- Lists with commas between their elements: what the table has for each of them.
use Rattle.std.specs.Prelude.{◌≡◌, List, [], ◌∷◌, ◌++◌, map, refl}
use Rattle.std.proofs.Common.{sym, ap, ◌∙◌}
use Rattle.std.proofs.lemmas.List.{map-append}
use Rattle.silage_lex.specs.declared.Token.{Token}
use Rattle.silage_lex.specs.declared.punctuation.TheConstants as punctuation
use Rattle.silage_syntax.specs.declared.tree.Lit.{Lit}
use Rattle.silage_syntax.specs.declared.tree.Decl.{Decl}
use Rattle.silage_syntax.specs.Tree.{Place, Expr}
use Rattle.silage_syntax.specs.Grammar.{Declared, Or}
use Rattle.silage_parse.specs.Private.ParseTable.{Effect, Outside, Begins, Nonterminal, Value, Action, Symbol, Expand}
use Rattle.silage_parse.specs.Private.ParseTable.{Act, productions, if_punctuation, punctuation_of}
use Rattle.silage_parse.specs.Private.ParseTable as the
use Rattle.silage_parse.specs.Private.Machine.{made}

-- the element and what goes on after it, the effect of a comma, the actions and the values of one element and of some
pub record CommaList (A : Type 0) : Type 0 where
  pub element : Nonterminal
  pub more : Nonterminal
  pub comma : Effect
  pub first : Action
  pub add : Action
  pub value : A → Value
  pub values : List A → Value
  pub goes_on : productions more
      ≡ if_punctuation punctuation.COMMA
      (punctuation_of punctuation.COMMA comma ∷ Expand element ∷ Act add ∷ Expand more ∷ []) []
  pub begins : (x : A) (under : List Value) → made first (value x ∷ under) ≡ values (x ∷ []) ∷ under
  pub adds : (x : A) (xs : List A) (t : Token) (under : List Value)
      → made add (value x ∷ the.token t ∷ values xs ∷ under) ≡ values (xs ++ x ∷ []) ∷ under

-- the first element with what goes on after it
abbrev pub list_of : {A : Type 0} → CommaList A → List Symbol
list_of l = Expand l.element ∷ Act l.first ∷ Expand l.more ∷ []

-- the list in parentheses
abbrev pub list_in_parentheses : {A : Type 0} → CommaList A → List Symbol
list_in_parentheses l =
    punctuation_of punctuation.LEFT_PAREN Outside ∷ list_of l ++ punctuation_of punctuation.RIGHT_PAREN Outside ∷ []

-- the nonterminal stands for one element or for a list in parentheses, which the action takes off
pub record IsOneOrList {A : Type 0} (l : CommaList A) (p : Nonterminal) (close : Action) : Type 0 where
  pub stands : productions p
      ≡ if_punctuation punctuation.LEFT_PAREN (list_in_parentheses l ++ Act close ∷ [])
      (Expand l.element ∷ Act l.first ∷ [])
  pub closes : (opened closed : Token) (xs : List A) (under : List Value)
      → made close (the.token closed ∷ l.values xs ∷ the.token opened ∷ under) ≡ l.values xs ∷ under

-- the same lists of what is viewed as their elements
abbrev pub viewed : {A B : Type 0} → (B → A) → CommaList A → CommaList B
viewed view l = record {
  element = l.element;
  more = l.more;
  comma = l.comma;
  first = l.first;
  add = l.add;
  value = λ x. l.value (view x);
  values = λ xs. l.values (map view xs);
  goes_on = l.goes_on;
  begins = λ x under. l.begins (view x) under;
  adds = λ x xs t under.
      l.adds (view x) (map view xs) t under ∙ ap (λ ys. l.values ys ∷ under) (sym (map-append view xs (x ∷ [])));
}

abbrev pub names : CommaList Declared
names = record {
  element = the.Name_;
  more = the.MoreNames;
  comma = Outside;
  first = the.first_name;
  add = the.add_name;
  value = the.name;
  values = the.names;
  goes_on = refl;
  begins = λ x under. refl;
  adds = λ x xs t under. refl;
}

abbrev pub decls : CommaList Decl
decls = record {
  element = the.Decl_;
  more = the.MoreDecls;
  comma = Outside;
  first = the.first_decl;
  add = the.add_decl;
  value = the.decl;
  values = the.decls;
  goes_on = refl;
  begins = λ x under. refl;
  adds = λ x xs t under. refl;
}

abbrev pub words : CommaList Lit
words = record {
  element = the.Signed;
  more = the.MoreWords;
  comma = Outside;
  first = the.first_word;
  add = the.add_word;
  value = the.lit;
  values = the.lits;
  goes_on = refl;
  begins = λ x under. refl;
  adds = λ x xs t under. refl;
}

abbrev pub places : CommaList Place
places = record {
  element = the.Target;
  more = the.MoreTargets;
  comma = Outside;
  first = the.first_place;
  add = the.add_place;
  value = the.place;
  values = the.places;
  goes_on = refl;
  begins = λ x under. refl;
  adds = λ x xs t under. refl;
}

abbrev pub arguments : CommaList Expr
arguments = record {
  element = the.Chain Or;
  more = the.MoreArgs;
  comma = Begins;
  first = the.first_arg;
  add = the.add_arg;
  value = the.expr;
  values = the.exprs;
  goes_on = refl;
  begins = λ x under. refl;
  adds = λ x xs t under. refl;
}

pub results : IsOneOrList decls the.Results the.close_decls
results = record { stands = refl; closes = λ opened closed xs under. refl }

pub table_words : IsOneOrList words the.Words the.close_words
table_words = record { stands = refl; closes = λ opened closed xs under. refl }
