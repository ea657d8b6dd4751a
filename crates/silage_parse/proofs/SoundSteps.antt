-- Soundness of the table, step by step: what the grammar has where a nonterminal is read, and a reading as a row
-- of these.
use Rattle.std.proofs.Common.{◌≡◌, ℕ, ◌+◌, ◌≤◌, true, List, [], ◌∷◌, ◌++◌, Some, slice_get, subst}
use Rattle.fix_word.specs.declared.types.FixType.{FixType}
use Rattle.fix_word.specs.declared.types.Mode.{Mode}
use Rattle.silage_lex.specs.declared.Token.{Token}
use Rattle.silage_lex.specs.declared.punctuation.TheConstants as punctuation
use Rattle.silage_lex.specs.declared.keywords.TheConstants as keyword
use Rattle.silage_syntax.specs.declared.tree.Lit.{Lit}
use Rattle.silage_syntax.specs.declared.tree.Decl.{Decl}
use Rattle.silage_syntax.specs.Tree.{Manifest, Place, Expr, choose, Item, items_of}
use Rattle.silage_syntax.specs.Grammar as g
use Rattle.silage_syntax.specs.Grammar.{from_at, IsPunctuation, IsKeyword, IsName, IsWhole, IsSigned, IsList, IsDims}
use Rattle.silage_syntax.specs.Grammar.{IsMode, IsFix, IsType, Declared, IsDeclared, IsDecl, IsManifest}
use Rattle.silage_syntax.specs.Grammar.{IsSubscripts, IsDelay, IsExpr, Level, Or, Sum, Role, Plain, Starts}
use Rattle.silage_syntax.specs.Grammar.{weight_role, weights, IsTargetSubscripts, IsTarget, IsTargets, IsArguments}
use Rattle.silage_syntax.specs.Grammar.{IsInitialValue, IsItem, IsItems, IsLocals, IsResults, IsWords, IsTop, IsTops}
use Rattle.silage_parse.specs.Private.ParseTable.{productions, Terminal, is_one, Effect, Nonterminal, Value, Symbol}
use Rattle.silage_parse.specs.Private.ParseTable.{Match, Expand, Act, Action}
use Rattle.silage_parse.specs.Private.ParseTable as the
use Rattle.silage_parse.specs.Private.Machine.{Among, alternatives, made, name_text, whole_value, branches_of, role_of}
use Rattle.silage_parse.proofs.Derivations.{home, has_home, span}

-- a value is put on the stack, of which this is so
abbrev pub Pushes : {A : Type 0} → (A → Value) → (A → Type 0) → (vs ws : List Value) → Type 0
Pushes {A} value is vs ws = (x : A) × (ws ≡ value x ∷ vs) × is x

-- a list on the stack grows by some, of which this is so
abbrev pub Grows : {A : Type 0} → (List A → Value) → (List A → Type 0) → (vs ws : List Value) → Type 0
Grows {A} values is vs ws =
    (xs : List A) (bs : List Value) → vs ≡ values xs ∷ bs → (ys : List A) × (ws ≡ values (xs ++ ys) ∷ bs) × is ys

-- a value on the stack becomes another, and this is so of the two
abbrev pub Becomes : {A B : Type 0} → (A → Value) → (B → Value) → (A → B → Type 0) → (vs ws : List Value) → Type 0
Becomes {A} {B} before after is vs ws =
    (x : A) (bs : List Value) → vs ≡ before x ∷ bs → (y : B) × (ws ≡ after y ∷ bs) × is x y

-- after the place and `=` the item goes on with these roles
abbrev pub Defines : List Token → Place → ℕ → Item → List Role → ℕ → Type 0
Defines ts p i x rs j = (a k : ℕ) (qs : List Role)
    → IsTarget ts a p qs k
    → IsPunctuation ts k punctuation.EQUAL
    → i ≡ k + 1
    → IsItem ts a x (qs ++ Starts ∷ rs) j

-- what the grammar has where a nonterminal is read
abbrev pub Means : List Token → Nonterminal → ℕ → List Value → List Role → ℕ → List Value → Type 0
Means ts the.Source i vs rs j ws = Unit {0}
Means ts the.Tops i vs rs j ws = Grows the.tops (λ ys. IsTops ts i ys rs j) vs ws
Means ts the.Signed i vs rs j ws = Pushes the.lit (λ l. IsSigned ts i l j) vs ws
Means ts the.Words i vs rs j ws = Pushes the.lits (λ ls. IsWords ts i ls j) vs ws
Means ts the.MoreWords i vs rs j ws = Grows the.lits (λ ys.
    (a : ℕ) (x : Lit) → IsSigned ts a x i → IsList ts Lit (IsSigned ts) a (x ∷ ys) j) vs ws
Means ts the.Dims i vs rs j ws = Pushes the.dims (λ ds. IsDims ts i ds j) vs ws
Means ts the.SecondDim i vs rs j ws =
    (a : ℕ) (c n o : Token) (bs : List Value)
    → vs ≡ the.token c ∷ the.token n ∷ the.token o ∷ bs
    → IsPunctuation ts a punctuation.LEFT_BRACKET
    → IsWhole ts (a + 1) (whole_value n)
    → IsPunctuation ts (a + 2) punctuation.RIGHT_BRACKET
    → i ≡ a + 3
    → (ds : List ℕ) × (ws ≡ the.dims ds ∷ bs) × IsDims ts a ds j
Means ts (the.FixIn e) i vs rs j ws = Pushes (the.fix (from_at ts i)) (λ f. IsFix ts i f j) vs ws
Means ts (the.FixEnd e) i vs rs j ws =
    (a : ℕ) (f c w b x : Token) (bs : List Value)
    → vs ≡ the.token f ∷ the.token c ∷ the.token w ∷ the.token b ∷ the.token x ∷ bs
    → from_at ts a ≡ x.from
    → IsKeyword ts a keyword.FIX
    → IsPunctuation ts (a + 1) punctuation.LESS
    → IsWhole ts (a + 2) (whole_value w)
    → IsPunctuation ts (a + 3) punctuation.COMMA
    → IsWhole ts (a + 4) (whole_value f)
    → i ≡ a + 5
    → (y : FixType) × (ws ≡ the.fix (from_at ts a) y ∷ bs) × IsFix ts a y j
Means ts (the.Mode_ e) i vs rs j ws = Pushes the.mode (λ m. IsMode ts i m j) vs ws
Means ts (the.AfterRound e) i vs rs j ws =
    (a : ℕ) (t : Token) (bs : List Value)
    → vs ≡ the.token t ∷ bs
    → IsKeyword ts a keyword.ROUND
    → i ≡ a + 1
    → (m : Mode) × (ws ≡ the.mode m ∷ bs) × IsMode ts a m j
Means ts the.Type_ i vs rs j ws = Pushes the.ty (λ y. IsType ts i y j) vs ws
Means ts the.Name_ i vs rs j ws = Pushes the.name (λ d. IsDeclared ts i d j) vs ws
Means ts the.MoreNames i vs rs j ws = Grows the.names (λ ys.
    (a : ℕ) (x : Declared) → IsDeclared ts a x i → IsList ts Declared (IsDeclared ts) a (x ∷ ys) j) vs ws
Means ts the.Decl_ i vs rs j ws = Pushes the.decl (λ d. IsDecl ts i d j) vs ws
Means ts the.MoreDecls i vs rs j ws = Grows the.decls (λ ys.
    (a : ℕ) (x : Decl) → IsDecl ts a x i → IsList ts Decl (IsDecl ts) a (x ∷ ys) j) vs ws
Means ts the.Results i vs rs j ws = Pushes the.decls (λ ds. IsResults ts i ds j) vs ws
Means ts the.Locals i vs rs j ws = Grows the.decls (λ ys. IsLocals ts i ys j) vs ws
Means ts the.Manifest_ i vs rs j ws = Pushes the.manifest (λ m. IsManifest ts g.Manifest_ i m j) vs ws
Means ts the.Terms i vs rs j ws = Becomes the.manifest the.manifest (λ a m. IsManifest ts (g.Terms a) i m j) vs ws
Means ts the.Term i vs rs j ws = Pushes the.manifest (λ m. IsManifest ts g.Term i m j) vs ws
Means ts the.Factors i vs rs j ws = Becomes the.manifest the.manifest (λ a m. IsManifest ts (g.Factors a) i m j) vs ws
Means ts the.Factor i vs rs j ws = Pushes the.manifest (λ m. IsManifest ts g.Factor i m j) vs ws
Means ts the.ManifestPrimary i vs rs j ws = Pushes the.manifest (λ m. IsManifest ts g.Primary_ i m j) vs ws
Means ts the.Subs i vs rs j ws = Pushes the.subs (λ ms. IsSubscripts ts i ms j) vs ws
Means ts the.SecondSub i vs rs j ws =
    (a k : ℕ) (m : Manifest) (c o : Token) (bs : List Value)
    → vs ≡ the.token c ∷ the.manifest m ∷ the.token o ∷ bs
    → IsPunctuation ts a punctuation.LEFT_BRACKET
    → IsManifest ts g.Manifest_ (a + 1) m k
    → IsPunctuation ts k punctuation.RIGHT_BRACKET
    → i ≡ k + 1
    → (ms : List Manifest) × (ws ≡ the.subs ms ∷ bs) × IsSubscripts ts a ms j
Means ts the.Delay i vs rs j ws = Pushes the.delay (λ d. IsDelay ts i d j) vs ws
Means ts (the.Chain l) i vs rs j ws = Pushes the.expr (λ e. IsExpr ts (g.Chain l) i e j) vs ws
Means ts (the.Rest l) i vs rs j ws = Becomes the.expr the.expr (λ a e. IsExpr ts (g.Rest l a) i e j) vs ws
Means ts the.Comparison i vs rs j ws = Pushes the.expr (λ e. IsExpr ts g.Comparison i e j) vs ws
Means ts the.CompareRest i vs rs j ws = Becomes the.expr the.expr (λ a e.
    (h : ℕ) → IsExpr ts (g.Chain Sum) h a i → IsExpr ts g.Comparison h e j) vs ws
Means ts the.Shift i vs rs j ws = Pushes the.expr (λ e. IsExpr ts g.Shift i e j) vs ws
Means ts the.Shifts i vs rs j ws = Becomes the.expr the.expr (λ a e. IsExpr ts (g.Shifts a) i e j) vs ws
Means ts the.Unary i vs rs j ws = Pushes the.expr (λ e. IsExpr ts g.Unary i e j) vs ws
Means ts the.OtherUnary i vs rs j ws = Pushes the.expr (λ e. IsExpr ts g.Unary i e j) vs ws
Means ts the.AfterMinus i vs rs j ws =
    (a : ℕ) (t : Token) (bs : List Value)
    → vs ≡ the.token t ∷ bs
    → IsPunctuation ts a punctuation.MINUS
    → from_at ts a ≡ t.from
    → i ≡ a + 1
    → (e : Expr) × (ws ≡ the.expr e ∷ bs) × IsExpr ts g.Unary a e j
Means ts the.Primary i vs rs j ws = Pushes the.expr (λ e. IsExpr ts g.Primary i e j) vs ws
Means ts the.OtherPrimary i vs rs j ws = Pushes the.expr (λ e. IsExpr ts g.Primary i e j) vs ws
Means ts the.Arms i vs rs j ws =
    (at : ℕ) (xs : List (Expr × Expr)) (bs : List Value)
    → vs ≡ the.arms at xs ∷ bs
    → (ys : List (Expr × Expr)) × (e : Expr) × (ws ≡ the.expr (choose at (branches_of (xs ++ ys)) e) ∷ bs)
    × IsExpr ts (g.Arms at) i (choose at (branches_of ys) e) j
Means ts the.ArmEnd i vs rs j ws =
    (at : ℕ) (xs : List (Expr × Expr)) (c : Expr) (b : Token) (a : ℕ) (bs : List Value)
    → vs ≡ the.expr c ∷ the.token b ∷ the.arms at xs ∷ bs
    → IsPunctuation ts a punctuation.PIPE_PIPE
    → IsExpr ts (g.Chain Or) (a + 1) c i
    → (ys : List (Expr × Expr)) × (e : Expr) × (ws ≡ the.expr (choose at (branches_of (xs ++ ys)) e) ∷ bs)
    × IsExpr ts (g.Arms at) a (choose at (branches_of ys) e) j
Means ts the.TargetSubs i vs rs j ws = Pushes the.subs (λ ms. IsTargetSubscripts ts i ms rs j) vs ws
Means ts the.SecondTargetSub i vs rs j ws =
    (a k : ℕ) (m : Manifest) (c o : Token) (bs : List Value)
    → vs ≡ the.token c ∷ the.manifest m ∷ the.token o ∷ bs
    → IsPunctuation ts a punctuation.LEFT_BRACKET
    → IsManifest ts g.Manifest_ (a + 1) m k
    → IsPunctuation ts k punctuation.RIGHT_BRACKET
    → i ≡ k + 1
    → (ms : List Manifest) × (ws ≡ the.subs ms ∷ bs)
    × IsTargetSubscripts ts a ms (Starts ∷ weights ts (a + 1) k ++ Plain ∷ rs) j
Means ts the.Target i vs rs j ws = Pushes the.place (λ p. IsTarget ts i p rs j) vs ws
Means ts the.MoreTargets i vs rs j ws = Grows the.places (λ ys.
    (a : ℕ) (p : Place) (qs : List Role) → IsTarget ts a p qs i → IsTargets ts a (p ∷ ys) (qs ++ rs) j) vs ws
Means ts the.Args i vs rs j ws = Pushes the.exprs (λ es. IsArguments ts i es rs j) vs ws
Means ts the.MoreArgs i vs rs j ws = Grows the.exprs (λ ys.
    (a : ℕ) (e : Expr) → IsExpr ts (g.Chain Or) a e i → IsArguments ts a (e ∷ ys) (weights ts a i ++ rs) j) vs ws
Means ts the.Items_ i vs rs j ws = Grows the.items (λ ys. IsItems ts i (items_of ys) rs j) vs ws
Means ts the.Item_ i vs rs j ws = Pushes the.an_item (λ x. IsItem ts i x rs j) vs ws
Means ts the.AfterTarget i vs rs j ws = Becomes the.place the.an_item (λ p x.
    (a : ℕ) (qs : List Role) → IsTarget ts a p qs i → IsItem ts a x (qs ++ rs) j) vs ws
Means ts the.RightSide i vs rs j ws =
    (p : Place) (d : Token) (bs : List Value)
    → vs ≡ the.token d ∷ the.place p ∷ bs
    → (x : Item) × (ws ≡ the.an_item x ∷ bs) × Defines ts p i x rs j
Means ts the.AfterRightName i vs rs j ws =
    (p : Place) (n d : Token) (bs : List Value)
    → vs ≡ the.token n ∷ the.token d ∷ the.place p ∷ bs
    → (m : ℕ)
    → slice_get ts m ≡ Some n
    → IsName ts m (name_text n)
    → i ≡ m + 1
    → (x : Item) × (ws ≡ the.an_item x ∷ bs) × Defines ts p m x (weight_role n ∷ rs) j
Means ts the.AfterOpenName i vs rs j ws =
    (n o : Token) (bs : List Value)
    → vs ≡ the.token n ∷ the.token o ∷ bs
    → (a : ℕ)
    → IsPunctuation ts a punctuation.LEFT_PAREN
    → from_at ts a ≡ o.from
    → IsName ts (a + 1) (name_text n)
    → from_at ts (a + 1) ≡ n.from
    → i ≡ a + 2
    → (x : Item) × (ws ≡ the.an_item x ∷ bs) × IsItem ts a x (Plain ∷ Plain ∷ rs) j
Means ts the.InitialValue i vs rs j ws = Pushes the.lit (λ l. IsInitialValue ts i l j) vs ws

-- a nonterminal that was read
pub record IsRead
    (ts : List Token) (p : Nonterminal) (i : ℕ) (vs : List Value) (rs : List Role) (j : ℕ) (ws : List Value)
    : Type 0 where
  pub within : i ≤ j
  pub roles : (e : Effect) → has_home e (home p) ≡ true → rs ≡ span e ts i j
  pub means : Means ts p i vs rs j ws

-- a reading as the terminals and nonterminals that were read
pub data All (ts : List Token) : List Symbol → ℕ → List Value → List Role → ℕ → List Value → Type 0 where
  a_end : {i j : ℕ} {vs ws : List Value} → i ≡ j → vs ≡ ws → All ts [] i vs [] j ws
  a_take :
      {ks : List Terminal} {e : Effect} {ss : List Symbol} {i j : ℕ} {t : Token} {vs ws : List Value} {rs : List Role}
      → slice_get ts i ≡ Some t
      → is_one ks (Some t.kind) ≡ true
      → All ts ss (i + 1) (the.token t ∷ vs) rs j ws
      → All ts (Match ks e ∷ ss) i vs (role_of e t ∷ rs) j ws
  a_go : {p : Nonterminal} {ss : List Symbol} {i j k : ℕ} {vs ws xs : List Value} {rs qs : List Role}
      → IsRead ts p i vs rs j xs
      → All ts ss j xs qs k ws
      → All ts (Expand p ∷ ss) i vs (rs ++ qs) k ws
  a_make : {a : Action} {ss : List Symbol} {i j : ℕ} {vs ws : List Value} {rs : List Role}
      → All ts ss i (made a vs) rs j ws
      → All ts (Act a ∷ ss) i vs rs j ws

-- what the grammar has where a production of the nonterminal is read
abbrev pub Sound : Nonterminal → Type 0
Sound p = (us : List Token) (i : ℕ) (vs : List Value) (rs : List Role) (ps : List Symbol) (j : ℕ) (ws : List Value)
    → Among (alternatives (productions p)) ps
    → All us ps i vs rs j ws
    → Means us p i vs rs j ws

-- what is shown of the place and the values where a reading ends
pub settled :
    (ts : List Token) (p : Nonterminal) (i : ℕ) (vs : List Value) (rs : List Role) {j k : ℕ} {xs ws : List Value}
    → j ≡ k
    → xs ≡ ws
    → Means ts p i vs rs j xs
    → Means ts p i vs rs k ws
settled ts p i vs rs {j} {k} {xs} {ws} q w m =
    let P : ℕ → Type 0 = λ x. Means ts p i vs rs x ws in
    let Q : List Value → Type 0 = λ x. Means ts p i vs rs j x in
    subst P q (subst Q w m)
