-- The machine that reads tokens by the LL(1) table: its semantic actions, and where it stops.
use Rattle.std.specs.Prelude.{◌≡◌, ℕ, ◌+◌, ◌-◌, Bool, true, false, if◌then◌else◌, nat_lt, List, [], ◌∷◌, ◌++◌, map}
use Rattle.std.specs.Prelude.{Option, Some, None, slice_get}
use Rattle.fix_word.specs.declared.types.Mode.TheVariants.{Trunc}
use Rattle.fix_word.specs.declared.types.SigType.TheVariants.{Fix, Bool as Truths}
use Rattle.silage_lex.specs.declared.Token.{Token}
use Rattle.silage_lex.specs.declared.TokenKind.{TokenKind}
use Rattle.silage_lex.specs.declared.TokenKind.TheVariants as kind
use Rattle.silage_syntax.specs.declared.tree.BinOp.TheVariants as op
use Rattle.silage_syntax.specs.declared.tree.MOp.TheVariants as mop
use Rattle.silage_syntax.specs.declared.tree.Lit.{Lit}
use Rattle.silage_syntax.specs.declared.tree.Lit.TheVariants.{Number, Truth}
use Rattle.silage_syntax.specs.Tree.{whole, counter, minus, both, Expr, literal, read, negate, not, binary, shift, cast}
use Rattle.silage_syntax.specs.Tree.{choose, Branches, no_branch, branch, equation, call, loop, initial, items_of}
use Rattle.silage_syntax.specs.Tree.{table, function}
use Rattle.silage_syntax.specs.Grammar.{kind_at, Declared, typed, dim, fix_type, number_of, term_operator, Level}
use Rattle.silage_syntax.specs.Grammar.{operator, comparison, shift_operator, truth_of, weighs, weight_role, Role}
use Rattle.silage_syntax.specs.Grammar.{Plain, Starts}
use Rattle.silage_syntax.specs.Grammar as role
use Rattle.silage_parse.specs.declared.ParseFault.{ParseFault}
use Rattle.silage_parse.specs.declared.ParseFault.TheVariants.{Syntax, Deep}
use Rattle.silage_parse.specs.Private.ParseTable.{Terminal, is_one, Effect, Outside, Begins, Inside, Enters, Leaves}
use Rattle.silage_parse.specs.Private.ParseTable.{Nonterminal, Source, AfterMinus, Value, Symbol, Match, Expand, Act}
use Rattle.silage_parse.specs.Private.ParseTable.{Productions, productions, Action}
use Rattle.silage_parse.specs.Private.ParseTable as the

-- what a token says
abbrev pub name_text : Token → List ℕ
name_text t = text_of t.kind
  where
    text_of : TokenKind → List ℕ
    text_of (kind.Name name) = name
    text_of _ = []

abbrev pub whole_value : Token → ℕ
whole_value t = value_of t.kind
  where
    value_of : TokenKind → ℕ
    value_of (kind.Whole n) = n
    value_of _ = 0

abbrev pub or_else : {A : Type 0} → A → Option A → A
or_else a None = a
or_else a (Some b) = b

abbrev pub number_lit : Bool → ℕ → Token → Lit
number_lit negative at t = let n = or_else (0, 0) (number_of (Some t.kind)) in Number negative n.0 n.1 at

abbrev pub branches_of : List (Expr × Expr) → Branches
branches_of [] = no_branch
branches_of (x ∷ xs) = branch x.0 x.1 (branches_of xs)

-- what a semantic action makes of the values on top of the stack
abbrev pub made : Action → List Value → List Value
made the.no_tops vs = the.tops [] ∷ vs
made the.add_table
    (the.token semicolon ∷ the.lits ls ∷ the.token defines ∷ the.fix at f ∷ the.token colon ∷ the.name d
    ∷ the.token const ∷ the.tops ts ∷ vs) =
    the.tops (ts ++ table (record { name = d.name; at = d.at; dims = d.dims; ty = f; words = ls }) ∷ []) ∷ vs
made the.add_function
    (the.token semicolon ∷ the.token end ∷ the.items xs ∷ the.decls locals ∷ the.token begin ∷ the.token defines
    ∷ the.decls results ∷ the.token close ∷ the.decls params ∷ the.token open_ ∷ the.token n ∷ the.token func
    ∷ the.tops ts ∷ vs) =
    the.tops (ts ++ function (record {
      name = name_text n;
      at = n.from;
      params = params;
      results = results;
      locals = locals;
      items = items_of xs;
    }) ∷ []) ∷ vs
made the.positive (the.token t ∷ vs) = the.lit (number_lit false t.from t) ∷ vs
made the.negative (the.token t ∷ the.token m ∷ vs) = the.lit (number_lit true m.from t) ∷ vs
made the.truth (the.token t ∷ vs) = the.lit (Truth (or_else false (truth_of (Some t.kind))) t.from) ∷ vs
made the.first_word (the.lit l ∷ vs) = the.lits (l ∷ []) ∷ vs
made the.add_word (the.lit l ∷ the.token comma ∷ the.lits ls ∷ vs) = the.lits (ls ++ l ∷ []) ∷ vs
made the.close_words (the.token close ∷ the.lits ls ∷ the.token open_ ∷ vs) = the.lits ls ∷ vs
made the.no_dims vs = the.dims [] ∷ vs
made the.one_dim (the.token close ∷ the.token n ∷ the.token open_ ∷ vs) = the.dims (dim (whole_value n) ∷ []) ∷ vs
made the.two_dims
    (the.token close2 ∷ the.token m ∷ the.token open2 ∷ the.token close ∷ the.token n ∷ the.token open_ ∷ vs) =
    the.dims (dim (whole_value n) ∷ dim (whole_value m) ∷ []) ∷ vs
made (the.one_word m) (the.token word ∷ vs) = the.mode m ∷ vs
made (the.three_words m) (the.token second ∷ the.token comma ∷ the.token first ∷ vs) = the.mode m ∷ vs
made the.fix_plain
    (the.token above ∷ the.token f ∷ the.token comma ∷ the.token w ∷ the.token below ∷ the.token fix ∷ vs) =
    the.fix fix.from (fix_type (whole_value w) (whole_value f) Trunc) ∷ vs
made the.fix_mode
    (the.token above ∷ the.mode m ∷ the.token comma2 ∷ the.token f ∷ the.token comma ∷ the.token w ∷ the.token below
    ∷ the.token fix ∷ vs) =
    the.fix fix.from (fix_type (whole_value w) (whole_value f) m) ∷ vs
made the.type_fix (the.fix at f ∷ vs) = the.ty (Fix f) ∷ vs
made the.type_bool (the.token t ∷ vs) = the.ty Truths ∷ vs
made the.declared (the.dims ds ∷ the.token n ∷ vs) =
    the.name (record { name = name_text n; at = n.from; dims = ds }) ∷ vs
made the.first_name (the.name d ∷ vs) = the.names (d ∷ []) ∷ vs
made the.add_name (the.name d ∷ the.token comma ∷ the.names ds ∷ vs) = the.names (ds ++ d ∷ []) ∷ vs
made the.typed_decl (the.ty t ∷ the.token colon ∷ the.name d ∷ vs) = the.decl (typed t d) ∷ vs
made the.first_decl (the.decl d ∷ vs) = the.decls (d ∷ []) ∷ vs
made the.add_decl (the.decl d ∷ the.token comma ∷ the.decls ds ∷ vs) = the.decls (ds ++ d ∷ []) ∷ vs
made the.close_decls (the.token close ∷ the.decls ds ∷ the.token open_ ∷ vs) = the.decls ds ∷ vs
made the.no_locals vs = the.decls [] ∷ vs
made the.add_locals
    (the.token semicolon ∷ the.ty t ∷ the.token colon ∷ the.names ds ∷ the.token var ∷ the.decls ls ∷ vs) =
    the.decls (ls ++ map (typed t) ds) ∷ vs
made the.add_term (the.manifest b ∷ the.token o ∷ the.manifest a ∷ vs) =
    the.manifest (both o.from (or_else mop.Add (term_operator (Some o.kind))) a b) ∷ vs
made the.add_factor (the.manifest b ∷ the.token o ∷ the.manifest a ∷ vs) = the.manifest (both o.from mop.Mul a b) ∷ vs
made the.minus_factor (the.manifest m ∷ the.token t ∷ vs) = the.manifest (minus t.from m) ∷ vs
made the.whole_manifest (the.token t ∷ vs) = the.manifest (whole (whole_value t) t.from) ∷ vs
made the.name_manifest (the.token t ∷ vs) = the.manifest (counter (name_text t) t.from) ∷ vs
made the.close_manifest (the.token close ∷ the.manifest m ∷ the.token open_ ∷ vs) = the.manifest m ∷ vs
made the.no_subs vs = the.subs [] ∷ vs
made the.one_sub (the.token close ∷ the.manifest m ∷ the.token open_ ∷ vs) = the.subs (m ∷ []) ∷ vs
made the.two_subs
    (the.token close2 ∷ the.manifest n ∷ the.token open2 ∷ the.token close ∷ the.manifest m ∷ the.token open_ ∷ vs) =
    the.subs (m ∷ n ∷ []) ∷ vs
made the.no_delay vs = the.delay None ∷ vs
made the.some_delay (the.manifest m ∷ the.token t ∷ vs) = the.delay (Some m) ∷ vs
made (the.add_part l) (the.expr b ∷ the.token o ∷ the.expr a ∷ vs) =
    the.expr (binary o.from (or_else op.Add (operator l (Some o.kind))) a b) ∷ vs
made the.compare (the.expr b ∷ the.token o ∷ the.expr a ∷ vs) =
    the.expr (binary o.from (or_else op.Eq (comparison (Some o.kind))) a b) ∷ vs
made the.add_shift (the.manifest m ∷ the.token o ∷ the.expr a ∷ vs) =
    the.expr (shift o.from (or_else false (shift_operator (Some o.kind))) a m) ∷ vs
made the.negate_expr (the.expr e ∷ the.token t ∷ vs) = the.expr (negate t.from e) ∷ vs
made the.not_expr (the.expr e ∷ the.token t ∷ vs) = the.expr (not t.from e) ∷ vs
made the.literal_expr (the.lit l ∷ vs) = the.expr (literal l) ∷ vs
made the.read_expr (the.delay d ∷ the.place p ∷ vs) = the.expr (read p d) ∷ vs
made the.cast_expr (the.token close ∷ the.expr e ∷ the.token open_ ∷ the.fix at f ∷ vs) = the.expr (cast at f e) ∷ vs
made the.close_expr (the.token close ∷ the.expr e ∷ the.token open_ ∷ vs) = the.expr e ∷ vs
made the.first_arm (the.expr v ∷ the.token arrow ∷ the.expr c ∷ the.token t ∷ vs) = the.arms t.from ((c, v) ∷ []) ∷ vs
made the.add_arm (the.expr v ∷ the.token arrow ∷ the.expr c ∷ the.token bar ∷ the.arms at bs ∷ vs) =
    the.arms at (bs ++ (c, v) ∷ []) ∷ vs
made the.choose_expr (the.token fi ∷ the.expr e ∷ the.token bar ∷ the.arms at bs ∷ vs) =
    the.expr (choose at (branches_of bs) e) ∷ vs
made the.a_place (the.subs ms ∷ the.token n ∷ vs) =
    the.place (record { name = name_text n; at = n.from; subs = ms }) ∷ vs
made the.first_place (the.place p ∷ vs) = the.places (p ∷ []) ∷ vs
made the.add_place (the.place p ∷ the.token comma ∷ the.places ps ∷ vs) = the.places (ps ++ p ∷ []) ∷ vs
made the.first_arg (the.expr e ∷ vs) = the.exprs (e ∷ []) ∷ vs
made the.add_arg (the.expr e ∷ the.token comma ∷ the.exprs es ∷ vs) = the.exprs (es ++ e ∷ []) ∷ vs
made the.no_items vs = the.items [] ∷ vs
made the.add_item (the.an_item x ∷ the.items xs ∷ vs) = the.items (xs ++ x ∷ []) ∷ vs
made the.is_equation (the.token semicolon ∷ the.expr e ∷ the.token defines ∷ the.place p ∷ vs) =
    the.an_item (equation p e) ∷ vs
made the.is_call
    (the.token semicolon ∷ the.token close ∷ the.exprs es ∷ the.token open_ ∷ the.token f ∷ the.token defines
    ∷ the.place p ∷ vs) =
    the.an_item (call (p ∷ []) (name_text f) es f.from) ∷ vs
made the.is_calls
    (the.token semicolon ∷ the.token close2 ∷ the.exprs es ∷ the.token open2 ∷ the.token f ∷ the.token defines
    ∷ the.token close ∷ the.places ps ∷ the.token open_ ∷ vs) =
    the.an_item (call ps (name_text f) es f.from) ∷ vs
made the.is_loop
    (the.token semicolon ∷ the.token end ∷ the.items xs ∷ the.token begin ∷ the.token each ∷ the.token close
    ∷ the.manifest hi ∷ the.token to ∷ the.manifest lo ∷ the.token colon ∷ the.token n ∷ the.token open_ ∷ vs) =
    the.an_item (loop (name_text n) lo hi (items_of xs) open_.from) ∷ vs
made the.is_initial
    (the.token semicolon ∷ the.lit l ∷ the.token defines ∷ the.manifest k ∷ the.token t ∷ the.place p ∷ vs) =
    the.an_item (initial p k l) ∷ vs
made _ vs = vs

-- the weight of the outermost expression that began last, and how many loops are open
pub record Count : Type 0 where
  pub weight : ℕ
  pub loops : ℕ

abbrev pub no_count : Count
no_count = record { weight = 0; loops = 0 }

abbrev pub add_weight : Bool → Count → Count
add_weight heavy c = record c { weight = if heavy then c.weight + 1 else c.weight }

abbrev pub counted : Effect → Option Token → Count → Count
counted Begins (Some t) c = record c { weight = 0 }
counted Inside (Some t) c = add_weight (weighs t.kind) c
counted Enters (Some t) c = record c { loops = c.loops + 1 }
counted Leaves (Some t) c = record c { loops = c.loops - 1 }
counted _ _ c = c

-- the limits let the token pass
abbrev pub allowed : Effect → Option Token → Count → Bool
allowed Inside (Some t) c = if weighs t.kind then nat_lt c.weight 256 else true
allowed Enters (Some t) c = nat_lt c.loops 16
allowed _ _ c = true

abbrev pub pushed : Option Token → List Value → List Value
pushed None vs = vs
pushed (Some t) vs = the.token t ∷ vs

abbrev pub selected : List (List Terminal × List Symbol) → List Symbol → Option TokenKind → List Symbol
selected [] other k = other
selected (x ∷ xs) other k = if is_one x.0 k then x.1 else selected xs other k

abbrev pub predict : Productions → Option TokenKind → List Symbol
predict c k = selected c.by_lookahead c.otherwise k

pub data Outcome : Type 0 where
  done : List Value → Outcome
  fault : ParseFault → Outcome

-- from token i, with these counts and values, the machine goes through the symbols to this outcome
pub data Runs (ts : List Token) : List Symbol → ℕ → Count → List Value → Outcome → Type 0 where
  ends : {i : ℕ} {c : Count} {vs : List Value} → Runs ts [] i c vs (done vs)
  matches : {ks : List Terminal} {e : Effect} {ss : List Symbol} {i : ℕ} {c : Count} {vs : List Value} {o : Outcome}
      → is_one ks (kind_at ts i) ≡ true
      → allowed e (slice_get ts i) c ≡ true
      → Runs ts ss (i + 1) (counted e (slice_get ts i) c) (pushed (slice_get ts i) vs) o
      → Runs ts (Match ks e ∷ ss) i c vs o
  wrong : {ks : List Terminal} {e : Effect} {ss : List Symbol} {i : ℕ} {c : Count} {vs : List Value}
      → is_one ks (kind_at ts i) ≡ false
      → Runs ts (Match ks e ∷ ss) i c vs (fault (Syntax i))
  limit : {ks : List Terminal} {e : Effect} {ss : List Symbol} {i : ℕ} {c : Count} {vs : List Value}
      → is_one ks (kind_at ts i) ≡ true
      → allowed e (slice_get ts i) c ≡ false
      → Runs ts (Match ks e ∷ ss) i c vs (fault (Deep i))
  expands : {p : Nonterminal} {ss : List Symbol} {i : ℕ} {c : Count} {vs : List Value} {o : Outcome}
      → Runs ts (predict (productions p) (kind_at ts i) ++ ss) i c vs o
      → Runs ts (Expand p ∷ ss) i c vs o
  acts : {a : Action} {ss : List Symbol} {i : ℕ} {c : Count} {vs : List Value} {o : Outcome}
      → Runs ts ss i c (made a vs) o
      → Runs ts (Act a ∷ ss) i c vs o

-- the whole run over the tokens
abbrev pub RunsTo : List Token → Outcome → Type 0
RunsTo ts o = Runs ts (Expand Source ∷ []) 0 no_count [] o

-- The same without limits and without looking ahead: any production may be used, and each token has its role.
pub data Among {A : Type 0} : List A → A → Type 0 where
  here : {x : A} {xs : List A} → Among (x ∷ xs) x
  there : {x y : A} {xs : List A} → Among xs x → Among (y ∷ xs) x

abbrev pub alternatives : Productions → List (List Symbol)
alternatives c = map (λ x. x.1) c.by_lookahead ++ c.otherwise ∷ []

-- the productions that may be used; a `-` directly before a number belongs to the number, so there the token decides
abbrev pub candidates : Nonterminal → Option TokenKind → List (List Symbol)
candidates AfterMinus k = predict (productions AfterMinus) k ∷ []
candidates p k = alternatives (productions p)

abbrev pub role_of : Effect → Token → Role
role_of Outside t = Plain
role_of Begins t = Starts
role_of Inside t = weight_role t
role_of Enters t = role.Enters
role_of Leaves t = role.Leaves

abbrev pub roles_of : Effect → Option Token → List Role
roles_of e None = []
roles_of e (Some t) = role_of e t ∷ []

pub data Reads (ts : List Token) : List Symbol → ℕ → List Value → List Role → ℕ → List Value → Type 0 where
  r_end : {i : ℕ} {vs : List Value} → Reads ts [] i vs [] i vs
  r_match : {ks : List Terminal} {e : Effect} {ss : List Symbol} {i j : ℕ} {vs ws : List Value} {rs : List Role}
      → is_one ks (kind_at ts i) ≡ true
      → Reads ts ss (i + 1) (pushed (slice_get ts i) vs) rs j ws
      → Reads ts (Match ks e ∷ ss) i vs (roles_of e (slice_get ts i) ++ rs) j ws
  r_expand : {p : Nonterminal} {ps ss : List Symbol} {i j k : ℕ} {vs ws xs : List Value} {rs qs : List Role}
      → Among (candidates p (kind_at ts i)) ps
      → Reads ts ps i vs rs j xs
      → Reads ts ss j xs qs k ws
      → Reads ts (Expand p ∷ ss) i vs (rs ++ qs) k ws
  r_act : {a : Action} {ss : List Symbol} {i j : ℕ} {vs ws : List Value} {rs : List Role}
      → Reads ts ss i (made a vs) rs j ws
      → Reads ts (Act a ∷ ss) i vs rs j ws
