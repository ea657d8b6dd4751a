-- The text of a definition counts no more than the tokens that it was read from, whatever the tokens of its expressions
-- count, as long as those of its declarations count nothing.
use Rattle.std.proofs.Common.{◌≡◌, ℕ, zero, suc, ◌+◌, ◌-◌, ◌≤◌, ◌||◌, Bool, List, [], ◌∷◌, ◌++◌, length, nat_lt, refl}
use Rattle.std.proofs.Common.{ap, arith, Some, true}
use Rattle.std.specs.List.{flat_map}
use Rattle.fix_word.specs.declared.types.FixType.{FixType}
use Rattle.fix_word.specs.declared.types.Mode.{Mode}
use Rattle.fix_word.specs.declared.types.Mode.TheVariants.{Trunc, Round, Sat, RoundSat}
use Rattle.fix_word.specs.declared.types.SigType.{SigType}
use Rattle.fix_word.specs.declared.types.SigType.TheVariants.{Fix, Bool as Truths}
use Rattle.silage_lex.specs.declared.Token.{Token}
use Rattle.silage_lex.specs.declared.TokenKind.{TokenKind}
use Rattle.silage_lex.specs.declared.TokenKind.TheVariants as kind
use Rattle.silage_lex.specs.declared.punctuation.TheConstants as punctuation
use Rattle.silage_lex.specs.declared.keywords.TheConstants as keyword
use Rattle.silage_syntax.specs.declared.tree.Lit.{Lit}
use Rattle.silage_syntax.specs.declared.tree.Decl.{Decl}
use Rattle.silage_syntax.specs.Tree.{Manifest, Place, Expr, Item, Items, Top}
use Rattle.silage_syntax.specs.Grammar.{IsSigned, positive, negative, IsList, last, more, IsDims, scalar, vector}
use Rattle.silage_syntax.specs.Grammar.{matrix, IsType, fix, bool, Declared, IsDeclared}
use Rattle.silage_syntax.specs.Grammar.{declared, IsDecl, decl, Role, IsTargetSubscripts, no_target_sub, one_target_sub}
use Rattle.silage_syntax.specs.Grammar.{two_target_subs, IsTarget, target, IsTargets, last_target, more_targets}
use Rattle.silage_syntax.specs.Grammar.{IsArguments, last_arg, more_args, IsInitialValue, signed, truth_value, IsItem}
use Rattle.silage_syntax.specs.Grammar.{is_equation, is_call, is_calls, is_loop, is_initial, IsItems, no_items}
use Rattle.silage_syntax.specs.Grammar.{one_item, one_sub, two_subs, kind_at, IsLocals, no_locals, some_locals}
use Rattle.silage_syntax.specs.Grammar.{IsResults, one_result, results, IsWords, one_word, words, IsTop, is_table}
use Rattle.silage_syntax.specs.Grammar.{is_function}
use Rattle.silage_syntax.proofs.Rising.{fix_rises}
use Rattle.silage_print.specs.Text.{symbol, word, subscripts_text, enclosed, listed, after_comma, lit_text, dims_text}
use Rattle.silage_print.specs.Text.{mode_text, fix_text, type_text, decl_text, manifest_text, amount_text, place_text}
use Rattle.silage_print.specs.Text.{expr_text}
use Rattle.silage_print.specs.Text.{several, call_text, turns_text, clause_text, items_text, words_text, local_text}
use Rattle.silage_print.specs.Text.{body_text, top_text}
use Rattle.silage_print.specs.Parentheses.{HasOneWord}
use Rattle.silage_print.proofs.Weights as of
use Rattle.silage_print.proofs.Weights.{IsFree}

-- what declarations are made of counts nothing
pub record IsQuiet (count : TokenKind → ℕ) : Type 0 where
  pub free : IsFree count
  pub name : (n : List ℕ) → count (kind.Name n) ≡ 0
  pub opens : count (symbol punctuation.LEFT_BRACKET) ≡ 0
  pub closes : count (symbol punctuation.RIGHT_BRACKET) ≡ 0
  pub colon : count (symbol punctuation.COLON) ≡ 0
  pub less : count (symbol punctuation.LESS) ≡ 0
  pub greater : count (symbol punctuation.GREATER) ≡ 0
  pub round : count (word keyword.ROUND) ≡ 0
  pub sat : count (word keyword.SAT) ≡ 0
  pub semicolon : count (symbol punctuation.SEMICOLON) ≡ 0
  pub fixed : count (word keyword.FIX) ≡ 0
  pub truths : count (word keyword.BOOL) ≡ 0
  pub var : count (word keyword.VAR) ≡ 0

-- Rules of declarations go forward.
dims_order : {ts : List Token} {i j : ℕ} {ds : List ℕ} → IsDims ts i ds j → i ≤ j
dims_order scalar = omega arith
dims_order (vector a b c) = omega arith
dims_order (matrix a b c d e f) = omega arith

type_order : {ts : List Token} {i j : ℕ} {ty : SigType} → IsType ts i ty j → i ≤ j
type_order (fix d) = fix_rises _ _ _ _ d
type_order (bool e) = omega arith

declared_order : {ts : List Token} {i j : ℕ} {d : Declared} → IsDeclared ts i d j → i ≤ j
declared_order (declared n ds) = let x = dims_order ds in omega (arith, x)

decl_order : {ts : List Token} {i j : ℕ} {d : Decl} → IsDecl ts i d j → i ≤ j
decl_order (decl d c ty) = let x = declared_order d in let y = type_order ty in omega (arith, x, y)

list_order : {ts : List Token} {A : Type 0} {One : ℕ → A → ℕ → Type 0} {i j : ℕ} {xs : List A}
    → ((i j : ℕ) (x : A) → One i x j → i ≤ j)
    → IsList ts A One i xs j
    → i ≤ j
list_order one (last {i = i} {j = j} {x = x} d) = one i j x d
list_order one (more {i = i} {j = j} {x = x} d c rest) =
    let a = one i j x d in let b = list_order one rest in omega (arith, a, b)

locals_order : {ts : List Token} {i j : ℕ} {ds : List Decl} → IsLocals ts i ds j → i ≤ j
locals_order no_locals = omega arith
locals_order (some_locals v ds c t s rest) =
    let x = list_order (λ i j d h. declared_order h) ds in
    let y = type_order t in
    let z = locals_order rest in
    omega (arith, x, y, z)

module _ (count : TokenKind → ℕ) (quiet : IsQuiet count) where
  abbrev total : List TokenKind → ℕ
  total ks = of.total count ks

  abbrev before : List Token → ℕ → ℕ
  before ts i = of.before count ts i

  abbrev Covers : List Token → (i j n : ℕ) → Type 0
  Covers ts i j n = n + before ts i ≤ before ts j

  abbrev extra : Bool → ℕ
  extra b = of.extra count b

  counts : (ts : List Token) (i j : ℕ) {k : TokenKind}
      → i + 1 ≡ j
      → kind_at ts i ≡ Some k
      → before ts j ≡ before ts i + count k
  counts ts i j e h = of.counts_at count ts i j e h

  join : (xs ys : List TokenKind) → total (xs ++ ys) ≡ total xs + total ys
  join xs ys = of.total_join count xs ys

  forth_by : (ts : List Token) (i n : ℕ) → before ts i ≤ before ts (i + n)
  forth_by ts i zero = let e : i + 0 ≡ i = omega arith in let s = ap (before ts) e in omega (arith, s)
  forth_by ts i (suc n) =
      let x = forth_by ts i n in let y = of.rises count ts (i + n) (i + suc n) (omega arith) in omega (arith, x, y)

  -- tokens further on count no less
  pub forth : (ts : List Token) (i j : ℕ) → i ≤ j → before ts i ≤ before ts j
  forth ts i j le =
      let e : i + (j - i) ≡ j = omega arith in
      let x = forth_by ts i (j - i) in
      let s = ap (before ts) e in
      omega (arith, x, s)

  -- Declarations.
  dims_none : (ds : List ℕ) → total (dims_text ds) ≡ 0
  dims_none [] = refl
  dims_none (n ∷ ns) =
      let a = quiet.opens in
      let b = quiet.free.whole n in
      let c = quiet.closes in
      let rest = dims_none ns in
      omega (arith, a, b, c, rest)

  mode_none : (m : Mode) → total (mode_text m) ≡ 0
  mode_none Trunc = let a = quiet.free.trunc in omega (arith, a)
  mode_none Round = let a = quiet.round in omega (arith, a)
  mode_none Sat = let a = quiet.sat in omega (arith, a)
  mode_none RoundSat =
      let a = quiet.round in let b = quiet.free.comma in let c = quiet.sat in omega (arith, a, b, c)

  fix_none : (ty : FixType) → total (fix_text ty) ≡ 0
  fix_none ty =
      let a = quiet.fixed in
      let b = quiet.less in
      let c = quiet.free.whole ty.shape.w in
      let d = quiet.free.comma in
      let e = quiet.free.whole ty.shape.f in
      let f = mode_none ty.mode in
      let g = quiet.greater in
      let end = join (mode_text ty.mode) (symbol punctuation.GREATER ∷ []) in
      omega (arith, a, b, c, d, e, f, g, end)

  type_none : (ty : SigType) → total (type_text ty) ≡ 0
  type_none (Fix ty) = fix_none ty
  type_none Truths = let a = quiet.truths in omega (arith, a)

  decl_none : (d : Decl) → total (decl_text d) ≡ 0
  decl_none d =
      let a = quiet.name d.name in
      let b = dims_none d.dims in
      let c = quiet.colon in
      let e = type_none d.ty in
      let f = join (dims_text d.dims) (symbol punctuation.COLON ∷ type_text d.ty) in
      omega (arith, a, b, c, e, f)

  -- what comes after commas counts as the list does
  commas : {A : Type 0} (text : A → List TokenKind) (xs : List A)
      → total (flat_map (after_comma text) xs) ≡ total (listed text xs)
  commas text [] = refl
  commas text (x ∷ xs) = let a = quiet.free.comma in omega (arith, a)

  listed_more : {A : Type 0} (text : A → List TokenKind) (x : A) (xs : List A)
      → total (listed text (x ∷ xs)) ≡ total (text x) + total (listed text xs)
  listed_more text x xs =
      let a = join (text x) (flat_map (after_comma text) xs) in let b = commas text xs in omega (arith, a, b)

  decls_none : (ds : List Decl) → total (listed decl_text ds) ≡ 0
  decls_none [] = refl
  decls_none (d ∷ ds) =
      let a = listed_more decl_text d ds in
      let b = decl_none d in
      let c = decls_none ds in
      omega (arith, a, b, c)

  locals_none : (ds : List Decl) → total (flat_map local_text ds) ≡ 0
  locals_none [] = refl
  locals_none (d ∷ ds) =
      let a = join (local_text d) (flat_map local_text ds) in
      let b = join (decl_text d) (symbol punctuation.SEMICOLON ∷ []) in
      let c = quiet.var in
      let e = decl_none d in
      let f = quiet.semicolon in
      let rest = locals_none ds in
      omega (arith, a, b, c, e, f, rest)

  -- Literals.
  signed_total : {ts : List Token} {i j : ℕ} {l : Lit} → IsSigned ts i l j → Covers ts i j (total (lit_text l))
  signed_total {ts} (positive {i = i} {d = d} {p = p} n) =
      let a = of.number_free count quiet.free d p in
      let b = forth ts i (i + 1) (omega arith) in
      omega (arith, a, b)
  signed_total {ts} (negative {i = i} {d = d} {p = p} m n) =
      let a = of.number_free count quiet.free d p in
      let b = counts ts i (i + 1) refl m in
      let c = forth ts (i + 1) (i + 2) (omega arith) in
      omega (arith, a, b, c)

  value_total : {ts : List Token} {i j : ℕ} {l : Lit} → IsInitialValue ts i l j → Covers ts i j (total (lit_text l))
  value_total (signed d) = signed_total d
  value_total {ts} (truth_value {i = i} {b = b} e) =
      let a = quiet.free.truth b in
      let c = forth ts i (i + 1) (omega arith) in
      omega (arith, a, c)

  literals_total : {ts : List Token} {i j : ℕ} {ls : List Lit}
      → IsList ts Lit (IsSigned ts) i ls j
      → Covers ts i j (total (listed lit_text ls))
  literals_total (last {x = x} d) =
      let a = listed_more lit_text x [] in
      let b = signed_total d in
      omega (arith, a, b)
  literals_total {ts} (more {j = j} {x = x} {xs = xs} d c rest) =
      let a = listed_more lit_text x xs in
      let b = signed_total d in
      let e = counts ts j (j + 1) refl c in
      let f = literals_total rest in
      omega (arith, a, b, e, f)

  -- Places on the left, arguments.
  target_subs_total : {ts : List Token} {i j : ℕ} {ms : List Manifest} {rs : List Role}
      → IsTargetSubscripts ts i ms rs j
      → Covers ts i j (total (subscripts_text ms))
  target_subs_total no_target_sub = omega arith
  target_subs_total (one_target_sub a d b) = of.subs_total count quiet.free (one_sub a d b)
  target_subs_total (two_target_subs a d b c e f) = of.subs_total count quiet.free (two_subs a d b c e f)

  target_total : {ts : List Token} {i j : ℕ} {p : Place} {rs : List Role}
      → IsTarget ts i p rs j
      → Covers ts i j (total (place_text p))
  target_total {ts} (target {i = i} n s) =
      let a = counts ts i (i + 1) refl n in
      let b = target_subs_total s in
      omega (arith, a, b)

  targets_total : {ts : List Token} {i j : ℕ} {ps : List Place} {rs : List Role}
      → IsTargets ts i ps rs j
      → Covers ts i j (total (listed place_text ps))
  targets_total (last_target {p = p} d) =
      let a = listed_more place_text p [] in
      let b = target_total d in
      omega (arith, a, b)
  targets_total {ts} (more_targets {j = j} {p = p} {ps = ps} d c rest) =
      let a = listed_more place_text p ps in
      let b = target_total d in
      let e = counts ts j (j + 1) refl c in
      let f = targets_total rest in
      omega (arith, a, b, e, f)

  args_total : {ts : List Token} {i j : ℕ} {es : List Expr} {rs : List Role}
      → IsArguments ts i es rs j
      → Covers ts i j (total (listed expr_text es))
  args_total (last_arg {e = e} d) =
      let a = listed_more expr_text e [] in
      let b = of.expr_total count quiet.free d in
      omega (arith, a, b)
  args_total {ts} (more_args {j = j} {e = e} {es = es} d c rest) =
      let a = listed_more expr_text e es in
      let b = of.expr_total count quiet.free d in
      let f = counts ts j (j + 1) refl c in
      let g = args_total rest in
      omega (arith, a, b, f, g)

  -- Items.
  call_total : (f : List ℕ) (es : List Expr)
      → total (call_text f es)
      ≡ count (kind.Name f)
      + (count (symbol punctuation.LEFT_PAREN)
      + (total (listed expr_text es) + count (symbol punctuation.RIGHT_PAREN)))
  call_total f es = let a = join (listed expr_text es) (symbol punctuation.RIGHT_PAREN ∷ []) in omega (arith, a)

  turns_total : (index : List ℕ) (lo hi : Manifest)
      → total (turns_text index lo hi)
      ≡ count (symbol punctuation.LEFT_PAREN)
      + (count (kind.Name index)
      + (count (symbol punctuation.COLON)
      + (total (manifest_text lo)
      + (count (symbol punctuation.DOT_DOT)
      + (total (manifest_text hi) + count (symbol punctuation.RIGHT_PAREN))))))
  turns_total index lo hi =
      let a =
      join (manifest_text lo ++ symbol punctuation.DOT_DOT ∷ manifest_text hi)
      (symbol punctuation.RIGHT_PAREN ∷ []) in
      let b = join (manifest_text lo) (symbol punctuation.DOT_DOT ∷ manifest_text hi) in
      omega (arith, a, b)

  mutual
    item_total : {ts : List Token} {i j : ℕ} {x : Item} {rs : List Role}
        → IsItem ts i x rs j
        → total (clause_text x) + (count (symbol punctuation.SEMICOLON) + before ts i) ≤ before ts j
    item_total {ts} (is_equation {j = j} {k = k} {p = p} {e = e} t d x s) =
        let a = target_total t in
        let b = counts ts j (j + 1) refl d in
        let c = of.expr_total count quiet.free x in
        let f = counts ts k (k + 1) refl s in
        let g = join (place_text p) (symbol punctuation.EQUAL ∷ expr_text e) in
        omega (arith, a, b, c, f, g)
    item_total {ts} (is_call {j = j} {k = k} {p = p} {f = f} {es = es} t d n o xs c s) =
        let a = target_total t in
        let b = counts ts j (j + 1) refl d in
        let e = counts ts (j + 1) (j + 2) (omega arith) n in
        let g = counts ts (j + 2) (j + 3) (omega arith) o in
        let h = args_total xs in
        let l = counts ts k (k + 1) refl c in
        let m = counts ts (k + 1) (k + 2) (omega arith) s in
        let q = join (place_text p ++ [] ++ []) (symbol punctuation.EQUAL ∷ call_text f es) in
        let u = join (place_text p ++ []) [] in
        let v = join (place_text p) [] in
        let w = call_total f es in
        omega (arith, a, b, e, g, h, l, m, q, u, v, w)
    item_total {ts} (is_calls {i = i} {j = j} {k = k} {ps = ps} {f = f} {es = es} z t y d n o xs c s) =
        let a = counts ts i (i + 1) refl z in
        let b = targets_total t in
        let e = counts ts j (j + 1) refl y in
        let g = counts ts (j + 1) (j + 2) (omega arith) d in
        let h = counts ts (j + 2) (j + 3) (omega arith) n in
        let l = counts ts (j + 3) (j + 4) (omega arith) o in
        let m = args_total xs in
        let q = counts ts k (k + 1) refl c in
        let r = counts ts (k + 1) (k + 2) (omega arith) s in
        let u = join (enclosed (several ps) (listed place_text ps)) (symbol punctuation.EQUAL ∷ call_text f es) in
        let v = of.total_enclosed count (several ps) (listed place_text ps) in
        let w = call_total f es in
        let x = of.extra_most count (several ps) in
        omega (arith, a, b, e, g, h, l, m, q, r, u, v, w, x)
    item_total {ts}
        (is_loop {i = i} {j = j} {k = k} {m = m} {name = name} {lo = lo} {hi = hi} {xs = xs} o n c l t h y z b body e
        s) =
        let a1 = counts ts i (i + 1) refl o in
        let a2 = counts ts (i + 1) (i + 2) (omega arith) n in
        let a3 = counts ts (i + 2) (i + 3) (omega arith) c in
        let a4 = of.manifest_total count quiet.free l in
        let a5 = counts ts j (j + 1) refl t in
        let a6 = of.manifest_total count quiet.free h in
        let a7 = counts ts k (k + 1) refl y in
        let a8 = counts ts (k + 1) (k + 2) (omega arith) z in
        let a9 = counts ts (k + 2) (k + 3) (omega arith) b in
        let b1 = items_total body in
        let b2 = counts ts m (m + 1) refl e in
        let b3 = counts ts (m + 1) (m + 2) (omega arith) s in
        let b4 = turns_total name lo hi in
        let b5 =
        join (turns_text name lo hi ++ symbol punctuation.COLON_COLON ∷ word keyword.BEGIN ∷ items_text xs)
        (word keyword.END ∷ []) in
        let b6 = join (turns_text name lo hi) (symbol punctuation.COLON_COLON ∷ word keyword.BEGIN ∷ items_text xs) in
        omega (arith, a1, a2, a3, a4, a5, a6, a7, a8, a9, b1, b2, b3, b4, b5, b6)
    item_total {ts} (is_initial {j = j} {k = k} {m = m} {p = p} {a = amount} {l = l} t y d z v s) =
        let a = target_total t in
        let b = counts ts j (j + 1) refl y in
        let c = of.amount_total count quiet.free d in
        let e = counts ts k (k + 1) refl z in
        let f = value_total v in
        let g = counts ts m (m + 1) refl s in
        let h =
        join (place_text p ++ symbol punctuation.AT_AT ∷ amount_text amount)
        (symbol punctuation.EQUAL ∷ lit_text l) in
        let q = join (place_text p) (symbol punctuation.AT_AT ∷ amount_text amount) in
        omega (arith, a, b, c, e, f, g, h, q)

    items_total : {ts : List Token} {i j : ℕ} {xs : Items} {rs : List Role}
        → IsItems ts i xs rs j
        → Covers ts i j (total (items_text xs))
    items_total no_items = omega arith
    items_total (one_item {x = x} {xs = xs} d rest) =
        let a = item_total d in
        let b = items_total rest in
        let c = join (clause_text x) (symbol punctuation.SEMICOLON ∷ items_text xs) in
        omega (arith, a, b, c)

  -- Definitions.
  results_total : {ts : List Token} {i j : ℕ} {ds : List Decl}
      → IsResults ts i ds j
      → extra (several ds) + before ts i ≤ before ts j
  results_total {ts} (one_result {i = i} {j = j} d) = let a = forth ts i j (decl_order d) in omega (arith, a)
  results_total {ts} (results {i = i} {j = j} {ds = ds} o d c) =
      let a = counts ts i (i + 1) refl o in
      let b = forth ts (i + 1) j (list_order (λ i j d h. decl_order h) d) in
      let e = counts ts j (j + 1) refl c in
      let f = of.extra_most count (several ds) in
      omega (arith, a, b, e, f)

  words_total : {ts : List Token} {i j : ℕ} {ls : List Lit} (b : Bool)
      → IsWords ts i ls j
      → (length ls ≡ 1 → extra true ≡ 0)
      → extra b + (total (listed lit_text ls) + before ts i) ≤ before ts j
  words_total b (one_word {l = l} d) alone =
      let a = listed_more lit_text l [] in
      let c = signed_total d in
      let e = alone refl in
      let f = of.extra_most count b in
      omega (arith, a, c, e, f)
  words_total {ts} b (words {i = i} {j = j} o d c) alone =
      let a = counts ts i (i + 1) refl o in
      let e = literals_total d in
      let f = counts ts j (j + 1) refl c in
      let g = of.extra_most count b in
      omega (arith, a, e, f, g)

  pub top_total : {ts : List Token} {i j : ℕ} {t : Top} {rs : List Role}
      → IsTop ts i t rs j
      → (HasOneWord t → extra true ≡ 0)
      → Covers ts i j (total (top_text t))
  top_total {ts} (is_table {i = i} {j = j} {k = k} {m = m} {d = d} {f = f} {ls = ls} c n o ty e w s) alone =
      let a = counts ts i (i + 1) refl c in
      let b = forth ts (i + 1) j (declared_order n) in
      let g = forth ts j (j + 1) (omega arith) in
      let h = forth ts (j + 1) k (fix_rises _ _ _ _ ty) in
      let l = counts ts k (k + 1) refl e in
      let p = words_total (nat_lt 0 (length d.dims) || nat_lt 1 (length ls)) w alone in
      let q = counts ts m (m + 1) refl s in
      let r =
      join (word keyword.CONST ∷ kind.Name d.name ∷ dims_text d.dims ++ symbol punctuation.COLON ∷ fix_text f
      ++ symbol punctuation.EQUAL ∷ words_text d.dims ls)
      (symbol punctuation.SEMICOLON ∷ []) in
      let t =
      join (word keyword.CONST ∷ kind.Name d.name ∷ dims_text d.dims ++ symbol punctuation.COLON ∷ fix_text f)
      (symbol punctuation.EQUAL ∷ words_text d.dims ls) in
      let u = join (word keyword.CONST ∷ kind.Name d.name ∷ dims_text d.dims) (symbol punctuation.COLON ∷ fix_text f) in
      let v = of.total_enclosed count (nat_lt 0 (length d.dims) || nat_lt 1 (length ls)) (listed lit_text ls) in
      let x = quiet.name d.name in
      let y = dims_none d.dims in
      let z = fix_none f in
      let colon = quiet.colon in
      omega (arith, a, b, g, h, l, p, q, r, t, u, v, x, y, z, colon)
  top_total {ts}
      (is_function {i = i} {j = j} {k = k} {m = m} {n = n} {name = name} {ps = ps} {rs = rs} {ls = ls} {xs = xs} a nm o
      ds c re d b lo body e s) alone =
      let a1 = counts ts i (i + 1) refl a in
      let a2 = counts ts (i + 1) (i + 2) (omega arith) nm in
      let a3 = counts ts (i + 2) (i + 3) (omega arith) o in
      let a4 = forth ts (i + 3) j (list_order (λ i j d h. decl_order h) ds) in
      let a5 = counts ts j (j + 1) refl c in
      let a6 = results_total re in
      let a7 = counts ts k (k + 1) refl d in
      let a8 = counts ts (k + 1) (k + 2) (omega arith) b in
      let a9 = forth ts (k + 2) m (locals_order lo) in
      let b1 = items_total body in
      let b2 = counts ts n (n + 1) refl e in
      let b3 = counts ts (n + 1) (n + 2) (omega arith) s in
      let head = word keyword.FUNC ∷ kind.Name name ∷ enclosed true (listed decl_text ps) in
      let results : List TokenKind = enclosed (several rs) (listed decl_text rs) in
      let locals : List TokenKind = word keyword.BEGIN ∷ flat_map local_text ls in
      let c1 = join (head ++ results) (symbol punctuation.EQUAL ∷ body_text ls xs) in
      let c2 = join head results in
      let c3 = of.total_enclosed count true (listed decl_text ps) in
      let c4 = of.total_enclosed count (several rs) (listed decl_text rs) in
      let c5 = decls_none ps in
      let c6 = decls_none rs in
      let c7 = join (locals ++ items_text xs) (word keyword.END ∷ symbol punctuation.SEMICOLON ∷ []) in
      let c8 = join locals (items_text xs) in
      let c9 = locals_none ls in
      omega (arith, a1, a2, a3, a4, a5, a6, a7, a8, a9, b1, b2, b3, c1, c2, c3, c4, c5, c6, c7, c8, c9)
