-- The text of a program is read as that program, up to positions.
use Rattle.std.proofs.Common.{◌≡◌, ℕ, ◌+◌, ◌-◌, ◌≤◌, ◌^◌, ◌||◌, true, false, List, [], ◌∷◌, ◌++◌, Some, length, map}
use Rattle.std.proofs.Common.{nat_lt, refl, sym, ap, ◌∙◌, subst, arith}
use Rattle.std.specs.List.{flat_map}
use Rattle.std.proofs.lemmas.Bool.Decides.{nat_tests}
use Rattle.fix_word.specs.declared.types.FixType.{FixType}
use Rattle.fix_word.specs.declared.types.SigType.{SigType}
use Rattle.fix_word.specs.declared.types.SigType.TheVariants.{Fix, Bool as Truths}
use Rattle.silage_lex.specs.declared.Token.{Token}
use Rattle.silage_lex.specs.declared.TokenKind.TheVariants as kind
use Rattle.silage_lex.specs.declared.punctuation.TheConstants as punctuation
use Rattle.silage_lex.specs.declared.keywords.TheConstants as keyword
use Rattle.silage_syntax.specs.declared.tree.Lit.{Lit}
use Rattle.silage_syntax.specs.declared.tree.ConstDef.{ConstDef}
use Rattle.silage_syntax.specs.declared.tree.Decl.{Decl}
use Rattle.silage_syntax.specs.Tree.{Items, Func, Top, table, function, Program}
use Rattle.silage_syntax.specs.Positions.{unpositioned_lit, unpositioned_items, unpositioned_decl, unpositioned_top}
use Rattle.silage_syntax.specs.Positions.{unpositioned}
use Rattle.silage_syntax.specs.Grammar.{from_at, IsPunctuation, IsKeyword, IsName, IsSigned, IsList, last, more, dim}
use Rattle.silage_syntax.specs.Grammar.{IsDims, scalar, vector, matrix, IsType, fix, bool, Declared, typed, IsDeclared}
use Rattle.silage_syntax.specs.Grammar.{declared, IsDecl, decl, Role, IsLocals, no_locals, some_locals, IsResults}
use Rattle.silage_syntax.specs.Grammar.{one_result, results, IsWords, one_word, words, IsTop, is_table, is_function}
use Rattle.silage_syntax.specs.Grammar.{IsTops, no_tops, one_top, HasRoles, Derives}
use Rattle.silage_syntax.specs.Limits.{AreWithin}
use Rattle.silage_print.specs.Text.{symbol, word, enclosed, listed, several, lit_text, dims_text, fix_text, type_text}
use Rattle.silage_print.specs.Text.{decl_text, words_text, local_text, head_text, body_text, items_text, top_text}
use Rattle.silage_print.specs.Text.{program_text}
use Rattle.silage_print.proofs.Numbers.{whole_written}
use Rattle.silage_print.proofs.KindsAt.{AreAt, split, moved, IsWritten, AreWritten, no_kind, one_kind, joined}
use Rattle.silage_print.proofs.KindsAt.{enclosed_written, TokensWritten}
use Rattle.silage_print.proofs.ReadParts.{GoodSigned, good_signed, GoodFix, good_fix, fix_written, fix_read}
use Rattle.silage_print.proofs.Lighter.{lighter_within}
use Rattle.silage_print.proofs.LightItems.{Has, light_table, light_function, light_no_tops, light_tops}
use Rattle.silage_print.proofs.ReadItems.{GoodItems, good_items}
use Rattle.silage_print.proofs.ReadLists.{ReadsBy, by_end, Goods, only, also, listed_written, listed_read, Grouped}
use Rattle.silage_print.proofs.ReadLists.{bare, inside, grouped_read, one_of_several, goods_long}

-- Dims, types and declarations.
data GoodDims : List ℕ → Type 0 where
  no_dim : GoodDims []
  one_dim : {n : ℕ} → n ≤ 2 ^ 32 - 1 → GoodDims (n ∷ [])
  two_dims : {n m : ℕ} → n ≤ 2 ^ 32 - 1 → m ≤ 2 ^ 32 - 1 → GoodDims (n ∷ m ∷ [])

dim_small : (n : ℕ) → dim n ≤ 2 ^ 32 - 1
dim_small n = grind arith

same_dim : (n : ℕ) → n ≤ 2 ^ 32 - 1 → dim n ≡ n
same_dim n h = grind arith

good_dims : {ts : List Token} {i j : ℕ} {ds : List ℕ} → IsDims ts i ds j → GoodDims ds
good_dims scalar = no_dim
good_dims (vector {n = n} a b c) = one_dim (dim_small n)
good_dims (matrix {n = n} {m = m} a b c d e f) = two_dims (dim_small n) (dim_small m)

dim_written : (n : ℕ) → n ≤ 2 ^ 32 - 1 → IsWritten (kind.Whole n)
dim_written n h = whole_written n (omega arith)

dims_written : {ds : List ℕ} → GoodDims ds → AreWritten (dims_text ds)
dims_written no_dim = no_kind
dims_written (one_dim {n = n} h) = one_kind refl (one_kind (dim_written n h) (one_kind refl no_kind))
dims_written (two_dims {n = n} {m = m} h k) =
    one_kind refl
    (one_kind (dim_written n h) (one_kind refl (one_kind refl (one_kind (dim_written m k) (one_kind refl no_kind)))))

dims_read : (us : List Token) {ds : List ℕ} → GoodDims ds → (i j : ℕ) → AreAt us i (dims_text ds) j → IsDims us i ds j
dims_read us no_dim i j s = let P : ℕ → Type 0 = λ k. IsDims us i [] k in subst P s scalar
dims_read us (one_dim {n = n} h) i j s =
    let P : ℕ → Type 0 = λ k. IsDims us i (dim n ∷ []) k in
    let Q : ℕ → Type 0 = λ d. IsDims us i (d ∷ []) j in
    let end = s.1.1.1 in
    let stop : i + 3 ≡ j = omega arith in
    let close = moved us (i + 1 + 1) (i + 2) (Some (symbol punctuation.RIGHT_BRACKET)) (omega arith) s.1.1.0 in
    subst Q (same_dim n h) (subst P stop (vector s.0 s.1.0 close))
dims_read us (two_dims {n = n} {m = m} h k) i j s =
    let P : ℕ → Type 0 = λ l. IsDims us i (dim n ∷ dim m ∷ []) l in
    let Q : ℕ → Type 0 = λ d. IsDims us i (d ∷ dim m ∷ []) j in
    let R : ℕ → Type 0 = λ d. IsDims us i (n ∷ d ∷ []) j in
    let t2 = s.1.1 in
    let t4 = t2.1.1 in
    let end = t4.1.1 in
    let stop : i + 6 ≡ j = omega arith in
    let close = moved us (i + 1 + 1) (i + 2) (Some (symbol punctuation.RIGHT_BRACKET)) (omega arith) t2.0 in
    let opens = moved us (i + 1 + 1 + 1) (i + 3) (Some (symbol punctuation.LEFT_BRACKET)) (omega arith) t2.1.0 in
    let second = moved us (i + 1 + 1 + 1 + 1) (i + 4) (Some (kind.Whole m)) (omega arith) t4.0 in
    let closes =
    moved us (i + 1 + 1 + 1 + 1 + 1) (i + 5) (Some (symbol punctuation.RIGHT_BRACKET)) (omega arith) t4.1.0 in
    subst R (same_dim m k) (subst Q (same_dim n h) (subst P stop (matrix s.0 s.1.0 close opens second closes)))

data GoodType : SigType → Type 0 where
  good_fixed : {ty : FixType} → GoodFix ty → GoodType (Fix ty)
  good_bool : GoodType Truths

good_type : {ts : List Token} {i j : ℕ} {ty : SigType} → IsType ts i ty j → GoodType ty
good_type (fix d) = good_fixed (good_fix d)
good_type (bool e) = good_bool

type_written : {ty : SigType} → GoodType ty → AreWritten (type_text ty)
type_written (good_fixed {ty = ty} g) = fix_written ty g
type_written good_bool = one_kind refl no_kind

type_read : (us : List Token) {ty : SigType} → GoodType ty → (i j : ℕ) → AreAt us i (type_text ty) j → IsType us i ty j
type_read us (good_fixed {ty = ty} g) i j s = fix (fix_read us ty g i j s)
type_read us good_bool i j s = let P : ℕ → Type 0 = λ k. IsType us i Truths k in subst P s.1 (bool s.0)

record GoodDecl (d : Decl) : Type 0 where
  name : IsWritten (kind.Name d.name)
  dims : GoodDims d.dims
  type : GoodType d.ty

record GoodDeclared (d : Declared) : Type 0 where
  name : IsWritten (kind.Name d.name)
  dims : GoodDims d.dims

good_declared : (ts : List Token) → TokensWritten ts → {i j : ℕ} {d : Declared} → IsDeclared ts i d j → GoodDeclared d
good_declared ts w (declared {i = i} {name = name} n ds) = record { name = w i (kind.Name name) n; dims = good_dims ds }

good_decl : (ts : List Token) → TokensWritten ts → {i j : ℕ} {d : Decl} → IsDecl ts i d j → GoodDecl d
good_decl ts w (decl d c ty) =
    let g = good_declared ts w d in record { name = g.name; dims = g.dims; type = good_type ty }

decl_written : (d : Decl) → GoodDecl d → AreWritten (decl_text d)
decl_written d g = joined (one_kind g.name (dims_written g.dims)) (one_kind refl (type_written g.type))

-- a declared name, and its type
record ReadsDecl (us : List Token) (d : Decl) (i j : ℕ) : Type 0 where
  middle : ℕ
  named : IsDeclared us i (record { name = d.name; at = from_at us i; dims = d.dims }) middle
  colon : IsPunctuation us middle punctuation.COLON
  type : IsType us (middle + 1) d.ty j

decl_parts : (us : List Token) (d : Decl) → GoodDecl d → (i j : ℕ) → AreAt us i (decl_text d) j → ReadsDecl us d i j
decl_parts us d g i j s =
    let r = split us (dims_text d.dims) (symbol punctuation.COLON ∷ type_text d.ty) (i + 1) j s.1 in
    record {
      middle = r.0;
      named = declared s.0 (dims_read us g.dims (i + 1) r.0 r.1);
      colon = r.2.0;
      type = type_read us g.type (r.0 + 1) j r.2.1;
    }

decl_read : (us : List Token) (d : Decl)
    → GoodDecl d
    → (i j : ℕ)
    → AreAt us i (decl_text d) j
    → ReadsBy Decl unpositioned_decl (IsDecl us) d i j
decl_read us d g i j s =
    let x = decl_parts us d g i j s in
    record {
      tree = record { name = d.name; at = from_at us i; dims = d.dims; ty = d.ty };
      same = refl;
      reads = decl x.named x.colon x.type;
    }

good_decls : (ts : List Token)
    → TokensWritten ts
    → {i j : ℕ} {ds : List Decl}
    → IsList ts Decl (IsDecl ts) i ds j
    → Goods Decl GoodDecl ds
good_decls ts w (last d) = only (good_decl ts w d)
good_decls ts w (more d c rest) = also (good_decl ts w d) (good_decls ts w rest)

decls_read : (us : List Token) {ds : List Decl}
    → Goods Decl GoodDecl ds
    → (i j : ℕ)
    → AreAt us i (listed decl_text ds) j
    → ReadsBy (List Decl) (map unpositioned_decl) (IsList us Decl (IsDecl us)) ds i j
decls_read us gs i j s =
    listed_read Decl GoodDecl decl_text unpositioned_decl us (λ d. IsDecl us) (λ ds. IsList us Decl (IsDecl us))
    (λ i j x y d. last d) (λ i j k x y xs ys long d c rest. more d c rest) (decl_read us) gs i j s

decls_written : {ds : List Decl} → Goods Decl GoodDecl ds → AreWritten (listed decl_text ds)
decls_written gs = listed_written Decl GoodDecl decl_text decl_written gs

-- Locals, each with its own `var`.
data GoodLocals : List Decl → Type 0 where
  no_local : GoodLocals []
  one_local : {d : Decl} {ds : List Decl} → GoodDecl d → GoodLocals ds → GoodLocals (d ∷ ds)

locals_with : (ts : List Token)
    → TokensWritten ts
    → {i j : ℕ} {ds : List Declared} {rest : List Decl} (ty : SigType)
    → IsList ts Declared (IsDeclared ts) i ds j
    → GoodType ty
    → GoodLocals rest
    → GoodLocals (map (typed ty) ds ++ rest)
locals_with ts w ty (last d) g rest =
    let n = good_declared ts w d in one_local (record { name = n.name; dims = n.dims; type = g }) rest
locals_with ts w ty (more d c ds) g rest =
    let n = good_declared ts w d in
    one_local (record { name = n.name; dims = n.dims; type = g }) (locals_with ts w ty ds g rest)

good_locals : (ts : List Token) → TokensWritten ts → {i j : ℕ} {ds : List Decl} → IsLocals ts i ds j → GoodLocals ds
good_locals ts w no_locals = no_local
good_locals ts w (some_locals {ty = ty} v ds c t s rest) = locals_with ts w ty ds (good_type t) (good_locals ts w rest)

locals_written : {ds : List Decl} → GoodLocals ds → AreWritten (flat_map local_text ds)
locals_written no_local = no_kind
locals_written (one_local {d = d} g gs) =
    joined (joined (one_kind refl (decl_written d g)) (one_kind refl no_kind)) (locals_written gs)

locals_read : (us : List Token) {ds : List Decl}
    → GoodLocals ds
    → (i j : ℕ)
    → AreAt us i (flat_map local_text ds) j
    → ReadsBy (List Decl) (map unpositioned_decl) (IsLocals us) ds i j
locals_read us no_local i j s = by_end s (record { tree = []; same = refl; reads = no_locals })
locals_read us (one_local {d = d} {ds = ds} g gs) i j s =
    let r = split us (local_text d) (flat_map local_text ds) i j s in
    let q = split us (decl_text d) (symbol punctuation.SEMICOLON ∷ []) (i + 1) r.0 r.1.1 in
    let x = decl_parts us d g (i + 1) q.0 q.1 in
    let P : ℕ → Type 0 = λ k. AreAt us k (flat_map local_text ds) j in
    let rest = locals_read us gs (q.0 + 1) j (subst P (sym q.2.1) r.2) in
    record {
      tree = record { name = d.name; at = from_at us (i + 1); dims = d.dims; ty = d.ty } ∷ rest.tree;
      same = ap (λ z. unpositioned_decl d ∷ z) rest.same;
      reads = some_locals r.1.0 (last x.named) x.colon x.type q.2.0 rest.reads;
    }

-- Results.
good_results : (ts : List Token)
    → TokensWritten ts
    → {i j : ℕ} {ds : List Decl}
    → IsResults ts i ds j
    → Goods Decl GoodDecl ds
good_results ts w (one_result d) = only (good_decl ts w d)
good_results ts w (results o ds c) = good_decls ts w ds

results_of : (us : List Token) {ds : List Decl} {i j : ℕ}
    → Grouped Decl GoodDecl decl_text unpositioned_decl us (λ d. IsDecl us) (λ ds. IsList us Decl (IsDecl us))
    (λ i j x y d. last d) (λ i j k x y xs ys long d c rest. more d c rest) (decl_read us) ds i j
    → ReadsBy (List Decl) (map unpositioned_decl) (IsResults us) ds i j
results_of us (bare d) = record { tree = d.tree ∷ []; same = ap (λ z. z ∷ []) d.same; reads = one_result d.reads }
results_of us (inside o ds c) = record { tree = ds.tree; same = ds.same; reads = results o ds.reads c }

results_read : (us : List Token) {ds : List Decl}
    → Goods Decl GoodDecl ds
    → (i j : ℕ)
    → AreAt us i (enclosed (several ds) (listed decl_text ds)) j
    → ReadsBy (List Decl) (map unpositioned_decl) (IsResults us) ds i j
results_read us {ds} gs i j s =
    results_of us
    (grouped_read Decl GoodDecl decl_text unpositioned_decl us (λ d. IsDecl us) (λ ds. IsList us Decl (IsDecl us))
    (λ i j x y d. last d) (λ i j k x y xs ys long d c rest. more d c rest) (decl_read us)
    gs (several ds) (one_of_several ds) i j s)

-- Words.
word_read : (us : List Token) (l : Lit)
    → GoodSigned l
    → (i j : ℕ)
    → AreAt us i (lit_text l) j
    → ReadsBy Lit unpositioned_lit (IsSigned us) l i j
word_read us l g i j s = let x = g.reads us i j s in record { tree = x.0; same = x.1; reads = x.2 }

good_list : (ts : List Token)
    → TokensWritten ts
    → {i j : ℕ} {ls : List Lit}
    → IsList ts Lit (IsSigned ts) i ls j
    → Goods Lit GoodSigned ls
good_list ts w (last d) = only (good_signed ts w d)
good_list ts w (more d c rest) = also (good_signed ts w d) (good_list ts w rest)

good_words : (ts : List Token)
    → TokensWritten ts
    → {i j : ℕ} {ls : List Lit}
    → IsWords ts i ls j
    → Goods Lit GoodSigned ls
good_words ts w (one_word d) = only (good_signed ts w d)
good_words ts w (words o ls c) = good_list ts w ls

words_of : (us : List Token) {ls : List Lit} {i j : ℕ}
    → Grouped Lit GoodSigned lit_text unpositioned_lit us (λ l. IsSigned us) (λ ls. IsList us Lit (IsSigned us))
    (λ i j x y d. last d) (λ i j k x y xs ys long d c rest. more d c rest) (word_read us) ls i j
    → ReadsBy (List Lit) (map unpositioned_lit) (IsWords us) ls i j
words_of us (bare d) = record { tree = d.tree ∷ []; same = ap (λ z. z ∷ []) d.same; reads = one_word d.reads }
words_of us (inside o ls c) = record { tree = ls.tree; same = ls.same; reads = words o ls.reads c }

alone : (dims : List ℕ) (ls : List Lit)
    → 1 ≤ length ls
    → (nat_lt 0 (length dims) || nat_lt 1 (length ls)) ≡ false
    → length ls ≡ 1
alone dims ls some h = grind (arith, nat_tests)

words_read : (us : List Token) (dims : List ℕ) {ls : List Lit}
    → Goods Lit GoodSigned ls
    → (i j : ℕ)
    → AreAt us i (words_text dims ls) j
    → ReadsBy (List Lit) (map unpositioned_lit) (IsWords us) ls i j
words_read us dims {ls} gs i j s =
    words_of us
    (grouped_read Lit GoodSigned lit_text unpositioned_lit us (λ l. IsSigned us) (λ ls. IsList us Lit (IsSigned us))
    (λ i j x y d. last d) (λ i j k x y xs ys long d c rest. more d c rest) (word_read us)
    gs (nat_lt 0 (length dims) || nat_lt 1 (length ls)) (alone dims ls (goods_long gs)) i j s)

-- Tables and functions.
record GoodTop (t : Top) : Type 0 where
  written : AreWritten (top_text t)
  reads : (us : List Token) (i j : ℕ) → AreAt us i (top_text t) j → ReadsBy Top unpositioned_top (Has IsTop us t) t i j

record GoodTable (c : ConstDef) : Type 0 where
  name : IsWritten (kind.Name c.name)
  dims : GoodDims c.dims
  type : GoodFix c.ty
  words : Goods Lit GoodSigned c.words

good_table : (c : ConstDef) → GoodTable c → GoodTop (table c)
good_table c g = record {
  written =
      joined
      (joined (joined (one_kind refl (one_kind g.name (dims_written g.dims))) (one_kind refl (fix_written c.ty g.type)))
      (one_kind refl (enclosed_written _ (listed_written Lit GoodSigned lit_text (λ x h. h.written) g.words))))
      (one_kind refl no_kind);
  reads = λ us i j s.
      let e =
      split us
      (word keyword.CONST ∷ kind.Name c.name ∷ dims_text c.dims ++ symbol punctuation.COLON ∷ fix_text c.ty
      ++ symbol punctuation.EQUAL ∷ words_text c.dims c.words)
      (symbol punctuation.SEMICOLON ∷ []) i j s in
      let r =
      split us
      (word keyword.CONST ∷ kind.Name c.name ∷ dims_text c.dims ++ symbol punctuation.COLON ∷ fix_text c.ty)
      (symbol punctuation.EQUAL ∷ words_text c.dims c.words) i e.0 e.1 in
      let q =
      split us (word keyword.CONST ∷ kind.Name c.name ∷ dims_text c.dims) (symbol punctuation.COLON ∷ fix_text c.ty)
      i r.0 r.1 in
      let named = declared q.1.1.0 (dims_read us g.dims (i + 1 + 1) q.0 q.1.1.1) in
      let type = fix_read us c.ty g.type (q.0 + 1) r.0 q.2.1 in
      let ls = words_read us c.dims g.words (r.0 + 1) e.0 r.2.1 in
      by_end e.2.1 (record {
        tree = table (record { name = c.name; at = from_at us (i + 1); dims = c.dims; ty = c.ty; words = ls.tree });
        same = ap (λ z. table (record { name = c.name; at = 0; dims = c.dims; ty = c.ty; words = z })) ls.same;
        reads = record {
          roles = _;
          is = is_table q.1.0 named q.2.0 type r.2.0 ls.reads e.2.0;
          light = light_table i (e.0 + 1);
        };
      });
}

record GoodFunc (f : Func) : Type 0 where
  name : IsWritten (kind.Name f.name)
  params : Goods Decl GoodDecl f.params
  results : Goods Decl GoodDecl f.results
  locals : GoodLocals f.locals
  items : GoodItems f.items

-- what comes before a function's body
record ReadsHead (us : List Token) (f : Func) (i j : ℕ) : Type 0 where
  params : List Decl
  same_params : map unpositioned_decl params ≡ map unpositioned_decl f.params
  results : List Decl
  same_results : map unpositioned_decl results ≡ map unpositioned_decl f.results
  close : ℕ
  func : IsKeyword us i keyword.FUNC
  name : IsName us (i + 1) f.name
  opens : IsPunctuation us (i + 2) punctuation.LEFT_PAREN
  reads_params : IsList us Decl (IsDecl us) (i + 3) params close
  closes : IsPunctuation us close punctuation.RIGHT_PAREN
  reads_results : IsResults us (close + 1) results j

head_read : (us : List Token) (f : Func) → GoodFunc f → (i j : ℕ) → AreAt us i (head_text f) j → ReadsHead us f i j
head_read us f g i j s =
    let r =
    split us (word keyword.FUNC ∷ kind.Name f.name ∷ enclosed true (listed decl_text f.params))
    (enclosed (several f.results) (listed decl_text f.results)) i j s in
    let q = split us (listed decl_text f.params) (symbol punctuation.RIGHT_PAREN ∷ []) (i + 1 + 1 + 1) r.0 r.1.1.1.1 in
    let P : ℕ → Type 0 = λ k. AreAt us k (listed decl_text f.params) q.0 in
    let ps = decls_read us g.params (i + 3) q.0 (subst P (omega arith) q.1) in
    let Q : ℕ → Type 0 = λ k. AreAt us k (enclosed (several f.results) (listed decl_text f.results)) j in
    let rs = results_read us g.results (q.0 + 1) j (subst Q (sym q.2.1) r.2) in
    record {
      params = ps.tree;
      same_params = ps.same;
      results = rs.tree;
      same_results = rs.same;
      close = q.0;
      func = r.1.0;
      name = r.1.1.0;
      opens = moved us (i + 1 + 1) (i + 2) (Some (symbol punctuation.LEFT_PAREN)) (omega arith) r.1.1.1.0;
      reads_params = ps.reads;
      closes = q.2.0;
      reads_results = rs.reads;
    }

abbrev func_with : List ℕ → List Decl → List Decl → List Decl → Items → Top
func_with name ps rs ls xs =
    function (record { name = name; at = 0; params = ps; results = rs; locals = ls; items = xs })

good_function : (f : Func) → GoodFunc f → GoodTop (function f)
good_function f g = record {
  written =
      joined (joined (one_kind refl (one_kind g.name (enclosed_written true (decls_written g.params))))
      (enclosed_written _ (decls_written g.results)))
      (one_kind refl
      (joined (joined (one_kind refl (locals_written g.locals)) g.items.written)
      (one_kind refl (one_kind refl no_kind))));
  reads = λ us i j s.
      let r = split us (head_text f) (symbol punctuation.EQUAL ∷ body_text f.locals f.items) i j s in
      let h = head_read us f g i r.0 r.1 in
      let e =
      split us (word keyword.BEGIN ∷ flat_map local_text f.locals ++ items_text f.items)
      (word keyword.END ∷ symbol punctuation.SEMICOLON ∷ []) (r.0 + 1) j r.2.1 in
      let q = split us (word keyword.BEGIN ∷ flat_map local_text f.locals) (items_text f.items) (r.0 + 1) e.0 e.1 in
      let P : ℕ → Type 0 = λ k. AreAt us k (flat_map local_text f.locals) q.0 in
      let ls = locals_read us g.locals (r.0 + 2) q.0 (subst P (omega arith) q.1.1) in
      let xs = g.items.reads us q.0 e.0 q.2 in
      let stop = e.2.1.1 in
      let finish : e.0 + 2 ≡ j = omega arith in
      by_end finish (record {
        tree =
            function
            (record {
              name = f.name;
              at = from_at us (i + 1);
              params = h.params;
              results = h.results;
              locals = ls.tree;
              items = xs.tree;
            });
        same =
            ap (λ z.
            func_with f.name z (map unpositioned_decl h.results) (map unpositioned_decl ls.tree)
            (unpositioned_items xs.tree))
            h.same_params
            ∙ ap (λ z.
            func_with f.name (map unpositioned_decl f.params) z (map unpositioned_decl ls.tree)
            (unpositioned_items xs.tree))
            h.same_results
            ∙ ap (λ z.
            func_with f.name (map unpositioned_decl f.params) (map unpositioned_decl f.results) z
            (unpositioned_items xs.tree))
            ls.same
            ∙ ap (λ z.
            func_with f.name (map unpositioned_decl f.params) (map unpositioned_decl f.results)
            (map unpositioned_decl f.locals) z)
            xs.same;
        reads = record {
          roles = _;
          is =
              is_function h.func h.name h.opens h.reads_params h.closes h.reads_results r.2.0 q.1.0 ls.reads xs.reads.is
              e.2.0 e.2.1.0;
          light = light_function i q.0 xs.reads.light;
        };
      });
}

good_top : (ts : List Token) → TokensWritten ts → {i j : ℕ} {t : Top} {rs : List Role} → IsTop ts i t rs j → GoodTop t
good_top ts w (is_table c d k f e ls s) =
    let n = good_declared ts w d in
    good_table _ (record { name = n.name; dims = n.dims; type = good_fix f; words = good_words ts w ls })
good_top ts w (is_function {i = i} {name = name} a n o ps c rs d b ls xs e s) =
    good_function _
    (record {
      name = w (i + 1) (kind.Name name) n;
      params = good_decls ts w ps;
      results = good_results ts w rs;
      locals = good_locals ts w ls;
      items = good_items ts w xs;
    })

-- Programs.
record GoodTops (tops : List Top) : Type 0 where
  written : AreWritten (flat_map top_text tops)
  reads : (us : List Token) (i j : ℕ)
      → AreAt us i (flat_map top_text tops) j
      → ReadsBy (List Top) (map unpositioned_top) (Has IsTops us tops) tops i j

more_tops : (t : Top) (rest : List Top) → GoodTop t → GoodTops rest → GoodTops (t ∷ rest)
more_tops t rest g h = record {
  written = joined g.written h.written;
  reads = λ us i j s.
      let r = split us (top_text t) (flat_map top_text rest) i j s in
      let x = g.reads us i r.0 r.1 in
      let xs = h.reads us r.0 j r.2 in
      record {
        tree = x.tree ∷ xs.tree;
        same = ap (λ z. z ∷ map unpositioned_top xs.tree) x.same ∙ ap (λ z. unpositioned_top t ∷ z) xs.same;
        reads =
            record { roles = _; is = one_top x.reads.is xs.reads.is; light = light_tops x.reads.light xs.reads.light };
      };
}

good_tops : (ts : List Token)
    → TokensWritten ts
    → {i j : ℕ} {tops : List Top} {rs : List Role}
    → IsTops ts i tops rs j
    → GoodTops tops
good_tops ts w no_tops = record {
  written = no_kind;
  reads = λ us i j s.
      by_end s (record { tree = []; same = refl; reads = record { roles = _; is = no_tops; light = light_no_tops } });
}
good_tops ts w (one_top t rest) = more_tops _ _ (good_top ts w t) (good_tops ts w rest)

-- a program that is this one up to positions, and no token of which passes a limit where those of this one pass none
pub record ReadsProgram (us : List Token) (p : Program) : Type 0 where
  pub tree : Program
  pub same : unpositioned tree ≡ unpositioned p
  pub roles : List Role
  pub is : HasRoles us tree roles
  pub within : (ts : List Token) (old : List Role) → HasRoles ts p old → AreWithin old → AreWithin roles

-- the program's text is written, and tokens of its kinds are read as the program
pub record GoodProgram (p : Program) : Type 0 where
  pub written : AreWritten (program_text p)
  pub reads : (us : List Token) → AreAt us 0 (program_text p) (length us) → ReadsProgram us p

pub good_program : (ts : List Token) → TokensWritten ts → (p : Program) → Derives ts p → GoodProgram p
good_program ts w p d =
    let g = good_tops ts w d.1 in
    record {
      written = g.written;
      reads = λ us s.
          let x = g.reads us 0 (length us) s in
          record {
            tree = record { tops = x.tree };
            same = ap (λ z. record { tops = z }) x.same;
            roles = x.reads.roles;
            is = x.reads.is;
            within = λ ts old d. lighter_within x.reads.roles old (x.reads.light ts 0 (length ts) old d);
          };
    }
