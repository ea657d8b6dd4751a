-- The text of a program does not depend on positions.
use Rattle.std.proofs.Common.{◌≡◌, ℕ, Bool, true, false, nat_lt, nat_eq, ◌||◌, not as negation, List, [], ◌∷◌, ◌++◌}
use Rattle.std.proofs.Common.{Option, Some, None, length, map, refl, ap, ◌∙◌}
use Rattle.std.specs.List.{flat_map}
use Rattle.std.proofs.lemmas.List.{length-map}
use Rattle.silage_lex.specs.declared.TokenKind.{TokenKind}
use Rattle.silage_lex.specs.declared.TokenKind.TheVariants as kind
use Rattle.silage_lex.specs.declared.punctuation.TheConstants as punctuation
use Rattle.silage_lex.specs.declared.keywords.TheConstants as keyword
use Rattle.silage_print.specs.Precedence as precedence
use Rattle.silage_syntax.specs.declared.tree.MOp.TheVariants as mop
use Rattle.silage_syntax.specs.declared.tree.Lit.{Lit}
use Rattle.silage_syntax.specs.declared.tree.Lit.TheVariants.{Number, Truth}
use Rattle.silage_syntax.specs.declared.tree.Decl.{Decl}
use Rattle.silage_syntax.specs.Tree.{Manifest, whole, counter, minus, both, Place, Expr, literal, read, negate, not}
use Rattle.silage_syntax.specs.Tree.{binary, shift, cast, choose, Branches, no_branch, branch, Item, equation, call}
use Rattle.silage_syntax.specs.Tree.{loop, initial, Items, no_item, item, Top, table, function}
use Rattle.silage_syntax.specs.Positions.{unpositioned_lit, unpositioned_manifest, unpositioned_place}
use Rattle.silage_syntax.specs.Positions.{unpositioned_delay, unpositioned_expr, unpositioned_branches}
use Rattle.silage_syntax.specs.Positions.{unpositioned_item, unpositioned_items, unpositioned_decl, unpositioned_top}
use Rattle.silage_print.specs.Text.{symbol, word, enclosed, listed, after_comma, bracketed, subscript_text, lit_text}
use Rattle.silage_print.specs.Text.{fix_text, dims_text, decl_text, manifest_precedence, term_mark, term_left}
use Rattle.silage_print.specs.Text.{term_right, manifest_text, amount_text, place_text, delay_text, operator_mark}
use Rattle.silage_print.specs.Text.{left_precedence, right_precedence, expr_precedence, is_unsigned, is_loose_operand}
use Rattle.silage_print.specs.Text.{shift_mark, expr_text, branches_text, several, call_text, turns_text, clause_text}
use Rattle.silage_print.specs.Text.{items_text, words_text, local_text, top_text}

-- in parentheses by the same test
enclosed_same : {b c : Bool} {xs ys : List TokenKind} → b ≡ c → xs ≡ ys → enclosed b xs ≡ enclosed c ys
enclosed_same {b} {c} {xs} {ys} e f = ap (λ d. enclosed d xs) e ∙ ap (enclosed c) f

joined_same : {ks ls xs ys : List TokenKind} → ks ≡ ls → xs ≡ ys → ks ++ xs ≡ ls ++ ys
joined_same {ks} {ls} {xs} {ys} e f = ap (λ zs. zs ++ xs) e ∙ ap (λ zs. ls ++ zs) f

-- texts of lists
module _ {A : Type 0} (text : A → List TokenKind) (up_to : A → A) (same : (x : A) → text (up_to x) ≡ text x) where
  all_same : (xs : List A) → flat_map text (map up_to xs) ≡ flat_map text xs
  all_same [] = refl
  all_same (x ∷ xs) = joined_same (same x) (all_same xs)

  others_same : (xs : List A) → flat_map (after_comma text) (map up_to xs) ≡ flat_map (after_comma text) xs
  others_same [] = refl
  others_same (x ∷ xs) = joined_same (ap (λ ks. symbol punctuation.COMMA ∷ ks) (same x)) (others_same xs)

  listed_same : (xs : List A) → listed text (map up_to xs) ≡ listed text xs
  listed_same [] = refl
  listed_same (x ∷ xs) = joined_same (same x) (others_same xs)

  several_same : (xs : List A) → several (map up_to xs) ≡ several xs
  several_same xs = ap (λ n. negation (nat_eq n 1)) (length-map xs up_to)

  grouped_same : (xs : List A)
      → enclosed (several (map up_to xs)) (listed text (map up_to xs)) ≡ enclosed (several xs) (listed text xs)
  grouped_same xs = enclosed_same (several_same xs) (listed_same xs)

lit_same : (l : Lit) → lit_text (unpositioned_lit l) ≡ lit_text l
lit_same (Number neg d p at) = refl
lit_same (Truth b at) = refl

-- Manifest numbers.
manifest_level_same : (m : Manifest) → manifest_precedence (unpositioned_manifest m) ≡ manifest_precedence m
manifest_level_same (whole n at) = refl
manifest_level_same (counter name at) = refl
manifest_level_same (minus at m) = refl
manifest_level_same (both at mop.Add a b) = refl
manifest_level_same (both at mop.Sub a b) = refl
manifest_level_same (both at mop.Mul a b) = refl

is_loose_same : (m : Manifest) (k : ℕ)
    → nat_lt (manifest_precedence (unpositioned_manifest m)) k ≡ nat_lt (manifest_precedence m) k
is_loose_same m k = ap (λ l. nat_lt l k) (manifest_level_same m)

manifest_same : (m : Manifest) → manifest_text (unpositioned_manifest m) ≡ manifest_text m
manifest_same (whole n at) = refl
manifest_same (counter name at) = refl
manifest_same (minus at m) =
    ap (λ ks. symbol punctuation.MINUS ∷ ks) (enclosed_same (is_loose_same m precedence.unary) (manifest_same m))
manifest_same (both at o a b) =
    joined_same (enclosed_same (is_loose_same a (term_left o)) (manifest_same a))
    (ap (λ ks. symbol (term_mark o) ∷ ks) (enclosed_same (is_loose_same b (term_right o)) (manifest_same b)))

amount_same : (m : Manifest) → amount_text (unpositioned_manifest m) ≡ amount_text m
amount_same m = enclosed_same (is_loose_same m precedence.primary) (manifest_same m)

place_same : (p : Place) → place_text (unpositioned_place p) ≡ place_text p
place_same p =
    ap (λ ks. kind.Name p.name ∷ ks)
    (all_same subscript_text unpositioned_manifest (λ m. ap bracketed (manifest_same m)) p.subs)

delay_same : (d : Option Manifest) → delay_text (unpositioned_delay d) ≡ delay_text d
delay_same None = refl
delay_same (Some m) = ap (λ ks. symbol punctuation.AT ∷ ks) (amount_same m)

-- Expressions.
expr_level_same : (e : Expr) → expr_precedence (unpositioned_expr e) ≡ expr_precedence e
expr_level_same (literal (Number true d p at)) = refl
expr_level_same (literal (Number false d p at)) = refl
expr_level_same (literal (Truth b at)) = refl
expr_level_same (read p d) = refl
expr_level_same (negate at e) = refl
expr_level_same (not at e) = refl
expr_level_same (binary at o a b) = refl
expr_level_same (shift at left e m) = refl
expr_level_same (cast at ty e) = refl
expr_level_same (choose at bs last) = refl

looser_same : (e : Expr) (k : ℕ) → nat_lt (expr_precedence (unpositioned_expr e)) k ≡ nat_lt (expr_precedence e) k
looser_same e k = ap (λ l. nat_lt l k) (expr_level_same e)

unsigned_same : (e : Expr) → is_unsigned (unpositioned_expr e) ≡ is_unsigned e
unsigned_same (literal (Number true d p at)) = refl
unsigned_same (literal (Number false d p at)) = refl
unsigned_same (literal (Truth b at)) = refl
unsigned_same (read p d) = refl
unsigned_same (negate at e) = refl
unsigned_same (not at e) = refl
unsigned_same (binary at o a b) = refl
unsigned_same (shift at left e m) = refl
unsigned_same (cast at ty e) = refl
unsigned_same (choose at bs last) = refl

operand_same : (e : Expr) → is_loose_operand (unpositioned_expr e) ≡ is_loose_operand e
operand_same e =
    ap (λ b. b || is_unsigned (unpositioned_expr e)) (looser_same e precedence.unary)
    ∙ ap (λ b. nat_lt (expr_precedence e) precedence.unary || b) (unsigned_same e)

mutual
  expr_same : (e : Expr) → expr_text (unpositioned_expr e) ≡ expr_text e
  expr_same (literal l) = lit_same l
  expr_same (read p d) = joined_same (place_same p) (delay_same d)
  expr_same (negate at e) = ap (λ ks. symbol punctuation.MINUS ∷ ks) (enclosed_same (operand_same e) (expr_same e))
  expr_same (not at e) =
      ap (λ ks. symbol punctuation.BANG ∷ ks) (enclosed_same (looser_same e precedence.unary) (expr_same e))
  expr_same (binary at o a b) =
      joined_same (enclosed_same (looser_same a (left_precedence o)) (expr_same a))
      (ap (λ ks. symbol (operator_mark o) ∷ ks) (enclosed_same (looser_same b (right_precedence o)) (expr_same b)))
  expr_same (shift at left e m) =
      joined_same (enclosed_same (looser_same e precedence.shift) (expr_same e))
      (ap (λ ks. symbol (shift_mark left) ∷ ks) (amount_same m))
  expr_same (cast at ty e) = ap (λ ks. fix_text ty ++ enclosed true ks) (expr_same e)
  expr_same (choose at bs last) =
      ap (λ ks. word keyword.IF ∷ ks ++ word keyword.FI ∷ []) (joined_same (branches_same bs) (expr_same last))

  branches_same : (bs : Branches) → branches_text (unpositioned_branches bs) ≡ branches_text bs
  branches_same no_branch = refl
  branches_same (branch c v bs) =
      joined_same (joined_same (expr_same c) (ap (λ ks. symbol punctuation.ARROW ∷ ks) (expr_same v)))
      (ap (λ ks. symbol punctuation.PIPE_PIPE ∷ ks) (branches_same bs))

-- Items.
call_same : (f : List ℕ) (es : List Expr) → call_text f (map unpositioned_expr es) ≡ call_text f es
call_same f es =
    ap (λ ks. kind.Name f ∷ symbol punctuation.LEFT_PAREN ∷ ks ++ symbol punctuation.RIGHT_PAREN ∷ [])
    (listed_same expr_text unpositioned_expr expr_same es)

turns_same : (index : List ℕ) (lo hi : Manifest)
    → turns_text index (unpositioned_manifest lo) (unpositioned_manifest hi) ≡ turns_text index lo hi
turns_same index lo hi =
    ap (λ ks.
    symbol punctuation.LEFT_PAREN ∷ kind.Name index ∷ symbol punctuation.COLON ∷ ks
    ++ symbol punctuation.RIGHT_PAREN ∷ [])
    (joined_same (manifest_same lo) (ap (λ ks. symbol punctuation.DOT_DOT ∷ ks) (manifest_same hi)))

mutual
  item_same : (x : Item) → clause_text (unpositioned_item x) ≡ clause_text x
  item_same (equation p e) = joined_same (place_same p) (ap (λ ks. symbol punctuation.EQUAL ∷ ks) (expr_same e))
  item_same (call ps f es at) =
      joined_same (grouped_same place_text unpositioned_place place_same ps)
      (ap (λ ks. symbol punctuation.EQUAL ∷ ks) (call_same f es))
  item_same (loop index lo hi xs at) =
      joined_same
      (joined_same (turns_same index lo hi)
      (ap (λ ks. symbol punctuation.COLON_COLON ∷ word keyword.BEGIN ∷ ks) (items_same xs))) refl
  item_same (initial p k l) =
      joined_same (joined_same (place_same p) (ap (λ ks. symbol punctuation.AT_AT ∷ ks) (amount_same k)))
      (ap (λ ks. symbol punctuation.EQUAL ∷ ks) (lit_same l))

  items_same : (xs : Items) → items_text (unpositioned_items xs) ≡ items_text xs
  items_same no_item = refl
  items_same (item x xs) = joined_same (item_same x) (ap (λ ks. symbol punctuation.SEMICOLON ∷ ks) (items_same xs))

-- Definitions.
decl_same : (d : Decl) → decl_text (unpositioned_decl d) ≡ decl_text d
decl_same d = refl

local_same : (d : Decl) → local_text (unpositioned_decl d) ≡ local_text d
local_same d = refl

words_same : (dims : List ℕ) (ls : List Lit) → words_text dims (map unpositioned_lit ls) ≡ words_text dims ls
words_same dims ls =
    enclosed_same (ap (λ n. nat_lt 0 (length dims) || nat_lt 1 n) (length-map ls unpositioned_lit))
    (listed_same lit_text unpositioned_lit lit_same ls)

pub top_same : (t : Top) → top_text (unpositioned_top t) ≡ top_text t
top_same (table c) =
    ap (λ ks.
    word keyword.CONST ∷ kind.Name c.name ∷ dims_text c.dims ++ symbol punctuation.COLON ∷ fix_text c.ty
    ++ symbol punctuation.EQUAL ∷ ks ++ symbol punctuation.SEMICOLON ∷ [])
    (words_same c.dims c.words)
top_same (function f) =
    joined_same
    (joined_same
    (ap (λ ks. word keyword.FUNC ∷ kind.Name f.name ∷ enclosed true ks)
    (listed_same decl_text unpositioned_decl decl_same f.params))
    (grouped_same decl_text unpositioned_decl decl_same f.results))
    (ap
    (λ ks. symbol punctuation.EQUAL ∷ word keyword.BEGIN ∷ ks ++ word keyword.END ∷ symbol punctuation.SEMICOLON ∷ [])
    (joined_same (all_same local_text unpositioned_decl local_same f.locals) (items_same f.items)))
