-- The text of a definition begins with `func` or `const`, and has neither of them further on.
use Rattle.std.proofs.Common.{◌≡◌, ℕ, Bool, true, false, ◌||◌, nat_eq, List, [], ◌∷◌, Option, Some, None, refl, arith}
use Rattle.std.specs.Prelude.{if◌then◌else◌}
use Rattle.std.specs.List.{flat_map}
use Rattle.fix_word.specs.declared.types.FixType.{FixType}
use Rattle.fix_word.specs.declared.types.Mode.{Mode}
use Rattle.fix_word.specs.declared.types.Mode.TheVariants.{Trunc, Round, Sat, RoundSat}
use Rattle.fix_word.specs.declared.types.SigType.{SigType}
use Rattle.fix_word.specs.declared.types.SigType.TheVariants.{Fix, Bool as Truths}
use Rattle.silage_lex.specs.declared.TokenKind.{TokenKind}
use Rattle.silage_lex.specs.declared.TokenKind.TheVariants as kind
use Rattle.silage_lex.specs.declared.keywords.TheConstants as keyword
use Rattle.silage_syntax.specs.declared.tree.Lit.{Lit}
use Rattle.silage_syntax.specs.declared.tree.Lit.TheVariants.{Number, Truth}
use Rattle.silage_syntax.specs.declared.tree.Decl.{Decl}
use Rattle.silage_syntax.specs.Tree.{Manifest, whole, counter, minus, both, Place, Expr, literal, read, negate, not}
use Rattle.silage_syntax.specs.Tree.{binary, shift, cast, choose, Branches, no_branch, branch, Item, equation, call}
use Rattle.silage_syntax.specs.Tree.{loop, initial, Items, no_item, item, Top, table, function}
use Rattle.silage_print.specs.Text.{word, enclosed, listed, after_comma, bracketed, subscript_text, truth_word}
use Rattle.silage_print.specs.Text.{lit_text, mode_text, fix_text, type_text, dims_text, decl_text, manifest_text}
use Rattle.silage_print.specs.Text.{place_text, delay_text, expr_text, branches_text, clause_text, call_text}
use Rattle.silage_print.specs.Text.{turns_text, items_text, local_text, top_text}
use Rattle.silage_print.proofs.KindsAt.{Each, no_kind, one_kind, joined}
use Rattle.silage_print.proofs.Weights.{total}
use Rattle.silage_print.proofs.TopWeights.{IsQuiet}

abbrev pub is_head : TokenKind → Bool
is_head (kind.Reserved n) = nat_eq n keyword.FUNC || nat_eq n keyword.CONST
is_head _ = false

-- `func` and `const` count one, other tokens nothing
abbrev pub heads : TokenKind → ℕ
heads k = if is_head k then 1 else 0

truth_quiet : (b : Bool) → heads (word (truth_word b)) ≡ 0
truth_quiet true = refl
truth_quiet false = refl

pub heads_quiet : IsQuiet heads
heads_quiet = record {
  free = record { whole = λ n. refl; point = λ d p. refl; truth = truth_quiet; trunc = refl; comma = refl };
  round = refl;
  sat = refl;
  name = λ n. refl;
  opens = refl;
  closes = refl;
  colon = refl;
  less = refl;
  greater = refl;
  semicolon = refl;
  fixed = refl;
  truths = refl;
  var = refl;
}

-- the token is no head
abbrev IsInner : TokenKind → Type 0
IsInner k = heads k ≡ 0

no_heads : {ks : List TokenKind} → Each IsInner ks → total heads ks ≡ 0
no_heads no_kind = refl
no_heads (one_kind h hs) = let rest = no_heads hs in omega (arith, h, rest)

around : (b : Bool) {xs : List TokenKind} → Each IsInner xs → Each IsInner (enclosed b xs)
around true h = one_kind refl (joined h (one_kind refl no_kind))
around false h = joined h no_kind

module _ {A : Type 0} (text : A → List TokenKind) (each : (x : A) → Each IsInner (text x)) where
  in_all : (xs : List A) → Each IsInner (flat_map text xs)
  in_all [] = no_kind
  in_all (x ∷ xs) = joined (each x) (in_all xs)

  in_others : (xs : List A) → Each IsInner (flat_map (after_comma text) xs)
  in_others [] = no_kind
  in_others (x ∷ xs) = one_kind refl (joined (each x) (in_others xs))

  in_list : (xs : List A) → Each IsInner (listed text xs)
  in_list [] = no_kind
  in_list (x ∷ xs) = joined (each x) (in_others xs)

in_number : (b : Bool) (d p : ℕ) → IsInner (if b then kind.Whole d else kind.Point d p)
in_number true d p = refl
in_number false d p = refl

in_literal : (l : Lit) → Each IsInner (lit_text l)
in_literal (Number true d p at) = one_kind refl (one_kind (in_number (nat_eq p 0) d p) no_kind)
in_literal (Number false d p at) = one_kind (in_number (nat_eq p 0) d p) no_kind
in_literal (Truth b at) = one_kind (truth_quiet b) no_kind

in_bracketed : {ks : List TokenKind} → Each IsInner ks → Each IsInner (bracketed ks)
in_bracketed h = one_kind refl (joined h (one_kind refl no_kind))

in_mode : (m : Mode) → Each IsInner (mode_text m)
in_mode Trunc = one_kind refl no_kind
in_mode Round = one_kind refl no_kind
in_mode Sat = one_kind refl no_kind
in_mode RoundSat = one_kind refl (one_kind refl (one_kind refl no_kind))

in_fix : (ty : FixType) → Each IsInner (fix_text ty)
in_fix ty =
    one_kind refl
    (one_kind refl
    (one_kind refl
    (one_kind refl (one_kind refl (one_kind refl (joined (in_mode ty.mode) (one_kind refl no_kind)))))))

in_type : (ty : SigType) → Each IsInner (type_text ty)
in_type (Fix ty) = in_fix ty
in_type Truths = one_kind refl no_kind

in_dims : (dims : List ℕ) → Each IsInner (dims_text dims)
in_dims dims = in_all (λ n. bracketed (kind.Whole n ∷ [])) (λ n. in_bracketed (one_kind refl no_kind)) dims

in_decl : (d : Decl) → Each IsInner (decl_text d)
in_decl d = joined (one_kind refl (in_dims d.dims)) (one_kind refl (in_type d.ty))

in_local : (d : Decl) → Each IsInner (local_text d)
in_local d = joined (one_kind refl (in_decl d)) (one_kind refl no_kind)

in_manifest : (m : Manifest) → Each IsInner (manifest_text m)
in_manifest (whole n at) = one_kind refl no_kind
in_manifest (counter name at) = one_kind refl no_kind
in_manifest (minus at m) = one_kind refl (around _ (in_manifest m))
in_manifest (both at o a b) = joined (around _ (in_manifest a)) (one_kind refl (around _ (in_manifest b)))

in_place : (p : Place) → Each IsInner (place_text p)
in_place p = one_kind refl (in_all subscript_text (λ m. in_bracketed (in_manifest m)) p.subs)

in_delay : (d : Option Manifest) → Each IsInner (delay_text d)
in_delay None = no_kind
in_delay (Some m) = one_kind refl (around _ (in_manifest m))

mutual
  in_expr : (e : Expr) → Each IsInner (expr_text e)
  in_expr (literal l) = in_literal l
  in_expr (read p d) = joined (in_place p) (in_delay d)
  in_expr (negate at e) = one_kind refl (around _ (in_expr e))
  in_expr (not at e) = one_kind refl (around _ (in_expr e))
  in_expr (binary at o a b) = joined (around _ (in_expr a)) (one_kind refl (around _ (in_expr b)))
  in_expr (shift at left e m) = joined (around _ (in_expr e)) (one_kind refl (around _ (in_manifest m)))
  in_expr (cast at ty e) = joined (in_fix ty) (around true (in_expr e))
  in_expr (choose at bs last) = one_kind refl (joined (joined (in_branches bs) (in_expr last)) (one_kind refl no_kind))

  in_branches : (bs : Branches) → Each IsInner (branches_text bs)
  in_branches no_branch = no_kind
  in_branches (branch c v bs) = joined (joined (in_expr c) (one_kind refl (in_expr v))) (one_kind refl (in_branches bs))

in_call : (f : List ℕ) (es : List Expr) → Each IsInner (call_text f es)
in_call f es = one_kind refl (one_kind refl (joined (in_list expr_text in_expr es) (one_kind refl no_kind)))

in_turns : (index : List ℕ) (lo hi : Manifest) → Each IsInner (turns_text index lo hi)
in_turns index lo hi =
    one_kind refl
    (one_kind refl
    (one_kind refl (joined (joined (in_manifest lo) (one_kind refl (in_manifest hi))) (one_kind refl no_kind))))

mutual
  in_clause : (x : Item) → Each IsInner (clause_text x)
  in_clause (equation p e) = joined (in_place p) (one_kind refl (in_expr e))
  in_clause (call ps f es at) = joined (around _ (in_list place_text in_place ps)) (one_kind refl (in_call f es))
  in_clause (loop index lo hi xs at) =
      joined (joined (in_turns index lo hi) (one_kind refl (one_kind refl (in_items xs)))) (one_kind refl no_kind)
  in_clause (initial p k l) =
      joined (joined (in_place p) (one_kind refl (around _ (in_manifest k)))) (one_kind refl (in_literal l))

  in_items : (xs : Items) → Each IsInner (items_text xs)
  in_items no_item = no_kind
  in_items (item x xs) = joined (in_clause x) (one_kind refl (in_items xs))

-- tokens of which the first is a head, and no other
pub record IsHeaded (ks : List TokenKind) : Type 0 where
  pub first : TokenKind
  pub rest : List TokenKind
  pub is : ks ≡ first ∷ rest
  pub head : heads first ≡ 1
  pub one : total heads ks ≡ 1

headed : (k : TokenKind) {ks : List TokenKind} → heads k ≡ 1 → Each IsInner ks → IsHeaded (k ∷ ks)
headed k {ks} h n =
    record { first = k; rest = ks; is = refl; head = h; one = let rest = no_heads n in omega (arith, h, rest) }

pub top_headed : (t : Top) → IsHeaded (top_text t)
top_headed (table c) =
    headed (word keyword.CONST) refl
    (joined (joined (joined (one_kind refl (in_dims c.dims)) (one_kind refl (in_fix c.ty)))
    (one_kind refl (around _ (in_list lit_text in_literal c.words))))
    (one_kind refl no_kind))
top_headed (function f) =
    headed (word keyword.FUNC) refl
    (joined (joined (one_kind refl (around true (in_list decl_text in_decl f.params)))
    (around _ (in_list decl_text in_decl f.results)))
    (one_kind refl
    (one_kind refl
    (joined (joined (in_all local_text in_local f.locals) (in_items f.items))
    (one_kind refl (one_kind refl no_kind))))))
