-- A program has no more tables and functions than tokens, so that each source of a program meets what
-- `check_names` asks.
use Rattle.std.proofs.Common.{arith, ℕ, ◌+◌, ◌≤◌, List, length}
use Rattle.fix_word.specs.declared.types.SigType.{SigType}
use Rattle.silage_lex.specs.declared.Token.{Token}
use Rattle.silage_syntax.specs.declared.tree.Decl.{Decl}
use Rattle.silage_syntax.specs.declared.tree.Lit.{Lit}
use Rattle.silage_syntax.specs.Grammar as g
use Rattle.silage_syntax.specs.Grammar.{Declared, IsSigned, IsList, IsDims, IsType, IsDeclared, IsDecl, IsLocals}
use Rattle.silage_syntax.specs.Grammar.{IsResults, IsWords, IsTop, IsTops, Role, Derives}
use Rattle.silage_syntax.specs.Tree.{Top, Program}
use Rattle.silage_syntax.proofs.Rising.{fix_rises, items_rise}

module _ (ts : List Token) where
  list_rises : {A : Type 0} (One : ℕ → A → ℕ → Type 0)
      → ((i : ℕ) (x : A) (j : ℕ) → One i x j → i ≤ j)
      → (i : ℕ) (xs : List A) (j : ℕ)
      → IsList ts A One i xs j
      → i ≤ j
  list_rises One rises i xs j (g.last a) = rises _ _ _ a
  list_rises One rises i xs j (g.more a b rest) = omega (arith, rises _ _ _ a, list_rises One rises _ _ _ rest)

  dims_rise : (i : ℕ) (ds : List ℕ) (j : ℕ) → IsDims ts i ds j → i ≤ j
  dims_rise i ds j g.scalar = omega arith
  dims_rise i ds j (g.vector a b c) = omega arith
  dims_rise i ds j (g.matrix a b c d e h) = omega arith

  type_rises : (i : ℕ) (ty : SigType) (j : ℕ) → IsType ts i ty j → i ≤ j
  type_rises i ty j (g.fix a) = fix_rises ts _ _ _ a
  type_rises i ty j (g.bool a) = omega arith

  declared_rises : (i : ℕ) (d : Declared) (j : ℕ) → IsDeclared ts i d j → i ≤ j
  declared_rises i d j (g.declared a b) = omega (arith, dims_rise _ _ _ b)

  decl_rises : (i : ℕ) (d : Decl) (j : ℕ) → IsDecl ts i d j → i ≤ j
  decl_rises i d j (g.decl a b c) = omega (arith, declared_rises _ _ _ a, type_rises _ _ _ c)

  signed_rises : (i : ℕ) (l : Lit) (j : ℕ) → IsSigned ts i l j → i ≤ j
  signed_rises i l j (g.positive a) = omega arith
  signed_rises i l j (g.negative a b) = omega arith

  locals_rise : (i : ℕ) (ds : List Decl) (j : ℕ) → IsLocals ts i ds j → i ≤ j
  locals_rise i ds j g.no_locals = omega arith
  locals_rise i ds j (g.some_locals a b c d e rest) =
      omega (arith, list_rises (IsDeclared ts) declared_rises _ _ _ b, type_rises _ _ _ d, locals_rise _ _ _ rest)

  results_rise : (i : ℕ) (ds : List Decl) (j : ℕ) → IsResults ts i ds j → i ≤ j
  results_rise i ds j (g.one_result a) = decl_rises _ _ _ a
  results_rise i ds j (g.results a b c) = omega (arith, list_rises (IsDecl ts) decl_rises _ _ _ b)

  words_rise : (i : ℕ) (ls : List Lit) (j : ℕ) → IsWords ts i ls j → i ≤ j
  words_rise i ls j (g.one_word a) = signed_rises _ _ _ a
  words_rise i ls j (g.words a b c) = omega (arith, list_rises (IsSigned ts) signed_rises _ _ _ b)

  top_rises : (i : ℕ) (t : Top) (rs : List Role) (j : ℕ) → IsTop ts i t rs j → i + 1 ≤ j
  top_rises i t rs j (g.is_table a b c d e h k) =
      omega (arith, declared_rises _ _ _ b, fix_rises ts _ _ _ d, words_rise _ _ _ h)
  top_rises i t rs j (g.is_function a b c d e h k l m n o p) =
      omega (
        arith,
        list_rises (IsDecl ts) decl_rises _ _ _ d,
        results_rise _ _ _ h,
        locals_rise _ _ _ m,
        items_rise ts _ _ _ _ n,
      )

  tops_rise : (i : ℕ) (tops : List Top) (rs : List Role) (j : ℕ) → IsTops ts i tops rs j → i + length tops ≤ j
  tops_rise i tops rs j g.no_tops = omega arith
  tops_rise i tops rs j (g.one_top a rest) = omega (arith, top_rises _ _ _ _ a, tops_rise _ _ _ _ rest)

  pub few_tops : (program : Program) → Derives ts program → length program.tops ≤ length ts
  few_tops program (roles, h) = omega (arith, tops_rise 0 program.tops roles (length ts) h)
