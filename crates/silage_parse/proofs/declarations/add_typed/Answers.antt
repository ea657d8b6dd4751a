use Rattle.std.proofs.Common.{◌≡◌, ◌+◌, ◌++◌, ◌∷◌, [], map, length, List, ℕ, sym, ap, ◌∙◌, arith}
use Rattle.std.proofs.lemmas.List.{append_assoc, append-nil, nil_from_length}
use Rattle.fix_word.specs.declared.types.SigType.{SigType}
use Rattle.silage_syntax.specs.declared.tree.Decl.{Decl}
use Rattle.silage_syntax.specs.Grammar.{typed}
use Rattle.silage_parse.specs.declared.declarations.Declared.{Declared}
use Rattle.silage_parse.specs.Private.Parsed.{view_declared}
use Rattle.silage_parse.proofs.declarations.add_typed.Goals as goal

abbrev decls_of : SigType → List Declared → List Decl
decls_of ty ds = map (typed ty) (map view_declared ds)

one_more :
    (list : List Decl) {new all : List Decl} {items rest : List Declared} {ty : SigType} {d : Declared} {made : Decl}
    → items ≡ d ∷ rest
    → new ≡ list ++ made ∷ []
    → made ≡ typed ty (view_declared d)
    → list ++ decls_of ty items ≡ all
    → new ++ decls_of ty rest ≡ all
one_more list {new} {all} {items} {rest} {ty} {d} first grown is h =
    ap (λ x. x ++ decls_of ty rest) grown ∙ append_assoc list _ _ ∙ ap (λ x. list ++ x ∷ decls_of ty rest) is
    ∙ ap (λ x. list ++ decls_of ty x) (sym first) ∙ h

no_more : (list : List Decl) {all : List Decl} {items : List Declared} (ty : SigType)
    → items ≡ []
    → list ++ decls_of ty items ≡ all
    → list ≡ all
no_more list ty none h = sym (append-nil list) ∙ ap (λ x. list ++ decls_of ty x) (sym none) ∙ h

length_after : {items rest : List Declared} {d : Declared} {n m : ℕ}
    → items ≡ d ∷ rest
    → n + 1 ≡ m
    → m ≡ length items
    → n ≡ length rest
length_after first one h = let same = ap length first in omega arith

pub loop-declared-init : goal.loop-declared-init
loop-declared-init c =
    let g = c.into_iter-declared-iterator.ensures.into_iter_gives in (
      g.1 ∙ c.into_vec-declared-items.result.ok.0 ∙ ap length (sym g.0),
      ap (λ x. c.args.list.now ++ decls_of c.args.ty x) (g.0 ∙ c.into_vec-declared-items.ensures),
    )

pub loop-declared-preserved : goal.loop-declared-preserved
loop-declared-preserved c =
    let steps = c.in-Some.ensures.steps in
    let i = c.loop-declared.invariant in
    (length_after steps.0 steps.1 i.0, one_more _ steps.0 c.in_ok-push.ensures.ok c.typed.ensures i.1)

pub returns : goal.returns
returns c =
    let steps = c.in-None.ensures.steps in
    let i = c.loop-declared.invariant in
    no_more _ _ (nil_from_length _ (sym i.0 ∙ steps.0)) i.1
