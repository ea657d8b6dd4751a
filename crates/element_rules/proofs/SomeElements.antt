-- Declarations that are allowed have an element or more each, so they are no more than their elements.
use Rattle.std.proofs.Common.{◌≡◌, refl, arith, ℕ, ◌+◌, ◌++◌, length-append, ◌≤◌, ◌&&◌, Bool, true, false, List, []}
use Rattle.std.proofs.Common.{◌∷◌, length, slice_get, Some}
use Rattle.std.specs.Prelude.{nat_le}
use Rattle.std.specs.List.{list_all}
use Rattle.std.proofs.Math.Nat.{one-le-mul}
use Rattle.std.proofs.lemmas.Bool.{leb-true}
use Rattle.std.proofs.lemmas.List.Sums.{sum_by-cons, sum_by-append}
use Rattle.lists.proofs.Bools.{both_true}
use Rattle.silage_syntax.specs.declared.tree.Decl.{Decl}
use Rattle.silage_syntax.specs.Tree.{Func, Top, table, function, Program}
use Rattle.silage_syntax.specs.Names.{decls, element_count}
use Rattle.name_rules.specs.Meanings.{is_dim, are_dims, most_elements}
use Rattle.element_rules.specs.ElementRules.{elements_of}
use Rattle.element_rules.specs.Signatures.{HaveResults}
use Rattle.element_rules.specs.Sizes.{AreSized, HasResult}

pub dims_some : (dims : List ℕ) → list_all is_dim dims ≡ true → 1 ≤ element_count dims
dims_some [] e = omega arith
dims_some (dim ∷ dims) e =
    let here = both_true (is_dim dim) (list_all is_dim dims) e in
    one-le-mul (leb-true 1 dim (both_true (nat_le 1 dim) (nat_le dim most_elements) here.0).0) (dims_some dims here.1)

-- no more declarations than elements
pub no_more : (ds : List Decl) → AreSized ds → length ds ≤ elements_of ds
no_more [] sized = omega arith
no_more (d ∷ ds) sized =
    let here = both_true (are_dims d.dims) (list_all (λ (d : Decl). are_dims d.dims) ds) sized in
    let own =
    dims_some d.dims (both_true (list_all is_dim d.dims) (nat_le (element_count d.dims) most_elements) here.0).0 in
    let rest = no_more ds here.1 in
    let sum = sum_by-cons (λ (x : Decl). element_count x.dims) d ds in
    omega (arith, own, rest, sum)

-- a function with a result has an element
pub some_elements : (f : Func)
    → AreSized (decls f)
    → 1 ≤ length f.results
    → 1 ≤ elements_of f.params + (elements_of f.results + elements_of f.locals)
some_elements f sized some =
    let size : Decl → ℕ = λ d. element_count d.dims in
    let more = no_more (decls f) sized in
    let front = length-append f.params (f.results ++ f.locals) in
    let back = length-append f.results f.locals in
    let sum = sum_by-append size f.params (f.results ++ f.locals) in
    let rest = sum_by-append size f.results f.locals in
    omega (arith, more, front, back, sum, rest, some)

pub has_result : (p : Program) → HaveResults p → (k : ℕ) (t : Top) → slice_get p.tops k ≡ Some t → HasResult t
has_result p results k (table c) e = tt
has_result p results k (function f) e = results k f e
