-- Where tables and functions have different names, the first top with a name is the only one.
use Rattle.std.proofs.Common.{◌≡◌, ◌≢◌, ◌∙◌, ℕ, suc, List, [], ◌∷◌, Option, Some, None, Bool, true, false, cond, map}
use Rattle.std.proofs.Common.{find, filter_map, slice_get, refl, sym, ap, arith, bytes_eq}
use Rattle.std.proofs.lemmas.Slice.Eq.{bytes_eq-Decides}
use Rattle.silage_syntax.specs.declared.tree.ConstDef.{ConstDef}
use Rattle.silage_syntax.specs.Tree.{Func, Top, table, function, Program}
use Rattle.silage_syntax.specs.Names.{as_table, as_function, table_named, function_named}
use Rattle.name_rules.specs.TopNames.{top_name, top_names}
use Rattle.name_rules.specs.FirstTops.{IsDistinct}

abbrev named : List ℕ → List Top → Option Top
named name ts = find (λ t. bytes_eq (top_name t) name) ts

none_named : (ts : List Top) (name : List ℕ)
    → ((j : ℕ) → slice_get (map top_name ts) j ≢ Some name)
    → named name ts ≡ None
none_named [] name h = refl
none_named (t ∷ ts) name h = by (bytes_eq (top_name t) name) refl (none_named ts name (λ j. h (suc j)))
  where
    by : (b : Bool) → bytes_eq (top_name t) name ≡ b → named name ts ≡ None → cond b (Some t) (named name ts) ≡ None
    by true e other = absurd (h 0 (ap Some ((bytes_eq-Decides (top_name t) name).0 e)))
    by false e other = other

-- of different names the first stands nowhere behind, and those behind are different
module _ (name : List ℕ) (names : List (List ℕ)) (apart : IsDistinct (name ∷ names)) where
  not_behind : (j : ℕ) → slice_get names j ≢ Some name
  not_behind j e = apart (suc j) (record { name = name; here = e; earlier = 0; before = omega arith; there = refl })

  rest_apart : IsDistinct names
  rest_apart k d =
      apart (suc k)
      (record {
        name = d.name;
        here = d.here;
        earlier = suc d.earlier;
        before = let b = d.before in omega arith;
        there = d.there;
      })

-- where the first top has the name, no other has it
alone : (t : Top) (ts : List Top) (name : List ℕ)
    → IsDistinct (map top_name (t ∷ ts))
    → bytes_eq (top_name t) name ≡ true
    → named name ts ≡ None
alone t ts name apart e =
    let same : top_name t ≡ name = (bytes_eq-Decides (top_name t) name).0 e in
    rw (← same) (none_named ts (top_name t) (not_behind (top_name t) (map top_name ts) apart))

abbrev function_in : Option Top → Option Func
function_in None = None
function_in (Some t) = as_function t

abbrev table_in : Option Top → Option ConstDef
table_in None = None
table_in (Some t) = as_table t

function_among : (ts : List Top) (name : List ℕ)
    → IsDistinct (map top_name ts)
    → find (λ (f : Func). bytes_eq f.name name) (filter_map as_function ts) ≡ function_in (named name ts)
function_among [] name apart = refl
function_among (table c ∷ ts) name apart =
    by (bytes_eq c.name name) refl (function_among ts name (rest_apart c.name (map top_name ts) apart))
  where
    by : (b : Bool)
        → bytes_eq c.name name ≡ b
        → find (λ (f : Func). bytes_eq f.name name) (filter_map as_function ts) ≡ function_in (named name ts)
        → find (λ (f : Func). bytes_eq f.name name) (filter_map as_function ts)
        ≡ function_in (cond b (Some (table c)) (named name ts))
    by true e same = same ∙ ap function_in (alone (table c) ts name apart e)
    by false e same = same
function_among (function g ∷ ts) name apart =
    by (bytes_eq g.name name) (function_among ts name (rest_apart g.name (map top_name ts) apart))
  where
    by : (b : Bool)
        → find (λ (f : Func). bytes_eq f.name name) (filter_map as_function ts) ≡ function_in (named name ts)
        → cond b (Some g) (find (λ (f : Func). bytes_eq f.name name) (filter_map as_function ts))
        ≡ function_in (cond b (Some (function g)) (named name ts))
    by true same = refl
    by false same = same

table_among : (ts : List Top) (name : List ℕ)
    → IsDistinct (map top_name ts)
    → find (λ (c : ConstDef). bytes_eq c.name name) (filter_map as_table ts) ≡ table_in (named name ts)
table_among [] name apart = refl
table_among (function g ∷ ts) name apart =
    by (bytes_eq g.name name) refl (table_among ts name (rest_apart g.name (map top_name ts) apart))
  where
    by : (b : Bool)
        → bytes_eq g.name name ≡ b
        → find (λ (c : ConstDef). bytes_eq c.name name) (filter_map as_table ts) ≡ table_in (named name ts)
        → find (λ (c : ConstDef). bytes_eq c.name name) (filter_map as_table ts)
        ≡ table_in (cond b (Some (function g)) (named name ts))
    by true e same = same ∙ ap table_in (alone (function g) ts name apart e)
    by false e same = same
table_among (table c ∷ ts) name apart =
    by (bytes_eq c.name name) (table_among ts name (rest_apart c.name (map top_name ts) apart))
  where
    by : (b : Bool)
        → find (λ (d : ConstDef). bytes_eq d.name name) (filter_map as_table ts) ≡ table_in (named name ts)
        → cond b (Some c) (find (λ (d : ConstDef). bytes_eq d.name name) (filter_map as_table ts))
        ≡ table_in (cond b (Some (table c)) (named name ts))
    by true same = refl
    by false same = same

-- the function, and the table, of a name is the first top that has it, if that is one
pub function_is : (p : Program) (name : List ℕ) (o : Option Top)
    → IsDistinct (top_names p)
    → o ≡ find (λ t. bytes_eq (top_name t) name) p.tops
    → function_named p name ≡ function_in o
function_is p name o apart e = function_among p.tops name apart ∙ ap function_in (sym e)

pub table_is : (p : Program) (name : List ℕ) (o : Option Top)
    → IsDistinct (top_names p)
    → o ≡ find (λ t. bytes_eq (top_name t) name) p.tops
    → table_named p name ≡ table_in o
table_is p name o apart e = table_among p.tops name apart ∙ ap table_in (sym e)
