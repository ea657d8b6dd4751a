-- Marks of elements that are read with a delay, one read after another.
use Rattle.std.proofs.Common.{◌≡◌, ℕ, ◌+◌, ◌<◌, ◌||◌, Bool, true, false, List, [], ◌∷◌, ◌++◌, length, get_or, take}
use Rattle.std.proofs.Common.{refl, sym, ap, subst, ◌∙◌, map, arith}
use Rattle.std.proofs.lemmas.List.{take_more, map-append}
use Rattle.signal_graph.specs.declared.flat.FlatExpr.{FlatExpr}
use Rattle.signal_graph.specs.declared.flat.FlatElem.{FlatElem}
use Rattle.signal_graph.specs.Flat.{Expr, Element, view_expr, view_elem, view_body}
use Rattle.signal_graph.specs.Expressions.{parts_of, view_exprs}
use Rattle.signal_graph.specs.GraphOf.{delays, parts_delay, body_delays, are_delayed}
use Rattle.flow_graph.specs.Private.Delayed.{Marks}
use mathlib.Core.Bool.{or-false}

or_assoc : (a b c : Bool) → ((a || b) || c) ≡ (a || (b || c))
or_assoc true b c = refl
or_assoc false b c = refl

pub marks_then : (old mid new : List Bool) (f g h : ℕ → Bool)
    → ((e : ℕ) → (f e || g e) ≡ h e)
    → Marks old f mid
    → Marks mid g new
    → Marks old h new
marks_then old mid new f g h both a b = record {
  size = b.size ∙ a.size;
  at = λ e within.
      b.at e (let s = a.size in omega arith) ∙ ap (λ x. x || g e) (a.at e within)
      ∙ or_assoc (get_or old e false) (f e) (g e)
      ∙ ap (λ x. get_or old e false || x) (both e);
}

pub marks_as : (old new : List Bool) (f g : ℕ → Bool) → ((e : ℕ) → f e ≡ g e) → Marks old f new → Marks old g new
marks_as old new f g same a =
    record { size = a.size; at = λ e within. a.at e within ∙ ap (λ x. get_or old e false || x) (same e) }

parts_delay_more : (e : ℕ) (xs : List Expr) (x : Expr)
    → (parts_delay e (parts_of xs) || delays e x) ≡ parts_delay e (parts_of (xs ++ x ∷ []))
parts_delay_more e [] x = sym (or-false (delays e x))
parts_delay_more e (y ∷ ys) x =
    or_assoc (delays e y) (parts_delay e (parts_of ys)) (delays e x)
    ∙ ap (λ b. delays e y || b) (parts_delay_more e ys x)

pub exprs_delay_more : (e : ℕ) (xs : List FlatExpr) (i : ℕ) (x : FlatExpr)
    → i < length xs
    → x ≡ get_or xs i x
    → (parts_delay e (view_exprs (take i xs)) || delays e (view_expr x)) ≡ parts_delay e (view_exprs (take (i + 1) xs))
exprs_delay_more e xs i x within is =
    parts_delay_more e (map view_expr (take i xs)) (view_expr x)
    ∙ ap (λ ys. parts_delay e (parts_of ys))
    (sym (ap (map view_expr) (take_more xs i x within ∙ ap (λ z. take i xs ++ z ∷ []) (sym is))
    ∙ map-append view_expr (take i xs) (x ∷ [])))

are_delayed_more : (e : ℕ) (xs : List Element) (x : Element)
    → (are_delayed e xs || body_delays e x.body) ≡ are_delayed e (xs ++ x ∷ [])
are_delayed_more e [] x = sym (or-false (body_delays e x.body))
are_delayed_more e (y ∷ ys) x =
    or_assoc (body_delays e y.body) (are_delayed e ys) (body_delays e x.body)
    ∙ ap (λ b. body_delays e y.body || b) (are_delayed_more e ys x)

pub elems_delay_more : (e : ℕ) (xs : List FlatElem) (i : ℕ) (x : FlatElem)
    → i < length xs
    → x ≡ get_or xs i x
    → (are_delayed e (map view_elem (take i xs)) || body_delays e (view_body x.body))
    ≡ are_delayed e (map view_elem (take (i + 1) xs))
elems_delay_more e xs i x within is =
    are_delayed_more e (map view_elem (take i xs)) (view_elem x)
    ∙ ap (are_delayed e)
    (sym (ap (map view_elem) (take_more xs i x within ∙ ap (λ z. take i xs ++ z ∷ []) (sym is))
    ∙ map-append view_elem (take i xs) (x ∷ [])))

pub marks_from : (old same new : List Bool) (f : ℕ → Bool) → old ≡ same → Marks old f new → Marks same f new
marks_from old same new f is = subst (λ (xs : List Bool). Marks xs f new) is
