-- What the checks say of an item at a site of the program.
use Rattle.std.proofs.Common.{◌≡◌, refl, sym, subst, ℕ, zero, suc, List, [], ◌∷◌, slice_get, codes, Some, inl, inr}
use Rattle.std.proofs.Common.{Result, Ok, Err}
use Rattle.lists.proofs.Places.{some_once}
use Rattle.fault_order.specs.Ranked.{IsClear}
use Rattle.fault_order.specs.Rules.{Rules, RuleRow, ◌▸◌, each, faults}
use Rattle.fault_order.specs.Private.FirstMet.{first, first_in}
use Rattle.fault_order.proofs.FirstFaults.{Answers}
use Rattle.fault_order.proofs.TableFaults.{then_parts, first_answers}
use Rattle.silage_syntax.specs.declared.tree.Decl.{Decl}
use Rattle.silage_syntax.specs.Tree.{Place, Expr, Item, equation, call, loop, initial, Items, no_item, item, Func, Top}
use Rattle.silage_syntax.specs.Tree.{function, Program}
use Rattle.silage_syntax.specs.Manifests.{Indices}
use Rattle.silage_meaning.specs.Instances.{Instance, Occurs, OccursIn, IsInstance, main_is, inside_is, Site, IsItemAt}
use Rattle.silage_meaning.specs.Types.{name_type}
use Rattle.name_rules.specs.NameFaults.{name_faults}
use Rattle.name_rules.specs.TopNames.{position_of}
use Rattle.element_rules.proofs.NamedTops.{top_named}
use Rattle.element_rules.proofs.SoundNames.{names_apart}
use Rattle.type_rules.specs.Boundary.{HasItem, HasItemIn}
use Rattle.type_rules.specs.TypeFaults.{type_faults}
use Rattle.type_rules.specs.TypeRules.{name_rules, expr_rules, argument_rules, place_rules, item_rules, items_rules}
use Rattle.type_rules.specs.TypeRules.{top_rules, type_rules}
use Rattle.type_rules.specs.declared.fault.TypeFault.{TypeFault}
use Rattle.type_rules.proofs.Literals.{Passes}

mutual
  -- an item that occurs is one of the items, or is inside a loop there
  pub has_item : (xs : Items) (outer : Indices) (y : Item) (indices : Indices)
      → Occurs xs outer y indices
      → HasItem xs y
  has_item no_item outer y indices h = absurd h
  has_item (item x rest) outer y indices (inl h) = inl (has_inside x outer y indices h)
  has_item (item x rest) outer y indices (inr h) = inr (has_item rest outer y indices h)

  has_inside : (x : Item) (outer : Indices) (y : Item) (indices : Indices) → OccursIn x outer y indices → HasItemIn x y
  has_inside (equation place e) outer y indices h = h.0
  has_inside (call places name args at) outer y indices h = h.0
  has_inside (loop index lo hi items at) outer y indices (turn, is, h) = has_item items _ y indices h
  has_inside (initial place k l) outer y indices h = h.0

abbrev PassesRow : RuleRow TypeFault → Type 0
PassesRow row = first_in row ≡ Ok tt

pub head_passes : (x : Rules TypeFault) (row : RuleRow TypeFault) → PassesRow (x ▸ row) → Passes x
head_passes x row h = (then_parts (first x) (first_in row) h).0

pub tail_passes : (x : Rules TypeFault) (row : RuleRow TypeFault) → PassesRow (x ▸ row) → PassesRow row
tail_passes x row h = (then_parts (first x) (first_in row) h).1

pub each_passes : {A : Type 0} (G : A → Rules TypeFault) (xs : List A)
    → PassesRow (each G xs)
    → (k : ℕ) (x : A)
    → slice_get xs k ≡ Some x
    → Passes (G x)
each_passes G [] h k x e = absurd (cc)
each_passes G (y ∷ xs) h zero x e = subst (λ z. Passes (G z)) (some_once refl e) (head_passes (G y) (each G xs) h)
each_passes G (y ∷ xs) h (suc k) x e = each_passes G xs (tail_passes (G y) (each G xs) h) k x e

clear_passes : (x : Rules TypeFault) → IsClear (faults x) → Passes x
clear_passes x c = by (first x) (first_answers x)
  where
    by : (r : Result (Unit {0}) TypeFault) → Answers (faults x) r → r ≡ Ok tt
    by (Ok u) a = refl
    by (Err e) i = absurd (c i.rank e i.here)

-- In a function, an item, an argument and a place of a call pass where all pass.
module _ (p : Program) (f : Func) where
  mutual
    pub item_passes : (xs : Items) (y : Item)
        → HasItem xs y
        → PassesRow (items_rules p f xs)
        → Passes (item_rules p f y)
    item_passes no_item y has h = absurd has
    item_passes (item x rest) y (inl has) h =
        inside_passes x y has (head_passes (item_rules p f x) (items_rules p f rest) h)
    item_passes (item x rest) y (inr has) h =
        item_passes rest y has (tail_passes (item_rules p f x) (items_rules p f rest) h)

    inside_passes : (x y : Item) → HasItemIn x y → Passes (item_rules p f x) → Passes (item_rules p f y)
    inside_passes (equation place e) y has h = subst (λ z. Passes (item_rules p f z)) (sym has) h
    inside_passes (call places name args at) y has h = subst (λ z. Passes (item_rules p f z)) (sym has) h
    inside_passes (loop index lo hi items at) y has h = item_passes items y has h
    inside_passes (initial place k value) y has h = subst (λ z. Passes (item_rules p f z)) (sym has) h

  pub argument_passes : (params : List Decl) (args : List Expr)
      → PassesRow (argument_rules p f params args)
      → (k : ℕ) (d : Decl) (x : Expr)
      → slice_get params k ≡ Some d
      → slice_get args k ≡ Some x
      → Passes (expr_rules p f x d.ty)
  argument_passes [] args h k d x e g = absurd (cc)
  argument_passes (c ∷ ds) [] h k d x e g = absurd (cc)
  argument_passes (c ∷ ds) (y ∷ ys) h zero d x e g =
      subst (λ (a : Decl). Passes (expr_rules p f x a.ty)) (some_once refl e)
      (subst (λ (z : Expr). Passes (expr_rules p f z c.ty)) (some_once refl g)
      (head_passes (expr_rules p f y c.ty) (argument_rules p f ds ys) h))
  argument_passes (c ∷ ds) (y ∷ ys) h (suc k) d x e g =
      argument_passes ds ys (tail_passes (expr_rules p f y c.ty) (argument_rules p f ds ys) h) k d x e g

  -- the rules of a place that takes a result of this declaration
  abbrev pub taking : Decl → Place → Rules TypeFault
  taking d place = name_rules (name_type p f place.name) d.ty place.at

  pub place_passes : (results : List Decl) (places : List Place)
      → PassesRow (place_rules p f results places)
      → (k : ℕ) (d : Decl) (q : Place)
      → slice_get results k ≡ Some d
      → slice_get places k ≡ Some q
      → Passes (taking d q)
  place_passes [] places h k d q e g = absurd (cc)
  place_passes (c ∷ ds) [] h k d q e g = absurd (cc)
  place_passes (c ∷ ds) (r ∷ rs) h zero d q e g =
      subst (λ (a : Decl). Passes (taking a q)) (some_once refl e)
      (subst (λ (z : Place). Passes (taking c z)) (some_once refl g)
      (head_passes (taking c r) (place_rules p f ds rs) h))
  place_passes (c ∷ ds) (r ∷ rs) h (suc k) d q e g =
      place_passes ds rs (tail_passes (taking c r) (place_rules p f ds rs) h) k d q e g

-- the function of an instance, among the tables and functions
pub record IsTop (p : Program) (f : Func) : Type 0 where
  pub position : ℕ
  pub there : slice_get p.tops position ≡ Some (function f)

module _ (p : Program) (names : IsClear (name_faults p)) where
  pub instance_top : (i : Instance) (f : Func) → IsInstance p i f → IsTop p f
  instance_top i f (main_is e) =
      record { position = position_of p (codes "main"); there = top_named p (codes "main") f (names_apart p names) e }
  instance_top i f (inside_is at calls) =
      record { position = position_of p calls.name; there = top_named p calls.name f (names_apart p names) calls.named }

  module _ (types : IsClear (type_faults p)) where
    pub all_pass : Passes (type_rules p)
    all_pass = clear_passes (type_rules p) types

    pub top_passes : (k : ℕ) (t : Top) → slice_get p.tops k ≡ Some t → Passes (top_rules p t)
    top_passes k t e = each_passes (top_rules p) p.tops all_pass k t e

    -- an item at a site passes
    pub site_passes : (s : Site) (y : Item) → IsItemAt p s y → Passes (item_rules p s.function y)
    site_passes s y at =
        let top = instance_top s.instance s.function at.instance in
        item_passes p s.function s.function.items y (has_item s.function.items [] y s.indices at.occurs)
        (top_passes top.position (function s.function) top.there)
