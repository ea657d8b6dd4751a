-- A program without a fault of types keeps its values.
use Rattle.std.proofs.Common.{◌≡◌, ◌∙◌, refl, sym, ap, subst, ℕ, zero, suc, List, [], ◌∷◌, slice_get, Option, Some, Ok}
use Rattle.std.proofs.Common.{inl, inr, ℤ}
use Rattle.std.specs.Prelude.{◌↔◌, bytes_eq}
use Rattle.std.proofs.lemmas.Option.{slice_get-get_or, get_or_from_slice_get, slice_get_within}
use Rattle.lists.proofs.Places.{some_once}
use Rattle.fault_order.specs.Ranked.{IsClear}
use Rattle.fault_order.specs.Rules.{Rules, RuleRow, parts, none, ◌▸◌, each}
use Rattle.fault_order.specs.Private.FirstMet.{first, first_in}
use Rattle.fault_order.proofs.TableFaults.{then_parts}
use Rattle.fix_word.specs.declared.types.SigType.{SigType}
use Rattle.fix_word.specs.declared.types.SigType.TheVariants.{Fix}
use Rattle.silage_syntax.specs.declared.tree.ConstDef.{ConstDef}
use Rattle.silage_syntax.specs.declared.tree.Decl.{Decl}
use Rattle.silage_syntax.specs.declared.tree.Lit.{Lit}
use Rattle.silage_syntax.specs.Tree.{Expr, Item, equation, call, loop, initial, Items, no_item, item, Func, Top, table}
use Rattle.silage_syntax.specs.Tree.{function, Program}
use Rattle.silage_meaning.specs.Instances.{Site}
use Rattle.silage_meaning.specs.Value.{Words, IsValue}
use Rattle.name_rules.specs.NameFaults.{name_faults}
use Rattle.type_rules.specs.Boundary.{HasItem, HasItemIn, IsExpression, right_side, argument, KeepsValues}
use Rattle.type_rules.specs.Numbers.{AreNumbersShort, IsTopShort}
use Rattle.type_rules.specs.TypeRules.{literal_rules, expr_rules, against, argument_rules, place_rules, call_rules}
use Rattle.type_rules.specs.TypeRules.{item_rules, items_rules, top_rules, type_rules}
use Rattle.type_rules.specs.TypedValue.{HasTypedValue}
use Rattle.type_rules.specs.Translation.{typed_expr}
use Rattle.type_rules.specs.declared.fault.TypeFault.{TypeFault}
use Rattle.type_rules.specs.Private.Sound.{IsSoundType, IsSound, IsSoundItem, AreSoundItems, HasSoundTypes}
use Rattle.type_rules.proofs.Literals.{Passes}
use Rattle.type_rules.proofs.SameValues.{HasGoodTables, same_values}
use Rattle.type_rules.proofs.SoundNames.{table_found, top_sound}

abbrev PassesRow : RuleRow TypeFault → Type 0
PassesRow row = first_in row ≡ Ok tt

head_passes : (x : Rules TypeFault) (row : RuleRow TypeFault) → PassesRow (x ▸ row) → Passes x
head_passes x row h = (then_parts (first x) (first_in row) h).0

tail_passes : (x : Rules TypeFault) (row : RuleRow TypeFault) → PassesRow (x ▸ row) → PassesRow row
tail_passes x row h = (then_parts (first x) (first_in row) h).1

each_passes : {A : Type 0} (G : A → Rules TypeFault) (xs : List A)
    → PassesRow (each G xs)
    → (k : ℕ) (x : A)
    → slice_get xs k ≡ Some x
    → Passes (G x)
each_passes G [] h k x e = absurd (cc)
each_passes G (y ∷ xs) h zero x e = subst (λ z. Passes (G z)) (some_once refl e) (head_passes (G y) (each G xs) h)
each_passes G (y ∷ xs) h (suc k) x e = each_passes G xs (tail_passes (G y) (each G xs) h) k x e

module _ (p : Program) (f : Func) where
  -- an item that passes, with sound numbers and types
  abbrev Good : Item → Type 0
  Good x = Passes (item_rules p f x) × IsSoundItem x

  mutual
    good_item : (xs : Items) (y : Item) → HasItem xs y → PassesRow (items_rules p f xs) → AreSoundItems xs → Good y
    good_item no_item y has h s = absurd has
    good_item (item x rest) y (inl has) h s =
        good_inside x y has (head_passes (item_rules p f x) (items_rules p f rest) h) s.0
    good_item (item x rest) y (inr has) h s =
        good_item rest y has (tail_passes (item_rules p f x) (items_rules p f rest) h) s.1

    good_inside : (x y : Item) → HasItemIn x y → Passes (item_rules p f x) → IsSoundItem x → Good y
    good_inside (equation place e) y has h s = subst Good (sym has) (h, s)
    good_inside (call places name args at) y has h s = subst Good (sym has) (h, s)
    good_inside (loop index lo hi items at) y has h s = good_item items y has h s
    good_inside (initial place k value) y has h s = subst Good (sym has) (h, s)

  argument_passes : (params : List Decl) (args : List Expr)
      → PassesRow (argument_rules p f params args)
      → (k : ℕ) (d : Decl) (x : Expr)
      → slice_get params k ≡ Some d
      → slice_get args k ≡ Some x
      → Passes (expr_rules p f x d.ty)
  argument_passes [] args h k d x e g = absurd (cc)
  argument_passes (c ∷ ds) [] h k d x e g = absurd (cc)
  argument_passes (c ∷ ds) (y ∷ ys) h zero d x e g =
      subst (λ (a : Decl). Passes (expr_rules p f x a.ty)) (some_once refl e)
      (subst (λ (z : Expr). Passes (expr_rules p f z c.ty)) (some_once refl g)
      (head_passes (expr_rules p f y c.ty) (argument_rules p f ds ys) h))
  argument_passes (c ∷ ds) (y ∷ ys) h (suc k) d x e g =
      argument_passes ds ys (tail_passes (expr_rules p f y c.ty) (argument_rules p f ds ys) h) k d x e g

  -- an expression of a function that passes
  record IsGood (x : Expr) (ty : SigType) : Type 0 where
    pub sound : IsSound x
    pub type_ : IsSoundType ty
    pub passes : Passes (expr_rules p f x ty)

  module _ (types : HasSoundTypes p f) (items : PassesRow (items_rules p f f.items))
      (sound : AreSoundItems f.items) where
    good_expr : (x : Expr) (ty : SigType) → IsExpression p f x ty → IsGood x ty
    good_expr x ty (right_side place has is) =
        let good = good_item f.items (equation place x) has items sound in
        record {
          sound = good.1;
          type_ = types.names place.name ty is;
          passes = subst (λ (o : Option SigType). Passes (against (expr_rules p f x) o)) is good.0;
        }
    good_expr x _ (argument places name args at g k d has is there here) =
        let good = good_item f.items (call places name args at) has items sound in
        let called : Passes (call_rules p f (Some g) places args) =
        subst (λ (o : Option Func). Passes (call_rules p f o places args)) is good.0 in
        let row =
        head_passes (parts (argument_rules p f g.params args)) (parts (place_rules p f g.results places) ▸ none)
        called in
        record {
          sound =
              subst (λ (y : Expr). IsSound y) (get_or_from_slice_get args k x x here)
              (good.1 k x (slice_get_within args k x here));
          type_ = types.callees name g k d is there;
          passes = argument_passes g.params args row k d x there here;
        }

module _ (p : Program) (clear : IsClear (name_faults p)) (short : AreNumbersShort p) (met : Passes (type_rules p)) where
  top_passes : (k : ℕ) (t : Top) → slice_get p.tops k ≡ Some t → Passes (top_rules p t)
  top_passes k t e = each_passes (top_rules p) p.tops met k t e

  tables : HasGoodTables p
  tables = record {
    words = λ name c k l named at.
        table_found (λ (t : ConstDef). bytes_eq t.name name)
        (λ (t : ConstDef). (m : Lit) → slice_get t.words k ≡ Some m → Passes (literal_rules m (Fix t.ty))) p.tops
        (λ j t stands m there.
        each_passes (λ word. literal_rules word (Fix t.ty)) t.words (top_passes j (table t) stands) k m there)
        c named l at;
  }

  values_of : (s : Site) (words : Words) (n : ℕ) (v : ℤ) (x : Expr) (ty : SigType)
      → HasSoundTypes p s.function
      → IsGood p s.function x ty
      → IsValue p s words n x ty v ↔ HasTypedValue p s words n (typed_expr p s.function x ty) v
  values_of s words n v x ty types good =
      let same = same_values p s words n tables types x ty good.sound good.type_ good.passes in
      (same.there v, same.back v)

  pub keeps_values : KeepsValues p
  keeps_values f x ty has is s words n v e =
      let k = has.0 in
      let at : slice_get p.tops k ≡ Some (function f) = slice_get-get_or p.tops k (function f) has.1 ∙ ap Some has.2 in
      let short_top : IsTopShort (function f) = subst (λ (t : Top). IsTopShort t) has.2 (short k (function f) has.1) in
      let sound = top_sound p clear k (function f) at short_top in
      let good = good_expr p f sound.0 (top_passes k (function f) at) sound.1 x ty is in
      subst (λ (g : Func). IsValue p s words n x ty v ↔ HasTypedValue p s words n (typed_expr p g x ty) v) e
      (values_of s words n v x ty (subst (λ (g : Func). HasSoundTypes p g) (sym e) sound.0)
      (subst (λ (g : Func). IsGood p g x ty) (sym e) good))
