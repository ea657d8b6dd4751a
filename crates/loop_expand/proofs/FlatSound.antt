-- The flat expressions of a checked program are sound.
use Rattle.std.proofs.Common.{◌≡◌, refl, sym, subst, ◌∙◌, ap, arith, ℕ, ◌+◌, ◌≤◌, List, [], length, slice_get, Option}
use Rattle.std.proofs.Common.{Some, inl, inr, ℤ}
use Rattle.std.specs.Prelude.{bytes_eq}
use Rattle.std.proofs.lemmas.Option.{slice_get_within, get_or_from_slice_get}
use Rattle.fix_word.specs.Words.{IsMachineWord}
use Rattle.fix_word.proofs.Wraps.{word_wider}
use Rattle.fix_word.specs.declared.types.SigType.{SigType}
use Rattle.fix_word.specs.declared.types.SigType.TheVariants.{Fix}
use Rattle.silage_syntax.specs.declared.tree.ConstDef.{ConstDef}
use Rattle.silage_syntax.specs.declared.tree.Decl.{Decl}
use Rattle.silage_syntax.specs.declared.tree.Lit.{Lit}
use Rattle.silage_syntax.specs.declared.tree.Lit.TheVariants.{Number, Truth}
use Rattle.silage_syntax.specs.Tree.{Manifest, Place, Expr, Item, equation, call, loop, initial, Items, no_item, item}
use Rattle.silage_syntax.specs.Tree.{Top, table, function, Program}
use Rattle.silage_syntax.specs.Names.{table_named}
use Rattle.silage_meaning.specs.Instances.{Element, element, Site, IsItemAt, IsSignal, Call, IsArgument}
use Rattle.silage_meaning.specs.Types.{IsRawWord, name_type}
use Rattle.silage_meaning.specs.Solves.{Source, same, IsDefined, input, equated, argument, array, table as by_table}
use Rattle.silage_meaning.specs.Solves.{result, array_result}
use Rattle.silage_meaning.proofs.Elements.{looks_back_most}
use Rattle.element_rules.specs.declared.elements.Elements.{Elements}
use Rattle.type_rules.specs.Boundary.{HasItem, HasItemIn}
use Rattle.type_rules.specs.Numbers.{IsTopShort}
use Rattle.type_rules.specs.Private.Sound.{IsSoundType, IsSound, IsSoundItem, AreSoundItems, HasSoundTypes}
use Rattle.type_rules.specs.Private.Sound.{IsSoundTop}
use Rattle.type_rules.specs.TypedTree as typed
use Rattle.type_rules.specs.TypeRules.{against, expr_rules}
use Rattle.type_rules.specs.Translation.{typed_expr}
use Rattle.type_rules.proofs.Literals.{Passes}
use Rattle.type_rules.proofs.Tests.{sound_shape}
use Rattle.type_rules.proofs.SoundNames.{table_found, top_sound}
use Rattle.signal_graph.specs.Flat as flat
use Rattle.signal_graph.specs.FlatRules.{IsRead, IsExpr, AreExprs}
use Rattle.loop_expand.specs.Checked.{IsChecked}
use Rattle.element_rules.specs.Numbers.{IsNumberOf}
use Rattle.loop_expand.specs.FlatOf.{IsTableWord, IsFlatRead, of_signal, of_table, IsFlatExpr, AreFlatParts, IsBodyOf}
use Rattle.loop_expand.proofs.Items.{has_item, instance_top, site_passes}
use Rattle.loop_expand.proofs.Shapes.{declared_type, argument_fits, table_entry}
use Rattle.loop_expand.proofs.TypedSound.{count, IsAllowed, AreAllowed, Good, typed_good}

mutual
  sound_item : (xs : Items) (y : Item) → HasItem xs y → AreSoundItems xs → IsSoundItem y
  sound_item no_item y has s = absurd has
  sound_item (item x rest) y (inl has) s = sound_inside x y has s.0
  sound_item (item x rest) y (inr has) s = sound_item rest y has s.1

  sound_inside : (x y : Item) → HasItemIn x y → IsSoundItem x → IsSoundItem y
  sound_inside (equation place e) y has s = subst IsSoundItem (sym has) s
  sound_inside (call places name args at) y has s = subst IsSoundItem (sym has) s
  sound_inside (loop index lo hi items at) y has s = sound_item items y has s
  sound_inside (initial place k v) y has s = subst IsSoundItem (sym has) s

-- a body that is a word, or a sound expression
abbrev pub IsSoundBody : flat.Program → flat.Body → Type 0
IsSoundBody f (flat.word j) = Unit {0}
IsSoundBody f (flat.value y) = IsExpr f y

module _ (p : Program) (checked : IsChecked p) where
  sound_top : (k : ℕ) (t : Top) → slice_get p.tops k ≡ Some t → IsSoundTop p t
  sound_top k t e =
      let less = slice_get_within p.tops k t e in
      let short : IsTopShort t =
      subst (λ (z : Top). IsTopShort z) (get_or_from_slice_get p.tops k t t e) (checked.numbers k t less) in
      top_sound p checked.names k t e short

  -- a number of a table is a machine word
  number_word : (l : Lit) (c : ConstDef) (v : ℤ)
      → IsSoundType (Fix c.ty)
      → IsRawWord l (Fix c.ty) v
      → IsMachineWord v
  number_word (Number negative digits places at) c v ok is =
      word_wider c.ty.shape.w 40 v (sound_shape c.ty ok).width.widest is.word
  number_word (Truth b at) c v ok is = absurd is

  table_type : (name : List ℕ) (c : ConstDef) → table_named p name ≡ Some c → IsSoundType (Fix c.ty)
  table_type name c named =
      table_found (λ (t : ConstDef). bytes_eq t.name name) (λ (t : ConstDef). IsSoundType (Fix t.ty)) p.tops
      (λ j t at. (sound_top j (table t) at).0) c named

  table_word : (name : List ℕ) (c : ConstDef) (k : ℕ) (v : ℤ)
      → table_named p name ≡ Some c
      → IsTableWord c k v
      → IsMachineWord v
  table_word name c k v named is =
      let entry = table_entry p checked.names checked.types name c k (Fix c.ty) v named refl is in
      number_word entry.number c v (table_type name c named) entry.word

  -- a right side and an argument, typed
  value_good : (s : Site) (y : Item) (x : Expr) (ty : SigType)
      → IsItemAt p s y
      → (IsSoundItem y → IsSound x)
      → (HasSoundTypes p s.function → IsSoundType ty)
      → Passes (expr_rules p s.function x ty)
      → Good p s.function ty (typed_expr p s.function x ty)
  value_good s y x ty at numbers type_ passes =
      let top = instance_top p checked.names s.instance s.function at.instance in
      let sound = sound_top top.position (function s.function) top.there in
      typed_good p s.function sound.0 x ty
      (numbers (sound_item s.function.items y (has_item s.function.items [] y s.indices at.occurs) sound.1))
      (type_ sound.0) passes

  pub equation_good : (s : Site) (place : Place) (x : Expr) (d k : ℕ) (decl : Decl)
      → IsItemAt p s (equation place x)
      → IsSignal s place d decl k
      → Good p s.function decl.ty (typed_expr p s.function x decl.ty)
  equation_good s place x d k decl found signal =
      let name : name_type p s.function place.name ≡ Some decl.ty =
      declared_type p s.function place.name d decl signal.named in
      value_good s (equation place x) x decl.ty found (λ sound. sound) (λ types. types.names place.name decl.ty name)
      (subst (λ (o : Option SigType). Passes (against (expr_rules p s.function x) o)) name
      (site_passes p checked.names checked.types s (equation place x) found))

  pub argument_good : (s : Site) (c : Call p s) (d : ℕ) (decl : Decl) (x : Expr)
      → IsArgument c d decl x
      → Good p s.function decl.ty (typed_expr p s.function x decl.ty)
  argument_good s c d decl x arg =
      value_good s (call c.places c.name c.args c.at) x decl.ty c.found
      (λ sound.
      subst (λ (z : Expr). IsSound z) (get_or_from_slice_get c.args d x x arg.argument)
      (sound d x (slice_get_within c.args d x arg.argument)))
      (λ types. types.callees c.name c.callee d decl c.named arg.parameter)
      (argument_fits p checked.names checked.types s c d decl x arg)

  module _ (es : Elements) (f : flat.Program) (long : length f.elems ≡ length es.elements) where
    read_is : (k ago : ℕ) (e : Element) → IsNumberOf es k e → ago ≤ 1023 → IsRead f k ago
    read_is k ago e is most =
        let less = slice_get_within es.elements k _ is.listed in
        record { element = omega arith; delay = most }

    module _ (s : Site) where
      read_sound : (place : Place) (delay : Option Manifest) (y : flat.Expr)
          → IsFlatRead p es s place delay y
          → IsExpr f y
      read_sound place delay _ (of_signal d k ago l decl is back number_is) =
          read_is l ago (element s.instance d k) number_is (looks_back_most s.indices delay ago back)
      read_sound place delay _ (of_table k c v undeclared named placed undelayed is) =
          table_word place.name c k v named is

      mutual
        expr_sound : (t : typed.TypedExpr) (y : flat.Expr) → IsAllowed t → IsFlatExpr p es s t y → IsExpr f y
        expr_sound (typed.raw z) y allowed e = subst (λ (x : flat.Expr). IsExpr f x) (sym e) allowed
        expr_sound (typed.read place delay) y allowed is = read_sound place delay y is
        expr_sound (typed.node o fmt parts amount) y allowed (at, ys, format, these, e) =
            let rest = parts_sound parts ys allowed.3 these in
            subst (λ (x : flat.Expr). IsExpr f x) (sym e) (
              record { calculation = allowed.0; parts = rest.0 ∙ allowed.1; fmt = (allowed.2 s.indices at format).0 },
              rest.1,
            )

        parts_sound : (parts : typed.Parts) (ys : flat.Parts)
            → AreAllowed parts
            → AreFlatParts p es s parts ys
            → (flat.count ys ≡ count parts) × AreExprs f ys
        parts_sound typed.no_part ys allowed e = (ap flat.count e, subst (λ (x : flat.Parts). AreExprs f x) (sym e) tt)
        parts_sound (typed.part x rest) ys allowed (y, others, is, these, e) =
            let one = expr_sound x y allowed.0 is in
            let more = parts_sound rest others allowed.1 these in (
              ap flat.count e ∙ ap (λ (n : ℕ). 1 + n) more.0,
              subst (λ (z : flat.Parts). AreExprs f z) (sym e) (one, more.1),
            )

    same_sound : (e : Element) (theirs ours : SigType) (body : flat.Body)
        → IsBodyOf p es (same e theirs ours) body
        → IsSoundBody f body
    same_sound e theirs ours body (k, is, b) = subst (IsSoundBody f) (sym b) (read_is k 0 e is (omega arith))

    pub body_sound : (e : Element) (source : Source) (body : flat.Body)
        → IsDefined p e source
        → IsBodyOf p es source body
        → IsSoundBody f body
    body_sound e _ body (input at) is = subst (IsSoundBody f) (sym is) tt
    body_sound e _ body (equated {s = s} {x = x} place d k decl found signal at) (y, is, b) =
        subst (IsSoundBody f) (sym b)
        (expr_sound s (typed_expr p s.function x decl.ty) y (equation_good s place x d k decl found signal).allowed is)
    body_sound e _ body (argument {s = s} {x = x} c d decl arg scalar at) (y, is, b) =
        subst (IsSoundBody f) (sym b)
        (expr_sound s (typed_expr p s.function x decl.ty) y (argument_good s c d decl x arg).allowed is)
    body_sound e _ body (array s c d m k decl theirs place arg arr below at) is = same_sound _ theirs.ty decl.ty body is
    body_sound e _ body (by_table {t = t} {k = k} s c d decl place arg tab below at) (v, is, b) =
        subst (IsSoundBody f) (sym b) (table_word place.name t k v tab.named is)
    body_sound e _ body (result s c r d k theirs decl place res scalar signal at) is =
        same_sound _ theirs.ty decl.ty body is
    body_sound e _ body (array_result s c r d k theirs decl place res arr below at) is =
        same_sound _ theirs.ty decl.ty body is
