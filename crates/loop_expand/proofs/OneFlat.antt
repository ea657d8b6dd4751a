-- A checked program has one flat program at most, for one expansion.
use Rattle.std.proofs.Common.{◌≡◌, refl, sym, subst, ap, ap₂, ◌∙◌, arith, ℕ, ◌<◌, List, length, get_or, Option, Some}
use Rattle.std.proofs.Common.{None, ℤ, pos}
use Rattle.std.specs.Prelude.{◌*ℤ◌, Contains}
use Rattle.std.specs.List.{AllZip}
use Rattle.std.proofs.lemmas.List.{ext_get_or}
use Rattle.std.proofs.lemmas.Option.{slice_get-get_or}
use Rattle.lists.proofs.Places.{some_once}
use Rattle.fix_word.specs.declared.types.Format.{Format}
use Rattle.fix_word.specs.declared.types.SigType.{SigType}
use Rattle.silage_syntax.specs.declared.tree.ConstDef.{ConstDef}
use Rattle.silage_syntax.specs.declared.tree.Decl.{Decl}
use Rattle.silage_syntax.specs.Manifests.{Indices}
use Rattle.silage_syntax.specs.Names.{IsOffset}
use Rattle.silage_syntax.specs.Tree.{Manifest, Place, Program}
use Rattle.silage_meaning.specs.Instances.{Element, element, Site, outputs}
use Rattle.silage_meaning.specs.Solves.{Source, word, value, same, number}
use Rattle.silage_meaning.proofs.Values.{manifest_once, place_once, looks_back_once, raw_word_once}
use Rattle.signal_graph.specs.Flat as flat
use Rattle.signal_graph.specs.FlatSolves.{no_element}
use Rattle.signal_graph.proofs.OnePruned.{zip_once}
use Rattle.signal_graph.proofs.OneRising.{rise_by, same_rising}
use Rattle.element_rules.specs.declared.elements.Elements.{Elements}
use Rattle.element_rules.specs.Expansion.{IsExpansion}
use Rattle.element_rules.proofs.SingleDefinitions.{single_definitions}
use Rattle.type_rules.specs.TypedTree as typed
use Rattle.type_rules.specs.TypedValue.{HasFormat, as_it_is, by_amount}
use Rattle.type_rules.specs.Translation.{typed_expr}
use Rattle.loop_expand.specs.Checked.{IsChecked}
use Rattle.element_rules.specs.Numbers.{IsNumberOf, HasDistinctNumbers}
use Rattle.loop_expand.specs.FlatOf.{IsTableWord, IsFlatRead, of_signal, of_table, IsFlatExpr, AreFlatParts, AreInitsOf}
use Rattle.loop_expand.specs.FlatOf.{IsBodyOf, IsFlatElement, IsFlatOf}
use Rattle.loop_expand.proofs.Expanded.{numbering}
use Rattle.loop_expand.proofs.FlatTypes.{decl_once}
use Rattle.loop_expand.proofs.Numbers.{stands}
use Rattle.element_rules.proofs.OnceTables.{distinct_numbers}

format_once : (indices : Indices) (fmt : Format) (amount : Option Manifest) (a b : Format)
    → HasFormat indices fmt amount a
    → HasFormat indices fmt amount b
    → a ≡ b
format_once indices fmt None a b as_it_is as_it_is = refl
format_once indices fmt (Some m) a b (by_amount {k = k} x) (by_amount {k = l} y) =
    ap (λ (n : ℕ). record fmt { shift = fmt.shift *ℤ pos n }) (manifest_once indices m k l x.value y.value)

module _ (p : Program) (es : Elements) (distinct : HasDistinctNumbers es) where
  module _ (s : Site) where
    read_once : (place : Place) (delay : Option Manifest) (x y : flat.Expr)
        → IsFlatRead p es s place delay x
        → IsFlatRead p es s place delay y
        → x ≡ y
    read_once place delay x y (of_signal d k ago n decl is back num) (of_signal e l past m other its behind its_num) =
        let named : (d, decl) ≡ (e, other) = some_once is.named its.named in
        let ds : d ≡ e = ap (λ (z : ℕ × Decl). z.0) named in
        let decls : decl ≡ other = ap (λ (z : ℕ × Decl). z.1) named in
        let offsets : k ≡ l = place_once s.indices other.dims place.subs k l
        (subst (λ (z : Decl). IsOffset s.indices z.dims place.subs k) decls is.placed) its.placed in
        let elements = ap₂ (element s.instance) ds offsets in
        let numbers : n ≡ m = distinct (element s.instance e l) n m (subst (IsNumberOf es n) elements num) its_num in
        ap₂ flat.read numbers (looks_back_once s.indices delay ago past back behind)
    read_once place delay x y (of_signal d k ago n decl is back num) (of_table l c v none named placed bare its) =
        absurd (let e = is.named in cc)
    read_once place delay x y (of_table l c v none named placed bare its) (of_signal d k ago n decl is back num) =
        absurd (let e = is.named in cc)
    read_once place delay x y (of_table k c v none named placed bare is)
        (of_table l b w none' named' placed' bare' its) =
        let tables : c ≡ b = some_once named named' in
        let offsets : k ≡ l = place_once s.indices b.dims place.subs k l
        (subst (λ (z : ConstDef). IsOffset s.indices z.dims place.subs k) tables placed) placed' in
        let words : v ≡ w = some_once (subst (λ (z : ConstDef). IsTableWord z l v) tables
        (subst (λ (n : ℕ). IsTableWord c n v) offsets is)) its in
        ap flat.raw words

    mutual
      expr_once : (t : typed.TypedExpr) (x y : flat.Expr) → IsFlatExpr p es s t x → IsFlatExpr p es s t y → x ≡ y
      expr_once (typed.raw z) x y h k = h ∙ sym k
      expr_once (typed.read place delay) x y h k = read_once place delay x y h k
      expr_once (typed.node o fmt parts amount) x y (at, xs, format, are, is) (by, ys, its_format, its_are, its) =
          is
          ∙ ap₂ (flat.calculation o) (format_once s.indices fmt amount at by format its_format)
          (parts_once parts xs ys are its_are)
          ∙ sym its

      parts_once : (ts : typed.Parts) (xs ys : flat.Parts)
          → AreFlatParts p es s ts xs
          → AreFlatParts p es s ts ys
          → xs ≡ ys
      parts_once typed.no_part xs ys h k = h ∙ sym k
      parts_once (typed.part t rest) xs ys (x, others, is, are, e) (y, its_others, its, its_are, its_e) =
          e ∙ ap₂ flat.part (expr_once t x y is its) (parts_once rest others its_others are its_are) ∙ sym its_e

  body_once : (source : Source) (a b : flat.Body) → IsBodyOf p es source a → IsBodyOf p es source b → a ≡ b
  body_once (word j) a b h k = h ∙ sym k
  body_once (value s x ty) a b (y, is, e) (z, its, f) =
      e ∙ ap flat.value (expr_once s (typed_expr p s.function x ty) y z is its) ∙ sym f
  body_once (same e theirs ours) a b (k, is, h) (l, its, g) =
      h ∙ ap (λ (n : ℕ). flat.value (flat.read n 0)) (distinct e k l is its) ∙ sym g
  body_once (number c k ty) a b (v, is, e) (w, its, f) =
      e ∙ ap (λ (z : ℤ). flat.value (flat.raw z)) (some_once is its) ∙ sym f

  outs_once : (elements : List Element) (xs ys : List ℕ)
      → AllZip (IsNumberOf es) xs elements
      → AllZip (IsNumberOf es) ys elements
      → xs ≡ ys
  outs_once elements xs ys =
      zip_once (λ (k : ℕ) (e : Element). IsNumberOf es k e) (λ k l e. distinct e k l) xs ys elements

module _ (p : Program) (checked : IsChecked p) where
  -- an initial value of the one list is one of the other
  init_of : (e : Element) (xs ys : List (ℕ × ℤ))
      → AreInitsOf p e xs
      → AreInitsOf p e ys
      → (i : ℕ × ℤ)
      → Contains xs i
      → Contains ys i
  init_of e xs ys a b (k, v) has =
      let (l, ty, preset, is) = a.given k v has in
      let (w, its, there) = b.all k l ty preset in
      subst (λ (z : ℤ). Contains ys (k, z)) (raw_word_once l ty w v its is) there

  inits_once : (e : Element) (xs ys : List (ℕ × ℤ)) → AreInitsOf p e xs → AreInitsOf p e ys → xs ≡ ys
  inits_once e xs ys a b =
      same_rising (λ (i : ℕ × ℤ). i.0) xs ys (rise_by (λ (i : ℕ × ℤ). i.0) xs a.rise)
      (rise_by (λ (i : ℕ × ℤ). i.0) ys b.rise) (init_of e xs ys a b) (init_of e ys xs b a)

  module _ (es : Elements) (made : IsExpansion p es) where
    abbrev flat_element : SigType → flat.Body → List (ℕ × ℤ) → flat.Element
    flat_element ty body inits = record { ty = ty; body = body; inits = inits }

    element_same : (e : Element) (x y : flat.Element) → IsFlatElement p es e x → IsFlatElement p es e y → x ≡ y
    element_same e x y a b =
        let one = single_definitions p checked.names checked.elements checked.calls e a.is in
        let sources : a.source ≡ b.source = one.only a.source a.defined ∙ sym (one.only b.source b.defined) in
        let bodies : x.body ≡ y.body =
        body_once p es (distinct_numbers p checked.names checked.positions es made) b.source x.body y.body
        (subst (λ (z : Source). IsBodyOf p es z x.body) sources a.body) b.body in
        let decls : a.is.decl ≡ b.is.decl =
        decl_once p checked e a.is b.is.function b.is.decl b.is.instance b.is.declared in
        let types : x.ty ≡ y.ty = a.ty ∙ ap (λ (d : Decl). d.ty) decls ∙ sym b.ty in
        ap (λ (ty : SigType). flat_element ty x.body x.inits) types
        ∙ ap (λ (body : flat.Body). flat_element y.ty body x.inits) bodies
        ∙ ap (flat_element y.ty y.body) (inits_once e x.inits y.inits a.inits b.inits)

    module _ (f g : flat.Program) (a : IsFlatOf p es f) (b : IsFlatOf p es g) where
      elements_same : (k : ℕ) → k < length f.elems → get_or f.elems k no_element ≡ get_or g.elems k no_element
      elements_same k less =
          let s = stands p es (numbering p checked es made) k (omega (arith, less, a.count)) in
          element_same s.of _ _
          (a.elements k s.of _ s.number (slice_get-get_or f.elems k no_element less))
          (b.elements k s.of _ s.number (slice_get-get_or g.elems k no_element (omega (arith, less, a.count, b.count))))

      abbrev flat_program : List flat.Element → List SigType → List ℕ → flat.Program
      flat_program elems inputs outs = record { elems = elems; inputs = inputs; outs = outs }

      pub one_flat : f ≡ g
      one_flat =
          let elements : f.elems ≡ g.elems =
          ext_get_or no_element f.elems g.elems (a.count ∙ sym b.count) elements_same in
          ap (λ (elems : List flat.Element). flat_program elems f.inputs f.outs) elements
          ∙ ap (λ (inputs : List SigType). flat_program g.elems inputs f.outs) (a.inputs ∙ sym b.inputs)
          ∙ ap (flat_program g.elems g.inputs)
          (outs_once p es (distinct_numbers p checked.names checked.positions es made) (outputs p) f.outs g.outs a.outs
          b.outs)
