-- A flat program has a delay-free loop where its program has one.
use Rattle.std.proofs.Common.{◌≡◌, refl, sym, subst, ◌∙◌, ap, ap₂, arith, ℕ, ◌<◌, ◌↔◌, inl, inr, length, Option, Some}
use Rattle.std.proofs.Common.{None}
use Rattle.std.proofs.lemmas.Option.{slice_get-get_or}
use Rattle.lists.proofs.Places.{some_once}
use Rattle.recurrences.specs.Systems as systems
use Rattle.fix_word.specs.declared.types.SigType.{SigType}
use Rattle.silage_syntax.specs.declared.tree.Decl.{Decl}
use Rattle.silage_syntax.specs.Tree.{Manifest, Place, equation, Program}
use Rattle.silage_syntax.specs.Names.{IsOffset}
use Rattle.silage_meaning.specs.Instances.{Element, element, IsElement, Site}
use Rattle.silage_meaning.specs.Solves.{Source, word, value, same, number, IsDefined, input, equated, argument, array}
use Rattle.silage_meaning.specs.Solves.{table, result, array_result}
use Rattle.silage_meaning.specs.Rules.{HasSingleDefinitions, ReadsAt, reads_at, SourceReads, NeedsNow, DependsNow}
use Rattle.silage_meaning.specs.Rules.{direct, by_way_of, HasNoDelaylessLoop}
use Rattle.silage_meaning.proofs.Values.{place_once, looks_back_once}
use Rattle.silage_meaning.proofs.Elements.{source_there}
use Rattle.element_rules.specs.declared.elements.Elements.{Elements}
use Rattle.element_rules.specs.Numbering.{IsNumbering}
use Rattle.element_rules.proofs.SingleDefinitions.{single_definitions}
use Rattle.type_rules.specs.TypedTree as typed
use Rattle.type_rules.specs.TypeRules.{against, expr_rules}
use Rattle.type_rules.specs.Translation.{typed_expr}
use Rattle.type_rules.proofs.Literals.{Passes}
use Rattle.signal_graph.specs.Flat as flat
use Rattle.signal_graph.specs.Values.{Reads as FlatReads, PartsRead, BodyReads}
use Rattle.signal_graph.specs.FlatSolves.{no_element, element_of, ElementReads, IsFlatLoopless}
use Rattle.loop_expand.specs.Checked.{IsChecked}
use Rattle.element_rules.specs.Numbers.{IsNumberOf, HasDistinctNumbers}
use Rattle.loop_expand.specs.FlatOf.{IsFlatRead, of_signal, of_table, IsFlatExpr, AreFlatParts, IsBodyOf, IsFlatElement}
use Rattle.loop_expand.specs.FlatOf.{IsFlatOf}
use Rattle.loop_expand.proofs.Items.{site_passes}
use Rattle.loop_expand.proofs.Shapes.{declared_type, argument_fits}
use Rattle.loop_expand.proofs.Numbers.{element_once, stands, below, number_of, is_number_of}
use Rattle.loop_expand.proofs.TypedReads.{TypedReads, TypedPartsRead, typed_reads, reads_typed}

-- an element with this number is read
record IsReadBy (es : Elements) (number : ℕ) (Reads : Element → Type 0) : Type 0 where
  of : Element
  number_is : IsNumberOf es number of
  reads : Reads of

module _ (p : Program) (es : Elements) (s : Site) where
  read_back : (place : Place) (delay : Option Manifest) (y : flat.Expr)
      → IsFlatRead p es s place delay y
      → (l ago : ℕ)
      → FlatReads y l ago
      → IsReadBy es l (λ e. ReadsAt s place delay e ago)
  read_back place delay _ (of_signal d k a n decl is back number_is) l ago h = record {
    of = element s.instance d k;
    number_is = subst (λ (m : ℕ). IsNumberOf es m (element s.instance d k)) (sym h.0) number_is;
    reads =
        subst (λ (m : ℕ). ReadsAt s place delay (element s.instance d k) m) (sym h.1) (reads_at d k decl is back refl);
  }
  read_back place delay _ (of_table k c v undeclared named placed undelayed is) l ago h = absurd h

  part_back : (x : typed.TypedExpr) (rest : typed.Parts) (y : flat.Expr) (others : flat.Parts) (l ago : ℕ)
      → (FlatReads y l ago → IsReadBy es l (λ e. TypedReads s e ago x))
      → (PartsRead others l ago → IsReadBy es l (λ e. TypedPartsRead s e ago rest))
      → PartsRead (flat.part y others) l ago
      → IsReadBy es l (λ e. TypedPartsRead s e ago (typed.part x rest))
  part_back x rest y others l ago a b (inl g) =
      let r = a g in record { of = r.of; number_is = r.number_is; reads = inl r.reads }
  part_back x rest y others l ago a b (inr g) =
      let r = b g in record { of = r.of; number_is = r.number_is; reads = inr r.reads }

  mutual
    expr_back : (t : typed.TypedExpr) (y : flat.Expr)
        → IsFlatExpr p es s t y
        → (l ago : ℕ)
        → FlatReads y l ago
        → IsReadBy es l (λ e. TypedReads s e ago t)
    expr_back (typed.raw z) y is l ago h = absurd (subst (λ (x : flat.Expr). FlatReads x l ago) is h)
    expr_back (typed.read place delay) y is l ago h = read_back place delay y is l ago h
    expr_back (typed.node o fmt row amount) y (at, ys, format, these, e) l ago h =
        parts_back row ys these l ago (subst (λ (x : flat.Expr). FlatReads x l ago) e h)

    parts_back : (row : typed.Parts) (ys : flat.Parts)
        → AreFlatParts p es s row ys
        → (l ago : ℕ)
        → PartsRead ys l ago
        → IsReadBy es l (λ e. TypedPartsRead s e ago row)
    parts_back typed.no_part ys e l ago h = absurd (subst (λ (z : flat.Parts). PartsRead z l ago) e h)
    parts_back (typed.part x rest) ys (y, others, is, these, e) l ago h =
        part_back x rest y others l ago (λ g. expr_back x y is l ago g) (λ g. parts_back rest others these l ago g)
        (subst (λ (z : flat.Parts). PartsRead z l ago) e h)

  module _ (distinct : HasDistinctNumbers es) (e : Element) (l ago : ℕ) (of : IsNumberOf es l e) where
    read_on : (place : Place) (delay : Option Manifest) (y : flat.Expr)
        → IsFlatRead p es s place delay y
        → ReadsAt s place delay e ago
        → FlatReads y l ago
    read_on place delay _ (of_signal d k a n decl is back number_is) (reads_at c j other at look here) =
        let pairs : (c, other) ≡ (d, decl) = some_once at.named is.named in
        let same_decl : c ≡ d = ap (λ (z : ℕ × Decl). z.0) pairs in
        let offsets : j ≡ k =
        place_once s.indices decl.dims place.subs j k
        (subst (λ (z : Decl). IsOffset s.indices z.dims place.subs j) (ap (λ (z : ℕ × Decl). z.1) pairs) at.placed)
        is.placed in
        let elements : e ≡ element s.instance d k =
        here ∙ ap₂ (λ (a b : ℕ). element s.instance a b) same_decl offsets in (
          distinct (element s.instance d k) l n (subst (IsNumberOf es l) elements of) number_is,
          looks_back_once s.indices delay ago a look back,
        )
    read_on place delay _ (of_table k c v undeclared named placed undelayed is) (reads_at d j other at look here) =
        let no : None ≡ Some (d, other) = sym undeclared ∙ at.named in
        absurd (cc no)

    mutual
      expr_on : (t : typed.TypedExpr) (y : flat.Expr) → IsFlatExpr p es s t y → TypedReads s e ago t → FlatReads y l ago
      expr_on (typed.raw z) y is h = absurd h
      expr_on (typed.read place delay) y is h = read_on place delay y is h
      expr_on (typed.node o fmt row amount) y (at, ys, format, these, is) h =
          subst (λ (x : flat.Expr). FlatReads x l ago) (sym is) (parts_on row ys these h)

      parts_on : (row : typed.Parts) (ys : flat.Parts)
          → AreFlatParts p es s row ys
          → TypedPartsRead s e ago row
          → PartsRead ys l ago
      parts_on typed.no_part ys is h = absurd h
      parts_on (typed.part x rest) ys (y, others, is, these, b) (inl h) =
          subst (λ (z : flat.Parts). PartsRead z l ago) (sym b) (inl (expr_on x y is h))
      parts_on (typed.part x rest) ys (y, others, is, these, b) (inr h) =
          subst (λ (z : flat.Parts). PartsRead z l ago) (sym b) (inr (parts_on rest others these h))

module _ (p : Program) (es : Elements) where
  -- what the body of an element reads is read by what defines the element
  body_back : (source : Source) (body : flat.Body)
      → IsBodyOf p es source body
      → (l ago : ℕ)
      → BodyReads body l ago
      → IsReadBy es l (λ e. SourceReads source e ago)
  body_back (word j) body b l ago h = absurd (subst (λ (z : flat.Body). BodyReads z l ago) b h)
  body_back (value s x ty) body (y, is, b) l ago h =
      let r =
      expr_back p es s (typed_expr p s.function x ty) y is l ago
      (subst (λ (z : flat.Body). BodyReads z l ago) b h) in
      record { of = r.of; number_is = r.number_is; reads = typed_reads p s r.of ago x ty r.reads }
  body_back (same other theirs ours) body (k, is, b) l ago h =
      let r = subst (λ (z : flat.Body). BodyReads z l ago) b h in
      record { of = other; number_is = subst (λ (m : ℕ). IsNumberOf es m other) (sym r.0) is; reads = (refl, r.1) }
  body_back (number c k ty) body (v, is, b) l ago h = absurd (subst (λ (z : flat.Body). BodyReads z l ago) b h)

  module _ (checked : IsChecked p) (distinct : HasDistinctNumbers es) (c : Element) (l ago : ℕ)
      (of : IsNumberOf es l c) where
    value_on : (s : Site) (x : _) (ty : SigType) (body : flat.Body)
        → Passes (expr_rules p s.function x ty)
        → IsBodyOf p es (value s x ty) body
        → SourceReads (value s x ty) c ago
        → BodyReads body l ago
    value_on s x ty body pass (y, is, b) h =
        subst (λ (z : flat.Body). BodyReads z l ago) (sym b)
        (expr_on p es s distinct c l ago of (typed_expr p s.function x ty) y is (reads_typed p s c ago x ty pass h))

    same_on : (other : Element) (theirs ours : SigType) (body : flat.Body)
        → IsBodyOf p es (same other theirs ours) body
        → SourceReads (same other theirs ours) c ago
        → BodyReads body l ago
    same_on other theirs ours body (k, is, b) h =
        subst (λ (z : flat.Body). BodyReads z l ago) (sym b)
        (distinct other l k (subst (IsNumberOf es l) h.0 of) is, h.1)

    pub body_on : (e : Element) (source : Source) (body : flat.Body)
        → IsDefined p e source
        → IsBodyOf p es source body
        → SourceReads source c ago
        → BodyReads body l ago
    body_on e _ body (input at) b h = absurd h
    body_on e _ body (equated {s = s} {x = x} place d k decl found signal at) b h =
        value_on s x decl.ty body
        (subst (λ (o : Option SigType). Passes (against (expr_rules p s.function x) o))
        (declared_type p s.function place.name d decl signal.named)
        (site_passes p checked.names checked.types s (equation place x) found)) b h
    body_on e _ body (argument {s = s} {x = x} call d decl arg scalar at) b h =
        value_on s x decl.ty body (argument_fits p checked.names checked.types s call d decl x arg) b h
    body_on e _ body (array s call d m k decl theirs place arg arr inside at) b h = same_on _ theirs.ty decl.ty body b h
    body_on e _ body (table s call d decl place arg tab inside at) b h = absurd h
    body_on e _ body (result s call r d k theirs decl place res scalar signal at) b h =
        same_on _ theirs.ty decl.ty body b h
    body_on e _ body (array_result s call r d k theirs decl place res arr inside at) b h =
        same_on _ theirs.ty decl.ty body b h

pub single : (p : Program) → IsChecked p → HasSingleDefinitions p
single p checked = single_definitions p checked.names checked.elements checked.calls

module _ (p : Program) (checked : IsChecked p) (es : Elements) (numbering : IsNumbering p es)
    (distinct : HasDistinctNumbers es) (f : flat.Program) (flat_of : IsFlatOf p es f) where
  pub at_number : (k : ℕ) (e : Element) → IsNumberOf es k e → IsFlatElement p es e (element_of f k)
  at_number k e is =
      let less : k < length f.elems =
      let all = below p es numbering k e is in let count = flat_of.count in omega arith in
      flat_of.elements k e (element_of f k) is (slice_get-get_or f.elems k no_element less)

  -- the numbered elements read the same at the same sample
  needs_back : (k l : ℕ) (e : Element) → IsNumberOf es k e → ElementReads f k l 0 → IsReadBy es l (λ c. NeedsNow p e c)
  needs_back k l e is h =
      let at = at_number k e is in
      let r = body_back p es at.source (element_of f k).body at.body l 0 h in
      record { of = r.of; number_is = r.number_is; reads = (at.source, at.defined, r.reads) }

  needs_on : (k l : ℕ) (e c : Element) → IsNumberOf es k e → IsNumberOf es l c → NeedsNow p e c → ElementReads f k l 0
  needs_on k l e c is of (source, defined, reads) =
      let at = at_number k e is in
      let one = single p checked e at.is in
      let sources : source ≡ at.source = one.only source defined ∙ sym (one.only at.source at.defined) in
      body_on p es checked distinct c l 0 of e at.source (element_of f k).body at.defined at.body
      (subst (λ (z : Source). SourceReads z c 0) sources reads)

  pub depends_back : (k l : ℕ)
      → systems.DependsNow (ElementReads f) k l
      → (e c : Element)
      → IsNumberOf es k e
      → IsNumberOf es l c
      → DependsNow p e c
  depends_back k l (systems.direct h) e c is of =
      let r = needs_back k l e is h in
      direct (subst (λ (z : Element). NeedsNow p e z) (element_once es l r.of c r.number_is of) r.reads)
  depends_back k l (systems.by_way_of m h rest) e c is of =
      let r = needs_back k m e is h in
      by_way_of r.of r.reads (depends_back m l rest r.of c r.number_is of)

  pub depends_on : (e c : Element)
      → DependsNow p e c
      → (k l : ℕ)
      → IsNumberOf es k e
      → IsNumberOf es l c
      → systems.DependsNow (ElementReads f) k l
  depends_on e c (direct h) k l is of = systems.direct (needs_on k l e c is of h)
  depends_on e c (by_way_of d h rest) k l is of =
      let there : IsElement p d = (source_there p e h.0 h.1 d 0 h.2).0 in
      let m = number_of p es numbering d in
      let number_is = is_number_of p es numbering d there in
      systems.by_way_of m (needs_on k m e d is number_is h) (depends_on d c rest m l number_is of)

  -- the flat program has a delay-free loop where the program has one
  pub loopless_both : HasNoDelaylessLoop p ↔ IsFlatLoopless f
  loopless_both = (there, back)
    where
      there : HasNoDelaylessLoop p → IsFlatLoopless f
      there none k less loop =
          let s = stands p es numbering k (let count = flat_of.count in omega arith) in
          none s.of s.is (depends_back k k loop s.of s.of s.number s.number)

      back : IsFlatLoopless f → HasNoDelaylessLoop p
      back none e is loop =
          let k = number_of p es numbering e in
          let number_is = is_number_of p es numbering e is in
          let less : k < length f.elems =
          let all = below p es numbering k e number_is in let count = flat_of.count in omega arith in
          none k less (depends_on e e loop k k number_is number_is)
