-- The elements of the flat program of a checked program are sound.
use Rattle.std.proofs.Common.{◌≡◌, refl, sym, subst, ◌∙◌, ap, arith, ℕ, slice_get, slice_index_or, Some}
use Rattle.std.specs.Prelude.{All}
use Rattle.std.proofs.lemmas.Option.{slice_get-get_or}
use Rattle.fix_word.specs.declared.types.SigType.{SigType}
use Rattle.silage_syntax.specs.Tree.{Program}
use Rattle.silage_meaning.specs.Instances.{Element, IsElement}
use Rattle.silage_meaning.specs.Solves.{Source, IsDefined, input_types, input, equated, argument, array, table, result}
use Rattle.silage_meaning.specs.Solves.{array_result}
use Rattle.element_rules.specs.declared.elements.Elements.{Elements}
use Rattle.element_rules.specs.Numbering.{IsNumbering}
use Rattle.signal_graph.specs.Flat as flat
use Rattle.signal_graph.specs.Rules.{IsType, IsInType, AreInits}
use Rattle.signal_graph.specs.FlatRules as rules
use Rattle.loop_expand.specs.Checked.{IsChecked}
use Rattle.loop_expand.specs.FlatOf.{IsBodyOf, IsFlatElement, IsFlatOf}
use Rattle.loop_expand.proofs.Numbers.{stands}
use Rattle.loop_expand.proofs.FlatSound.{IsSoundBody, body_sound}
use Rattle.loop_expand.proofs.FlatFits.{body_fits, FitsBody}
use Rattle.loop_expand.proofs.FlatTypes.{element_type, input_type}
use Rattle.loop_expand.proofs.FlatInits.{inits_allowed}

module _ (p : Program) (checked : IsChecked p) (es : Elements) (f : flat.Program) (flat_of : IsFlatOf p es f) where
  abbrev IsInputOf : SigType → flat.Body → Type 0
  IsInputOf ty body = (j : ℕ) → body ≡ flat.word j → slice_get f.inputs j ≡ Some ty

  no_word : (ty : SigType) (body : flat.Body) (y : flat.Expr) → body ≡ flat.value y → IsInputOf ty body
  no_word ty body y e j is = let no : flat.value y ≡ flat.word j = sym e ∙ is in absurd (cc no)

  -- a body that is an input word has the element's type
  word_typed : (e : Element) (is : IsElement p e) (source : Source) (body : flat.Body)
      → IsDefined p e source
      → IsBodyOf p es source body
      → IsInputOf is.decl.ty body
  word_typed e is _ body (input {j = i} at) b = λ j here.
      let words : flat.word i ≡ flat.word j = sym b ∙ here in
      let same : i ≡ j = cc words in
      ap (λ xs. slice_get xs j) flat_of.inputs
      ∙ subst (λ (n : ℕ). slice_get (input_types p) n ≡ Some is.decl.ty) same (input_type p checked i e is at)
  word_typed e is _ body (equated place d k decl found signal at) (y, flat_is, b) = no_word is.decl.ty body y b
  word_typed e is _ body (argument c d decl arg scalar at) (y, flat_is, b) = no_word is.decl.ty body y b
  word_typed e is _ body (array s c d m k decl theirs place arg arr below at) (n, number_is, b) =
      no_word is.decl.ty body (flat.read n 0) b
  word_typed e is _ body (table s c d decl place arg tab below at) (v, word_is, b) =
      no_word is.decl.ty body (flat.raw v) b
  word_typed e is _ body (result s c r d k theirs decl place res scalar signal at) (n, number_is, b) =
      no_word is.decl.ty body (flat.read n 0) b
  word_typed e is _ body (array_result s c r d k theirs decl place res arr below at) (n, number_is, b) =
      no_word is.decl.ty body (flat.read n 0) b

  body_of : (ty : SigType) (body : flat.Body)
      → IsInputOf ty body
      → IsSoundBody f body
      → FitsBody f ty body
      → rules.IsBodyOf f ty body
  body_of ty (flat.word j) typed sound fits = typed j refl
  body_of ty (flat.value y) typed sound fits = record { sound = sound; fits = fits }

  -- an element of the flat program
  element_sound : (e : Element) (x : flat.Element) → IsFlatElement p es e x → rules.IsElement f x
  element_sound e x it = record {
    ty = subst IsType (sym it.ty) (element_type p checked.names e it.is);
    body = subst (λ (ty : SigType). rules.IsBodyOf f ty x.body) (sym it.ty)
        (body_of it.is.decl.ty x.body (word_typed e it.is it.source x.body it.defined it.body)
        (body_sound p checked es f flat_of.count e it.source x.body it.defined it.body)
        (body_fits p checked es f flat_of e it.source x.body it.defined it.body it.is));
    inits =
        subst (λ (ty : SigType). AreInits (IsInType ty) x.inits) (sym it.ty)
        (inits_allowed p checked e it.is x.inits it.inits);
  }

  -- each element
  pub elements_sound : IsNumbering p es → All (rules.IsElement f) f.elems
  elements_sound numbering k other less =
      let s = stands p es numbering k (let count = flat_of.count in omega arith) in
      let x : flat.Element = slice_index_or f.elems k other in
      element_sound s.of x (flat_of.elements k s.of x s.number (slice_get-get_or f.elems k other less))
