-- The initial values of an element of a checked program are allowed.
use Rattle.std.proofs.Common.{◌≡◌, sym, subst, ◌∙◌, ap, arith, ℕ, true, false, List, slice_get, Some, ℤ}
use Rattle.std.specs.Prelude.{Contains}
use Rattle.std.proofs.lemmas.Int.{ints}
use Rattle.std.proofs.lemmas.List.Elements.{All-weaker, All-contains_itself}
use Rattle.fix_word.specs.declared.types.SigType.{SigType}
use Rattle.fix_word.specs.declared.types.SigType.TheVariants.{Fix, Bool as Truths}
use Rattle.silage_syntax.specs.declared.tree.Decl.{Decl}
use Rattle.silage_syntax.specs.declared.tree.Lit.{Lit}
use Rattle.silage_syntax.specs.declared.tree.Lit.TheVariants.{Number, Truth}
use Rattle.silage_syntax.specs.Tree.{Program}
use Rattle.silage_syntax.specs.Names.{decls}
use Rattle.silage_meaning.specs.Instances.{Instance, Element, IsInstance, IsElement}
use Rattle.silage_meaning.specs.Types.{IsRawWord}
use Rattle.silage_meaning.specs.Solves.{IsPreset}
use Rattle.silage_meaning.proofs.Elements.{declared_at}
use Rattle.signal_graph.specs.Rules.{max_delay, IsWithin, IsInType, AreInits}
use Rattle.loop_expand.specs.Checked.{IsChecked}
use Rattle.loop_expand.specs.FlatOf.{AreInitsOf}
use Rattle.loop_expand.proofs.PassedItems.{sample_within}
use Rattle.loop_expand.proofs.FlatTypes.{decl_once}

pub raw_in_type : (l : Lit) (ty : SigType) (v : ℤ) → IsRawWord l ty v → IsInType ty v
raw_in_type (Number negative digits places at) (Fix t) v is = is.word
raw_in_type (Number negative digits places at) Truths v is = absurd is
raw_in_type (Truth b at) (Fix t) v is = absurd is
raw_in_type (Truth true at) Truths v is = subst (IsInType Truths) (sym is) (omega (arith, ints), omega (arith, ints))
raw_in_type (Truth false at) Truths v is = subst (IsInType Truths) (sym is) (omega (arith, ints), omega (arith, ints))

module _ (p : Program) (checked : IsChecked p) where
  -- an initial value is given in the type of its element
  preset_type : (e : Element) (is : IsElement p e) (j : ℕ) (l : Lit) (ty : SigType)
      → IsPreset p e j l ty
      → is.decl.ty ≡ ty
  preset_type e is j l ty q =
      let instance =
      subst (λ (z : Instance). IsInstance p z q.site.function) (sym (ap (λ (z : Element). z.instance) q.is))
      q.found.instance in
      let at = declared_at q.site.function q.place.name q.declaration q.decl q.signal.named in
      let there =
      subst (λ (n : ℕ). slice_get (decls q.site.function) n ≡ Some q.decl)
      (sym (ap (λ (z : Element). z.declaration) q.is)) at in
      ap (λ (d : Decl). d.ty) (decl_once p checked e is q.site.function q.decl instance there) ∙ sym q.typed

  -- each is at sample -1 to -1023, these rise, and the words are in the element's type
  pub inits_allowed : (e : Element) (is : IsElement p e) (inits : List (ℕ × ℤ))
      → AreInitsOf p e inits
      → AreInits (IsInType is.decl.ty) inits
  inits_allowed e is inits are = record {
    samples =
        All-weaker (Contains inits) (λ (i : ℕ × ℤ). IsWithin 1 max_delay i.0) sample inits (All-contains_itself inits);
    rise = are.rise;
    words =
        All-weaker (Contains inits) (λ (i : ℕ × ℤ). IsInType is.decl.ty i.1) in_type inits (All-contains_itself inits);
  }
    where
      sample : (i : ℕ × ℤ) → Contains inits i → IsWithin 1 max_delay i.0
      sample i has =
          let g = are.given i.0 i.1 has in
          let q = g.2 in
          sample_within p checked.elements q.site q.place q.amount g.0 q.declaration q.offset i.0 q.decl q.found
          q.signal q.sample

      in_type : (i : ℕ × ℤ) → Contains inits i → IsInType is.decl.ty i.1
      in_type i has =
          let g = are.given i.0 i.1 has in
          subst (λ (t : SigType). IsInType t i.1) (sym (preset_type e is i.0 g.0 g.1 g.2)) (raw_in_type g.0 g.1 i.1 g.3)
