-- What defines an element without an expression has the shape of the element.
use Rattle.std.proofs.Common.{◌≡◌, refl, sym, subst, ◌∙◌, ap, ℕ, List, slice_get, Option, Some, None, ℤ}
use Rattle.std.specs.Prelude.{option_map, bytes_eq}
use Rattle.std.specs.Option.{option_or}
use Rattle.std.proofs.lemmas.Option.{slice_get-map}
use Rattle.lists.proofs.Places.{some_once}
use Rattle.fault_order.specs.Ranked.{IsClear}
use Rattle.fault_order.specs.Rules.{parts, none, ◌▸◌}
use Rattle.fault_order.proofs.TableFaults.{rule_holds}
use Rattle.fix_word.specs.declared.types.SigType.{SigType}
use Rattle.fix_word.specs.declared.types.SigType.TheVariants.{Fix, Bool as Truths}
use Rattle.silage_syntax.specs.declared.tree.ConstDef.{ConstDef}
use Rattle.silage_syntax.specs.declared.tree.Decl.{Decl}
use Rattle.silage_syntax.specs.declared.tree.Lit.{Lit}
use Rattle.silage_syntax.specs.Tree.{Place, Expr, read, call, Func, table, Program}
use Rattle.silage_syntax.specs.Names.{declared, table_named}
use Rattle.silage_meaning.specs.Instances.{Element, Site, Call, IsArgument, IsResult}
use Rattle.silage_meaning.specs.Types.{HasShapeOf, name_type, table_type}
use Rattle.silage_meaning.specs.Value.{IsEntry}
use Rattle.silage_meaning.specs.Solves.{Source, same, number, IsDefined, input, equated, argument, array}
use Rattle.silage_meaning.specs.Solves.{table as by_table, result, array_result}
use Rattle.name_rules.specs.NameFaults.{name_faults}
use Rattle.type_rules.specs.TypeFaults.{type_faults}
use Rattle.type_rules.specs.TypeRules.{is_same_shape, misfit, name_rules, expr_rules, literal_rules, argument_rules}
use Rattle.type_rules.specs.TypeRules.{place_rules, call_rules}
use Rattle.type_rules.specs.Translation.{word_of}
use Rattle.type_rules.proofs.Literals.{Passes, raw_back}
use Rattle.type_rules.proofs.Tests.{shape_is}
use Rattle.type_rules.proofs.SoundNames.{table_found}
use Rattle.loop_expand.specs.FlatOf.{IsTableWord}
use Rattle.loop_expand.proofs.Items.{head_passes, tail_passes, each_passes, argument_passes, place_passes, taking}
use Rattle.loop_expand.proofs.Items.{site_passes, top_passes}

shape_back : (a b : SigType) → HasShapeOf a b → HasShapeOf b a
shape_back (Fix a) (Fix b) h = sym h
shape_back (Fix a) Truths h = absurd h
shape_back Truths (Fix b) h = absurd h
shape_back Truths Truths h = h

pub fits : (known : Option SigType) (ty wanted : SigType) (at : ℕ)
    → known ≡ Some ty
    → Passes (name_rules known wanted at)
    → HasShapeOf ty wanted
fits None ty wanted at e h = absurd (cc e)
fits (Some r) ty wanted at e h =
    let same : r ≡ ty = some_once refl e in
    subst (λ (z : SigType). HasShapeOf z wanted) same
    (shape_is r wanted (rule_holds (is_same_shape r wanted) (misfit wanted at) h))

-- the type of a name that is declared, and of one that is a table's
abbrev typed_by : Option (ℕ × Decl) → Option ConstDef → Option SigType
typed_by d c = option_or (option_map (λ (d : ℕ × Decl). d.1.ty) d) (table_type c)

pub declared_type : (p : Program) (f : Func) (name : List ℕ) (d : ℕ) (decl : Decl)
    → declared f name ≡ Some (d, decl)
    → name_type p f name ≡ Some decl.ty
declared_type p f name d decl e = ap (λ o. typed_by o (table_named p name)) e

pub table_type_is : (p : Program) (f : Func) (name : List ℕ) (c : ConstDef)
    → declared f name ≡ None
    → table_named p name ≡ Some c
    → name_type p f name ≡ Some (Fix c.ty)
table_type_is p f name c e g = ap (λ o. typed_by o (table_named p name)) e ∙ ap table_type g

-- the other element has the shape, and so has the number of the table
abbrev pub SourceFits : Source → Type 0
SourceFits (same e theirs ours) = HasShapeOf theirs ours
SourceFits (number c k ty) = HasShapeOf (Fix c.ty) ty
SourceFits _ = Unit {0}

module _ (p : Program) (names : IsClear (name_faults p)) (types : IsClear (type_faults p)) where
  call_passes : (s : Site) (c : Call p s) → Passes (call_rules p s.function (Some c.callee) c.places c.args)
  call_passes s c =
      subst (λ (o : Option Func). Passes (call_rules p s.function o c.places c.args)) c.named
      (site_passes p names types s (call c.places c.name c.args c.at) c.found)

  pub argument_fits : (s : Site) (c : Call p s) (d : ℕ) (decl : Decl) (x : Expr)
      → IsArgument c d decl x
      → Passes (expr_rules p s.function x decl.ty)
  argument_fits s c d decl x is =
      argument_passes p s.function c.callee.params c.args
      (head_passes (parts (argument_rules p s.function c.callee.params c.args))
      (parts (place_rules p s.function c.callee.results c.places) ▸ none) (call_passes s c))
      d decl x is.parameter is.argument

  place_fits : (s : Site) (c : Call p s) (r : ℕ) (theirs : Decl) (place : Place)
      → IsResult c r theirs place
      → Passes (taking p s.function theirs place)
  place_fits s c r theirs place is =
      place_passes p s.function c.callee.results c.places
      (head_passes (parts (place_rules p s.function c.callee.results c.places)) none
      (tail_passes (parts (argument_rules p s.function c.callee.params c.args))
      (parts (place_rules p s.function c.callee.results c.places) ▸ none) (call_passes s c)))
      r theirs place is.result is.taken

  taken : (s : Site) (c : Call p s) (r d : ℕ) (theirs decl : Decl) (place : Place)
      → IsResult c r theirs place
      → declared s.function place.name ≡ Some (d, decl)
      → HasShapeOf theirs.ty decl.ty
  taken s c r d theirs decl place is named =
      shape_back decl.ty theirs.ty
      (fits (name_type p s.function place.name) decl.ty theirs.ty place.at
      (declared_type p s.function place.name d decl named) (place_fits s c r theirs place is))

  pub source_fits : (e : Element) (source : Source) → IsDefined p e source → SourceFits source
  source_fits e _ (input at) = tt
  source_fits e _ (equated place d k decl found signal at) = tt
  source_fits e _ (argument c d decl is scalar at) = tt
  source_fits e _ (array s c d m k decl theirs place is arr below at) =
      fits (name_type p s.function place.name) theirs.ty decl.ty place.at
      (declared_type p s.function place.name m theirs arr.named) (argument_fits s c d decl (read place None) is)
  source_fits e _ (by_table {t = t} s c d decl place is tab below at) =
      fits (name_type p s.function place.name) (Fix t.ty) decl.ty place.at
      (table_type_is p s.function place.name t tab.undeclared tab.named) (argument_fits s c d decl (read place None) is)
  source_fits e _ (result s c r d k theirs decl place is scalar signal at) =
      taken s c r d theirs decl place is signal.named
  source_fits e _ (array_result s c r d k theirs decl place is arr below at) =
      taken s c r d theirs decl place is arr.named

  -- a number of a table, against a type of its shape
  entry_of : (c : ConstDef) (k : ℕ) (ty : SigType) (v : ℤ)
      → HasShapeOf (Fix c.ty) ty
      → ((l : Lit) → slice_get c.words k ≡ Some l → Passes (literal_rules l (Fix c.ty)))
      → (o : Option Lit)
      → slice_get c.words k ≡ o
      → option_map (λ l. word_of l (Fix c.ty)) o ≡ Some v
      → IsEntry c k ty v
  entry_of c k ty v shape pass None e h = absurd (cc h)
  entry_of c k ty v shape pass (Some l) e h =
      record {
        shape = shape;
        number = l;
        entry = e;
        word = raw_back l (Fix c.ty) v (pass l e) (sym (some_once refl h));
      }

  pub table_entry : (name : List ℕ) (c : ConstDef) (k : ℕ) (ty : SigType) (v : ℤ)
      → table_named p name ≡ Some c
      → HasShapeOf (Fix c.ty) ty
      → IsTableWord c k v
      → IsEntry c k ty v
  table_entry name c k ty v named shape is =
      entry_of c k ty v shape
      (table_found (λ (t : ConstDef). bytes_eq t.name name)
      (λ (t : ConstDef). (l : Lit) → slice_get t.words k ≡ Some l → Passes (literal_rules l (Fix t.ty))) p.tops
      (λ j t at l there.
      each_passes (λ word. literal_rules word (Fix t.ty)) t.words (top_passes p names types j (table t) at) k l
      there) c named)
      (slice_get c.words k) refl (sym (slice_get-map (λ l. word_of l (Fix c.ty)) c.words k) ∙ is)
