-- What names mean, by their places and the types of signals.
use Rattle.std.proofs.Common.{◌≡◌, ◌∙◌, ℕ, List, Option, Some, None, sym, ap}
use Rattle.std.specs.Option.{option_or}
use Rattle.fix_word.specs.declared.types.SigType.{SigType}
use Rattle.silage_syntax.specs.declared.tree.ConstDef.{ConstDef}
use Rattle.silage_syntax.specs.Tree.{Func, Program}
use Rattle.silage_syntax.specs.Names.{table_named}
use Rattle.silage_meaning.specs.Types.{name_type, table_type}
use Rattle.type_rules.specs.Private.Signals.{signal_type}
use Rattle.type_rules.specs.Private.Sound.{IsSoundType, HasSoundTypes}

module _ (p : Program) (f : Func) (name : List ℕ) where
  pub signal_found : (o : Option SigType) (ty : SigType)
      → o ≡ signal_type f name
      → o ≡ Some ty
      → Some ty ≡ name_type p f name
  signal_found o ty e is = ap (λ (x : Option SigType). option_or x (table_type (table_named p name))) (sym is ∙ e)

  pub table_found : (o : Option SigType) (t : Option ConstDef)
      → o ≡ signal_type f name
      → o ≡ None
      → t ≡ table_named p name
      → table_type t ≡ name_type p f name
  table_found o t e is table =
      ap table_type table ∙ ap (λ (x : Option SigType). option_or x (table_type (table_named p name))) (sym is ∙ e)

  pub found_sound : HasSoundTypes p f → (ty : SigType) → Some ty ≡ name_type p f name → IsSoundType ty
  found_sound types ty e = types.names name ty (sym e)
