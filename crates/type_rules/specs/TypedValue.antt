-- The value of a typed expression, in the words of the processor's operations and of reads alone. No type is in it.
use Rattle.std.specs.Prelude.{◌≡◌, ℕ, List, [], ◌∷◌, slice_get, slice_index_or, Option, Some, None, ℤ, pos, ◌-ℤ◌, ◌*ℤ◌}
use Rattle.fix_word.specs.Operations.{IsApply}
use Rattle.fix_word.specs.declared.types.Format.{Format}
use Rattle.silage_syntax.specs.declared.tree.ConstDef.{ConstDef}
use Rattle.silage_syntax.specs.declared.tree.Decl.{Decl}
use Rattle.silage_syntax.specs.Tree.{Manifest, Place, Program}
use Rattle.silage_syntax.specs.Manifests.{Indices, IsAmount, LooksBack}
use Rattle.silage_syntax.specs.Names.{declared, table_named, IsOffset}
use Rattle.silage_meaning.specs.Instances.{element, Site, IsSignal}
use Rattle.silage_meaning.specs.Value.{Words}
use Rattle.type_rules.specs.TypedTree.{TypedExpr, raw, read, node, Parts, no_part, part}
use Rattle.type_rules.specs.Translation.{typed_table}

-- the format of a node, with a shift of so many bits as the amount says
pub data HasFormat (indices : Indices) (fmt : Format) : Option Manifest → Format → Type 0 where
  as_it_is : HasFormat indices fmt None fmt
  by_amount : {amount : Manifest} {k : ℕ}
      → IsAmount indices amount k
      → HasFormat indices fmt (Some amount) (record fmt { shift = fmt.shift *ℤ pos k })

-- the operand of a port; an operation ignores ports that it does not have
abbrev pub operand : List ℤ → (port : ℕ) → ℤ
operand values port = slice_index_or values port (pos 0)

-- In the program, at a site, over words, at sample n.
module _ (p : Program) (s : Site) (words : Words) (n : ℕ) where
  -- v is the word of a signal, this many samples ago, or a raw word of a table
  pub data HasRead (place : Place) (delay : Option Manifest) (v : ℤ) : Type 0 where
    signal : (d k ago : ℕ) (decl : Decl)
        → IsSignal s place d decl k
        → LooksBack s.indices delay ago
        → v ≡ words (element s.instance d k) (pos n -ℤ pos ago)
        → HasRead place delay v
    number : (k : ℕ) (c : ConstDef)
        → declared s.function place.name ≡ None
        → table_named p place.name ≡ Some c
        → IsOffset s.indices c.dims place.subs k
        → delay ≡ None
        → slice_get (typed_table c).words k ≡ Some v
        → HasRead place delay v

  abbrev mutual
    -- v is the value of the typed expression
    pub HasTypedValue : TypedExpr → ℤ → Type 0
    HasTypedValue (raw z) v = v ≡ z
    HasTypedValue (read place delay) v = HasRead place delay v
    HasTypedValue (node op fmt parts amount) v =
        (at : Format) × (values : List ℤ) × HasFormat s.indices fmt amount at × HaveTypedValues parts values
        × IsApply op at (operand values 0) (operand values 1) (operand values 2) v

    -- the values of the parts, in the order of the ports
    pub HaveTypedValues : Parts → List ℤ → Type 0
    HaveTypedValues no_part [] = Unit {0}
    HaveTypedValues (part x rest) (v ∷ values) = HasTypedValue x v × HaveTypedValues rest values
    HaveTypedValues _ _ = ⊥
