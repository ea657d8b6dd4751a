-- Parts of trees, from which the worked programs are made. No value rests on where a part stands in a source.
use Rattle.std.specs.Prelude.{ℕ, Bool, List, [], ◌∷◌, Some, None}
use Rattle.fix_word.specs.declared.types.FixType.{FixType}
use Rattle.fix_word.specs.declared.types.Mode.{Mode}
use Rattle.fix_word.specs.declared.types.SigType.{SigType}
use Rattle.fix_word.specs.declared.types.SigType.TheVariants as sig
use Rattle.silage_syntax.specs.declared.tree.Decl.{Decl}
use Rattle.silage_syntax.specs.declared.tree.Lit.{Lit}
use Rattle.silage_syntax.specs.declared.tree.Lit.TheVariants.{Number, Truth}
use Rattle.silage_syntax.specs.Tree.{Manifest, whole, Place, Expr, literal, read}

abbrev pub fix_type : (w f : ℕ) → Mode → FixType
fix_type w f mode = record { shape = record { w = w; f = f }; mode = mode }

abbrev pub fix : (w f : ℕ) → Mode → SigType
fix w f mode = sig.Fix (fix_type w f mode)

-- a declared name
abbrev pub declaration : (name dims : List ℕ) → SigType → Decl
declaration name dims ty = record { name = name; at = 0; dims = dims; ty = ty }

-- a name without a subscript, one with a subscript
abbrev pub bare : List ℕ → Place
bare name = record { name = name; at = 0; subs = [] }

abbrev pub entry_of : List ℕ → Manifest → Place
entry_of name k = record { name = name; at = 0; subs = k ∷ [] }

-- the word of a name at this sample, and that of so many samples ago
abbrev pub now : List ℕ → Expr
now name = read (bare name) None

abbrev pub ago : List ℕ → ℕ → Expr
ago name k = read (bare name) (Some (whole k 0))

-- digits / 10 ^ places
abbrev pub decimal_number : (negative : Bool) → (digits places : ℕ) → Lit
decimal_number negative digits places = Number negative digits places 0

abbrev pub number : (negative : Bool) → (digits places : ℕ) → Expr
number negative digits places = literal (decimal_number negative digits places)

abbrev pub truth : Bool → Expr
truth value = literal (Truth value 0)
