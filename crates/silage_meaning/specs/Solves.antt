-- What it is to solve the equations of a program over a stream of input rows.
use Rattle.std.specs.Prelude.{◌≡◌, ℕ, ◌+◌, ◌<◌, List, [], map, length, slice_get, All, Option, Some, None, ℤ, pos}
use Rattle.std.specs.Prelude.{negsuc, neg_ℤ, ◌≤ℤ◌, ◌<ℤ◌}
use Rattle.std.specs.List.{AllZip, range_with_len}
use Rattle.lists.specs.Rows.{Rows}
use Rattle.fix_word.specs.declared.types.SigType.{SigType}
use Rattle.silage_syntax.specs.declared.tree.ConstDef.{ConstDef}
use Rattle.silage_syntax.specs.declared.tree.Decl.{Decl}
use Rattle.silage_syntax.specs.declared.tree.Lit.{Lit}
use Rattle.silage_syntax.specs.Tree.{Manifest, Place, Expr, read, equation, initial, Func, Program}
use Rattle.silage_syntax.specs.Manifests.{HasValue, max_delay}
use Rattle.silage_syntax.specs.Names.{element_count, main_of}
use Rattle.silage_meaning.specs.Instances.{Element, element, IsElement, Site, IsItemAt, IsSignal, IsArray, IsTable}
use Rattle.silage_meaning.specs.Instances.{Call, IsArgument, IsResult, parameter_of, result_of, inputs, outputs}
use Rattle.silage_meaning.specs.Types.{IsInType, HasShapeOf, IsRawWord, word_types}
use Rattle.silage_meaning.specs.Value.{Words, IsEntry, IsValue}

-- where the words of an element come from
pub data Source : Type 0 where
  -- this word of the row
  word : (j : ℕ) → Source
  -- the expression's value at the site, against the type
  value : Site → Expr → SigType → Source
  -- the words of another element of the first type, taken as the second type
  same : Element → (theirs ours : SigType) → Source
  -- a number of a table, taken as the type
  number : ConstDef → (k : ℕ) → SigType → Source

-- each way in which a program defines an element
pub data IsDefined (p : Program) (e : Element) : Source → Type 0 where
  -- a parameter of main
  input : {j : ℕ}
      → slice_get (inputs p) j ≡ Some e
      → IsDefined p e (word j)
  -- the target of an equation
  equated : {s : Site} {x : Expr} (place : Place) (d k : ℕ) (decl : Decl)
      → IsItemAt p s (equation place x)
      → IsSignal s place d decl k
      → e ≡ element s.instance d k
      → IsDefined p e (value s x decl.ty)
  -- a parameter without dims, by a call's argument
  argument : {s : Site} {x : Expr} (c : Call p s) (d : ℕ) (decl : Decl)
      → IsArgument c d decl x
      → decl.dims ≡ []
      → e ≡ parameter_of c d 0
      → IsDefined p e (value s x decl.ty)
  -- an element of an array parameter, by an argument that is the name of an array
  array : (s : Site) (c : Call p s) (d m k : ℕ) (decl theirs : Decl) (place : Place)
      → IsArgument c d decl (read place None)
      → IsArray s place decl.dims m theirs
      → k < element_count decl.dims
      → e ≡ parameter_of c d k
      → IsDefined p e (same (element s.instance m k) theirs.ty decl.ty)
  -- the same, by an argument that is the name of a table
  table : {t : ConstDef} {k : ℕ} (s : Site) (c : Call p s) (d : ℕ) (decl : Decl) (place : Place)
      → IsArgument c d decl (read place None)
      → IsTable p s place decl.dims t
      → k < element_count decl.dims
      → e ≡ parameter_of c d k
      → IsDefined p e (number t k decl.ty)
  -- the target of a call's result without dims
  result : (s : Site) (c : Call p s) (r d k : ℕ) (theirs decl : Decl) (place : Place)
      → IsResult c r theirs place
      → theirs.dims ≡ []
      → IsSignal s place d decl k
      → e ≡ element s.instance d k
      → IsDefined p e (same (result_of c r 0) theirs.ty decl.ty)
  -- an element of the array that is the target of a call's array result
  array_result : (s : Site) (c : Call p s) (r d k : ℕ) (theirs decl : Decl) (place : Place)
      → IsResult c r theirs place
      → IsArray s place theirs.dims d decl
      → k < element_count decl.dims
      → e ≡ element s.instance d k
      → IsDefined p e (same (result_of c r k) theirs.ty decl.ty)

-- what a source gives at sample n
abbrev pub Gives : Program → Rows → Words → ℕ → Source → ℤ → Type 0
Gives p stream words n (word j) v = (row : List ℤ) × (slice_get stream n ≡ Some row) × (slice_get row j ≡ Some v)
Gives p stream words n (value s x ty) v = IsValue p s words n x ty v
Gives p stream words n (same e theirs ours) v = HasShapeOf theirs ours × (v ≡ words e (pos n))
Gives p stream words n (number c k ty) v = IsEntry c k ty v

-- the program gives the element the literal at sample -j
pub record IsPreset (p : Program) (e : Element) (j : ℕ) (l : Lit) (ty : SigType) : Type 0 where
  pub site : Site
  pub place : Place
  pub amount : Manifest
  pub declaration : ℕ
  pub decl : Decl
  pub offset : ℕ
  pub found : IsItemAt p site (initial place amount l)
  pub signal : IsSignal site place declaration decl offset
  pub is : e ≡ element site.instance declaration offset
  pub sample : HasValue site.indices amount j
  pub typed : ty ≡ decl.ty

-- v is the element's word at sample -j: its initial value there, or 0 where it has none
pub record IsInitial (p : Program) (e : Element) (j : ℕ) (v : ℤ) : Type 0 where
  pub given : (l : Lit) (ty : SigType) → IsPreset p e j l ty → IsRawWord l ty v
  pub absent : ((l : Lit) (ty : SigType) → IsPreset p e j l ty → ⊥) → v ≡ pos 0

-- The words solve the program over the stream: each element has its initial words at the samples before sample 0, as
-- far as delays reach, and at each sample of the stream the word that each of its definitions gives. negsuc j is
-- -(j + 1).
pub record Solves (p : Program) (stream : Rows) (words : Words) : Type 0 where
  pub past : (e : Element) (j : ℕ)
      → IsElement p e
      → j < max_delay
      → IsInitial p e (j + 1) (words e (negsuc j))
  pub present : (e : Element) (n : ℕ) (source : Source)
      → IsElement p e
      → n < length stream
      → IsDefined p e source
      → Gives p stream words n source (words e (pos n))

-- the samples that have words, in a stream of this many rows
pub record IsSample (rows : ℕ) (n : ℤ) : Type 0 where
  pub first : neg_ℤ (pos max_delay) ≤ℤ n
  pub last : n <ℤ pos rows

-- words are the same where they agree at each element and sample
abbrev pub AreSame : Program → Rows → Words → Words → Type 0
AreSame p stream a b = (e : Element) (n : ℤ) → IsElement p e → IsSample (length stream) n → a e n ≡ b e n

-- the words solve the program over the stream, and no others do
pub record IsOneSolution (p : Program) (stream : Rows) (words : Words) : Type 0 where
  pub solves : Solves p stream words
  pub unique : (others : Words) → Solves p stream others → AreSame p stream others words

-- the words of main's result elements at the samples 0 to count - 1
abbrev pub out : Program → Words → ℕ → Rows
out p words count = map (λ n. map (λ e. words e (pos n)) (outputs p)) (range_with_len 0 count)

abbrev pub types_of : (Func → List Decl) → Option Func → List SigType
types_of part None = []
types_of part (Some f) = word_types (part f)

-- the type of each input word, and of each output word, in order
abbrev pub input_types : Program → List SigType
input_types p = types_of (λ f. f.params) (main_of p)

abbrev pub output_types : Program → List SigType
output_types p = types_of (λ f. f.results) (main_of p)

-- a valid row has a word for each input, in the range of its type
abbrev pub IsRow : Program → List ℤ → Type 0
IsRow p row = AllZip IsInType (input_types p) row

abbrev pub IsStream : Program → Rows → Type 0
IsStream p stream = All (IsRow p) stream
