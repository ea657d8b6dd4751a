-- How a version reads the fields of a file, a row a field.
use Rattle.std.specs.Prelude.{ℕ, List, ℤ}
use Rattle.fix_word.specs.declared.operation.Op.{Op}
use Rattle.fix_word.specs.declared.types.Format.{Format}
use Rattle.operations.specs.declared.units.Kind.{Kind}
use Rattle.micro_file.specs.Private.Fields.{Reading}

pub record FormAt : Type 0 where
  pub period : List ℕ → Reading ℕ
  pub unroll : List ℕ → Reading ℕ
  -- how many input or output words there are
  pub channels : List ℕ → Reading ℕ
  -- of an input word
  pub width : List ℕ → Reading ℕ
  -- how many units there are
  pub units : List ℕ → Reading ℕ
  pub kind : List ℕ → Reading Kind
  pub latency : List ℕ → Reading ℕ
  -- at most the latency
  pub gap : (latency : ℕ) → List ℕ → Reading ℕ
  -- how many registers a file has
  pub registers : List ℕ → Reading ℕ
  -- how many cells a ram has
  pub cells : List ℕ → Reading ℕ
  -- so many initial words of registers or cells
  pub initial : (count : ℕ) → List ℕ → Reading (List ℤ)
  -- the number of an acu's ram
  pub ram : List ℕ → Reading ℕ
  -- how long that field is, in bytes or in bits
  pub ram_length : ℕ
  -- how many buses there are
  pub buses : List ℕ → Reading ℕ
  -- one of this kind
  pub operation : Kind → List ℕ → Reading Op
  pub format : Op → List ℕ → Reading Format
  -- where there are so many input and output words
  pub argument : Op → (inputs outs : ℕ) → List ℕ → Reading ℤ
  -- the registers that an issue names, of which its operation reads so many
  pub named : (files : List (List ℤ)) → (reads : ℕ) → List ℕ → Reading (List ℕ)
