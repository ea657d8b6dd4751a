-- The words of `compile`, in full.
use Rattle.std.specs.Prelude.{◌≡◌, ◌≢◌, List, [], ◌∷◌, String, codes}
use Rattle.std.specs.declared.alloc.Global.{Global}
use Rattle.command_words.specs.Command.{names_of}
use Rattle.desk_core.specs.View.{Name}

-- the words are `compile SRC DP OUT`, and OUT is neither of the two others
pub record AreCompile (words : List (String Global)) (src datapath out : Name) : Type 0 where
  pub are : names_of words ≡ codes "compile" ∷ src ∷ datapath ∷ out ∷ []
  pub from_source : out ≢ src
  pub from_datapath : out ≢ datapath
