-- The words `compile SRC DP OUT` are that command.
use Rattle.std.proofs.Common.{◌≡◌, ◌≢◌, ◌∙◌, ap, ap₂, false, not, ◌&&◌, Bool, List, ℕ}
use Rattle.std.specs.Prelude.{String, bytes_eq, true}
use Rattle.std.specs.declared.alloc.Global.{Global}
use Rattle.std.proofs.lemmas.Bool.{false_from_ne_true}
use Rattle.std.proofs.lemmas.Slice.Eq.{bytes_eq-Decides}
use Rattle.command_words.specs.Command.{compile, command_in, only_if, IsCompile}
use Rattle.command_words.specs.Compile.{AreCompile}
use Rattle.desk_core.specs.View.{Name}

differ : (a b : List ℕ) → a ≢ b → bytes_eq a b ≡ false
differ a b apart = false_from_ne_true (bytes_eq a b) (λ same. apart ((bytes_eq-Decides a b).0 same))

pub is_compile : (words : List (String Global)) (src datapath out : Name)
    → AreCompile words src datapath out
    → IsCompile words src datapath out
is_compile words src datapath out are =
    ap command_in are.are
    ∙ ap₂ (λ (from_source from_datapath : Bool).
    only_if (not from_source && (not from_datapath && true)) (compile src datapath out))
    (differ out src are.from_source) (differ out datapath are.from_datapath)
