-- The output of a desk that never fails is specified where its files are.
use Rattle.std.specs.Prelude.{◌≡◌, Option, Some, None, Bool, true, false, if◌then◌else◌}
use Rattle.desk_core.specs.View.{Name, Files}
use Rattle.desk_core.specs.Desk.{IsOutputSpecified}
use Rattle.desk_core.specs.Stored.{lookup}
use Rattle.desk_core.specs.NeverFails.{view_of}
use Rattle.desk_core.specs.declared.never_fails.NeverFails.{NeverFails}

pub output_always_specified : (desk : NeverFails) → IsOutputSpecified (view_of desk)
output_always_specified desk files is unspecified = go desk.created is unspecified
  where
    go : (b : Bool)
        → ◌≡◌ {A = Option Files} (if b then None else Some (lookup desk.files)) (Some files)
        → ◌≡◌ {A = Option (Option Name)} (if b then None else Some None) None
        → ⊥
    go true is none = cc
    go false is none = cc
