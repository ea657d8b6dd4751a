-- What is left to do of actions in some turns of the loops around them.
use Rattle.std.specs.Prelude.{List, Vec, map}
use Rattle.std.specs.Global.{Global}
use Rattle.elaboration_code.specs.Actions.{Action, repeat, Actions, no_action, action, view_action}
use Rattle.elaboration_run.specs.declared.parts.Part.{Part, Loop'}
use Rattle.elaboration_run.specs.declared.parts.Part.{Row_of-Part, end_of-Part, more_of-Part}
use Rattle.elaboration_run.specs.declared.parts.Part.TheVariants as p

abbrev mutual
  pub view_part : Part → Action
  view_part (p.Whole x) = view_action x.now
  view_part (p.Loop' lo hi shape row at) = repeat lo.now hi.now (view_row row) at

  pub view_row : {m : _} → Row_of-Part m → Actions
  view_row end_of-Part = no_action
  view_row (more_of-Part x rest) = action (view_part x) (view_row rest)

abbrev pub seen : Vec Part Global → List Action
seen parts = map view_part parts.items
