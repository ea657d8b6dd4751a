-- Functions that were looked at, each with what is done of its actions.
use Rattle.std.specs.Prelude.{[], map, Option, option_map, IfSome}
use Rattle.elaboration_code.specs.Actions.{Body, actions_of, view_action}
use Rattle.elaboration_run.specs.Private.Parts.{seen}
use Rattle.elaboration_run.specs.Private.EmptyLoops.{DoSame}
use Rattle.elaboration_run.specs.declared.function.Function.{Function}

abbrev pub view_function : Function → Body
view_function f = record {
  at = f.body.now.at;
  count = f.body.now.count;
  given = f.body.now.given;
  signals = f.body.now.signals;
  actions = actions_of (seen f.parts);
}

abbrev pub view_of_top : Option Function → Option Body
view_of_top looked_at = option_map view_function looked_at

-- an instance does with the parts what it does with all actions of the body
abbrev pub IsLookedAt : Function → Type 0
IsLookedAt f = DoSame [] (seen f.parts) (map view_action f.body.now.actions.items)

abbrev pub IsTopLookedAt : Option Function → Type 0
IsTopLookedAt looked_at = IfSome looked_at IsLookedAt
