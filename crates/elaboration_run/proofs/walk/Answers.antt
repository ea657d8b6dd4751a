use Rattle.std.proofs.Common.{◌∙◌, Result, sym, ap, map, subst}
use Rattle.element_rules.specs.declared.elements.Elements.{Elements}
use Rattle.element_rules.specs.declared.fault.PlacedFault.{PlacedFault}
use Rattle.elaboration_code.specs.Actions.{GivesValue}
use Rattle.elaboration_code.specs.ItemActions.{run_bodies}
use Rattle.elaboration_run.specs.Private.Functions.{view_of_top}
use Rattle.elaboration_run.proofs.SameFunctions.{functions_same}
use Rattle.elaboration_run.proofs.walk.Goals as goal

pub walk_functions-requires : goal.walk_functions-requires
walk_functions-requires c =
    let main = c.args.main in
    let same =
    ap (λ fs. run_bodies (map view_of_top fs) main) c.deref.ensures.value
    ∙ functions_same main c.in_ok-functions.functions.items c.args.bodies.now c.in_ok-functions.ensures.looked
    c.in_ok-functions.ensures.bodies in
    λ e. c.requires (sym same ∙ e)

pub returns : goal.returns
returns c =
    let main = c.args.main in
    subst (λ (run : Result Elements PlacedFault). GivesValue c.walk_functions.result run)
    (ap (λ fs. run_bodies (map view_of_top fs) main) c.deref.ensures.value
    ∙ functions_same main c.in_ok-functions.functions.items c.args.bodies.now c.in_ok-functions.ensures.looked
    c.in_ok-functions.ensures.bodies) c.walk_functions.ensures
