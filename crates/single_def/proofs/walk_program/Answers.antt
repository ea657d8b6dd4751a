use Rattle.std.proofs.Common.{◌∙◌, Result, sym, ap, map, option_map, subst}
use Rattle.silage_syntax.specs.Tree.{view}
use Rattle.element_rules.specs.declared.elements.Elements.{Elements}
use Rattle.element_rules.specs.declared.fault.PlacedFault.{PlacedFault}
use Rattle.elaboration_code.specs.Actions.{GivesValue}
use Rattle.elaboration_code.specs.Bodies.{view_body}
use Rattle.elaboration_code.specs.ItemActions.{run_bodies}
use Rattle.element_rules.proofs.SoundNames.{names_apart}
use Rattle.elaboration_code.proofs.ProgramTables.{program_meant}
use Rattle.single_def.proofs.walk_program.Goals as goal

pub invariant_of-tops-clause-apart : goal.invariant_of-tops-clause-apart
invariant_of-tops-clause-apart c = names_apart (view c.args.program.now) c.requires.clear

pub walk-requires : goal.walk-requires
walk-requires c =
    let p = view c.args.program.now in
    let main = c.args.names.now.main in
    let same =
    ap (λ bodies. run_bodies (map (option_map view_body) bodies) main) c.deref.ensures.value
    ∙ ap (λ bodies. run_bodies bodies main) c.in_ok-bodies.ensures in
    λ e. program_meant p (names_apart p c.requires.clear) main c.requires.main (sym same ∙ e)

pub returns : goal.returns
returns c =
    let main = c.args.names.now.main in
    let same =
    ap (λ bodies. run_bodies (map (option_map view_body) bodies) main) c.deref.ensures.value
    ∙ ap (λ bodies. run_bodies bodies main) c.in_ok-bodies.ensures in
    subst (λ (run : Result Elements PlacedFault). GivesValue c.walk.result run) same c.walk.ensures
