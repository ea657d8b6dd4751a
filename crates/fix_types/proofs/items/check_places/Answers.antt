use Rattle.std.proofs.Common.{◌∙◌, sym, ap, arith}
use Rattle.fault_order.specs.Private.FirstMet.{first_in}
use Rattle.fix_types.specs.Private.Scopes.{program_of, function_of}
use Rattle.type_rules.specs.Private.Sound.{HasType}
use Rattle.fix_types.proofs.ItemSteps.{places_end, place_of_all}
use Rattle.fix_types.proofs.items.check_places.Goals as goal

pub returns : goal.returns
returns c =
    let end =
    places_end (program_of c.args.scope.now) (function_of c.args.scope.now) c.args.results.now c.args.places.now
    c.loop-i.i (omega (arith, c.shorter-i-end.ensures)) in
    sym (ap (λ row. first_in row) end) ∙ c.loop-i.invariant

pub type_of-requires : goal.type_of-requires
type_of-requires c =
    place_of_all (HasType (program_of c.args.scope.now) (function_of c.args.scope.now)) c.args.places.now c.loop-i.i
    c.index-places-i.result c.requires (omega (arith, c.shorter-i-end.ensures)) c.index-places-i.is
