use Rattle.std.proofs.Common.{◌∙◌, ◌<◌, length, slice_index_or, ℕ, List, Some, option_map, zero-add, sym, ap, arith}
use Rattle.std.proofs.Common.{rules}
use Rattle.silage_syntax.specs.declared.tree.Decl.{Decl}
use Rattle.elaboration_code.specs.declared.actions.Signal.{Signal}
use Rattle.silage_syntax.specs.Names.{decls}
use Rattle.silage_meaning.proofs.Elements.{declared_at}
use Rattle.name_rules.specs.Meanings.{are_dims}
use Rattle.element_rules.specs.Sizes.{first_of}
use Rattle.elaboration_compile.specs.Private.Scopes.{function_of}
use Rattle.elaboration_compile.proofs.Callees.{within, length-signals_from, first_signal}
use Rattle.lists.proofs.Each.{all_pass}
use Rattle.elaboration_compile.proofs.KnownNames.{not_located}
use Rattle.elaboration_compile.proofs.lookups.located.Goals as goal

pub bounds-scope-d : goal.bounds-scope-d
bounds-scope-d c =
    let f = function_of c.args.scope.now in
    let here = declared_at f c.args.name.now c.in-Some.d c.in-Some.decl.now (sym c.in-Some.ensures) in
    omega (
      arith,
      within (decls f) c.in-Some.d c.in-Some.decl.now here,
      ap length c.args.scope.now.counted,
      length-signals_from 0 (decls f),
    )

pub offset_bounds-scope-d : goal.offset_bounds-scope-d
offset_bounds-scope-d c =
    let f = function_of c.args.scope.now in
    let here = declared_at f c.args.name.now c.in-Some.d c.in-Some.decl.now (sym c.in-Some.ensures) in
    let inside : c.in-Some.d < length c.args.scope.now.signals.now =
    omega (
      arith,
      within (decls f) c.in-Some.d c.in-Some.decl.now here,
      ap length c.args.scope.now.counted,
      length-signals_from 0 (decls f),
    ) in
    search rules

pub returns-clause-signal : goal.returns-clause-signal
returns-clause-signal c =
    let f = function_of c.args.scope.now in
    let d = c.in-Some.d in
    let decl = c.in-Some.decl.now in
    let here = declared_at f c.args.name.now d decl (sym c.in-Some.ensures) in
    let other : Signal = record { at = 0; first = 0; count = 0 } in
    let first =
    ap (λ (signals : List Signal). (slice_index_or signals d other).first) c.args.scope.now.counted
    ∙ first_signal 0 (decls f) d decl other here ∙ zero-add (first_of (decls f) d) in
    ap (λ n. Some (n, decl)) first ∙ ap (option_map (λ (q : ℕ × Decl). (first_of (decls f) q.0, q.1))) c.in-Some.ensures

pub returns-clause-sized : goal.returns-clause-sized
returns-clause-sized c =
    let f = function_of c.args.scope.now in
    let here = declared_at f c.args.name.now c.in-Some.d c.in-Some.decl.now (sym c.in-Some.ensures) in
    all_pass (λ d. are_dims d.dims) (decls f) c.in-Some.d c.in-Some.decl.now c.args.scope.now.sized here

pub unreachable-requires : goal.unreachable-requires
unreachable-requires c =
    not_located (function_of c.args.scope.now) c.args.name.now (rw c.in-None.is at c.signal.ensures) c.requires
