use Rattle.std.proofs.Common.{◌∙◌, ap, List}
use Rattle.std.specs.Option.{option_or}
use Rattle.silage_syntax.specs.declared.tree.Decl.{Decl}
use Rattle.silage_syntax.specs.Tree.{view_func}
use Rattle.type_rules.specs.Private.Signals.{type_in, decl_type}
use Rattle.type_rules.proofs.SignalTypes.{signals_are}
use Rattle.fix_types.proofs.signals.Signals.of.Goals as goal

pub returns : goal.returns
returns c =
    signals_are (view_func c.args.func.now) c.new-signals.result c.declare_all.new.self c.declare_all-2.new.self
    c.declare_all-3.new.self c.new-signals.ensures
    (λ q.
    c.in_ok-declare_all.ensures q
    ∙ ap (λ (ds : List Decl). option_or (type_in c.new-signals.result q) (decl_type ds q)) c.deref.ensures)
    (λ q.
    c.in_ok-declare_all-2.ensures q
    ∙ ap (λ (ds : List Decl). option_or (type_in c.declare_all.new.self q) (decl_type ds q)) c.deref-2.ensures)
    (λ q.
    c.in_ok-declare_all-3.ensures q
    ∙ ap (λ (ds : List Decl). option_or (type_in c.declare_all-2.new.self q) (decl_type ds q)) c.deref-3.ensures)
