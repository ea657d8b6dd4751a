-- The parameters, the results and the locals are declared one after another.
use Rattle.std.proofs.Common.{◌≡◌, ◌∙◌, ◌++◌, sym, ap₂}
use Rattle.silage_syntax.specs.Tree.{view_func}
use Rattle.name_rules.specs.Meanings.{names_of}
use Rattle.name_check.proofs.Declared.{met, all_names, params_fail, results_fail, locals_fail, after_results}
use Rattle.name_check.proofs.declarations.signals_of.Goals as goal

pub returns-in_err-declare_all-clause-met : goal.returns-in_err-declare_all-clause-met
returns-in_err-declare_all-clause-met c =
    let same = ap₂ (met c.args.tops.now) c.new-signals.ensures c.deref.ensures in
    params_fail c.args.tops.now (view_func c.args.func.now) c.from_residual.result _ c.from_residual.ensures.1
    (λ n. sym same ∙ c.in_err-declare_all.ensures.met n)

pub returns-in_err-declare_all-2-clause-met : goal.returns-in_err-declare_all-2-clause-met
returns-in_err-declare_all-2-clause-met c =
    let tops = c.args.tops.now in
    let f = view_func c.args.func.now in
    let params : c.declare_all.new.signals ≡ names_of f.params =
    c.in_ok-declare_all.ensures.names
    ∙ ap₂ (λ names ds. names ++ names_of ds) c.new-signals.ensures c.deref.ensures in
    results_fail tops f (sym (ap₂ (met tops) c.new-signals.ensures c.deref.ensures) ∙ c.in_ok-declare_all.ensures.met)
    c.from_residual-in_err-declare_all-2.result _ c.from_residual-in_err-declare_all-2.ensures.1
    (λ n. sym (ap₂ (met tops) params c.deref-2.ensures) ∙ c.in_err-declare_all-2.ensures.met n)

pub returns-in_err-declare_all-3-clause-met : goal.returns-in_err-declare_all-3-clause-met
returns-in_err-declare_all-3-clause-met c =
    let tops = c.args.tops.now in
    let f = view_func c.args.func.now in
    let params : c.declare_all.new.signals ≡ names_of f.params =
    c.in_ok-declare_all.ensures.names
    ∙ ap₂ (λ names ds. names ++ names_of ds) c.new-signals.ensures c.deref.ensures in
    let results : c.declare_all-2.new.signals ≡ names_of f.params ++ names_of f.results =
    c.in_ok-declare_all-2.ensures.names ∙ ap₂ (λ names ds. names ++ names_of ds) params c.deref-2.ensures in
    locals_fail tops f (sym (ap₂ (met tops) c.new-signals.ensures c.deref.ensures) ∙ c.in_ok-declare_all.ensures.met)
    (sym (ap₂ (met tops) params c.deref-2.ensures) ∙ c.in_ok-declare_all-2.ensures.met)
    c.from_residual-in_err-declare_all-3.result _ c.from_residual-in_err-declare_all-3.ensures.1
    (λ n. sym (ap₂ (met tops) results c.deref-3.ensures) ∙ c.in_err-declare_all-3.ensures.met n)

pub returns : goal.returns
returns c =
    let tops = c.args.tops.now in
    let f = view_func c.args.func.now in
    let params : c.declare_all.new.signals ≡ names_of f.params =
    c.in_ok-declare_all.ensures.names
    ∙ ap₂ (λ names ds. names ++ names_of ds) c.new-signals.ensures c.deref.ensures in
    let results : c.declare_all-2.new.signals ≡ names_of f.params ++ names_of f.results =
    c.in_ok-declare_all-2.ensures.names ∙ ap₂ (λ names ds. names ++ names_of ds) params c.deref-2.ensures in
    record {
      met =
          after_results tops f
          (sym (ap₂ (met tops) c.new-signals.ensures c.deref.ensures) ∙ c.in_ok-declare_all.ensures.met)
          (sym (ap₂ (met tops) params c.deref-2.ensures) ∙ c.in_ok-declare_all-2.ensures.met)
          ∙ sym (ap₂ (met tops) results c.deref-3.ensures) ∙ c.in_ok-declare_all-3.ensures.met;
      names =
          c.in_ok-declare_all-3.ensures.names ∙ ap₂ (λ names ds. names ++ names_of ds) results c.deref-3.ensures
          ∙ all_names tops f;
    }
