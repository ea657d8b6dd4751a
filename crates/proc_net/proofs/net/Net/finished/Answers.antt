use Rattle.std.proofs.Common.{◌≡◌, ◌==◌, ℕ, true, length, List, ap, sym, subst, ◌∙◌}
use Rattle.std.specs.List.{list_all}
use Rattle.net_turns.specs.Turns.{is_finished}
use Rattle.proc_net.specs.declared.processor.Processor.{Processor}
use Rattle.net_solution.specs.RowLists.{count_in}
use Rattle.net_solution.specs.Solutions.{shape_of}
use Rattle.proc_net.specs.Nets.{NetState, parts_of, points_of, count_of}
use Rattle.proc_net.specs.Private.Views.{net_of}
use Rattle.proc_net.proofs.Ending.{finished_is, all_stand}
use Rattle.proc_net.proofs.net.Net.finished.Goals as goal

pub returns-clause-finished : goal.returns-clause-finished
returns-clause-finished c =
    c.all_ran.ensures
    ∙ ap (λ (n : ℕ). list_all (λ (processor : Processor). processor.ran == n) c.as_slice.result.now) c.count.ensures
    ∙ ap (λ (list : List Processor).
    list_all (λ (processor : Processor). processor.ran == count_in c.self.inside.stream) list)
    c.as_slice.ensures
    ∙ finished_is (net_of c.self.inside)
    ∙ ap (λ (net : NetState). is_finished (shape_of (parts_of net)) (points_of net)) c.self.view_is

pub returns-clause-rows : goal.returns-clause-rows
returns-clause-rows c = λ done.
    subst (λ (net : NetState). is_finished (shape_of (parts_of net)) (points_of net) ≡ true
    → count_of net ≡ length (parts_of net).stream) c.self.view_is
    (all_stand (net_of c.self.inside) c.self.invariant) (sym (returns-clause-finished c) ∙ done)
