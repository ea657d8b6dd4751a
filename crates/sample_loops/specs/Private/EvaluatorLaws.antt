-- The laws of an evaluator that runs rows: stretches of rows follow one another.
use Rattle.std.proofs.Common.{◌≡◌, ◌∙◌, sym, ap, ap₂, subst, refl, [], ◌++◌, length, map, ℕ, append_assoc}
use Rattle.std.proofs.lemmas.List.{append-nil, length-append}
use Rattle.std.specs.List.{range_with_len}
use Rattle.lists.specs.Rows.{Rows}
use Rattle.equation_eval.specs.Evaluation.{Evaluation}
use Rattle.micro_image.specs.declared.conflict.Conflict.{Conflict}
use Rattle.signal_graph.specs.GraphSolves.{GraphSolves, out_row}
use Rattle.signal_graph.specs.Values.{Words}
use Rattle.signal_graph.specs.declared.graph.Graph.{Graph}
use Rattle.signal_graph.proofs.Prefix.{solves_before}
use Rattle.sample_loops.specs.Evaluators.{rows_solved, SolvesRows, EvaluatesRows}
use Rattle.sample_loops.specs.Private.Ranges.{range_more}

pub same_graph : (evaluator : Evaluation) → evaluator.graph ≡ evaluator.graph
same_graph evaluator = refl

pub same_on : (old mid new : Evaluation)
    → mid.graph ≡ old.graph
    → new.graph ≡ mid.graph
    → new.graph ≡ old.graph
same_on old mid new first second = second ∙ first

solved_more : (graph : Graph) (words : Words) (before rows more : Rows)
    → rows_solved graph words before rows ++ rows_solved graph words (before ++ rows) more
    ≡ rows_solved graph words before (rows ++ more)
solved_more graph words before rows more =
    let row = out_row graph words in
    let first = map row (range_with_len (length before) (length rows)) in
    ap (λ (a : ℕ). first ++ map row (range_with_len a (length more))) (length-append before rows)
    ∙ sym (range_more row (length before) (length rows) (length more))
    ∙ ap (λ (n : ℕ). map row (range_with_len (length before) n)) (sym (length-append rows more))

-- no rows
pub evaluates_none : (evaluator : Evaluation) → EvaluatesRows evaluator [] [] evaluator
evaluates_none evaluator = record { graph = refl; ran = sym (append-nil evaluator.ran); put = λ words solves. refl }

-- what is put over more rows, by an evaluator that ran rows before
solves_from : (old mid : Evaluation) (rows puts more others : Rows)
    → EvaluatesRows old rows puts mid
    → SolvesRows mid more others
    → SolvesRows (record { graph = old.graph; ran = old.ran ++ rows }) more others
solves_from old mid rows puts more others ran solves =
    subst (λ (g : Graph). SolvesRows (record { graph = g; ran = old.ran ++ rows }) more others) ran.graph
    (subst (λ (before : Rows). SolvesRows (record { graph = mid.graph; ran = before }) more others) ran.ran solves)

-- rows and then more
pub evaluates_more : (old mid new : Evaluation) (rows puts more others : Rows)
    → EvaluatesRows old rows puts mid
    → EvaluatesRows mid more others new
    → EvaluatesRows old (rows ++ more) (puts ++ others) new
evaluates_more old mid new rows puts more others first second =
    let all = append_assoc old.ran rows more in
    let here = solves_from old mid rows puts more others first second.put in
    record {
      graph = second.graph ∙ first.graph;
      ran = second.ran ∙ ap (λ (ran : Rows). ran ++ more) first.ran ∙ all;
      put = λ words solves.
          let both : GraphSolves old.graph ((old.ran ++ rows) ++ more) words =
          subst (λ (ran : Rows). GraphSolves old.graph ran words) (sym all) solves in
          let before = solves_before old.graph (old.ran ++ rows) more words both in
          ap₂ ◌++◌ (first.put words before) (here words both) ∙ solved_more old.graph words old.ran rows more;
    }

pub evaluates_solves : (old new : Evaluation) (rows puts : Rows)
    → EvaluatesRows old rows puts new
    → SolvesRows old rows puts
evaluates_solves old new rows puts ran = ran.put

-- an evaluator meets no conflict
pub no_conflict : (old mid new : Evaluation) (rows puts more : Rows) (conflict : Conflict)
    → EvaluatesRows old rows puts mid
    → ⊥
    → ⊥
no_conflict old mid new rows puts more conflict ran met = met
