-- Each read finds its instance: which write a read finds, and which word.
use Rattle.std.specs.Prelude.{◌≡◌, ℕ, ◌+◌, ◌-◌, ◌*◌, ◌<◌, ◌≤◌, List, length, Option, Some, None}
use Rattle.lists.specs.Rows.{Rows}
use Rattle.datapath.specs.declared.types.Datapath.{Datapath}
use Rattle.signal_graph.specs.Values.{Words, operand, operand_words}
use Rattle.signal_graph.specs.GraphSolves.{GraphSolves}
use Rattle.signal_graph.specs.declared.graph.Graph.{Graph}
use Rattle.plan_core.specs.IsPlan.{IsPlan}
use Rattle.plan_core.specs.Lowered.{own, IsNumber}
use Rattle.plan_core.specs.Operands.{node_of}
use Rattle.plan_core.specs.declared.plan.Plan.{Plan}
use Rattle.micro_image.specs.declared.image.Image.{Image}
use Rattle.micro_image.specs.declared.image.Issue.{Issue}
use Rattle.micro_image.specs.Fields.{Microprogram, microprogram_of, nth, issue_at}
use Rattle.micro_image.specs.Log.{Place, Register, Entry, newest, Log, Content}
use Rattle.micro_image.specs.Run.{spread}
use Rattle.plan_soundness.specs.Parts.{nodes_of, node_at, edge_at, unit_at, cycle_at, ends_at}

-- the register that an issue names at port q
abbrev pub named : Issue → (q : ℕ) → Place
named issue q = Register issue.unit q (nth issue.regs q 0)

-- It is the write of the result of node u of this many samples before sample n. Where that is before sample 0 there is
-- no write, and the register still has the word with which it started.
abbrev pub IsInstance : Datapath → Plan → (u n ago : ℕ) → Option Entry → Type 0
IsInstance d p u n ago None = n < ago
IsInstance d p u n ago (Some e) = (ago ≤ n) × (e.cycle ≡ (n - ago) * d.period + ends_at d p u)

module _ (g : Graph) (d : Datapath) (p : Plan) (delays : List (List ℕ)) (micro : Microprogram) where
  -- What the issue of node v in sample n finds at port q, at cycle t. The newest write into the register is that of its
  -- operand's instance. Where it is the issue of node w of the graph, the register holds the word that this operand has
  -- in the solution.
  pub record FindsInstance (words : Words) (z : Rows) (v q n t : ℕ) (issue : Issue) : Type 0 where
    pub write : IsInstance d p (edge_at p v q).node n (edge_at p v q).delay (newest (named issue q) t (Log micro z t))
    pub word : (w : ℕ)
        → IsNumber delays (own w) v
        → Content micro z (named issue q) t ≡ operand (operand_words words n (node_of g.nodes w).edges) q

  -- on every stream each read finds its instance
  abbrev pub EachFindsInstance : Type 0
  EachFindsInstance =
      (stream : Rows) (words : Words) (v q n : ℕ) (issue : Issue)
      → GraphSolves g stream words
      → v < length (nodes_of p) → q < length (node_at p v).edges → n < length stream
      → issue_at micro (n * d.period + cycle_at p v) (unit_at p v) ≡ Some issue
      → FindsInstance words (spread micro.period stream) v q n (n * d.period + cycle_at p v) issue

-- the same of the image of a plan, whose nodes are those of the graph and of its delay lines
abbrev pub FindsInstances : {g : Graph} {d : Datapath} {p : Plan} → IsPlan g d p → Image → Type 0
FindsInstances {g} {d} {p} plan image = EachFindsInstance g d p plan.lowered.delays (microprogram_of image)
