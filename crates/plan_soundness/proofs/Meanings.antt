-- What an issue comes to is what its node gives, where its registers hold the node's operands.
use Rattle.std.proofs.Common.{◌≡◌, ℕ, ◌<◌, refl, ap, ap₂, ◌∙◌, arith, List, [], ℤ, pos}
use Rattle.lists.specs.Rows.{Rows}
use Rattle.fix_word.specs.Values.{apply_of}
use Rattle.fix_word.specs.declared.operation.Op.{Op}
use Rattle.fix_word.specs.declared.operation.Op.TheVariants as op
use Rattle.operations.specs.Operations.{operands}
use Rattle.operations.specs.Ranges.{to_nat}
use Rattle.signal_graph.specs.declared.graph.Node.{Node}
use Rattle.micro_image.specs.declared.image.Issue.{Issue}
use Rattle.micro_image.specs.Fields.{Microprogram, nth}
use Rattle.micro_image.specs.Log.{Entry, operand, value_by}
use Rattle.plan_soundness.specs.Private.Solution.{meaning_by, IsOfGraph}

-- no port past the last operand counts
pub meaning-operands : (o : Op) (node : Node) (stream : Rows) (n : ℕ) (f g : ℕ → ℤ)
    → IsOfGraph o
    → ((q : ℕ) → q < operands o → f q ≡ g q)
    → meaning_by o node stream n f ≡ meaning_by o node stream n g
meaning-operands op.Input node stream n f g of same = refl
meaning-operands op.Const node stream n f g of same = refl
meaning-operands op.Output node stream n f g of same = same 0 (omega arith)
meaning-operands op.Neg node stream n f g of same =
    ap (λ a. apply_of op.Neg node.fmt a (pos 0) (pos 0)) (same 0 (omega arith))
meaning-operands op.Pass node stream n f g of same =
    ap (λ a. apply_of op.Pass node.fmt a (pos 0) (pos 0)) (same 0 (omega arith))
meaning-operands op.Not node stream n f g of same =
    ap (λ a. apply_of op.Not node.fmt a (pos 0) (pos 0)) (same 0 (omega arith))
meaning-operands op.Sel node stream n f g of same =
    ap₂ (λ a b. apply_of op.Sel node.fmt a b (f 2)) (same 0 (omega arith)) (same 1 (omega arith))
    ∙ ap (λ c. apply_of op.Sel node.fmt (g 0) (g 1) c) (same 2 (omega arith))
meaning-operands op.Load node stream n f g of same = absurd of
meaning-operands op.Store node stream n f g of same = absurd of
meaning-operands op.Addr node stream n f g of same = absurd of
meaning-operands o node stream n f g of same =
    ap₂ (λ a b. apply_of o node.fmt a b (pos 0)) (same 0 (omega arith)) (same 1 (omega arith))

-- the value of an issue by the node's meaning
pub value-meaning : (o : Op) (micro : Microprogram) (z stream : Rows) (log : List Entry) (t n : ℕ)
    → (issue : Issue) (node : Node)
    → IsOfGraph o
    → (o ≡ op.Input → nth z t [] ≡ nth stream n [])
    → issue.arg ≡ node.arg
    → issue.fmt ≡ node.fmt
    → value_by o micro z log t issue ≡ meaning_by o node stream n (operand micro log t issue)
value-meaning op.Input micro z stream log t n issue node of row arg fmt =
    ap₂ (λ r a. nth r (to_nat a) (pos 0)) (row refl) arg
value-meaning op.Const micro z stream log t n issue node of row arg fmt = arg
value-meaning op.Output micro z stream log t n issue node of row arg fmt = refl
value-meaning op.Load micro z stream log t n issue node of row arg fmt = absurd of
value-meaning op.Store micro z stream log t n issue node of row arg fmt = absurd of
value-meaning op.Addr micro z stream log t n issue node of row arg fmt = absurd of
value-meaning o micro z stream log t n issue node of row arg fmt =
    ap (λ f. apply_of o f (operand micro log t issue 0) (operand micro log t issue 1) (operand micro log t issue 2)) fmt

-- of a node, the format and the argument count
pub meaning-node : (o : Op) (node other : Node) (stream : Rows) (n : ℕ) (f : ℕ → ℤ)
    → node.fmt ≡ other.fmt
    → node.arg ≡ other.arg
    → meaning_by o node stream n f ≡ meaning_by o other stream n f
meaning-node op.Input node other stream n f fmt arg = ap (λ a. nth (nth stream n []) (to_nat a) (pos 0)) arg
meaning-node op.Const node other stream n f fmt arg = arg
meaning-node op.Output node other stream n f fmt arg = refl
meaning-node o node other stream n f fmt arg = ap (λ fmt. apply_of o fmt (f 0) (f 1) (f 2)) fmt
