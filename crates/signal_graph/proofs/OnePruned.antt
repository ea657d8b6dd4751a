-- A graph has one pruned graph at most.
use Rattle.std.proofs.Common.{◌≡◌, refl, sym, subst, ap, ◌∙◌, ℕ, List, [], ◌∷◌, map}
use Rattle.std.specs.List.{AllZip}
use Rattle.std.proofs.lemmas.List.Kept.{AllPairs-from_increasing}
use Rattle.signal_graph.specs.declared.graph.Edge.{Edge}
use Rattle.signal_graph.specs.declared.graph.Node.{Node}
use Rattle.signal_graph.specs.declared.graph.Graph.{Graph}
use Rattle.signal_graph.specs.GraphSolves.{node_of}
use Rattle.signal_graph.proofs.OneRising.{same_rising}
use Rattle.signal_graph.proofs.Same.{some_once, same_edge, same_graph}
use Rattle.signal_graph.specs.Pruned.{AreUsed, IsEdgeOf, IsRenumbered, IsPruned}

pub kept_once : (g : Graph) (xs ys : List ℕ) → AreUsed g xs → AreUsed g ys → xs ≡ ys
kept_once g xs ys a b =
    same_rising (λ v. v) xs ys (AllPairs-from_increasing xs a.rise) (AllPairs-from_increasing ys b.rise)
    (λ v h. (b.used v).1 ((a.used v).0 h)) (λ v h. (a.used v).1 ((b.used v).0 h))

edge_once : (kept : List ℕ) (a b old : Edge) → IsEdgeOf kept a old → IsEdgeOf kept b old → a ≡ b
edge_once kept a b old x y = same_edge a b (some_once _ a.node b.node x.node y.node) (x.delay ∙ sym y.delay)

-- a list that is related to another one, place by place, where each element is determined
pub zip_once : {A B : Type 0} (R : A → B → Type 0)
    → ((a b : A) (old : B) → R a old → R b old → a ≡ b)
    → (xs ys : List A) (olds : List B)
    → AllZip R xs olds
    → AllZip R ys olds
    → xs ≡ ys
zip_once R once [] [] olds h k = refl
zip_once R once [] (y ∷ ys) [] h k = absurd k
zip_once R once [] (y ∷ ys) (o ∷ os) h k = absurd h
zip_once R once (x ∷ xs) ys [] h k = absurd h
zip_once R once (x ∷ xs) [] (o ∷ os) h k = absurd k
zip_once {A} R once (x ∷ xs) (y ∷ ys) (o ∷ os) h k =
    ap (λ (z : A). z ∷ xs) (once x y o h.0 k.0) ∙ ap (λ (zs : List A). y ∷ zs) (zip_once R once xs ys os h.1 k.1)

node_once : (kept : List ℕ) (a b old : Node) → IsRenumbered kept a old → IsRenumbered kept b old → a ≡ b
node_once kept a b old x y =
    x.node
    ∙ ap (λ (edges : List Edge). record old { edges = edges })
    (zip_once (IsEdgeOf kept) (edge_once kept) a.edges b.edges old.edges x.edges y.edges)
    ∙ sym y.node

pub one_pruned : (g a b : Graph) → IsPruned g a → IsPruned g b → a ≡ b
one_pruned g a b x y =
    let same = kept_once g x.kept y.kept x.used y.used in
    let nodes = subst (λ (kept : List ℕ). AllZip (IsRenumbered kept) a.nodes (map (node_of g) kept)) same x.nodes in
    same_graph a b
    (zip_once (IsRenumbered y.kept) (node_once y.kept) a.nodes b.nodes (map (node_of g) y.kept) nodes y.nodes)
    (x.inputs ∙ sym y.inputs) (x.outs ∙ sym y.outs)
