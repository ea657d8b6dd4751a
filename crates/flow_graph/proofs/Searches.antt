-- A search back from the outputs finds the nodes that are used.
use Rattle.std.proofs.Common.{◌≡◌, ◌≢◌, ◌∙◌, refl, sym, ap, subst, arith, ℕ, ◌+◌, ◌<◌, ◌≤◌, ◌⊎◌, inl, inr, List, []}
use Rattle.std.proofs.Common.{◌∷◌, ◌++◌, length, Bool, true, false, get_or-set_same, get_or-set_other}
use Rattle.std.specs.Prelude.{slice_index_or, slice_set, Contains, if◌then◌else◌}
use Rattle.std.proofs.lemmas.Bool.{cases_lt, cases_eq}
use Rattle.std.proofs.lemmas.List.{get_or_default, length-set, length_push, get_or_append_left, get_or_push}
use Rattle.std.proofs.lemmas.List.Elements.{Contains-push, Contains-append_left}
use Rattle.fix_word.specs.declared.operation.Op.TheVariants as op
use Rattle.signal_graph.specs.GraphRules.{IsGraph}
use Rattle.signal_graph.specs.GraphSolves.{no_node, node_of, HasEdge}
use Rattle.signal_graph.specs.Values.{EdgesRead}
use Rattle.signal_graph.specs.Pruned.{IsUsed, output, read}
use Rattle.signal_graph.specs.declared.graph.Edge.{Edge}
use Rattle.signal_graph.specs.declared.graph.Node.{Node}
use Rattle.signal_graph.specs.declared.graph.Graph.{Graph}
use Rattle.signal_graph.proofs.Marks.{missing_less}
use Rattle.signal_graph.proofs.Values.{edges_allowed}
use Rattle.flow_graph.specs.declared.pruning.Search.{Search}
use Rattle.flow_graph.specs.Private.Pruning.{is_marked, reached, all_reached, IsUsedNode, IsSearch, HasOutputs}
use Rattle.flow_graph.specs.Private.Pruning.{AreUsedMarks}

abbrev nth : List ℕ → ℕ → ℕ
nth found i = slice_index_or found i 0

-- what was found stays in its place, and marks stay
pub record Grows (s t : Search) : Type 0 where
  pub keeps : (v : ℕ) → is_marked s.marks v ≡ true → is_marked t.marks v ≡ true
  pub longer : length s.found ≤ length t.found
  pub same : (i : ℕ) → i < length s.found → nth t.found i ≡ nth s.found i

grows_not : (s : Search) → Grows s s
grows_not s = record { keeps = λ v h. h; longer = omega arith; same = λ i lt. refl }

grows_on : (s t u : Search) → Grows s t → Grows t u → Grows s u
grows_on s t u a b = record {
  keeps = λ v h. b.keeps v (a.keeps v h);
  longer = omega (arith, a.longer, b.longer);
  same = λ i lt. b.same i (omega (arith, a.longer)) ∙ a.same i lt;
}

-- the search goes on with node v
pub record GoesOn (g : Graph) (followed : ℕ) (s t : Search) (v : ℕ) : Type 0 where
  pub search : IsSearch g followed t
  pub grows : Grows s t
  pub marked : is_marked t.marks v ≡ true

module _ (g : Graph) (followed : ℕ) (s : Search) (is : IsSearch g followed s) (v : ℕ) (used : IsUsedNode g v) where
  abbrev with_v : Search
  with_v = record { marks = slice_set s.marks v true; found = s.found ++ v ∷ [] }

  there : v < length s.marks
  there = omega (arith, used.there, is.count)

  now : is_marked with_v.marks v ≡ true
  now = get_or-set_same s.marks v true false there

  keeps : (w : ℕ) → is_marked s.marks w ≡ true → (w ≡ v) ⊎ (w ≢ v) → is_marked with_v.marks w ≡ true
  keeps w h (inl same) = ap (is_marked with_v.marks) same ∙ now
  keeps w h (inr ne) = get_or-set_other s.marks v w true false ne ∙ h

  below : (i : ℕ) → i < length s.found → nth with_v.found i ≡ nth s.found i
  below i lt = get_or_append_left s.found (v ∷ []) 0 i lt

  found : (w : ℕ) → is_marked with_v.marks w ≡ true → (w ≡ v) ⊎ (w ≢ v) → Contains with_v.found w
  found w h (inl same) = subst (λ (x : ℕ). Contains with_v.found x) (sym same) (Contains-push s.found v)
  found w h (inr ne) =
      Contains-append_left s.found (v ∷ []) w (is.found w (sym (get_or-set_other s.marks v w true false ne) ∙ h))

  all_used : (i : ℕ)
      → i < length with_v.found
      → (i < length s.found) ⊎ (length s.found ≤ i)
      → IsUsedNode g (nth with_v.found i)
  all_used i lt (inl less) = subst (λ (x : ℕ). IsUsedNode g x) (sym (below i less)) (is.used i less)
  all_used i lt (inr le) =
      subst (λ (x : ℕ). IsUsedNode g x) (sym (get_or_push s.found v 0 i (omega (arith, length_push s.found v)))) used

  grows : Grows s with_v
  grows = record {
    keeps = λ w h. keeps w h (cases_eq w v);
    longer = omega (arith, length_push s.found v);
    same = below;
  }

  search : is_marked s.marks v ≡ false → IsSearch g followed with_v
  search open' = record {
    count = length-set s.marks v true ∙ is.count;
    room = omega (arith, length_push s.found v, missing_less s.marks v there open', is.room);
    found = λ w h. found w h (cases_eq w v);
    used = λ i lt. all_used i lt (cases_lt i (length s.found));
    within = omega (arith, is.within, length_push s.found v);
    reads = λ i u ago lt r.
        grows.keeps u
        (is.reads i u ago lt (subst (λ (x : ℕ). HasEdge g x u ago) (below i (omega (arith, is.within))) r));
  }

  pub goes_on : GoesOn g followed s (reached s v) v
  goes_on = by (is_marked s.marks v) refl
    where
      by : (b : Bool) → is_marked s.marks v ≡ b → GoesOn g followed s (if b then s else with_v) v
      by true h = record { search = is; grows = grows_not s; marked = h }
      by false h = record { search = search h; grows = grows; marked = now }

-- the search goes on with all nodes that the edges lead to
pub record GoesOnAll (g : Graph) (followed : ℕ) (s t : Search) (edges : List Edge) : Type 0 where
  pub search : IsSearch g followed t
  pub grows : Grows s t
  pub marked : (u ago : ℕ) → EdgesRead edges u ago → is_marked t.marks u ≡ true

all_go_on : (g : Graph) (followed : ℕ) (s : Search) (edges : List Edge)
    → IsSearch g followed s
    → ((u ago : ℕ) → EdgesRead edges u ago → IsUsedNode g u)
    → GoesOnAll g followed s (all_reached s edges) edges
all_go_on g followed s [] is all = record { search = is; grows = grows_not s; marked = λ u ago r. absurd r }
all_go_on g followed s (e ∷ es) is all =
    let one = goes_on g followed s is e.node (all e.node e.delay (inl (refl, refl))) in
    let rest = all_go_on g followed (reached s e.node) es one.search (λ u ago r. all u ago (inr r)) in
    record {
      search = rest.search;
      grows = grows_on s (reached s e.node) (all_reached (reached s e.node) es) one.grows rest.grows;
      marked = λ u ago r. by one rest u ago r;
    }
  where
    by : GoesOn g followed s (reached s e.node) e.node
        → GoesOnAll g followed (reached s e.node) (all_reached (reached s e.node) es) es
        → (u ago : ℕ)
        → EdgesRead (e ∷ es) u ago
        → is_marked (all_reached (reached s e.node) es).marks u ≡ true
    by one rest u ago (inl r) =
        rest.grows.keeps u (ap (is_marked (reached s e.node).marks) r.0 ∙ one.marked)
    by one rest u ago (inr r) = rest.marked u ago r

module _ (g : Graph) (sound : IsGraph g) where
  pub follows : (s : Search) (i : ℕ)
      → IsSearch g i s
      → i < length s.found
      → IsSearch g (i + 1) (all_reached s (node_of g (nth s.found i)).edges)
      × Grows s (all_reached s (node_of g (nth s.found i)).edges)
  follows s i is lt =
      let v = nth s.found i in
      let used = is.used i lt in
      let all =
      all_go_on g i s (node_of g v).edges is
      (λ u ago r. record {
        there = (edges_allowed g (node_of g v).edges u ago (sound.nodes v no_node used.there).edges r).node;
        used = read ago used.used r;
      }) in (
        record {
          count = all.search.count;
          room = all.search.room;
          found = all.search.found;
          used = all.search.used;
          within = omega (arith, lt, all.grows.longer);
          reads = λ j u ago next r. by all j u ago (cases_lt j i) next r;
        },
        all.grows,
      )
    where
      by : GoesOnAll g i s (all_reached s (node_of g (nth s.found i)).edges) (node_of g (nth s.found i)).edges
          → (j u ago : ℕ)
          → (j < i) ⊎ (i ≤ j)
          → j < i + 1
          → HasEdge g (nth (all_reached s (node_of g (nth s.found i)).edges).found j) u ago
          → is_marked (all_reached s (node_of g (nth s.found i)).edges).marks u ≡ true
      by all j u ago (inl less) next r = all.search.reads j u ago less r
      by all j u ago (inr le) next r =
          let at : j ≡ i = omega arith in
          all.marked u ago
          (subst (λ (x : ℕ). HasEdge g x u ago)
          (ap (nth (all_reached s (node_of g (nth s.found i)).edges).found) at ∙ all.grows.same i lt) r)

module _ (g : Graph) (s : Search) (n : ℕ) (is : IsSearch g n s) (past : length s.found ≤ n)
    (outs : HasOutputs g s) where
  at : (v : ℕ) (c : Contains s.found v) → nth s.found c.0 ≡ v
  at v c = get_or_default s.found c.0 0 v c.1 ∙ c.2

  only_used : (v : ℕ) → is_marked s.marks v ≡ true → IsUsed g v
  only_used v h = let c = is.found v h in subst (λ (x : ℕ). IsUsed g x) (at v c) (is.used c.0 c.1).used

  used_marked : (v : ℕ) → IsUsed g v → is_marked s.marks v ≡ true
  used_marked v (output there is_output) = outs v there is_output
  used_marked u (read {v} ago used r) =
      let c = is.found v (used_marked v used) in
      is.reads c.0 u ago (omega (arith, c.1, past)) (subst (λ (x : ℕ). HasEdge g x u ago) (sym (at v c)) r)

  pub finished : AreUsedMarks g s.marks
  finished = record { count = is.count; used = λ v. (only_used v, used_marked v) }

-- the outputs among the first v nodes are marked
pub record IsBegun (g : Graph) (v : ℕ) (s : Search) : Type 0 where
  pub search : IsSearch g 0 s
  pub outputs : (u : ℕ) → u < v → (node_of g u).op ≡ op.Output → is_marked s.marks u ≡ true

module _ (g : Graph) (s t : Search) (v : ℕ) (node : Node) (begun : IsBegun g v s) (lt : v < length g.nodes)
    (is : node ≡ slice_index_or g.nodes v node) where
  node_is : node ≡ node_of g v
  node_is = is ∙ get_or_default g.nodes v node no_node lt

  pub begun_yes : node.op ≡ op.Output → t ≡ reached s v → IsBegun g (v + 1) t
  begun_yes is_output new =
      let v_output : (node_of g v).op ≡ op.Output = ap (λ (x : Node). x.op) (sym node_is) ∙ is_output in
      let one = goes_on g 0 s begun.search v (record { there = lt; used = output lt v_output }) in
      subst (λ (x : Search). IsBegun g (v + 1) x) (sym new) (record {
        search = one.search;
        outputs = λ u less h. by one u (cases_lt u v) less h;
      })
    where
      by : GoesOn g 0 s (reached s v) v
          → (u : ℕ)
          → (u < v) ⊎ (v ≤ u)
          → u < v + 1
          → (node_of g u).op ≡ op.Output
          → is_marked (reached s v).marks u ≡ true
      by one u (inl before) less h = one.grows.keeps u (begun.outputs u before h)
      by one u (inr le) less h =
          let at : u ≡ v = omega arith in
          ap (is_marked (reached s v).marks) at ∙ one.marked

  pub begun_no : (node.op ≡ op.Output → ⊥) → t ≡ s → IsBegun g (v + 1) t
  begun_no other same =
      subst (λ (x : Search). IsBegun g (v + 1) x) (sym same) (record {
        search = begun.search;
        outputs = λ u less h. by u (cases_lt u v) less h;
      })
    where
      by : (u : ℕ) → (u < v) ⊎ (v ≤ u) → u < v + 1 → (node_of g u).op ≡ op.Output → is_marked s.marks u ≡ true
      by u (inl before) less h = begun.outputs u before h
      by u (inr le) less h =
          let at : u ≡ v = omega arith in
          absurd (other (ap (λ (x : Node). x.op) node_is ∙ ap (λ (i : ℕ). (node_of g i).op) (sym at) ∙ h))

-- what the loop has followed
pub record IsFollowed (g : Graph) (next : ℕ) (s : Search) : Type 0 where
  pub search : IsSearch g next s
  pub outputs : HasOutputs g s

pub followed_more : (g : Graph)
    → IsGraph g
    → (s t : Search) (i v : ℕ) (node : Node)
    → IsSearch g i s
    → HasOutputs g s
    → i < length s.found
    → v ≡ slice_index_or s.found i v
    → node ≡ slice_index_or g.nodes v node
    → t ≡ all_reached s node.edges
    → IsFollowed g (i + 1) t
followed_more g sound s t i v node is outs lt v_is n_is new =
    let at : v ≡ nth s.found i = v_is ∙ get_or_default s.found i v 0 lt in
    let inside : v < length g.nodes = subst (λ (x : ℕ). x < length g.nodes) (sym at) (is.used i lt).there in
    let same : node ≡ node_of g (nth s.found i) =
    n_is ∙ get_or_default g.nodes v node no_node inside ∙ ap (node_of g) at in
    let more = follows g sound s i is lt in
    subst (λ (x : Search). IsFollowed g (i + 1) x)
    (sym (new ∙ ap (λ (x : Node). all_reached s x.edges) same))
    (record { search = more.0; outputs = λ u there h. more.1.keeps u (outs u there h) })
