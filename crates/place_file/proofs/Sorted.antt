-- Entries in the order of their keys: the places that they give, or the first node that has not one line.
use Rattle.std.proofs.Common.{◌≡◌, ◌∙◌, ⊎_elim, sym, ap, subst, arith, ℕ, ◌+◌, ◌*◌, ◌%◌, ◌<◌, ◌≤◌}
use Rattle.std.proofs.Common.{List, length}
use Rattle.std.proofs.lemmas.Bool.{cases_lt}
use Rattle.datapath.specs.declared.types.Datapath.{Datapath}
use Rattle.placed_plan.specs.Places.{place_of}
use Rattle.place_file.specs.Lines.{lines_of, line_at, said_by}
use Rattle.place_file.specs.Given.{HasNodeLine, Gives, IsGivenBy}
use Rattle.place_file.specs.Faults.{GivesSome, GivesNode, HasOneLine, LacksLine, HasSecondLine}
use Rattle.place_file.specs.Faults.{IsGivenFault}
use Rattle.place_file.specs.Private.Entries.{entry_at, AreEntries, key_limit, IsKeyOf, AreKeys, entry_by}
use Rattle.place_file.specs.Private.Entries.{AreGiven, IsMiscounted, IsFirstBad, no_entry}
use Rattle.place_file.specs.declared.entry.Entry.{Entry}
use Rattle.place_file.specs.declared.given.Given.{Given}
use Rattle.place_file.specs.declared.fault.GivenFault.{GivenFault}
use Rattle.place_file.specs.declared.fault.GivenFault.TheVariants.{Line, Missing, Memory}
use Rattle.place_file.specs.declared.fault.LineCause.TheVariants.{Form, Number, Unit as UnknownUnit, Twice}
use Rattle.place_file.proofs.OneLine.{one_number}

-- the place of an entry in its key
pub index_of_key : (node k : ℕ) → k < key_limit → (key_limit * node + k) % key_limit ≡ k
index_of_key node k less = omega (arith, less)

module _ (d : Datapath) (text : List ℕ) (entries : List Entry) (keys : List ℕ)
    (are : AreEntries d text (length (lines_of text)) entries) (ks : AreKeys entries keys) where
  abbrev count : ℕ
  count = length keys

  -- the entry of key p is entry k
  entry_is : (p k : ℕ) → IsKeyOf entries keys p k → entry_by entries keys p ≡ entry_at entries k
  entry_is p k key =
      ap (entry_at entries)
      (ap (λ (n : ℕ). n % key_limit) key.is
      ∙ index_of_key (entry_at entries k).node k (omega (arith, key.entry, ks.few)))

  node_by : (v : ℕ) → ℕ
  node_by v = (entry_by entries keys v).node

  -- keys rise by node, and by entry at one node
  record Rise (p q : ℕ) : Type 0 where
    nodes : (entry_by entries keys p).node ≤ (entry_by entries keys q).node
    lines : (entry_by entries keys p).node ≡ (entry_by entries keys q).node
        → (entry_by entries keys p).line < (entry_by entries keys q).line

  rise : (p q : ℕ) → p < q → q < count → Rise p q
  rise p q less there =
      let x = ks.each p (omega (arith, less, there)) in
      let y = ks.each q there in
      let key = ks.order p q less there in
      let e = entry_is p x.0 x.1 in
      let f = entry_is q y.0 y.1 in
      let e_node = ap (λ (z : Entry). z.node) e in
      let f_node = ap (λ (z : Entry). z.node) f in
      let few_x : x.0 < key_limit = omega (arith, x.1.entry, ks.few) in
      let few_y : y.0 < key_limit = omega (arith, y.1.entry, ks.few) in
      record {
        nodes = omega (arith, key, x.1.is, y.1.is, e_node, f_node, few_x, few_y);
        lines = λ same.
            let later : x.0 < y.0 = omega (arith, key, x.1.is, y.1.is, e_node, f_node, same) in
            let line = are.order x.0 y.0 no_entry later y.1.entry in
            omega (arith, line, ap (λ (z : Entry). z.line) e, ap (λ (z : Entry). z.line) f);
      }

  -- the line of the entry of key v
  gives : (v : ℕ)
      → v < count
      → (i : ℕ)
      × ((entry_by entries keys v).line ≡ i + 1)
      × Gives d text i (entry_by entries keys v).node (entry_by entries keys v).place
  gives v there =
      let x = ks.each v there in
      let each = are.each x.0 x.1.entry in
      let same = sym (entry_is v x.0 x.1) in (
        each.0,
        subst (λ (e : Entry). e.line ≡ each.0 + 1) same each.2.line,
        subst (λ (e : Entry). Gives d text each.0 e.node e.place) same each.2.gives,
      )

  -- each line that gives a node its place has a key
  find : (i w : ℕ)
      → GivesNode d text i w
      → (p : ℕ) × (p < count) × ((entry_by entries keys p).node ≡ w) × ((entry_by entries keys p).line ≡ i + 1)
  find i w g =
      let at = are.all i g.1.there (record { there = g.1.there; head = g.1.says.head }) in
      let each = are.each at.0 at.1 in
      let key = ks.all at.0 at.1 in
      let line : each.0 ≡ i = omega (arith, each.2.line, at.2) in
      let node : (entry_at entries at.0).node ≡ w =
      one_number _ _ (said_by (line_at text i)).node (entry_at entries at.0).node w
      (subst (λ (j : ℕ). Gives d text j (entry_at entries at.0).node (entry_at entries at.0).place) line
      each.2.gives).says.node g.1.says.node in
      let same = entry_is key.0 at.0 key.1 in
      (key.0, key.1.there, ap (λ (e : Entry). e.node) same ∙ node, ap (λ (e : Entry). e.line) same ∙ at.2)

  all_give : (i : ℕ) → HasNodeLine d text i → GivesSome d text i
  all_give i h =
      let at = are.all i h.there h in
      let each = are.each at.0 at.1 in
      let line : each.0 ≡ i = omega (arith, each.2.line, at.2) in
      let g = subst (λ (j : ℕ). Gives d text j (entry_at entries at.0).node (entry_at entries at.0).place) line
      each.2.gives in
      ((entry_at entries at.0).node, (entry_at entries at.0).place, g.says)

  -- the keys of the nodes before are theirs
  module _ (v : ℕ) (there : v < count) (before : (u : ℕ) → u < v → (entry_by entries keys u).node ≡ u) where
    -- a line of a node below that of key v is the line of its key
    early : (u : ℕ)
        → u < (entry_by entries keys v).node
        → (i : ℕ)
        → GivesNode d text i u
        → (u < v) × ((entry_by entries keys u).line ≡ i + 1)
    early u low i g =
        let f = find i u g in
        ⊎_elim
        (λ (less : f.0 < v).
        let same : f.0 ≡ u = sym (before f.0 less) ∙ f.2 in (
          omega (arith, less, same),
          subst (λ (p : ℕ). (entry_by entries keys p).line ≡ i + 1) same f.3,
        ))
        (λ (past : v ≤ f.0).
        ⊎_elim
        (λ (more : v < f.0). let r = rise v f.0 more f.1 in absurd (omega (arith, r.nodes, f.2, low)))
        (λ (not_more : f.0 ≤ v).
        let same : f.0 ≡ v = omega (arith, past, not_more) in
        absurd (omega (arith, low, f.2, ap (λ (p : ℕ). (entry_by entries keys p).node) same)))
        (cases_lt v f.0))
        (cases_lt f.0 v)

    one_line : (u : ℕ) → u < v → u < (entry_by entries keys v).node → HasOneLine d text u
    one_line u less low =
        let g = gives u (omega (arith, less, there)) in
        record {
          i = g.0;
          gives = (
            (entry_by entries keys u).place,
            subst (λ (n : ℕ). Gives d text g.0 n (entry_by entries keys u).place) (before u less) g.2,
          );
          only = λ j other. let e = early u low j other in omega (arith, e.1, g.1);
        }

    lacks : v < (entry_by entries keys v).node → LacksLine d text v
    lacks above =
        let g = gives v there in
        record {
          first = record { all = all_give; before = λ u less. one_line u less (omega (arith, less, above)) };
          none = λ i h. let e = early v above i h in absurd (omega (arith, e.0));
          next = ((entry_by entries keys v).node, g.0, above, ((entry_by entries keys v).place, g.2));
        }

    -- the node of key v has a key before
    second : (entry_by entries keys v).node < v → HasSecondLine d text (entry_by entries keys v).line
    second below =
        let w = (entry_by entries keys v).node in
        let last : w + 1 ≡ v =
        ⊎_elim
        (λ (less : w + 1 < v).
        let r = rise (w + 1) v less there in
        let n = before (w + 1) less in
        absurd (omega (arith, r.nodes, n)))
        (λ (not_less : v ≤ w + 1). omega (arith, not_less, below))
        (cases_lt (w + 1) v) in
        let g = gives v there in
        let h = gives w (omega (arith, below, there)) in
        let its : (entry_by entries keys w).node ≡ w = before w below in
        let r = rise w v below there in
        let order = r.lines its in
        record {
          v = w;
          first = record { all = all_give; before = λ u less. one_line u (omega (arith, less, below)) less };
          i = g.0;
          j = h.0;
          is = g.1;
          gives = ((entry_by entries keys v).place, g.2);
          earlier = omega (arith, order, g.1, h.1);
          before = (
            (entry_by entries keys w).place,
            subst (λ (n : ℕ). Gives d text h.0 n (entry_by entries keys w).place) its h.2,
          );
          only = λ k less other.
              let f = find k w other in
              ⊎_elim
              (λ (low : f.0 < v).
              let same : f.0 ≡ w = sym (before f.0 low) ∙ f.2 in
              omega (arith, f.3, h.1, ap (λ (p : ℕ). (entry_by entries keys p).line) same))
              (λ (past : v ≤ f.0).
              ⊎_elim
              (λ (more : v < f.0).
              let s = rise v f.0 more f.1 in
              let later = s.lines (sym f.2) in
              absurd (omega (arith, later, f.3, g.1, less)))
              (λ (not_more : f.0 ≤ v).
              let same : f.0 ≡ v = omega (arith, past, not_more) in
              absurd (omega (arith, f.3, g.1, less, ap (λ (p : ℕ). (entry_by entries keys p).line) same)))
              (cases_lt v f.0))
              (cases_lt f.0 v);
        }

  pub miscounted : (fault : GivenFault) → IsMiscounted entries keys fault → IsGivenFault d text fault
  miscounted (Missing v) h = lacks v h.0.there h.0.before h.1
  miscounted (Line line Twice) h =
      subst (HasSecondLine d text) (sym h.3) (second h.0 h.1.there h.1.before h.2)
  miscounted (Line line Form) h = absurd h
  miscounted (Line line Number) h = absurd h
  miscounted (Line line UnknownUnit) h = absurd h
  miscounted Memory h = absurd h

  pub given_by : (given : Given) → AreGiven entries keys given → IsGivenBy d text given
  given_by given is = record {
    count = is.line_count ∙ sym is.place_count;
    each = λ v less.
        let there : v < count = omega (arith, less, is.place_count) in
        let g = gives v there in (
          g.0,
          is.line v there ∙ g.1,
          subst (λ (n : ℕ). Gives d text g.0 n (place_of given.places v)) (is.node v there)
              (subst (Gives d text g.0 (entry_by entries keys v).node) (sym (is.place v there)) g.2),
        );
    only = λ i h.
        let some = all_give i h in
        let f = find i some.0 (some.1, record { there = h.there; says = some.2 }) in
        (f.0, omega (arith, f.1, is.place_count), is.line f.0 f.1 ∙ f.3);
  }

-- the first bad line is a fault
pub bad_fault : (d : Datapath) (text : List ℕ) (fault : GivenFault)
    → IsFirstBad d text fault
    → IsGivenFault d text fault
bad_fault d text (Line line Twice) h = absurd h.bad
bad_fault d text (Line line Form) h = h
bad_fault d text (Line line Number) h = h
bad_fault d text (Line line UnknownUnit) h = h
bad_fault d text (Missing v) h = absurd h
bad_fault d text Memory h = absurd h
