-- The lines of a text, read one after another.
use Rattle.std.proofs.Common.{◌≡◌, ◌∙◌, ⊎_elim, refl, sym, ap, subst, arith, ℕ, ◌+◌, ◌-◌, ◌<◌, ◌≤◌, List, [], ◌∷◌, ◌++◌}
use Rattle.std.proofs.Common.{length, drop, length-drop, zero, suc, Option, Some, None, Bor}
use Rattle.std.specs.Prelude.{slice_index_or}
use Rattle.std.proofs.lemmas.Bool.{cases_lt}
use Rattle.std.proofs.lemmas.List.{get_or_append_left, get_or_push, length_push, drop_more, get_or_default}
use Rattle.datapath.specs.declared.types.Datapath.{Datapath}
use Rattle.place_file.specs.Lines.{lines_of, line_at, Said, said_by}
use Rattle.place_file.specs.Given.{IsNodeLine, IsPlaceLine, Gives}
use Rattle.place_file.specs.Private.Words.{lines_left, IsReadAs, IsUnread}
use Rattle.place_file.specs.Private.Entries.{no_entry, entry_at, AreEntries, IsFirstBad}
use Rattle.place_file.specs.declared.entry.Entry.{Entry}
use Rattle.place_file.specs.declared.fault.GivenFault.{GivenFault}
use Rattle.place_file.specs.declared.fault.GivenFault.TheVariants.{Line, Missing, Memory}

-- a list of lines from line i on
module _ (all : List (List ℕ)) (i : ℕ) (line : List ℕ) (rest : List (List ℕ)) (is : line ∷ rest ≡ drop i all) where
  pub line_there : i < length all
  line_there = omega (arith, ap length is, length-drop i all)

  abbrev more : drop i all ≡ slice_index_or all i [] ∷ drop (i + 1) all
  more = drop_more all i [] line_there

  pub line_is : slice_index_or all i [] ≡ line
  line_is = sym (ap (λ (xs : List (List ℕ)). slice_index_or xs 0 []) (is ∙ more))

  pub rest_is : rest ≡ drop (i + 1) all
  rest_is = ap (λ (xs : List (List ℕ)). drop 1 xs) (is ∙ more)

module _ (d : Datapath) (text : List ℕ) where
  pub no_entries : AreEntries d text 0 []
  no_entries = record {
    each = λ k less. absurd (omega (arith, less));
    all = λ i less h. absurd (omega (arith, less));
    order = λ i j e less there. absurd (omega (arith, there));
  }

  module _ (i : ℕ) (entries : List Entry) (b : AreEntries d text i entries) where
    -- a line that does not begin with `node`
    pub none_more : (IsNodeLine (said_by (line_at text i)) → ⊥) → AreEntries d text (i + 1) entries
    none_more other = record {
      each = λ k less. let e = b.each k less in (e.0, omega (arith, e.1), e.2);
      all = λ j less h.
          ⊎_elim (λ (early : j < i). b.all j early h)
          (λ (late : i ≤ j).
          let at : j ≡ i = omega (arith, less, late) in
          absurd (other (subst (λ (n : ℕ). IsNodeLine (said_by (line_at text n))) at h.head)))
          (cases_lt j i);
      order = b.order;
    }

    -- a line that gives a place
    module _ (e : Entry) (there : i < length (lines_of text)) (line : e.line ≡ i + 1)
        (says : IsPlaceLine d (said_by (line_at text i)) e.node e.place) where
      abbrev new : List Entry
      new = entries ++ e ∷ []

      old_is : (k : ℕ) → k < length entries → entry_at new k ≡ entry_at entries k
      old_is k less = get_or_append_left entries (e ∷ []) no_entry k less

      last_is : entry_at new (length entries) ≡ e
      last_is = get_or_push entries e no_entry (length entries) refl

      low : (k : ℕ) → k < length entries → (entry_at entries k).line ≤ i
      low k less = let x = b.each k less in omega (arith, x.1, x.2.line)

      pub one_more : AreEntries d text (i + 1) new
      one_more = record {
        each = λ k less.
            ⊎_elim
            (λ (early : k < length entries).
            let x = b.each k early in
            let same = sym (old_is k early) in (
              x.0,
              omega (arith, x.1),
              record {
                line = subst (λ (z : Entry). z.line ≡ x.0 + 1) same x.2.line;
                gives = subst (λ (z : Entry). Gives d text x.0 z.node z.place) same x.2.gives;
              },
            ))
            (λ (late : length entries ≤ k).
            let at : length entries ≡ k = omega (arith, late, less, length_push entries e) in
            let same : e ≡ entry_at new k = sym last_is ∙ ap (entry_at new) at in (
              i,
              omega arith,
              record {
                line = subst (λ (z : Entry). z.line ≡ i + 1) same line;
                gives = subst (λ (z : Entry). Gives d text i z.node z.place) same
                    (record { there = there; says = says });
              },
            ))
            (cases_lt k (length entries));
        all = λ j less h.
            ⊎_elim
            (λ (early : j < i).
            let x = b.all j early h in
            (x.0, omega (arith, x.1, length_push entries e), ap (λ (z : Entry). z.line) (old_is x.0 x.1) ∙ x.2))
            (λ (late : i ≤ j).
            let at : j ≡ i = omega (arith, less, late) in (
              length entries,
              omega (arith, length_push entries e),
              ap (λ (z : Entry). z.line) last_is ∙ line ∙ ap (λ (n : ℕ). n + 1) (sym at),
            ))
            (cases_lt j i);
        order = λ p q z less within.
            let first : p < length entries = omega (arith, less, within, length_push entries e) in
            let p_is = get_or_default new p z no_entry (omega (arith, less, within)) ∙ old_is p first in
            let p_line = ap (λ (x : Entry). x.line) p_is in
            ⊎_elim
            (λ (early : q < length entries).
            let q_line = ap (λ (x : Entry). x.line) (get_or_default new q z no_entry within ∙ old_is q early) in
            let order = b.order p q no_entry less early in
            omega (arith, p_line, q_line, order))
            (λ (late : length entries ≤ q).
            let at : q ≡ length entries = omega (arith, late, within, length_push entries e) in
            let q_line = ap (λ (x : Entry). x.line)
            (get_or_default new q z no_entry within ∙ ap (entry_at new) at ∙ last_is) in
            let under = low p first in
            omega (arith, p_line, q_line, under, line))
            (cases_lt q (length entries));
      }

    -- a line that is wrong
    pub first_bad : (fault : GivenFault)
        → i < length (lines_of text)
        → IsUnread d (said_by (line_at text i)) (i + 1) fault
        → IsFirstBad d text fault
    first_bad (Line line cause) there h = record {
      i = i;
      is = h.0;
      node_line = record { there = there; head = h.1 };
      bad = h.2;
      before = λ j less node.
          let x = b.all j less node in
          let each = b.each x.0 x.1 in
          let at : each.0 ≡ j = omega (arith, each.2.line, x.2) in
          let g = subst
          (λ (n : ℕ). Gives d text n (entry_at entries x.0).node (entry_at entries x.0).place) at each.2.gives in
          ((entry_at entries x.0).node, (entry_at entries x.0).place, g.says);
    }
    first_bad (Missing v) there h = absurd h
    first_bad Memory there h = absurd h

  -- the lines of entries rise, so that there are no more entries than lines
  module _ (n : ℕ) (entries : List Entry) (b : AreEntries d text n entries) where
    line_above : (k : ℕ) → k < length entries → k + 1 ≤ (entry_at entries k).line
    line_above zero less = let x = b.each 0 less in omega (arith, x.2.line)
    line_above (suc k) less =
        let below = line_above k (omega (arith, less)) in
        let rise = b.order k (suc k) no_entry (omega arith) less in
        omega (arith, below, rise)

    pub entries_few : length entries ≤ n
    entries_few =
        ⊎_elim
        (λ (some : 0 < length entries).
        let last : length entries - 1 < length entries = omega (arith, some) in
        let above = line_above (length entries - 1) last in
        let x = b.each (length entries - 1) last in
        omega (arith, above, x.1, x.2.line, some))
        (λ (none : length entries ≤ 0). omega (arith, none))
        (cases_lt 0 (length entries))

-- what the code reads of a line
pub read_some : (d : Datapath) (said : Said) (number : ℕ) (r : Option Entry) (e : Entry)
    → r ≡ Some e
    → IsReadAs d said number r
    → (e.line ≡ number) × IsPlaceLine d said e.node e.place
read_some d said number r e is = subst (IsReadAs d said number) is

pub read_none : (d : Datapath) (said : Said) (number : ℕ) (r : Option Entry)
    → r ≡ None
    → IsReadAs d said number r
    → IsNodeLine said
    → ⊥
read_none d said number r is = subst (IsReadAs d said number) is

-- where no line is left, all are read
pub all_read : (d : Datapath) (text : List ℕ) (i : ℕ) (entries : List Entry) (left : Option (Bor (List ℕ)))
    → left ≡ None
    → lines_left left ≡ drop i (lines_of text)
    → i ≤ length (lines_of text)
    → AreEntries d text i entries
    → AreEntries d text (length (lines_of text)) entries
all_read d text i entries left none is within =
    let count = ap length (sym (ap lines_left none) ∙ is) in
    subst (λ (n : ℕ). AreEntries d text n entries)
    (omega (arith, count, length-drop i (lines_of text), within))
