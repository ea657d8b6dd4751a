-- The flat program of a checked program has its solutions.
use Rattle.std.proofs.Common.{◌≡◌, refl, sym, subst, ◌∙◌, ap, ap₂, arith, ℕ, zero, suc, ◌+◌, ◌<◌, ◌≤◌, List, [], ◌∷◌}
use Rattle.std.proofs.Common.{map, length, slice_get, Some, ℤ}
use Rattle.std.specs.Prelude.{pos, negsuc}
use Rattle.std.specs.List.{AllZip, range_with_len}
use Rattle.std.proofs.lemmas.Option.{slice_get-get_or}
use Rattle.lists.proofs.Ranges.{map_same}
use Rattle.lists.specs.Rows.{Rows}
use Rattle.silage_syntax.specs.Tree.{Program}
use Rattle.silage_meaning.specs.Instances.{Element, IsElement, outputs}
use Rattle.silage_meaning.specs.Value.{Words}
use Rattle.silage_meaning.specs.Solves.{Source, IsDefined, Gives, IsInitial, Solves, IsStream, out}
use Rattle.silage_meaning.specs.Rules.{IsDefinedOnce}
use Rattle.silage_meaning.proofs.Sources.{gives_once}
use Rattle.silage_meaning.proofs.Unique.{initial_once}
use Rattle.element_rules.specs.declared.elements.Elements.{Elements}
use Rattle.element_rules.specs.Numbering.{IsNumbering}
use Rattle.signal_graph.specs.Flat as flat
use Rattle.signal_graph.specs.Rules.{word_before}
use Rattle.signal_graph.specs.Values as flat_words
use Rattle.signal_graph.specs.Values.{body_value}
use Rattle.signal_graph.specs.FlatSolves.{no_element, element_of, FlatSolves, flat_out}
use Rattle.loop_expand.specs.Checked.{IsChecked}
use Rattle.element_rules.specs.Numbers.{IsNumberOf, HasDistinctNumbers}
use Rattle.loop_expand.specs.FlatOf.{IsFlatElement, IsFlatOf}
use Rattle.loop_expand.specs.Kept.{HaveSameWords, KeepsSolutions}
use Rattle.loop_expand.proofs.Bodies.{source_given}
use Rattle.loop_expand.proofs.FlatSound.{body_sound}
use Rattle.loop_expand.proofs.Inits.{inits_initial}
use Rattle.loop_expand.proofs.ProgramSystem.{before_0, from_0, solves_system}
use Rattle.loop_expand.proofs.Numbers.{stands, below, element_at, is_element_at, number_of, is_number_of}
use Rattle.loop_expand.proofs.FlatLoops.{single}

module _ (p : Program) (checked : IsChecked p) (es : Elements) (numbering : IsNumbering p es)
    (distinct : HasDistinctNumbers es) (f : flat.Program) (made : IsFlatOf p es f) (stream : Rows)
    (rows : IsStream p stream) where
  -- what stands in the flat program at the number of an element
  record IsThere (k : ℕ) (e : Element) : Type 0 where
    there : slice_get f.elems k ≡ Some (element_of f k)
    is : IsFlatElement p es e (element_of f k)

  inside_count : (k : ℕ) (e : Element) → IsNumberOf es k e → k < length f.elems
  inside_count k e is = let all = below p es numbering k e is in let count = made.count in omega arith

  at_number : (k : ℕ) (e : Element) → IsNumberOf es k e → IsThere k e
  at_number k e is =
      let less = inside_count k e is in
      let there : slice_get f.elems k ≡ Some (element_of f k) = slice_get-get_or f.elems k no_element less in
      record { there = there; is = made.elements k e (element_of f k) is there }

  module _ (words : Words) (numbered : flat_words.Words) (agree : HaveSameWords es stream words numbered) where
    given : (k : ℕ) (e : Element)
        → IsNumberOf es k e
        → (n : ℕ)
        → n < length stream
        → (source : Source)
        → IsDefined p e source
        → Gives p stream words n source (body_value stream numbered n (element_of f k).body)
    given k e is n inside source defined =
        let at = at_number k e is in
        let same : source ≡ at.is.source =
        once (single p checked e at.is.is) source at.is.source defined at.is.defined in
        subst (λ (z : Source). Gives p stream words n z (body_value stream numbered n (element_of f k).body)) (sym same)
        (source_given p checked es stream rows f words numbered agree n inside e at.is.source (element_of f k).body
        at.is.defined at.is.body
        (body_sound p checked es f made.count e at.is.source (element_of f k).body at.is.defined at.is.body))
      where
        once : IsDefinedOnce p e → (a b : Source) → IsDefined p e a → IsDefined p e b → a ≡ b
        once d a b x y = d.only a x ∙ sym (d.only b y)

    started : (k : ℕ) (e : Element)
        → IsNumberOf es k e
        → (j : ℕ)
        → IsInitial p e j (word_before (element_of f k).inits j)
    started k e is j = inits_initial p e (element_of f k).inits j (at_number k e is).is.inits

    pub flat_solves : Solves p stream words → FlatSolves f stream numbered
    flat_solves x = record {
      past = λ k j el less.
          let s = stands p es numbering k (let count = made.count in omega arith) in
          agree k s.of (negsuc j) s.number (before_0 (length stream) j less)
          ∙ initial_once p s.of (j + 1) _ _ (x.past s.of j s.is less) (started k s.of s.number (j + 1));
      present = λ k n el inside.
          let s = stands p es numbering k (let count = made.count in omega arith) in
          let at = at_number k s.of s.number in
          agree k s.of (pos n) s.number (from_0 (length stream) n inside)
          ∙ gives_once p stream words n at.is.source _ _ (x.present s.of n at.is.source s.is inside at.is.defined)
          (given k s.of s.number n inside at.is.source at.is.defined);
    }

    pub program_solves : FlatSolves f stream numbered → Solves p stream words
    program_solves x = record {
      past = λ e j is less.
          let k = number_of p es numbering e in
          let number = is_number_of p es numbering e is in
          let same =
          sym (agree k e (negsuc j) number (before_0 (length stream) j less))
          ∙ x.past k j (inside_count k e number) less in
          subst (IsInitial p e (j + 1)) (sym same) (started k e number (j + 1));
      present = λ e n source is inside defined.
          let k = number_of p es numbering e in
          let number = is_number_of p es numbering e is in
          let same =
          sym (agree k e (pos n) number (from_0 (length stream) n inside))
          ∙ x.present k n (inside_count k e number) inside in
          subst (Gives p stream words n source) (sym same) (given k e number n inside source defined);
    }

    row_same : (n : ℕ)
        → n < length stream
        → (ks : List ℕ) (xs : List Element)
        → AllZip (IsNumberOf es) ks xs
        → map (λ (e : Element). words e (pos n)) xs ≡ map (λ (k : ℕ). numbered k (pos n)) ks
    row_same n inside [] [] all = refl
    row_same n inside [] (x ∷ xs) all = absurd all
    row_same n inside (k ∷ ks) [] all = absurd all
    row_same n inside (k ∷ ks) (x ∷ xs) all =
        ap₂ (λ (v : ℤ) (vs : List ℤ). v ∷ vs) (sym (agree k x (pos n) all.0 (from_0 (length stream) n inside)))
        (row_same n inside ks xs all.1)

    pub rows_same : out p words (length stream) ≡ flat_out f numbered (length stream)
    rows_same =
        map_same (λ n. map (λ e. words e (pos n)) (outputs p)) (λ n. map (λ (k : ℕ). numbered k (pos n)) f.outs) 0
        (length stream)
        (λ m low high. row_same m (omega (arith, high)) f.outs (outputs p) made.outs)

  -- the words of the elements by their numbers, and the other way round
  abbrev flat_of : Words → flat_words.Words
  flat_of words k n = words (element_at p es numbering k) n

  abbrev words_of : flat_words.Words → Words
  words_of numbered e n = numbered (number_of p es numbering e) n

  flat_agrees : (words : Words) → HaveSameWords es stream words (flat_of words)
  flat_agrees words k e n is sample = ap (λ (z : Element). words z n) (is_element_at p es numbering k e is)

  words_agree : (numbered : flat_words.Words) → HaveSameWords es stream (words_of numbered) numbered
  words_agree numbered k e n is sample =
      ap (λ (l : ℕ). numbered l n)
      (distinct e k (number_of p es numbering e) is (is_number_of p es numbering e (stands_for k e is)))
    where
      stands_for : (k : ℕ) (e : Element) → IsNumberOf es k e → IsElement p e
      stands_for k e is = (at_number k e is).is.is

  pub keeps_solutions : KeepsSolutions p es f stream
  keeps_solutions = record {
    solutions = record {
      forth = λ words x. (
        flat_of words,
        flat_solves words (flat_of words) (flat_agrees words) ((solves_system p stream words).1 x),
        flat_agrees words,
      );
      back = λ numbered x. (
        words_of numbered,
        (solves_system p stream (words_of numbered)).0
            (program_solves (words_of numbered) numbered (words_agree numbered) x),
        words_agree numbered,
      );
      one = λ words others a b x y. (
        λ same. record {
          past = λ k j el less.
              let s = stands p es numbering k (let count = made.count in omega arith) in
              let sample = before_0 (length stream) j less in
              x k s.of (negsuc j) s.number sample ∙ same.past s.of j s.is less
              ∙ sym (y k s.of (negsuc j) s.number sample);
          present = λ k n el inside.
              let s = stands p es numbering k (let count = made.count in omega arith) in
              let sample = from_0 (length stream) n inside in
              x k s.of (pos n) s.number sample ∙ same.present s.of n s.is inside
              ∙ sym (y k s.of (pos n) s.number sample);
        },
        λ same. record {
          past = λ e j is less.
              let k = number_of p es numbering e in
              let number = is_number_of p es numbering e is in
              let sample = before_0 (length stream) j less in
              sym (x k e (negsuc j) number sample) ∙ same.past k j (inside_count k e number) less
              ∙ y k e (negsuc j) number sample;
          present = λ e n is inside.
              let k = number_of p es numbering e in
              let number = is_number_of p es numbering e is in
              let sample = from_0 (length stream) n inside in
              sym (x k e (pos n) number sample) ∙ same.present k n (inside_count k e number) inside
              ∙ y k e (pos n) number sample;
        },
      );
    };
    outputs = rows_same;
  }
