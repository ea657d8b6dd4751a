-- What a place adds to the numbers of nodes.
use Rattle.std.proofs.Common.{◌≡◌, ℕ, ◌+◌, ◌<◌, ◌≤◌, Bool, true, false, List, [], ◌∷◌, ◌++◌, Option, Some, None, length}
use Rattle.std.proofs.Common.{take, get_or, refl, sym, ap, subst, ◌∙◌, arith, inl, inr}
use Rattle.std.specs.Prelude.{ℤ, if◌then◌else◌, is_none, slice_get, slice_index_or}
use Rattle.std.specs.Option.{option_or}
use Rattle.std.specs.Ordering.{int_eq}
use Rattle.std.proofs.lemmas.List.{length_push, take_more, take_all, get_or_push, get_or_append_left}
use Rattle.std.proofs.lemmas.Bool.{cases_eq}
use Rattle.std.proofs.lemmas.Bool.Decides.{Decides-int_eq}
use Rattle.std.proofs.lemmas.Option.{slice_get_within, get_or_from_slice_get}
use Rattle.lists.proofs.Places.{some_once}
use Rattle.signal_graph.specs.GraphOf.{Made, constant, Site, word_node, is_target, is_constant}
use Rattle.flow_graph.specs.Private.Words.{number_in, number_if}
use Rattle.flow_graph.specs.Private.Nodes.{word_position, is_made_after, with_site, nodes_from, nodes_of, IsCounted}
use Rattle.flow_graph.specs.Private.Nodes.{IsPlaceNumber, Numbers, AreNumbers}
use Rattle.flow_graph.proofs.Positions.{position_end, position_other}

pub kept : (nodes : List Site) (s : Site) (made : Made)
    → s.made ≡ made
    → is_made_after nodes made ≡ false
    → with_site nodes s ≡ nodes
kept nodes s made is fails = ap (λ b. if b then nodes ++ s ∷ [] else nodes) (ap (is_made_after nodes) is ∙ fails)

pub grown : (nodes : List Site) (s : Site) (made : Made)
    → s.made ≡ made
    → is_made_after nodes made ≡ true
    → with_site nodes s ≡ nodes ++ s ∷ []
grown nodes s made is sure = ap (λ b. if b then nodes ++ s ∷ [] else nodes) (ap (is_made_after nodes) is ∙ sure)

or_none : (o : Option ℕ) → option_or o None ≡ o
or_none (Some x) = refl
or_none None = refl

-- a word that was not met
module _ (words words' : List (ℤ × ℕ)) (count : ℕ) (m : ℤ) (none : number_in words m ≡ None)
    (added : (k : ℤ) → number_in words' k ≡ option_or (number_in words k) (number_if m count k)) where
  module _ (nodes : List Site) (s : Site) (is : s.made ≡ constant m) (c : IsCounted nodes words count) where
    more : with_site nodes s ≡ nodes ++ s ∷ []
    more = grown nodes s (constant m) is (ap (λ (o : Option ℕ). is_none o) (sym (c.met m) ∙ none))

    here : word_position m (nodes ++ s ∷ []) ≡ Some (length nodes)
    here =
        position_end (is_target (word_node m)) nodes s (sym (c.met m) ∙ none)
        (ap (is_constant m) is ∙ (Decides-int_eq m m).1 refl)

    by : (k : ℤ) (b : Bool)
        → int_eq m k ≡ b
        → option_or (number_in words k) (if b then Some count else None) ≡ word_position k (nodes ++ s ∷ [])
    by k true e =
        let same = (Decides-int_eq m k).0 e in
        subst (λ (j : ℤ). option_or (number_in words j) (Some count) ≡ word_position j (nodes ++ s ∷ [])) same
        (ap (λ o. option_or o (Some count)) none ∙ ap Some c.size ∙ sym here)
    by k false e =
        or_none (number_in words k) ∙ c.met k
        ∙ sym (position_other (is_target (word_node k)) nodes s (ap (is_constant k) is ∙ other (int_eq k m) refl))
      where
        other : (b : Bool) → int_eq k m ≡ b → int_eq k m ≡ false
        other false f = f
        other true f = absurd (let t = (Decides-int_eq m k).1 (sym ((Decides-int_eq k m).0 f)) in cc)

    counted_more : IsCounted (with_site nodes s) words' (count + 1)
    counted_more = record {
      size = let n = c.size in let size = ap length more ∙ length_push nodes s in omega arith;
      met = λ k. added k ∙ by k (int_eq m k) refl ∙ sym (ap (word_position k) more);
    }

  pub new_word : Numbers words count (constant m) words' (count + 1) count
  new_word = record {
    counted = counted_more;
    gives = λ nodes s is c. ap (word_position m) (more nodes s is c) ∙ here nodes s is c ∙ ap Some (sym c.size);
    few = omega arith;
  }

pub nodes_push : (nodes xs : List Site) (s : Site) → nodes_from nodes (xs ++ s ∷ []) ≡ with_site (nodes_from nodes xs) s
nodes_push nodes [] s = refl
nodes_push nodes (x ∷ xs) s = nodes_push (with_site nodes x) xs s

-- the first places are numbered
pub record NumbersSoFar (all : List Site) (i : ℕ) (words : List (ℤ × ℕ)) (count : ℕ) (numbers : List ℕ) : Type 0 where
  pub counted : IsCounted (nodes_of (take i all)) words count
  pub few : count ≤ i
  pub size : length numbers ≡ i
  pub places : (j : ℕ) (s : Site)
      → j < i
      → slice_get all j ≡ Some s
      → IsPlaceNumber (nodes_of (take j all)) s s.made (slice_index_or numbers j 0)

pub none_numbered : (all : List Site) (words : List (ℤ × ℕ)) (numbers : List ℕ)
    → words ≡ []
    → numbers ≡ []
    → NumbersSoFar all 0 words 0 numbers
none_numbered all words numbers no_words none = record {
  counted = record { size = refl; met = λ m. ap (λ ws. number_in ws m) no_words };
  few = omega arith;
  size = ap length none;
  places = λ j s below at. absurd (omega arith);
}

pub one_numbered :
    (all : List Site) (i : ℕ) (s : Site) (words words' : List (ℤ × ℕ)) (count count' v : ℕ) (numbers numbers' : List ℕ)
    → slice_get all i ≡ Some s
    → Numbers words count s.made words' count' v
    → numbers' ≡ numbers ++ v ∷ []
    → NumbersSoFar all i words count numbers
    → NumbersSoFar all (i + 1) words' count' numbers'
one_numbered all i s words words' count count' v numbers numbers' at n push h =
    let within = slice_get_within all i s at in
    let first : take (i + 1) all ≡ take i all ++ s ∷ [] =
    take_more all i s within ∙ ap (λ y. take i all ++ y ∷ []) (get_or_from_slice_get all i s s at) in
    let nodes : nodes_of (take (i + 1) all) ≡ with_site (nodes_of (take i all)) s =
    ap nodes_of first ∙ nodes_push [] (take i all) s in
    let number = n.gives (nodes_of (take i all)) s refl h.counted in
    record {
      counted =
          subst (λ (ns : List Site). IsCounted ns words' count') (sym nodes)
          (n.counted (nodes_of (take i all)) s refl h.counted);
      few = let a = n.few in let b = h.few in omega arith;
      size = ap length push ∙ length_push numbers v ∙ let e = h.size in omega arith;
      places = λ j t below there. elim (cases_eq j i) [
        | inl same ↦
            (let is : s ≡ t = some_once at (subst (λ (k : ℕ). slice_get all k ≡ Some t) same there) in
            let P : ℕ → Site → ℕ → Type 0 = λ k u w. IsPlaceNumber (nodes_of (take k all)) u u.made w in
            let read : slice_index_or numbers' i 0 ≡ v =
            ap (λ xs. get_or xs i 0) push ∙ get_or_push numbers v 0 i h.size in
            subst (λ k. P k t (slice_index_or numbers' k 0)) (sym same)
            (subst (λ u. P i u (slice_index_or numbers' i 0)) is (subst (λ w. P i s w) (sym read) number)))
        | inr other ↦
            (let less : j < i = omega arith in
            let read : slice_index_or numbers' j 0 ≡ slice_index_or numbers j 0 =
            ap (λ xs. get_or xs j 0) push
            ∙ get_or_append_left numbers (v ∷ []) 0 j (let e = h.size in omega arith) in
            subst (λ w. IsPlaceNumber (nodes_of (take j all)) t t.made w) (sym read) (h.places j t less there))
      ];
    }

pub all_numbered : (all : List Site) (i : ℕ) (words : List (ℤ × ℕ)) (count : ℕ) (numbers : List ℕ)
    → i ≡ length all
    → NumbersSoFar all i words count numbers
    → AreNumbers all numbers words
all_numbered all i words count numbers end h = record {
  size = h.size ∙ end;
  places = λ j s at. h.places j s (let within = slice_get_within all j s at in omega arith) at;
  met = λ m. h.counted.met m ∙ ap (λ xs. word_position m (nodes_of xs)) (take_all i all (omega arith));
}
