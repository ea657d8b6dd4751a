-- Which nodes are made at places, and the numbers of targets.
use Rattle.std.proofs.Common.{◌≡◌, refl, sym, ap, ◌∙◌, subst, ℕ, ◌<◌, true, length}
use Rattle.std.specs.Prelude.{ℤ, slice_get, find, ◌==◌, Option, Some}
use Rattle.std.proofs.lemmas.Bool.{eqb-true, eq-eqb, and_parts, and_from, false≢true}
use Rattle.std.proofs.lemmas.Bool.Decides.{Decides-int_eq}
use Rattle.std.proofs.lemmas.Option.{slice_get_within, same_Some}
use Rattle.signal_graph.specs.Flat.{Program}
use Rattle.signal_graph.specs.GraphOf.{Made, nothing, constant, input, operation, Site, sites, Target, word_node}
use Rattle.signal_graph.specs.GraphOf.{node_at, is_constant, is_target, is_place, is_made_at, node_sites, IsNumber}
use Rattle.signal_graph.proofs.Members.{at_member, in_filter, from_filter, finds, has_position, at_position}
use Rattle.signal_graph.proofs.Places.{site, made_of, IsPlace, place_in, in_place}

abbrev pub no_site : Site
no_site = site 0 0 nothing

-- the same word is made there
constant_yes : (m : ℤ) (made : Made) → is_constant m made ≡ true → made ≡ constant m
constant_yes m (constant k) h = ap (λ (w : ℤ). constant w) (sym ((Decides-int_eq m k).0 h))
constant_yes m nothing h = absurd (false≢true h)
constant_yes m (input j) h = absurd (false≢true h)
constant_yes m (operation o fmt operands) h = absurd (false≢true h)

-- an input or an operation
abbrev pub MakesNode : Made → Type 0
MakesNode nothing = ⊥
MakesNode (constant m) = ⊥
MakesNode (input j) = Unit {0}
MakesNode (operation o fmt operands) = Unit {0}

module _ (p : Program) where
  makes : (s : Site) (made : Made) → MakesNode made → is_made_at p s made ≡ true
  makes s nothing h = absurd h
  makes s (constant m) h = absurd h
  makes s (input j) h = refl
  makes s (operation o fmt operands) h = refl

  itself : (s : Site) → is_place s (Some s) ≡ true
  itself s =
      and_from (s.element == s.element) (s.place == s.place) (eq-eqb s.element s.element refl)
      (eq-eqb s.place s.place refl)

  -- the first place of a word makes its node
  first_makes : (m : ℤ) (s : Site) (made : Made)
      → made ≡ constant m
      → find (is_target (word_node m)) (sites p) ≡ Some s
      → is_made_at p s made ≡ true
  first_makes m s made is first =
      subst (λ (x : Made). is_made_at p s x ≡ true) (sym is)
      (ap (λ (o : Option Site). is_place s o) first ∙ itself s)

  pub node_is_place : (v : ℕ) (s : Site) → slice_get (node_sites p) v ≡ Some s → IsPlace p s
  node_is_place v s h =
      in_place p s (from_filter (λ (t : Site). is_made_at p t t.made) (sites p) s (at_member (node_sites p) v s h)).0

  -- the number is below that of the first output
  pub number_below : (t : Target) (v : ℕ) → IsNumber p t v → v < length (node_sites p)
  number_below t v h =
      let (s, there, is) = at_position (is_target t) (node_sites p) v no_site h in slice_get_within (node_sites p) v s
      there

  -- node v is made at place k of element e
  pub place_node : (e k v : ℕ) (made : Made)
      → IsNumber p (node_at e k) v
      → slice_get (made_of p e) k ≡ Some made
      → slice_get (node_sites p) v ≡ Some (site e k made)
  place_node e k v made h there =
      let (s, at, is) = at_position (is_target (node_at e k)) (node_sites p) v no_site h in
      let parts = and_parts (s.element == e) (s.place == k) is in
      let element = eqb-true s.element e parts.0 in
      let place = eqb-true s.place k parts.1 in
      let made_there = (node_is_place v s at).made in
      let here : slice_get (made_of p e) k ≡ Some s.made =
      subst (λ (i : ℕ). slice_get (made_of p e) i ≡ Some s.made) place
      (subst (λ (i : ℕ). slice_get (made_of p i) s.place ≡ Some s.made) element made_there) in
      at
      ∙ ap (λ (i : ℕ). Some (site i s.place s.made)) element
      ∙ ap (λ (i : ℕ). Some (site e i s.made)) place
      ∙ ap (λ (x : Made). Some (site e k x)) (same_Some s.made made (sym here ∙ there))

  -- node v is made for the word
  pub word_at : (m : ℤ) (v : ℕ)
      → IsNumber p (word_node m) v
      → (s : Site) × (slice_get (node_sites p) v ≡ Some s) × (s.made ≡ constant m)
  word_at m v h =
      let (s, at, is) = at_position (is_target (word_node m)) (node_sites p) v no_site h in
      (s, at, constant_yes m s.made is)

  pub has_place_number : (e k : ℕ) (made : Made)
      → e < length p.elems
      → slice_get (made_of p e) k ≡ Some made
      → MakesNode made
      → (v : ℕ) × IsNumber p (node_at e k) v
  has_place_number e k made el there is =
      let s = site e k made in
      has_position (is_target (node_at e k)) (node_sites p) s
      (in_filter (λ (t : Site). is_made_at p t t.made) (sites p) s
      (place_in p s (record { element = el; made = there }))
      (makes s made is))
      (itself s)

  pub has_word_number : (e k : ℕ) (m : ℤ)
      → e < length p.elems
      → slice_get (made_of p e) k ≡ Some (constant m)
      → (v : ℕ) × IsNumber p (word_node m) v
  has_word_number e k m el there =
      let test = is_target (word_node m) in
      let (s, found) =
      finds test (sites p) (site e k (constant m))
      (place_in p (site e k (constant m)) (record { element = el; made = there })) ((Decides-int_eq m m).1 refl) in
      has_position test (node_sites p) s
      (in_filter (λ (t : Site). is_made_at p t t.made) (sites p) s found.member
      (first_makes m s s.made (constant_yes m s.made found.passes) found.first))
      found.passes
