-- An alias leads to an element that is less high, and the end of its chain is an element with the same node.
use Rattle.std.proofs.Common.{◌≡◌, ℕ, ◌<◌, ◌≤◌, inl, inr, Bool, true, false, List, [], length, refl, sym, ap, subst}
use Rattle.std.proofs.Common.{◌∙◌, arith}
use Rattle.std.specs.Prelude.{nat_lt, ◌||◌, if◌then◌else◌}
use Rattle.std.proofs.lemmas.Bool.{cases_lt}
use Rattle.recurrences.proofs.Determined.{HasHeights}
use Rattle.recurrences.proofs.Heights.{has_heights, few_below}
use Rattle.signal_graph.specs.Flat.{raw, read, calculation, Body, word, value, Program}
use Rattle.signal_graph.specs.FlatRules.{IsFlat}
use Rattle.signal_graph.specs.FlatSolves.{no_element, element_of, ElementReads, flat_system, IsFlatLoopless}
use Rattle.signal_graph.specs.Values.{BodyReads}
use Rattle.signal_graph.specs.GraphOf.{is_delayed, has_pass, IsAlias, read_alias}
use Rattle.signal_graph.proofs.Values.{body_allowed}
use Rattle.signal_graph.proofs.Tests.{body_test, body_yes, body_no}
use Rattle.signal_graph.proofs.OneSolution.{flat_determined}
use Rattle.flow_graph.specs.Private.Aliases.{alias, IsEnd, IsInside, JumpsTo, Jumps, AreAliases}

-- no number is below 0
not_above : (ago : ℕ) → nat_lt 0 ago ≡ false → ago ≡ 0
not_above ago h = elim (cases_lt 0 ago) [ inl above ↦ absurd (grind (arith, h, above)) | inr none ↦ omega arith ]

module _ (p : Program) (sound : IsFlat p) (loopless : IsFlatLoopless p) where
  pub heights : HasHeights (flat_system p [])
  heights =
      has_heights (flat_system p []) (flat_determined p sound []) (length p.elems) (λ e el. el)
      (λ e d. body_test (element_of p e).body d)
      (λ e d. (body_yes (element_of p e).body d, body_no (element_of p e).body d)) loopless

  abbrev pub height : ℕ → ℕ
  height = heights.height

  pub height_most : (e : ℕ) → e < length p.elems → height e ≤ length p.elems
  unfolding heights
  height_most e el =
      few_below (flat_system p []) (flat_determined p sound []) (length p.elems) (λ e el. el)
      (λ e d. body_test (element_of p e).body d)
      (λ e d. (body_yes (element_of p e).body d, body_no (element_of p e).body d)) loopless e el

  itself : (e : ℕ) → IsEnd p e → JumpsTo p height 1 e e
  itself e ends = record { named = λ t n. n; stays = λ same. refl; falls = inl ends }

  no_alias : (e : ℕ) (b : Body) → (element_of p e).body ≡ b → ((d : ℕ) → b ≡ value (read d 0) → ⊥) → IsEnd p e
  no_alias e b is other d a = other d (sym is ∙ a.body)

  leads_to : (e : ℕ) (b : Body)
      → e < length p.elems
      → (element_of p e).body ≡ b
      → JumpsTo p height 1 e (alias (is_delayed p e) e b)
  leads_to e (word j) within is = itself e (no_alias e (word j) is (λ d same. cc))
  leads_to e (value (raw m)) within is = itself e (no_alias e (value (raw m)) is (λ d same. cc))
  leads_to e (value (calculation o fmt parts)) within is =
      itself e (no_alias e (value (calculation o fmt parts)) is (λ d same. cc))
  leads_to e (value (read d ago)) within is = by (has_pass p e (read d ago)) refl
    where
      by : (b : Bool) → has_pass p e (read d ago) ≡ b → JumpsTo p height 1 e (if b then e else d)
      by true pass = itself e (λ c a. (let same : value (read d ago) ≡ value (read c 0) = sym is ∙ a.body in
          let d_is : d ≡ c = cc in let ago_is : ago ≡ 0 = cc in
          let p_is : has_pass p e (read d ago) ≡ has_pass p e (read c 0) =
          ap (λ k. has_pass p e (read d k)) ago_is ∙ ap (λ k. has_pass p e (read k 0)) d_is in
          let no_pass = a.pass in absurd (cc)))
      by false pass =
          let now : ago ≡ 0 = not_above ago (first (nat_lt 0 ago) refl pass) in
          let body : (element_of p e).body ≡ value (read d 0) = is ∙ ap (λ k. value (read d k)) now in
          let none : has_pass p e (read d 0) ≡ false = ap (λ k. has_pass p e (read d k)) (sym now) ∙ pass in
          let its : IsAlias p e (read d 0) = record { body = body; pass = none } in
          let reads : ElementReads p e d 0 = subst (λ (b : Body). BodyReads b d 0) (sym body) (refl, refl) in
          record {
            named = λ t n. read_alias its n;
            stays = λ ends. absurd (ends d its);
            falls = inr (let low = heights.falls e d within reads in omega arith);
          }
        where
          first : (x : Bool) → nat_lt 0 ago ≡ x → (x || is_delayed p e) ≡ false → nat_lt 0 ago ≡ false
          first true h q = absurd (cc)
          first false h q = h

  inside_of : (e : ℕ) (b : Body)
      → e < length p.elems
      → (element_of p e).body ≡ b
      → alias (is_delayed p e) e b < length p.elems
  inside_of e (word j) within is = within
  inside_of e (value (raw m)) within is = within
  inside_of e (value (calculation o fmt parts)) within is = within
  inside_of e (value (read d ago)) within is = by (has_pass p e (read d ago))
    where
      there : d < length p.elems
      there =
          (body_allowed p (element_of p e).ty (element_of p e).body d ago (sound.elements e no_element within).body
          (subst (λ (b : Body). BodyReads b d ago) (sym is) (refl, refl))).element

      by : (b : Bool) → (if b then e else d) < length p.elems
      by true = within
      by false = there

  pub aliases_inside : (aliases : List ℕ) → AreAliases p aliases → IsInside aliases
  aliases_inside aliases a e within =
      let size = a.size in
      let below = inside_of e (element_of p e).body (omega arith) refl in
      let at = a.at e (omega arith) in
      omega arith

  pub aliases_jump : (aliases : List ℕ) → AreAliases p aliases → Jumps p height 1 aliases
  aliases_jump aliases a = record {
    at = λ e within. (let size = a.size in
        subst (λ (d : ℕ). JumpsTo p height 1 e d) (sym (a.at e (omega arith)))
        (leads_to e (element_of p e).body (omega arith) refl));
  }
