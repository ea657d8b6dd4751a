-- What the parts of the names phase answer is the first fault of the whole.
use Rattle.std.proofs.Common.{◌≡◌, ◌≢◌, ◌<◌, ◌≤◌, ◌⊎◌, ◌∙◌, ℕ, List, [], ◌∷◌, Some, None, Result, Ok, Err, slice_get}
use Rattle.std.proofs.Common.{sym, ap, subst, inl, inr, arith}
use Rattle.std.proofs.lemmas.Bool.{cases_lt}
use Rattle.fault_order.specs.Ranked.{FaultSet, StandsBefore, IsFirst, IsClear, faults_in, fault_where, no_faults}
use Rattle.fault_order.specs.Ranked.{◌before◌}
use Rattle.fault_order.proofs.FirstFaults.{IsSingle, Answers}
use Rattle.fault_order.specs.Rules.{faults}
use Rattle.fault_order.specs.Private.FirstMet.{first}
use Rattle.fault_order.proofs.FirstFaults.{none_clear, before_clear, before_first, later_first, own_clear, own_first}
use Rattle.fault_order.proofs.FirstFaults.{none_single, before_single, own_single}
use Rattle.fault_order.proofs.TableFaults.{first_answers, single_faults}
use Rattle.silage_syntax.specs.Tree.{Top, Program}
use Rattle.silage_syntax.specs.Names.{main_of}
use Rattle.name_rules.specs.TopNames.{top_at, top_names, IsDuplicate}
use Rattle.name_rules.specs.FirstTops.{IsDistinct, IsFirstDuplicate}
use Rattle.digraph.specs.Arcs.{Reaches, HasNoCycle}
use Rattle.name_rules.specs.Calls.{Calls}
use Rattle.name_rules.specs.FirstTops.{IsRecursive}
use Rattle.name_rules.specs.NameRules.{all_top_rules}
use Rattle.name_rules.specs.NameFaults.{faults_of_tops, name_faults}
use Rattle.name_rules.specs.declared.fault.NameFault.{NameFault}
use Rattle.name_rules.specs.declared.fault.NameFault.TheVariants.{Twice, Recursive, NoMain}

module _ (p : Program) (IsBroken : ℕ → Type 0) (at : ℕ → NameFault) where
  tops_clear : ((k : ℕ) → IsBroken k → ⊥) → IsClear (faults_in (faults_of_tops p IsBroken at))
  tops_clear n [] f h = h
  tops_clear n (k ∷ []) f h = n k h.2
  tops_clear n (k ∷ l ∷ r) f h = h

  tops_first : (k : ℕ) (t : Top) (fault : NameFault)
      → slice_get p.tops k ≡ Some t
      → IsBroken k
      → ((j : ℕ) → IsBroken j → k ≤ j)
      → fault ≡ at (top_at t)
      → IsFirst (faults_in (faults_of_tops p IsBroken at)) fault
  tops_first k t fault stands broken is_first told =
      record { rank = k ∷ []; here = (t, stands, broken, told); least = least }
    where
      least : (s : List ℕ) (f : NameFault) → faults_in (faults_of_tops p IsBroken at) s f → StandsBefore (k ∷ []) s
      least [] f h = h
      least (j ∷ l ∷ r) f h = absurd h
      least (j ∷ []) f h = by (cases_lt k j)
        where
          low : k ≤ j
          low = is_first j h.2

          by : (k < j) ⊎ (j ≤ k) → StandsBefore (k ∷ []) (j ∷ [])
          by (inl l) = inl l
          by (inr l) = inr (omega (arith, low), tt)

  tops_single : IsSingle (faults_in (faults_of_tops p IsBroken at))
  tops_single [] f g h i = absurd h
  tops_single (k ∷ []) f g h i =
      let same : h.0 ≡ i.0 = once (sym h.1 ∙ i.1) in
      h.3 ∙ ap (λ t. at (top_at t)) same ∙ sym i.3
    where
      once : {s t : Top} → Some s ≡ Some t → s ≡ t
      once e = cc
  tops_single (k ∷ l ∷ r) f g h i = absurd h

module _ (p : Program) where
  abbrev no_main : FaultSet NameFault
  no_main = fault_where (main_of p ≡ None) NoMain

  abbrev recursion : FaultSet NameFault
  recursion = faults_in (faults_of_tops p (λ k. Reaches (Calls p) k k) Recursive)

  abbrev doubles : FaultSet NameFault
  doubles = faults_in (faults_of_tops p (IsDuplicate (top_names p)) Twice)

  abbrev inside : FaultSet NameFault
  inside = faults (all_top_rules p)

  pub names_single : IsSingle (name_faults p)
  names_single =
      before_single doubles (inside before recursion before no_main before no_faults)
      (tops_single p (IsDuplicate (top_names p)) Twice)
      (before_single inside (recursion before no_main before no_faults) (single_faults (all_top_rules p))
      (before_single recursion (no_main before no_faults) (tops_single p (λ k. Reaches (Calls p) k k) Recursive)
      (before_single no_main no_faults (own_single (main_of p ≡ None) NoMain no_faults none_single) none_single)))

  pub twice_first : (fault : NameFault) → IsFirstDuplicate p fault → IsFirst (name_faults p) fault
  twice_first fault i =
      before_first doubles (inside before recursion before no_main before no_faults) fault
      (tops_first p (IsDuplicate (top_names p)) Twice i.place i.top fault i.stands i.duplicate i.first i.told)

  module _ (apart : IsDistinct (top_names p)) where
    behind_doubles : (fault : NameFault)
        → IsFirst (faults_in (inside before recursion before no_main before no_faults)) fault
        → IsFirst (name_faults p) fault
    behind_doubles fault i =
        later_first doubles (inside before recursion before no_main before no_faults) fault
        (tops_clear p (IsDuplicate (top_names p)) Twice apart) i

    pub inside_first : (fault : NameFault) → Err fault ≡ first (all_top_rules p) → IsFirst (name_faults p) fault
    inside_first fault e =
        let is : IsFirst inside fault =
        subst (λ (r : Result (Unit {0}) NameFault). Answers inside r) (sym e) (first_answers (all_top_rules p)) in
        behind_doubles fault (before_first inside (recursion before no_main before no_faults) fault is)

    module _ (well : Ok tt ≡ first (all_top_rules p)) where
      inside_clear : IsClear inside
      inside_clear =
          subst (λ (r : Result (Unit {0}) NameFault). Answers inside r) (sym well) (first_answers (all_top_rules p))

      pub recursive_first : (fault : NameFault) → IsRecursive p fault → IsFirst (name_faults p) fault
      recursive_first fault i =
          let is =
          tops_first p (λ k. Reaches (Calls p) k k) Recursive i.place i.top fault i.stands i.first.cyclic
          i.first.first i.told in
          behind_doubles fault
          (later_first inside (recursion before no_main before no_faults) fault inside_clear
          (before_first recursion (no_main before no_faults) fault is))

      module _ (none : HasNoCycle (Calls p)) where
        recursion_clear : IsClear recursion
        recursion_clear = tops_clear p (λ k. Reaches (Calls p) k k) Recursive none

        pub no_main_first : main_of p ≡ None → IsFirst (name_faults p) NoMain
        no_main_first e =
            behind_doubles NoMain (later_first inside (recursion before no_main before no_faults) NoMain inside_clear
            (later_first recursion (no_main before no_faults) NoMain recursion_clear
            (before_first no_main no_faults NoMain (own_first (main_of p ≡ None) NoMain no_faults e))))

        pub names_clear : main_of p ≢ None → IsClear (name_faults p)
        names_clear n =
            before_clear doubles (inside before recursion before no_main before no_faults)
            (tops_clear p (IsDuplicate (top_names p)) Twice apart)
            (before_clear inside (recursion before no_main before no_faults) inside_clear
            (before_clear recursion (no_main before no_faults) recursion_clear
            (before_clear no_main no_faults (own_clear (main_of p ≡ None) NoMain no_faults n none_clear) none_clear)))
