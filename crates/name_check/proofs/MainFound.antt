-- The search for main, and what the whole phase answers.
use Rattle.std.proofs.Common.{◌≡◌, ◌≢◌, ◌⊎◌, ◌<◌, ◌+◌, ◌∙◌, ℕ, suc, List, ◌∷◌, Option, Some, None, true, false, cond}
use Rattle.std.proofs.Common.{Result, Ok, Err, map, drop, find, filter_map, length, get_or, codes, bytes_eq, refl, sym}
use Rattle.std.proofs.Common.{ap, inl, inr, add-one, drop-cons, IfErr, IsErrAnd, OnOk, subst, option_map, MatchOption}
use Rattle.std.specs.Option.{ok_or}
use Rattle.std.proofs.lemmas.Option.{slice_get-map, slice_get_read}
use Rattle.fault_order.specs.Ranked.{IsClear, IsFirst}
use Rattle.fault_order.proofs.FirstFaults.{one_first}
use Rattle.silage_syntax.specs.declared.tree.Top.{Top as RustTop}
use Rattle.silage_syntax.specs.Tree.{Func, Top, table, function, Program, view_top}
use Rattle.silage_syntax.specs.Names.{as_function, main_of}
use Rattle.name_rules.specs.FirstTops.{is_main}
use Rattle.name_rules.specs.NameFaults.{name_faults, IsMain}
use Rattle.fault_order.specs.Ranked.{AnswersOk, AnswersFault}
use Rattle.name_rules.specs.declared.fault.NameFault.{NameFault}
use Rattle.name_rules.specs.declared.fault.NameFault.TheVariants.{Unknown, Twice, Recursive, NoMain, Arity, Size}
use Rattle.name_rules.specs.declared.fault.NameFault.TheVariants.{Memory}
use Rattle.name_check.proofs.NameAnswers.{names_single}

abbrev pub main_among : List Top → Option Func
main_among ts = find (λ (f : Func). bytes_eq f.name (codes "main")) (filter_map as_function ts)

module _ (rs : List RustTop) (at : ℕ) (x : RustTop) (within : at < length rs) (is : x ≡ get_or rs at x) where
  here : drop at rs ≡ x ∷ drop (at + 1) rs
  here = drop-cons rs at x within ∙ ap (λ y. y ∷ drop (suc at) rs) (sym is) ∙ ap (λ k. x ∷ drop k rs) (sym (add-one at))

  -- what is not main is passed over
  pub no_main_here : is_main (view_top x) ≡ false
      → main_among (map view_top (drop at rs)) ≡ main_among (map view_top (drop (at + 1) rs))
  no_main_here e = ap (λ l. main_among (map view_top l)) here ∙ by (view_top x) e
    where
      by : (t : Top)
          → is_main t ≡ false
          → main_among (t ∷ map view_top (drop (at + 1) rs)) ≡ main_among (map view_top (drop (at + 1) rs))
      by (table c) e = refl
      by (function f) e = ap (λ b. cond b (Some f) (main_among (map view_top (drop (at + 1) rs)))) e

  pub main_here : is_main (view_top x) ≡ true
      → main_among (map view_top (drop at rs)) ≡ main_among (map view_top rs)
      → IsMain (record { tops = map view_top rs }) at
  main_here e so_far = by (view_top x) e refl
    where
      by : (t : Top) → is_main t ≡ true → view_top x ≡ t → IsMain (record { tops = map view_top rs }) at
      by (table c) e same = absurd (cc)
      by (function f) e same = record {
        func = f;
        is_main =
            sym so_far ∙ ap (λ l. main_among (map view_top l)) here
            ∙ ap (λ t. main_among (t ∷ map view_top (drop (at + 1) rs))) same
            ∙ ap (λ b. cond b (Some f) (main_among (map view_top (drop (at + 1) rs)))) e;
        stands =
            slice_get-map view_top rs at
            ∙ ap (λ o. option_map view_top o) (slice_get_read rs (length rs) at x refl within is) ∙ ap Some same;
      }

pub some_main : (p : Program) (k : ℕ) → IsMain p k → main_of p ≢ None
some_main p k m e = let is = m.is_main in cc

memory_or_not : (f : NameFault) → (f ≡ Memory) ⊎ (f ≢ Memory)
memory_or_not (Unknown at) = inr (λ e. cc)
memory_or_not (Twice at) = inr (λ e. cc)
memory_or_not (Recursive at) = inr (λ e. cc)
memory_or_not NoMain = inr (λ e. cc)
memory_or_not (Arity at) = inr (λ e. cc)
memory_or_not (Size at) = inr (λ e. cc)
memory_or_not Memory = inl refl

module _ {A : Type 0} (p : Program) where
  pub clear_is_ok : (r : Result A NameFault)
      → IfErr r (λ fault. fault ≢ Memory → IsFirst (name_faults p) fault)
      → IsClear (name_faults p)
      → AnswersOk Memory r
  clear_is_ok (Ok x) fails clear = tt
  clear_is_ok (Err f) fails clear = by (memory_or_not f)
    where
      by : (f ≡ Memory) ⊎ (f ≢ Memory) → f ≡ Memory
      by (inl e) = e
      by (inr n) = let i = fails n in absurd (clear i.rank f i.here)

  pub first_is_told : (r : Result A NameFault)
      → OnOk r (IsClear (name_faults p))
      → IfErr r (λ fault. fault ≢ Memory → IsFirst (name_faults p) fault)
      → (fault : NameFault)
      → IsFirst (name_faults p) fault
      → AnswersFault Memory fault r
  first_is_told (Ok x) clear fails fault i = absurd (clear i.rank fault i.here)
  first_is_told (Err f) clear fails fault i = by (memory_or_not f)
    where
      by : (f ≡ Memory) ⊎ (f ≢ Memory) → (f ≡ fault) ⊎ (f ≡ Memory)
      by (inl e) = inr e
      by (inr n) = inl (one_first (name_faults p) f fault (names_single p) (fails n) i)

  -- an error that is the first fault, unless memory is wanted
  module _ (r : Result A NameFault) (e : NameFault) (is : IsErrAnd r (λ x. x ≡ e))
      (why : e ≢ Memory → IsFirst (name_faults p) e) where
    pub error_told : IfErr r (λ fault. fault ≢ Memory → IsFirst (name_faults p) fault)
    error_told = by r is
      where
        by : (r : Result A NameFault)
            → IsErrAnd r (λ x. x ≡ e)
            → IfErr r (λ fault. fault ≢ Memory → IsFirst (name_faults p) fault)
        by (Ok x) h = absurd h
        by (Err f) h = λ n. subst (λ (g : NameFault). IsFirst (name_faults p) g) (sym h) (why (λ m. n (h ∙ m)))

    no_ok : OnOk r (IsClear (name_faults p))
    no_ok = by r is
      where
        by : (r : Result A NameFault) → IsErrAnd r (λ x. x ≡ e) → OnOk r (IsClear (name_faults p))
        by (Ok x) h = absurd h
        by (Err f) h = tt

    pub error_each_ok : IsClear (name_faults p) → AnswersOk Memory r
    error_each_ok = clear_is_ok r error_told

    pub error_each_fault : (fault : NameFault) → IsFirst (name_faults p) fault → AnswersFault Memory fault r
    error_each_fault = first_is_told r no_ok error_told

-- the search for main, as a result
module _ (p : Program) (o : Option ℕ) (m : MatchOption o (main_of p ≡ None) (IsMain p)) where
  pub no_main_given : (e : NameFault) → Err e ≡ ok_or o NoMain → (main_of p ≡ None) × (e ≡ NoMain)
  no_main_given e is = by o m is
    where
      by : (o : Option ℕ)
          → MatchOption o (main_of p ≡ None) (IsMain p)
          → Err e ≡ ok_or o NoMain
          → (main_of p ≡ None) × (e ≡ NoMain)
      by None m is = (m, (cc))
      by (Some k) m is = absurd (cc)

  pub main_given : (k : ℕ) → Ok k ≡ ok_or o NoMain → main_of p ≢ None
  main_given k is = by o m is
    where
      by : (o : Option ℕ) → MatchOption o (main_of p ≡ None) (IsMain p) → Ok k ≡ ok_or o NoMain → main_of p ≢ None
      by None m is = absurd (cc)
      by (Some j) m is = some_main p j m
