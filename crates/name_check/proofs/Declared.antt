-- The declarations of a function, one after another and in three parts.
use Rattle.std.proofs.Common.{◌≡◌, ◌≢◌, ◌∙◌, ◌+◌, ◌<◌, ◌≤◌, ◌++◌, ◌∷◌, ◌&&◌, ◌||◌, Bool, true, false, not, ℕ, List, []}
use Rattle.std.proofs.Common.{Result, Ok, Err, IsErrAnd, length, get_or, take, drop, refl, sym, ap, append-nil}
use Rattle.std.proofs.Common.{append_assoc}
use Rattle.std.proofs.lemmas.List.{map-append, take_more, take_all, drop_more, drop_all}
use Rattle.std.proofs.lemmas.Bool.{and_from, or_from}
use Rattle.fault_order.specs.Rules.{parts, unless, none, ◌▸◌}
use Rattle.fault_order.specs.Private.FirstMet.{first, first_in, ◌>>◌, MeetsOr}
use Rattle.fault_order.proofs.TableFaults.{then_assoc}
use Rattle.silage_syntax.specs.declared.tree.Decl.{Decl}
use Rattle.silage_syntax.specs.Tree.{Func}
use Rattle.silage_syntax.specs.Names.{decls}
use Rattle.name_rules.specs.Meanings.{is_among, names_of, are_dims, is_signal_type}
use Rattle.name_rules.specs.NameRules.{decl_rules, signal_rules}
use Rattle.name_rules.specs.declared.fault.NameFault.{NameFault}
use Rattle.name_rules.specs.declared.fault.NameFault.TheVariants.{Memory, Size, Twice}

-- a declaration by its size, and whether its name is taken
module _ (size twice : NameFault) where
  abbrev pair : (sized taken : Bool) → Result (Unit {0}) NameFault
  pair sized taken = first (parts (unless sized size ▸ unless (not taken) twice ▸ none))

  pub taken_is : (sized taken : Bool) → sized ≡ true → taken ≡ true → pair sized taken ≡ Err twice
  taken_is true true a b = refl
  taken_is true false a b = absurd (cc)
  taken_is false taken a b = absurd (cc)

  pub free_is : (sized taken : Bool) → sized ≡ true → taken ≡ false → pair sized taken ≡ Ok tt
  free_is true false a b = refl
  free_is true true a b = absurd (cc)
  free_is false taken a b = absurd (cc)

module _ (tops : List (List ℕ)) where
  abbrev pub met : (signals : List (List ℕ)) → List Decl → Result (Unit {0}) NameFault
  met signals ds = first_in (signal_rules tops signals ds)

  -- declarations in two parts
  pub met-append : (signals : List (List ℕ)) (xs ys : List Decl)
      → met signals (xs ++ ys) ≡ met signals xs >> met (signals ++ names_of xs) ys
  met-append signals [] ys = ap (λ names. met names ys) (sym (append-nil signals))
  met-append signals (x ∷ xs) ys =
      ap (λ r. first (decl_rules tops signals x) >> r) (met-append (signals ++ x.name ∷ []) xs ys
      ∙ ap (λ names. met (signals ++ x.name ∷ []) xs >> met names ys)
      (append_assoc signals (x.name ∷ []) (names_of xs)))
      ∙ then_assoc (first (decl_rules tops signals x)) (met (signals ++ x.name ∷ []) xs)
      (met (signals ++ names_of (x ∷ xs)) ys)

  module _ (signals : List (List ℕ)) (d : Decl) (dims : are_dims d.dims ≡ true) (ty : is_signal_type d.ty ≡ true) where
    pub declared_twice : is_among tops d.name || is_among signals d.name ≡ true
        → first (decl_rules tops signals d) ≡ Err (Twice d.at)
    declared_twice taken =
        taken_is (Size d.at) (Twice d.at) (are_dims d.dims && is_signal_type d.ty)
        (is_among tops d.name || is_among signals d.name) (and_from _ _ dims ty) taken

    pub declared_once : is_among tops d.name ≡ false
        → is_among signals d.name ≡ false
        → first (decl_rules tops signals d) ≡ Ok tt
    declared_once a b =
        free_is (Size d.at) (Twice d.at) (are_dims d.dims && is_signal_type d.ty)
        (is_among tops d.name || is_among signals d.name) (and_from _ _ dims ty) (or_from _ _ a b)

  -- the first i declarations are met without a fault
  pub record HasDeclared (signals : List (List ℕ)) (ds : List Decl) (i : ℕ) (now : List (List ℕ)) : Type 0 where
    pub names : now ≡ signals ++ names_of (take i ds)
    pub left : met signals ds ≡ met now (drop i ds)

  pub none_declared : (signals : List (List ℕ)) (ds : List Decl) → HasDeclared signals ds 0 signals
  none_declared signals ds = record { names = sym (append-nil signals); left = refl }

  module _ (signals now new : List (List ℕ)) (ds : List Decl) (i : ℕ) (d : Decl) (within : i < length ds)
      (is : d ≡ get_or ds i d) (h : HasDeclared signals ds i now) where
    next_met : met signals ds ≡ first (decl_rules tops now d) >> met (now ++ d.name ∷ []) (drop (i + 1) ds)
    next_met = h.left ∙ ap (met now) (drop_more ds i d within ∙ ap (λ (x : Decl). x ∷ drop (i + 1) ds) (sym is))

    pub one_declared : first (decl_rules tops now d) ≡ Ok tt
        → new ≡ now ++ d.name ∷ []
        → HasDeclared signals ds (i + 1) new
    one_declared passes new_is = record {
      names =
          new_is ∙ ap (λ names. names ++ d.name ∷ []) h.names
          ∙ append_assoc signals (names_of (take i ds)) (d.name ∷ [])
          ∙ ap (λ names. signals ++ names)
          (ap (λ (x : Decl). names_of (take i ds) ++ x.name ∷ []) is
          ∙ sym (map-append (λ (x : Decl). x.name) (take i ds) (get_or ds i d ∷ []))
          ∙ ap names_of (sym (take_more ds i d within)));
      left =
          next_met ∙ ap (λ r. r >> met (now ++ d.name ∷ []) (drop (i + 1) ds)) passes
          ∙ ap (λ names. met names (drop (i + 1) ds)) (sym new_is);
    }

    pub one_fails : (r : Result (Unit {0}) NameFault) (e : NameFault)
        → IsErrAnd r (λ x. x ≡ e)
        → (e ≢ Memory → first (decl_rules tops now d) ≡ Err e)
        → MeetsOr Memory (met signals ds) r
    one_fails (Ok x) e is fails = absurd is
    one_fails (Err f) e is fails = λ not_memory.
        next_met ∙ ap (λ r. r >> met (now ++ d.name ∷ []) (drop (i + 1) ds)) (fails (λ m. not_memory (is ∙ m)))
        ∙ ap Err (sym is)

  pub all_declared : (signals now : List (List ℕ)) (ds : List Decl) (i : ℕ)
      → length ds ≤ i
      → HasDeclared signals ds i now
      → (met signals ds ≡ Ok tt) × (now ≡ signals ++ names_of ds)
  all_declared signals now ds i past h =
      (h.left ∙ ap (met now) (drop_all i ds past), h.names ∙ ap (λ xs. signals ++ names_of xs) (take_all i ds past))

-- the parameters, the results and the locals of a function
module _ (tops : List (List ℕ)) (f : Func) where
  abbrev params : List (List ℕ)
  params = names_of f.params

  abbrev results : List (List ℕ)
  results = params ++ names_of f.results

  whole : met tops [] (decls f) ≡ met tops [] f.params >> (met tops params f.results >> met tops results f.locals)
  whole =
      met-append tops [] f.params (f.results ++ f.locals)
      ∙ ap (λ r. met tops [] f.params >> r) (met-append tops params f.results f.locals)

  pub all_names : results ++ names_of f.locals ≡ names_of (decls f)
  all_names =
      append_assoc (names_of f.params) (names_of f.results) (names_of f.locals)
      ∙ ap (λ xs. names_of f.params ++ xs) (sym (map-append (λ (d : Decl). d.name) f.results f.locals))
      ∙ sym (map-append (λ (d : Decl). d.name) f.params (f.results ++ f.locals))

  pub params_fail : {A : Type 0} (r : Result A NameFault) (e : NameFault)
      → IsErrAnd r (λ x. x ≡ e)
      → (e ≢ Memory → met tops [] f.params ≡ Err e)
      → MeetsOr Memory (met tops [] (decls f)) r
  params_fail (Ok x) e is fails = absurd is
  params_fail (Err g) e is fails = λ not_memory.
      whole ∙ ap (λ s. s >> (met tops params f.results >> met tops results f.locals)) (fails (λ m. not_memory (is ∙ m)))
      ∙ ap Err (sym is)

  module _ (well : met tops [] f.params ≡ Ok tt) where
    after_params : met tops [] (decls f) ≡ met tops params f.results >> met tops results f.locals
    after_params = whole ∙ ap (λ s. s >> (met tops params f.results >> met tops results f.locals)) well

    pub results_fail : {A : Type 0} (r : Result A NameFault) (e : NameFault)
        → IsErrAnd r (λ x. x ≡ e)
        → (e ≢ Memory → met tops params f.results ≡ Err e)
        → MeetsOr Memory (met tops [] (decls f)) r
    results_fail (Ok x) e is fails = absurd is
    results_fail (Err g) e is fails = λ not_memory.
        after_params ∙ ap (λ s. s >> met tops results f.locals) (fails (λ m. not_memory (is ∙ m))) ∙ ap Err (sym is)

    module _ (fine : met tops params f.results ≡ Ok tt) where
      pub after_results : met tops [] (decls f) ≡ met tops results f.locals
      after_results = after_params ∙ ap (λ s. s >> met tops results f.locals) fine

      pub locals_fail : {A : Type 0} (r : Result A NameFault) (e : NameFault)
          → IsErrAnd r (λ x. x ≡ e)
          → (e ≢ Memory → met tops results f.locals ≡ Err e)
          → MeetsOr Memory (met tops [] (decls f)) r
      locals_fail (Ok x) e is fails = absurd is
      locals_fail (Err g) e is fails = λ not_memory. after_results ∙ fails (λ m. not_memory (is ∙ m)) ∙ ap Err (sym is)
