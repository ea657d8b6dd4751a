-- The names of an item of an instance are known.
use Rattle.std.proofs.Common.{◌≡◌, ◌≢◌, ◌<◌, ◌≤◌, ◌+◌, ◌∙◌, refl, zero-add, ℕ, zero, suc, true, false, inl, inr, List}
use Rattle.std.proofs.Common.{[], ◌∷◌, ◌++◌, take, length, slice_get, slice_index_or, Option, Some, None, sym, subst}
use Rattle.std.proofs.Common.{ap, ap₂, arith}
use Rattle.std.specs.Prelude.{is_some, nat_eq, option_map}
use Rattle.std.specs.Option.{option_or}
use Rattle.std.proofs.lemmas.Bool.Decides.{eqb_tells}
use Rattle.std.proofs.lemmas.List.{length-append}
use Rattle.std.proofs.lemmas.List.Sums.{sum_by-cons}
use Rattle.std.proofs.lemmas.Option.{slice_get_within}
use Rattle.lists.proofs.Places.{some_once, at_left, at_right}
use Rattle.fix_word.specs.declared.types.SigType.{SigType}
use Rattle.fix_word.specs.declared.types.SigType.TheVariants.{Fix}
use Rattle.silage_syntax.specs.declared.tree.ConstDef.{ConstDef}
use Rattle.silage_syntax.specs.declared.tree.Decl.{Decl}
use Rattle.silage_syntax.specs.Tree.{Manifest, Place, Expr, Item, equation, call, loop, initial, Func, function}
use Rattle.silage_syntax.specs.Tree.{Program}
use Rattle.silage_syntax.specs.Manifests.{Indices, HasValue}
use Rattle.silage_syntax.specs.Names.{decls, declared, element_count, table_named}
use Rattle.silage_meaning.specs.Types.{name_type}
use Rattle.silage_meaning.specs.Instances.{Element, element, Occurs, Site, made, turns_of, IsArray, IsArgument}
use Rattle.silage_meaning.specs.Instances.{IsResult, parameter_of, result_of}
use Rattle.silage_meaning.proofs.Elements.{made_is}
use Rattle.name_rules.specs.Meanings.{are_dims, read_dims}
use Rattle.element_rules.specs.declared.elements.Elements.{Elements}
use Rattle.element_rules.specs.Sizes.{AreSized, top_is_sized, first_of}
use Rattle.lists.proofs.Each.{all_pass}
use Rattle.element_rules.proofs.NamedItems.{within, IsWhole, IsCallNamed}
use Rattle.element_rules.proofs.SomeElements.{no_more}
use Rattle.element_rules.proofs.SoundNames.{all_sized}
use Rattle.element_rules.specs.ElementRules.{elements_of}
use Rattle.type_rules.specs.TypedTree as typed
use Rattle.type_rules.specs.declared.typed.TypedConst.{TypedConst}
use Rattle.type_rules.specs.Translation.{word_of, typed_table, typed_expr, typed_against, typed_item, typed_arguments}
use Rattle.type_rules.specs.Translation.{typed_func}
use Rattle.element_rules.specs.Numbers.{IsNumberOf}
use Rattle.loop_expand.specs.Private.Children.{child_of}
use Rattle.loop_expand.specs.Private.Facts.{signal_named}
use Rattle.loop_expand.specs.Private.Known.{HasElements, IsNamedArray, IsKnownExpr, IsKnownArray, IsKnownTarget}
use Rattle.loop_expand.specs.Private.Known.{IsKnownArgument, IsKnownTaker, IsKnownCall}
use Rattle.loop_expand.specs.Private.Scopes.{Signal, Body, Scope, body_at, body_for, signals_from, total}
use Rattle.loop_expand.specs.Private.Sizes.{decls_of}
use Rattle.loop_expand.specs.Private.Sites.{IsOfInstance, IsItemOf}
use Rattle.loop_expand.proofs.FactSteps.{map_long}
use Rattle.loop_expand.proofs.FlatReads.{signal_found, signal_unknown, number_is, table_is}
use Rattle.loop_expand.proofs.FlatSound.{equation_good, argument_good}
use Rattle.loop_expand.proofs.InstanceNumbers.{instance_body}
use Rattle.loop_expand.proofs.KnownExprs.{signal_there, signal_known, signal_placed, flat_known}
use Rattle.loop_expand.proofs.PassedItems.{sample_within}
use Rattle.loop_expand.proofs.ReadableExprs.{table_sized}
use Rattle.loop_expand.proofs.Shapes.{declared_type}
use Rattle.loop_expand.proofs.SiteFacts.{IsAt, IsTarget, IsChild, IsTaker, number_there, many_dims, array_number}
use Rattle.loop_expand.proofs.SiteFacts.{parameter_number, result_number, result_first, equation_target, equation_flat}
use Rattle.loop_expand.proofs.SiteFacts.{initial_target, initial_sample, is_named, argument_names, argument_flat}
use Rattle.loop_expand.proofs.SiteFacts.{whole_name, result_target, result_array, child, callee_body}
use Rattle.loop_expand.proofs.Sites.{of_all, total_is, IsCallOf}

module _ (c : Scope) (indices : Indices) where
  module _ (at : IsOfInstance c) where
    abbrev pub site : Site
    site = record { instance = at.path; function = at.func; indices = indices }

    abbrev pub All : total c ≡ length at.of.es.elements
    All = total_is c.tables c.bodies c.instances at.of

    abbrev Target : Place → Type 0
    Target place = IsTarget at.of.p at.of.checked at.of.es at.of.made_by site at.instance c (of_all c at) place

    pub target_known : (place : Place) → Target place → IsKnownTarget c indices place
    target_known place t =
        let n =
        number_there at.of.p at.of.checked at.of.es at.of.made_by site at.instance c (of_all c at) place t.d t.k
        t.decl t.signal in (
          ap is_some (number_is at.of.p at.of.es site c (of_all c at).scope place t.d t.k n.0 t.decl t.signal n.1),
          signal_placed at.of.p at.of.es site c (of_all c at).scope All place t.d t.k n.0 t.decl t.signal n.1,
        )

  -- an equation
  pub equation_known : (place : Place) (x : typed.TypedExpr)
      → IsItemOf c indices (typed.equation place x)
      → IsKnownTarget c indices place × IsKnownExpr c indices x
  equation_known place x h = by h.x h.is h.occurs
    where
      p : Program
      p = h.at.of.p

      by : (y : Item)
          → typed.equation place x ≡ typed_item p h.at.func y
          → Occurs h.at.func.items [] y indices
          → IsKnownTarget c indices place × IsKnownExpr c indices x
      by (call ps n args a) e occurs = absurd (cc e)
      by (initial q k l) e occurs = absurd (cc e)
      by (loop i l g ys a) e occurs = absurd (cc e)
      by (equation q v) e occurs =
          let same : q ≡ place = cc e in
          let is : typed_against (typed_expr p h.at.func v) (name_type p h.at.func q.name) ≡ x = cc e in
          let all = of_all c h.at in
          let t =
          equation_target p h.at.of.checked h.at.of.es h.at.of.made_by (site h.at) h.at.instance c all q v occurs in
          let f =
          equation_flat p h.at.of.checked h.at.of.es h.at.of.made_by (site h.at) h.at.instance c all q v occurs
          t.decl.ty in
          let ty = declared_type p h.at.func q.name t.d t.decl t.signal.named in
          let good =
          equation_good p h.at.of.checked (site h.at) q v t.d t.k t.decl
          (record { instance = h.at.instance; occurs = occurs }) t.signal in
          let known =
          flat_known p h.at.of.es (site h.at) c all.scope (All h.at) (typed_expr p h.at.func v t.decl.ty) f.0
          good.allowed f.1 in (
            subst (IsKnownTarget c indices) same (target_known h.at q t),
            subst (IsKnownExpr c indices) is
                (subst (λ (o : Option SigType). IsKnownExpr c indices (typed_against (typed_expr p h.at.func v) o))
                (sym ty)
                known),
          )

  -- an initial value
  pub initial_known : (place : Place) (k : Manifest) (word : _)
      → IsItemOf c indices (typed.initial place k word)
      → IsKnownTarget c indices place × (j : ℕ) × HasValue indices k j × (j ≤ 1023)
  initial_known place k word h = by h.x h.is h.occurs
    where
      by : (y : Item)
          → typed.initial place k word ≡ typed_item h.at.of.p h.at.func y
          → Occurs h.at.func.items [] y indices
          → IsKnownTarget c indices place × (j : ℕ) × HasValue indices k j × (j ≤ 1023)
      by (call ps n args a) e occurs = absurd (cc e)
      by (equation q v) e occurs = absurd (cc e)
      by (loop i l g ys a) e occurs = absurd (cc e)
      by (initial q j l) e occurs =
          let same : q ≡ place = cc e in
          let t =
          initial_target h.at.of.p h.at.of.checked h.at.of.es h.at.of.made_by (site h.at) h.at.instance c
          (of_all c h.at) q j l occurs in
          let amount : j ≡ k = cc e in
          let s =
          initial_sample h.at.of.p h.at.of.checked h.at.of.es h.at.of.made_by (site h.at) h.at.instance c
          (of_all c h.at) q j l t.d t.k t.decl occurs t.signal in
          let within =
          sample_within h.at.of.p h.at.of.checked.elements (site h.at) q j l t.d t.k s.0 t.decl
          (record { instance = h.at.instance; occurs = occurs }) t.signal s.1 in (
            subst (IsKnownTarget c indices) same (target_known h.at q t),
            s.0,
            subst (λ m. HasValue indices m s.0) amount s.1,
            within.1,
          )

-- Declarations by their signals, and arguments by the parameters and expressions.
signals_long : (n : ℕ) (ds : List Decl) → length (signals_from n ds) ≡ length ds
signals_long n [] = refl
signals_long n (d ∷ ds) = ap suc (signals_long (n + element_count d.dims) ds)

decl_of : (n : ℕ) (ds : List Decl) (k : ℕ) (s : Signal)
    → slice_get (signals_from n ds) k ≡ Some s
    → (decl : Decl) × (slice_get ds k ≡ Some decl) × (s.decl ≡ decl) × (s.first ≡ n + first_of ds k)
decl_of n [] k s e = absurd (cc e)
decl_of n (d ∷ ds) zero s e = (
  d,
  refl,
  ap (λ (q : Signal). q.decl) (some_once e refl),
  omega (arith, ap (λ (q : Signal). q.first) (some_once e refl)),
)
decl_of n (d ∷ ds) (suc k) s e =
    let (decl, there, same, first) = decl_of (n + element_count d.dims) ds k s e in
    (decl, there, same, omega (arith, first, sum_by-cons (λ (d : Decl). element_count d.dims) d (take k ds)))

-- So many elements by their numbers, in order, are among all.
room_of : (es : Elements) (first count : ℕ)
    → 1 ≤ count
    → ((k : ℕ) → k < count → (e : Element) × IsNumberOf es (first + k) e)
    → first + count ≤ length es.elements
room_of es first zero some each = absurd (omega arith)
room_of es first (suc n) some each =
    let (e, is) = each n (omega arith) in omega (arith, slice_get_within es.elements (first + n) _ is.listed)

some_elements : (d : Decl) → are_dims d.dims ≡ true → 1 ≤ element_count d.dims
some_elements d sized =
    omega (arith, no_more (d ∷ []) (rw sized refl), sum_by-cons (λ (d : Decl). element_count d.dims) d [])

module _ (p : Program) (f : Func) where
  arguments_few : (ds : List Decl) (xs : List Expr) → length (typed_arguments p f ds xs) ≤ length ds
  arguments_few [] xs = omega arith
  arguments_few (d ∷ ds) [] = omega arith
  arguments_few (d ∷ ds) (x ∷ xs) = omega (arith, arguments_few ds xs)

  argument_of : (ds : List Decl) (xs : List Expr) (k : ℕ) (y : typed.TypedExpr)
      → slice_get (typed_arguments p f ds xs) k ≡ Some y
      → (decl : Decl)
      × (x : Expr)
      × (slice_get ds k ≡ Some decl)
      × (slice_get xs k ≡ Some x)
      × (y ≡ typed_expr p f x decl.ty)
  argument_of [] xs k y e = absurd (cc e)
  argument_of (d ∷ ds) [] k y e = absurd (cc e)
  argument_of (d ∷ ds) (x ∷ xs) zero y e = (d, x, refl, refl, some_once e refl)
  argument_of (d ∷ ds) (x ∷ xs) (suc k) y e = argument_of ds xs k y e

-- A call.
module _ (c : Scope) (indices : Indices) (places : List Place) (args : List typed.TypedExpr) (a : ℕ)
    (h : IsCallOf c indices places args a) where
  abbrev p : Program
  p = h.scope.of.p

  abbrev F : Func
  F = h.scope.func

  abbrev G : Func
  G = h.q.callee

  abbrev S : Site
  S = site c indices h.scope

  abbrev At : IsAt p h.scope.of.checked h.scope.of.es h.scope.of.made_by h.scope.path F c
  At = of_all c h.scope

  named : IsCallNamed p F G h.q.places h.q.args
  named = is_named p h.scope.of.checked h.scope.of.es h.scope.of.made_by S h.scope.instance c At h.q

  abbrev C : IsChild p h.scope.of.checked h.scope.of.es h.scope.of.made_by S h.scope.instance c At h.q
  C = child p h.scope.of.checked h.scope.of.es h.scope.of.made_by S h.scope.instance c At h.q

  abbrev First : ℕ
  First = slice_index_or c.firsts C.n 0

  -- each signal of the function that it calls has an element
  sized : AreSized (decls G)
  sized =
      all_pass top_is_sized p.tops C.i.func (function G) (all_sized p h.scope.of.checked.names)
      (instance_body p h.scope.of.checked h.scope.of.es h.scope.of.made_by C.n C.i (made h.q) G C.there C.leads
      (made_is p S h.q))

  has_element : (j : ℕ) (decl : Decl) → slice_get (decls G) j ≡ Some decl → 1 ≤ element_count decl.dims
  has_element j decl at = some_elements decl (all_pass (λ (d : Decl). are_dims d.dims) (decls G) j decl sized at)

  -- an array has its elements
  array_elements : (place : Place) (dims : List ℕ) (m : ℕ) (theirs : Decl)
      → IsArray S place dims m theirs
      → 1 ≤ element_count dims
      → HasElements c place.name (element_count dims)
  array_elements place dims m theirs arr any s found =
      let there : signal_named c.signals place.name ≡ Some (record { decl = theirs; first = first_of (decls F) m }) =
      ap (λ (ss : List Signal). signal_named ss place.name) At.scope.signals
      ∙ signal_found F place.name m theirs arr.named in
      let room = room_of h.scope.of.es (c.first + first_of (decls F) m) (element_count dims) any
      (λ k less. (
        element S.instance m k,
        array_number p h.scope.of.checked h.scope.of.es h.scope.of.made_by S h.scope.instance c At h.q place dims m k
            theirs arr less,
      )) in
      subst (λ (z : Signal). c.first + z.first + element_count dims ≤ total c) (some_once there found)
      (omega (arith, room, All c indices h.scope))

  -- a name with dims is a signal's or a table's
  array_named : (place : Place) (dims its : List ℕ)
      → dims ≢ []
      → 1 ≤ element_count dims
      → read_dims (within p F named.indices) place.name ≡ Some its
      → IsWhole dims place.subs its
      → IsNamedArray c place.name (element_count dims)
  array_named place dims its many any e all = by (declared F place.name) refl (table_named p place.name) refl
    where
      dims_by : (o : Option (ℕ × Decl))
          → declared F place.name ≡ o
          → (t : Option ConstDef)
          → table_named p place.name ≡ t
          → option_or (option_map (λ (d : ℕ × Decl). d.1.dims) o) (option_map (λ (t : ConstDef). t.dims) t) ≡ Some its
      dims_by o is t table =
          sym (ap₂ (λ (o : Option (ℕ × Decl)) (t : Option ConstDef).
          option_or (option_map (λ (d : ℕ × Decl). d.1.dims) o) (option_map (λ (t : ConstDef). t.dims) t))
          is table) ∙ e

      by : (o : Option (ℕ × Decl))
          → declared F place.name ≡ o
          → (t : Option ConstDef)
          → table_named p place.name ≡ t
          → IsNamedArray c place.name (element_count dims)
      by (Some q) is t table = record {
        known = signal_known p h.scope.of.es S c At.scope (All c indices h.scope) place.name q.0 q.1 is;
        elements =
            array_elements place dims q.0 q.1
            (record {
              some = many;
              bare = all.bare;
              named = is;
              same_dims = some_once refl (dims_by (Some q) is t table) ∙ all.same_dims;
            })
            any;
        numbers = λ u none.
            let s = signal_there p h.scope.of.es S c At.scope (All c indices h.scope) place.name q.0 q.1 is in
            absurd (cc (sym none ∙ s.1));
      }
      by None is (Some t) table = record {
        known = λ none. ap is_some (table_is p h.scope.of.es S c At.scope place.name t table);
        elements = λ s found.
            absurd (cc (sym
            (ap (λ (ss : List Signal). signal_named ss place.name) At.scope.signals
            ∙ signal_unknown F place.name is) ∙ found));
        numbers = λ u none found.
            let same : typed_table t ≡ u = some_once (table_is p h.scope.of.es S c At.scope place.name t table) found in
            let own : t.dims ≡ its = some_once refl (dims_by None is (Some t) table) in
            omega (
              arith,
              ap (λ (v : TypedConst). length v.words) same,
              map_long (λ l. word_of l (Fix t.ty)) t.words,
              table_sized p h.scope.of.checked.names place.name t table,
              ap element_count (own ∙ all.same_dims),
            );
      }
      by None is None table = absurd (cc (dims_by None is None table))

  scalar : (dims : List ℕ) → length dims ≡ 0 → nat_eq (length dims) 0 ≡ true
  scalar dims none = elim (eqb_tells (length dims) 0) [ inl is ↦ is.0 | inr is ↦ absurd (is.1 none) ]

  many : (dims : List ℕ) → (length dims ≡ 0 → ⊥) → nat_eq (length dims) 0 ≡ false
  many dims some = elim (eqb_tells (length dims) 0) [ inl is ↦ absurd (some is.1) | inr is ↦ is.0 ]

  argument_known : (k : ℕ) (s : Signal) (decl : Decl) (x : Expr)
      → s.decl ≡ decl
      → s.first ≡ first_of (decls G) k
      → IsArgument h.q k decl x
      → IsKnownArgument c indices First s (typed_expr p F x decl.ty)
  argument_known k s decl x same first arg = record {
    room =
        let room =
        room_of h.scope.of.es (First + s.first) (element_count decl.dims)
        (has_element k decl (at_left G.params (G.results ++ G.locals) k decl arg.parameter))
        (λ j less. (
          parameter_of h.q k j,
          parameter_number p h.scope.of.checked h.scope.of.es h.scope.of.made_by S h.scope.instance c At h.q k j
              s.first decl arg.parameter less first,
        )) in
        omega (arith, room, ap (λ (d : Decl). element_count d.dims) same, All c indices h.scope);
    one = λ none.
        let flat =
        argument_flat p h.scope.of.checked h.scope.of.es h.scope.of.made_by S h.scope.instance c At h.q k decl x arg
        (scalar decl.dims (sym (ap (λ (d : Decl). length d.dims) same) ∙ none)) in
        flat_known p h.scope.of.es S c At.scope (All c indices h.scope) (typed_expr p F x decl.ty) flat.0
        (argument_good p h.scope.of.checked S h.q k decl x arg).allowed flat.1;
    all = λ some.
        let dims = many decl.dims (λ none. some (ap (λ (d : Decl). length d.dims) same ∙ none)) in
        let names =
        argument_names p h.scope.of.checked h.scope.of.es h.scope.of.made_by S h.scope.instance c At h.q k decl x
        false arg dims in
        let it =
        whole_name p h.scope.of.checked h.scope.of.es h.scope.of.made_by S h.scope.instance c At h.q decl.dims x
        names in
        let any = has_element k decl (at_left G.params (G.results ++ G.locals) k decl arg.parameter) in
        let array =
        array_named it.place decl.dims it.its
        (many_dims p h.scope.of.checked h.scope.of.es h.scope.of.made_by S h.scope.instance c At h.q decl dims) any
        it.known it.all in
        subst (λ (y : Expr). IsKnownArray c (element_count s.decl.dims) (typed_expr p F y decl.ty)) (sym it.is)
        (subst (λ (d : Decl). IsNamedArray c it.place.name (element_count d.dims)) (sym same) array);
  }

  taken_array : (r : ℕ) (s : Signal) (theirs : Decl) (place : Place)
      → s.decl ≡ theirs
      → IsResult h.q r theirs place
      → (length s.decl.dims ≡ 0 → ⊥)
      → IsTaker p h.scope.of.checked h.scope.of.es h.scope.of.made_by S h.scope.instance c At h.q theirs place
  taken_array r s theirs place same res some =
      let dims = many theirs.dims (λ none. some (ap (λ (d : Decl). length d.dims) same ∙ none)) in
      result_array p h.scope.of.checked h.scope.of.es h.scope.of.made_by S h.scope.instance c At h.q r theirs place res
      dims

  result_declared : (r : ℕ) (theirs : Decl)
      → slice_get G.results r ≡ Some theirs
      → slice_get (decls G) (length G.params + r) ≡ Some theirs
  result_declared r theirs e =
      at_right G.params (G.results ++ G.locals) (length G.params + r) r theirs refl
      (at_left G.results G.locals r theirs e)

  taker_known : (r : ℕ) (s : Signal) (theirs : Decl) (place : Place)
      → s.decl ≡ theirs
      → s.first ≡ first_of (decls G) (length G.params + r)
      → IsResult h.q r theirs place
      → IsKnownTaker c indices First s place
  taker_known r s theirs place same first res = record {
    room =
        let room =
        room_of h.scope.of.es (First + s.first) (element_count theirs.dims)
        (has_element (length G.params + r) theirs (result_declared r theirs res.result))
        (λ j less. (
          result_of h.q r j,
          result_number p h.scope.of.checked h.scope.of.es h.scope.of.made_by S h.scope.instance c At h.q r j s.first
              theirs res.result less first,
        )) in
        omega (arith, room, ap (λ (d : Decl). element_count d.dims) same, All c indices h.scope);
    one = λ none.
        target_known c indices h.scope place
        (result_target p h.scope.of.checked h.scope.of.es h.scope.of.made_by S h.scope.instance c At h.q r theirs place
        res (scalar theirs.dims (sym (ap (λ (d : Decl). length d.dims) same) ∙ none)));
    known = λ dims.
        let it = taken_array r s theirs place same res dims in
        ap is_some
        (signal_there p h.scope.of.es S c At.scope (All c indices h.scope) place.name it.d it.decl it.is.named).1;
    all = λ dims.
        let it = taken_array r s theirs place same res dims in
        let any = has_element (length G.params + r) theirs (result_declared r theirs res.result) in
        subst (λ (d : Decl). HasElements c place.name (element_count d.dims)) (sym same)
        (array_elements place theirs.dims it.d it.decl it.is any);
  }

  body_known : (k : ℕ)
      → IsKnownCall c indices C.n (body_for (typed_func p k G)) h.q.places (typed_arguments p F G.params h.q.args)
  body_known k = record {
    few_args =
        omega (
          arith,
          arguments_few p F G.params h.q.args,
          signals_long 0 (decls_of (typed_func p k G)),
          length-append G.params (G.results ++ G.locals),
        );
    few_places = omega (arith, named.targets, signals_long (elements_of G.params) G.results);
    passed = λ j s y at_s at_y.
        let (decl, x, param, arg, is) = argument_of p F G.params h.q.args j y at_y in
        let (own, there, same, first) = decl_of 0 (decls_of (typed_func p k G)) j s at_s in
        let once : own ≡ decl = some_once there (at_left G.params (G.results ++ G.locals) j decl param) in
        subst (IsKnownArgument c indices First s) (sym is)
        (argument_known j s decl x (same ∙ once) (first ∙ zero-add _) (record { parameter = param; argument = arg }));
    taken = λ r s place at_s at_place.
        let (theirs, there, same, first) = decl_of (elements_of G.params) G.results r s at_s in
        taker_known r s theirs place same
        (first
        ∙ result_first p h.scope.of.checked h.scope.of.es h.scope.of.made_by S h.scope.instance c At h.q r theirs
        there) (record { result = there; taken = at_place });
  }

  pub call_known : (child : ℕ)
      → Some child ≡ child_of c.number a (turns_of indices) c.instances
      → (b : Body)
      → body_at c.bodies (slice_get c.instances child) ≡ Some b
      → IsKnownCall c indices child b places args
  call_known n found b body =
      let same : n ≡ C.n =
      some_once refl (found ∙ ap (λ m. child_of c.number m (turns_of indices) c.instances) h.at_is ∙ C.found) in
      let of_it = callee_body p h.scope.of.checked h.scope.of.es h.scope.of.made_by S h.scope.instance c At h.q in
      let is : b ≡ body_for (typed_func p C.i.func G) =
      some_once (sym (ap (λ m. body_at c.bodies (slice_get c.instances m)) same) ∙ body) of_it in
      let whole =
      subst (λ d. IsKnownCall c indices C.n d h.q.places (typed_arguments p F G.params h.q.args)) (sym is)
      (body_known C.i.func) in
      let numbered =
      subst (λ m. IsKnownCall c indices m b h.q.places (typed_arguments p F G.params h.q.args)) (sym same) whole in
      subst (λ ps. IsKnownCall c indices n b ps args) (sym h.places_are)
      (subst (λ xs. IsKnownCall c indices n b h.q.places xs) (sym h.args_are) numbered)
