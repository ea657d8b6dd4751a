-- What is known of the parts of a program that the code is given, and of the scope of an instance.
use Rattle.std.proofs.Common.{◌≡◌, ◌<◌, ◌≤◌, ◌∙◌, ◌++◌, refl, sym, subst, ap, arith, ℕ, zero, suc, ◌+◌, ap₂, inl, inr}
use Rattle.std.proofs.Common.{List, [], ◌∷◌, length, slice_get, slice_index_or, Some}
use Rattle.std.specs.Prelude.{is_some, IsSome}
use Rattle.lists.proofs.Places.{some_once, some_at}
use Rattle.std.proofs.lemmas.List.{length-append}
use Rattle.std.proofs.lemmas.Option.{slice_get_within}
use Rattle.silage_syntax.specs.Tree.{Manifest, Place, Item, equation, call, loop, initial, Items, no_item, item}
use Rattle.silage_syntax.specs.Tree.{function, Program}
use Rattle.silage_syntax.specs.Manifests.{Indices}
use Rattle.silage_syntax.specs.Names.{decls, function_named}
use Rattle.silage_meaning.specs.Instances.{Instance as Path, main, main_is, Occurs, OccursIn, Call, turns_of}
use Rattle.name_rules.specs.Meanings.{params_of}
use Rattle.element_rules.specs.declared.elements.Instance.{Instance}
use Rattle.element_rules.specs.declared.elements.Elements.{Elements}
use Rattle.element_rules.specs.Sizes.{first_of}
use Rattle.element_rules.specs.ElementRules.{elements_of}
use Rattle.element_rules.specs.Expansion.{signals_of}
use Rattle.element_rules.specs.Sizes.{top_is_sized}
use Rattle.lists.proofs.Each.{all_pass}
use Rattle.element_rules.proofs.SomeElements.{no_more}
use Rattle.element_rules.proofs.SoundNames.{all_sized}
use Rattle.element_rules.specs.Numbering.{HasPath, of_main, of_call, IsNumbering}
use Rattle.type_rules.specs.declared.typed.TypedConst.{TypedConst}
use Rattle.type_rules.specs.declared.typed.Typed.{Typed}
use Rattle.type_rules.specs.TypedTree as typed
use Rattle.type_rules.specs.TypedTree.{Typed as Tree, TypedFunc, view_typed}
use Rattle.type_rules.specs.Translation.{typed_item, typed_items, typed_arguments, typed_func, typed_program}
use Rattle.loop_expand.specs.Expanded.{AreOf}
use Rattle.loop_expand.specs.Private.Children.{AreApart, child_of}
use Rattle.loop_expand.specs.Private.Elements.{types_of}
use Rattle.loop_expand.specs.Private.Facts.{AreTablesSized}
use Rattle.loop_expand.specs.Private.Groups.{Group, groups_of}
use Rattle.loop_expand.specs.Private.Scopes.{Body, Scope, body_of, body_at, body_for, bodies_for, AreBounded}
use Rattle.loop_expand.specs.Private.Scopes.{HaveBodies, firsts_from, total_of, size_in}
use Rattle.loop_expand.specs.Private.Sites.{AreOfProgram, IsOfInstance, IsItemOf, AreGroupsOf}
use Rattle.loop_expand.proofs.TablesSized.{tables_sized}
use Rattle.loop_expand.proofs.Bounds.{all_bounded}
use Rattle.loop_expand.proofs.Expanded.{main_there, numbering}
use Rattle.element_rules.proofs.LoadedElements.{own_size, size, size_is, few_in_all}
use Rattle.loop_expand.proofs.FlatMade.{all_types}
use Rattle.loop_expand.proofs.GroupItems.{groups_hold}
use Rattle.loop_expand.proofs.InstanceNumbers.{Bodies, sizes, apart_instances, body_at_top, element_number}
use Rattle.loop_expand.proofs.ProgramFacts.{call_known}
use Rattle.loop_expand.proofs.SiteFacts.{IsAt, child}

pub firsts_long : (bodies : List Body) (n : ℕ) (is : List Instance) → length (firsts_from bodies n is) ≡ length is
firsts_long bodies n [] = refl
firsts_long bodies n (i ∷ is) = ap suc (firsts_long bodies (n + size_in (body_of bodies i.func)) is)

module _ (tables : List TypedConst) (bodies : List Body) (instances : List Instance)
    (of : AreOfProgram tables bodies instances) where
  Numbering : IsNumbering of.p of.es
  Numbering = numbering of.p of.checked of.es of.made_by

  pub apart_of : AreApart instances
  apart_of = subst AreApart (sym of.all) (apart_instances of.p of.checked of.es of.made_by)

  pub sized_of : AreTablesSized tables
  sized_of = subst AreTablesSized (sym of.consts) (tables_sized of.p of.checked.names)

  listed : (k : ℕ) (i : Instance) → slice_get instances k ≡ Some i → slice_get of.es.instances k ≡ Some i
  listed k i at = subst (λ is. slice_get is k ≡ Some i) of.all at

  body_there : (k : ℕ) (i : Instance) (at : slice_get instances k ≡ Some i)
      → body_of bodies i.func ≡ Some (body_for (typed_func of.p i.func (Numbering.instances k i (listed k i at)).func))
  body_there k i at =
      let it = Numbering.instances k i (listed k i at) in
      ap (λ bs. body_of bs i.func) of.funcs ∙ body_at_top of.p of.es.instances k i it.func (listed k i at) it.stands

  pub have_bodies : HaveBodies bodies instances
  have_bodies k i at = ap is_some (body_there k i at)

-- the elements and the instances are few
totals : (p : Program) (bodies : List Body) (is : List Instance)
    → ((n : ℕ) (i : Instance) → slice_get is n ≡ Some i → size_in (body_of bodies i.func) ≡ own_size p i)
    → total_of bodies is ≡ size p is
totals p bodies [] each = refl
totals p bodies (i ∷ is) each = ap₂ ◌+◌ (each 0 i refl) (totals p bodies is (λ n k at. each (suc n) k at))

fewer : (p : Program) (is : List Instance)
    → ((n : ℕ) (i : Instance) → slice_get is n ≡ Some i → 1 ≤ own_size p i)
    → length is ≤ size p is
fewer p [] each = omega arith
fewer p (i ∷ is) each = omega (arith, each 0 i refl, fewer p is (λ n k at. each (suc n) k at))

module _ (tables : List TypedConst) (bodies : List Body) (instances : List Instance)
    (of : AreOfProgram tables bodies instances) where
  pub total_small : total_of bodies instances ≤ 8192
  total_small =
      let same = ap₂ total_of of.funcs of.all in
      let total =
      totals of.p (Bodies of.p of.checked of.es of.made_by) of.es.instances
      (sizes of.p of.checked of.es of.made_by) in
      omega (arith, same, total, few_in_all of.p of.checked.names of.checked.elements of.es of.made_by)

  -- they are those of the program
  pub total_is : total_of bodies instances ≡ length of.es.elements
  total_is =
      ap₂ total_of of.funcs of.all
      ∙ totals of.p (Bodies of.p of.checked of.es of.made_by) of.es.instances (sizes of.p of.checked of.es of.made_by)
      ∙ sym (ap length of.made_by.elements ∙ size_is of.p 0 of.es.instances)

  -- and each has a type
  pub all_typed : length (types_of bodies instances) ≡ total_of bodies instances
  all_typed =
      ap₂ (λ bs is. length (types_of bs is)) of.funcs of.all ∙ all_types of.p of.checked of.es of.made_by ∙ sym total_is

  some_own : (n : ℕ) (i : Instance) → slice_get of.es.instances n ≡ Some i → 1 ≤ own_size of.p i
  some_own n i at =
      let it = (numbering of.p of.checked of.es of.made_by).instances n i at in
      let sized =
      all_pass top_is_sized of.p.tops i.func (function it.func) (all_sized of.p of.checked.names) it.stands in
      let signals = of.checked.signals i.func it.func it.stands in
      omega (
        arith,
        ap (λ o. elements_of (signals_of o)) it.stands,
        no_more (decls it.func) sized,
        length-append it.func.params (it.func.results ++ it.func.locals),
        signals.0,
      )

  pub few_instances : length instances ≤ 8192
  few_instances =
      omega (
        arith,
        ap length of.all,
        fewer of.p of.es.instances some_own,
        few_in_all of.p of.checked.names of.checked.elements of.es of.made_by,
      )

-- the parts of a program are of one
module _ (typed : Typed) (es : Elements) (p : Program) (of : AreOf p typed es) where
  pub bounded : (funcs : List TypedFunc) (is : List Instance)
      → funcs ≡ (view_typed typed).funcs
      → is ≡ es.instances
      → AreBounded is funcs
  bounded funcs is funcs_are is_are =
      subst (λ l. AreBounded l funcs) (sym is_are)
      (subst (AreBounded es.instances) (sym (funcs_are ∙ ap (λ (t : Tree). t.funcs) of.program))
      (all_bounded p of.checked es of.elements))

  pub of_program : (tables : List TypedConst) (bodies : List Body) (is : List Instance)
      → tables ≡ typed.consts
      → bodies ≡ bodies_for es.instances (view_typed typed).funcs
      → is ≡ es.instances
      → AreOfProgram tables bodies is
  of_program tables bodies is tables_are bodies_are is_are = record {
    p = p;
    es = es;
    checked = of.checked;
    made_by = of.elements;
    consts = tables_are ∙ ap (λ (t : Tree). t.consts) of.program;
    funcs = bodies_are ∙ ap (λ (t : Tree). bodies_for es.instances t.funcs) of.program;
    all = is_are;
  }

  pub some_instances : (is : List Instance) → is ≡ es.instances → 0 < length is
  some_instances is is_are =
      let (f, named) = main_there p of.checked in
      let it = (numbering p of.checked es of.elements).all_instances main f (main_is named) in
      omega (arith, ap length is_are, some it.0 main it.1)
    where
      some : (n : ℕ) (path : Path) → HasPath es.instances n path → 0 < length es.instances
      some _ _ (of_main {i = i} e) = omega (arith, slice_get_within es.instances 0 i e)
      some _ _ (of_call {n = n} {i = i} above e leads) = omega (arith, slice_get_within es.instances n i e)

-- The scope of an instance.
module _ (c : Scope) (at : IsOfInstance c) where
  pub of_all : IsAt at.of.p at.of.checked at.of.es at.of.made_by at.path at.func c
  of_all =
      let p = at.of.p in
      let firsts : c.firsts ≡ firsts_from (bodies_for at.of.es.instances (typed_program p).funcs) 0 at.of.es.instances =
      at.firsts ∙ ap₂ (λ bs is. firsts_from bs 0 is) at.of.funcs at.of.all in
      let first = at.first ∙ ap (λ fs. slice_index_or fs c.number 0) firsts in
      record {
        scope = record {
          instance = at.instance;
          signals = at.signals;
          tables = at.of.consts;
          number = λ m d j number.
              element_number p at.of.checked at.of.es at.of.made_by c.number at.path at.func at.leads at.instance m d j
              number ∙ ap (λ n. n + first_of (decls at.func) d + j) (sym first);
        };
        leads = at.leads;
        bodies = at.of.funcs;
        instances = at.of.all;
        firsts = firsts;
      }

  -- its groups have its items
  pub groups_of_it : (groups : List Group)
      → groups ≡ groups_of (typed_items at.of.p at.func at.func.items)
      → AreGroupsOf c groups
  groups_of_it groups is =
      subst (AreGroupsOf c) (sym is)
      (groups_hold at.of.p at.func (IsItemOf c)
      (λ x indices occurs. record { at = at; x = x; occurs = occurs; is = refl }))

-- the scope of the instance with its number, whose function this is
module _ (c : Scope) (of : AreOfProgram c.tables c.bodies c.instances) (b : Body) where
  pub instance_groups : c.firsts ≡ firsts_from c.bodies 0 c.instances
      → c.number < length c.instances
      → Some b ≡ body_at c.bodies (slice_get c.instances c.number)
      → c.first ≡ slice_index_or c.firsts c.number 0
      → c.signals ≡ b.signals
      → (groups : List Group)
      → groups ≡ b.groups
      → AreGroupsOf c groups
  instance_groups firsts less body first signals groups is =
      let (i, at) = some_at c.instances c.number less in
      let it =
      (Numbering c.tables c.bodies c.instances of).instances c.number i
      (listed c.tables c.bodies c.instances of c.number i at) in
      let same : b ≡ body_for (typed_func of.p i.func it.func) =
      some_once refl
      (body ∙ ap (body_at c.bodies) at ∙ body_there c.tables c.bodies c.instances of c.number i at) in
      let scope : IsOfInstance c = record {
        of = of;
        path = it.path;
        func = it.func;
        instance = it.instance;
        leads = it.leads;
        signals = signals ∙ ap (λ (c : Body). c.signals) same;
        firsts = firsts;
        first = first;
      } in
      groups_of_it c scope groups (is ∙ ap (λ (c : Body). c.groups) same)

mutual
  no_loops :
      (ys : Items) (outer : Indices) (index : List ℕ) (lo hi : Manifest) (items : Items) (a : ℕ) (indices : Indices)
      → Occurs ys outer (loop index lo hi items a) indices
      → ⊥
  no_loops no_item outer index lo hi items a indices h = h
  no_loops (item y rest) outer index lo hi items a indices (inl h) = no_loop y outer index lo hi items a indices h
  no_loops (item y rest) outer index lo hi items a indices (inr h) = no_loops rest outer index lo hi items a indices h

  no_loop : (y : Item) (outer : Indices) (index : List ℕ) (lo hi : Manifest) (items : Items) (a : ℕ) (indices : Indices)
      → OccursIn y outer (loop index lo hi items a) indices
      → ⊥
  no_loop (equation place x) outer index lo hi items a indices h = cc h.0
  no_loop (call places n args at) outer index lo hi items a indices h = cc h.0
  no_loop (initial place k l) outer index lo hi items a indices h = cc h.0
  no_loop (loop i l h ys at) outer index lo hi items a indices (turn, is, o) =
      no_loops ys _ index lo hi items a indices o

-- An item of it.
module _ (c : Scope) (indices : Indices) where
  pub no_loop_of : (y : typed.TypedItem) (index : List ℕ) (lo hi : Manifest) (items : typed.TypedItems)
      → IsItemOf c indices y
      → y ≡ typed.loop index lo hi items
      → ⊥
  no_loop_of y index lo hi items h is = by h.x (sym h.is ∙ is) h.occurs
    where
      by : (x : Item)
          → typed_item h.at.of.p h.at.func x ≡ typed.loop index lo hi items
          → Occurs h.at.func.items [] x indices
          → ⊥
      by (equation place x) e occurs = cc e
      by (call places n args at) e occurs = cc e
      by (initial place k l) e occurs = cc e
      by (loop i l h ys at) e occurs = no_loops _ [] i l h ys at indices occurs

  -- a call and the function that it calls
  pub record IsCallOf (places : List Place) (args : List typed.TypedExpr) (at : ℕ) : Type 0 where
    pub scope : IsOfInstance c
    pub q : Call scope.of.p (record { instance = scope.path; function = scope.func; indices = indices })
    pub places_are : places ≡ q.places
    pub args_are : args ≡ typed_arguments scope.of.p scope.func q.callee.params q.args
    pub at_is : at ≡ q.at

  pub call_of : (places : List Place) (func : ℕ) (args : List typed.TypedExpr) (a : ℕ)
      → IsItemOf c indices (typed.call places func args a)
      → IsCallOf places args a
  call_of places func args a h = by h.x h.is h.occurs
    where
      p : Program
      p = h.at.of.p

      by : (x : Item)
          → typed.call places func args a ≡ typed_item p h.at.func x
          → Occurs h.at.func.items [] x indices
          → IsCallOf places args a
      by (equation place x) e occurs = absurd (cc e)
      by (initial place k l) e occurs = absurd (cc e)
      by (loop i l g ys at) e occurs = absurd (cc e)
      by (call ps n xs at) e occurs =
          let g =
          call_known p h.at.of.checked h.at.of.es h.at.of.made_by h.at.path h.at.func h.at.instance c
          (of_all c h.at) ps n xs at indices occurs in
          let same : places ≡ ps = cc e in
          let arguments : args ≡ typed_arguments p h.at.func (params_of (function_named p n)) xs = cc e in
          let position : a ≡ at = cc e in
          record {
            scope = h.at;
            q = record {
              places = ps;
              name = n;
              args = xs;
              at = at;
              callee = g.0;
              found = record { instance = h.at.instance; occurs = occurs };
              named = g.1;
            };
            places_are = same;
            args_are = arguments ∙ ap (λ o. typed_arguments p h.at.func (params_of o) xs) g.1;
            at_is = position;
          }

  -- the instance that it makes is found
  pub child_there : (places : List Place) (args : List typed.TypedExpr) (a : ℕ)
      → IsCallOf places args a
      → IsSome (child_of c.number a (turns_of indices) c.instances)
  child_there places args a h =
      let k = h.scope in
      let it =
      child k.of.p k.of.checked k.of.es k.of.made_by
      (record { instance = k.path; function = k.func; indices = indices }) k.instance c (of_all c k) h.q in
      ap is_some (ap (λ m. child_of c.number m (turns_of indices) c.instances) h.at_is ∙ it.found)
