-- A typed expression is expanded to its flat expression, if it has one.
use Rattle.std.proofs.Common.{◌≡◌, refl, sym, ◌∙◌, ap, ap₂, add-zero, zero-add, arith, ℕ, zero, suc, ◌+◌, ◌*◌, Bool}
use Rattle.std.proofs.Common.{true, false, List, [], ◌∷◌, map, take, Option, Some, None, ℤ, pos, slice_get}
use Rattle.std.proofs.Common.{slice_index_or}
use Rattle.std.specs.Prelude.{find, filter_map, bytes_eq, ◌*ℤ◌}
use Rattle.std.specs.List.{enumerate_from}
use Rattle.std.proofs.lemmas.List.Sums.{sum_by-cons}
use Rattle.fix_word.specs.declared.types.Format.{Format}
use Rattle.silage_syntax.specs.declared.tree.ConstDef.{ConstDef}
use Rattle.silage_syntax.specs.declared.tree.Decl.{Decl}
use Rattle.silage_syntax.specs.Tree.{Manifest, Place, Func, Program}
use Rattle.silage_syntax.specs.Manifests.{Indices, HasValue, LooksBack, no_delay, delay as by_delay}
use Rattle.silage_syntax.specs.Names.{decls, declared, as_table, table_named, element_count, IsOffset}
use Rattle.silage_meaning.specs.Instances.{Instance as Path, element, IsInstance, Site, IsSignal}
use Rattle.element_rules.specs.Sizes.{first_of}
use Rattle.element_rules.specs.declared.elements.Elements.{Elements}
use Rattle.type_rules.specs.TypedTree as typed
use Rattle.type_rules.specs.TypedValue.{HasFormat, as_it_is, by_amount}
use Rattle.type_rules.specs.Translation.{typed_table, typed_program}
use Rattle.type_rules.specs.declared.typed.TypedConst.{TypedConst}
use Rattle.signal_graph.specs.Flat as flat
use Rattle.element_rules.specs.Numbers.{IsNumberOf}
use Rattle.loop_expand.specs.FlatOf.{IsTableWord, IsFlatRead, of_signal, of_table, IsFlatExpr, AreFlatParts}
use Rattle.loop_expand.specs.Private.Scopes.{Signal, Scope, signals_from}
use Rattle.loop_expand.specs.Private.Facts.{at_least_0, natural, offset, delay_of, format_of, signal_named, typed_named}
use Rattle.loop_expand.specs.Private.Facts.{word_at, number_in, number_at, entry_in, entry_at, read_of, flat_of}
use Rattle.loop_expand.specs.Private.Facts.{flat_parts}

-- the scope is that of an instance of the program
pub record IsScope (p : Program) (es : Elements) (i : Path) (f : Func) (c : Scope) : Type 0 where
  pub instance : IsInstance p i f
  pub signals : c.signals ≡ signals_from 0 (decls f)
  pub tables : c.tables ≡ (typed_program p).consts
  pub number : (n d k : ℕ) → IsNumberOf es n (element i d k) → n ≡ c.first + first_of (decls f) d + k

-- Signals by their names.

-- a declaration that is found by its name, with its first element
pub record Found (n a : ℕ) (ds : List Decl) (name : List ℕ) (d : ℕ) (decl : Decl) : Type 0 where
  pub k : ℕ
  pub at : d ≡ a + k
  pub signal : signal_named (signals_from n ds) name ≡ Some (record { decl = decl; first = n + first_of ds k })

abbrev first_named : ℕ → List Decl → List ℕ → Option (ℕ × Decl)
first_named a ds name = find (λ (d : ℕ × Decl). bytes_eq d.1.name name) (enumerate_from a ds)

found : (n a : ℕ) (ds : List Decl) (name : List ℕ) (d : ℕ) (decl : Decl)
    → first_named a ds name ≡ Some (d, decl)
    → Found n a ds name d decl
found n a [] name d decl e = absurd (cc e)
found n a (x ∷ ds) name d decl e =
    by (λ g. found (n + element_count x.dims) (a + 1) ds name d decl g) (bytes_eq x.name name) refl
  where
    by : (first_named (a + 1) ds name ≡ Some (d, decl) → Found (n + element_count x.dims) (a + 1) ds name d decl)
        → (b : Bool)
        → bytes_eq x.name name ≡ b
        → Found n a (x ∷ ds) name d decl
    by rest true is =
        let here : (a, x) ≡ (d, decl) = cc (rw is at e) in
        let same : x ≡ decl = ap (λ (q : ℕ × Decl). q.1) here in
        let at : a ≡ d = ap (λ (q : ℕ × Decl). q.0) here in
        record {
          k = 0;
          at = omega arith;
          signal = rw is (ap₂ (λ (y : Decl) (m : ℕ). Some (record { decl = y; first = m })) same (sym (add-zero n)));
        }
    by more false is =
        let rest = more (rw is at e) in
        let next = sum_by-cons (λ (d : Decl). element_count d.dims) x (take rest.k ds) in
        let first : n + element_count x.dims + first_of ds rest.k ≡ n + first_of (x ∷ ds) (suc rest.k) = omega arith in
        let at = rest.at in
        record {
          k = suc rest.k;
          at = omega arith;
          signal = rw is (rest.signal ∙ ap (λ (m : ℕ). Some (record { decl = decl; first = m })) first);
        }

unknown : (n a : ℕ) (ds : List Decl) (name : List ℕ)
    → first_named a ds name ≡ None
    → signal_named (signals_from n ds) name ≡ None
unknown n a [] name e = refl
unknown n a (x ∷ ds) name e = by (λ g. unknown (n + element_count x.dims) (a + 1) ds name g) (bytes_eq x.name name) refl
  where
    by : (first_named (a + 1) ds name ≡ None → signal_named (signals_from (n + element_count x.dims) ds) name ≡ None)
        → (b : Bool)
        → bytes_eq x.name name ≡ b
        → signal_named (signals_from n (x ∷ ds)) name ≡ None
    by rest true is = absurd (cc (rw is at e))
    by rest false is = rw is (rest (rw is at e))

pub signal_found : (f : Func) (name : List ℕ) (d : ℕ) (decl : Decl)
    → declared f name ≡ Some (d, decl)
    → signal_named (signals_from 0 (decls f)) name ≡ Some (record { decl = decl; first = first_of (decls f) d })
signal_found f name d decl e =
    let it = found 0 0 (decls f) name d decl e in
    let at = it.at in
    let same : it.k ≡ d = omega arith in
    it.signal
    ∙ ap (λ (m : ℕ). Some (record { decl = decl; first = m }))
    (zero-add (first_of (decls f) it.k) ∙ ap (first_of (decls f)) same)

pub signal_unknown : (f : Func) (name : List ℕ)
    → declared f name ≡ None
    → signal_named (signals_from 0 (decls f)) name ≡ None
signal_unknown f name e = unknown 0 0 (decls f) name e

-- Tables by their names.
table_found : (tops : List ConstDef) (name : List ℕ) (c : ConstDef)
    → find (λ (t : ConstDef). bytes_eq t.name name) tops ≡ Some c
    → typed_named (map typed_table tops) name ≡ Some (typed_table c)
table_found [] name c e = absurd (cc e)
table_found (t ∷ tops) name c e = by (λ g. table_found tops name c g) (bytes_eq t.name name) refl
  where
    by :
        (find (λ (t : ConstDef). bytes_eq t.name name) tops ≡ Some c
        → typed_named (map typed_table tops) name ≡ Some (typed_table c))
        → (b : Bool)
        → bytes_eq t.name name ≡ b
        → typed_named (map typed_table (t ∷ tops)) name ≡ Some (typed_table c)
    by rest true is = let same : t ≡ c = cc (rw is at e) in rw is (ap (λ (x : ConstDef). Some (typed_table x)) same)
    by rest false is = rw is (rest (rw is at e))

pub typed_found : (p : Program) (name : List ℕ) (c : ConstDef)
    → table_named p name ≡ Some c
    → typed_named (typed_program p).consts name ≡ Some (typed_table c)
typed_found p name c e = table_found (filter_map as_table p.tops) name c e

-- Numbers.
pub natural_is : (indices : Indices) (m : Manifest) (k : ℕ) → HasValue indices m k → natural indices m ≡ k
natural_is indices m k e = ap at_least_0 e

pub offset_is : (indices : Indices) (dims : List ℕ) (subs : List Manifest) (k : ℕ)
    → IsOffset indices dims subs k
    → offset indices dims subs ≡ k
offset_is indices [] [] k h = sym h
offset_is indices [] (sub ∷ subs) k h = absurd h
offset_is indices (dim ∷ dims) [] k h = absurd h
offset_is indices (dim ∷ dims) (sub ∷ subs) k (i, rest, is, less, inner, e) =
    ap₂ (λ (a b : ℕ). a * element_count dims + b) (natural_is indices sub i is) (offset_is indices dims subs rest inner)
    ∙ sym e

pub delay_is : (indices : Indices) (delay : Option Manifest) (ago : ℕ)
    → LooksBack indices delay ago
    → delay_of indices delay ≡ ago
delay_is indices _ _ no_delay = refl
delay_is indices _ _ (by_delay {m = m} {k = k} is most) = natural_is indices m k is

format_is : (indices : Indices) (fmt : Format) (amount : Option Manifest) (at : Format)
    → HasFormat indices fmt amount at
    → format_of indices fmt amount ≡ at
format_is indices fmt _ _ as_it_is = refl
format_is indices fmt _ _ (by_amount {amount = m} {k = k} is) =
    ap (λ (n : ℕ). record fmt { shift = fmt.shift *ℤ pos n }) (natural_is indices m k is.value)

module _ (p : Program) (es : Elements) (s : Site) (c : Scope) (is : IsScope p es s.instance s.function c) where
  -- the number of the element that a place names
  pub number_is : (place : Place) (d k n : ℕ) (decl : Decl)
      → IsSignal s place d decl k
      → IsNumberOf es n (element s.instance d k)
      → number_at c s.indices place ≡ Some n
  number_is place d k n decl signal number =
      let found =
      ap (λ (ss : List Signal). signal_named ss place.name) is.signals
      ∙ signal_found s.function place.name d decl signal.named in
      let there = is.number n d k number in
      let placed = offset_is s.indices decl.dims place.subs k signal.placed in
      ap (λ (o : Option Signal). number_in c s.indices o place) found
      ∙ ap Some (ap (λ (m : ℕ). c.first + first_of (decls s.function) d + m) placed ∙ sym there)

  pub no_number : (place : Place) → declared s.function place.name ≡ None → number_at c s.indices place ≡ None
  no_number place e =
      ap (λ (o : Option Signal). number_in c s.indices o place)
      (ap (λ (ss : List Signal). signal_named ss place.name) is.signals ∙ signal_unknown s.function place.name e)

  pub table_is : (name : List ℕ) (t : ConstDef)
      → table_named p name ≡ Some t
      → typed_named c.tables name ≡ Some (typed_table t)
  table_is name t e = ap (λ (ts : List TypedConst). typed_named ts name) is.tables ∙ typed_found p name t e

  pub word_is : (t : ConstDef) (k : ℕ) (v : ℤ) → IsTableWord t k v → word_at (typed_table t) k ≡ v
  word_is t k v e = there (typed_table t).words k v e
    where
      there : (xs : List ℤ) (k : ℕ) (v : ℤ) → slice_get xs k ≡ Some v → slice_index_or xs k (pos 0) ≡ v
      there [] k v e = absurd (cc e)
      there (x ∷ xs) zero v e = cc e
      there (x ∷ xs) (suc k) v e = there xs k v e

  entry_is : (place : Place) (k : ℕ) (t : ConstDef) (v : ℤ)
      → table_named p place.name ≡ Some t
      → IsOffset s.indices t.dims place.subs k
      → IsTableWord t k v
      → entry_at c s.indices place ≡ v
  entry_is place k t v named placed word =
      ap (λ (o : Option TypedConst). entry_in c s.indices o place) (table_is place.name t named)
      ∙ ap (word_at (typed_table t)) (offset_is s.indices t.dims place.subs k placed) ∙ word_is t k v word

  read_is : (place : Place) (delay : Option Manifest) (y : flat.Expr)
      → IsFlatRead p es s place delay y
      → flat_of c s.indices (typed.read place delay) ≡ y
  read_is place delay _ (of_signal d k ago number decl signal looks numbered) =
      ap (λ (o : Option ℕ). read_of c s.indices o place delay) (number_is place d k number decl signal numbered)
      ∙ ap (flat.read number) (delay_is s.indices delay ago looks)
  read_is place delay _ (of_table k t v unknown named placed none word) =
      ap (λ (o : Option ℕ). read_of c s.indices o place delay) (no_number place unknown)
      ∙ ap flat.raw (entry_is place k t v named placed word)

  mutual
    pub flat_is : (x : typed.TypedExpr) (y : flat.Expr) → IsFlatExpr p es s x y → flat_of c s.indices x ≡ y
    flat_is (typed.raw z) y h = sym h
    flat_is (typed.read place delay) y h = read_is place delay y h
    flat_is (typed.node o fmt parts amount) y (at, ys, format, all, e) =
        ap₂ (flat.calculation o) (format_is s.indices fmt amount at format) (parts_are parts ys all) ∙ sym e

    parts_are : (parts : typed.Parts) (ys : flat.Parts)
        → AreFlatParts p es s parts ys
        → flat_parts c s.indices parts ≡ ys
    parts_are typed.no_part ys h = sym h
    parts_are (typed.part x rest) ys (y, others, one, all, e) =
        ap₂ flat.part (flat_is x y one) (parts_are rest others all) ∙ sym e
