-- A text gives places or has a fault, and not both, and one of them at most.
use Rattle.std.proofs.Common.{◌≡◌, ◌∙◌, ◌⊎◌, inl, inr, refl, sym, ap, ap₂, subst, arith, ℕ, ◌+◌, ◌<◌, List}
use Rattle.std.proofs.Common.{length, ext_get_or}
use Rattle.std.specs.Prelude.{slice_index_or}
use Rattle.datapath.specs.Allowed.{IsDatapath}
use Rattle.datapath.specs.declared.types.Datapath.{Datapath}
use Rattle.plan_core.proofs.OneHeight.{neither_less}
use Rattle.placed_plan.specs.Places.{no_place, place_of}
use Rattle.placed_plan.specs.declared.place.Place.{Place}
use Rattle.place_file.specs.Lines.{line_at, said_by}
use Rattle.place_file.specs.Given.{HasNodeLine, Gives, IsGivenBy}
use Rattle.place_file.specs.Faults.{IsBadLine, GivesSome, HasBadLine, GivesNode, HasOneLine, LacksLine}
use Rattle.place_file.specs.Faults.{HasSecondLine, IsGivenFault}
use Rattle.place_file.specs.declared.given.Given.{Given}
use Rattle.place_file.specs.declared.fault.GivenFault.{GivenFault}
use Rattle.place_file.specs.declared.fault.GivenFault.TheVariants.{Line, Missing, Memory}
use Rattle.place_file.specs.declared.fault.LineCause.{LineCause}
use Rattle.place_file.specs.declared.fault.LineCause.TheVariants.{Form, Number, Unit as UnknownUnit, Twice}
use Rattle.place_file.proofs.OneLine.{one_number, good_not_bad, one_cause, one_place}

module _ (d : Datapath) (text : List ℕ) (allowed : IsDatapath d) where
  -- the line of a place is a line of a node
  node_line : (i v : ℕ) (place : Place) → Gives d text i v place → HasNodeLine d text i
  node_line i v place g = record { there = g.there; head = g.says.head }

  one_node : (i v w : ℕ) (p q : Place) → Gives d text i v p → Gives d text i w q → v ≡ w
  one_node i v w p q x y = one_number _ _ (said_by (line_at text i)).node v w x.says.node y.says.node

  same_line : (i j v : ℕ) (p : Place) → i ≡ j → Gives d text i v p → Gives d text j v p
  same_line i j v p same = subst (λ (k : ℕ). Gives d text k v p) same

  -- where these places are given, a line that gives a node its place is the one that is told
  module _ (x : Given) (is : IsGivenBy d text x) where
    told : (i v : ℕ)
        → GivesNode d text i v
        → (v < length x.places) × (slice_index_or x.lines v 0 ≡ i + 1)
    told i v g =
        let o = is.only i (node_line i v g.0 g.1) in
        let e = is.each o.0 o.1 in
        let line : e.0 ≡ i = omega (arith, e.1, o.2) in
        let node : o.0 ≡ v =
        one_node i o.0 v (place_of x.places o.0) g.0 (same_line e.0 i o.0 (place_of x.places o.0) line e.2) g.1 in (
          subst (λ (w : ℕ). w < length x.places) node o.1,
          subst (λ (w : ℕ). slice_index_or x.lines w 0 ≡ i + 1) node o.2,
        )

    bad_not : (line : ℕ) (cause : LineCause) → HasBadLine d text line cause → ⊥
    bad_not line cause h =
        let o = is.only h.i h.node_line in
        let e = is.each o.0 o.1 in
        let at : e.0 ≡ h.i = omega (arith, e.1, o.2) in
        good_not_bad d (said_by (line_at text h.i)) o.0 (place_of x.places o.0)
        (same_line e.0 h.i o.0 (place_of x.places o.0) at e.2).says cause h.bad

    lacks_not : (v : ℕ) → LacksLine d text v → ⊥
    lacks_not v h =
        let n = h.next in
        let t = told n.1 n.0 n.3 in
        let e = is.each v (omega (arith, n.2, t.0)) in
        h.none e.0 (place_of x.places v, e.2)

    second_not : (line : ℕ) → HasSecondLine d text line → ⊥
    second_not line h =
        let one = (told h.i h.v h.gives).1 in
        let other = (told h.j h.v h.before).1 in
        absurd (omega (arith, one, other, h.earlier))

    pub given_or_not : (fault : GivenFault) → IsGivenFault d text fault → ⊥
    given_or_not (Line line Twice) h = second_not line h
    given_or_not (Line line Form) h = bad_not line Form h
    given_or_not (Line line Number) h = bad_not line Number h
    given_or_not (Line line UnknownUnit) h = bad_not line UnknownUnit h
    given_or_not (Missing v) h = lacks_not v h
    given_or_not Memory h = h

  module _ (x y : Given) (a : IsGivenBy d text x) (b : IsGivenBy d text y) where
    not_fewer : length x.places < length y.places → ⊥
    not_fewer less =
        let e = b.each (length x.places) less in
        let t = told x a e.0 (length x.places) (place_of y.places (length x.places), e.2) in
        absurd (omega (arith, t.0))

    -- the same line is told of a node, and the same place
    line_same : (v : ℕ) → v < length y.places → slice_index_or x.lines v 0 ≡ slice_index_or y.lines v 0
    line_same v less =
        let e = b.each v less in
        let t = told x a e.0 v (place_of y.places v, e.2) in
        t.1 ∙ sym e.1

    place_same : (v : ℕ) → v < length y.places → v < length x.places → place_of x.places v ≡ place_of y.places v
    place_same v less less_x =
        let e = b.each v less in
        let f = a.each v less_x in
        let t = told x a e.0 v (place_of y.places v, e.2) in
        let at : f.0 ≡ e.0 = omega (arith, f.1, t.1) in
        one_place d allowed (said_by (line_at text e.0)) v v (place_of x.places v) (place_of y.places v)
        (same_line f.0 e.0 v (place_of x.places v) at f.2).says e.2.says

  pub one_given : (x y : Given) → IsGivenBy d text x → IsGivenBy d text y → x ≡ y
  one_given x y a b =
      let count : length x.places ≡ length y.places =
      neither_less (length x.places) (length y.places) (not_fewer x y a b) (not_fewer y x b a) in
      ap₂ (λ (places : List Place) (lines : List ℕ). record { places = places; lines = lines })
      (ext_get_or no_place x.places y.places count
      (λ i less. place_same x y a b i (omega (arith, less, count)) (omega (arith, less, count))))
      (ext_get_or 0 x.lines y.lines (a.count ∙ count ∙ sym b.count)
      (λ i less. line_same x y a b i (omega (arith, less, a.count, b.count, count))))

  -- There is one fault at most.

  one_bad : (l m : ℕ) (c k : LineCause)
      → HasBadLine d text l c
      → HasBadLine d text m k
      → (l ≡ m) × (c ≡ k)
  one_bad l m c k x y =
      let at : x.i ≡ y.i = neither_less x.i y.i
      (λ less. let good = y.before x.i less x.node_line in
      good_not_bad d (said_by (line_at text x.i)) good.0 good.1 good.2 c x.bad)
      (λ less. let good = x.before y.i less y.node_line in
      good_not_bad d (said_by (line_at text y.i)) good.0 good.1 good.2 k y.bad) in (
        omega (arith, x.is, y.is, at),
        one_cause d (said_by (line_at text x.i)) c k x.bad
            (subst (λ (i : ℕ). IsBadLine d (said_by (line_at text i)) k) (sym at) y.bad),
      )

  -- a bad line gives none
  bad_or_all : (l : ℕ) (c : LineCause)
      → HasBadLine d text l c
      → ((i : ℕ) → HasNodeLine d text i → GivesSome d text i)
      → ⊥
  bad_or_all l c x all =
      let good = all x.i x.node_line in
      good_not_bad d (said_by (line_at text x.i)) good.0 good.1 good.2 c x.bad

  one_lacks : (v w : ℕ) → LacksLine d text v → LacksLine d text w → v ≡ w
  one_lacks v w x y =
      neither_less v w
      (λ less. let one = y.first.before v less in x.none one.i one.gives)
      (λ less. let one = x.first.before w less in y.none one.i one.gives)

  two_not_one : (line : ℕ) (x : HasSecondLine d text line) → HasOneLine d text x.v → ⊥
  two_not_one line x one =
      let i = one.only x.i x.gives in
      let j = one.only x.j x.before in
      absurd (omega (arith, i, j, x.earlier))

  lacks_or_second : (v line : ℕ) → LacksLine d text v → HasSecondLine d text line → ⊥
  lacks_or_second v line x y =
      let same : v ≡ y.v = neither_less v y.v
      (λ less. let one = y.first.before v less in x.none one.i one.gives)
      (λ less. two_not_one line y (x.first.before y.v less)) in
      x.none y.i (subst (GivesNode d text y.i) (sym same) y.gives)

  one_second : (l m : ℕ) → HasSecondLine d text l → HasSecondLine d text m → l ≡ m
  one_second l m x y =
      let same : x.v ≡ y.v = neither_less x.v y.v
      (λ less. two_not_one l x (y.first.before x.v less))
      (λ less. two_not_one m y (x.first.before y.v less)) in
      let line : x.i ≡ y.i = neither_less x.i y.i
      (λ less.
      let i = y.only x.i less (subst (GivesNode d text x.i) same x.gives) in
      let j = y.only x.j (omega (arith, less, x.earlier)) (subst (GivesNode d text x.j) same x.before) in
      absurd (omega (arith, i, j, x.earlier)))
      (λ less.
      let i = x.only y.i less (subst (GivesNode d text y.i) (sym same) y.gives) in
      let j = x.only y.j (omega (arith, less, y.earlier)) (subst (GivesNode d text y.j) (sym same) y.before) in
      absurd (omega (arith, i, j, y.earlier))) in
      omega (arith, x.is, y.is, line)

  -- The faults by their kinds.

  abbrev IsBadKind : GivenFault → Type 0
  IsBadKind f = (line : ℕ) × (cause : LineCause) × (f ≡ Line line cause) × HasBadLine d text line cause

  abbrev IsSecondKind : GivenFault → Type 0
  IsSecondKind f = (line : ℕ) × (f ≡ Line line Twice) × HasSecondLine d text line

  abbrev IsLacksKind : GivenFault → Type 0
  IsLacksKind f = (v : ℕ) × (f ≡ Missing v) × LacksLine d text v

  by_kind : (f : GivenFault) → IsGivenFault d text f → IsBadKind f ⊎ (IsSecondKind f ⊎ IsLacksKind f)
  by_kind (Line line Twice) h = inr (inl (line, refl, h))
  by_kind (Line line Form) h = inl (line, Form, refl, h)
  by_kind (Line line Number) h = inl (line, Number, refl, h)
  by_kind (Line line UnknownUnit) h = inl (line, UnknownUnit, refl, h)
  by_kind (Missing v) h = inr (inr (v, refl, h))
  by_kind Memory h = absurd h

  one_kind : (f g : GivenFault)
      → IsBadKind f ⊎ (IsSecondKind f ⊎ IsLacksKind f)
      → IsBadKind g ⊎ (IsSecondKind g ⊎ IsLacksKind g)
      → f ≡ g
  one_kind f g (inl x) (inl y) =
      let one = one_bad x.0 y.0 x.1 y.1 x.3 y.3 in
      x.2 ∙ ap₂ (λ (l : ℕ) (c : LineCause). Line l c) one.0 one.1 ∙ sym y.2
  one_kind f g (inl x) (inr (inl y)) = absurd (bad_or_all x.0 x.1 x.3 y.2.first.all)
  one_kind f g (inl x) (inr (inr y)) = absurd (bad_or_all x.0 x.1 x.3 y.2.first.all)
  one_kind f g (inr (inl x)) (inl y) = absurd (bad_or_all y.0 y.1 y.3 x.2.first.all)
  one_kind f g (inr (inr x)) (inl y) = absurd (bad_or_all y.0 y.1 y.3 x.2.first.all)
  one_kind f g (inr (inl x)) (inr (inl y)) =
      x.1 ∙ ap (λ (l : ℕ). Line l Twice) (one_second x.0 y.0 x.2 y.2) ∙ sym y.1
  one_kind f g (inr (inl x)) (inr (inr y)) = absurd (lacks_or_second y.0 x.0 y.2 x.2)
  one_kind f g (inr (inr x)) (inr (inl y)) = absurd (lacks_or_second x.0 y.0 x.2 y.2)
  one_kind f g (inr (inr x)) (inr (inr y)) = x.1 ∙ ap Missing (one_lacks x.0 y.0 x.2 y.2) ∙ sym y.1

  pub one_fault : (f g : GivenFault) → IsGivenFault d text f → IsGivenFault d text g → f ≡ g
  one_fault f g x y = one_kind f g (by_kind f x) (by_kind g y)
