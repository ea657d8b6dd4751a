-- What the registers of a file hold, and one copy more.
use Rattle.std.proofs.Common.{◌≡◌, ◌∙◌, ℕ, ◌+◌, ◌*◌, ◌%◌, ◌<◌, ◌≤◌, ◌⊎◌, ⊎_elim, refl, sym, ap, subst, arith, List}
use Rattle.std.specs.Prelude.{Option, Some, None}
use Rattle.std.proofs.lemmas.Bool.{cases_eq}
use Rattle.std.proofs.lemmas.Option.{none-some}
use Rattle.plan_core.specs.Arcs.{arc_of}
use Rattle.plan_core.specs.Circle.{AreApart}
use Rattle.plan_core.specs.declared.registers.Arc.{Arc}
use Rattle.reg_alloc.specs.declared.circle.Span.{Span}
use Rattle.reg_alloc.specs.declared.circle.Occupancy.{Occupancy}
use Rattle.reg_alloc.specs.Private.Spans.{IsOnCircle, span_of, joined, AreSpansApart}
use Rattle.reg_alloc.specs.Private.Occupancies.{span_at, IsOfCopy, IsFree, IsJoined}
use Rattle.reg_alloc.specs.Private.Files.{register_in}
use Rattle.reg_alloc.specs.Private.Placing.{Comes, IsHull, IsHullOrNone, AreOccupied}
use Rattle.reg_alloc.proofs.SpanLemmas.{NeverMeet, meet_back, apart_never, never_ended, never_round}
use Rattle.reg_alloc.proofs.Places.{some_same}
use Rattle.reg_alloc.proofs.Meeting.{no_later, starts_in, words_never}

module _ (period samples : ℕ) (arcs : List Arc) (Has : (l j q : ℕ) → Type 0) (registers : List Occupancy)
    (occupied : AreOccupied period samples arcs Has registers) (arc : Arc) (copy : ℕ) (other : Occupancy)
    (other_is : IsOfCopy period samples arc copy other) where
  abbrev at : (q n : ℕ) → Option Span
  at q n = span_at (register_in registers q) n

  hull_at : (q n : ℕ) (o : Option Span) → n < samples → at q n ≡ o → IsHullOrNone period samples arcs Has q n o
  hull_at q n o there e =
      subst (λ (x : Option Span). IsHullOrNone period samples arcs Has q n x) e (occupied q n there)

  meets : (q l : ℕ) (o : Option Span) (m n x y : ℕ)
      → IsFree period samples (register_in registers q) other
      → m < samples
      → n < samples
      → n % arc.copies ≡ copy
      → Comes period samples arcs Has q m l
      → at q m ≡ o
      → (arc_of arcs l).w + m * period < x
      → x ≤ (arc_of arcs l).r + m * period
      → arc.w + n * period < y
      → y ≤ arc.r + n * period
      → x % (samples * period) ≡ y % (samples * period)
      → ⊥
  meets q l None m n x y free m_in n_in turn comes e after upto after' upto' same = hull_at q m None m_in e l comes
  meets q l (Some taken) m n x y free m_in n_in turn comes e after upto after' upto' same =
      let hull : IsHull period samples arcs Has q m taken = hull_at q m (Some taken) m_in e in
      let begins = hull.begins l comes in
      let ends = hull.ends l comes in
      apart_never (samples * period) taken (span_of period arc n)
      (free n n_in (span_of period arc n) (other_is.own n n_in turn) m m_in taken e) x y (omega arith) (omega arith)
      after' upto' same

  -- what is in a register that is free for the copy shares no cycle with it
  pub free_apart : (q : ℕ)
      → IsFree period samples (register_in registers q) other
      → (l j : ℕ)
      → Has l j q
      → AreApart period samples (arc_of arcs l) j arc copy
  free_apart q free l j has = record {
    none = λ x o p.
        meets q l (at q o.sample) o.sample p.sample o.cycle p.cycle free o.sample_in p.sample_in p.in_turn
        (subst (λ (i : ℕ). Has l i q) (sym o.in_turn) has) refl o.after o.upto p.after p.upto (sym o.place ∙ p.place);
  }

  module _ (arc_in : IsOnCircle period arc)
      (earlier : (l j q : ℕ) → Has l j q → IsOnCircle period (arc_of arcs l) × ((arc_of arcs l).w ≤ arc.w)) where
    hull_apart : (q m n : ℕ) (taken : Span)
        → m < samples
        → n < samples
        → n % arc.copies ≡ copy
        → ((l j : ℕ) → Has l j q → AreApart period samples (arc_of arcs l) j arc copy)
        → IsHull period samples arcs Has q m taken
        → AreSpansApart (samples * period) taken (span_of period arc n)
    hull_apart q m n taken m_in n_in turn apart hull =
        let f : ℕ = hull.first.0 in
        let g : ℕ = hull.last.0 in
        let f_is : taken.after ≡ (arc_of arcs f).w + m * period = hull.first.2 in
        let g_is : taken.upto ≡ (arc_of arcs g).r + m * period = hull.last.2 in
        let f_never = never f hull.first.1 in
        let g_never = never g hull.last.1 in
        let of_f = earlier f (m % (arc_of arcs f).copies) q hull.first.1 in
        let of_g = earlier g (m % (arc_of arcs g).copies) q hull.last.1 in
        let f_low = of_f.0.start in
        let g_low = of_g.0.start in
        let low = arc_in.start in
        let f_some = of_f.0.later in
        let g_some = of_g.0.later in
        let some = arc_in.later in
        let f_in = starts_in period samples (arc_of arcs f).w m f_low m_in in
        let g_in = starts_in period samples (arc_of arcs g).w m g_low m_in in
        let in_circle = starts_in period samples arc.w n low n_in in
        record {
          forward = λ le.
              let first : (arc_of arcs g).w + m * period ≤ arc.w + n * period =
              no_later period (arc_of arcs g).w arc.w m n low g_low of_g.1 (omega (arith, le, f_is)) in
              let ended =
              never_ended (samples * period) (span_of period (arc_of arcs g) m) (span_of period arc n) g_never
              first (omega (arith, some)) in
              let round =
              never_round (samples * period) (span_of period (arc_of arcs f) m) (span_of period arc n) f_never
              (omega (arith, in_circle)) (omega (arith, f_some)) in
              record { ended = omega (arith, ended, g_is); round = omega (arith, round, f_is) };
          backward = λ less.
              let ended = never_ended (samples * period) (span_of period arc n) (span_of period (arc_of arcs f) m)
              (meet_back (samples * period) (span_of period (arc_of arcs f) m) (span_of period arc n) f_never)
              (omega (arith, less, f_is)) (omega (arith, f_some)) in
              let round = never_round (samples * period) (span_of period arc n) (span_of period (arc_of arcs g) m)
              (meet_back (samples * period) (span_of period (arc_of arcs g) m) (span_of period arc n) g_never)
              (omega (arith, g_in)) (omega (arith, some)) in
              record { ended = omega (arith, ended, f_is); round = omega (arith, round, g_is) };
        }
      where
        never : (l : ℕ)
            → Comes period samples arcs Has q m l
            → NeverMeet (samples * period) (span_of period (arc_of arcs l) m) (span_of period arc n)
        never l comes =
            words_never period samples (arc_of arcs l) (m % (arc_of arcs l).copies) arc copy m n
            (apart l (m % (arc_of arcs l).copies) comes) m_in n_in refl turn

    -- a register in which nothing shares a cycle with the copy is free for it
    pub apart_free : (q : ℕ)
        → ((l j : ℕ) → Has l j q → AreApart period samples (arc_of arcs l) j arc copy)
        → IsFree period samples (register_in registers q) other
    apart_free q apart n n_in span n_is m m_in taken m_is =
        ⊎_elim
        (λ (turn : n % arc.copies ≡ copy).
        let is : span_of period arc n ≡ span =
        some_same (span_of period arc n) span (sym (other_is.own n n_in turn) ∙ n_is) in
        subst (λ (x : Span). AreSpansApart (samples * period) taken x) is
        (hull_apart q m n taken m_in n_in turn apart (hull_at q m (Some taken) m_in m_is)))
        (λ (not : n % arc.copies ≡ copy → ⊥). absurd (none-some span (sym (other_is.none n not) ∙ n_is)))
        (cases_eq (n % arc.copies) copy)

module _ (period samples : ℕ) (arcs : List Arc) (S T : (l j q : ℕ) → Type 0) where
  hull_like : (q n : ℕ)
      → ((l : ℕ) → Comes period samples arcs S q n l → Comes period samples arcs T q n l)
      → ((l : ℕ) → Comes period samples arcs T q n l → Comes period samples arcs S q n l)
      → (o : Option Span)
      → IsHullOrNone period samples arcs S q n o
      → IsHullOrNone period samples arcs T q n o
  hull_like q n to from None none = λ l comes. none l (from l comes)
  hull_like q n to from (Some span) hull = record {
    begins = λ l comes. hull.begins l (from l comes);
    ends = λ l comes. hull.ends l (from l comes);
    first = (hull.first.0, to hull.first.0 hull.first.1, hull.first.2);
    last = (hull.last.0, to hull.last.0 hull.last.1, hull.last.2);
  }

  -- registers hold the same for the same copies
  pub occupied_like : (registers : List Occupancy)
      → ((l j q : ℕ) → S l j q → T l j q)
      → ((l j q : ℕ) → T l j q → S l j q)
      → AreOccupied period samples arcs S registers
      → AreOccupied period samples arcs T registers
  occupied_like registers to from occupied q n there =
      hull_like q n (λ l comes. to l (n % (arc_of arcs l).copies) q comes)
      (λ l comes. from l (n % (arc_of arcs l).copies) q comes) (span_at (register_in registers q) n)
      (occupied q n there)

  module _ (k i q : ℕ) (old new : List Occupancy) (other : Occupancy)
      (other_is : IsOfCopy period samples (arc_of arcs k) i other)
      (free : IsFree period samples (register_in old q) other)
      (same : (p : ℕ) → (p ≡ q → ⊥) → register_in new p ≡ register_in old p)
      (joins : IsJoined (register_in old q) other (register_in new q))
      (occupied : AreOccupied period samples arcs S old)
      (alive : (arc_of arcs k).w < (arc_of arcs k).r)
      (earlier : (l j p : ℕ) → S l j p → (arc_of arcs l).w ≤ (arc_of arcs k).w)
      (to : (l j p : ℕ) → S l j p → T l j p)
      (from : (l j p : ℕ) → T l j p → S l j p ⊎ ((l ≡ k) × (j ≡ i) × (p ≡ q)))
      (here : T k i q) where
    abbrev its : ℕ → Span
    its n = span_of period (arc_of arcs k) n

    here_at : (n : ℕ) → n % (arc_of arcs k).copies ≡ i → Comes period samples arcs T q n k
    here_at n turn = subst (λ (j : ℕ). T k j q) (sym turn) here

    joined_none : (o : Option Span) → joined o None ≡ o
    joined_none None = refl
    joined_none (Some span) = refl

    same_span : (l n : ℕ) → l ≡ k → span_of period (arc_of arcs l) n ≡ its n
    same_span l n e = ap (λ (x : ℕ). span_of period (arc_of arcs x) n) e

    at_q : (n : ℕ) (o : Option Span)
        → n < samples
        → n % (arc_of arcs k).copies ≡ i
        → span_at (register_in old q) n ≡ o
        → IsHullOrNone period samples arcs T q n (joined o (Some (its n)))
    at_q n None there turn e = record {
      begins = λ l comes. ⊎_elim
          (λ (was : S l (n % (arc_of arcs l).copies) q). absurd (none l was))
          (λ now. let is = ap (λ (s : Span). s.after) (same_span l n now.0) in omega (arith, is))
          (from l (n % (arc_of arcs l).copies) q comes);
      ends = λ l comes. ⊎_elim
          (λ (was : S l (n % (arc_of arcs l).copies) q). absurd (none l was))
          (λ now. let is = ap (λ (s : Span). s.upto) (same_span l n now.0) in omega (arith, is))
          (from l (n % (arc_of arcs l).copies) q comes);
      first = (k, here_at n turn, refl);
      last = (k, here_at n turn, refl);
    }
      where
        none : (l : ℕ) → Comes period samples arcs S q n l → ⊥
        none = subst (λ (x : Option Span). IsHullOrNone period samples arcs S q n x) e (occupied q n there)
    at_q n (Some taken) there turn e = record {
      begins = λ l comes. ⊎_elim
          (λ (was : S l (n % (arc_of arcs l).copies) q). hull.begins l was)
          (λ now. let is = ap (λ (s : Span). s.after) (same_span l n now.0) in omega (arith, is, begun))
          (from l (n % (arc_of arcs l).copies) q comes);
      ends = λ l comes. ⊎_elim
          (λ (was : S l (n % (arc_of arcs l).copies) q). let le = hull.ends l was in omega (arith, le, ended, alive))
          (λ now. let is = ap (λ (s : Span). s.upto) (same_span l n now.0) in omega (arith, is))
          (from l (n % (arc_of arcs l).copies) q comes);
      first = (hull.first.0, to hull.first.0 (n % (arc_of arcs hull.first.0).copies) q hull.first.1, hull.first.2);
      last = (k, here_at n turn, refl);
    }
      where
        hull : IsHull period samples arcs S q n taken
        hull = subst (λ (x : Option Span). IsHullOrNone period samples arcs S q n x) e (occupied q n there)

        begun : taken.after ≤ (its n).after
        begun =
            let low = earlier hull.first.0 (n % (arc_of arcs hull.first.0).copies) q hull.first.1 in
            let is = hull.first.2 in
            omega (arith, low, is)

        ended : taken.upto ≤ (its n).after
        ended = ((free n there (its n) (other_is.own n there turn) n there taken e).forward begun).ended

    -- they hold the words of one copy more
    pub occupied_more : AreOccupied period samples arcs T new
    occupied_more p n there =
        ⊎_elim
        (λ (e : p ≡ q).
        subst (λ (x : ℕ). IsHullOrNone period samples arcs T x n (span_at (register_in new x) n)) (sym e)
        (subst (λ (x : Option Span). IsHullOrNone period samples arcs T q n x) (sym (joins n)) in_q))
        (λ (differ : p ≡ q → ⊥).
        subst (λ (x : Option Span). IsHullOrNone period samples arcs T p n x)
        (sym (ap (λ (o : Occupancy). span_at o n) (same p differ)))
        (hull_like p n (λ l comes. to l (n % (arc_of arcs l).copies) p comes)
        (λ l comes. ⊎_elim (λ (was : S l (n % (arc_of arcs l).copies) p). was) (λ now. absurd (differ now.2))
        (from l (n % (arc_of arcs l).copies) p comes)) (span_at (register_in old p) n) (occupied p n there)))
        (cases_eq p q)
      where
        in_q : IsHullOrNone period samples arcs T q n (joined (span_at (register_in old q) n) (span_at other n))
        in_q =
            ⊎_elim
            (λ (turn : n % (arc_of arcs k).copies ≡ i).
            subst
            (λ (x : Option Span). IsHullOrNone period samples arcs T q n (joined (span_at (register_in old q) n) x))
            (sym (other_is.own n there turn)) (at_q n (span_at (register_in old q) n) there turn refl))
            (λ (not : n % (arc_of arcs k).copies ≡ i → ⊥).
            subst
            (λ (x : Option Span). IsHullOrNone period samples arcs T q n (joined (span_at (register_in old q) n) x))
            (sym (other_is.none n not))
            (subst (λ (x : Option Span). IsHullOrNone period samples arcs T q n x)
            (sym (joined_none (span_at (register_in old q) n)))
            (hull_like q n (λ l comes. to l (n % (arc_of arcs l).copies) q comes)
            (λ l comes. ⊎_elim (λ (was : S l (n % (arc_of arcs l).copies) q). was)
            (λ now. absurd (not (sym (ap (λ (x : ℕ). n % (arc_of arcs x).copies) now.0) ∙ now.1)))
            (from l (n % (arc_of arcs l).copies) q comes)) (span_at (register_in old q) n) (occupied q n there))))
            (cases_eq (n % (arc_of arcs k).copies) i)
