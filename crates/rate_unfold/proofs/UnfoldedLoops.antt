-- Where the program has no delay-free loop, the unfolded one has none: along reads without a delay the phase never
-- rises, and where it stays, the reads are those of the program.
use Rattle.std.proofs.Common.{◌≡◌, ℕ, zero, suc, ◌+◌, ◌*◌, ◌/◌, ◌%◌, ◌<◌, ◌⊎◌, inl, inr, length, refl, sym, ◌∙◌}
use Rattle.std.proofs.Common.{arith, subst, Bool, true, false, ◌&&◌, if◌then◌else◌}
use Rattle.std.specs.Prelude.{pos, nat_lt}
use Rattle.std.proofs.lemmas.Nat.{same_from_place, div-add-mod', div_below, mod_below}
use Rattle.recurrences.specs.Systems.{DependsNow, direct, by_way_of}
use Rattle.signal_graph.specs.Flat.{Expr, raw, read, calculation, Parts, no_part, part, Body, word, value, Program}
use Rattle.signal_graph.specs.FlatRules.{IsFlat}
use Rattle.signal_graph.specs.Values.{Reads, PartsRead, BodyReads}
use Rattle.signal_graph.specs.FlatSolves.{no_element, element_of, ElementReads, IsFlatLoopless}
use Rattle.signal_graph.proofs.Values.{body_allowed}
use Rattle.rate_unfold.specs.Frames.{Rates, is_slow, place}
use Rattle.rate_unfold.specs.Unfolded.{in_phase, word_in_phase, IsBefore}
use Rattle.rate_unfold.specs.Private.Unfolding.{expr_in_phase, parts_in_phase, body_in_phase, unfolded, phase_before}
use Rattle.rate_unfold.proofs.Samples.{is_before}
use Rattle.rate_unfold.proofs.UnfoldedElements.{length_unfolded, element_at}

-- what is read in phase j: an element that the program reads, in the phase and the frame of its sample
pub record IsReadInPhase (m elements j : ℕ) (R : (e k : ℕ) → Type 0) (c d : ℕ) : Type 0 where
  pub element : ℕ
  pub ago : ℕ
  pub phase : ℕ
  pub reads : R element ago
  pub before : IsBefore m j ago phase d
  pub number : c ≡ in_phase elements phase element

module _ (m elements j : ℕ) (inside : j < m) (c d : ℕ) where
  mutual
    read_back : (x : Expr) → Reads (expr_in_phase m elements j x) c d → IsReadInPhase m elements j (Reads x) c d
    read_back (raw w) r = absurd r
    read_back (read e k) r = record {
      element = e;
      ago = k;
      phase = phase_before m j k;
      reads = (refl, refl);
      before = subst (λ (i : ℕ). IsBefore m j k (phase_before m j k) i) (sym r.1) (is_before m j k inside);
      number = r.0;
    }
    read_back (calculation o fmt parts) r = part_back parts r

    part_back : (parts : Parts)
        → PartsRead (parts_in_phase m elements j parts) c d
        → IsReadInPhase m elements j (PartsRead parts) c d
    part_back no_part r = absurd r
    part_back (part x rest) (inl r) =
        let b = read_back x r in
        record {
          element = b.element;
          ago = b.ago;
          phase = b.phase;
          reads = inl b.reads;
          before = b.before;
          number = b.number;
        }
    part_back (part x rest) (inr r) =
        let b = part_back rest r in
        record {
          element = b.element;
          ago = b.ago;
          phase = b.phase;
          reads = inr b.reads;
          before = b.before;
          number = b.number;
        }

no_word_reads : (r : Rates) (j i c d : ℕ) → BodyReads (word_in_phase r j i) c d → ⊥
no_word_reads r j i c d reads = by (is_slow r.up i && nat_lt 0 j) reads
  where
    by : (b : Bool)
        → BodyReads (if b then value (raw (pos 0)) else word (place r.phases r.up i + j)) c d
        → ⊥
    by true reads = reads
    by false reads = reads

body_back : (r : Rates) (elements j c d : ℕ)
    → j < r.phases
    → (body : Body)
    → BodyReads (body_in_phase r elements j body) c d
    → IsReadInPhase r.phases elements j (BodyReads body) c d
body_back r elements j c d inside (word i) reads = absurd (no_word_reads r j i c d reads)
body_back r elements j c d inside (value x) reads = read_back r.phases elements j inside c d x reads

module _ (r : Rates) (p : Program) (sound : IsFlat p) where
  abbrev size : ℕ
  size = length p.elems

  pub reads_back : (j e c d : ℕ)
      → j < r.phases
      → e < size
      → ElementReads (unfolded r p) (in_phase size j e) c d
      → IsReadInPhase r.phases size j (ElementReads p e) c d
  reads_back j e c d inside there reads =
      body_back r size j c d inside (element_of p e).body
      (subst (λ x. BodyReads x.body c d) (element_at r p j e inside there) reads)

  -- the phase falls, or stays on a path of the program
  abbrev Falls : (j e q c : ℕ) → Type 0
  Falls j e q c = (q < j) ⊎ ((q ≡ j) × DependsNow (ElementReads p) e c)

  record Reaches (j e b : ℕ) : Type 0 where
    phase : ℕ
    element : ℕ
    inside : phase < r.phases
    there : element < size
    number : b ≡ in_phase size phase element
    falls : Falls j e phase element

  step : (j e b : ℕ)
      → j < r.phases
      → e < size
      → ElementReads (unfolded r p) (in_phase size j e) b 0
      → Reaches j e b
  step j e b inside there reads =
      let back = reads_back j e b 0 inside there reads in
      record {
        phase = back.phase;
        element = back.element;
        inside = back.before.phase;
        there = (body_allowed p (element_of p e).ty (element_of p e).body back.element back.ago
            (sound.elements e no_element there).body back.reads).element;
        number = back.number;
        falls = by back.ago back.phase back.element (omega (arith, back.before.samples)) back.reads;
      }
    where
      by : (k q c : ℕ) → j ≡ q + k → ElementReads p e c k → Falls j e q c
      by zero q c same reads = inr (omega (arith, same), direct reads)
      by (suc k) q c same reads = inl (omega (arith, same))

  onward : (j e q c t d : ℕ) → Falls j e q c → Falls q c t d → Falls j e t d
  onward j e q c t d (inl a) (inl b) = inl (omega (arith, a, b))
  onward j e q c t d (inl a) (inr b) = let same = b.0 in inl (omega (arith, a, same))
  onward j e q c t d (inr a) (inl b) = let same = a.0 in inl (omega (arith, same, b))
  onward j e q c t d (inr a) (inr b) = inr (b.0 ∙ a.0, joined e c d a.1 b.1)
    where
      joined : (e c d : ℕ)
          → DependsNow (ElementReads p) e c
          → DependsNow (ElementReads p) c d
          → DependsNow (ElementReads p) e d
      joined e c d (direct x) y = by_way_of c x y
      joined e c d (by_way_of b x z) y = by_way_of b x (joined b c d z y)

  along : (a b : ℕ)
      → DependsNow (ElementReads (unfolded r p)) a b
      → (j e : ℕ)
      → a ≡ in_phase size j e
      → j < r.phases
      → e < size
      → Reaches j e b
  along a b (direct x) j e is inside there =
      step j e b inside there (subst (λ (i : ℕ). ElementReads (unfolded r p) i b 0) is x)
  along a b (by_way_of d x path) j e is inside there =
      let first = step j e d inside there (subst (λ (i : ℕ). ElementReads (unfolded r p) i d 0) is x) in
      let rest = along d b path first.phase first.element first.number first.inside first.there in
      record {
        phase = rest.phase;
        element = rest.element;
        inside = rest.inside;
        there = rest.there;
        number = rest.number;
        falls = onward j e first.phase first.element rest.phase rest.element first.falls rest.falls;
      }

  pub unfolded_loopless : IsFlatLoopless p → IsFlatLoopless (unfolded r p)
  unfolded_loopless loopless a inside path =
      let some : 0 < size = positive (subst (λ (n : ℕ). a < n) (length_unfolded r p) inside) in
      let below : a / size < r.phases =
      div_below a size r.phases some (subst (λ (n : ℕ). a < n) (length_unfolded r p) inside) in
      let split : a ≡ in_phase size (a / size) (a % size) = sym (div-add-mod' a size) in
      let there : a % size < size = mod_below a size some in
      let end = along a a path (a / size) (a % size) split below there in
      let same = same_from_place end.phase end.element (a / size) (a % size) size end.there there
      (sym end.number ∙ split) in
      by (a / size) (a % size) end.phase end.element there same.0 same.1 end.falls
    where
      positive : a < r.phases * size → 0 < size
      positive less = nonzero size less
        where
          nonzero : (n : ℕ) → a < r.phases * n → 0 < n
          nonzero zero less = absurd (omega arith)
          nonzero (suc n) less = omega arith

      by : (j e q c : ℕ) → e < size → q ≡ j → c ≡ e → Falls j e q c → ⊥
      by j e q c there same_phase same (inl less) = absurd (omega (arith, less, same_phase))
      by j e q c there same_phase same (inr stays) =
          loopless e there (subst (λ (i : ℕ). DependsNow (ElementReads p) e i) same stays.1)
