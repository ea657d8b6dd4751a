-- What processors without a fault of wires have: a wire for each input word, from a word of the same shape.
use Rattle.std.proofs.Common.{◌≡◌, ◌+◌, ◌==◌, ℕ, zero, suc, List, [], ◌∷◌, length, Bool, true, false, Some}
use Rattle.std.proofs.Common.{refl, sym, ap, ◌∙◌, arith, subst}
use Rattle.std.specs.Prelude.{slice_get}
use Rattle.std.specs.List.{AllZip}
use Rattle.std.proofs.lemmas.Bool.{eqb-true}
use Rattle.lists.proofs.Bools.{first_true}
use Rattle.fault_order.specs.Ranked.{FaultSet, FaultRow, IsClear, faults_in, own_fault, ◌before◌}
use Rattle.fault_order.specs.Rules.{Rules, faults, row_faults, each_from}
use Rattle.fix_word.specs.declared.types.SigType.{SigType}
use Rattle.fix_word.specs.declared.types.SigType.TheVariants.{Fix, Bool as Truth}
use Rattle.net_core.specs.declared.types.NetProc.{NetProc}
use Rattle.net_core.specs.declared.types.Wire.{Wire}
use Rattle.net_fit.specs.Joints.{source_type, are_alike, fits, inputs_at, wire_rule, proc_rules, joint_rules}
use Rattle.net_fit.specs.Joints.{word_width}
use Rattle.net_fit.specs.declared.ports.Ports.{Ports}

module _ {F : Type 0} where
  head_clear : (H : FaultSet F) (R : FaultRow F) → IsClear (faults_in (H before R)) → IsClear H
  head_clear H R clear r f h = clear (zero ∷ r) f h

  tail_clear : (H : FaultSet F) (R : FaultRow F) → IsClear (faults_in (H before R)) → IsClear (faults_in R)
  tail_clear H R clear [] f h = h
  tail_clear H R clear (k ∷ r) f h = clear (suc k ∷ r) f h

  own_holds : (holds : Bool) (g : F) (R : FaultRow F) → IsClear (own_fault (holds ≡ false) g R) → holds ≡ true
  own_holds true g R clear = refl
  own_holds false g R clear = absurd (clear [] g (refl, refl))

  parts_clear : (P : Type 0) (g : F) (R : FaultRow F) → IsClear (own_fault P g R) → IsClear (faults_in R)
  parts_clear P g R clear [] f h = h
  parts_clear P g R clear (k ∷ r) f h = clear (k ∷ r) f h

  -- the rules of one element of a list, by its position
  at_position : {A : Type 0} (G : ℕ → A → Rules F) (k : ℕ) (xs : List A) (i n : ℕ) (x : A)
      → k + i ≡ n
      → IsClear (faults_in (row_faults (each_from G k xs)))
      → slice_get xs i ≡ Some x
      → IsClear (faults (G n x))
  at_position G k [] i n x at clear is = absurd (cc)
  at_position {A = A} G k (y ∷ ys) zero n x at clear is =
      let same : y ≡ x = cc in
      let none : k ≡ n = omega (arith, at) in
      subst (λ (z : A). IsClear (faults (G n z))) same
      (subst (λ (m : ℕ). IsClear (faults (G m y))) none
      (head_clear (faults (G k y)) (row_faults (each_from G (k + 1) ys)) clear))
  at_position G k (y ∷ ys) (suc i) n x at clear is =
      at_position G (k + 1) ys i n x (omega (arith, at))
      (tail_clear (faults (G k y)) (row_faults (each_from G (k + 1) ys)) clear) is

-- types that are alike have words of one width
pub alike_width : (a b : SigType) → are_alike a b ≡ true → word_width (Some a) ≡ word_width (Some b)
alike_width (Fix a) (Fix b) h = eqb-true a.shape.w b.shape.w (first_true (a.shape.w == b.shape.w) _ h)
alike_width (Fix a) Truth h = absurd (cc)
alike_width Truth (Fix b) h = absurd (cc)
alike_width Truth Truth h = refl

module _ (procs : List NetProc) (ports : List Ports) where
  -- the word of the wire is there and fits an input word of this type
  abbrev pub Fits : Wire → SigType → Type 0
  Fits wire ty = fits (source_type procs ports wire) (Some ty) ≡ true

  zip_at : (R : Wire → SigType → Type 0) (wires : List Wire) (types : List SigType)
      → length wires ≡ length types
      → ((w : ℕ) (wire : Wire) (ty : SigType) → slice_get wires w ≡ Some wire → slice_get types w ≡ Some ty → R wire ty)
      → AllZip R wires types
  zip_at R [] [] same each = tt
  zip_at R [] (ty ∷ types) same each = absurd (omega (arith, same))
  zip_at R (wire ∷ wires) [] same each = absurd (omega (arith, same))
  zip_at R (wire ∷ wires) (ty ∷ types) same each =
      (each 0 wire ty refl refl, zip_at R wires types (omega (arith, same)) (λ w. each (suc w)))

  module _ (clear : IsClear (faults (joint_rules procs ports))) (p : ℕ) (proc : NetProc)
      (there : slice_get procs p ≡ Some proc) where
    its_rules : IsClear (faults (proc_rules procs ports p proc))
    its_rules = at_position (proc_rules procs ports) 0 procs p p proc (omega arith) clear there

    -- there is a wire for each input word
    pub as_many : length proc.feed ≡ length (inputs_at ports p)
    as_many =
        eqb-true (length proc.feed) (length (inputs_at ports p))
        (own_holds (length proc.feed == length (inputs_at ports p)) _ _ its_rules)

    -- and each fits
    pub all_fit : AllZip Fits proc.feed (inputs_at ports p)
    all_fit =
        zip_at Fits proc.feed (inputs_at ports p) as_many
        (λ w wire ty wire_is ty_is.
        ap (λ own. fits (source_type procs ports wire) own) (sym ty_is)
        ∙ own_holds _ _ _
        (at_position (wire_rule procs ports p) 0 proc.feed w w wire (omega arith) (parts_clear _ _ _ its_rules)
        wire_is))
