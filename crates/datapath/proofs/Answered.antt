-- An answer that is what is read, or that memory ran out, by what the file describes and its first fault.
use Rattle.std.proofs.Common.{◌≡◌, ◌≢◌, ◌⊎◌, ℕ, List, Result, Ok, Err, refl, ap, sym, ◌∙◌, inl, inr}
use Rattle.std.specs.Prelude.{IfOk, IfErr}
use Rattle.datapath.specs.declared.fault.PathFault.{PathFault}
use Rattle.datapath.specs.declared.fault.PathFault.TheVariants.{TooLong, NotToml, UnknownKey, Missing, WrongKind, Range}
use Rattle.datapath.specs.declared.fault.PathFault.TheVariants.{UnknownUnit, UnknownPort, Twice, Memory}
use Rattle.datapath.specs.declared.types.Datapath.{Datapath}
use Rattle.datapath.specs.Reading.{Read, Gives}
use Rattle.datapath.specs.PathOf.{path_of}
use Rattle.datapath.specs.Described.{IsPathOf}
use Rattle.datapath.specs.PathRules.{IsPathFault}
use Rattle.datapath.proofs.DescribedPath.{described, is_read}
use Rattle.datapath.proofs.FirstPath.{is_first, first_read}

memory_or : (e : PathFault) → (e ≡ Memory) ⊎ (e ≢ Memory)
memory_or Memory = inl refl
memory_or TooLong = inr (λ h. absurd (cc))
memory_or NotToml = inr (λ h. absurd (cc))
memory_or (UnknownKey s) = inr (λ h. absurd (cc))
memory_or (Missing s) = inr (λ h. absurd (cc))
memory_or (WrongKind s) = inr (λ h. absurd (cc))
memory_or (Range s) = inr (λ h. absurd (cc))
memory_or (UnknownUnit s) = inr (λ h. absurd (cc))
memory_or (UnknownPort s) = inr (λ h. absurd (cc))
memory_or (Twice s) = inr (λ h. absurd (cc))

-- what the bytes give is the answer
answered : (read : Read Datapath) (r : Result Datapath PathFault) → Gives r read → (r ≡ read) ⊎ (r ≡ Err Memory)
answered read (Ok d) h = inl (sym h)
answered read (Err e) h = by (memory_or e)
  where
    by : (e ≡ Memory) ⊎ (e ≢ Memory) → (Err e ≡ read) ⊎ (◌≡◌ {A = Read Datapath} (Err e) (Err Memory))
    by (inl is) = inr (ap Err is)
    by (inr other) = inl (sym (h other))

module _ (bytes : List ℕ) where
  pub describes : (r : Result Datapath PathFault) → Gives r (path_of bytes) → IfOk r (IsPathOf bytes)
  describes (Ok d) h = described bytes d h
  describes (Err e) h = tt

  pub refuses : (r : Result Datapath PathFault)
      → Gives r (path_of bytes)
      → IfErr r (λ fault. (fault ≡ Memory) ⊎ IsPathFault bytes fault)
  refuses (Ok d) h = tt
  refuses (Err e) h = by (memory_or e)
    where
      by : (e ≡ Memory) ⊎ (e ≢ Memory) → (e ≡ Memory) ⊎ IsPathFault bytes e
      by (inl is) = inl is
      by (inr other) = inr (is_first bytes e (h other))

  module _ (r : Result Datapath PathFault) (gives : Gives r (path_of bytes)) where
    pub finds : (d : Datapath) → IsPathOf bytes d → (r ≡ Ok d) ⊎ (r ≡ Err Memory)
    finds d is = by (answered (path_of bytes) r gives)
      where
        by : (r ≡ path_of bytes) ⊎ (r ≡ Err Memory) → (r ≡ Ok d) ⊎ (r ≡ Err Memory)
        by (inl same) = inl (same ∙ is_read bytes d is)
        by (inr none) = inr none

    pub finds_fault : (fault : PathFault) → IsPathFault bytes fault → (r ≡ Err fault) ⊎ (r ≡ Err Memory)
    finds_fault fault is = by (answered (path_of bytes) r gives)
      where
        by : (r ≡ path_of bytes) ⊎ (r ≡ Err Memory) → (r ≡ Err fault) ⊎ (r ≡ Err Memory)
        by (inl same) = inl (same ∙ first_read bytes fault is)
        by (inr none) = inr none
