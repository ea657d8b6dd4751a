-- What `places_in` answers.
use Rattle.std.proofs.Common.{◌≡◌, ◌∙◌, ◌⊎◌, inl, inr, ⊎_elim, ap, refl, List, ℕ, length, Result, Ok, Err, IfOk, IfErr}
use Rattle.datapath.specs.Allowed.{IsDatapath}
use Rattle.datapath.specs.declared.types.Datapath.{Datapath}
use Rattle.place_file.specs.Lines.{lines_of}
use Rattle.place_file.specs.Given.{IsGivenBy}
use Rattle.place_file.specs.Faults.{IsGivenFault}
use Rattle.place_file.specs.Private.Entries.{AreEntries, AreKeys, AreGiven, IsFirstBad, IsMiscounted}
use Rattle.place_file.specs.declared.entry.Entry.{Entry}
use Rattle.place_file.specs.declared.given.Given.{Given}
use Rattle.place_file.specs.declared.fault.GivenFault.{GivenFault}
use Rattle.place_file.specs.declared.fault.GivenFault.TheVariants.{Memory}
use Rattle.place_file.proofs.OneAnswer.{given_or_not, one_given, one_fault}
use Rattle.place_file.proofs.Sorted.{miscounted, given_by, bad_fault}

module _ (d : Datapath) (text : List ℕ) (allowed : IsDatapath d) where
  abbrev IsWhy : GivenFault → Type 0
  IsWhy f = (f ≡ Memory) ⊎ IsGivenFault d text f

  pub bad_why : (f : GivenFault) → (f ≡ Memory) ⊎ IsFirstBad d text f → (f ≡ Memory) ⊎ IsGivenFault d text f
  bad_why f (inl e) = inl e
  bad_why f (inr h) = inr (bad_fault d text f h)

  pub fails_found : (r : Result Given GivenFault) (f : GivenFault)
      → r ≡ Err f
      → (f ≡ Memory) ⊎ IsGivenFault d text f
      → (given : Given)
      → IsGivenBy d text given
      → (r ≡ Ok given) ⊎ (r ≡ Err Memory)
  fails_found r f is why given by =
      ⊎_elim (λ (e : f ≡ Memory). inr (is ∙ ap (λ (x : GivenFault). Err x) e))
      (λ (h : IsGivenFault d text f). absurd (given_or_not d text allowed given by f h)) why

  pub fails_refused : (r : Result Given GivenFault) (f : GivenFault)
      → r ≡ Err f
      → (f ≡ Memory) ⊎ IsGivenFault d text f
      → (fault : GivenFault)
      → IsGivenFault d text fault
      → (r ≡ Err fault) ⊎ (r ≡ Err Memory)
  fails_refused r f is why fault h =
      ⊎_elim (λ (e : f ≡ Memory). inr (is ∙ ap (λ (x : GivenFault). Err x) e))
      (λ (k : IsGivenFault d text f).
      inl (is ∙ ap (λ (x : GivenFault). Err x) (one_fault d text allowed f fault k h))) why

  -- what is given by the keys of the entries
  module _ (entries : List Entry) (keys : List ℕ) (are : AreEntries d text (length (lines_of text)) entries)
      (ks : AreKeys entries keys) where
    why_of : (f : GivenFault) → (f ≡ Memory) ⊎ IsMiscounted entries keys f → (f ≡ Memory) ⊎ IsGivenFault d text f
    why_of f (inl e) = inl e
    why_of f (inr h) = inr (miscounted d text entries keys are ks f h)

    module _ (r : Result Given GivenFault) where
      pub told_given : IfOk r (AreGiven entries keys) → IfOk r (IsGivenBy d text)
      told_given = by r
        where
          by : (r : Result Given GivenFault) → IfOk r (AreGiven entries keys) → IfOk r (IsGivenBy d text)
          by (Ok given) is = given_by d text entries keys are ks given is
          by (Err f) is = tt

      pub told_fault : IfErr r (λ (f : GivenFault). (f ≡ Memory) ⊎ IsMiscounted entries keys f)
          → IfErr r (λ (f : GivenFault). (f ≡ Memory) ⊎ IsGivenFault d text f)
      told_fault = by r
        where
          by : (r : Result Given GivenFault)
              → IfErr r (λ (f : GivenFault). (f ≡ Memory) ⊎ IsMiscounted entries keys f)
              → IfErr r (λ (f : GivenFault). (f ≡ Memory) ⊎ IsGivenFault d text f)
          by (Ok given) is = tt
          by (Err f) is = why_of f is

    pub told_found : (r : Result Given GivenFault)
        → IfOk r (AreGiven entries keys)
        → IfErr r (λ (f : GivenFault). (f ≡ Memory) ⊎ IsMiscounted entries keys f)
        → (given : Given)
        → IsGivenBy d text given
        → (r ≡ Ok given) ⊎ (r ≡ Err Memory)
    told_found (Ok x) is why given by =
        inl (ap (λ (g : Given). Ok g) (one_given d text allowed x given (given_by d text entries keys are ks x is) by))
    told_found (Err f) is why given by = fails_found (Err f) f refl (why_of f why) given by

    pub told_refused : (r : Result Given GivenFault)
        → IfOk r (AreGiven entries keys)
        → IfErr r (λ (f : GivenFault). (f ≡ Memory) ⊎ IsMiscounted entries keys f)
        → (fault : GivenFault)
        → IsGivenFault d text fault
        → (r ≡ Err fault) ⊎ (r ≡ Err Memory)
    told_refused (Ok x) is why fault h =
        absurd (given_or_not d text allowed x (given_by d text entries keys are ks x is) fault h)
    told_refused (Err f) is why fault h = fails_refused (Err f) f refl (why_of f why) fault h
