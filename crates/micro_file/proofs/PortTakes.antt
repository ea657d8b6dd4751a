-- Reading the takes into a register file one after the other, as a loop does.
use Rattle.std.proofs.Common.{◌≡◌, ℕ, zero, suc, ◌-◌, ◌+◌, ◌≤◌, ◌<◌, List, [], ◌∷◌, ◌++◌, length, Ok, Err, refl}
use Rattle.std.proofs.Common.{sym, ◌∙◌, arith, length-append, ◌≢◌, ◌==◌, false}
use Rattle.std.proofs.lemmas.Bool.Decides.{nat_tests}
use Rattle.micro_image.specs.declared.image.Image.{Image}
use Rattle.micro_image.specs.declared.image.Take.{Take}
use Rattle.operations.specs.declared.units.PortRef.{PortRef}
use Rattle.micro_file.specs.declared.misread.Unread.{Unread}
use Rattle.micro_file.specs.declared.misread.Unread.TheVariants as unread
use Rattle.micro_file.specs.declared.misread.Misread.TheVariants.{Field}
use Rattle.micro_file.specs.Private.Bits.{number_at}
use Rattle.micro_file.specs.Private.Fields.{Reading, ◌>>=◌}
use Rattle.micro_file.specs.Private.PackedWords.{most_takes, taken_at, takes_at}
use Rattle.micro_file.specs.Private.Reads.{Fails}

-- a 0 ends them, whatever the room
pub takes_end : (image : Image) (port : PortRef) (size room : ℕ) (front : List Take) (bits after : List ℕ)
    → number_at 1 bits ≡ Ok (0, after)
    → takes_at image port size room front bits ≡ Ok (front, after)
unfolding takes_at
takes_end image port size zero front bits after h = rw h refl
takes_end image port size (suc room) front bits after h = rw h refl

-- where no flag is there, no takes are
no_takes : (image : Image) (port : PortRef) (size room : ℕ) (front : List Take) (bits : List ℕ) (e : Unread)
    → Fails e (number_at 1 bits)
    → Fails e (takes_at image port size room front bits)
unfolding takes_at
no_takes image port size room front bits unread.Memory h = tt
no_takes image port size zero front bits (unread.Misread misread) h = rw h refl
no_takes image port size (suc room) front bits (unread.Misread misread) h = rw h refl

-- a flag that is not 0, where the word has no room
overfull : (image : Image) (port : PortRef) (size : ℕ) (front : List Take) (bits after : List ℕ) (flag : ℕ)
    → number_at 1 bits ≡ Ok (flag, after)
    → flag ≢ 0
    → takes_at image port size 0 front bits ≡ Err (Field (length bits))
unfolding takes_at
overfull image port size front bits after flag h other =
    let no : (flag == 0) ≡ false = grind (arith, nat_tests) in
    rw (h, no) refl

-- where there is room, a take stands behind it, and others follow
one_more : (image : Image) (port : PortRef) (size room : ℕ) (front : List Take) (bits after : List ℕ) (flag : ℕ)
    → number_at 1 bits ≡ Ok (flag, after)
    → flag ≢ 0
    → takes_at image port size (suc room) front bits
    ≡ (taken_at image port size front bits after >>= λ x. takes_at image port size room (front ++ x.0 ∷ []) x.1)
unfolding takes_at
one_more image port size room front bits after flag h other =
    let no : (flag == 0) ≡ false = grind (arith, nat_tests) in
    rw (h, no) refl

module _ (image : Image) (port : PortRef) (size : ℕ) (front : List Take) (bits : List ℕ) (total : Reading (List Take))
    (so_far : takes_at image port size (most_takes - length front) front bits ≡ total) where
  -- the loop ends at a 0
  pub is_done : (after : List ℕ) → number_at 1 bits ≡ Ok (0, after) → total ≡ Ok (front, after)
  is_done after h = sym so_far ∙ takes_end image port size (most_takes - length front) front bits after h

  -- and where no flag is there
  pub no_flag : (e : Unread) → Fails e (number_at 1 bits) → Fails e total
  no_flag e h = rw so_far at (no_takes image port size (most_takes - length front) front bits e h)

  module _ (flag : ℕ) (after : List ℕ) (there : number_at 1 bits ≡ Ok (flag, after)) (other : flag ≢ 0) where
    -- a flag is refused where the word has the most takes
    pub is_full : most_takes ≤ length front → total ≡ Err (Field (length bits))
    is_full le =
        let none : most_takes - length front ≡ 0 = omega arith in
        sym so_far ∙ rw none (overfull image port size front bits after flag there other)

    -- what could not be read behind it ends the loop
    pub ends : (e : Unread)
        → length front < most_takes
        → Fails e (taken_at image port size front bits after)
        → Fails e total
    ends unread.Memory lt h = tt
    ends (unread.Misread misread) lt h =
        let some : most_takes - length front ≡ suc (most_takes - (length front + 1)) = omega arith in
        sym so_far
        ∙ rw (some, one_more image port size (most_takes - (length front + 1)) front bits after flag there other, h)
        refl

    -- the step of the loop
    pub goes_on : (take : Take) (rest : List ℕ)
        → length front < most_takes
        → taken_at image port size front bits after ≡ Ok (take, rest)
        → takes_at image port size (most_takes - length (front ++ take ∷ [])) (front ++ take ∷ []) rest ≡ total
    goes_on take rest lt h =
        let some : most_takes - length front ≡ suc (most_takes - (length front + 1)) = omega arith in
        let left : most_takes - length (front ++ take ∷ []) ≡ most_takes - (length front + 1) =
        rw (length-append front (take ∷ [])) refl in
        let step : takes_at image port size (most_takes - length front) front bits
        ≡ takes_at image port size (most_takes - (length front + 1)) (front ++ take ∷ []) rest =
        rw (some, one_more image port size (most_takes - (length front + 1)) front bits after flag there other, h)
        refl in
        rw left (sym step ∙ so_far)
