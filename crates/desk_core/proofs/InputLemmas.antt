-- The current input of a desk that never fails: where its file is put or created, and where not.
use Rattle.std.proofs.Common.{◌≡◌, ◌≢◌, refl, ◌∙◌, ap, subst, List, take, Some, Bool, true, false, arith}
use Rattle.std.specs.Prelude.{bytes_eq, if◌then◌else◌}
use Rattle.desk_core.specs.View.{Name, Content}
use Rattle.desk_core.specs.Stored.{name_at, IsOpen, KeepsPositions}
use Rattle.desk_core.specs.Inputs.{name_of, held_by}
use Rattle.desk_core.specs.Private.Inputs.{apart_from, InputStands}
use Rattle.desk_core.specs.declared.input.CurrentInput.{CurrentInput}
use Rattle.desk_core.specs.declared.input.CurrentInput.TheVariants.{Absent, Missing, File}
use Rattle.desk_core.specs.declared.stored.OpenInput.{OpenInput}
use Rattle.desk_core.specs.declared.stored.Stored.{Stored}
use Rattle.desk_core.proofs.StoredLemmas.{same_name, other_name, open_kept}

pub keeps_same : (s : Name) (fs : List Stored) → KeepsPositions s fs fs
keeps_same s fs = record { longer = omega arith; names = λ k lt. refl; others = λ k lt ne. refl }

-- the input is the file of that name, or another
pub apart_same : (fs : List Stored) (input : OpenInput) (s : Name)
    → name_at fs input.file ≡ s
    → apart_from fs (File input) s ≡ Absent
apart_same fs input s e = ap (λ (b : Bool). if b then Absent else File input) (same_name _ _ e)

pub apart_other : (fs : List Stored) (input : OpenInput) (s : Name)
    → name_at fs input.file ≢ s
    → apart_from fs (File input) s ≡ File input
apart_other fs input s ne = ap (λ (b : Bool). if b then Absent else File input) (other_name _ _ ne)

named : (a b : Name) → Some (Some a) ≡ Some (Some b) → a ≡ b
named a b e = cc

-- the input of that name ends
pub apart_ends : (fs : List Stored) (current : CurrentInput) (s : Name)
    → name_of fs current ≡ Some (Some s)
    → apart_from fs current s ≡ Absent
apart_ends fs Absent s e = refl
apart_ends fs Missing s e = absurd (cc)
apart_ends fs (File input) s e = apart_same fs input s (named _ _ e)

-- an input of another name has its name and its bytes, where the file of that name changes at most
pub apart_named : (fs gs : List Stored) (current : CurrentInput) (s : Name)
    → KeepsPositions s fs gs
    → InputStands fs current
    → name_of fs current ≢ Some (Some s)
    → name_of gs (apart_from fs current s) ≡ name_of fs current
apart_named fs gs Absent s k h other = refl
apart_named fs gs Missing s k h other = refl
apart_named fs gs (File input) s k h other =
    let ne : name_at fs input.file ≢ s = λ e. other (ap (λ (n : Name). Some (Some n)) e) in
    ap (name_of gs) (apart_other fs input s ne)
    ∙ ap (λ (n : Name). Some (Some n)) (k.names input.file (h input refl).first.inside)

pub apart_held : (fs gs : List Stored) (current : CurrentInput) (s : Name)
    → KeepsPositions s fs gs
    → InputStands fs current
    → name_of fs current ≢ Some (Some s)
    → held_by gs (apart_from fs current s) ≡ held_by fs current
apart_held fs gs Absent s k h other = refl
apart_held fs gs Missing s k h other = refl
apart_held fs gs (File input) s k h other =
    let ne : name_at fs input.file ≢ s = λ e. other (ap (λ (n : Name). Some (Some n)) e) in
    ap (held_by gs) (apart_other fs input s ne)
    ∙ ap (λ (b : Content). Some (take input.len b)) (k.others input.file (h input refl).first.inside ne)

-- what stays of the input stands
pub apart_stands : (fs gs : List Stored) (current : CurrentInput) (s : Name)
    → KeepsPositions s fs gs
    → InputStands fs current
    → InputStands gs (apart_from fs current s)
apart_stands fs gs Absent s k h = λ input e. absurd (cc)
apart_stands fs gs Missing s k h = λ input e. absurd (cc)
apart_stands fs gs (File held) s k h = go (bytes_eq (name_at fs held.file) s) refl
  where
    go : (b : Bool)
        → bytes_eq (name_at fs held.file) s ≡ b
        → (input : OpenInput)
        → (if b then Absent else File held) ≡ File input
        → IsOpen gs input
    go true e input is = absurd (cc)
    go false e input is =
        let ne : name_at fs held.file ≢ s = λ same. (let t = same_name _ _ same in cc) in
        subst (IsOpen gs) (cc) (open_kept fs gs s held k (h held refl) ne)
