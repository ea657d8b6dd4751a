-- Which names a command may read, worked out.
use Rattle.std.proofs.Common.{◌≡◌, ◌⊎◌, inl, inr, ⊎_elim, [], ◌∷◌, Bool, true}
use Rattle.desk_core.specs.View.{Name, Content}
use Rattle.silc_files.specs.Endings.{IsAmong, BeginsOnly}

-- no name but these two
two_names : (first second : Name) (old new : Name → Bool)
    → BeginsOnly (IsAmong (first ∷ second ∷ [])) old new
    → (name : Name)
    → (name ≡ first → ⊥)
    → (name ≡ second → ⊥)
    → new name ≡ true
    → old name ≡ true
two_names first second old new begins name not_first not_second =
    begins name (⊎_elim not_first (⊎_elim not_second (λ none. none)))

-- a file, and the one whose name is what it holds
abbrev IsFileOrNamedIn : Name → Content → Name → Type 0
IsFileOrNamedIn file content name = IsAmong (file ∷ []) name ⊎ (name ≡ content)

named_in_a_file : (file : Name) (content : Content) (old new : Name → Bool)
    → ((name : Name) → (name ≡ file → ⊥) → (name ≡ content → ⊥) → new name ≡ true → old name ≡ true)
    → BeginsOnly (IsFileOrNamedIn file content) old new
named_in_a_file file content old new only name not = only name (λ e. not (inl (inl e))) (λ e. not (inr e))
