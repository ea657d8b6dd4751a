-- Going over the keys of a table.
use Rattle.std.proofs.Common.{◌≡◌, ℕ, Bool, ◌||◌, ◌&&◌, List, [], ◌∷◌, map, Bor, string_bytes, refl, ap, sym, ◌∙◌}
use Rattle.std.specs.List.{list_any}
use Rattle.std.specs.Str.{bytes_eq}
use Rattle.toml.specs.View.{members_view}
use Rattle.toml.proofs.Views.{Entry}
use Rattle.toml_rows.specs.Rows.{keys_among}
use Rattle.toml_rows.specs.Texts.{texts}

pub list_any-map : {A B : Type 0} (p : B → Bool) (f : A → B) (xs : List A)
    → list_any p (map f xs) ≡ list_any (λ x. p (f x)) xs
list_any-map p f [] = refl
list_any-map p f (x ∷ xs) = ap (λ (b : Bool). p (f x) || b) (list_any-map p f xs)

-- one entry of a table: its key is tested, and then the others
pub keys_among-cons : (names : List (Bor (List ℕ))) (es rest : List Entry) (e : Entry) (text : List ℕ) (b : Bool)
    → es ≡ e ∷ rest
    → text ≡ string_bytes e.0
    → b ≡ list_any (λ n. bytes_eq text n.now) names
    → keys_among (texts names) (members_view es) ≡ (b && keys_among (texts names) (members_view rest))
keys_among-cons names es rest e text b first same test =
    let tested : list_any (bytes_eq (string_bytes e.0)) (texts names) ≡ b = rw (← same)
    (list_any-map (bytes_eq text) (λ (n : Bor (List ℕ)). n.now) names ∙ sym test) in
    rw first (ap (λ (t : Bool). t && keys_among (texts names) (members_view rest)) tested)
