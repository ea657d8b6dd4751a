-- Texts of lists, element by element.
use Rattle.std.proofs.Common.{◌≡◌, ◌∙◌, sym, ap, arith, ℕ, zero, suc, add-one, ◌+◌, List, [], ◌∷◌, ◌++◌, append-nil}
use Rattle.std.proofs.Common.{append_assoc, take, length, ◌≤◌}
use Rattle.std.specs.Prelude.{map, decimal}
use Rattle.std.specs.List.{flat_map, join_with_byte, range_with_len}
use Rattle.std.proofs.lemmas.List.{take_all}
use Rattle.microcode_asm.specs.ScheduleText.{comma, register_list}

-- what is joined is the first text, and then each with the byte before it
pub joined : (byte : ℕ) (f : ℕ → List ℕ) (x : ℕ) (xs : List ℕ)
    → join_with_byte byte (map f (x ∷ xs)) ≡ f x ++ flat_map (λ y. byte ∷ f y) xs
joined byte f x [] = sym (append-nil (f x))
joined byte f x (y ∷ ys) = ap (λ (l : List ℕ). f x ++ byte ∷ l) (joined byte f y ys)

pub after : (a b c : List ℕ) → (a ++ b) ++ c ≡ a ++ (b ++ c)
after a b c = rw append_assoc

flat_range_suc : (f : ℕ → List ℕ) (a n j : ℕ)
    → a + n ≡ j
    → flat_map f (range_with_len a (suc n)) ≡ flat_map f (range_with_len a n) ++ f j
flat_range_suc f a zero j is = append-nil (f a) ∙ ap f (omega arith)
flat_range_suc f a (suc n) j is =
    ap (λ (l : List ℕ). f a ++ l) (flat_range_suc f (a + 1) n j (omega arith))
    ∙ sym (after (f a) (flat_map f (range_with_len (a + 1) n)) (f j))

-- the first register, and then each with a comma before it
pub all_registers : (old start out registers rest : List ℕ) (first i : ℕ)
    → registers ≡ first ∷ rest
    → start ≡ old ++ decimal first
    → out ≡ start ++ flat_map (λ r. comma ∷ decimal r) (take i rest)
    → length rest ≤ i
    → out ≡ old ++ register_list registers
all_registers old start out registers rest first i registers_are start_is out_is done =
    out_is ∙ ap (λ (l : List ℕ). start ++ flat_map (λ r. comma ∷ decimal r) l) (take_all i rest done)
    ∙ ap (λ (l : List ℕ). l ++ flat_map (λ r. comma ∷ decimal r) rest) start_is
    ∙ after old (decimal first) (flat_map (λ r. comma ∷ decimal r) rest)
    ∙ ap (λ (l : List ℕ). old ++ l) (sym (joined comma decimal first rest))
    ∙ ap (λ (l : List ℕ). old ++ register_list l) (sym registers_are)

-- one more number
pub flat_range_more : (f : ℕ → List ℕ) (a n j : ℕ)
    → a + n ≡ j
    → flat_map f (range_with_len a (n + 1)) ≡ flat_map f (range_with_len a n) ++ f j
flat_range_more f a n j is = rw add-one (flat_range_suc f a n j is)

-- a text of lines by number, and the next line
pub lines_more : (line : ℕ → List ℕ) (old text new : List ℕ) (n : ℕ)
    → text ≡ old ++ flat_map line (range_with_len 0 n)
    → new ≡ text ++ line n
    → new ≡ old ++ flat_map line (range_with_len 0 (n + 1))
lines_more line old text new n text_is new_is =
    new_is ∙ ap (λ (l : List ℕ). l ++ line n) text_is
    ∙ after old (flat_map line (range_with_len 0 n)) (line n)
    ∙ ap (λ (l : List ℕ). old ++ l) (sym (flat_range_more line 0 n n (omega arith)))
