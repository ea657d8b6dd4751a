-- The bits up to the end of a byte: where they are zeros, and where not.
use Rattle.std.proofs.Common.{◌≡◌, ◌≢◌, ℕ, zero, suc, ◌%◌, Bool, true, false, cond, eqb, List, [], ◌∷◌, ◌++◌, length}
use Rattle.std.proofs.Common.{take, drop}
use Rattle.std.proofs.Common.{replicate, Ok, Err, refl, sym, ap, ◌∙◌, arith}
use Rattle.std.specs.List.{list_all}
use Rattle.std.proofs.Math.Seq.{take-append_seam, drop-append_seam}
use Rattle.std.proofs.lemmas.Bool.{and_parts, eqb-true}
use Rattle.std.proofs.lemmas.List.{length-replicate, length-take}
use Rattle.micro_file.specs.declared.misread.Misread.TheVariants.{Field}
use Rattle.micro_file.specs.Private.Fields.{refused}
use Rattle.micro_file.specs.Private.File.{padding_at}

-- the bit is 0
abbrev pub is_zero : ℕ → Bool
is_zero bit = eqb bit 0

pub replicate_zeros : (n : ℕ) → list_all is_zero (replicate n 0) ≡ true
replicate_zeros zero = refl
replicate_zeros (suc n) = replicate_zeros n

pub zeros_replicate : (bits : List ℕ) → list_all is_zero bits ≡ true → bits ≡ replicate (length bits) 0
zeros_replicate [] e = refl
zeros_replicate (bit ∷ bits) e =
    let parts = and_parts (is_zero bit) (list_all is_zero bits) e in
    let first : bit ≡ 0 = eqb-true bit 0 parts.0 in
    let rest : bits ≡ replicate (length bits) 0 = zeros_replicate bits parts.1 in
    ap (λ (b : ℕ). b ∷ bits) first ∙ ap (λ (bs : List ℕ). 0 ∷ bs) rest

-- zeros are passed
pub padding_passes : (bits rest : List ℕ)
    → bits ≡ replicate (length bits % 8) 0 ++ rest
    → padding_at bits ≡ Ok rest
padding_passes bits rest e =
    let count : ℕ = length bits % 8 in
    let zeros : List ℕ = replicate count 0 in
    let size : length zeros ≡ count = length-replicate count 0 in
    let front : take count bits ≡ zeros =
    ap (λ (n : ℕ). take n bits) (sym size) ∙ ap (take (length zeros)) e ∙ take-append_seam zeros rest in
    let behind : drop count bits ≡ rest =
    ap (λ (n : ℕ). drop n bits) (sym size) ∙ ap (drop (length zeros)) e ∙ drop-append_seam zeros rest in
    rw (front, replicate_zeros count, behind) refl

-- other bits are not
pub padding_refused : (bits : List ℕ)
    → take (length bits % 8) bits ≢ replicate (length bits % 8) 0
    → padding_at bits ≡ Err (Field (length bits))
padding_refused bits other = by (list_all is_zero (take count bits)) refl
  where
    count : ℕ
    count = length bits % 8

    by : (zeros : Bool)
        → list_all is_zero (take count bits) ≡ zeros
        → cond zeros (Ok (drop count bits)) (refused bits) ≡ Err (Field (length bits))
    by true e =
        let size : length (take count bits) ≡ count = omega (arith, length-take count bits) in
        absurd (other (zeros_replicate (take count bits) e ∙ ap (λ (n : ℕ). replicate n 0) size))
    by false e = refl
