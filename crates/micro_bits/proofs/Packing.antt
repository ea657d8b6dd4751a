-- Bytes are known by their bits.
use Rattle.std.proofs.Common.{◌≡◌, ℕ, zero, suc, ◌+◌, ◌*◌, ◌^◌, ◌<◌, List, [], ◌∷◌, ◌++◌, length, take, drop, replicate}
use Rattle.std.proofs.Common.{refl, sym, ap, ◌∙◌, append_assoc, arith}
use Rattle.std.proofs.Math.Nat.{mod-eq_of_lt}
use Rattle.std.proofs.lemmas.List.{take_at, drop_at, length-append, length-replicate}
use Rattle.std.proofs.lemmas.List.Concat.{flat_map-cons}
use Rattle.micro_image.specs.declared.image.Image.{Image}
use Rattle.micro_image.specs.Bits.{bits, image_bits}
use Rattle.micro_image.specs.Spells.{AreBytes, bits_of, begun, Holds, IsPacked, SpellsIn}
use Rattle.micro_image.specs.declared.version.Version.TheVariants.{Two}
use Rattle.micro_image.specs.Valid.{IsValid}
use Rattle.micro_image.proofs.Length.{length-bits, length-bits_of}
use Rattle.micro_bits.specs.Numbers.{number_of}
use Rattle.micro_bits.specs.Private.Writes.{Padded}
use Rattle.micro_bits.proofs.Bits.{number_bits}

first_is : (b : ℕ) (bytes : List ℕ) → AreBytes (b ∷ bytes) → b < 2 ^ 8
first_is b bytes are = are 0 0 (omega arith)

others_are : (b : ℕ) (bytes : List ℕ) → AreBytes (b ∷ bytes) → AreBytes bytes
others_are b bytes are k d lt = are (suc k) d (omega (arith, lt))

-- the first byte's bits, and those of the others
bits_front : (b : ℕ) (bytes more : List ℕ) → bits_of (b ∷ bytes) ++ more ≡ bits 8 b ++ (bits_of bytes ++ more)
bits_front b bytes more =
    ap (λ (t : List ℕ). t ++ more) (flat_map-cons (bits 8) b bytes) ∙ append_assoc (bits 8 b) (bits_of bytes) more

same_first : (b c : ℕ) (xs ys : List ℕ)
    → b < 2 ^ 8
    → c < 2 ^ 8
    → bits 8 b ++ xs ≡ bits 8 c ++ ys
    → (b ≡ c) × (xs ≡ ys)
same_first b c xs ys lb lc e =
    let front : bits 8 b ≡ bits 8 c =
    sym (take_at (bits 8 b) xs 8 (length-bits 8 b)) ∙ ap (take 8) e ∙ take_at (bits 8 c) ys 8 (length-bits 8 c) in
    let rest : xs ≡ ys =
    sym (drop_at (bits 8 b) xs 8 (length-bits 8 b)) ∙ ap (drop 8) e ∙ drop_at (bits 8 c) ys 8 (length-bits 8 c) in
    let number : b ≡ c =
    sym (number_bits 8 b ∙ mod-eq_of_lt lb) ∙ ap number_of front ∙ number_bits 8 c ∙ mod-eq_of_lt lc in
    (number, rest)

-- bytes begin with those whose bits theirs begin with
pub bytes_begin : (head bytes more : List ℕ)
    → AreBytes head
    → AreBytes bytes
    → bits_of bytes ≡ bits_of head ++ more
    → (rest : List ℕ) × (bytes ≡ head ++ rest) × (bits_of rest ≡ more) × AreBytes rest
bytes_begin [] bytes more head_are are e = (bytes, refl, e, are)
bytes_begin (h ∷ head) [] more head_are are e =
    absurd (omega (
      arith,
      ap length e,
      length-append (bits_of (h ∷ head)) more,
      length-bits_of (h ∷ head),
    ))
bytes_begin (h ∷ head) (b ∷ bytes) more head_are are e =
    let s =
    same_first b h (bits_of bytes) (bits_of head ++ more) (first_is b bytes are) (first_is h head head_are)
    (sym (flat_map-cons (bits 8) b bytes) ∙ e ∙ bits_front h head more) in
    let r = bytes_begin head bytes more (others_are h head head_are) (others_are b bytes are) s.1 in (
      r.0,
      ap (λ (t : List ℕ). b ∷ t) r.1 ∙ ap (λ (x : ℕ). x ∷ (head ++ r.0)) s.0,
      r.2,
      r.3,
    )

same_bytes : (xs ys : List ℕ) → AreBytes xs → AreBytes ys → bits_of xs ≡ bits_of ys → xs ≡ ys
same_bytes [] [] ax ay e = refl
same_bytes [] (y ∷ ys) ax ay e = absurd (omega (arith, ap length e, length-bits_of (y ∷ ys)))
same_bytes (x ∷ xs) [] ax ay e = absurd (omega (arith, ap length e, length-bits_of (x ∷ xs)))
same_bytes (x ∷ xs) (y ∷ ys) ax ay e =
    let s =
    same_first x y (bits_of xs) (bits_of ys) (first_is x xs ax) (first_is y ys ay)
    (sym (flat_map-cons (bits 8) x xs) ∙ e ∙ flat_map-cons (bits 8) y ys) in
    ap (λ (t : List ℕ). x ∷ t) (same_bytes xs ys (others_are x xs ax) (others_are y ys ay) s.1)
    ∙ ap (λ (b : ℕ). b ∷ ys) s.0

-- the same bits fill the same bytes
same_held : (xs ys spelled : List ℕ) → Holds xs spelled → Holds ys spelled → xs ≡ ys
same_held xs ys spelled h g =
    let size : 8 * length xs ≡ length spelled + h.zeros =
    sym (length-bits_of xs) ∙ ap length h.packed ∙ length-append spelled (replicate h.zeros 0)
    ∙ ap (λ (n : ℕ). length spelled + n) (length-replicate {A = ℕ} h.zeros 0) in
    let other : 8 * length ys ≡ length spelled + g.zeros =
    sym (length-bits_of ys) ∙ ap length g.packed ∙ length-append spelled (replicate g.zeros 0)
    ∙ ap (λ (n : ℕ). length spelled + n) (length-replicate {A = ℕ} g.zeros 0) in
    let zeros : h.zeros ≡ g.zeros = omega (arith, size, other, h.fewer, g.fewer) in
    same_bytes xs ys h.are_bytes g.are_bytes
    (h.packed ∙ ap (λ (n : ℕ). spelled ++ replicate n 0) zeros ∙ sym g.packed)

-- an image has one file
pub one_packing : (a b : List ℕ) (image : Image) → IsPacked a image → IsPacked b image → a ≡ b
one_packing a b image h g =
    h.begins ∙ ap (begun 2) (same_held h.rest g.rest (image_bits image) h.holds g.holds) ∙ sym g.begins

head_bytes : AreBytes (begun 2 [])
head_bytes zero d lt = omega arith
head_bytes (suc zero) d lt = omega arith
head_bytes (suc (suc zero)) d lt = omega arith
head_bytes (suc (suc (suc zero))) d lt = omega arith
head_bytes (suc (suc (suc (suc zero)))) d lt = omega arith
head_bytes (suc (suc (suc (suc (suc n))))) d lt = absurd (omega (arith, lt))

-- what a writer of bits puts behind the magic bytes and the version
pub written_spells : (bytes : List ℕ) (image : Image)
    → IsValid image
    → AreBytes bytes
    → Padded (bits_of (begun 2 []) ++ image_bits image) bytes
    → SpellsIn Two bytes image
written_spells bytes image valid are (zeros, fewer, packed) =
    let b =
    bytes_begin (begun 2 []) bytes (image_bits image ++ replicate zeros 0) head_bytes are
    (packed ∙ append_assoc (bits_of (begun 2 [])) (image_bits image) (replicate zeros 0)) in
    record {
      valid = valid;
      spelled = record {
        rest = b.0;
        begins = b.1;
        holds = record { are_bytes = b.3; zeros = zeros; fewer = fewer; packed = b.2 };
      };
    }
