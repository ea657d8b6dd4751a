-- A file of either version is misread at a place in it.
use Rattle.std.proofs.Common.{◌≡◌, ℕ, ◌*◌, ◌%◌, ◌≤◌, Bool, true, false, cond, eqb, List, length, take, drop}
use Rattle.std.proofs.Common.{Result, Ok, Err, subst, arith}
use Rattle.std.specs.List.{list_all}
use Rattle.std.proofs.lemmas.List.{length-drop}
use Rattle.micro_image.proofs.Length.{length-bits_of}
use Rattle.micro_image.specs.declared.image.Image.{Image}
use Rattle.micro_image.specs.declared.version.Version.{Version}
use Rattle.micro_image.specs.declared.version.Version.TheVariants.{One, Two}
use Rattle.micro_image.specs.Spells.{bits_of}
use Rattle.micro_file.specs.declared.misread.Misread.{Misread}
use Rattle.micro_file.specs.declared.misread.Misread.TheVariants as misread
use Rattle.micro_file.specs.Private.Fields.{Reading, ◌>>=◌, refused}
use Rattle.micro_file.specs.Private.Bits.{at_bits}
use Rattle.micro_file.specs.Private.Bytes.{at_bytes, byte_at, only_byte}
use Rattle.micro_file.specs.Private.Hardware.{image_at}
use Rattle.micro_file.specs.Private.Words.{word_at}
use Rattle.micro_file.specs.Private.PackedWords.{packed_word_at}
use Rattle.micro_file.specs.Private.File.{numbered, head_at, ended, byte_image_at, padding_at, bit_image_at}
use Rattle.micro_file.specs.Private.File.{byte_placed}
use Rattle.micro_file.specs.Private.File.{image_behind, whole_at}
use Rattle.micro_file.specs.Private.Places.{IsIn}
use Rattle.micro_file.proofs.Inside.{IsInside, next, behind}
use Rattle.micro_file.proofs.InsideBytes.{inside_bytes, byte_in}
use Rattle.micro_file.proofs.InsideBits.{inside_bits}
use Rattle.micro_file.proofs.InsideUnits.{StopsIn, stops_more, image_in}
use Rattle.micro_file.proofs.InsideWords.{word_in}
use Rattle.micro_file.proofs.InsidePackedWords.{packed_word_in}

-- a byte of the head has no place of its own
abbrev HasNoPlace : Misread → Type 0
HasNoPlace misread = (size : ℕ) → IsIn size misread

only_in : (misread : Misread) (only : ℕ) (bytes : List ℕ)
    → HasNoPlace misread
    → IsInside (length bytes) (only_byte misread only bytes)
only_in misread only bytes free =
    next (length bytes) (byte_at bytes) (λ b. cond (eqb b.0 only) (Ok b) (Err misread)) (byte_in bytes)
    (λ b le. by b le (eqb b.0 only))
  where
    by : (b : ℕ × List ℕ)
        → length b.1 ≤ length bytes
        → (same : Bool)
        → IsInside (length bytes) (cond same (Ok b) (Err misread))
    by b le true = le
    by b le false = free (length bytes)

numbered_in : (n : ℕ × List ℕ) → IsInside (length n.1) (numbered n)
numbered_in n = by (eqb n.0 1) (eqb n.0 2)
  where
    by : (one two : Bool)
        → IsInside (length n.1) (cond one (Ok (One, n.1)) (cond two (Ok (Two, n.1)) (Err misread.Version)))
    by true two = omega arith
    by false true = omega arith
    by false false = tt

pub head_in : (bytes : List ℕ) → IsInside (length bytes) (head_at bytes)
unfolding head_at
head_in bytes =
    let magic : HasNoPlace misread.Magic = λ _. tt in
    behind (length bytes) (only_byte misread.Magic 83 bytes) _ (only_in misread.Magic 83 bytes magic) (λ s.
    behind (length s.1) (only_byte misread.Magic 73 s.1) _ (only_in misread.Magic 73 s.1 magic) (λ i.
    behind (length i.1) (only_byte misread.Magic 76 i.1) _ (only_in misread.Magic 76 i.1 magic) (λ l.
    behind (length l.1) (only_byte misread.Magic 77 l.1) _ (only_in misread.Magic 77 l.1 magic) (λ m.
    behind (length m.1) (byte_at m.1) _ (byte_in m.1) numbered_in))))

-- what is misread next, of what was read
stops_behind : {A B : Type 0} (size : ℕ) (r : Reading A) (f : A × List ℕ → Result B Misread)
    → IsInside size r
    → ((x : A × List ℕ) → StopsIn (length x.1) (f x))
    → StopsIn size (r >>= f)
stops_behind size (Ok x) f h g = stops_more (length x.1) size (f x) h (g x)
stops_behind size (Err misread) f h g = h

ended_in : {A : Type 0} (x : A × List ℕ) → StopsIn (length x.1) (ended x)
ended_in {A} x = by (eqb (length x.1) 0)
  where
    by : (none : Bool) → StopsIn {A = A} (length x.1) (cond none (Ok x.0) (Err (misread.Trailing (length x.1))))
    by true = tt
    by false = omega arith

byte_image_in : (bytes : List ℕ) → StopsIn (length bytes) (byte_image_at bytes)
unfolding byte_image_at
byte_image_in bytes =
    stops_behind (length bytes) (image_at at_bytes word_at bytes) ended (image_in inside_bytes word_at word_in bytes)
    ended_in

-- behind the padding as well
padded_in : (image : Image) (bits : List ℕ) → StopsIn (length bits) (padding_at bits >>= λ rest. ended (image, rest))
padded_in image bits = by (list_all (λ bit. eqb bit 0) (take (length bits % 8) bits))
  where
    by : (zeros : Bool)
        → StopsIn (length bits)
        (cond zeros (Ok (drop (length bits % 8) bits)) (refused bits) >>= λ rest. ended (image, rest))
    by true =
        let rest : List ℕ = drop (length bits % 8) bits in
        stops_more (length rest) (length bits) (ended (image, rest)) (omega (arith, length-drop (length bits % 8) bits))
        (ended_in (image, rest))
    by false = omega arith

bit_image_in : (bits : List ℕ) → StopsIn (length bits) (bit_image_at bits)
unfolding bit_image_at
bit_image_in bits =
    stops_behind (length bits) (image_at at_bits packed_word_at bits) _
    (image_in inside_bits packed_word_at packed_word_in bits) (λ image. padded_in image.0 image.1)

-- a place in the bits of so many bytes is in a byte of them
placed_in : {A : Type 0} (size : ℕ) (r : Result A Misread) → StopsIn (8 * size) r → StopsIn size (byte_placed r)
placed_in size (Ok x) h = tt
placed_in size (Err misread.Magic) h = tt
placed_in size (Err misread.Version) h = tt
placed_in size (Err misread.Short) h = tt
placed_in size (Err (misread.Field left)) h = omega (arith, h)
placed_in size (Err (misread.Trailing left)) h = omega (arith, h)

image_behind_in : (v : Version × List ℕ) → StopsIn (length v.1) (image_behind v)
image_behind_in (One, rest) = byte_image_in rest
image_behind_in (Two, rest) =
    placed_in (length rest) (bit_image_at (bits_of rest))
    (subst (λ (size : ℕ). StopsIn size (bit_image_at (bits_of rest))) (length-bits_of rest)
    (bit_image_in (bits_of rest)))

whole_in : (bytes : List ℕ) → StopsIn (length bytes) (whole_at bytes)
unfolding whole_at
whole_in bytes = stops_behind (length bytes) (head_at bytes) image_behind (head_in bytes) image_behind_in

-- what is misread in a file has a place in it
pub stops_inside : (bytes : List ℕ) (misread : Misread) → whole_at bytes ≡ Err misread → IsIn (length bytes) misread
stops_inside bytes misread e = subst (StopsIn {A = Image} (length bytes)) e (whole_in bytes)
