-- An image is read in two steps: all but its words, then its words.
use Rattle.std.proofs.Common.{◌≡◌, ℕ, ◌*◌, List, [], Result, Ok, refl}
use Rattle.micro_image.specs.declared.image.Image.{Image}
use Rattle.micro_image.specs.declared.image.Word.{Word}
use Rattle.micro_file.specs.declared.misread.Misread.{Misread}
use Rattle.micro_file.specs.declared.misread.Unread.{Unread}
use Rattle.micro_file.specs.Private.Bits.{at_bits}
use Rattle.micro_file.specs.Private.Bytes.{at_bytes}
use Rattle.micro_file.specs.Private.Fields.{Reading, many_at}
use Rattle.micro_file.specs.Private.File.{ended, byte_image_at, padding_at, bit_image_at}
use Rattle.micro_file.specs.Private.FormAt.{FormAt}
use Rattle.micro_file.specs.Private.Hardware.{hardware_at, image_at}
use Rattle.micro_file.specs.Private.PackedWords.{packed_word_at}
use Rattle.micro_file.specs.Private.Reads.{Fails}
use Rattle.micro_file.specs.Private.Words.{word_at}
use Rattle.micro_file.proofs.Many.{fails_then}

abbrev with_words : Image → List Word × List ℕ → Reading Image
with_words hardware words = Ok (record hardware { words = words.0 }, words.1)

module _ (form : FormAt) (one_word : Image → List ℕ → Reading Word) (left : List ℕ) where
  -- without the hardware there is no image
  pub hardware_fails : (e : Unread) → Fails e (hardware_at form left) → Fails e (image_at form one_word left)
  unfolding image_at
  hardware_fails e fails = fails_then e (hardware_at form left) _ fails

  module _ (hardware : Image × List ℕ) (read : hardware_at form left ≡ Ok hardware) where
    -- as many words as the hardware says
    abbrev pub words_left : Reading (List Word)
    words_left = many_at (λ _. one_word hardware.0) [] (hardware.0.period * hardware.0.unroll) hardware.1

    -- nor without the words
    pub words_fail : (e : Unread) → Fails e words_left → Fails e (image_at form one_word left)
    unfolding image_at
    words_fail e fails = rw read (fails_then e words_left (with_words hardware.0) fails)

    pub image_read : (words : List Word) (after : List ℕ)
        → words_left ≡ Ok (words, after)
        → image_at form one_word left ≡ Ok (record hardware.0 { words = words }, after)
    unfolding image_at
    image_read words after found = rw (read, found) refl

-- ---- version 1

pub bytes_fail : (e : Unread) (bytes : List ℕ)
    → Fails e (image_at at_bytes word_at bytes)
    → Fails e (byte_image_at bytes)
unfolding byte_image_at
bytes_fail e bytes fails = fails_then e (image_at at_bytes word_at bytes) ended fails

pub bytes_end : (bytes : List ℕ) (x : Image × List ℕ)
    → image_at at_bytes word_at bytes ≡ Ok x
    → byte_image_at bytes ≡ ended x
unfolding byte_image_at
bytes_end bytes x read = rw read refl

-- ---- version 2

pub bits_fail : (e : Unread) (bits : List ℕ)
    → Fails e (image_at at_bits packed_word_at bits)
    → Fails e (bit_image_at bits)
unfolding bit_image_at
bits_fail e bits fails = fails_then e (image_at at_bits packed_word_at bits) _ fails

module _ (bits : List ℕ) (x : Image × List ℕ) (read : image_at at_bits packed_word_at bits ≡ Ok x) where
  abbrev ended_behind : List ℕ → Result Image Misread
  ended_behind rest = ended (x.0, rest)

  pub padding_fails : (e : Unread) → Fails e (padding_at x.1) → Fails e (bit_image_at bits)
  unfolding bit_image_at
  padding_fails e fails = rw read (fails_then e (padding_at x.1) ended_behind fails)

  pub bits_end : (rest : List ℕ) → padding_at x.1 ≡ Ok rest → bit_image_at bits ≡ ended (x.0, rest)
  unfolding bit_image_at
  bits_end rest padded = rw (read, padded) refl
