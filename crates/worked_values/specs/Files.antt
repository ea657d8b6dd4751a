-- The files of the image of y = x@1 + 3, in both versions.
use Rattle.std.specs.Prelude.{◌≡◌, ℕ, ◌*◌, List, [], ◌∷◌, ◌++◌, replicate}
use Rattle.micro_image.specs.Spells.{SpellsIn, Spells, begun}
use Rattle.micro_image.specs.declared.image.Image.{Image}
use Rattle.micro_image.specs.declared.version.Version.TheVariants.{One, Two}
use Rattle.worked_values.specs.Machine.{echo}

-- a number in eight bytes, a register file of so many zeros, an operation without a format
abbrev pub eight : ℕ → List ℕ
eight n = replicate 7 0 ++ n ∷ []

abbrev pub zero_file : ℕ → List ℕ
zero_file size = 0 ∷ size ∷ replicate (8 * size) 0

abbrev pub unformatted : (unit opcode argument : ℕ) → List ℕ
unformatted unit opcode argument = unit ∷ opcode ∷ 0 ∷ 0 ∷ 0 ∷ eight argument

-- period 6, unroll 1, one input of 8 bits, one output, six units: in; acu of unit 2; ram of latency 2 with its cells;
-- rom; alu; out; and two buses
abbrev pub hardware_bytes : List ℕ
hardware_bytes =
    (0 ∷ 6 ∷ 1 ∷ 1 ∷ 8 ∷ 1 ∷ 6 ∷ [])
    ++ (0 ∷ 1 ∷ 1 ∷ [])
    ++ (7 ∷ 1 ∷ 1 ∷ 2 ∷ [])
    ++ (6 ∷ 2 ∷ 1 ∷ []) ++ zero_file 2 ++ zero_file 1 ++ (0 ∷ 0 ∷ 0 ∷ 2 ∷ []) ++ eight 50 ++ eight 60
    ++ (2 ∷ 1 ∷ 1 ∷ [])
    ++ (3 ∷ 1 ∷ 1 ∷ []) ++ zero_file 1 ++ zero_file 1
    ++ (1 ∷ 1 ∷ 1 ∷ []) ++ zero_file 1
    ++ (2 ∷ [])

-- word by word the issues, then the enables, each a unit and a bus, then the takes, each a unit, a port, a bus and a
-- register, all after how many they are
abbrev pub words_bytes : List ℕ
words_bytes =
    (2 ∷ []) ++ unformatted 0 0 0 ++ unformatted 1 18 0 ++ (0 ∷ 2 ∷ 0 ∷ 0 ∷ 1 ∷ 1 ∷ [])
    ++ (0 ∷ 2 ∷ 2 ∷ 0 ∷ 1 ∷ 0 ∷ 2 ∷ 1 ∷ 0 ∷ 0 ∷ [])
    ++ (3 ∷ []) ++ unformatted 1 18 1 ++ unformatted 2 17 0 ++ (0 ∷ 0 ∷ []) ++ unformatted 3 2 3
    ++ (0 ∷ 2 ∷ 1 ∷ 1 ∷ 3 ∷ 0 ∷ []) ++ (0 ∷ 2 ∷ 2 ∷ 0 ∷ 1 ∷ 1 ∷ 4 ∷ 1 ∷ 0 ∷ 0 ∷ [])
    ++ (1 ∷ []) ++ unformatted 2 16 0 ++ (1 ∷ 0 ∷ []) ++ (0 ∷ 0 ∷ []) ++ (0 ∷ 0 ∷ [])
    ++ (0 ∷ []) ++ (0 ∷ 1 ∷ 2 ∷ 0 ∷ []) ++ (0 ∷ 1 ∷ 4 ∷ 0 ∷ 0 ∷ 0 ∷ [])
    -- the sum is formatted: shift 0, mode 0, width 8
    ++ (1 ∷ 4 ∷ 3 ∷ 0 ∷ 0 ∷ 8 ∷ []) ++ eight 0 ++ (0 ∷ 0 ∷ []) ++ (0 ∷ 1 ∷ 4 ∷ 0 ∷ []) ++ (0 ∷ 1 ∷ 5 ∷ 0 ∷ 0 ∷ 0 ∷ [])
    ++ (1 ∷ []) ++ unformatted 5 1 0 ++ (0 ∷ []) ++ (0 ∷ 0 ∷ []) ++ (0 ∷ 0 ∷ [])

abbrev pub file_in_bytes : List ℕ
file_in_bytes = begun 1 (hardware_bytes ++ words_bytes)

-- The same fields in 610 bits and six zeros: 000000000101 is a period of 6, 00 an unroll of 1, 0000 one input word,
-- 001000 its width, 0000 one output word, 00101 six units; 000 000 000 is an input of latency and gap 1, 111 000 000
-- 00010 the acu of unit 2, and so on.
abbrev pub packed : List ℕ
packed =
    0x00 ∷ 0x50 ∷ 0x08 ∷ 0x02 ∷ 0x80 ∷ 0x38 ∷ 0x02 ∷ 0xc4 ∷ 0x00 ∷ 0x80 ∷ 0x00 ∷ 0x00 ∷ 0x30 ∷ 0x00 ∷ 0x00 ∷ 0x00
    ∷ 0x03 ∷ 0x20 ∷ 0x00 ∷ 0x00 ∷ 0x00 ∷ 0x03 ∷ 0xc4 ∷ 0x03 ∷ 0x00 ∷ 0x00 ∷ 0x00 ∷ 0x20 ∷ 0x00 ∷ 0x03 ∷ 0x08 ∷ 0x00
    ∷ 0x00 ∷ 0x48 ∷ 0x04 ∷ 0x20 ∷ 0x08 ∷ 0x00 ∷ 0x01 ∷ 0x00 ∷ 0x01 ∷ 0xc0 ∷ 0x00 ∷ 0x20 ∷ 0x00 ∷ 0x00 ∷ 0x00 ∷ 0x00
    ∷ 0x60 ∷ 0x90 ∷ 0x42 ∷ 0x02 ∷ 0x20 ∷ 0x00 ∷ 0x08 ∷ 0x04 ∷ 0x00 ∷ 0x00 ∷ 0x00 ∷ 0x08 ∷ 0x02 ∷ 0x00 ∷ 0x00 ∷ 0x10
    ∷ 0x50 ∷ 0x0e ∷ 0x00 ∷ 0x00 ∷ 0x00 ∷ 0x80 ∷ 0x80 ∷ 0x00 ∷ 0x08 ∷ 0x00 ∷ 0x00 ∷ 0x00 ∷ 0x00 ∷ []

abbrev pub file_in_bits : List ℕ
file_in_bits = begun 2 packed

abbrev pub BytesSpellTheImage : Type 0
BytesSpellTheImage = SpellsIn One file_in_bytes echo

abbrev pub BitsSpellTheImage : Type 0
BitsSpellTheImage = SpellsIn Two file_in_bits echo

-- neither file is one of the other version, and nothing may follow
abbrev pub OthersDoNotSpellTheImage : Type 0
OthersDoNotSpellTheImage =
    (SpellsIn Two file_in_bytes echo → ⊥) × (SpellsIn One file_in_bits echo → ⊥)
    × (SpellsIn One (file_in_bytes ++ 0 ∷ []) echo → ⊥)

-- in whichever version
abbrev pub OnlyTheImageIsSpelled : Type 0
OnlyTheImageIsSpelled = (other : Image) → Spells file_in_bits other → other ≡ echo
