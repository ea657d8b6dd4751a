-- The image of y = x + 1 is valid, and its file is these 328 bytes.
use Rattle.std.proofs.Common.{◌≡◌, ◌*◌, refl, ℕ, List, [], ◌∷◌, ◌++◌, length, replicate, take, drop}
use Rattle.micro_image.specs.Bytes.{two_bytes, four_bytes, eight_bytes, format_bytes, issue_bytes, enable_bytes}
use Rattle.micro_image.specs.Bytes.{take_bytes, word_bytes, image_bytes}
use Rattle.micro_image.specs.Form.{spelled_file, spelled_memory, spelled_unit, spelled_operation, spelled_hardware}
use Rattle.micro_image.specs.Spells.{begun}
use Rattle.micro_image.specs.declared.image.Image.{Image}
use Rattle.micro_image.specs.Fields.{no_word}
use Rattle.micro_image.proofs.Increment.{increment, image_of, fetch, one, sum_driven_by, put, drive}

-- magic, version, period 16, unroll 1, one input of width 8, one output, four units
abbrev head : List ℕ
head = 0x53 ∷ 0x49 ∷ 0x4c ∷ 0x4d ∷ 1 ∷ 0 ∷ 16 ∷ 1 ∷ 1 ∷ 8 ∷ 1 ∷ 4 ∷ []

-- a file of so many registers that start at 0
abbrev zero_file : ℕ → List ℕ
zero_file size = 0 ∷ size ∷ replicate (8 * size) 0

-- kind, latency 1, gap 1: an input, a rom, an alu with two files of 8, an output with one of 2; then one bus
abbrev hardware : List ℕ
hardware =
    (0 ∷ 1 ∷ 1 ∷ []) ++ (2 ∷ 1 ∷ 1 ∷ []) ++ (3 ∷ 1 ∷ 1 ∷ zero_file 8 ++ zero_file 8) ++ (1 ∷ 1 ∷ 1 ∷ zero_file 2)
    ++ (1 ∷ [])

-- one issue: unit 0, operation 0, no format, argument 0; one enable: 0, 0; one take: 2, 0, 0, 0
abbrev fetch_bytes : List ℕ
fetch_bytes = (1 ∷ 0 ∷ 0 ∷ 0 ∷ 0 ∷ 0 ∷ replicate 8 0) ++ (0 ∷ 1 ∷ 0 ∷ 0 ∷ []) ++ (0 ∷ 1 ∷ 2 ∷ 0 ∷ 0 ∷ 0 ∷ [])

-- unit 1, operation 2, argument 1; 1, 0; 2, 1, 0, 0
abbrev one_bytes : List ℕ
one_bytes = (1 ∷ 1 ∷ 2 ∷ 0 ∷ 0 ∷ 0 ∷ replicate 7 0 ++ 1 ∷ []) ++ (0 ∷ 1 ∷ 1 ∷ 0 ∷ []) ++ (0 ∷ 1 ∷ 2 ∷ 1 ∷ 0 ∷ 0 ∷ [])

-- unit 2, operation 3, width 8, registers 0 and 0
abbrev sum_issue : List ℕ
sum_issue = 1 ∷ 2 ∷ 3 ∷ 0 ∷ 0 ∷ 8 ∷ replicate 8 0 ++ 0 ∷ 0 ∷ []

-- 3, 0, 0, 0
abbrev sum_take : List ℕ
sum_take = 0 ∷ 1 ∷ 3 ∷ 0 ∷ 0 ∷ 0 ∷ []

-- unit 3, operation 1, register 0; no enable, no take
abbrev put_bytes : List ℕ
put_bytes = (1 ∷ 3 ∷ 1 ∷ 0 ∷ 0 ∷ 0 ∷ replicate 8 0 ++ 0 ∷ []) ++ (0 ∷ 0 ∷ []) ++ (0 ∷ 0 ∷ [])

-- twelve words of no issue, no enable, no take
abbrev empty_words : List ℕ
empty_words = replicate (12 * 5) 0

-- the file of the image
abbrev pub increment_bytes : List ℕ
increment_bytes =
    head ++ hardware ++ fetch_bytes ++ one_bytes ++ sum_issue ++ (0 ∷ 1 ∷ 2 ∷ 0 ∷ []) ++ sum_take ++ put_bytes
    ++ empty_words

-- it is what the image is spelled as
pub increment-spelling : begun 1 (image_bytes increment) ≡ increment_bytes
unfolding image_bytes two_bytes four_bytes eight_bytes spelled_file spelled_memory spelled_unit spelled_operation
    spelled_hardware format_bytes issue_bytes enable_bytes take_bytes word_bytes
increment-spelling = refl

-- it has 328 bytes
pub increment-size : length increment_bytes ≡ 328
increment-size = refl

-- with two units that drive the bus in cycle 2
abbrev pub two_drivers : Image
two_drivers = image_of (fetch ∷ one ∷ sum_driven_by (drive 1 ∷ drive 2 ∷ []) ∷ put ∷ replicate 12 no_word)

-- its file has six bytes in the place of four
pub two_drivers-spelling : begun 1 (image_bytes two_drivers)
    ≡ take 239 increment_bytes ++ (0 ∷ 2 ∷ 1 ∷ 0 ∷ 2 ∷ 0 ∷ []) ++ drop 243 increment_bytes
unfolding image_bytes two_bytes four_bytes eight_bytes spelled_file spelled_memory spelled_unit spelled_operation
    spelled_hardware format_bytes issue_bytes enable_bytes take_bytes word_bytes
two_drivers-spelling = refl
