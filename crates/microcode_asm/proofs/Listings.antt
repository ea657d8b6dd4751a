-- The listings of three worked images, which the prover computes.
use Rattle.std.proofs.Common.{◌≡◌, refl, ℕ, List, [], ◌∷◌, ◌++◌, codes}
use Rattle.std.specs.Prelude.{ℤ, pos, negsuc, replicate}
use Rattle.std.specs.Fmt.{digits}
use Rattle.fix_word.specs.declared.operation.Op.{Op}
use Rattle.fix_word.specs.declared.operation.Op.TheVariants as op
use Rattle.fix_word.specs.declared.types.Format.{Format}
use Rattle.fix_word.specs.declared.types.Mode.TheVariants.{Trunc, Round, Sat, RoundSat}
use Rattle.operations.specs.Operations.{plain}
use Rattle.operations.specs.declared.units.Kind.{Kind}
use Rattle.operations.specs.declared.units.Kind.TheVariants as kind
use Rattle.micro_image.specs.Fields.{no_word}
use Rattle.micro_image.specs.declared.image.Enable.{Enable}
use Rattle.micro_image.specs.declared.image.Image.{Image}
use Rattle.micro_image.specs.declared.image.Issue.{Issue}
use Rattle.micro_image.specs.declared.image.Take.{Take}
use Rattle.micro_image.specs.declared.image.UnitDesc.{UnitDesc}
use Rattle.micro_image.specs.declared.image.Word.{Word}
use Rattle.microcode_asm.specs.Listing.{listing_text, head_line, word_lines, issue_line, enable_line, take_line}

abbrev file : (size : ℕ) → List ℤ
file size = replicate size (pos 0)

abbrev unit : Kind → (files : List (List ℤ)) → UnitDesc
unit unit_kind files =
    record { kind = unit_kind; latency = 1; gap = 1; files = files; cells = []; ram = 0 }

-- an input, a rom, an alu and an output
abbrev units : List UnitDesc
units =
    unit kind.Input []
    ∷ unit kind.Rom []
    ∷ unit kind.Alu (file 8 ∷ file 16 ∷ [])
    ∷ unit kind.Output (file 2 ∷ [])
    ∷ []

abbrev issue : (unit : ℕ) → Op → Format → (arg : ℤ) → (regs : List ℕ) → Issue
issue unit o fmt arg regs = record { unit = unit; op = o; fmt = fmt; arg = arg; regs = regs }

abbrev drive : (unit bus : ℕ) → Enable
drive unit bus = record { unit = unit; bus = bus }

abbrev take : (unit port bus reg : ℕ) → Take
take unit port bus reg = record { port = record { unit = unit; port = port }; bus = bus; reg = reg }

abbrev word : List Issue → List Enable → List Take → Word
word issues enables takes = record { issues = issues; enables = enables; takes = takes }

abbrev image : (period unroll buses : ℕ) → List Word → Image
image period unroll buses words =
    record { period = period; unroll = unroll; inputs = 8 ∷ []; outs = 1; units = units; buses = buses; words = words }

-- y = x + 1
abbrev increment_image : Image
increment_image =
    image 16 1 1
    (word (issue 0 op.Input (plain 0) (pos 0) [] ∷ []) (drive 0 0 ∷ []) (take 2 0 0 0 ∷ [])
    ∷ word (issue 1 op.Const (plain 0) (pos 1) [] ∷ []) (drive 1 0 ∷ []) (take 2 1 0 0 ∷ [])
    ∷ word (issue 2 op.Add (plain 8) (pos 0) (0 ∷ 0 ∷ []) ∷ []) (drive 2 0 ∷ []) (take 3 0 0 0 ∷ [])
    ∷ word (issue 3 op.Output (plain 0) (pos 0) (0 ∷ []) ∷ []) [] []
    ∷ replicate 12 no_word)

increment_listing : listing_text increment_image
    ≡ codes "period 16 unroll 1 inputs 1 outputs 1 units 4 buses 1\n"
    ++ codes "word 0\nissue 0 input 0\ndrive 0 0\ntake 2.0 bus 0 reg 0\n"
    ++ codes "word 1\nissue 1 const 1\ndrive 1 0\ntake 2.1 bus 0 reg 0\n"
    ++ codes "word 2\nissue 2 add fmt 0 trunc 8 regs 0 0\ndrive 2 0\ntake 3.0 bus 0 reg 0\n"
    ++ codes "word 3\nissue 3 output 0 regs 0\n"
unfolding digits listing_text head_line word_lines issue_line enable_line take_line
increment_listing = refl

-- Two issues in one word, numbers below 0, a rounded result; an empty word between others; takes without an issue.
abbrev sparse_image : Image
sparse_image =
    image 2 2 2
    (word
    (issue 1 op.Const (plain 0) (negsuc 4) []
    ∷ issue 2 op.Sub (record { shift = negsuc 2; mode = Round; width = 12 }) (pos 0) (7 ∷ 15 ∷ [])
    ∷ [])
    [] []
    ∷ no_word
    ∷ word [] [] (take 2 1 1 15 ∷ take 3 0 1 1 ∷ [])
    ∷ word [] (drive 0 0 ∷ drive 0 1 ∷ []) []
    ∷ [])

sparse_listing : listing_text sparse_image
    ≡ codes "period 2 unroll 2 inputs 1 outputs 1 units 4 buses 2\n"
    ++ codes "word 0\nissue 1 const -5\nissue 2 sub fmt -3 round 12 regs 7 15\n"
    ++ codes "word 2\ntake 2.1 bus 1 reg 15\ntake 3.0 bus 1 reg 1\n" ++ codes "word 3\ndrive 0 0\ndrive 0 1\n"
unfolding digits listing_text head_line word_lines issue_line enable_line take_line
sparse_listing = refl

-- The four modes, with the least and the greatest shift and width, and the ends of the range of constants.
abbrev modes_image : Image
modes_image =
    image 4 1 1
    (word
    (issue 1 op.Const (plain 0) (negsuc 549755813887) []
    ∷ issue 2 op.Pass (record { shift = negsuc 39; mode = Trunc; width = 40 }) (pos 0) (0 ∷ 0 ∷ [])
    ∷ [])
    [] []
    ∷ word
    (issue 1 op.Const (plain 0) (pos 549755813887) []
    ∷ issue 2 op.Pass (record { shift = pos 80; mode = Round; width = 1 }) (pos 0) (0 ∷ 0 ∷ [])
    ∷ [])
    [] []
    ∷ word (issue 2 op.Neg (record { shift = pos 0; mode = Sat; width = 8 }) (pos 0) (1 ∷ 0 ∷ []) ∷ []) [] []
    ∷ word (issue 2 op.Pass (record { shift = pos 8; mode = RoundSat; width = 8 }) (pos 0) (1 ∷ 0 ∷ []) ∷ []) [] []
    ∷ [])

modes_listing : listing_text modes_image
    ≡ codes "period 4 unroll 1 inputs 1 outputs 1 units 4 buses 1\n"
    ++ codes "word 0\nissue 1 const -549755813888\nissue 2 pass fmt -40 trunc 40 regs 0 0\n"
    ++ codes "word 1\nissue 1 const 549755813887\nissue 2 pass fmt 80 round 1 regs 0 0\n"
    ++ codes "word 2\nissue 2 neg fmt 0 sat 8 regs 1 0\n"
    ++ codes "word 3\nissue 2 pass fmt 8 round,sat 8 regs 1 0\n"
unfolding digits listing_text head_line word_lines issue_line enable_line take_line
modes_listing = refl
