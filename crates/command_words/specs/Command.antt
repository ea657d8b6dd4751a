-- The commands, and which words are which.
use Rattle.std.specs.Prelude.{◌≡◌, ◌≢◌, ◌≤◌, ⊤, IsTrue, ℕ, List, [], ◌∷◌, map, Option, Some, None, Bool, true, ◌&&◌}
use Rattle.std.specs.Prelude.{not, if◌then◌else◌, nat_eq, nat_le, length, bytes_eq, codes}
use Rattle.std.specs.Prelude.{String, string_bytes}
use Rattle.std.specs.declared.alloc.Global.{Global}
use Rattle.desk_core.specs.View.{Name}
use Rattle.silage_lex.specs.Texts.{is_digits, decimal}
use Rattle.command_words.specs.WordLists.{is_word_list, places_in, ArePlaces}

-- a command, with its files and numbers
pub data Command : Type 0 where
  compile : (src datapath out : Name) → Command
  schedule : (src datapath : Name) → Command
  list : (mic : Name) → Command
  sim : (mic samples out : Name) → Command
  eval : (src samples out : Name) → Command
  run : (src datapath samples out : Name) → Command
  demo : (sections samples : ℕ) → Command
  stages : (src datapath : Name) (stages : ℕ) → Command
  pipe : (src datapath : Name) (stages : ℕ) (samples out : Name) → Command
  frame : (src datapath : Name) (phases : ℕ) (down up : List ℕ) (out : Name) → Command
  net : (net samples out : Name) → Command

-- the text is decimal digits, which spell the number
pub record IsNumeral (text : List ℕ) (number : ℕ) : Type 0 where
  pub digits : IsTrue (is_digits text)
  pub value : number ≡ decimal text

-- the inputs that the words of a command name
abbrev pub inputs_of : Command → List Name
inputs_of (compile src datapath out) = src ∷ datapath ∷ []
inputs_of (schedule src datapath) = src ∷ datapath ∷ []
inputs_of (list mic) = mic ∷ []
inputs_of (sim mic samples out) = mic ∷ samples ∷ []
inputs_of (eval src samples out) = src ∷ samples ∷ []
inputs_of (run src datapath samples out) = src ∷ datapath ∷ samples ∷ []
inputs_of (demo sections samples) = []
inputs_of (stages src datapath overlap) = src ∷ datapath ∷ []
inputs_of (pipe src datapath overlap samples out) = src ∷ datapath ∷ samples ∷ []
inputs_of (frame src datapath phases down up out) = src ∷ datapath ∷ []
inputs_of (net joins samples out) = joins ∷ samples ∷ []

-- the file that a command writes; where there is none, it prints
abbrev pub output_of : Command → Option Name
output_of (compile src datapath out) = Some out
output_of (schedule src datapath) = None
output_of (list mic) = None
output_of (sim mic samples out) = Some out
output_of (eval src samples out) = Some out
output_of (run src datapath samples out) = Some out
output_of (demo sections samples) = None
output_of (stages src datapath overlap) = None
output_of (pipe src datapath overlap samples out) = Some out
output_of (frame src datapath phases down up out) = Some out
output_of (net joins samples out) = Some out

-- the words as names
abbrev pub names_of : List (String Global) → List Name
names_of = map string_bytes

-- OUT is none of the inputs
abbrev pub is_apart : (out : Name) → (inputs : List Name) → Bool
is_apart out [] = true
is_apart out (input ∷ inputs) = not (bytes_eq out input) && is_apart out inputs

-- the text is decimal digits, which spell a number from 1 to the most
abbrev pub is_count : (most : ℕ) → Name → Bool
is_count most text = is_digits text && nat_le 1 (decimal text) && nat_le (decimal text) most

-- the text is one decimal digit, which counts from 1 to the most
abbrev pub is_digit_count : (most : ℕ) → Name → Bool
is_digit_count most text = nat_eq (length text) 1 && is_count most text

-- the command, where its condition holds
abbrev pub only_if : Bool → Command → Option Command
only_if holds command = if holds then Some command else None

-- The form of each command: the words after its verb.

abbrev pub compile_form : List Name → Option Command
compile_form (src ∷ datapath ∷ out ∷ []) = only_if (is_apart out (src ∷ datapath ∷ [])) (compile src datapath out)
compile_form _ = None

abbrev pub schedule_form : List Name → Option Command
schedule_form (src ∷ datapath ∷ []) = Some (schedule src datapath)
schedule_form _ = None

abbrev pub list_form : List Name → Option Command
list_form (mic ∷ []) = Some (list mic)
list_form _ = None

abbrev pub sim_form : List Name → Option Command
sim_form (mic ∷ samples ∷ out ∷ []) = only_if (is_apart out (mic ∷ samples ∷ [])) (sim mic samples out)
sim_form _ = None

abbrev pub eval_form : List Name → Option Command
eval_form (src ∷ samples ∷ out ∷ []) = only_if (is_apart out (src ∷ samples ∷ [])) (eval src samples out)
eval_form _ = None

abbrev pub run_form : List Name → Option Command
run_form (src ∷ datapath ∷ samples ∷ out ∷ []) =
    only_if (is_apart out (src ∷ datapath ∷ samples ∷ [])) (run src datapath samples out)
run_form _ = None

abbrev pub demo_form : List Name → Option Command
demo_form (sections ∷ samples ∷ []) =
    only_if (is_count 32 sections && is_count 100000 samples) (demo (decimal sections) (decimal samples))
demo_form _ = None

abbrev pub stages_form : List Name → Option Command
stages_form (src ∷ datapath ∷ overlap ∷ []) = only_if (is_digit_count 4 overlap) (stages src datapath (decimal overlap))
stages_form _ = None

abbrev pub pipe_form : List Name → Option Command
pipe_form (src ∷ datapath ∷ overlap ∷ samples ∷ out ∷ []) =
    only_if (is_digit_count 4 overlap && is_apart out (src ∷ datapath ∷ samples ∷ []))
    (pipe src datapath (decimal overlap) samples out)
pipe_form _ = None

abbrev pub frame_form : List Name → Option Command
frame_form (src ∷ datapath ∷ phases ∷ down ∷ up ∷ out ∷ []) =
    only_if (is_digit_count 8 phases && is_word_list down && is_word_list up && is_apart out (src ∷ datapath ∷ []))
    (frame src datapath (decimal phases) (places_in down) (places_in up) out)
frame_form _ = None

abbrev pub net_form : List Name → Option Command
net_form (joins ∷ samples ∷ out ∷ []) = only_if (is_apart out (joins ∷ samples ∷ [])) (net joins samples out)
net_form _ = None

-- the form that goes with a verb
abbrev pub form_of : (verb : Name) → List Name → Option Command
form_of verb words =
    if bytes_eq verb (codes "compile") then compile_form words
    else if bytes_eq verb (codes "schedule") then schedule_form words
    else if bytes_eq verb (codes "list") then list_form words
    else if bytes_eq verb (codes "sim") then sim_form words
    else if bytes_eq verb (codes "eval") then eval_form words
    else if bytes_eq verb (codes "run") then run_form words
    else if bytes_eq verb (codes "demo") then demo_form words
    else if bytes_eq verb (codes "stages") then stages_form words
    else if bytes_eq verb (codes "pipe") then pipe_form words
    else if bytes_eq verb (codes "frame") then frame_form words
    else if bytes_eq verb (codes "net") then net_form words
    else None

-- the command that the words are
abbrev pub command_in : List Name → Option Command
command_in (verb ∷ words) = form_of verb words
command_in [] = None

-- the words are this command
abbrev pub IsCommandIn : List (String Global) → Command → Type 0
IsCommandIn words command = command_in (names_of words) ≡ Some command

-- the words are a command
abbrev pub IsCommand : List (String Global) → Type 0
IsCommand words = (command : Command) × IsCommandIn words command

-- the words are `compile SRC DP OUT`, and OUT is none of the inputs
abbrev pub IsCompile : List (String Global) → Name → Name → Name → Type 0
IsCompile words src datapath out = IsCommandIn words (compile src datapath out)

-- the words are `schedule SRC DP`
abbrev pub IsSchedule : List (String Global) → Name → Name → Type 0
IsSchedule words src datapath = IsCommandIn words (schedule src datapath)

-- the words are `list MIC`
abbrev pub IsList : List (String Global) → Name → Type 0
IsList words mic = IsCommandIn words (list mic)

-- the words are `sim MIC SAMPLES OUT`, and OUT is none of the inputs
abbrev pub IsSim : List (String Global) → Name → Name → Name → Type 0
IsSim words mic samples out = IsCommandIn words (sim mic samples out)

-- the words are `eval SRC SAMPLES OUT`, and OUT is none of the inputs
abbrev pub IsEval : List (String Global) → Name → Name → Name → Type 0
IsEval words src samples out = IsCommandIn words (eval src samples out)

-- the words are `run SRC DP SAMPLES OUT`, and OUT is none of the inputs
abbrev pub IsRun : List (String Global) → Name → Name → Name → Name → Type 0
IsRun words src datapath samples out = IsCommandIn words (run src datapath samples out)

-- the words are `demo K N`, with both numbers in their ranges
abbrev pub IsDemo : List (String Global) → ℕ → ℕ → Type 0
IsDemo words sections samples = IsCommandIn words (demo sections samples)

-- the words are `stages SRC DP S`, and S is the digit 1, 2, 3 or 4
abbrev pub IsStages : List (String Global) → Name → Name → ℕ → Type 0
IsStages words src datapath overlap = IsCommandIn words (stages src datapath overlap)

-- the words are `pipe SRC DP S SAMPLES OUT`, S is the digit 1, 2, 3 or 4, and OUT is none of the inputs
abbrev pub IsPipe : List (String Global) → Name → Name → ℕ → Name → Name → Type 0
IsPipe words src datapath overlap samples out = IsCommandIn words (pipe src datapath overlap samples out)

-- the words are `frame SRC DP M DOWN UP OUT`, M is a digit from 1 to 8, DOWN and UP are lists of words by their places,
-- and OUT is none of the inputs
abbrev pub IsFrame : List (String Global) → Name → Name → ℕ → (down up : List ℕ) → Name → Type 0
IsFrame words src datapath phases down up out = IsCommandIn words (frame src datapath phases down up out)

-- the words are `net NET SAMPLES OUT`, and OUT is none of the inputs
abbrev pub IsNet : List (String Global) → Name → Name → Name → Type 0
IsNet words joins samples out = IsCommandIn words (net joins samples out)

-- what holds of each command that words are: OUT is none of the inputs, numbers are in their ranges, and lists rise
abbrev pub IsAllowed : Command → Type 0
IsAllowed (compile src datapath out) = (out ≢ src) × (out ≢ datapath)
IsAllowed (schedule src datapath) = ⊤
IsAllowed (list mic) = ⊤
IsAllowed (sim mic samples out) = (out ≢ mic) × (out ≢ samples)
IsAllowed (eval src samples out) = (out ≢ src) × (out ≢ samples)
IsAllowed (run src datapath samples out) = (out ≢ src) × (out ≢ datapath) × (out ≢ samples)
IsAllowed (demo sections samples) = ((1 ≤ sections) × (sections ≤ 32)) × (1 ≤ samples) × (samples ≤ 100000)
IsAllowed (stages src datapath overlap) = (1 ≤ overlap) × (overlap ≤ 4)
IsAllowed (pipe src datapath overlap samples out) =
    ((1 ≤ overlap) × (overlap ≤ 4)) × (out ≢ src) × (out ≢ datapath) × (out ≢ samples)
IsAllowed (frame src datapath phases down up out) =
    ((1 ≤ phases) × (phases ≤ 8)) × ArePlaces down × ArePlaces up × (out ≢ src) × (out ≢ datapath)
IsAllowed (net joins samples out) = (out ≢ joins) × (out ≢ samples)
