-- How many bytes a file may have.
use Rattle.std.specs.Prelude.{ℕ, ◌-◌, ◌^◌}
use Rattle.micro_image.specs.Size.{most_bytes}

-- a source or a datapath
abbrev pub text_limit : ℕ
text_limit = 2 ^ 20

abbrev pub microcode_limit : ℕ
microcode_limit = most_bytes

abbrev pub samples_limit : ℕ
samples_limit = 2 ^ 32 - 1
