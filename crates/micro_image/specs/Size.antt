-- How long a microcode file is that commands read.
use Rattle.std.specs.Prelude.{ℕ, ◌^◌, ◌≤◌, List, length}
use Rattle.micro_image.specs.declared.image.Image.{Image}
use Rattle.micro_image.specs.declared.version.Version.{Version}
use Rattle.micro_image.specs.Spells.{SpellsIn}

-- 64 MiB
abbrev pub most_bytes : ℕ
most_bytes = 2 ^ 26

-- what spells the image, in either version, is no longer than that
abbrev pub IsShort : Image → Type 0
IsShort image = (version : Version) (bytes : List ℕ) → SpellsIn version bytes image → length bytes ≤ most_bytes
