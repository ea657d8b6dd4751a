-- In which order the issues, enables and takes of a word stand.
use Rattle.std.specs.Prelude.{ℕ, List, Option, Some, None, Bool, true, ◌==◌, nat_lt, ◌&&◌, ◌||◌}
use Rattle.micro_image.specs.declared.image.Enable.{Enable}
use Rattle.micro_image.specs.declared.image.Issue.{Issue}
use Rattle.micro_image.specs.declared.image.Take.{Take}
use Rattle.micro_file.specs.Private.Fields.{Reading, kept, last_of}

-- the unit's number is above that of the issue before
abbrev pub is_above : Option Issue → ℕ → Bool
is_above None number = true
is_above (Some last) number = nat_lt last.unit number

-- x comes after the last one
abbrev pub is_next : {A : Type 0} → (A → A → Bool) → Option A → A → Bool
is_next before None x = true
is_next before (Some last) x = before last x

-- the value that is in front of what is left, if it comes after the last of those before it
abbrev pub kept_next : {A : Type 0} → (A → A → Bool) → List A → List ℕ → A × List ℕ → Reading A
kept_next before front left x = kept left (is_next before (last_of front) x.0) x

-- a is below b, or they are the same and the rest decides
abbrev pub lexical : ℕ → ℕ → Bool → Bool
lexical a b rest = nat_lt a b || (a == b && rest)

-- by unit, then bus
abbrev pub enable_before : Enable → Enable → Bool
enable_before a b = lexical a.unit b.unit (nat_lt a.bus b.bus)

-- by unit, port, bus, then register
abbrev pub take_before : Take → Take → Bool
take_before a b =
    lexical a.port.unit b.port.unit (lexical a.port.port b.port.port (lexical a.bus b.bus (nat_lt a.reg b.reg)))
