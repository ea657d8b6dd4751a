-- Bytes that `toml` reads, or refuses.
use Rattle.std.proofs.Common.{◌≡◌, ◌≤◌, ◌^◌, ℕ, false, List, length, Option, Some, None, IsUtf8, nat_lt, Result, Err}
use Rattle.std.proofs.Common.{if◌then◌else◌, refl, inl, inr, arith}
use Rattle.std.specs.Str.{is_utf8}
use Rattle.std.proofs.lemmas.Bool.{cases_Bool}
use Rattle.std.proofs.lemmas.Str.{IsUtf8-from_is_utf8, is_utf8-from_IsUtf8}
use Rattle.std.proofs.lemmas.Bool.Decides.{nat_tests}
use Rattle.toml.specs.Data.{Members}
use Rattle.toml.specs.Parse.{parse_document}
use Rattle.datapath.specs.declared.types.Datapath.{Datapath}
use Rattle.datapath.specs.declared.fault.PathFault.{PathFault}
use Rattle.datapath.specs.declared.fault.PathFault.TheVariants.{NotToml}
use Rattle.datapath.specs.Reading.{Gives}
use Rattle.datapath.specs.PathOf.{path_at, path_of}

abbrev pub document : List ℕ → Option Members
document bytes = if is_utf8 bytes then parse_document bytes else None

pub document-reads : (bytes : List ℕ) (t : Members)
    → IsUtf8 bytes
    → parse_document bytes ≡ Some t
    → document bytes ≡ Some t
document-reads bytes t u h = rw (is_utf8-from_IsUtf8 bytes u) h

pub document-refused : (bytes : List ℕ) → (IsUtf8 bytes → parse_document bytes ≡ None) → document bytes ≡ None
document-refused bytes h =
    elim (cases_Bool (is_utf8 bytes)) [
      | inl text ↦ rw text (h (IsUtf8-from_is_utf8 bytes text))
      | inr other ↦ rw other refl
    ]

pub not_long : (n : ℕ) → n ≤ 2 ^ 20 → nat_lt (2 ^ 20) n ≡ false
not_long n h = grind (arith, nat_tests)

pub path_of-reads : (bytes : List ℕ) (t : Members) (r : Result Datapath PathFault)
    → length bytes ≤ 2 ^ 20
    → IsUtf8 bytes
    → parse_document bytes ≡ Some t
    → Gives r (path_at t)
    → Gives r (path_of bytes)
unfolding path_of
path_of-reads bytes t r small u h gives = rw (not_long (length bytes) small, document-reads bytes t u h) gives

pub path_of-refused : (bytes : List ℕ)
    → length bytes ≤ 2 ^ 20
    → (IsUtf8 bytes → parse_document bytes ≡ None)
    → path_of bytes ≡ Err NotToml
unfolding path_of
path_of-refused bytes small h = rw (not_long (length bytes) small, document-refused bytes h) refl
