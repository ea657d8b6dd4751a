use Rattle.std.proofs.Common.{rules, ◌≡◌, ◌≤◌, Ok, length, ap, subst, arith}
use Rattle.micro_image.specs.declared.version.Version.{Version}
use Rattle.micro_file.specs.Private.Fields.{Reading}
use Rattle.micro_file.specs.Private.File.{head_at}
use Rattle.micro_file.proofs.Inside.{IsInside}
use Rattle.micro_file.proofs.InsideFile.{head_in}
use Rattle.micro_file.proofs.decoder.read_whole.Goals as goal

pub read_packed-requires : goal.read_packed-requires
read_packed-requires c =
    let bytes = c.new-reader.result in
    let rest = c.read_version.new.reader in
    let head : head_at bytes ≡ Ok (c.in_ok-read_version.field-0, rest) = search rules in
    let fewer : length rest ≤ length bytes =
    subst (λ (r : Reading Version). IsInside (length bytes) r) head (head_in bytes) in
    omega (arith, fewer, ap length c.rest.ensures, ap length c.new-reader.ensures, c.requires)
