use Rattle.std.proofs.Common.{refl}
use Rattle.std.specs.Str.{bytes_eq}
use Rattle.datapath.proofs.AmongKeys.{list_any-map}
use Rattle.datapath.proofs.buses.new_name.Goals as goal

pub returns-then-has_name : goal.returns-then-has_name
returns-then-has_name c =
    λ _. rw (
      list_any-map (bytes_eq c.args.name.now) (λ bus. bus.name) c.args.before.now,
      ← c.as_slice.ensures,
      ←
          c.has_name.ensures,
      c.if-has_name.true,
    ) refl

pub returns : goal.returns
returns c =
    rw (
      list_any-map (bytes_eq c.args.name.now) (λ bus. bus.name) c.args.before.now,
      ← c.as_slice.ensures,
      ←
          c.has_name.ensures,
      c.if-has_name.false,
    ) refl
