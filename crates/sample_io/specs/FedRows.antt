-- What callers see of rows that come in pieces.
use Rattle.std.specs.Prelude.{ℕ, List, ℤ, Option}
use Rattle.sample_io.specs.declared.RowFault.{RowFault}
use Rattle.sample_io.specs.declared.channel.Channel.{Channel}

pub record FedRows : Type 0 where
  pub channels : List Channel
  -- the bytes that came, all pieces together, up to a bad one
  pub taken : List ℕ
  -- the row that is shown
  pub row : List ℤ
  -- the fault that every later call answers
  pub fault : Option RowFault
