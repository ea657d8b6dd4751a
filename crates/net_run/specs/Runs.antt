-- A net that has run all its samples.
use Rattle.std.specs.Prelude.{◌≡◌, ℕ, ◌-◌, List, [], length, true}
use Rattle.lists.specs.Rows.{Rows}
use Rattle.micro_image.specs.Fields.{nth}
use Rattle.net_solution.specs.Solutions.{Parts, shape_of, IsNetSolution}
use Rattle.net_turns.specs.Turns.{is_finished}
use Rattle.proc_net.specs.Nets.{NetState, parts_of, points_of, IsNetAt}
use Rattle.sample_io.specs.Samples.{printed}

-- the rows that the last processor puts, which are the net's
abbrev pub last_put : Parts → List Rows → Rows
last_put parts puts = nth puts (length parts.images - 1) []

-- The net is made of the parts and has run all samples: it is where its turns lead, where the processors put
-- these rows.
pub record HasRunAll (parts : Parts) (net : NetState) (puts : List Rows) : Type 0 where
  pub parts_are : parts_of net ≡ parts
  pub solution : IsNetSolution parts puts
  pub at : IsNetAt net puts
  pub finished : is_finished (shape_of parts) (points_of net) ≡ true

-- the net has run all samples, and the text is that of its rows
pub record IsRunOver (parts : Parts) (net : NetState) (text : List ℕ) : Type 0 where
  pub puts : List Rows
  pub ran : HasRunAll parts net puts
  pub text_is : text ≡ printed (last_put parts puts)
