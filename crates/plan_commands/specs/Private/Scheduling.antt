-- The text that is made of the plan of files.
use Rattle.desk_core.specs.View.{Name, Content, Files, View}
use Rattle.desk_core.specs.Desk.{WhereSpecified}
use Rattle.desk_core.specs.Whole.{IsReadThrough}
use Rattle.silc_files.specs.Limits.{text_limit}
use Rattle.plan_commands.specs.Schedule.{IsTextOf}

-- the text is that of the files, of which the last was read through; `IsOf` says which text they have
pub record IsMadeText (IsOf : Content → Files → Type 0) (last : Name) (old new : View) (text : Content) : Type 0 where
  pub read : IsReadThrough last text_limit old new
  pub is_text : WhereSpecified old (IsOf text)

-- the text is that of the plan of `schedule`
abbrev pub IsMadeSchedule : Name → Name → View → View → Content → Type 0
IsMadeSchedule src datapath = IsMadeText (IsTextOf src datapath) datapath
