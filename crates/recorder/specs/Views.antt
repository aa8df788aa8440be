-- What contracts see of the passes: whose queue they pass, and what they know.
use Rattle.atomic_table.specs.Seated.{TableId}
use Rattle.recorder.specs.declared.laws.Pushed.{Pushed}
use Rattle.recorder.specs.declared.laws.Taken.{Taken}

pub record PusherView : Type 0 where
  pub queue : TableId
  pub pushed : Pushed

pub record TakerView : Type 0 where
  pub queue : TableId
  pub taken : Taken
