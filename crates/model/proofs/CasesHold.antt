-- The starred cases of 'Worked on plan P' hold, by computing the definitions.
use mathlib.Core.Path.{refl}
use Rattle.model.specs.Base.{any, all, among, filtered}
use Rattle.model.specs.Stored.{stored_kinds, read_from, last_marked}
use Rattle.model.specs.Script.{script_kinds, parse_from}
use Rattle.model.specs.Step.{is_below_from, collect}
use Rattle.model.specs.Run.{run, loop, cut_all, copy_all, copy_each, copy_of}
use Rattle.model.specs.Paths.{infer, prefixed, prefixes_of, has_up}
use Rattle.model.specs.Meeting.{cell, start_cells, step_cells}
use Rattle.model.specs.Cases.{Cases}

pub cases_hold : Cases
unfolding any all among filtered stored_kinds read_from last_marked parse_from script_kinds is_below_from collect run loop cut_all copy_all
    copy_each copy_of
    infer prefixed prefixes_of has_up cell start_cells step_cells
cases_hold = (
  (refl, refl, refl, refl, refl, refl, refl, refl, refl, refl, refl),
  refl,
  refl,
  (refl, refl),
  (refl, refl, refl),
  refl,
  refl,
  refl,
  refl,
  refl,
  refl,
  (refl, refl),
  (refl, refl, refl, refl, refl),
  (refl, refl, refl),
  refl,
  refl,
)
