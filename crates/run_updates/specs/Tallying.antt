-- The tally of a run: document 01's "One tally follows a run: rows made, links cut, records written".
use Rattle.std.specs.Prelude.{◌≡◌, ◌+◌, ◌*◌, ◌<◌}
use Rattle.model.specs.Limits.{max_rows}
use Rattle.run_updates.specs.declared.tally.Tally.{Tally}

-- nothing is written yet
abbrev pub none_yet : Tally
none_yet = record { made = 0; cut = 0; records = 0 }

-- one more row made, or link cut, each with its record
abbrev pub plus_made : Tally → Tally
plus_made t = record { made = t.made + 1; cut = t.cut; records = t.records + 1 }

abbrev pub plus_cut : Tally → Tally
plus_cut t = record { made = t.made; cut = t.cut + 1; records = t.records + 1 }

-- the records are both together, and a run can write one more
abbrev pub HasRoom : Tally → Type 0
HasRoom t = (t.made + t.cut ≡ t.records) × (t.records < 2 * max_rows)
