-- What a run can do to a state. No rule of the documents: contracts of the updates ask for it, and the laws of the run show it.
use Rattle.std.specs.Prelude.{◌≡◌, [], ℕ, ◌≤◌, ◌<◌}
use Rattle.std.proofs.Math.Option.{some}
use Rattle.model.specs.Limits.{max_rows}
use Rattle.model.specs.Table.{Row, Table, row_at, count}
use Rattle.model.specs.Run.{State, state, with_made, cut_row}

-- FROM A STATE TO A LATER ONE: rows made, each of which F admits, while there is room; links cut where there is one
pub data Leads (F : Table → Row → Type 0) (a : State) : State → Type 0 where
  begun : Leads F a a
  row_made : (s : State) (r : Row) → Leads F a s → count s.plan < max_rows → F s.plan r → Leads F a (with_made s r)
  link_cut : (s : State) (i p : ℕ) → Leads F a s → (row_at s.plan i).parent ≡ some p → Leads F a (cut_row s i p)

-- any row is admitted
abbrev pub AnyRow : Table → Row → Type 0
AnyRow x r = Unit

-- A STATE COME TO so, from some table of at most 512 rows and nothing recorded
abbrev pub Attained : State → Type 0
Attained s = (x : Table) × ((count x ≤ max_rows) × Leads AnyRow (state x []) s)
