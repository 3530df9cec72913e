-- Contracts of insert's parts.
use Rattle.std.specs.Prelude.{◌≡◌, true, cond, ◌⊎◌, List, [], ◌∷◌, ℕ, zero, suc, ◌+◌, ◌-◌, ◌≤◌, ◌<◌, ltb, eqb, length, get_or, take, set}
use Rattle.model.specs.Limits.{max_rows}
use Rattle.model.specs.Table as model
use Rattle.model.specs.Run.{State, Out, gives, new_row, then_row, Copied, copy_each, descendants_from, subtree, copy_all, inserted}
use Rattle.plan_table.specs.Flags.{Within}
use Rattle.plan_table.specs.Packed.{of_link, row_of, rows_of, decode_parts, link_in}
use Rattle.run_updates.specs.State.{Progress, Held, Updated}

-- THE TABLE BEFORE: the first rows of a state's table
abbrev pub before : (old : ℕ) → State → model.Table
before n s = model.table (take n s.plan.rows) s.plan.marks

-- THE MAP of copies has this number at a row without copy
abbrev pub no_copy : ℕ
no_copy = 65535

-- THE COPIER at one moment: the areas that it writes, and how far the run has come
pub record Copier : Type 0 where
  pub rows : List ℕ  -- the table's packed rows
  pub history : List ℕ  -- the history's bytes, and behind them the rest of its area
  pub map : List ℕ  -- at a row's number its copy's, or no_copy
  pub progress : Progress  -- the refusal, and how many rows, bytes and records there are

-- from a function's parameters
abbrev pub copier : (rows history map : List ℕ) → Progress → Copier
copier ws h m p = record { rows = ws; history = h; map = m; progress = p }

-- what an update f of the model, which gives no value, leaves of it
abbrev pub Copies : (f : (place : ℕ) → State → Out) → (before after : Copier) → Type 0
Copies f c c' = Updated f [] c.rows c.history c.progress c'.rows c'.history c'.progress

-- THE MAP: the rows copied since top, of the n passed, newest first
unfoldable pub copied_in : (map : List ℕ) → (top : ℕ) → ℕ → List Copied
copied_in m t zero = []
copied_in m t (suc n) =
    cond (eqb (get_or m (t + n) 0) no_copy) (copied_in m t n) (record { old = t + n; new = get_or m (t + n) 0 } ∷ copied_in m t n)

-- the link to the copy of this parent; 0 if the parent was not copied since top
abbrev pub copy_link : (map : List ℕ) → (top link : ℕ) → ℕ
copy_link m t l = cond (eqb l 0) 0 (cond (ltb (l - 1) t) 0 (cond (eqb (get_or m (l - 1) 0) no_copy) 0 (get_or m (l - 1) 0 + 1)))

-- a copy is a row of the table, and of the same kind
abbrev pub IsCopy : (rows : List ℕ) → (count row copy : ℕ) → Type 0
IsCopy ws n k c =
    (c < n) × ((model.row_at (decode_parts n ws []) c).is_leaf ≡ (model.row_at (decode_parts n ws []) k).is_leaf)

-- each row from top up to another has a copy or none
abbrev pub Mapped : (rows map : List ℕ) → (count top row : ℕ) → Type 0
Mapped ws m n t j = (k : ℕ) → t ≤ k → k < j → (get_or m k 0 ≡ no_copy) ⊎ IsCopy ws n k (get_or m k 0)

-- ONE ROW of the scan, with the link to its parent's copy
abbrev pub next_link : (rows map : List ℕ) → (top row : ℕ) → ℕ
next_link ws m t j = copy_link m t (link_in (get_or ws j 0))

abbrev pub copy_by : (place : ℕ) → model.Row → (link : ℕ) → State → Out
copy_by z r l s = cond (eqb l 0) (gives [] s) (then_row (new_row z (model.with_parent r (of_link l)) s) (λ (u : State). gives [] u))

pub record NextPre (t j : ℕ) (c : Copier) : Type 0 where
  pub held : Held c.rows c.history c.progress
  pub size : length c.map ≡ max_rows
  pub row : j < c.progress.count
  pub mapped : Mapped c.rows c.map c.progress.count t j

pub record NextPost (t j : ℕ) (c c' : Copier) : Type 0 where
  pub updated : Copies (λ z s. copy_by z (row_of (get_or c.rows j 0)) (next_link c.rows c.map t j) s) c c'
  pub map : c'.map ≡ set c.map j (cond (eqb (next_link c.rows c.map t j) 0) no_copy c.progress.count)

-- THE SCAN past top
pub record ScanPre (old t : ℕ) (c : Copier) : Type 0 where
  pub held : Held c.rows c.history c.progress
  pub size : length c.map ≡ max_rows
  pub top : t < old
  pub room : old ≤ c.progress.count
  pub mapped : IsCopy c.rows c.progress.count t (get_or c.map t 0)

pub record ScanPost (old t : ℕ) (c c' : Copier) : Type 0 where
  pub updated : (g : ℕ) →
      Copies
      (λ z s. copy_each z (before old s) t g (descendants_from (before old s) t (t + 1) (old - (t + 1))) (copied_in c.map t 1) s)
      c c'
  pub before : c'.progress.number ≡ 0 → rows_of old c'.rows ≡ rows_of old c.rows

-- AN ITEM with its descendants
pub record ItemPre (old t g : ℕ) (c : Copier) : Type 0 where
  pub held : Held c.rows c.history c.progress
  pub size : length c.map ≡ max_rows
  pub top : t < old
  pub room : old ≤ c.progress.count
  pub target : model.is_element (decode_parts c.progress.count c.rows []) g ≡ true

pub record ItemPost (old t g : ℕ) (c c' : Copier) : Type 0 where
  pub updated : Copies (λ z s. copy_each z (before old s) t g (subtree (before old s) t) [] s) c c'
  pub before : c'.progress.number ≡ 0 → rows_of old c'.rows ≡ rows_of old c.rows

-- ALL ITEMS
pub record ItemsPre (v : List ℕ) (g : ℕ) (c : Copier) : Type 0 where
  pub held : Held c.rows c.history c.progress
  pub size : length c.map ≡ max_rows
  pub items : Within v c.progress.count
  pub target : model.is_element (decode_parts c.progress.count c.rows []) g ≡ true

abbrev pub ItemsPost : (v : List ℕ) → (g : ℕ) → (before after : Copier) → Type 0
ItemsPost v g c c' = Copies (λ z s. copy_all z s.plan v g s) c c'

-- THE WHOLE
pub record InsertPre (ws h : List ℕ) (p : Progress) (v w : List ℕ) : Type 0 where
  pub held : Held ws h p
  pub items : Within v p.count
  pub targets : Within w p.count

abbrev pub InsertPost : (ws h : List ℕ) → (p : Progress) → (v w ws' h' : List ℕ) → (r : Progress) → Type 0
InsertPost ws h p v w ws' h' r = Updated (λ z s. inserted z v w s) [] ws h p ws' h' r
