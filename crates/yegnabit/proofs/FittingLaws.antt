-- The tables that the C calls read and write fit: read, swept or undone. So nobody need look at them again.
use mathlib.Core.Path.{◌≡◌, refl, ap, ◌∙◌}
use mathlib.Core.Bool.{true}
use mathlib.Core.List.{List}
use Prim.Native.Nat.{ℕ}
use lib.ListN.{length}
use Rattle.model.specs.Base.{are_bytes}
use Rattle.model.specs.Limits.{max_rows, documents}
use Rattle.model.specs.Refusal.{refusal, fine}
use Rattle.model.specs.Sweep.{swept}
use Rattle.model.specs.Table as model
use Rattle.model.specs.Undo.{Undo, refused, back, undo}
use Rattle.model.proofs.BoolLaws.{cond_true}
use Rattle.model.proofs.SweepsWell.{sweeps_well}
use Rattle.model.proofs.UndoKeeps.{undo_keeps}
use Rattle.plan_reader.specs.Reading.{ReadPost}
use Rattle.plan_table.specs.Fitting.{TableSizes}
use Rattle.plan_table.specs.Packed.{encode, decode, fits, parts_fit, table_of}
use Rattle.plan_table.specs.Results.{with_table}
use Rattle.plan.specs.Calls.{plan_read}
use Rattle.plan.proofs.ReadPlanLaws.{plan_refused, plan_read_lem, read_fits}
use Rattle.plan_table.specs.Results.{End}
use Rattle.plan_table.specs.declared.Table.{Table}
use Rattle.plan_table.specs.Results.{TableResult}
use Rattle.plan_table.proofs.EncodeLaws.{fits_encode}
use Rattle.plan_table.proofs.FittedLaws.{well_decode}
use Rattle.run_undo.specs.Undoing.{plan_undone, undone_by}

-- READ: the refusal, or a table that fits
module _ (p ws ms : List ℕ) (r : End) (post : ReadPost p ws ms r) where
  pub read_refused : (r.number ≡ 0 → ⊥) → with_table (refusal r.number r.place) (encode model.empty) ≡ plan_read p
  read_refused z = plan_refused p ws ms r post z

  module _ (z : r.number ≡ 0) where
    pub read_fine : with_table fine (table_of r.count ws ms) ≡ plan_read p
    read_fine = plan_read_lem p ws ms r post z

    pub table_fits : are_bytes p ≡ true → fits (table_of r.count ws ms) ≡ true
    table_fits b = ap (λ (q : TableResult). fits q.table) read_fine ∙ read_fits p b

    -- in areas of a table's sizes: these, and the parts that fit
    pub parts_fit_lem : are_bytes p ≡ true → length ws ≡ max_rows → length ms ≡ documents →
        TableSizes ws ms × (parts_fit r.count ws ms ≡ true)
    parts_fit_lem b rows marks = (record { rows = rows; marks = marks }, table_fits b)

-- SWEPT, UNDONE
module _ (t : Table) (f : fits t ≡ true) where
  pub swept_fits : (u : Table) → u ≡ encode (swept (decode t)) → fits u ≡ true
  swept_fits u e = ap fits e ∙ fits_encode (swept (decode t)) (sweeps_well (decode t) (well_decode t f)).0

  undone_fits : (h : List ℕ) → fits (plan_undone t h).table ≡ true
  undone_fits h = ap (λ (r : TableResult). fits r.table) (cond_true (fits t) _ _ f) ∙ go (undo (decode t) h) refl
    where
      go : (q : Undo) → undo (decode t) h ≡ q → fits (undone_by t (undo (decode t) h)).table ≡ true
      go (refused g) e = ap (λ (q : Undo). fits (undone_by t q).table) e ∙ f
      go (back x) e = ap (λ (q : Undo). fits (undone_by t q).table) e ∙ fits_encode x (undo_keeps (decode t) x h (well_decode t f) e)

  pub left_fits : (h : List ℕ) {u : Table} → with_table fine u ≡ plan_undone t h → fits u ≡ true
  left_fits h e = ap (λ (r : TableResult). fits r.table) e ∙ undone_fits h
