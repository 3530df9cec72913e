-- Where the fields stand: each in its column's byte and no other's, so a byte written is one field more and leaves the others.
use mathlib.Core.Path.{◌≡◌, ap, sym, ◌∙◌, subst}
use mathlib.Core.List.{List}
use Prim.Native.Nat.{ℕ, ◌+◌, ◌*◌, ◌≤◌, ◌<◌}
use native.Mathlib.Omega.{arith}
use lib.ListN.{length, get_or, set, length-set}
use lib.Seq.{get_or-set_same, get_or-set_other}
use Rattle.model.proofs.BoolLaws.{eq_cases}
use Rattle.paths_positions.specs.declared.packed.Fields.{Fields as Position}
use Rattle.paths_positions.specs.Packed.{fields_of}
use Rattle.paths_positions.specs.Steps.{max_positions}
use Rattle.paths_positions.proofs.PackedLaws.{fields_low}
use Rattle.paths_rows.specs.Columns.{fields, field_by, column_at, FieldPre, AtPre, ColumnPost}

-- WITHIN the columns
field_within : {c : List ℕ} {f l : ℕ} → AtPre c f l → max_positions * f + l < length c
field_within pre = omega (arith, pre.size, pre.field, pre.column)

-- what a field of a position asks
pub at_asks : {c : List ℕ} {m l : ℕ} → length c ≡ fields * max_positions → m ≤ max_positions → l < m → (f : ℕ) → f < fields → AtPre c f l
at_asks e h g f k = record { size = e; field = k; column = omega (arith, h, g) }

-- ONE COLUMN up to a field: those below are its fields, and the others' are as they were
pub record ColumnTo (c : List ℕ) (l : ℕ) (q : Position) (f : ℕ) (c' : List ℕ) : Type 0 where
  pub up_to : f ≤ fields
  pub size : length c' ≡ length c
  pub here : (g : ℕ) → g < f → column_at c' g l ≡ field_by g q
  pub others : (g j : ℕ) → j < max_positions → (j ≡ l → ⊥) → column_at c' g j ≡ column_at c g j

-- one field more
pub field_written : {c c' : List ℕ} {l : ℕ} {q : Position} {f v : ℕ} → AtPre c' f l → v ≡ field_by f q → ColumnTo c l q f c' →
    ColumnTo c l q (f + 1) (set c' (max_positions * f + l) v)
field_written {c} {c'} {l} {q} {f} {v} pre is to =
    let place = max_positions * f + l in
    record {
      up_to = omega (arith, pre.field);
      size = length-set c' place v ∙ to.size;
      here = λ g h.
          eq_cases g f
          (λ e.
          ap (λ (i : ℕ). column_at (set c' place v) i l) e ∙ get_or-set_same c' place v 0 (field_within pre) ∙ is ∙
          ap (λ (i : ℕ). field_by i q) (sym e))
          (λ n. get_or-set_other c' place (max_positions * g + l) v 0 (λ e. n (omega (arith, e))) ∙ to.here g (omega (arith, n)));
      others = λ g j h n.
          get_or-set_other c' place (max_positions * g + j) v 0 (λ e. n (omega (arith, e, h, pre.column))) ∙ to.others g j h n;
    }

-- ALL COLUMNS up to one
pub record ColumnsTo (us : List ℕ) (l : ℕ) (c : List ℕ) : Type 0 where
  pub up_to : l ≤ length us
  pub size : length c ≡ fields * max_positions
  pub at : (f j : ℕ) → f < fields → j < l → column_at c f j ≡ field_by f (fields_of (get_or us j 0))

-- one column more
pub column_written : {us c c' : List ℕ} {l : ℕ} {q : Position} → length us ≤ max_positions → l < length us →
    q ≡ fields_of (get_or us l 0) →
    ColumnPost c l q c' → ColumnsTo us l c → ColumnsTo us (l + 1) c'
column_written {us} {c} {c'} {l} {q} few low is post to =
    record {
      up_to = omega (arith, low);
      size = post.size ∙ to.size;
      at = λ f j h g.
          eq_cases j l
          (λ e.
          ap (λ (i : ℕ). column_at c' f i) e ∙ post.here f h ∙ ap (field_by f) is ∙
          ap (λ (i : ℕ). field_by f (fields_of (get_or us i 0))) (sym e))
          (λ n. post.others f j (omega (arith, g, low, few)) n ∙ to.at f j h (omega (arith, g, n)));
    }

-- the fields of a packed position fit a byte
pub fields_fit : {q : Position} (w : ℕ) → q ≡ fields_of w → FieldPre q
fields_fit {q} w is =
    let f = fields_low w in
    subst FieldPre (sym is)
    (record {
      kind = omega (arith, f.kind);
      role = omega (arith, f.role);
      first = omega (arith, f.first);
      second = omega (arith, f.second);
      label = f.label;
    })
