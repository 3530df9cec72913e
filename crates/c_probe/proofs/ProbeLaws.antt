-- The calls for tests, by their ways out.
use mathlib.Core.Path.{◌≡◌, refl, ap, sym, ◌∙◌}
use mathlib.Core.Bool.{true, false}
use mathlib.Core.List.{List}
use Prim.Native.Nat.{ℕ}
use lib.Dec.{eqb}
use lib.ListN.{length}
use borrow.Author.Tests.{eq-eqb, ne_eqb}
use native.Mathlib.Omega.{arith}
use Rattle.plan_table.specs.Refusals.{number_of}
use Rattle.plan_table.specs.declared.Reason as declared
use Rattle.plan_table.specs.declared.Reason.TheVariants.{Kind, Short, Tail, Field, Size, Link, Target, Items, Lent}
use Rattle.plan_table.specs.declared.Reason.TheVariants as reason
use Rattle.plan_writer.specs.Writing as library
use Rattle.plan_sweep.specs.Sweeping as sweeping
use Rattle.script.specs.Reading.{script_read}
use Rattle.model.specs.Refusal.{Refusal}
use Rattle.plan_table.specs.declared.Table.{Table}
use Rattle.plan_table.specs.Results.{TableResult}
use Rattle.plan_table.specs.Results.{Written}
use Rattle.c_probe.specs.Probes.{write_values, write_out, swept_table, swept_values, rows_left, marks_left, script_values}
use Rattle.plan_table.specs.Packed.{table_of}
use Rattle.c_probe.specs.Raw.{is_given}
use Rattle.c_codes.specs.Codes.{code_of, lent_values, written_values}
use Rattle.model.specs.Limits.{max_rows, documents}
use Rattle.model.specs.Refusal.{values}

-- 6 is the number of one reason alone
pub link_alone : (r : declared.Reason) → (r ≡ Link → ⊥) → number_of r ≡ 6 → ⊥
link_alone Kind z e = omega arith
link_alone Short z e = omega arith
link_alone Tail z e = omega arith
link_alone Field z e = omega arith
link_alone Size z e = omega arith
link_alone Link z e = z refl
link_alone Target z e = omega arith
link_alone Items z e = omega arith
link_alone reason.Table z e = omega arith
link_alone Lent z e = omega arith

-- a script's refusal, or none
pub script_read_lem : (b : List ℕ) (f : Refusal) (c : ℕ) → f ≡ script_read b → f.number ≡ 0 → c ≡ code_of (values 0 0 0) →
    c ≡ code_of (script_values b)
script_read_lem b f c e z g = g ∙ rw (sym (ap (λ (t : Refusal). t.number) e) ∙ z)

pub script_refused : (b : List ℕ) (f : Refusal) (c : ℕ) → f ≡ script_read b → (f.number ≡ 0 → ⊥) →
    c ≡ code_of (values f.number 2 f.place) → c ≡ code_of (script_values b)
script_refused b f c e z g =
    let y : (script_read b).number ≡ 0 → ⊥ = λ q. z (ap (λ (t : Refusal). t.number) e ∙ q) in
    g ∙ ap (λ (t : Refusal). code_of (values t.number 2 t.place)) e ∙ rw (ne_eqb (script_read b).number 0 y)

-- a table given as packed rows
pub rows_not_given : (ws ms : List ℕ) → (length ws ≡ max_rows → ⊥) → is_given ws ms ≡ false
rows_not_given ws ms z = rw (ne_eqb (length ws) max_rows z)

pub marks_not_given : (ws ms : List ℕ) → length ws ≡ max_rows → (length ms ≡ documents → ⊥) → is_given ws ms ≡ false
marks_not_given ws ms e z = rw (eq-eqb (length ws) max_rows e, ne_eqb (length ms) documents z)

pub is_given_lem : (ws ms : List ℕ) → length ws ≡ max_rows → length ms ≡ documents → is_given ws ms ≡ true
is_given_lem ws ms e f = rw (eq-eqb (length ws) max_rows e, eq-eqb (length ms) documents f)

module _ (n : ℕ) (ws ms : List ℕ) where
  module _ (o : List ℕ) where
    pub write_not : (c : ℕ) → c ≡ code_of lent_values → is_given ws ms ≡ false →
        (c ≡ code_of (write_values n ws ms o)) × (o ≡ write_out n ws ms o)
    write_not c e z = (e ∙ rw z, rw z)

    module _ (t : Table) (same : t ≡ table_of n ws ms) (w : Written) (o' : List ℕ) (h : is_given ws ms ≡ true)
        (written : w ≡ library.plan_written t o) (left : o' ≡ library.written_out t o) where
      as_given : w ≡ library.plan_written (table_of n ws ms) o
      as_given = written ∙ ap (λ (u : Table). library.plan_written u o) same

      out_given : o' ≡ write_out n ws ms o
      out_given = left ∙ ap (λ (u : Table). library.written_out u o) same ∙ rw h

      pub write_link : (c : ℕ) → c ≡ code_of (values w.refusal.number 1 0) → w.refusal.number ≡ 6 →
          (c ≡ code_of (write_values n ws ms o)) × (o' ≡ write_out n ws ms o)
      write_link c e z =
          let k : (library.plan_written (table_of n ws ms) o).refusal.number ≡ 6
          = sym (ap (λ (v : Written). v.refusal.number) as_given) ∙ z in
          (e ∙ ap (λ (j : ℕ). code_of (values j 1 0)) z ∙ rw (h, k), out_given)

      pub write_rest : (c : ℕ) → c ≡ code_of (written_values w) → (w.refusal.number ≡ 6 → ⊥) →
          (c ≡ code_of (write_values n ws ms o)) × (o' ≡ write_out n ws ms o)
      write_rest c e z =
          let k : (library.plan_written (table_of n ws ms) o).refusal.number ≡ 6 → ⊥
          = λ q. z (ap (λ (v : Written). v.refusal.number) as_given
          ∙ q) in
          let f = ne_eqb (library.plan_written (table_of n ws ms) o).refusal.number 6 k in
          (e ∙ ap (λ (v : Written). code_of (written_values v)) as_given ∙ rw (h, f), out_given)

  -- sweeping in place
  abbrev Left : (code : ℕ) → (rows marks : List ℕ) → Type 0
  Left c vs us = (c ≡ code_of (swept_values n ws ms)) × ((vs ≡ rows_left n ws ms) × (us ≡ marks_left n ws ms))

  pub sweep_not : (c : ℕ) → c ≡ code_of lent_values → is_given ws ms ≡ false → Left c ws ms
  sweep_not c e z = (e ∙ rw z, (rw z, rw z))

  module _ (t : Table) (same : t ≡ table_of n ws ms) (r : TableResult) (h : is_given ws ms ≡ true) (swept : r ≡ sweeping.plan_swept t)
    where
      result : r ≡ swept_table n ws ms
      result = swept ∙ ap sweeping.plan_swept same

      pub sweep_refused : (c : ℕ) → c ≡ code_of (values r.refusal.number 1 0) → (r.refusal.number ≡ 0 → ⊥) → Left c ws ms
      sweep_refused c e z =
          let k : (swept_table n ws ms).refusal.number ≡ 0 → ⊥ = λ q. z (ap (λ (v : TableResult). v.refusal.number) result ∙ q) in
          let f : eqb (swept_table n ws ms).refusal.number 0 ≡ false = ne_eqb (swept_table n ws ms).refusal.number 0 k in
          (e ∙ ap (λ (v : TableResult). code_of (values v.refusal.number 1 0)) result ∙ rw (h, f), (rw (h, f), rw (h, f)))

      pub sweep_done : (c : ℕ) (vs us : List ℕ) → c ≡ code_of (values 0 0 r.table.count) → vs ≡ r.table.rows → us ≡ r.table.marks →
          r.refusal.number ≡ 0 → Left c vs us
      sweep_done c vs us e p q z =
          let k : eqb (swept_table n ws ms).refusal.number 0 ≡ true =
          eq-eqb (swept_table n ws ms).refusal.number 0 (sym (ap (λ (v : TableResult). v.refusal.number) result) ∙ z) in (
            e ∙ ap (λ (v : TableResult). code_of (values 0 0 v.table.count)) result ∙ rw (h, k),
            (
              p ∙ ap (λ (v : TableResult). v.table.rows) result ∙ rw (h, k),
              q ∙ ap (λ (v : TableResult). v.table.marks) result ∙ rw (
                h,
                k,
              ),
            ),
          )
