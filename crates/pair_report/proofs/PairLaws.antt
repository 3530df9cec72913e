-- The lines joined, and the whole output in the area lent for it.
use mathlib.Core.Path.{◌≡◌, ap, sym, subst, ◌∙◌}
use mathlib.Core.List.{List, ◌++◌}
use Prim.Native.Nat.{ℕ, ◌≤◌}
use native.Mathlib.Nat.{zero-add}
use native.Mathlib.Omega.{arith}
use lib.ListN.{length, drop}
use borrow.Author.Tests.{le-ltb}
use Rattle.model.proofs.BoolLaws.{cond_eq, cond_ne}
use Rattle.plan.specs.Calls.{plan_read}
use Rattle.plan_table.specs.Results.{TableResult, written_by}
use Rattle.plan_table.specs.declared.Table.{Table}
use Rattle.paths.specs.Analysis.{Analysis, analysed}
use Rattle.pair_text.specs.Text.{ascii, Placed}
use Rattle.pair_orders.specs.Orders.{Order, order, swap}
use Rattle.pair_lines.specs.Lines.{file_line, answer_line, order_line}
use Rattle.pair_report.specs.Pair.{three_lines, text_by, plan_text, pair_text, Report, pair_written, pair_out}
use Rattle.pair_text.proofs.TextLaws.{placed_then}

-- THREE LINES
pub three_placed : (t : Table) (w b c : List ℕ) {o o₁ o₂ o₃ : List ℕ} {n m r : ℕ} {x y z : Order} → x ≡ order t b c → y ≡ order t c b →
    z ≡ swap y → Placed o 0 (answer_line w) o₁ n → Placed o₁ n (order_line (ascii "one-two") x) o₂ m →
    Placed o₂ m (order_line (ascii "two-one") z) o₃ r → Placed o 0 (three_lines t w b c) o₃ r
unfolding three_lines
three_placed t w b c e f g p q s =
    placed_then (omega arith) (placed_then (omega arith) p (rw e at q)) (rw (g ∙ ap swap f) at s)

-- THE AREA, the lines placed
module _ (p b c : List ℕ) {o : List ℕ} (h : 160 ≤ length o) {o' : List ℕ} (l : length o' ≡ length o) {n : ℕ} where
  placed_written : Placed o 0 (pair_text p b c) o' n → n ≤ 160 → (written_by 0 n ≡ pair_written p b c o) × (o' ≡ pair_out p b c o)
  placed_written q k = (
    ap (written_by 0) (q.next ∙ zero-add (length (pair_text p b c))) ∙ rw (le-ltb (length o) 160 h),
    q.area ∙ ap (λ (k : ℕ). pair_text p b c ++ drop k o) (zero-add (length (pair_text p b c))) ∙ rw (le-ltb (length o) 160 h),
  )

  module _ {r : TableResult} (e : r ≡ plan_read p) where
    pub plan_refused : (r.refusal.number ≡ 0 → ⊥) → Placed o 0 (file_line (ascii "plan") r.refusal) o' n → n ≤ 160 →
        (written_by 0 n ≡ pair_written p b c o) × (o' ≡ pair_out p b c o)
    unfolding pair_text
    plan_refused z q k = placed_written (subst (λ (v : List ℕ). Placed o 0 v o' n) same q) k
      where
        same : file_line (ascii "plan") r.refusal ≡ pair_text p b c
        same =
            sym (cond_ne (text_by (analysed b c) r.table b c) (file_line (ascii "plan") r.refusal) z) ∙
            ap (λ (s : TableResult). plan_text s b c) e

    pub plan_read_lem : r.refusal.number ≡ 0 → {a : Analysis} → a ≡ analysed b c → Report (text_by a r.table b c) o o' n →
        (written_by 0 n ≡ pair_written p b c o) × (o' ≡ pair_out p b c o)
    unfolding pair_text
    plan_read_lem z {a} f q = placed_written (subst (λ (v : List ℕ). Placed o 0 v o' n) same q.placed) q.few
      where
        same : text_by a r.table b c ≡ pair_text p b c
        same =
            ap (λ (x : Analysis). text_by x r.table b c) f ∙
            sym (cond_eq (text_by (analysed b c) r.table b c) (file_line (ascii "plan") r.refusal) z) ∙
            ap (λ (s : TableResult). plan_text s b c) e
