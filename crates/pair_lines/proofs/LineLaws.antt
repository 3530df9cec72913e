-- Each line from its parts, placed one after another.
use mathlib.Core.Path.{◌≡◌, sym, subst}
use mathlib.Core.List.{List}
use Prim.Native.Nat.{ℕ, ◌≤◌}
use native.Mathlib.Omega.{arith}
use lib.ListN.{length}
use Rattle.model.specs.Refusal.{Refusal}
use Rattle.pair_text.specs.Text.{ascii, Placed, Field}
use Rattle.pair_lines.specs.Lines.{newline, file_line, answer_line, order_line, NamePre, FileLine, AnswerLine, OrderLine}
use Rattle.pair_orders.specs.Orders.{Order, Refused, Ended}
use Rattle.pair_text.proofs.TextLaws.{placed_then}

-- a refused file
pub file_placed : {o w o₁ o₂ o₃ o₄ o₅ : List ℕ} {n m k j r : ℕ} {f : Refusal} → NamePre o 0 w → Placed o 0 (ascii "file ") o₁ n →
    Placed o₁ n w o₂ m → Field o₂ m f.number o₃ k → Field o₃ k f.place o₄ j → Placed o₄ j newline o₅ r → FileLine o w f o₅ r
unfolding file_line
file_placed pre p q x y z =
    record {
      text =
          placed_then (omega arith)
          (placed_then (omega arith) (placed_then (omega arith) (placed_then (omega arith) p q) x.text) y.text)
          z;
      few = omega (arith, p.next, q.next, x.few, y.few, z.next, pre.few);
    }

-- the answer
pub answer_placed : {o w o₁ o₂ o₃ : List ℕ} {n m r : ℕ} → NamePre o 0 w → Placed o 0 (ascii "answer ") o₁ n → Placed o₁ n w o₂ m →
    Placed o₂ m newline o₃ r → AnswerLine o w o₃ r
unfolding answer_line
answer_placed pre p q z =
    record {
      text = placed_then (omega arith) (placed_then (omega arith) p q) z;
      few = omega (arith, p.next, q.next, z.next, pre.few);
    }

-- an order
within : {o w : List ℕ} {i : ℕ} → NamePre o i w → i ≤ length o
within pre = omega (arith, pre.room)

module _ {o w : List ℕ} {i : ℕ} (pre : NamePre o i w) {x : Order} {o₁ o₂ o₃ o₄ o₅ : List ℕ} {n m k j r : ℕ} where
  pub refused_placed : {s e : ℕ} → x ≡ Refused s e → Placed o i w o₁ n → Placed o₁ n (ascii " refused") o₂ m → Field o₂ m s o₃ k →
      Field o₃ k e o₄ j → Placed o₄ j newline o₅ r → OrderLine o i w x o₅ r
  unfolding order_line
  refused_placed t p q u v z =
      let h = within pre in
      record {
        text =
            subst (λ (y : Order). Placed o i (order_line w y) o₅ r) (sym t)
            (placed_then h (placed_then h (placed_then h (placed_then h p q) u.text) v.text) z);
        few = omega (arith, p.next, q.next, u.few, v.few, z.next, pre.few);
      }

  pub ended_placed : {a b c : ℕ} → x ≡ Ended a b c → Placed o i w o₁ n → Field o₁ n a o₂ m → Field o₂ m b o₃ k → Field o₃ k c o₄ j →
      Placed o₄ j newline o₅ r → OrderLine o i w x o₅ r
  unfolding order_line
  ended_placed t p u v y z =
      let h = within pre in
      record {
        text =
            subst (λ (y : Order). Placed o i (order_line w y) o₅ r) (sym t)
            (placed_then h (placed_then h (placed_then h (placed_then h p u.text) v.text) y.text) z);
        few = omega (arith, p.next, u.few, v.few, y.few, z.next, pre.few);
      }
