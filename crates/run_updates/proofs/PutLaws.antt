-- A record over the history, from its parts put one behind the other: a byte, or a number of two bytes.
use mathlib.Core.Path.{◌≡◌, ap, ◌∙◌}
use mathlib.Core.List.{List, [], ◌∷◌, ◌++◌}
use Prim.Native.Nat.{ℕ, ◌+◌, ◌≤◌, ◌<◌}
use native.Mathlib.Omega.{arith}
use lib.ListN.{length, set}
use lib.Seq.{sets-eq}
use Rattle.model.specs.Base.{over}
use Rattle.model.specs.Stored.{number_bytes}
use Rattle.model.proofs.ListLaws.{over_over, length_over}

-- a byte
byte_over : (o : List ℕ) (at b : ℕ) → at < length o → set o at b ≡ over at (b ∷ []) o
byte_over o at b h = sets-eq (b ∷ []) o at (omega (arith, h))

-- a byte and a number
three_over : (o : List ℕ) (at b n : ℕ) → at + 3 ≤ length o → over (at + 1) (number_bytes n) (set o at b) ≡ over at (b ∷ number_bytes n) o
three_over o at b n h =
    ap (over (at + 1) (number_bytes n)) (byte_over o at b (omega arith)) ∙ over_over at (b ∷ []) (number_bytes n) o (omega arith)

-- a byte and two numbers, and with a byte between them
pub five_over : (o : List ℕ) (at b n m : ℕ) → at + 5 ≤ length o →
    over (at + 3) (number_bytes m) (over (at + 1) (number_bytes n) (set o at b)) ≡ over at ((b ∷ number_bytes n) ++ number_bytes m) o
five_over o at b n m h =
    ap (over (at + 3) (number_bytes m)) (three_over o at b n (omega arith)) ∙
    over_over at (b ∷ number_bytes n) (number_bytes m) o (omega arith)

pub six_over : (o : List ℕ) (at b n t m : ℕ) → at + 6 ≤ length o →
    over (at + 4) (number_bytes m) (set (over (at + 1) (number_bytes n) (set o at b)) (at + 3) t) ≡
    over at ((b ∷ number_bytes n) ++ (t ∷ number_bytes m)) o
six_over o at b n t m h =
    let front : List ℕ = b ∷ number_bytes n in
    let l : length (over at front o) ≡ length o = length_over at front o (omega arith) in
    ap (λ (v : List ℕ). over (at + 4) (number_bytes m) (set v (at + 3) t)) (three_over o at b n (omega arith)) ∙
    ap (over (at + 4) (number_bytes m))
    (byte_over (over at front o) (at + 3) t (omega (arith, l)) ∙ over_over at front (t ∷ []) o (omega arith)) ∙
    over_over at (front ++ (t ∷ [])) (number_bytes m) o (omega arith)
