-- The elements of a slice of bytes are bytes.
use mathlib.Core.Path.{◌≡◌, refl}
use mathlib.Core.Bool.{true}
use mathlib.Core.List.{List, [], ◌∷◌}
use Prim.Native.Nat.{ℕ, suc, ◌<◌}
use native.Mathlib.Omega.{arith}
use lib.Dec.{leb}
use lib.ListN.{get_or}
use borrow.Author.Tests.{le-leb}
use Rattle.model.specs.Base.{are_bytes, max_byte}
use Rattle.model.proofs.BoolLaws.{and_both}

pub bytes_known : (l : List ℕ) → ((i : ℕ) → get_or l i 0 < 256) → are_bytes l ≡ true
unfolding are_bytes
bytes_known [] h = refl
bytes_known (b ∷ l) h = and_both (leb b max_byte) (are_bytes l) (le-leb b max_byte (omega (arith, h 0))) (bytes_known l (λ i. h (suc i)))
