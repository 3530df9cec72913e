-- Stored records as bytes: numbers, rows and marks written and read back, and which document marked last.
use mathlib.Core.Path.{◌≡◌, refl, sym}
use mathlib.Core.Bool.{Bool, true, false, cond}
use mathlib.Core.List.{List, [], ◌∷◌, ◌++◌, append_assoc, append-nil}
use mathlib.Core.Option.{Option, none, some, some-ne-none}
use Prim.Native.Nat.{ℕ, zero, suc, ◌+◌, ◌*◌, ◌/◌, ◌%◌, ◌≤◌, ◌<◌}
use native.Mathlib.Nat.{not-suc-le-zero, add-zero, add-suc, suc-add}
use native.Mathlib.Omega.{arith}
use lib.Dec.{leb, eqb}
use lib.ListN.{length, get_or, take, drop, set}
use borrow.Author.Tests.{leb-true, leb-false, eqb-true, eqb-false, ne_eqb}
use Rattle.model.specs.Base.{max_byte, are_bytes}
use Rattle.model.specs.Table.{Row}
use Rattle.model.specs.Stored.{IsStorable, number_bytes, parent_bytes, row_bytes, rows_bytes, mark_bytes, marks_bytes}
use Rattle.model.specs.Stored.{number_at, parent_in, row_in, no_parent, last_marked, element_kind, leaf_kind, is_stored_kind, is_mark}
use Rattle.model.proofs.BoolLaws.{and_left, and_right}
use Rattle.model.proofs.KindLaws.{row_kind}

-- BYTES by index, and a list's first four
pub are_bytes_at : (b : List ℕ) → are_bytes b ≡ true → (i : ℕ) → get_or b i 0 ≤ max_byte
unfolding are_bytes
are_bytes_at [] h i = omega arith
are_bytes_at (a ∷ b) h zero = leb-true a max_byte (and_left _ (are_bytes b) h)
are_bytes_at (a ∷ b) h (suc i) = are_bytes_at b (and_right (leb a max_byte) _ h) i

pub are_bytes_drop : (n : ℕ) (b : List ℕ) → are_bytes b ≡ true → are_bytes (drop n b) ≡ true
unfolding are_bytes
are_bytes_drop zero b h = h
are_bytes_drop (suc n) [] h = refl
are_bytes_drop (suc n) (a ∷ b) h = are_bytes_drop n b (and_right (leb a max_byte) _ h)

pub take_four : (b : List ℕ) → 4 ≤ length b → take 4 b ≡ get_or b 0 0 ∷ get_or b 1 0 ∷ get_or b 2 0 ∷ get_or b 3 0 ∷ []
take_four [] l = absurd (omega arith)
take_four (a ∷ []) l = absurd (omega arith)
take_four (a ∷ c ∷ []) l = absurd (omega arith)
take_four (a ∷ c ∷ d ∷ []) l = absurd (omega arith)
take_four (a ∷ c ∷ d ∷ e ∷ b) l = refl

-- TWO-BYTE NUMBERS there and back
pub number_back : (n : ℕ) → n % 256 + 256 * (n / 256) ≡ n
number_back n = omega arith

pub number_bytes_back : (low high : ℕ) → low ≤ max_byte → high ≤ max_byte → number_bytes (low + 256 * high) ≡ low ∷ high ∷ []
number_bytes_back a b h l =
    let p : (a + 256 * b) % 256 ≡ a = omega arith in
    let q : (a + 256 * b) / 256 ≡ b = omega arith in
    cc

pub parent_in_back : (p : Option ℕ) → IsStorable p → (c : List ℕ) → parent_in (number_at (parent_bytes p ++ c) 0) ≡ p
parent_in_back none h c = refl
parent_in_back (some i) h c =
    rw (number_back i, ne_eqb i no_parent (λ (e : i ≡ no_parent). omega (arith, h i refl)))

parent_bytes_back : (low high : ℕ) → low ≤ max_byte → high ≤ max_byte → parent_bytes (parent_in (low + 256 * high)) ≡ low ∷ high ∷ []
parent_bytes_back a b h l = go (eqb (a + 256 * b) no_parent) refl
  where
    go : (t : Bool) → eqb (a + 256 * b) no_parent ≡ t → parent_bytes (parent_in (a + 256 * b)) ≡ a ∷ b ∷ []
    go true e =
        let k = eqb-true (a + 256 * b) no_parent e in
        let p : max_byte ≡ a = omega arith in
        let q : max_byte ≡ b = omega arith in
        rw e (cc)
    go false e = rw e (number_bytes_back a b h l)

-- ROWS there and back
pub length_parent_bytes : (p : Option ℕ) → length (parent_bytes p) ≡ 2
length_parent_bytes none = refl
length_parent_bytes (some i) = refl

pub row_in_back : (r : Row) → IsStorable r.parent → (c : List ℕ) → row_in (row_bytes r ++ c) ≡ r
row_in_back r h c =
    let p : parent_in (number_at (parent_bytes r.parent ++ c) 0) ≡ r.parent = parent_in_back r.parent h c in
    λ i. record { is_leaf = kind r.is_leaf i; tag = r.tag; parent = p i }
  where
    kind : (t : Bool) → eqb (cond t leaf_kind element_kind) leaf_kind ≡ t
    kind true = refl
    kind false = refl

pub row_bytes_back : (b : List ℕ) → are_bytes b ≡ true → 4 ≤ length b → is_stored_kind (get_or b 0 0) ≡ true → is_mark b ≡ false →
    row_bytes (row_in b) ≡ take 4 b
row_bytes_back b h l q m =
    let p : parent_bytes (parent_in (number_at b 2)) ≡ get_or b 2 0 ∷ get_or b 3 0 ∷ [] =
    parent_bytes_back (get_or b 2 0) (get_or b 3 0) (are_bytes_at b h 2) (are_bytes_at b h 3) in
    let k : cond (eqb (get_or b 0 0) leaf_kind) leaf_kind element_kind ≡ get_or b 0 0 =
    row_kind (get_or b 0 0) q m (λ e. rw e) (λ e. rw e) in
    cc (take_four b l)

pub rows_bytes_snoc : (rs : List Row) (r : Row) → rows_bytes (rs ++ (r ∷ [])) ≡ rows_bytes rs ++ row_bytes r
unfolding rows_bytes
rows_bytes_snoc [] r = append-nil (row_bytes r)
rows_bytes_snoc (s ∷ rs) r = rw (rows_bytes_snoc rs r) (sym (append_assoc (row_bytes s) (rows_bytes rs) (row_bytes r)))

-- THE LAST MARK: no document from it on marks a row
pub last_marked_above : (d : ℕ) (ms : List (Option ℕ)) → (last_marked d ms ≡ 0 → ⊥) → d < last_marked d ms
unfolding last_marked
last_marked_above d [] h = absurd (h refl)
last_marked_above d (none ∷ ms) h = omega (arith, last_marked_above (suc d) ms h)
last_marked_above d (some i ∷ ms) h = go (eqb (last_marked (suc d) ms) 0) refl (last_marked_above (suc d) ms)
  where
    go : (t : Bool) → eqb (last_marked (suc d) ms) 0 ≡ t → ((last_marked (suc d) ms ≡ 0 → ⊥) → suc d < last_marked (suc d) ms) →
        d < last_marked d (some i ∷ ms)
    go true e r = rw e (omega arith)
    go false e r = rw e (omega (arith, r (eqb-false _ _ e)))

pub last_marked_at : (d : ℕ) (ms : List (Option ℕ)) (n : ℕ) → last_marked d ms ≤ n → (k : ℕ) → n ≤ d + k → get_or ms k none ≡ none
unfolding last_marked
last_marked_at d [] n h k l = refl
last_marked_at d (none ∷ ms) n h zero l = refl
last_marked_at d (none ∷ ms) n h (suc k) l = last_marked_at (suc d) ms n h k (omega arith)
last_marked_at d (some i ∷ ms) n h k l =
    go (eqb (last_marked (suc d) ms) 0) refl k l (λ z j m. last_marked_at (suc d) ms n z j m)
  where
    go : (t : Bool) → eqb (last_marked (suc d) ms) 0 ≡ t → (k : ℕ) → n ≤ d + k →
        (last_marked (suc d) ms ≤ n → (j : ℕ) → n ≤ suc d + j → get_or ms j none ≡ none) → get_or (some i ∷ ms) k none ≡ none
    go true e zero m r = let z = rw e at h in absurd (omega arith)
    go true e (suc k) m r = r (omega (arith, eqb-true (last_marked (suc d) ms) 0 e)) k (omega arith)
    go false e zero m r =
        let z = rw e at h in
        absurd (omega (arith, last_marked_above (suc d) ms (eqb-false (last_marked (suc d) ms) 0 e)))
    go false e (suc k) m r = r (rw e at h) k (omega arith)

pub last_marked_by : (d : ℕ) (ms : List (Option ℕ)) (n : ℕ) → ((k : ℕ) → n ≤ d + k → get_or ms k none ≡ none) → last_marked d ms ≤ n
unfolding last_marked
last_marked_by d [] n h = omega arith
last_marked_by d (none ∷ ms) n h = last_marked_by (suc d) ms n (λ k l. h (suc k) (omega arith))
last_marked_by d (some i ∷ ms) n h =
    go (eqb (last_marked (suc d) ms) 0) (leb n d) refl refl (last_marked_by (suc d) ms n (λ k l. h (suc k) (omega arith)))
  where
    go : (t u : Bool) → eqb (last_marked (suc d) ms) 0 ≡ t → leb n d ≡ u → last_marked (suc d) ms ≤ n → last_marked d (some i ∷ ms) ≤ n
    go true true e f r = absurd (some-ne-none i (h zero (omega (arith, leb-true n d f))))
    go true false e f r = rw e (leb-false n d f)
    go false u e f r = rw e r

-- MARKS: none is written without a mark, and a mark above the others is written last
pub marks_bytes_none : (d : ℕ) (ms : List (Option ℕ)) → ((k : ℕ) → get_or ms k none ≡ none) → marks_bytes d ms ≡ []
unfolding marks_bytes
marks_bytes_none d [] h = refl
marks_bytes_none d (m ∷ ms) h = rw (h zero) (marks_bytes_none (suc d) ms (λ k. h (suc k)))

pub marks_bytes_set : (d : ℕ) (ms : List (Option ℕ)) (k i : ℕ) → ((j : ℕ) → k ≤ j → get_or ms j none ≡ none) → k < length ms →
    marks_bytes d (set ms k (some i)) ≡ marks_bytes d ms ++ mark_bytes (d + k) (some i)
unfolding marks_bytes
marks_bytes_set d [] k i h l = absurd (not-suc-le-zero l)
marks_bytes_set d (m ∷ ms) zero i h l =
    let e : m ≡ none = h zero (omega arith) in
    rw (e, marks_bytes_none (suc d) ms (λ k. h (suc k) (omega arith)), add-zero)
marks_bytes_set d (m ∷ ms) (suc k) i h l =
    rw (marks_bytes_set (suc d) ms k i (λ j z. h (suc j) (omega arith)) (omega arith), add-suc, suc-add)
    (sym (append_assoc (mark_bytes d m) (marks_bytes (suc d) ms) (mark_bytes (suc (d + k)) (some i))))
