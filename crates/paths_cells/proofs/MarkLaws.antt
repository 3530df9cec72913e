-- Where marks stand: the byte of a relation and a pair is in the table and no other's, so a mark changes one of them.
use mathlib.Core.Path.{◌≡◌, refl, ap, sym, ◌∙◌}
use mathlib.Core.Bool.{Bool, true, false, cond}
use mathlib.Core.List.{List, [], ◌∷◌}
use Prim.Native.Nat.{ℕ, zero, suc, ◌+◌, ◌*◌, ◌/◌, ◌%◌, ◌≤◌, ◌<◌}
use native.Mathlib.Nat.{mul_comm, mul-le-mul_left, mul-add}
use native.Mathlib.Omega.{arith}
use lib.Arith.{digits_div, digits_mod}
use lib.Dec.{eqb}
use lib.ListN.{length, get_or, set, length-set, length-map}
use lib.Seq.{get_or-set_same, get_or-set_other, set-get_or}
use Rattle.model.specs.Base.{bit}
use Rattle.model.proofs.BoolLaws.{eq_cases}
use Rattle.paths_cells.specs.declared.pairs.Relation.{Relation}
use Rattle.paths_cells.specs.declared.pairs.Relation.TheVariants.{OnElement, Down, Up, OnLeaf}
use Rattle.paths_cells.specs.Pairs.{relations, relation_number, place_of, mark_at, is_marked, HasRows, cleared, marked, PairPre, MarkPre}

-- ROOM
pub has_rows : (t : List ℕ) (m n : ℕ) → m * (relations * n) ≤ length t → HasRows t m n
unfolding HasRows
has_rows t m n h = h

pub same_rows : (t t' : List ℕ) (m n : ℕ) → length t' ≡ length t → HasRows t m n → HasRows t' m n
unfolding HasRows
same_rows t t' m n e h = omega (arith, e, h)

pub fewer_rows : (t : List ℕ) (m n k : ℕ) → HasRows t m n → k < n → HasRows t m (k + 1)
unfolding HasRows
fewer_rows t m n k h l =
    let e : relations * (k + 1) ≤ relations * n = omega arith in
    let f : m * (relations * (k + 1)) ≤ m * (relations * n) = mul-le-mul_left m e in
    omega (arith, f, h)

-- THE NUMBER of a relation is one of four
pub relation_low : (r : Relation) → relation_number r < relations
relation_low OnElement = omega arith
relation_low Down = omega arith
relation_low Up = omega arith
relation_low OnLeaf = omega arith

-- WITHIN the rows
row_end : (m r k l : ℕ) → r < relations → l < m → place_of m r k l < m * (relations * (k + 1))
row_end m r k l h g =
    let e : relations * k + r + 1 ≤ relations * (k + 1) = omega arith in
    let f : m * (relations * k + r + 1) ≤ m * (relations * (k + 1)) = mul-le-mul_left m e in
    let d : m * (relations * k + r + 1) ≡ m * (relations * k + r) + m * 1 = mul-add m (relations * k + r) 1 in
    omega (arith, f, d, g)

pub pair_within : {t : List ℕ} {m r k l : ℕ} → PairPre t m r k l → place_of m r k l < length t
unfolding HasRows
pair_within {t} {m} {r} {k} {l} pre =
    let e = row_end m r k l pre.relation pre.column in
    omega (arith, e, pre.room)

pub row_within : {t : List ℕ} {m r k l : ℕ} → PairPre t m r k l → relations * k + r ≤ length t
row_within {t} {m} {r} {k} {l} pre =
    let e : 1 ≤ m = omega (arith, pre.column) in
    let f : (relations * k + r) * 1 ≤ (relations * k + r) * m = mul-le-mul_left (relations * k + r) e in
    omega (arith, f, mul_comm m (relations * k + r), pair_within pre)

-- ONE PLACE for each
place_turned : (m a l : ℕ) → m * a + l ≡ a * m + l
place_turned m a l = ap (λ (x : ℕ). x + l) (mul_comm m a)

same_row : (m a b l j : ℕ) → l < m → j < m → m * a + l ≡ m * b + j → a ≡ b
same_row m a b l j h g e =
    sym (digits_div a h) ∙ ap (λ (x : ℕ). x / m) (sym (place_turned m a l) ∙ e ∙ place_turned m b j) ∙ digits_div b g

same_column : (m a b l j : ℕ) → l < m → j < m → m * a + l ≡ m * b + j → l ≡ j
same_column m a b l j h g e =
    sym (digits_mod a h) ∙ ap (λ (x : ℕ). x % m) (sym (place_turned m a l) ∙ e ∙ place_turned m b j) ∙ digits_mod b g

pub place_own : (m r k l s i j : ℕ) → r < relations → s < relations → l < m → j < m → place_of m s i j ≡ place_of m r k l →
    (s ≡ r) × (i ≡ k) × (j ≡ l)
place_own m r k l s i j h g a b e =
    let row : relations * i + s ≡ relations * k + r = same_row m (relations * i + s) (relations * k + r) j l b a e in
    (omega (arith, row), omega (arith, row), same_column m (relations * i + s) (relations * k + r) j l b a e)

-- MARKED where it holds
module _ {t : List ℕ} {m r k l : ℕ} {holds : Bool} (pre : MarkPre t m r k l holds) where
  abbrev after : List ℕ
  after = cond holds (marked t m r k l) t

  pub written : (h : Bool) → holds ≡ h → set t (place_of m r k l) (bit h) ≡ cond h (marked t m r k l) t
  written true e = refl
  written false e = ap (set t (place_of m r k l)) (sym (pre.free e)) ∙ set-get_or t (place_of m r k l) 0

  as_written : after ≡ set t (place_of m r k l) (bit holds)
  as_written = sym (written holds refl)

  module _ {t' : List ℕ} (is : t' ≡ after) where
    pub mark_length : length t' ≡ length t
    mark_length = ap length (is ∙ as_written) ∙ length-set t (place_of m r k l) (bit holds)

    pub mark_here : mark_at t' m r k l ≡ bit holds
    mark_here =
        ap (λ (x : List ℕ). mark_at x m r k l) (is ∙ as_written) ∙
        get_or-set_same t (place_of m r k l) (bit holds) 0 (pair_within pre.pair)

    pub mark_others : (s i j : ℕ) → s < relations → j < m → (s ≡ r → i ≡ k → j ≡ l → ⊥) → mark_at t' m s i j ≡ mark_at t m s i j
    mark_others s i j h g n =
        ap (λ (x : List ℕ). mark_at x m s i j) (is ∙ as_written) ∙
        get_or-set_other t (place_of m r k l) (place_of m s i j) (bit holds) 0
        (λ e. let o = place_own m r k l s i j pre.pair.relation h pre.pair.column g e in n o.0 o.1 o.2)

-- READ: what a byte of 1 or 0 says
pub bit_set : (h : Bool) → eqb (bit h % 2) 1 ≡ h
bit_set true = refl
bit_set false = refl

pub marked_is : (t : List ℕ) (m r k l : ℕ) {h : Bool} → mark_at t m r k l ≡ bit h → is_marked t m r k l ≡ h
marked_is t m r k l {h} e = ap (λ (x : ℕ). eqb (x % 2) 1) e ∙ bit_set h

-- CLEARED
pub cleared_at : (t : List ℕ) (i : ℕ) → get_or (cleared t) i 0 ≡ 0
unfolding cleared
cleared_at [] i = refl
cleared_at (b ∷ t) zero = refl
cleared_at (b ∷ t) (suc i) = cleared_at t i

pub cleared_length : (t : List ℕ) → length (cleared t) ≡ length t
unfolding cleared
cleared_length t = length-map t (λ (b : ℕ). 0)
