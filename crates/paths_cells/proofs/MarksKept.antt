-- After any calls each mark is 1 exactly where a call marked its pair, else 0: MarksKept, MarkAllowed. A byte is followed through the
-- calls: it is 1 once one of them sets it. The calls that set a pair's byte are those that mark the pair, since no other has its place.
use mathlib.Core.Path.{◌≡◌, refl, ap, sym, ◌∙◌}
use mathlib.Core.Bool.{Bool, true, false, ◌&&◌, ◌||◌, cond, or-false, or-true, or_assoc}
use mathlib.Core.List.{List, [], ◌∷◌}
use Prim.Native.Nat.{ℕ, ◌<◌}
use lib.Dec.{eqb}
use lib.ListN.{length, get_or, set, length-set}
use lib.Seq.{get_or-set_same, get_or-set_other}
use borrow.Author.Tests.{eqb-true, eqb-false, eq-eqb}
use Rattle.model.specs.Base.{All, nothing, also, any, bit}
use Rattle.model.proofs.BoolLaws.{and_left, and_right, and_both, bool_iff, cond_cases}
use Rattle.paths_cells.specs.Pairs.{relations, place_of, mark_at, HasRows, cleared, marked, PairPre}
use Rattle.paths_cells.specs.Promise.{Call, InTable, called, after, marks, sets, MarksKept, MarkAllowed}
use Rattle.paths_cells.proofs.MarkLaws.{same_rows, fewer_rows, pair_within, place_own, marked_is, cleared_at, cleared_length}

abbrev placed : ℕ → Call → ℕ
placed m c = place_of m c.relation c.first c.second

-- ONE CALL: the length stays, its pair is one of the table, and a byte is 1 if it was or the call sets it
call_length : (m : ℕ) (t : List ℕ) (c : Call) → length (called m t c) ≡ length t
call_length m t c = cond_cases (λ x. length x ≡ length t) c.holds (λ _. length-set t (placed m c) 1) (λ _. refl)

module _ (t : List ℕ) (m n : ℕ) (c : Call) (room : HasRows t m n) (inside : InTable m n c) where
  call_pair : PairPre t m c.relation c.first c.second
  call_pair = record { room = fewer_rows t m n c.first room inside.1; relation = inside.0; column = inside.2 }

  call_at : (i : ℕ) (b : Bool) → get_or t i 0 ≡ bit b → (h s : Bool) → eqb i (placed m c) ≡ s →
      get_or (cond h (marked t m c.relation c.first c.second) t) i 0 ≡ bit (b || (h && s))
  call_at i b e false s q = e ∙ ap bit (sym (or-false b))
  call_at i b e true false q = get_or-set_other t (placed m c) i 1 0 (eqb-false i (placed m c) q) ∙ e ∙ ap bit (sym (or-false b))
  call_at i b e true true q =
      ap (λ (j : ℕ). get_or (set t (placed m c) 1) j 0) (eqb-true i (placed m c) q) ∙
      get_or-set_same t (placed m c) 1 0 (pair_within call_pair) ∙ ap bit (sym (or-true b))

-- ALL OF THEM: the length stays, and a byte is 1 if it was or one of the calls sets it
after_length : (m : ℕ) (t : List ℕ) (cs : List Call) → length (after m t cs) ≡ length t
unfolding after
after_length m t [] = refl
after_length m t (c ∷ cs) = after_length m (called m t c) cs ∙ call_length m t c

after_at : (m n i : ℕ) (t : List ℕ) (b : Bool) {cs : List Call} → All (InTable m n) cs → HasRows t m n → get_or t i 0 ≡ bit b →
    get_or (after m t cs) i 0 ≡ bit (b || any (sets m i) cs)
unfolding after any
after_at m n i t b nothing room e = e ∙ ap bit (sym (or-false b))
after_at m n i t b (also {a = c} {l = cs} h hs) room e =
    after_at m n i (called m t c) (b || sets m i c) hs (same_rows t (called m t c) m n (call_length m t c) room)
    (call_at t m n c room h i b e c.holds (eqb i (placed m c)) refl) ∙
    ap bit (or_assoc b (sets m i c) (any (sets m i) cs))

-- THE PAIR of a place: a call sets its byte exactly where it marks it
module _ (m n r k l : ℕ) (relation : r < relations) (column : l < m) where
  same_call : (c : Call) → InTable m n c → sets m (place_of m r k l) c ≡ marks r k l c
  same_call c h = ap (λ (b : Bool). c.holds && b) (bool_iff (eqb (place_of m r k l) (placed m c)) (R && K && L) own there)
    where
      R : Bool
      R = eqb r c.relation

      K : Bool
      K = eqb k c.first

      L : Bool
      L = eqb l c.second

      own : eqb (place_of m r k l) (placed m c) ≡ true → (R && K && L) ≡ true
      own e =
          let o = place_own m c.relation c.first c.second r k l h.0 relation h.2 column (eqb-true _ _ e) in
          and_both (R && K) L (and_both R K (eq-eqb _ _ o.0) (eq-eqb _ _ o.1)) (eq-eqb _ _ o.2)

      there : (R && K && L) ≡ true → eqb (place_of m r k l) (placed m c) ≡ true
      there e =
          let a = and_left (R && K) L e in
          let p = eqb-true r c.relation (and_left R K a) in
          let q = eqb-true k c.first (and_right R K a) in
          let s = eqb-true l c.second (and_right (R && K) L e) in
          eq-eqb (place_of m r k l) (placed m c) (cc)

  same_any : {cs : List Call} → All (InTable m n) cs → any (sets m (place_of m r k l)) cs ≡ any (marks r k l) cs
  unfolding any
  same_any nothing = refl
  same_any (also {a = c} {l = cs} h hs) = rw (same_call c h, same_any hs)

-- FROM CLEARED marks
pub marks_kept : MarksKept
marks_kept t m n cs room inside = (
  λ r k l h _ g. (at_pair r k l h g, marked_is (after m (cleared t) cs) m r k l (at_pair r k l h g)),
  after_length m (cleared t) cs ∙ cleared_length t,
  at_place,
)
  where
    at_place : (i : ℕ) → get_or (after m (cleared t) cs) i 0 ≡ bit (any (sets m i) cs)
    at_place i = after_at m n i (cleared t) false inside (same_rows t (cleared t) m n (cleared_length t) room) (cleared_at t i)

    at_pair : (r k l : ℕ) → r < relations → l < m → mark_at (after m (cleared t) cs) m r k l ≡ bit (any (marks r k l) cs)
    at_pair r k l h g = at_place (place_of m r k l) ∙ ap bit (same_any m n r k l h g inside)

pub mark_allowed : MarkAllowed
mark_allowed t m n cs c room inside h =
    let kept = marks_kept t m n cs room inside in
    let mark = kept.0 c.relation c.first c.second h.0 h.1 h.2 in
    let now = after m (cleared t) cs in (
      λ pre e. sym mark.1 ∙ marked_is now m c.relation c.first c.second (pre.free e),
      λ f. record { pair = call_pair now m n c (same_rows t now m n kept.1 room) h; free = λ e. mark.0 ∙ ap bit (f e) },
    )
