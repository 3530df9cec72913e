-- A value grown item by item in the work area, and the rows of a step collected.
use mathlib.Core.Path.{◌≡◌, refl, ap, sym, ◌∙◌, subst}
use mathlib.Core.Bool.{Bool, true, false, ◌&&◌, not, and_comm, and-false, cond}
use mathlib.Core.List.{List, [], ◌∷◌, ◌++◌, append-nil, append_assoc}
use Prim.Native.Nat.{ℕ, zero, suc, ◌+◌, ◌-◌, ◌≤◌, ◌<◌}
use native.Mathlib.Omega.{arith}
use native.Mathlib.Nat.{add-zero, zero-add}
use lib.Dec.{eqb}
use lib.ListN.{length, get_or, take, drop, set, replicate, length-append, length-drop}
use lib.Seq.{length-take-le, drop-cons, take-set-le}
use Rattle.model.specs.Base.{any, bit}
use Rattle.model.specs.Limits.{max_links}
use Rattle.model.specs.Table as model
use Rattle.model.specs.Script.{Step, step_by}
use Rattle.model.specs.Step.{Letter, leaf_letter, named, is_reached, reaches, admits, letter_of, stepped, collect}
use Rattle.model.proofs.ListLaws.{take_set}
use Rattle.model.proofs.Collect.{collect_append, collect_same, collect_none}
use Rattle.plan_table.specs.Packed.{row_of, decode_parts}
use Rattle.plan_table.proofs.PackedLaws.{count_decode, row_at_decode}
use Rattle.run_query.specs.Stepping.{FlagPre, Flagged, ClearBelow, Reached, RowsHeld}
use Rattle.run_query.specs.Values.{value_at, Appended, Grown, kept, kept_rows, SteppedTo, StepPre, StepPost}
use Rattle.run_query.proofs.PassLaws.{not_zero, nothing_down}

-- NONE
pub value_none : (w : List ℕ) (i : ℕ) → value_at w i i ≡ []
value_none w i = let e : i - i ≡ 0 = omega arith in ap (λ (k : ℕ). take k (drop i w)) e

-- ONE
pub value_one : (w : List ℕ) (i j : ℕ) → j - i ≡ 1 → i < length w → get_or w i 0 ∷ [] ≡ value_at w i j
value_one w i j e h = sym (ap (λ (k : ℕ). take k (drop i w)) e ∙ ap (take 1) (drop-cons w i 0 h))

-- GROWN
pub cond_low : (t : Bool) (r : ℕ) → cond t (r + 1) r ≤ r + 1
cond_low true r = omega arith
cond_low false r = omega arith

pub appended_none : (w : List ℕ) (from : ℕ) → Appended [] w from w from
appended_none w from = record { front = sym (append-nil (take from w)); end = sym (add-zero from) }

pub appended_if : (t : Bool) (a : ℕ) (v w w' : List ℕ) (from r : ℕ) → r < length w' → Appended v w from w' r →
    Appended (v ++ cond t (a ∷ []) []) w from (set w' r a) (cond t (r + 1) r)
appended_if true a v w w' from r h s =
    record {
      front =
          take_set w' r a h ∙ ap (λ (l : List ℕ). l ++ (a ∷ [])) s.front ∙ append_assoc (take from w) v (a ∷ []);
      end = total;
    }
  where
    total : r + 1 ≡ from + length (v ++ (a ∷ []))
    total = omega (arith, s.end, length-append v (a ∷ []))
appended_if false a v w w' from r h s =
    record {
      front = take-set-le r w' r a (omega arith) ∙ s.front ∙ ap (λ (l : List ℕ). take from w ++ l) (sym (append-nil v));
      end = s.end ∙ ap (λ (l : List ℕ). from + length l) (sym (append-nil v));
    }

-- one item more in any value, or none
pub grown_by : (t : Bool) (a : ℕ) (w : List ℕ) (at : ℕ) → at < length w → (w' : List ℕ) (r : ℕ) → w' ≡ set w at a → r ≡ cond t
    (at + 1) at →
    Grown t a w at w' r
grown_by t a w at h w' r e q =
    record {
      value = λ v u from s. rw (e, q) (appended_if t a v u w from at h s);
      short = omega (arith, q, cond_low t at);
    }

pub grown_none : (t : Bool) (a : ℕ) (w : List ℕ) (at : ℕ) → t ≡ false → Grown t a w at w at
grown_none t a w at e =
    record {
      value = λ v u from s. rw e (subst (λ (l : List ℕ). Appended l u from w at) (sym (append-nil v)) s);
      short = omega arith;
    }

-- one item at most
pub appended_by : (v : List ℕ) (t : Bool) (a : ℕ) → v ≡ cond t (a ∷ []) [] → (w : List ℕ) (from : ℕ) → from < length w →
    (w' : List ℕ) (r : ℕ) → w' ≡ set w from a → r ≡ cond t (from + 1) from → Appended v w from w' r
appended_by v t a f w from h w' r e q = rw (f, e, q) (appended_if t a [] w w from from h (appended_none w from))

-- COLLECTED, one row more
pub collect_next : (f : ℕ → Bool) (n : ℕ) → collect f 0 (n + 1) ≡ collect f 0 n ++ cond (f n) (n ∷ []) []
unfolding collect
collect_next f n = collect_append f 0 n 1 ∙ ap (λ (j : ℕ). collect f 0 n ++ cond (f j) (j ∷ []) []) (zero-add n)

pub length_collect : (f : ℕ → Bool) (i n : ℕ) → length (collect f i n) ≤ n
unfolding collect
length_collect f i zero = omega arith
length_collect f i (suc n) = go (f i) (length_collect f (suc i) n)
  where
    go : (t : Bool) → length (collect f (suc i) n) ≤ n → length (cond t (i ∷ collect f (suc i) n) (collect f (suc i) n)) ≤ suc n
    go true h = omega arith
    go false h = omega arith

-- a test does not look at the axis
pub admits_axis : (a b t n : ℕ) (l : Letter) → admits (step_by a t n) l ≡ admits (step_by b t n) l
admits_axis a b t n leaf_letter = refl
admits_axis a b t n (named m) = refl

-- THE STEP: a row is what it answers where the axis reaches it and it passes the test
module _ (ws : List ℕ) (n axis test name : ℕ) (v ms : List ℕ) (within : n ≤ length ws) where
  abbrev pub any_reaches : (row : ℕ) → Bool
  any_reaches j = any (λ (i : ℕ). reaches (decode_parts n ws ms) axis i j) v

  pub reached_row : (j : ℕ) → j < n → (t : Bool) → t ≡ any_reaches j →
      (t && admits (step_by 0 test name) (letter_of (row_of (get_or ws j 0)))) ≡
      is_reached (decode_parts n ws ms) (step_by axis test name) v j
  reached_row j h t e =
      and_comm t (admits (step_by 0 test name) (letter_of (row_of (get_or ws j 0)))) ∙
      ap (λ (r : model.Row). admits (step_by 0 test name) (letter_of r) && t) (sym (row_at_decode n ws ms within j h)) ∙
      ap (λ (u : Bool). u && t) (admits_axis 0 axis test name (letter_of (model.row_at (decode_parts n ws ms) j))) ∙
      ap (λ (u : Bool). admits (step_by axis test name) (letter_of (model.row_at (decode_parts n ws ms) j)) && u) e

  pub kept_row : (j : ℕ) → j < n → (a : ℕ) → a ≡ bit (any_reaches j) →
      kept ws j a test name ≡ is_reached (decode_parts n ws ms) (step_by axis test name) v j
  kept_row j h a e = reached_row j h (not (eqb a 0)) (ap (λ (i : ℕ). not (eqb i 0)) e ∙ not_zero (any_reaches j))

  pub step_rows : (fs rs : List ℕ) → Flagged v fs → Reached ws n axis fs rs →
      kept_rows ws rs test name n ≡ stepped (decode_parts n ws ms) (step_by axis test name) v
  step_rows fs rs f s =
      collect_same (λ (j : ℕ). kept ws j (get_or rs (j + 1) 0) test name) (is_reached (decode_parts n ws ms) (step_by axis test name) v)
      0 n
      (λ j h. kept_row j (omega arith) (get_or rs (j + 1) 0) (s.flags ms v f j (omega arith))) ∙
      ap (collect (is_reached (decode_parts n ws ms) (step_by axis test name) v) 0) (sym (count_decode n ws ms within))

-- all its rows appended are what it leaves of the value at a place
pub step_post : (ws : List ℕ) (n : ℕ) (s : Step) (v w : List ℕ) (from to : ℕ) (w' : List ℕ) (r : ℕ) → n ≤ length ws → v ≡ value_at w
    from to →
    SteppedTo ws n s v n w from w' r → StepPost ws n s w from to w' r
step_post ws n s v w from to w' r within e h =
    record {
      value = λ ms. subst (λ (u : List ℕ). Appended (stepped (decode_parts n ws ms) s u) w from w' r) e
          (subst (λ (k : ℕ). Appended (collect (is_reached (decode_parts n ws ms) s v) 0 k) w from w' r)
          (sym (count_decode n ws ms within))
          (h ms));
    }

-- collecting: none at first, also up to a row below which none passes, and one row more
pub collected_none : (w : List ℕ) (from : ℕ) (f : ℕ → Bool) → Appended (collect f 0 0) w from w from
unfolding collect
collected_none w from f = appended_none w from

pub collected_above : (w : List ℕ) (from : ℕ) (f : ℕ → Bool) (low : ℕ) → ((j : ℕ) → j < low → f j ≡ false) →
    Appended (collect f 0 low) w from w from
collected_above w from f low h =
    subst (λ (v : List ℕ). Appended v w from w from) (sym (collect_none f 0 low (λ j a b. h j (omega arith)))) (appended_none w from)

pub collected_grown : (f : ℕ → Bool) (n : ℕ) (w w' : List ℕ) (from r : ℕ) → Appended (collect f 0 n) w from w' r → (t : Bool) → t ≡ f n →
    {w'' : List ℕ} {r'' : ℕ} → Grown t n w' r w'' r'' → Appended (collect f 0 (n + 1)) w from w'' r''
collected_grown f n w w' from r s t e {w''} {r''} g =
    subst (λ (v : List ℕ). Appended v w from w'' r'')
    (ap (λ (u : Bool). collect f 0 n ++ cond u (n ∷ []) []) e ∙ sym (collect_next f n)) (g.value (collect f 0 n) w from s)

pub collected_by : (f : ℕ → Bool) (n : ℕ) (w w' : List ℕ) (from r : ℕ) → r < length w' → Appended (collect f 0 n) w from w' r →
    (t : Bool) (w'' : List ℕ) (r'' : ℕ) → t ≡ f n → w'' ≡ set w' r n → r'' ≡ cond t (r + 1) r →
    Appended (collect f 0 (n + 1)) w from w'' r''
collected_by f n w w' from r h s t w'' r'' e a b =
    rw (a, b, e, collect_next f n) (appended_if (f n) n (collect f 0 n) w w' from r h s)

-- the items of a step's value can be flagged
pub flag_pre : {ws : List ℕ} {n axis : ℕ} {w : List ℕ} {from to : ℕ} → StepPre ws n axis w from to →
    FlagPre (replicate max_links 0) (value_at w from to) n
flag_pre {w = w} {from} {to} p =
    record {
      clear = refl;
      low = λ k h. omega (
        arith,
        p.held.few,
        p.low k (omega (arith, h, length-take-le (to - from) (drop from w) (omega (arith, p.within, length-drop from w)))),
      );
      few = p.held.few;
    }

-- no row below the first flag is reached
pub not_yet : (ws : List ℕ) (n : ℕ) (held : RowsHeld ws n) (d : Bool) (fs : List ℕ) (low : ℕ) → ClearBelow n low fs → (test name : ℕ)
    (ms v : List ℕ) → Flagged v fs → (j : ℕ) → j < low → is_reached (decode_parts n ws ms) (step_by (bit d) test name) v j ≡ false
not_yet ws n held d fs low c test name ms v f j h =
    ap (λ (t : Bool). admits (step_by (bit d) test name) (letter_of (model.row_at (decode_parts n ws ms) j)) && t)
    (nothing_down ws n held d fs low c ms v f j h) ∙
    and-false (admits (step_by (bit d) test name) (letter_of (model.row_at (decode_parts n ws ms) j)))
