-- A run's history. No two of its records make the same row, and no two cut the same row's link; so it has at most one of each for a row,
-- which is 1,024 records, of 5,632 bytes. It replays to what the run leaves; and where each row made fits, that is well formed.
use mathlib.Core.Path.{◌≡◌, refl, sym, ap, ◌∙◌}
use mathlib.Core.Bool.{Bool, true, false, false≢true}
use mathlib.Core.Logic.{◌≢◌}
use mathlib.Core.List.{List, [], ◌∷◌, ◌++◌}
use mathlib.Core.Option.{Option, none, some, none-ne-some}
use Prim.Native.Nat.{ℕ, zero, suc, ◌+◌, ◌*◌, ◌≤◌, ◌<◌}
use native.Mathlib.Omega.{arith}
use native.Mathlib.Decide.{dec_lt}
use lib.Dec.{ltb, eqb}
use lib.ListN.{length, length-append}
use borrow.Author.Tests.{ltb-true, ltb-false, eqb-true, eqb-false, eq-eqb}
use Rattle.model.specs.Base.{bit}
use Rattle.model.specs.Limits.{max_rows}
use Rattle.model.specs.Table.{Row, Table, row_at, count, has_parent, with_row, linked, tag_fits, parent_fits}
use Rattle.model.specs.History.{Record, made, cut, is_made, is_cut, makes, cuts, times, record_bytes, history_bytes, made_size, cut_size}
use Rattle.model.specs.History.{replayed, replay_all}
use Rattle.model.specs.Run.{State, state, with_made, cut_row}
use Rattle.model.specs.Leads.{Leads, begun, row_made, link_cut, Attained}
use Rattle.model.proofs.BoolLaws.{bit_le, by_cases, eq_cases}
use Rattle.model.proofs.TableLaws.{parent_count, Well}
use Rattle.model.proofs.GrowLaws.{count_with_row, row_at_with_row_old, count_linked, row_at_linked_same, row_at_linked_other}
use Rattle.model.proofs.GrowLaws.{well_with_row, well_linked}
use Rattle.model.proofs.FormLaws.{length_record_bytes}
use Rattle.model.proofs.LeadsLaws.{leads_few}

-- RECORDS counted by a test
pub times_snoc : (f : Record → Bool) (rs : List Record) (r : Record) → times f (rs ++ (r ∷ [])) ≡ times f rs + bit (f r)
unfolding times
times_snoc f [] r = omega arith
times_snoc f (q ∷ rs) r = omega (arith, times_snoc f rs r)

-- each record is of a row made or of a link cut
pub made_or_cut : (rs : List Record) → times is_made rs + times is_cut rs ≡ length rs
unfolding times
made_or_cut [] = refl
made_or_cut (made i r ∷ rs) = omega (arith, made_or_cut rs)
made_or_cut (cut i p ∷ rs) = omega (arith, made_or_cut rs)

-- so a history's bytes are those of its rows made and of its links cut
bytes_by : (rs : List Record) → length (history_bytes rs) ≡ made_size * times is_made rs + cut_size * times is_cut rs
unfolding times history_bytes
bytes_by [] = refl
bytes_by (made i r ∷ rs) =
    omega (arith, bytes_by rs, length-append (record_bytes (made i r)) (history_bytes rs), length_record_bytes (made i r))
bytes_by (cut i p ∷ rs) =
    omega (arith, bytes_by rs, length-append (record_bytes (cut i p)) (history_bytes rs), length_record_bytes (cut i p))

-- what a row made and a link cut add
module _ (f : Record → Bool) (s : State) where
  times_made : (r : Row) → times f (with_made s r).history ≡ times f s.history + bit (f (made (count s.plan) r))
  times_made r = times_snoc f s.history (made (count s.plan) r)

  times_cut : (i p : ℕ) → times f (cut_row s i p).history ≡ times f s.history + bit (f (cut i p))
  times_cut i p = times_snoc f s.history (cut i p)

-- ONE FOR EACH ROW. The row that a record is of
abbrev record_row : Record → ℕ
record_row (made i r) = i
record_row (cut i p) = i

-- the sum over the rows below n
unfoldable sum : (ℕ → ℕ) → ℕ → ℕ
sum g zero = 0
sum g (suc n) = g n + sum g n

sum_ones : (g : ℕ → ℕ) (n : ℕ) → ((i : ℕ) → g i ≤ 1) → sum g n ≤ n
unfolding sum
sum_ones g zero h = omega arith
sum_ones g (suc n) h = omega (arith, h n, sum_ones g n h)

sum_at : (g : ℕ → ℕ) (j n : ℕ) → j < n → g j ≤ sum g n
unfolding sum
sum_at g j zero l = absurd (omega arith)
sum_at g j (suc n) l =
    eq_cases j n (λ e. rw e (omega arith)) (λ e. let k = sum_at g j n (omega arith) in omega arith)

sum_plus : (g h : ℕ → ℕ) (n : ℕ) → sum (λ i. g i + h i) n ≡ sum g n + sum h n
unfolding sum
sum_plus g h zero = refl
sum_plus g h (suc n) = omega (arith, sum_plus g h n)

-- f i is the test g, asked of the records of row i alone: if each row has at most one record that passes, and no row from n on has one,
-- then at most n records pass
module _ (g : Record → Bool) (f : ℕ → Record → Bool) (own : (r : Record) → g r ≡ true → f (record_row r) r ≡ true) (n : ℕ) where
  own_row : (r : Record) → (n ≤ record_row r → f (record_row r) r ≡ false) → bit (g r) ≤ sum (λ i. bit (f i r)) n
  own_row r h =
      by_cases (g r)
      (λ e.
      let one : bit (f (record_row r) r) ≡ 1 = ap bit (own r e) in
      let two : bit (g r) ≡ 1 = ap bit e in
      go (dec_lt (record_row r) n) one two)
      (λ e. let none : bit (g r) ≡ 0 = ap bit e in omega arith)
    where
      go : Dec (record_row r < n) → bit (f (record_row r) r) ≡ 1 → bit (g r) ≡ 1 → bit (g r) ≤ sum (λ i. bit (f i r)) n
      go (yes l) one two = omega (arith, sum_at (λ i. bit (f i r)) (record_row r) n l)
      go (no l) one two = absurd (let z : bit (f (record_row r) r) ≡ 0 = ap bit (h (omega arith)) in omega arith)

  times_rows : (rs : List Record) → ((i : ℕ) → n ≤ i → times (f i) rs ≡ 0) → times g rs ≤ sum (λ i. times (f i) rs) n
  unfolding times
  times_rows [] h = omega arith
  times_rows (r ∷ rs) h =
      omega (
        arith,
        own_row r (λ l. bit_none (f (record_row r) r) (times (f (record_row r)) rs) (h (record_row r) l)),
        times_rows rs (λ i l. let k = h i l in omega arith),
        sum_plus (λ i. bit (f i r)) (λ i. times (f i) rs) n,
      )
    where
      bit_none : (t : Bool) (k : ℕ) → bit t + k ≡ 0 → t ≡ false
      bit_none false k e = refl
      bit_none true k e = absurd (omega arith)

  times_once : (rs : List Record) → ((i : ℕ) → times (f i) rs ≤ 1) → ((i : ℕ) → n ≤ i → times (f i) rs ≡ 0) → times g rs ≤ n
  times_once rs h k = omega (arith, times_rows rs k, sum_ones (λ i. times (f i) rs) n h)

-- of rows made, and of links cut
makes_own : (r : Record) → is_made r ≡ true → makes (record_row r) r ≡ true
makes_own (made i r) e = eq-eqb i i refl
makes_own (cut i p) e = absurd (false≢true e)

makes_on : (i : ℕ) (r : Record) → makes i r ≡ true → record_row r ≡ i
makes_on i (made j r) e = eqb-true j i e
makes_on i (cut j p) e = absurd (false≢true e)

cuts_own : (r : Record) → is_cut r ≡ true → cuts (record_row r) r ≡ true
cuts_own (made i r) e = absurd (false≢true e)
cuts_own (cut i p) e = eq-eqb i i refl

cuts_on : (i : ℕ) (r : Record) → cuts i r ≡ true → record_row r ≡ i
cuts_on i (made j r) e = absurd (false≢true e)
cuts_on i (cut j p) e = eqb-true j i e

-- A HISTORY from the table x on, whatever rows are made
module _ {F : Table → Row → Type 0} (x : Table) where
  -- A ROW THAT IS NOT THERE YET has no record
  ran_within : (f : Record → Bool) (i : ℕ) → ((r : Record) → f r ≡ true → record_row r ≡ i) → {s : State} → Leads F (state x []) s →
      count s.plan ≤ i → times f s.history ≡ 0
  unfolding times
  ran_within f i on begun l = refl
  ran_within f i on (row_made s r q c g) l =
      let z = made (count s.plan) r in
      let n = count_with_row s.plan r in
      let k = by_cases (f z) (λ e. absurd (let h = on z e in omega arith)) (λ e. ap bit e) in
      omega (arith, ran_within f i on q (omega arith), times_made f s r)
  ran_within f i on (link_cut s j p q e) l =
      let m = count_linked s.plan j none in
      let n = parent_count s.plan j p e in
      let k = by_cases (f (cut j p)) (λ e. absurd (let h = on (cut j p) e in omega arith)) (λ e. ap bit e) in
      omega (arith, ran_within f i on q (omega arith), times_cut f s j p)

  -- EACH ROW IS CUT AT MOST ONCE: a row that is cut has no parent any more, and none gets one later
  ran_cut_parent : {s : State} → Leads F (state x []) s → (i : ℕ) →
      times (cuts i) s.history + bit (has_parent (row_at s.plan i).parent) ≤ 1
  unfolding times
  ran_cut_parent begun i = omega (arith, bit_le (has_parent (row_at x i).parent))
  ran_cut_parent (row_made s r q c g) i = go (ltb i (count s.plan)) refl (ran_cut_parent q i)
    where
      go : (t : Bool) → ltb i (count s.plan) ≡ t → times (cuts i) s.history + bit (has_parent (row_at s.plan i).parent) ≤ 1 →
          times (cuts i) (with_made s r).history + bit (has_parent (row_at (with_row s.plan r) i).parent) ≤ 1
      go true e v = rw (row_at_with_row_old s.plan r i (ltb-true _ _ e)) (omega (arith, times_made (cuts i) s r))
      go false e v =
          let n = ran_within (cuts i) i (cuts_on i) q (ltb-false _ _ e) in
          omega (arith, times_made (cuts i) s r, bit_le (has_parent (row_at (with_row s.plan r) i).parent))
  ran_cut_parent (link_cut s j p q e) i = go (eqb j i) refl (ran_cut_parent q i)
    where
      -- the row that is cut has no parent now, and the others have what they had
      cut_none : has_parent (row_at (cut_row s j p).plan j).parent ≡ false
      cut_none = ap (λ (w : Row). has_parent w.parent) (row_at_linked_same s.plan j none (parent_count s.plan j p e))

      cut_other : i ≢ j → has_parent (row_at (cut_row s j p).plan i).parent ≡ has_parent (row_at s.plan i).parent
      cut_other n = ap (λ (w : Row). has_parent w.parent) (row_at_linked_other s.plan j none i n)

      go : (t : Bool) → eqb j i ≡ t → times (cuts i) s.history + bit (has_parent (row_at s.plan i).parent) ≤ 1 →
          times (cuts i) (cut_row s j p).history + bit (has_parent (row_at (cut_row s j p).plan i).parent) ≤ 1
      go true d v =
          let m : j ≡ i = eqb-true j i d in
          let a : bit (has_parent (row_at s.plan i).parent) ≡ 1 =
          ap (λ (n : ℕ). bit (has_parent (row_at s.plan n).parent)) (sym m) ∙ ap (λ (o : Option ℕ). bit (has_parent o)) e in
          let b : bit (has_parent (row_at (cut_row s j p).plan i).parent) ≡ 0 =
          ap (λ (n : ℕ). bit (has_parent (row_at (cut_row s j p).plan n).parent)) (sym m) ∙ ap bit cut_none in
          let c : bit (eqb j i) ≡ 1 = ap bit d in
          omega (arith, times_cut (cuts i) s j p)
      go false d v =
          let a : bit (has_parent (row_at (cut_row s j p).plan i).parent) ≡ bit (has_parent (row_at s.plan i).parent) =
          ap bit (cut_other (λ (n : i ≡ j). eqb-false j i d (sym n))) in
          let c : bit (eqb j i) ≡ 0 = ap bit d in
          omega (arith, times_cut (cuts i) s j p)

  -- no row is cut twice
  pub ran_cut_once : {s : State} → Leads F (state x []) s → (i : ℕ) → times (cuts i) s.history ≤ 1
  ran_cut_once r i = omega (arith, ran_cut_parent r i)

  -- EACH ROW IS MADE AT MOST ONCE: a new row takes the next number
  pub ran_made_once : {s : State} → Leads F (state x []) s → (i : ℕ) → times (makes i) s.history ≤ 1
  unfolding times
  ran_made_once begun i = omega arith
  ran_made_once (row_made s r q c g) i = go (eqb (count s.plan) i) refl (ran_made_once q i)
    where
      go : (t : Bool) → eqb (count s.plan) i ≡ t → times (makes i) s.history ≤ 1 → times (makes i) (with_made s r).history ≤ 1
      go true e v =
          let m = eqb-true (count s.plan) i e in
          let n = ran_within (makes i) i (makes_on i) q (omega arith) in
          omega (arith, bit_le (eqb (count s.plan) i), times_made (makes i) s r)
      go false e v =
          let c : bit (eqb (count s.plan) i) ≡ 0 = ap bit e in
          omega (arith, times_made (makes i) s r)
  ran_made_once (link_cut s j p q e) i = omega (arith, ran_made_once q i, times_cut (makes i) s j p)

  -- SO there are no more of either than rows
  module _ (few : count x ≤ max_rows) {s : State} (r : Leads F (state x []) s) where
    pub ran_made : times is_made s.history ≤ max_rows
    ran_made =
        let m = times_once is_made makes makes_own (count s.plan) s.history (ran_made_once r)
        (λ i l. ran_within (makes i) i (makes_on i) r l) in
        omega (arith, leads_few few r)

    pub ran_cuts : times is_cut s.history ≤ max_rows
    ran_cuts =
        let m = times_once is_cut cuts cuts_own (count s.plan) s.history (ran_cut_once r)
        (λ i l. ran_within (cuts i) i (cuts_on i) r l) in
        omega (arith, leads_few few r)

    -- at most 1,024 records
    pub ran_length : length s.history ≤ 2 * max_rows
    ran_length = omega (arith, made_or_cut s.history, ran_made, ran_cuts)

    -- of at most 5,632 bytes
    pub ran_bytes : length (history_bytes s.history) ≤ (made_size + cut_size) * max_rows
    ran_bytes = omega (arith, bytes_by s.history, ran_made, ran_cuts)

-- of a state that is come to
module _ {s : State} (a : Attained s) where
  pub attained_length : length s.history ≤ 2 * max_rows
  attained_length = let (x, q) = a in ran_length x q.0 q.1

  pub attained_bytes : length (history_bytes s.history) ≤ (made_size + cut_size) * max_rows
  attained_bytes = let (x, q) = a in ran_bytes x q.0 q.1

-- REPLAYED: the history on the earlier table gives the later one
replay_all_snoc : (x : Table) (rs : List Record) (r : Record) → replay_all x (rs ++ (r ∷ [])) ≡ replayed (replay_all x rs) r
unfolding replay_all
replay_all_snoc x [] r = refl
replay_all_snoc x (q ∷ rs) r = replay_all_snoc (replayed x q) rs r

module _ {F : Table → Row → Type 0} (x : Table) where
  pub ran_replay : {s : State} → Leads F (state x []) s → replay_all x s.history ≡ s.plan
  unfolding replay_all
  ran_replay begun = refl
  ran_replay (row_made s r q c f) =
      replay_all_snoc x s.history _ ∙ ap (λ (y : Table). with_row y r) (ran_replay q)
  ran_replay (link_cut s i p q e) =
      replay_all_snoc x s.history _ ∙ ap (λ (y : Table). linked y i none) (ran_replay q)

-- rows that fit their table: its tag, and its parent
abbrev pub Fits : Table → Row → Type 0
Fits x r = (tag_fits r ≡ true) × (parent_fits x (count x) r.parent ≡ true)

-- THE STATES that a script's run on x can come to
abbrev pub ComesTo : Table → State → Type 0
ComesTo x s = Leads Fits (state x []) s

-- a cut keeps the table well formed
well_cut : (x : Table) (i p : ℕ) → Well x → (row_at x i).parent ≡ some p → Well (linked x i none)
well_cut x i p w e =
    well_linked x i none w.tree (parent_count x i p e) (λ q h. absurd (none-ne-some q h)) (λ d h. refl) w

pub ran_well : (x : Table) → Well x → {s : State} → ComesTo x s → Well s.plan
ran_well x w begun = w
ran_well x w (row_made s r q c f) = let v = ran_well x w q in well_with_row s.plan r v.tree f.0 f.1 v c
ran_well x w (link_cut s i p q e) = well_cut s.plan i p (ran_well x w q) e
