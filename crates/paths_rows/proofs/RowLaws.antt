-- A row marked column by column: at the start nothing is, each mark adds a column, and one not reached reads as at the start.
use mathlib.Core.Path.{◌≡◌, refl, ap, sym, ◌∙◌, subst}
use mathlib.Core.Bool.{Bool, false, ◌&&◌, ◌||◌, not, cond}
use mathlib.Core.List.{List}
use Prim.Native.Nat.{ℕ, ◌+◌, ◌%◌, ◌≤◌, ◌<◌}
use native.Mathlib.Numerals.{add-one}
use native.Mathlib.Omega.{arith}
use lib.Dec.{eqb}
use lib.ListN.{length, get_or}
use Rattle.std.specs.Borrow.{Bor}
use Rattle.model.specs.Base.{bit}
use Rattle.model.proofs.BoolLaws.{eq_cases}
use Rattle.paths_positions.specs.Answer.{any_up_to}
use Rattle.paths_cells.specs.Pairs.{on_element, down, up, on_leaf, relations, mark_at, is_marked, marked, HasRows, PairPre, MarkPre}
use Rattle.paths_cells.proofs.MarkLaws.{same_rows, mark_length, mark_here, mark_others}
use Rattle.paths_positions.specs.Packed.{root_kind, union_kind}
use Rattle.paths_rows.specs.Columns.{column_at, is_set_at, first_field, kind_field, role_field, deep_field, element_field, leaf_field}
use Rattle.paths_rows.specs.Columns.{named_field, low_field, high_field}
use Rattle.paths_rows.specs.Rows.{is_yes, parent_by, element_by, leaf_by, root_by, down_by, either_by, met_by}
use Rattle.paths_rows.specs.Rows.{RowMarked, Computes, MarkRowPre, MarkRowPost}

-- AT THE START nothing is marked
pub row_start : (t : List ℕ) (m r k : ℕ) (holds : ℕ → Bool) → RowMarked t m r k holds 0 t
row_start t m r k holds = record { size = refl; here = λ l h. absurd (omega arith); others = λ s i j h g n. refl }

-- ONE COLUMN more
row_step : {t t₁ t₂ : List ℕ} {m r k l : ℕ} {holds : ℕ → Bool} {b : Bool} → RowMarked t m r k holds l t₁ → MarkPre t₁ m r k l b →
    b ≡ holds l → t₂ ≡ cond b (marked t₁ m r k l) t₁ → RowMarked t m r k holds (l + 1) t₂
row_step {t} {t₁} {t₂} {m} {r} {k} {l} {holds} {b} d pre e is =
    record {
      size = mark_length pre is ∙ d.size;
      here =
          λ j h. eq_cases j l
          (λ s. ap (mark_at t₂ m r k) s ∙ mark_here pre is ∙ ap bit (e ∙ ap holds (sym s)))
          (λ s.
          mark_others pre is r k j pre.pair.relation (omega (arith, pre.pair.column)) (λ x y z. s z) ∙
          d.here j (omega (arith, s)));
      others =
          λ s i j h g n. mark_others pre is s i j h g (λ x y z. n x y (omega (arith, z))) ∙
          d.others s i j h g (λ x y z. n x y (omega (arith, z)));
    }

-- ON THE WAY a mark of column l is read as at the start
module _ {t t₁ : List ℕ} {m r k l : ℕ} {holds : ℕ → Bool} (d : RowMarked t m r k holds l t₁) where
  reads : (s i : ℕ) → s < relations → l < m → is_marked t₁ m s i l ≡ is_marked t m s i l
  reads s i h a = ap (λ (x : ℕ). eqb (x % 2) 1) (d.others s i l h a (λ x y z. absurd (omega arith)))

-- AT THE END all columns are marked
pub row_end : {t t₁ : List ℕ} {m r k l : ℕ} {holds : ℕ → Bool} → RowMarked t m r k holds l t₁ → l ≡ m → RowMarked t m r k holds m t₁
row_end {t} {t₁} {m} {r} {k} {l} {holds} d e = subst (λ (n : ℕ). RowMarked t m r k holds n t₁) e d

-- ANY of the columns: of none, of one more, of all
pub any_none : (f : ℕ → Bool) → false ≡ any_up_to f 0
unfolding any_up_to
any_none f = refl

pub any_step : (f : ℕ → Bool) (n : ℕ) {a b : Bool} → a ≡ any_up_to f n → b ≡ f n → (a || b) ≡ any_up_to f (n + 1)
unfolding any_up_to
any_step f n {a} {b} e g = ap (λ (x : Bool). x || b) e ∙ ap (λ (x : Bool). any_up_to f n || x) g ∙ ap (any_up_to f) (sym (add-one n))

pub any_end : (f : ℕ → Bool) {n m : ℕ} {a : Bool} → a ≡ any_up_to f n → n ≡ m → a ≡ any_up_to f m
any_end f e g = e ∙ ap (any_up_to f) g

-- THE PASS of `mark_row`, as far as column l: those from there on are not marked yet, and any test that the closure computes is marked
-- below
pub record RowTo (post : Bor (List ℕ) → ℕ → Bool → Type 0) (t : List ℕ) (m r k l : ℕ) (t₁ : List ℕ) (seen : Bool) : Type 0 where
  pub size : length t₁ ≡ length t
  pub clear : (j : ℕ) → l ≤ j → j < m → mark_at t₁ m r k j ≡ 0
  pub is : (holds : ℕ → Bool) → Computes post t m r k holds → RowMarked t m r k holds l t₁ × (seen ≡ any_up_to holds l)

module _ {post : Bor (List ℕ) → ℕ → Bool → Type 0} {t : List ℕ} {m r k : ℕ} (pre : MarkRowPre t m r k) where
  pub pass_none : RowTo post t m r k 0 t false
  pass_none = record { size = refl; clear = λ j h g. pre.clear j g; is = λ holds c. (row_start t m r k holds, any_none holds) }

  module _ {t₁ : List ℕ} {l : ℕ} {seen : Bool} (to : RowTo post t m r k l t₁ seen) (h : l < m) where
    pub pass_asks : (b : Bool) → MarkPre t₁ m r k l b
    pass_asks b =
        record {
          pair = record { room = same_rows t t₁ m (k + 1) to.size pre.room; relation = pre.relation; column = h };
          free = λ e. to.clear l (omega arith) h;
        }

    pub pass_step : {t₂ : List ℕ} {b : Bool} (x : Bor (List ℕ)) → x.now ≡ t₁ → post x l b → t₂ ≡ cond b (marked t₁ m r k l) t₁ →
        RowTo post t m r k (l + 1) t₂ (seen || b)
    pass_step {t₂} {b} x e ran is =
        record {
          size = mark_length (pass_asks b) is ∙ to.size;
          clear = λ j g a.
              mark_others (pass_asks b) is r k j pre.relation a (λ u v w. absurd (omega arith)) ∙ to.clear j (omega arith) a;
          is = λ holds c.
              let d = to.is holds c in
              let v : b ≡ holds l = c x l b h (subst (RowMarked t m r k holds l) (sym e) d.0) ran in
              (row_step d.0 (pass_asks b) v is, any_step holds l d.1 v);
        }

  pub pass_done : {t₁ : List ℕ} {l : ℕ} {seen : Bool} → RowTo post t m r k l t₁ seen → l ≡ m → MarkRowPost post t m r k t₁ seen
  pass_done to e = record { is = λ holds c. let d = to.is holds c in (row_end d.0 e, any_end holds d.1 e) }

-- A PAIR of a table as long
pub pair_asks : (t t₁ : List ℕ) {m i l : ℕ} (s : ℕ) → length t₁ ≡ length t → HasRows t m (i + 1) → s < relations → l < m →
    PairPre t₁ m s i l
pair_asks t t₁ {m} {i} s e h g a = record { room = same_rows t t₁ m (i + 1) e h; relation = g; column = a }

-- WHAT HOLDS of column l, from what the calls return
module _ (c : List ℕ) (l : ℕ) where
  pub element_by_lem : (ps : List ℕ) (n : Bool) (low high : ℕ) {p a b : Bool} {x y : ℕ} → p ≡ is_yes (get_or ps l 0) →
      a ≡ is_set_at c element_field l → b ≡ is_set_at c named_field l → x ≡ column_at c low_field l → y ≡ column_at c high_field l →
      (p && a && (not (n && b) || (eqb x low && eqb y high))) ≡ element_by c ps n low high l
  element_by_lem ps n low high e f g h i = cc

  pub leaf_by_lem : (ps : List ℕ) {p a : Bool} → p ≡ is_yes (get_or ps l 0) → a ≡ is_set_at c leaf_field l → (p && a) ≡ leaf_by c ps l
  leaf_by_lem ps e f = cc

  pub root_by_lem : (low high : ℕ) {x y z : ℕ} → x ≡ column_at c low_field l → y ≡ column_at c high_field l →
      z ≡ column_at c kind_field l →
      (eqb z root_kind && (eqb x low && eqb y high)) ≡ root_by c low high l
  root_by_lem low high e f g = cc

  pub met_by_lem : (t : List ℕ) (m k role : ℕ) {z : ℕ} {a b : Bool} → z ≡ column_at c role_field l → a ≡ is_marked t m on_element k l →
      b ≡ is_marked t m on_leaf k l → (eqb z role && (a || b)) ≡ met_by t m c k role l
  met_by_lem t m k role e f g = cc

  pub parent_by_lem : (t : List ℕ) (m i j s : ℕ) {p a b : Bool} → j ≡ column_at c first_field l → p ≡ is_set_at c deep_field l →
      a ≡ is_marked t m s i j → b ≡ is_marked t m down i j → (a || (p && b)) ≡ parent_by t m c i s l
  parent_by_lem t m i j s e f g h = cc

  pub down_by_lem : {t t₁ : List ℕ} {m k : ℕ} {holds : ℕ → Bool} (i : ℕ) (e d : Bool) {z : ℕ} {a b u : Bool} →
      RowMarked t m down k holds l t₁ → l < m → z ≡ column_at c kind_field l → a ≡ is_marked t₁ m down i l → b ≡ is_marked t₁ m up i l →
      u ≡ is_marked t₁ m on_element k l → (u || (e && not (eqb z union_kind) && (a || (d && b)))) ≡ down_by t m c i k e d l
  down_by_lem {t} {t₁} {m} {k} i e d w h f g n o =
      let x = g ∙ reads w down i (omega arith) h in
      let y = n ∙ reads w up i (omega arith) h in
      let v = o ∙ reads w on_element k (omega arith) h in
      cc

pub either_by_lem : {t t₁ : List ℕ} {m r k l : ℕ} {holds : ℕ → Bool} (x y : ℕ) {a b : Bool} → RowMarked t m r k holds l t₁ →
    r < relations →
    l < m → a ≡ is_marked t₁ m r x l → b ≡ is_marked t₁ m r y l → (a || b) ≡ either_by t m r x y l
either_by_lem {t} {t₁} {m} {r} x y w g h e f =
    let u = e ∙ reads w r x g h in
    let v = f ∙ reads w r y g h in
    cc

-- what a test reads of the table as it is marked until then, it reads as at the start
pub down_same : {t t₁ : List ℕ} {m k l : ℕ} {holds : ℕ → Bool} (c : List ℕ) (i : ℕ) (e d : Bool) → RowMarked t m down k holds l t₁ →
    l < m → down_by t₁ m c i k e d l ≡ down_by t m c i k e d l
down_same {t} {t₁} {m} {k} {l} c i e d w h =
    let x = reads w down i (omega arith) h in
    let y = reads w up i (omega arith) h in
    let z = reads w on_element k (omega arith) h in
    cc

pub either_same : {t t₁ : List ℕ} {m r k l : ℕ} {holds : ℕ → Bool} (a b : ℕ) → RowMarked t m r k holds l t₁ → r < relations → l < m →
    either_by t₁ m r a b l ≡ either_by t m r a b l
either_same {t} {t₁} {m} {r} a b w g h =
    let x = reads w r a g h in
    let y = reads w r b g h in
    cc
