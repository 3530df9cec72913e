-- A row of the table: what its loops ask, what is marked before the rest, and when one row more is filled.
use mathlib.Core.Path.{◌≡◌, refl, ap, sym, ◌∙◌, subst}
use mathlib.Core.Bool.{Bool, true, false, ◌||◌, or-true, cond}
use mathlib.Core.List.{List}
use Prim.Native.Nat.{ℕ, ◌+◌, ◌≤◌, ◌<◌}
use native.Mathlib.Omega.{arith}
use lib.Dec.{eqb}
use lib.ListN.{length, get_or}
use Rattle.model.specs.Base.{bit}
use Rattle.model.proofs.BoolLaws.{eq_cases}
use Rattle.paths_positions.specs.Positions as positions
use Rattle.paths_positions.specs.Positions.{entry_at}
use Rattle.paths_positions.specs.Answer.{NoElement, cell_at}
use Rattle.paths_positions.specs.Packed.{position_by, fields_of, entries_by, kept_of, union_kind}
use Rattle.paths_positions.proofs.RelationLaws.{IsSingle}
use Rattle.paths_cells.specs.Pairs.{on_element, down, up, on_leaf, relations, mark_at, HasRows}
use Rattle.paths_cells.proofs.MarkLaws.{same_rows, fewer_rows}
use Rattle.paths_rows.specs.Columns.{column_at, kind_field}
use Rattle.paths_rows.specs.Rows.{RowMarked, PassPre}
use Rattle.paths_fill.specs.Filling.{holds_at, Filled, FillPre, before_rest, RestPre, RestPost, Apart, RowPost}
use Rattle.paths_fill.proofs.KindLaws.{position_at, kept_kind}

-- RELATIONS, one by one
pub by_relation : (P : ℕ → Type 0) → P on_element → P down → P up → P on_leaf → (r : ℕ) → r < relations → P r
by_relation P a b c d r h =
    eq_cases r on_element (λ e. subst P (sym e) a)
    (λ e. eq_cases r down (λ f. subst P (sym f) b)
    (λ f. eq_cases r up (λ g. subst P (sym g) c)
    (λ g. let z : r ≡ on_leaf = omega (arith, e, f, g) in subst P (sym z) d)))

-- OTHER ROWS stay
pub record Kept (t : List ℕ) (m k : ℕ) (t' : List ℕ) : Type 0 where
  pub size : length t' ≡ length t
  pub others : (r i l : ℕ) → r < relations → l < m → (i ≡ k → ⊥) → mark_at t' m r i l ≡ mark_at t m r i l

pub kept_row : {t t' : List ℕ} {m r k n : ℕ} {f : ℕ → Bool} → RowMarked t m r k f n t' → Kept t m k t'
kept_row w = record { size = w.size; others = λ s i l h g n. w.others s i l h g (λ x y z. n y) }

pub kept_rest : {ws us t t' : List ℕ} {k : ℕ} → RestPost ws us t k t' → Kept t (length us) k t'
kept_rest w = record { size = w.size; others = w.others }

pub kept_then : {t t₁ t₂ : List ℕ} {m k : ℕ} → Kept t m k t₁ → Kept t₁ m k t₂ → Kept t m k t₂
kept_then a b =
    record { size = b.size ∙ a.size; others = λ r i l h g n. b.others r i l h g n ∙ a.others r i l h g n }

-- ONE ROW MORE is filled
pub filled_next : {ws us t t' : List ℕ} {k : ℕ} → Filled ws us k t → Kept t (length us) k t' →
    ((r l : ℕ) → r < relations → l < length us → mark_at t' (length us) r k l ≡ bit (holds_at ws us r k l)) → Filled ws us (k + 1) t'
filled_next {ws} {us} {t} {t'} {k} filled kept row =
    record {
      room = same_rows t t' (length us) (length ws) kept.size filled.room;
      rows = λ r i l h g a. eq_cases i k
          (λ e. ap (λ (x : ℕ). mark_at t' (length us) r x l) e ∙ row r l h a ∙ ap (λ (x : ℕ). bit (holds_at ws us r x l)) (sym e))
          (λ e. kept.others r i l h a e ∙ filled.rows r i l h (omega (arith, e)) a);
      rest = λ r i l h g b a. kept.others r i l h a (λ e. omega arith) ∙ filled.rest r i l h (omega arith) b a;
    }

-- a row without anything in common is one left clear
pub row_none : {ws us t : List ℕ} {k : ℕ} → Filled ws us k t → k < length ws → Apart ws us k → RowPost ws us t k t false
row_none {ws} {us} {t} {k} filled low apart =
    record {
      size = refl;
      filled = filled_next filled (record { size = refl; others = λ r i l h g n. refl })
          (λ r l h g. filled.rest r k l h (omega arith) low g ∙ ap bit (sym (apart r l h g)));
      apart = λ e. apart;
    }

-- WHAT A LOOP ASKS: room for the row, and the relation as clear as it was
module _ {ws us c t : List ℕ} {k : ℕ} (fill : FillPre ws us c k) (filled : Filled ws us k t) where
  pub row_room : (i : ℕ) → i ≤ k → (t₁ : List ℕ) → length t₁ ≡ length t → HasRows t₁ (length us) (i + 1)
  row_room i h t₁ e =
      same_rows t t₁ (length us) (i + 1) e (fewer_rows t (length us) (length ws) i filled.room (omega (arith, fill.row)))

  pub clear : (r l : ℕ) → r < relations → l < length us → mark_at t (length us) r k l ≡ 0
  clear r l h g = filled.rest r k l h (omega arith) fill.row g

  pub pass : {t₁ : List ℕ} (r : ℕ) → r < relations → length t₁ ≡ length t →
      ((l : ℕ) → l < length us → mark_at t₁ (length us) r k l ≡ mark_at t (length us) r k l) → PassPre t₁ (length us) r k c
  pass {t₁} r h e f =
      record {
        room = row_room k (omega arith) t₁ e;
        relation = h;
        few = fill.second.few;
        size = fill.columns.size;
        clear = λ l g. f l g ∙ clear r l h g;
      }

-- a single position is not of a union's kind
pub single_kind : (us : List ℕ) (l : ℕ) (x : positions.Position) → (entry_at (entries_by us) l).position ≡ x → IsSingle x →
    (fields_of (get_or us l 0)).kind ≡ union_kind → ⊥
single_kind us l x e g z =
    let f : position_by (fields_of (get_or us l 0)) ≡
    positions.union (fields_of (get_or us l 0)).first (fields_of (get_or us l 0)).second = rw z in
    subst IsSingle (sym e ∙ position_at us l ∙ f) g

-- BEFORE THE REST: what is marked of a union, of any other, and of an element up
pub at_union : (ws us c : List ℕ) (r k l : ℕ) → eqb (column_at c kind_field l) union_kind ≡ true → before_rest ws us c r k l ≡ false
at_union ws us c r k l e = ap (λ (x : Bool). cond (x || eqb r up) false (holds_at ws us r k l)) e

pub at_single : (ws us c : List ℕ) (r k l : ℕ) → eqb (column_at c kind_field l) union_kind ≡ false → eqb r up ≡ false →
    before_rest ws us c r k l ≡ holds_at ws us r k l
at_single ws us c r k l e f =
    ap (λ (x : Bool). cond (x || eqb r up) false (holds_at ws us r k l)) e ∙ ap (λ (x : Bool). cond x false (holds_at ws us r k l)) f

pub at_up : (ws us c : List ℕ) (k l : ℕ) → before_rest ws us c up k l ≡ false
at_up ws us c k l = ap (λ (x : Bool). cond x false (holds_at ws us up k l)) (or-true (eqb (column_at c kind_field l) union_kind))

-- all of a row that has nothing in common is marked before the rest
pub before_none : (ws us c : List ℕ) (r k l : ℕ) → holds_at ws us r k l ≡ false → before_rest ws us c r k l ≡ holds_at ws us r k l
before_none ws us c r k l e = go (eqb (column_at c kind_field l) union_kind || eqb r up)
  where
    go : (b : Bool) → cond b false (holds_at ws us r k l) ≡ holds_at ws us r k l
    go true = sym e
    go false = refl

-- so the rest of the row can be marked
pub rest_asked : {ws us c t t₁ : List ℕ} {k : ℕ} → FillPre ws us c k → Filled ws us k t →
    ((kept_of (get_or ws k 0)).kind ≡ union_kind → ⊥) →
    Kept t (length us) k t₁ →
    ((l : ℕ) → l < length us → (r : ℕ) → r < relations → mark_at t₁ (length us) r k l ≡ bit (before_rest ws us c r k l)) →
    RestPre ws us c t₁ k
rest_asked {ws} {us} {c} {t} {t₁} {k} fill filled single kept started =
    record {
      fill = fill;
      single = λ e. single (kept_kind (get_or ws k 0) ∙ e);
      room = same_rows t t₁ (length us) (length ws) kept.size filled.room;
      started = λ r l h g. started l g r h;
    }

-- NOTHING in common: no element and no leaf
pub none_holds : (ws us : List ℕ) (k l : ℕ) → NoElement (cell_at (entries_by ws) (entries_by us) k l) →
    holds_at ws us on_leaf k l ≡ false →
    (r : ℕ) → r < relations → holds_at ws us r k l ≡ false
none_holds ws us k l n leaf = by_relation (λ (r : ℕ). holds_at ws us r k l ≡ false) n.on n.down n.up leaf
