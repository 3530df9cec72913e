-- Unions, whether a row meets, and the table row by row: one law for each loop and each way out.
use mathlib.Core.Path.{◌≡◌, refl, ap, sym, ◌∙◌, subst}
use mathlib.Core.Bool.{Bool, true, false, ◌&&◌, ◌||◌, not, false≢true, and-false, or-false, cond}
use mathlib.Core.List.{List, [], ◌∷◌}
use Prim.Native.Nat.{ℕ, ◌+◌, ◌≤◌, ◌<◌}
use native.Mathlib.Omega.{arith}
use lib.Dec.{eqb}
use lib.ListN.{length, get_or, set}
use lib.Seq.{get_or-set_same, get_or-set_other}
use borrow.Author.Tests.{ne_eqb, not-true}
use Rattle.std.specs.Prelude.{slice_index_or}
use Rattle.model.specs.Base.{bit}
use Rattle.model.specs.Meeting.{Cell, is_met, no_cell}
use Rattle.model.proofs.BoolLaws.{eq_cases}
use Rattle.paths_positions.specs.Positions as positions
use Rattle.paths_positions.specs.Positions.{Entry, entry_at}
use Rattle.paths_positions.specs.Answer.{any_up_to, is_tested, cell_at, meet_at, row_meets, positions_meet}
use Rattle.paths_positions.specs.declared.packed.Fields.{Fields as Position}
use Rattle.paths_positions.specs.Packed.{position_by, entry_by, fields_of, entries_by, kept_of, kept_entries_by}
use Rattle.paths_positions.specs.Packed.{accessed_role, modified_role, union_kind}
use Rattle.paths_positions.specs.Steps.{max_positions}
use Rattle.paths_positions.proofs.AnyUpToLaws.{any_up_to_none, any_up_to_below, any_up_to_found, any_up_to_next, any_up_to_zero}
use Rattle.paths_positions.proofs.CleanMeetLaws.{cell_at_first, row_meets_first}
use Rattle.paths_cells.specs.declared.pairs.Relation.TheVariants.{OnElement, Down, Up, OnLeaf}
use Rattle.paths_cells.specs.Pairs.{relation_number, on_element, on_leaf, relations, place_of, mark_at, is_marked, marked}
use Rattle.paths_cells.specs.Pairs.{PairPre, MarkPre}
use Rattle.paths_cells.proofs.MarkLaws.{same_rows, fewer_rows, marked_is, mark_length, mark_here, mark_others}
use Rattle.paths_rows.specs.Columns.{Columns, role_field}
use Rattle.paths_rows.specs.Rows.{RowMarked, is_yes, UnionPre, either_by, MetPre, met_by}
use Rattle.paths_fill.specs.Filling.{roleless, held_by, holds_at, Filled, FillPre, UnionsPre, UnionsPost, KindRowPre, Apart}
use Rattle.paths_fill.specs.Filling.{RowPre, RowPost}
use Rattle.paths_fill.specs.Filling.{MeetsPre, TablePre}
use Rattle.paths_fill.proofs.KindLaws.{entry_at_lem, entries_length, kept_entry_at_lem, kept_position_at, kept_length, kept_lower_at}
use Rattle.paths_fill.proofs.KeptLaws.{first_nowhere, first_union}
use Rattle.paths_fill.proofs.RestLaws.{held_join}
use Rattle.paths_fill.proofs.RowLaws.{by_relation, Kept, kept_row, kept_then, filled_next, row_room, clear}

-- THE RELATIONS in the order of their numbers
pub relation_at : (i : ℕ) → i < relations → relation_number (slice_index_or (OnElement ∷ Down ∷ Up ∷ OnLeaf ∷ []) i OnElement) ≡ i
relation_at =
    by_relation (λ (i : ℕ). relation_number (slice_index_or (OnElement ∷ Down ∷ Up ∷ OnLeaf ∷ []) i OnElement) ≡ i) refl refl refl refl

-- A PAIR WITH A UNION, its relations below r
pub record UnionsTo (t₀ : List ℕ) (m k l a b r : ℕ) (t : List ℕ) : Type 0 where
  pub size : length t ≡ length t₀
  pub here : (s : ℕ) → s < r → mark_at t m s k l ≡ bit (is_marked t₀ m s k a || is_marked t₀ m s k b)
  pub others : (s i j : ℕ) → s < relations → j < m → (s < r → i ≡ k → j ≡ l → ⊥) → mark_at t m s i j ≡ mark_at t₀ m s i j

pub unions_none : (t : List ℕ) (m k l a b : ℕ) → UnionsTo t m k l a b 0 t
unions_none t m k l a b = record { size = refl; here = λ s h. absurd (omega arith); others = λ s i j h g n. refl }

module _ {t₀ t : List ℕ} {m k l a b r : ℕ} (pre : UnionsPre t₀ m k l a b) (so : UnionsTo t₀ m k l a b r t) (low : r < relations) where
  pub part_asks : (j : ℕ) → j ≤ l → PairPre t m r k j
  part_asks j h =
      record { room = same_rows t₀ t m (k + 1) so.size pre.room; relation = low; column = omega (arith, pre.column) }

  part_read : (j : ℕ) → j < l → is_marked t m r k j ≡ is_marked t₀ m r k j
  part_read j h = ap is_yes (so.others r k j low (omega (arith, pre.column)) (λ x y z. omega arith))

  pub unions_mark : (holds : Bool) → MarkPre t m r k l holds
  unions_mark holds =
      record {
        pair = part_asks l (omega arith);
        free = λ e. so.others r k l low pre.column (λ x y z. omega arith) ∙ pre.clear r low;
      }

  pub unions_next : {t' : List ℕ} (x y : Bool) → x ≡ is_marked t m r k a → y ≡ is_marked t m r k b →
      t' ≡ cond (x || y) (marked t m r k l) t → UnionsTo t₀ m k l a b (r + 1) t'
  unions_next {t'} x y e f is =
      record {
        size = mark_length (unions_mark (x || y)) is ∙ so.size;
        here = λ s h. eq_cases s r
            (λ z. ap (λ (n : ℕ). mark_at t' m n k l) z ∙ mark_here (unions_mark (x || y)) is ∙
            ap (λ (v : Bool). bit (v || y)) (e ∙ part_read a pre.first) ∙
            ap (λ (v : Bool). bit (is_marked t₀ m r k a || v)) (f ∙ part_read b pre.second) ∙
            ap (λ (n : ℕ). bit (is_marked t₀ m n k a || is_marked t₀ m n k b)) (sym z))
            (λ z. mark_others (unions_mark (x || y)) is s k l (omega (arith, low, z)) pre.column (λ u v w. z u) ∙
            so.here s (omega (arith, z)));
        others = λ s i j h g n. mark_others (unions_mark (x || y)) is s i j h g (λ u v w. n (omega arith) v w) ∙
            so.others s i j h g (λ u v w. n (omega arith) v w);
      }

pub unions_done : {t₀ t : List ℕ} {m k l a b r : ℕ} → UnionsTo t₀ m k l a b r t → relations ≤ r → UnionsPost t₀ m k l a b t
unions_done so h =
    record {
      size = so.size;
      here = λ s g. so.here s (omega arith);
      others = λ s i j g a n. so.others s i j g a (λ x y z. n y z);
    }

-- A UNION OF THE FIRST SCRIPT, its relations below r
pub record UnionTo (ws us t₀ : List ℕ) (k r : ℕ) (t : List ℕ) : Type 0 where
  pub kept : Kept t₀ (length us) k t
  pub done : (s l : ℕ) → s < r → l < length us → mark_at t (length us) s k l ≡ bit (holds_at ws us s k l)
  pub todo : (s l : ℕ) → s < relations → r ≤ s → l < length us → mark_at t (length us) s k l ≡ 0

module _ {ws us c t : List ℕ} {k : ℕ} {p : Position} (pre : KindRowPre ws us c t k p union_kind) where
  is : position_by (kept_of (get_or ws k 0)) ≡ positions.union p.first p.second
  is = ap position_by (sym pre.position) ∙ rw pre.kind

  pub parts : (p.first < k) × (p.second < k)
  parts = kept_lower_at ws pre.fill.first k pre.fill.row is

  union_holds : (r l : ℕ) → l < length us → holds_at ws us r k l ≡ (holds_at ws us r p.first l || holds_at ws us r p.second l)
  union_holds r l h =
      ap (held_by r) (first_union ws us pre.fill.first.lower pre.fill.second.lower k l
      (omega (arith, kept_length ws, pre.fill.row)) (omega (arith, entries_length us)) (kept_position_at ws k ∙ is)) ∙
      held_join r (cell_at (entries_by ws) (entries_by us) p.first l) (cell_at (entries_by ws) (entries_by us) p.second l)

  -- of two without anything in common
  pub union_apart : Apart ws us p.first → Apart ws us p.second → Apart ws us k
  union_apart a b r l h g =
      union_holds r l g ∙ ap (λ (x : Bool). x || holds_at ws us r p.second l) (a r l h g) ∙ b r l h g

  pub union_none : UnionTo ws us t k 0 t
  union_none =
      record {
        kept = record { size = refl; others = λ r i l h g n. refl };
        done = λ s l h g. absurd (omega arith);
        todo = λ s l h g a. clear pre.fill pre.filled s l h a;
      }

  module _ {r : ℕ} {t₁ : List ℕ} (so : UnionTo ws us t k r t₁) (low : r < relations) where
    pub row_asks : UnionPre t₁ (length us) r k p.first p.second
    row_asks =
        record {
          room = row_room pre.fill pre.filled k (omega arith) t₁ so.kept.size;
          relation = low;
          first = row_room pre.fill pre.filled p.first (omega (arith, parts.0)) t₁ so.kept.size;
          second = row_room pre.fill pre.filled p.second (omega (arith, parts.1)) t₁ so.kept.size;
          clear = λ l h. so.todo r l low (omega arith) h;
        }

    part_holds : (i l : ℕ) → i < k → l < length us → is_marked t₁ (length us) r i l ≡ holds_at ws us r i l
    part_holds i l h g =
        marked_is t₁ (length us) r i l
        (so.kept.others r i l low g (λ e. omega arith) ∙ pre.filled.rows r i l low h g)

    pub union_next : {t₂ : List ℕ} → RowMarked t₁ (length us) r k (either_by t₁ (length us) r p.first p.second) (length us) t₂ →
        UnionTo ws us t k (r + 1) t₂
    union_next {t₂} post =
        record {
          kept = kept_then so.kept (kept_row post);
          done = λ s l h g. eq_cases s r
              (λ z. ap (λ (n : ℕ). mark_at t₂ (length us) n k l) z ∙ post.here l g ∙
              ap (λ (x : Bool). bit (x || is_marked t₁ (length us) r p.second l)) (part_holds p.first l parts.0 g) ∙
              ap (λ (x : Bool). bit (holds_at ws us r p.first l || x)) (part_holds p.second l parts.1 g) ∙
              ap bit (sym (union_holds r l g)) ∙ ap (λ (n : ℕ). bit (holds_at ws us n k l)) (sym z))
              (λ z. post.others s k l (omega (arith, low)) g (λ x y w. z x) ∙ so.done s l (omega (arith, z)) g);
          todo = λ s l h g a. post.others s k l h a (λ x y w. omega arith) ∙ so.todo s l h (omega arith) a;
        }

  pub union_done : {r : ℕ} {t₁ : List ℕ} → UnionTo ws us t k r t₁ → relations ≤ r → RowPost ws us t k t₁ true
  union_done so h =
      record {
        size = so.kept.size;
        filled = filled_next pre.filled so.kept (λ s l g a. so.done s l (omega arith) a);
        apart = λ e. absurd (false≢true (sym e));
      }

-- A ROW of any kind
pub of_kind : {ws us c live t : List ℕ} {k : ℕ} → RowPre ws us c live t k → (p : Position) (n : ℕ) → roleless p ≡ roleless
    (kept_of (get_or ws k 0)) →
    p.kind ≡ n →
    KindRowPre ws us c t k p n
of_kind pre p n e f = record { fill = pre.fill; filled = pre.filled; position = e; kind = f }

pub live_within : {ws us c live t : List ℕ} {k i : ℕ} → RowPre ws us c live t k → i < k → i < length live
live_within pre h = omega (arith, pre.fill.row, pre.fill.first.few, pre.size)

-- NOTHING has nothing in common
pub nothing_apart : {ws us c t : List ℕ} {k : ℕ} {p : Position} → KindRowPre ws us c t k p 0 → Apart ws us k
nothing_apart {ws} {us} {c} {t} {k} {p} pre r l h g =
    ap (held_by r) (first_nowhere ws us pre.fill.first.lower pre.fill.second.lower k l
    (omega (arith, kept_length ws, pre.fill.row)) (omega (arith, entries_length us)) (kept_position_at ws k ∙ is)) ∙
    by_relation (λ (x : ℕ). held_by x no_cell ≡ false) refl refl refl refl r h
  where
    is : position_by (kept_of (get_or ws k 0)) ≡ positions.nowhere
    is = ap position_by (sym pre.position) ∙ rw pre.kind

-- MEETING
module _ {ws us c t : List ℕ} {k : ℕ} {seen : Bool} (pre : MeetsPre ws us c t k seen) where
  abbrev role : ℕ
  role = (kept_of (get_or ws k 0)).role

  pub meets_asks : MetPre t (length us) k c
  meets_asks =
      record {
        room = fewer_rows t (length us) (length ws) k pre.filled.room pre.fill.row;
        few = pre.fill.second.few;
        size = pre.fill.columns.size;
      }

  on_read : (r l : ℕ) → r < relations → l < length us → is_marked t (length us) r k l ≡ holds_at ws us r k l
  on_read r l h g = marked_is t (length us) r k l (pre.filled.rows r k l h (omega arith) g)

  -- a test of the second's role, and both in it
  met_at : (x l : ℕ) {t₁ : Bool} → l < length us → t₁ ≡ eqb (fields_of (get_or us l 0)).role x →
      met_by t (length us) c k x l ≡ (t₁ && is_met (cell_at (entries_by ws) (entries_by us) k l))
  met_at x l h e =
      ap (λ (n : ℕ). eqb n x && (is_marked t (length us) on_element k l || is_marked t (length us) on_leaf k l))
      (pre.fill.columns.at role_field l (omega arith) h) ∙
      ap (λ (b : Bool). eqb (fields_of (get_or us l 0)).role x && (b || is_marked t (length us) on_leaf k l))
      (on_read on_element l (omega arith) h) ∙
      ap (λ (b : Bool). eqb (fields_of (get_or us l 0)).role x && (holds_at ws us on_element k l || b))
      (on_read on_leaf l (omega arith) h) ∙
      ap (λ (b : Bool). b && is_met (cell_at (entries_by ws) (entries_by us) k l)) (sym e)

  -- by all the fields of the first's: no proof needs it, but docs/PORT.md names it
  meet_at_lem : (x : ℕ) (l : ℕ) → l < length us →
      is_tested (entry_at (entries_by ws) k) (entry_at (entries_by us) l) ≡ eqb (fields_of (get_or us l 0)).role x →
      met_by t (length us) c k x l ≡ meet_at (entries_by ws) (entries_by us) k l
  meet_at_lem x l h e = met_at x l h e

  -- and by those that its kind has
  kept_meet_at_lem : (x : ℕ) (l : ℕ) → l < length us →
      is_tested (entry_at (kept_entries_by ws) k) (entry_at (entries_by us) l) ≡ eqb (fields_of (get_or us l 0)).role x →
      met_by t (length us) c k x l ≡ meet_at (kept_entries_by ws) (entries_by us) k l
  kept_meet_at_lem x l h e =
      met_at x l h e ∙
      ap (λ (c : Cell). is_tested (entry_at (kept_entries_by ws) k) (entry_at (entries_by us) l) && is_met c)
      (sym (cell_at_first ws (entries_by us) k l))

  tested : (l : ℕ) → is_tested (entry_at (kept_entries_by ws) k) (entry_at (entries_by us) l) ≡
      ((eqb role modified_role && eqb (fields_of (get_or us l 0)).role accessed_role) ||
      (eqb role accessed_role && eqb (fields_of (get_or us l 0)).role modified_role))
  tested l =
      ap (λ (x : Entry). is_tested x (entry_at (entries_by us) l)) (kept_entry_at_lem ws k) ∙
      ap (is_tested (entry_by (kept_of (get_or ws k 0)))) (entry_at_lem us l)

  -- and all the fields of the first's say the same
  all_fields : row_meets (kept_entries_by ws) (entries_by us) k (length us) ≡ row_meets (entries_by ws) (entries_by us) k (length us)
  all_fields = row_meets_first ws (entries_by us) k (length us) pre.fill.row

  pub accessed_meets : {b : Bool} → role ≡ accessed_role → b ≡ any_up_to (met_by t (length us) c k modified_role) (length us) →
      b ≡ row_meets (entries_by ws) (entries_by us) k (length us)
  accessed_meets e is =
      is ∙ any_up_to_below _ _ (length us) (λ l h. kept_meet_at_lem modified_role l h (tested l ∙
      ap (λ (x : ℕ). (eqb x modified_role && eqb (fields_of (get_or us l 0)).role accessed_role) ||
      (eqb x accessed_role && eqb (fields_of (get_or us l 0)).role modified_role)) e)) ∙ all_fields

  pub modified_meets : {b : Bool} → role ≡ modified_role → b ≡ any_up_to (met_by t (length us) c k accessed_role) (length us) →
      b ≡ row_meets (entries_by ws) (entries_by us) k (length us)
  modified_meets e is =
      is ∙ any_up_to_below _ _ (length us) (λ l h. kept_meet_at_lem accessed_role l h (tested l ∙
      ap (λ (x : ℕ). (eqb x modified_role && eqb (fields_of (get_or us l 0)).role accessed_role) ||
      (eqb x accessed_role && eqb (fields_of (get_or us l 0)).role modified_role)) e ∙ or-false _)) ∙ all_fields

  pub plain_meets : (role ≡ accessed_role → ⊥) → (role ≡ modified_role → ⊥) →
      false ≡ row_meets (entries_by ws) (entries_by us) k (length us)
  plain_meets n o =
      sym (any_up_to_none (meet_at (kept_entries_by ws) (entries_by us) k) (λ l.
      ap (λ (b : Bool). b && is_met (cell_at (kept_entries_by ws) (entries_by us) k l)) (tested l ∙
      ap (λ (x : Bool). (x && eqb (fields_of (get_or us l 0)).role accessed_role) || (eqb role accessed_role &&
      eqb (fields_of (get_or us l 0)).role modified_role)) (ne_eqb role modified_role o) ∙
      ap (λ (x : Bool). x && eqb (fields_of (get_or us l 0)).role modified_role) (ne_eqb role accessed_role n))) (length us)) ∙ all_fields

  -- nothing in common
  pub apart_meets : not seen ≡ true → false ≡ row_meets (entries_by ws) (entries_by us) k (length us)
  apart_meets n =
      let e = not-true seen n in
      sym (any_up_to_below (meet_at (kept_entries_by ws) (entries_by us) k) (λ (l : ℕ). false) (length us) (λ l h.
      ap (λ (c : Cell). is_tested (entry_at (kept_entries_by ws) k) (entry_at (entries_by us) l) && is_met c)
      (cell_at_first ws (entries_by us) k l) ∙
      ap (λ (b : Bool). is_tested (entry_at (kept_entries_by ws) k) (entry_at (entries_by us) l) && (b || holds_at ws us on_leaf k l))
      (pre.apart e on_element l (omega arith) h) ∙
      ap (λ (b : Bool). is_tested (entry_at (kept_entries_by ws) k) (entry_at (entries_by us) l) && b)
      (pre.apart e on_leaf l (omega arith) h) ∙
      and-false (is_tested (entry_at (kept_entries_by ws) k) (entry_at (entries_by us) l))) ∙
      any_up_to_none (λ (l : ℕ). false) (λ l. refl) (length us)) ∙ all_fields

-- ALL ROWS up to one: filled, none of them meeting any
pub record RowsTo (ws us : List ℕ) (k : ℕ) (live t : List ℕ) : Type 0 where
  pub filled : Filled ws us k t
  pub apart : (i : ℕ) → i < k → get_or live i 0 ≡ 0 → Apart ws us i
  pub none : any_up_to (λ (i : ℕ). row_meets (entries_by ws) (entries_by us) i (length us)) k ≡ false

pub rows_none : {ws us t : List ℕ} (live : List ℕ) → TablePre ws us t → RowsTo ws us 0 live t
rows_none {ws} {us} {t} live pre =
    record {
      filled = record {
        room = pre.room;
        rows = λ r i l h g a. absurd (omega arith);
        rest = λ r i l h g a b. pre.clear (place_of (length us) r i l);
      };
      apart = λ i h e. absurd (omega arith);
      none = any_up_to_zero _;
    }

-- one row more, its place among the live ones written
live_next : (live : List ℕ) {ws us t₀ t : List ℕ} {k v : ℕ} {seen : Bool} → ((i : ℕ) → i < k → get_or live i 0 ≡ 0 → Apart ws us i) →
    k < length live →
    RowPost ws us t₀ k t seen → v ≡ bit seen → (i : ℕ) → i < k + 1 → get_or (set live k v) i 0 ≡ 0 → Apart ws us i
live_next live {ws} {us} {t₀} {t} {k} {v} {seen} before low post e i h g =
    eq_cases i k
    (λ z. subst (Apart ws us) (sym z) (post.apart (unseen seen (sym e ∙ sym (get_or-set_same live k v 0 low) ∙
    ap (λ (n : ℕ). get_or (set live k v) n 0) (sym z) ∙ g))))
    (λ z. before i (omega (arith, z)) (sym (get_or-set_other live k i v 0 z) ∙ g))
  where
    unseen : (b : Bool) → bit b ≡ 0 → b ≡ false
    unseen true x = absurd (omega arith)
    unseen false x = refl

module _ {ws us c t₀ : List ℕ} {k : ℕ} (pre : TablePre ws us t₀) (columns : Columns us c) (low : k < length ws) where
  fill : FillPre ws us c k
  fill = record { first = pre.first; second = pre.second; columns = columns; row = low }

  pub row_asked : {live t : List ℕ} → length live ≡ max_positions → RowsTo ws us k live t → RowPre ws us c live t k
  row_asked e so = record { fill = fill; filled = so.filled; size = e; apart = so.apart }

  module _ {t t₁ : List ℕ} {seen : Bool} (post : RowPost ws us t k t₁ seen) where
    pub meets_asked : MeetsPre ws us c t₁ k seen
    meets_asked = record { fill = fill; filled = post.filled; apart = post.apart }

    pub rows_next : {live : List ℕ} → RowsTo ws us k live t → length live ≡ max_positions → (v : ℕ) → v ≡ bit seen → (b : Bool) →
        b ≡ row_meets (entries_by ws) (entries_by us) k (length us) → b ≡ false → RowsTo ws us (k + 1) (set live k v) t₁
    rows_next {live} so e v f b g h =
        record {
          filled = post.filled;
          apart = live_next live so.apart (omega (arith, low, pre.first.few, e)) post f;
          none = any_up_to_next (λ (i : ℕ). row_meets (entries_by ws) (entries_by us) i (length us)) k b so.none g h;
        }

meet_length : (ws us : List ℕ) (k : ℕ) → row_meets (entries_by ws) (entries_by us) k (length us) ≡
    row_meets (entries_by ws) (entries_by us) k (length (entries_by us))
meet_length ws us k = ap (row_meets (entries_by ws) (entries_by us) k) (sym (entries_length us))

all_meet : (ws us : List ℕ) → any_up_to (λ (i : ℕ). row_meets (entries_by ws) (entries_by us) i (length us)) (length ws) ≡
    positions_meet (entries_by ws) (entries_by us)
all_meet ws us =
    any_up_to_below _ _ (length ws) (λ i h. meet_length ws us i) ∙
    ap (any_up_to (λ (i : ℕ). row_meets (entries_by ws) (entries_by us) i (length (entries_by us)))) (sym (entries_length ws))

-- some row meets, or none does
pub one_meets : (ws us : List ℕ) (k : ℕ) {b : Bool} → k < length ws → b ≡ row_meets (entries_by ws) (entries_by us) k (length us) → b ≡
    true →
    true ≡ positions_meet (entries_by ws) (entries_by us)
one_meets ws us k low e f =
    any_up_to_found (λ (i : ℕ). row_meets (entries_by ws) (entries_by us) i (length us)) k (length ws) low (sym e ∙ f) ∙ all_meet ws us

pub none_meets : (ws us live t : List ℕ) (k : ℕ) → RowsTo ws us k live t → k ≡ length ws → false ≡ positions_meet (entries_by ws)
    (entries_by us)
none_meets ws us live t k so e =
    sym so.none ∙ ap (any_up_to (λ (i : ℕ). row_meets (entries_by ws) (entries_by us) i (length us))) e ∙ all_meet ws us
