-- The rest of a row: a union's relations are those of its parts, and an element is up where the step lets it pass.
use mathlib.Core.Path.{◌≡◌, refl, ap, sym, ◌∙◌, subst}
use mathlib.Core.Bool.{Bool, true, false, ◌&&◌, ◌||◌, or-false, cond}
use mathlib.Core.List.{List}
use Prim.Native.Nat.{ℕ, ◌+◌, ◌≤◌, ◌<◌}
use native.Mathlib.Omega.{arith}
use lib.Dec.{eqb}
use lib.ListN.{length, get_or}
use borrow.Author.Tests.{ne_eqb}
use Rattle.model.specs.Base.{bit}
use Rattle.model.specs.Meeting.{Cell, join_cell, admits_element, is_deep}
use Rattle.model.proofs.BoolLaws.{eq_cases}
use Rattle.paths_positions.specs.Positions as positions
use Rattle.paths_positions.specs.Positions.{entry_at}
use Rattle.paths_positions.specs.Answer.{cell_at}
use Rattle.paths_positions.specs.declared.packed.Fields.{Fields as Position}
use Rattle.paths_positions.specs.Packed.{step_in, position_by, fields_of, entries_by, kept_of, kept_entries_by}
use Rattle.paths_positions.specs.Packed.{over_kind, union_kind, kinds}
use Rattle.paths_positions.proofs.PackedLaws.{kept_low}
use Rattle.paths_positions.proofs.RelationLaws.{IsSingle, IsStart, passes}
use Rattle.paths_cells.specs.Pairs.{on_element, down, up, relations, mark_at, is_marked, marked, PairPre, MarkPre}
use Rattle.paths_cells.proofs.MarkLaws.{same_rows, fewer_rows, marked_is, mark_length, mark_here, mark_others}
use Rattle.paths_rows.specs.Columns.{column_at, is_set_at, first_field, second_field, kind_field, deep_field, element_field}
use Rattle.paths_fill.specs.Filling.{held_by, holds_at, UnionsPre, UnionsPost, LeftPre, LeftPost, RestPre, RestPost}
use Rattle.paths_fill.proofs.KindLaws.{KindOf, is_nowhere, is_root, is_over, is_union, kind_of, kind_low, position_at, entries_length}
use Rattle.paths_fill.proofs.KindLaws.{kept_position_at, kept_length, kept_kind}
use Rattle.paths_fill.proofs.KeptLaws.{up_step, up_start, union_of}
use Rattle.paths_fill.proofs.KindLaws.{lower_at, over_first, union_first, second_at_lem, deep_at, over_element, no_element_at}
use Rattle.paths_fill.proofs.KindLaws.{kind_at, is_union_lem, not_union, first_low}
use Rattle.paths_fill.proofs.RowLaws.{at_union, at_single, at_up}

-- a relation of two cells together
pub held_join : (r : ℕ) (c d : Cell) → held_by r (join_cell c d) ≡ (held_by r c || held_by r d)
held_join r c d = go (eqb r on_element) (eqb r down) (eqb r up)
  where
    go : (x y z : Bool) →
        cond x (c.on_element || d.on_element) (cond y (c.down_element || d.down_element) (cond z (c.up_element || d.up_element)
        (c.on_leaf || d.on_leaf))) ≡
        (cond x c.on_element (cond y c.down_element (cond z c.up_element c.on_leaf)) ||
        cond x d.on_element (cond y d.down_element (cond z d.up_element d.on_leaf)))
    go true y z = refl
    go false true z = refl
    go false false true = refl
    go false false false = refl

-- a single position, by its kind
pub single_at : (q : Position) → q.kind < kinds → (q.kind ≡ union_kind → ⊥) → IsSingle (position_by q)
single_at q h n = go (kind_of q h)
  where
    go : KindOf q → IsSingle (position_by q)
    go (is_nowhere e f) = subst IsSingle (sym f) tt
    go (is_root e f) = subst IsSingle (sym f) tt
    go (is_over e f) = subst IsSingle (sym f) tt
    go (is_union e f) = absurd (n e)

-- ONE PAIR
module _ {ws us c t : List ℕ} {k l : ℕ} (pre : LeftPre ws us c t k l) where
  abbrev m : ℕ
  m = length us

  abbrev q : Position
  q = fields_of (get_or us l 0)

  pub left_asks : (r j : ℕ) → r < relations → j ≤ l → PairPre t m r k j
  left_asks r j h g =
      record {
        room = fewer_rows t m (length ws) k pre.room pre.fill.row;
        relation = h;
        column = omega (arith, pre.column);
      }

  pub first_within : column_at c first_field l ≤ l
  first_within = first_low pre.fill.columns l pre.column pre.fill.second

  read_before : (r j : ℕ) → r < relations → j < l → is_marked t m r k j ≡ holds_at ws us r k j
  read_before r j h g = marked_is t m r k j (pre.before r j h g)

  low : k < length (kept_entries_by ws)
  low = omega (arith, kept_length ws, pre.fill.row)

  low₂ : l < length (entries_by us)
  low₂ = omega (arith, entries_length us, pre.column)

  at_k : (entry_at (kept_entries_by ws) k).position ≡ position_by (kept_of (get_or ws k 0))
  at_k = kept_position_at ws k

  -- a union
  module _ (union : column_at c kind_field l ≡ union_kind) where
    kind : q.kind ≡ union_kind
    kind = sym (kind_at pre.fill.columns l pre.column) ∙ union

    is : position_by q ≡ positions.union q.first q.second
    is = rw kind

    parts : (q.first < l) × (q.second < l)
    parts = lower_at us pre.fill.second l pre.column is

    unions_within : UnionsPre t m k l (column_at c first_field l) (column_at c second_field l)
    unions_within =
        record {
          room = (left_asks 0 l (omega arith) (omega arith)).room;
          column = pre.column;
          first = omega (arith, union_first pre.fill.columns l pre.column kind, parts.0);
          second = omega (arith, second_at_lem pre.fill.columns l pre.column, parts.1);
          clear = λ r h. pre.here r h ∙ ap bit (at_union ws us c r k l (is_union_lem pre.fill.columns l pre.column kind));
        }

    pub unions_asks : (a b : ℕ) → a ≡ column_at c first_field l → b ≡ column_at c second_field l → UnionsPre t m k l a b
    unions_asks a b e f =
        subst (λ (x : ℕ). UnionsPre t m k l x b) (sym e)
        (subst (UnionsPre t m k l (column_at c first_field l)) (sym f) unions_within)

    unions_left : {t' : List ℕ} → UnionsPost t m k l (column_at c first_field l) (column_at c second_field l) t' → LeftPost ws us t k l t'
    unions_left post =
        record {
          size = post.size;
          here = λ r h. post.here r h ∙ ap bit (either r h);
          others = post.others;
        }
      where
        either : (r : ℕ) → r < relations →
            (is_marked t m r k (column_at c first_field l) || is_marked t m r k (column_at c second_field l)) ≡ holds_at ws us r k l
        either r h =
            ap (λ (x : ℕ). is_marked t m r k x || is_marked t m r k (column_at c second_field l))
            (union_first pre.fill.columns l pre.column kind) ∙
            ap (λ (x : ℕ). is_marked t m r k q.first || is_marked t m r k x) (second_at_lem pre.fill.columns l pre.column) ∙
            ap (λ (x : Bool). x || is_marked t m r k q.second) (read_before r q.first h parts.0) ∙
            ap (λ (x : Bool). holds_at ws us r k q.first || x) (read_before r q.second h parts.1) ∙
            sym (held_join r (cell_at (entries_by ws) (entries_by us) k q.first)
            (cell_at (entries_by ws) (entries_by us) k q.second)) ∙
            ap (held_by r) (sym (union_of ws us pre.fill.first.lower pre.fill.second.lower k l low low₂
            q.first q.second (position_at us l ∙ is)))

    pub union_left : (a b : ℕ) (t' : List ℕ) → a ≡ column_at c first_field l → b ≡ column_at c second_field l → UnionsPost t m k l a b t' →
        LeftPost ws us t k l t'
    union_left a b t' e f post =
        unions_left (subst (λ (x : ℕ). UnionsPost t m k l x (column_at c second_field l) t') e
        (subst (λ (x : ℕ). UnionsPost t m k l a x t') f post))

  -- any other
  module _ (single : column_at c kind_field l ≡ union_kind → ⊥) where
    not_kind : q.kind ≡ union_kind → ⊥
    not_kind e = single (kind_at pre.fill.columns l pre.column ∙ e)

    marked_before : (r : ℕ) → r < relations → eqb r up ≡ false → mark_at t m r k l ≡ bit (holds_at ws us r k l)
    marked_before r h n =
        pre.here r h ∙ ap bit (at_single ws us c r k l (not_union pre.fill.columns l pre.column not_kind) n)

    not_up : mark_at t m up k l ≡ 0
    not_up = pre.here up (omega arith) ∙ ap bit (at_up ws us c k l)

    pub up_asks : (holds : Bool) → MarkPre t m up k l holds
    up_asks holds = record { pair = left_asks up l (omega arith) (omega arith); free = λ e. not_up }

    abbrev up_by : Bool
    up_by =
        is_marked t m on_element k l || (is_set_at c element_field l && (is_marked t m up k (column_at c first_field l) ||
        (is_set_at c deep_field l && is_marked t m down k (column_at c first_field l))))

    pub up_by_lem : (j : ℕ) {o e u d n : Bool} → j ≡ column_at c first_field l → o ≡ is_marked t m on_element k l →
        e ≡ is_set_at c element_field l →
        u ≡ is_marked t m up k j → d ≡ is_set_at c deep_field l → n ≡ is_marked t m down k j → (o || (e && (u || (d && n)))) ≡ up_by
    up_by_lem j a b d e f g = cc

    on_here : is_marked t m on_element k l ≡ holds_at ws us on_element k l
    on_here = marked_is t m on_element k l (marked_before on_element (omega arith) refl)

    -- without a step that lets elements pass
    up_by_none : (q.kind ≡ over_kind → ⊥) → (z : Bool) →
        (is_marked t m on_element k l || (is_set_at c element_field l && z)) ≡ holds_at ws us
        on_element k l
    up_by_none n z =
        ap (λ (x : Bool). is_marked t m on_element k l || (x && z)) (no_element_at pre.fill.columns l pre.column n) ∙
        or-false (is_marked t m on_element k l) ∙ on_here

    up_is : up_by ≡ holds_at ws us up k l
    up_is = go (kind_of q (kind_low (get_or us l 0)))
      where
        k_single : IsSingle (position_by (kept_of (get_or ws k 0)))
        k_single = single_at (kept_of (get_or ws k 0)) (kept_low (get_or ws k 0)).kind
            (λ e. pre.single (sym (kept_kind (get_or ws k 0)) ∙ e))

        start : (p : positions.Position) → position_by q ≡ p → IsStart p → (q.kind ≡ over_kind → ⊥) → up_by ≡ holds_at ws us up k l
        start p f b n =
            up_by_none n _ ∙
            sym (up_start ws us pre.fill.first.lower pre.fill.second.lower k l low low₂ _ at_k
            k_single p
            (position_at us l ∙ f) b)

        step : q.kind ≡ over_kind → position_by q ≡ positions.over (step_in q) q.first → up_by ≡ holds_at ws us up k l
        step e f =
            let b : q.first < l = lower_at us pre.fill.second l pre.column f in
            ap (λ (x : Bool). x || (is_set_at c element_field l && (is_marked t m up k (column_at c first_field l) ||
            (is_set_at c deep_field l && is_marked t m down k (column_at c first_field l))))) on_here ∙
            ap (λ (x : Bool). holds_at ws us on_element k l || (x && (is_marked t m up k (column_at c first_field l) ||
            (is_set_at c deep_field l && is_marked t m down k (column_at c first_field l)))))
            (over_element pre.fill.columns l pre.column e) ∙
            ap (λ (x : Bool). holds_at ws us on_element k l ||
            (admits_element (step_in q) && (is_marked t m up k (column_at c first_field l) ||
            (x && is_marked t m down k (column_at c first_field l))))) (deep_at pre.fill.columns l pre.column) ∙
            ap (λ (x : ℕ). holds_at ws us on_element k l ||
            passes (admits_element (step_in q)) (is_deep (step_in q)) (is_marked t m up k x)
            (is_marked t m down k x)) (over_first pre.fill.columns l pre.column e) ∙
            ap (λ (x : Bool). holds_at ws us on_element k l || passes (admits_element (step_in q)) (is_deep (step_in q)) x
            (is_marked t m down k q.first)) (read_before up q.first (omega arith) b) ∙
            ap (λ (x : Bool). holds_at ws us on_element k l || passes (admits_element (step_in q)) (is_deep (step_in q))
            (holds_at ws us up k q.first) x) (read_before down q.first (omega arith) b) ∙
            sym (up_step ws us pre.fill.first.lower pre.fill.second.lower k l low low₂ _ at_k k_single
            (step_in q) q.first b (position_at us l ∙ f))

        go : KindOf q → up_by ≡ holds_at ws us up k l
        go (is_nowhere e f) = start positions.nowhere f tt (λ g. omega arith)
        go (is_root e f) = start (positions.root q.label) f tt (λ g. omega arith)
        go (is_over e f) = step e f
        go (is_union e f) = absurd (not_kind e)

    pub up_left : {t' : List ℕ} (holds : Bool) → holds ≡ up_by → t' ≡ cond holds (marked t m up k l) t → LeftPost ws us t k l t'
    up_left {t'} holds e is =
        record {
          size = mark_length (up_asks holds) is;
          here = λ r h. eq_cases r up
              (λ z. ap (λ (x : ℕ). mark_at t' m x k l) z ∙ mark_here (up_asks holds) is ∙ ap bit (e ∙ up_is) ∙
              ap (λ (x : ℕ). bit (holds_at ws us x k l)) (sym z))
              (λ z. mark_others (up_asks holds) is r k l h pre.column (λ x y w. z x) ∙ marked_before r h (ne_eqb r up z));
          others = λ r i j h g n. mark_others (up_asks holds) is r i j h g (λ x y w. n y w);
        }

-- ALL PAIRS of the row, up to one
pub record LeftTo (ws us c t₀ : List ℕ) (k l : ℕ) (t : List ℕ) : Type 0 where
  pub size : length t ≡ length t₀
  pub done : (r j : ℕ) → r < relations → j < l → mark_at t (length us) r k j ≡ bit (holds_at ws us r k j)
  pub todo : (r j : ℕ) → r < relations → l ≤ j → j < length us → mark_at t (length us) r k j ≡ mark_at t₀ (length us) r k j
  pub others : (r i j : ℕ) → r < relations → j < length us → (i ≡ k → ⊥) → mark_at t (length us) r i j ≡ mark_at t₀ (length us) r i j

pub left_none : (ws us c t : List ℕ) (k : ℕ) → LeftTo ws us c t k 0 t
left_none ws us c t k =
    record {
      size = refl;
      done = λ r j h g. absurd (omega arith);
      todo = λ r j h g a. refl;
      others = λ r i j h g n. refl;
    }

module _ {ws us c t₀ t : List ℕ} {k l : ℕ} (pre : RestPre ws us c t₀ k) (so : LeftTo ws us c t₀ k l t) (low : l < length us) where
  pub pair_asks : LeftPre ws us c t k l
  pair_asks =
      record {
        fill = pre.fill;
        single = pre.single;
        room = same_rows t₀ t (length us) (length ws) so.size pre.room;
        column = low;
        before = so.done;
        here = λ r h. so.todo r l h (omega arith) low ∙ pre.started r l h low;
      }

  pub left_next : {t' : List ℕ} → LeftPost ws us t k l t' → LeftTo ws us c t₀ k (l + 1) t'
  left_next {t'} post =
      record {
        size = post.size ∙ so.size;
        done = λ r j h g. eq_cases j l
            (λ e. ap (λ (x : ℕ). mark_at t' (length us) r k x) e ∙ post.here r h ∙ ap (λ (x : ℕ). bit (holds_at ws us r k x)) (sym e))
            (λ e. post.others r k j h (omega (arith, low, e)) (λ x y. e y) ∙ so.done r j h (omega (arith, e)));
        todo = λ r j h g a. post.others r k j h a (λ x y. omega arith) ∙ so.todo r j h (omega arith) a;
        others = λ r i j h g n. post.others r i j h g (λ x y. n x) ∙ so.others r i j h g n;
      }

pub rest_done : {ws us c t₀ t : List ℕ} {k l : ℕ} → LeftTo ws us c t₀ k l t → length us ≤ l → RestPost ws us t₀ k t
rest_done so h = record { size = so.size; row = λ r j g a. so.done r j g (omega arith); others = so.others }
