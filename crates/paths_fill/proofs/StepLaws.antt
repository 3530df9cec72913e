-- A step's row: what its loops mark before the rest, from the row of its operand, is what it has in common with each position.
use mathlib.Core.Path.{◌≡◌, refl, ap, sym, ◌∙◌, subst}
use mathlib.Core.Bool.{Bool, true, false, ◌&&◌, ◌||◌, not, false≢true, and-false, and-true, or-false, or_comm}
use mathlib.Core.List.{List}
use Prim.Native.Nat.{ℕ, ◌/◌, ◌%◌, ◌<◌}
use native.Mathlib.Omega.{arith}
use lib.Dec.{eqb}
use lib.ListN.{length, get_or}
use Rattle.model.specs.Base.{bit}
use Rattle.model.specs.Script.{Step}
use Rattle.model.specs.Meeting.{Cell, is_parent, admits_element, admits_leaf, is_named, is_deep}
use Rattle.model.proofs.BoolLaws.{eq_cases, or_neither}
use Rattle.model.proofs.CellLaws.{between_on_up}
use Rattle.paths_positions.specs.Positions as positions
use Rattle.paths_positions.specs.Positions.{entry_at, paths_on}
use Rattle.paths_positions.specs.Answer.{any_up_to, cell_at}
use Rattle.paths_positions.specs.declared.packed.Fields.{Fields as Position}
use Rattle.paths_positions.specs.Packed.{step_in, position_by, fields_of, entries_by, kept_of, kept_entries_by, over_kind, union_kind}
use Rattle.paths_positions.specs.Steps.{max_positions}
use Rattle.paths_positions.proofs.AnyUpToLaws.{any_up_to_false}
use Rattle.paths_positions.proofs.RelationLaws.{IsSingle, IsStart}
use Rattle.paths_cells.specs.Pairs.{on_element, down, up, on_leaf, relations, mark_at, is_marked}
use Rattle.paths_cells.proofs.MarkLaws.{bit_set, marked_is}
use Rattle.paths_rows.specs.Columns.{column_at, is_set_at, kind_field, deep_field, element_field, leaf_field, named_field}
use Rattle.paths_rows.specs.Rows.{RowMarked, is_yes, parent_by, ParentsPre, ParentsPost, OnPre, label_is, DownPre, down_by}
use Rattle.paths_fill.specs.Filling.{held_by, holds_at, before_rest, RestPre, RestPost, step_elements, step_leaves, source_by}
use Rattle.paths_fill.specs.Filling.{KindRowPre, Apart, RowPost}
use Rattle.paths_fill.proofs.KindLaws.{KindOf, is_nowhere, is_root, is_over, is_union, kind_of, kind_low, position_at, entries_length}
use Rattle.paths_fill.proofs.KindLaws.{kept_position_at, kept_length, kept_lower_at}
use Rattle.paths_fill.proofs.KeptLaws.{on_steps, on_step_start, down_step, apart, leafless, below_apart}
use Rattle.paths_fill.proofs.KindLaws.{lower_at, over_first, deep_at, named_at, over_element, over_leaf, no_element_at}
use Rattle.paths_fill.proofs.KindLaws.{no_leaf_at, is_union_lem, not_union, first_low, labels_at}
use Rattle.paths_fill.proofs.RestLaws.{single_at}
use Rattle.paths_fill.proofs.RowLaws.{by_relation, Kept, kept_row, kept_rest, kept_then, filled_next, row_room, clear, pass}
use Rattle.paths_fill.proofs.RowLaws.{rest_asked, none_holds, single_kind, at_union, at_single, at_up}

-- TESTS of a pair, in another order
absorbed : (a x u : Bool) → (a || u) ≡ u → (u || x) ≡ ((a || x) || u)
absorbed true x true e = refl
absorbed true x false e = absurd (false≢true (sym e))
absorbed false x u e = or_comm u x

by_source : (d : Bool) (c : Cell) (x : Bool) → (c.on_element || c.up_element) ≡ c.up_element →
    (held_by (source_by d) c || x) ≡ (c.on_element || x || (d && c.up_element))
by_source true c x e = absorbed c.on_element x c.up_element e
by_source false c x e = sym (or-false (c.on_element || x))

turned : (e p x : Bool) → (e && (p && x)) ≡ (p && (e && x))
turned true true x = refl
turned true false x = refl
turned false true x = refl
turned false false x = refl

named_turned : (e p u x : Bool) → (e && (p && u && x)) ≡ (p && (e && u && x))
named_turned true true u x = refl
named_turned true false u x = refl
named_turned false true u x = refl
named_turned false false u x = refl

none_passes : (e p x : Bool) → (e && (p && false && x)) ≡ false
none_passes true true x = refl
none_passes true false x = refl
none_passes false p x = refl

no_leaf : (e p : Bool) → (e && (p && false)) ≡ false
no_leaf true true = refl
no_leaf true false = refl
no_leaf false p = refl

module _ {ws us c t : List ℕ} {k : ℕ} {p : Position} (pre : KindRowPre ws us c t k p over_kind) where
  abbrev m : ℕ
  m = length us

  abbrev s : Step
  s = step_in p

  abbrev i : ℕ
  i = p.first

  is : position_by (kept_of (get_or ws k 0)) ≡ positions.over s i
  is = ap position_by (sym pre.position) ∙ rw pre.kind

  at_k : (entry_at (kept_entries_by ws) k).position ≡ positions.over s i
  at_k = kept_position_at ws k ∙ is

  pub operand_low : i < k
  operand_low = kept_lower_at ws pre.fill.first k pre.fill.row is

  low : k < length (kept_entries_by ws)
  low = omega (arith, kept_length ws, pre.fill.row)

  cells : (l : ℕ) → l < m → l < length (entries_by us)
  cells l h = omega (arith, entries_length us)

  -- what the loops ask
  pub parents_asks : (x : ℕ) (ps : List ℕ) → x ≡ source_by (is_deep s) → length ps ≡ max_positions → ParentsPre t m c i x ps
  parents_asks x ps f e =
      record {
        room = row_room pre.fill pre.filled i (omega (arith, operand_low)) t refl;
        relation = subst (λ (y : ℕ). y < relations) (sym f) (source_low (is_deep s));
        few = pre.fill.second.few;
        size = pre.fill.columns.size;
        space = e;
        lower = λ l h. omega (arith, first_low pre.fill.columns l h pre.fill.second);
      }
    where
      source_low : (d : Bool) → source_by d < relations
      source_low true = omega arith
      source_low false = omega arith

  -- what is read of the operand's row
  read : (r j : ℕ) → r < relations → j < m → is_marked t m r i j ≡ holds_at ws us r i j
  read r j h g = marked_is t m r i j (pre.filled.rows r i j h operand_low g)

  module _ {ps₀ ps : List ℕ} {x : ℕ} (from : x ≡ source_by (is_deep s)) (given : ParentsPost t m c i x ps₀ ps)
      (space : length ps₀ ≡ max_positions) where
    parents : ParentsPost t m c i (source_by (is_deep s)) ps₀ ps
    parents = subst (λ (y : ℕ). ParentsPost t m c i y ps₀ ps) from given

    pub elements_asks : OnPre t m on_element k c ps
    elements_asks =
        record {
          pass = pass pre.fill pre.filled on_element (omega arith) refl (λ l g. refl);
          space = parents.size ∙ space;
        }

    module _ (l : ℕ) (h : l < m) where
      abbrev q : Position
      q = fields_of (get_or us l 0)

      -- A PARENT, where a step leads to l
      parent_is_lem : q.kind ≡ over_kind → q.first < m → is_yes (get_or ps l 0) ≡ is_parent s (step_in q)
          (cell_at (entries_by ws) (entries_by us) i q.first)
      parent_is_lem e g =
          ap is_yes (parents.is l h) ∙ bit_set (parent_by t m c i (source_by (is_deep s)) l) ∙
          ap (λ (x : ℕ). is_marked t m (source_by (is_deep s)) i x || (is_set_at c deep_field l && is_marked t m down i x))
          (over_first pre.fill.columns l h e) ∙
          ap (λ (x : Bool). is_marked t m (source_by (is_deep s)) i q.first || (x && is_marked t m down i q.first))
          (deep_at pre.fill.columns l h) ∙
          ap (λ (x : Bool). x || (is_deep (step_in q) && is_marked t m down i q.first)) (source (is_deep s)) ∙
          ap (λ (x : Bool). held_by (source_by (is_deep s)) (cell_at (entries_by ws) (entries_by us) i q.first) ||
          (is_deep (step_in q) && x))
          (read down q.first (omega arith) g) ∙
          by_source (is_deep s) (cell_at (entries_by ws) (entries_by us) i q.first)
          (is_deep (step_in q) && (cell_at (entries_by ws) (entries_by us) i q.first).down_element)
          (between_on_up (paths_on (entries_by ws) i) (paths_on (entries_by us) q.first))
        where
          source : (d : Bool) → is_marked t m (source_by d) i q.first ≡ holds_at ws us (source_by d) i q.first
          source true = read up q.first (omega arith) g
          source false = read on_element q.first (omega arith) g

      -- ON BOTH
      elements_over : q.kind ≡ over_kind → step_elements s c ps l ≡ holds_at ws us on_element k l
      elements_over e =
          let f : position_by q ≡ positions.over (step_in q) q.first = rw e in
          let b : q.first < l = lower_at us pre.fill.second l h f in
          ap (λ (x : Bool). admits_element s && (x && is_set_at c element_field l && (not (is_named s && is_set_at c named_field l) ||
          label_is c (p.label % 256) (p.label / 256) l))) (parent_is_lem e (omega arith)) ∙
          ap (λ (x : Bool). admits_element s && (is_parent s (step_in q) (cell_at (entries_by ws) (entries_by us) i q.first) && x &&
          (not (is_named s && is_set_at c named_field l) || label_is c (p.label % 256) (p.label / 256) l)))
          (over_element pre.fill.columns l h e) ∙
          ap (λ (x : Bool). admits_element s && (is_parent s (step_in q) (cell_at (entries_by ws) (entries_by us) i q.first) &&
          admits_element (step_in q) && (not (is_named s && x) || label_is c (p.label % 256) (p.label / 256) l)))
          (named_at pre.fill.columns l h) ∙
          ap (λ (x : Bool). admits_element s && (is_parent s (step_in q) (cell_at (entries_by ws) (entries_by us) i q.first) &&
          admits_element (step_in q) && (not (is_named s && is_named (step_in q)) || x))) (labels_at pre.fill.columns l h p.label) ∙
          named_turned (admits_element s) (is_parent s (step_in q) (cell_at (entries_by ws) (entries_by us) i q.first))
          (admits_element (step_in q)) (not (is_named s && is_named (step_in q)) || eqb p.label q.label) ∙
          sym (on_steps ws us pre.fill.first.lower pre.fill.second.lower k l low (cells l h) s i at_k
          (step_in q) q.first (position_at us l ∙ f)).0

      elements_none : (q.kind ≡ over_kind → ⊥) → step_elements s c ps l ≡ false
      elements_none n =
          ap (λ (x : Bool). admits_element s && (is_yes (get_or ps l 0) && x && (not (is_named s && is_set_at c named_field l) ||
          label_is c (p.label % 256) (p.label / 256) l))) (no_element_at pre.fill.columns l h n) ∙
          none_passes (admits_element s) (is_yes (get_or ps l 0)) _

      leaves_over : q.kind ≡ over_kind → step_leaves s c ps l ≡ holds_at ws us on_leaf k l
      leaves_over e =
          let f : position_by q ≡ positions.over (step_in q) q.first = rw e in
          let b : q.first < l = lower_at us pre.fill.second l h f in
          ap (λ (x : Bool). admits_leaf s && (x && is_set_at c leaf_field l)) (parent_is_lem e (omega arith)) ∙
          ap (λ (x : Bool). admits_leaf s && (is_parent s (step_in q) (cell_at (entries_by ws) (entries_by us) i q.first) && x))
          (over_leaf pre.fill.columns l h e) ∙
          turned (admits_leaf s) (is_parent s (step_in q) (cell_at (entries_by ws) (entries_by us) i q.first))
          (admits_leaf (step_in q)) ∙
          sym (on_steps ws us pre.fill.first.lower pre.fill.second.lower k l low (cells l h) s i at_k
          (step_in q) q.first (position_at us l ∙ f)).1

      leaves_none : (q.kind ≡ over_kind → ⊥) → step_leaves s c ps l ≡ false
      leaves_none n =
          ap (λ (x : Bool). admits_leaf s && (is_yes (get_or ps l 0) && x)) (no_leaf_at pre.fill.columns l h n) ∙
          no_leaf (admits_leaf s) (is_yes (get_or ps l 0))

      start : (x : positions.Position) → position_by q ≡ x → IsStart x →
          (holds_at ws us on_element k l ≡ false) × (holds_at ws us on_leaf k l ≡ false)
      start x f g =
          on_step_start ws us pre.fill.first.lower pre.fill.second.lower k l low (cells l h) s i at_k
          x (position_at us l ∙ f) g

      both_on : (step_elements s c ps l ≡ before_rest ws us c on_element k l) × (step_leaves s c ps l ≡ before_rest ws us c on_leaf k l)
      both_on = go (kind_of q (kind_low (get_or us l 0)))
        where
          single : (q.kind ≡ union_kind → ⊥) → step_elements s c ps l ≡ holds_at ws us on_element k l →
              step_leaves s c ps l ≡ holds_at ws us on_leaf k l →
              (step_elements s c ps l ≡ before_rest ws us c on_element k l) × (step_leaves s c ps l ≡ before_rest ws us c on_leaf k l)
          single n e f =
              let z = not_union pre.fill.columns l h n in
              (e ∙ sym (at_single ws us c on_element k l z refl), f ∙ sym (at_single ws us c on_leaf k l z refl))

          go : KindOf q → (step_elements s c ps l ≡ before_rest ws us c on_element k l) ×
              (step_leaves s c ps l ≡ before_rest ws us c on_leaf k l)
          go (is_nowhere e f) =
              let n : q.kind ≡ over_kind → ⊥ = λ g. omega arith in
              let o = start positions.nowhere f tt in
              single (λ g. omega arith) (elements_none n ∙ sym o.0) (leaves_none n ∙ sym o.1)
          go (is_root e f) =
              let n : q.kind ≡ over_kind → ⊥ = λ g. omega arith in
              let o = start (positions.root q.label) f tt in
              single (λ g. omega arith) (elements_none n ∙ sym o.0) (leaves_none n ∙ sym o.1)
          go (is_over e f) = single (λ g. omega arith) (elements_over e) (leaves_over e)
          go (is_union e f) =
              let n : q.kind ≡ over_kind → ⊥ = λ g. omega arith in
              let z = is_union_lem pre.fill.columns l h e in
              (elements_none n ∙ sym (at_union ws us c on_element k l z), leaves_none n ∙ sym (at_union ws us c on_leaf k l z))

    -- what a leaf on both asks, after an element on both
    pub leaves_asks : {t₁ : List ℕ} → RowMarked t m on_element k (step_elements s c ps) m t₁ → OnPre t₁ m on_leaf k c ps
    leaves_asks one =
        record {
          pass = pass pre.fill pre.filled on_leaf (omega arith) one.size
              (λ l g. one.others on_leaf k l (omega arith) g (λ x y z. omega arith));
          space = parents.size ∙ space;
        }

    -- DOWN, after both
    module _ {t₁ t₂ : List ℕ} (one : RowMarked t m on_element k (step_elements s c ps) m t₁)
        (two : RowMarked t₁ m on_leaf k (step_leaves s c ps) m t₂) where
      kept : Kept t m k t₂
      kept = kept_then (kept_row one) (kept_row two)

      pub down_asks : DownPre t₂ m k c i
      down_asks =
          record {
            pass = pass pre.fill pre.filled down (omega arith) kept.size
                (λ l g. two.others down k l (omega arith) g (λ x y z. omega arith) ∙
                one.others down k l (omega arith) g (λ x y z. omega arith));
            source = row_room pre.fill pre.filled i (omega (arith, operand_low)) t₂ kept.size;
          }

      on_marked : (l : ℕ) → l < m → mark_at t₂ m on_element k l ≡ bit (before_rest ws us c on_element k l)
      on_marked l h = two.others on_element k l (omega arith) h (λ x y z. omega arith) ∙ one.here l h ∙ ap bit (both_on l h).0

      leaf_marked : (l : ℕ) → l < m → mark_at t₂ m on_leaf k l ≡ bit (before_rest ws us c on_leaf k l)
      leaf_marked l h = two.here l h ∙ ap bit (both_on l h).1

      abbrev downs : ℕ → Bool
      downs = down_by t₂ m c i k (admits_element s) (is_deep s)

      read_kept : (r l : ℕ) → r < relations → l < m → is_marked t₂ m r i l ≡ holds_at ws us r i l
      read_kept r l g h =
          let n : i ≡ k → ⊥ = λ e. omega (arith, operand_low) in
          ap is_yes (kept.others r i l g h n) ∙ read r l g h

      down_is : (l : ℕ) → l < m → downs l ≡ before_rest ws us c down k l
      down_is l h = eq_cases (fields_of (get_or us l 0)).kind union_kind union single
        where
          below : Bool
          below = is_marked t₂ m down i l || (is_deep s && is_marked t₂ m up i l)

          on_read : is_marked t₂ m on_element k l ≡ before_rest ws us c on_element k l
          on_read = marked_is t₂ m on_element k l (on_marked l h)

          single : ((fields_of (get_or us l 0)).kind ≡ union_kind → ⊥) → downs l ≡ before_rest ws us c down k l
          single n =
              let z = not_union pre.fill.columns l h n in
              ap (λ (x : Bool). x || (admits_element s && not (eqb (column_at c kind_field l) union_kind) &&
              (is_marked t₂ m down i l || (is_deep s && is_marked t₂ m up i l)))) (on_read ∙ at_single ws us c on_element k l z refl) ∙
              ap (λ (x : Bool). holds_at ws us on_element k l || (admits_element s && not x && (is_marked t₂ m down i l ||
              (is_deep s && is_marked t₂ m up i l)))) z ∙
              ap (λ (x : Bool). holds_at ws us on_element k l || (x && (is_marked t₂ m down i l || (is_deep s && is_marked t₂ m up i l))))
              (and-true (admits_element s)) ∙
              ap (λ (x : Bool). holds_at ws us on_element k l || (admits_element s && (x || (is_deep s && is_marked t₂ m up i l))))
              (read_kept down l (omega arith) h) ∙
              ap (λ (x : Bool). holds_at ws us on_element k l || (admits_element s && (holds_at ws us down i l || (is_deep s && x))))
              (read_kept up l (omega arith) h) ∙
              sym (down_step ws us pre.fill.first.lower pre.fill.second.lower k l low (cells l h) s i
              operand_low at_k (position_by (fields_of (get_or us l 0))) (position_at us l)
              (single_at (fields_of (get_or us l 0)) (kind_low (get_or us l 0)) n)) ∙
              sym (at_single ws us c down k l z refl)

          union : (fields_of (get_or us l 0)).kind ≡ union_kind → downs l ≡ before_rest ws us c down k l
          union e =
              let z = is_union_lem pre.fill.columns l h e in
              ap (λ (x : Bool). x || (admits_element s && not (eqb (column_at c kind_field l) union_kind) &&
              (is_marked t₂ m down i l || (is_deep s && is_marked t₂ m up i l)))) (on_read ∙ at_union ws us c on_element k l z) ∙
              ap (λ (x : Bool). admits_element s && not x && (is_marked t₂ m down i l || (is_deep s && is_marked t₂ m up i l))) z ∙
              ap (λ (x : Bool). x && (is_marked t₂ m down i l || (is_deep s && is_marked t₂ m up i l))) (and-false (admits_element s)) ∙
              sym (at_union ws us c down k l z)

      module _ {t₃ : List ℕ} {a d : Bool} (passing : a ≡ admits_element s) (deep : d ≡ is_deep s)
          (given₃ : RowMarked t₂ m down k (down_by t₂ m c i k a d) m t₃) where
        three : RowMarked t₂ m down k downs m t₃
        three =
            subst (λ (y : Bool). RowMarked t₂ m down k (down_by t₂ m c i k (admits_element s) y) m t₃) deep
            (subst (λ (y : Bool). RowMarked t₂ m down k (down_by t₂ m c i k y d) m t₃) passing given₃)

        all_kept : Kept t m k t₃
        all_kept = kept_then kept (kept_row three)

        started : (l : ℕ) → l < m → (r : ℕ) → r < relations → mark_at t₃ m r k l ≡ bit (before_rest ws us c r k l)
        started l h =
            by_relation (λ (r : ℕ). mark_at t₃ m r k l ≡ bit (before_rest ws us c r k l))
            (three.others on_element k l (omega arith) h (λ x y z. omega arith) ∙ on_marked l h)
            (three.here l h ∙ ap bit (down_is l h))
            (three.others up k l (omega arith) h (λ x y z. omega arith) ∙ two.others up k l (omega arith) h (λ x y z. omega arith) ∙
            one.others up k l (omega arith) h (λ x y z. omega arith) ∙ clear pre.fill pre.filled up l (omega arith) h ∙ ap bit
            (sym (at_up ws us c k l)))
            (three.others on_leaf k l (omega arith) h (λ x y z. omega arith) ∙ leaf_marked l h)

        pub rest_asks : RestPre ws us c t₃ k
        rest_asks =
            rest_asked pre.fill pre.filled
            (λ e. omega (arith, ap (λ (x : Position). x.kind) pre.position, pre.kind)) all_kept started

        -- nothing seen: nothing in common
        module _ (no_leaf : any_up_to (step_leaves s c ps) m ≡ false) (no-down : any_up_to downs m ≡ false) where
          not_down : (l : ℕ) → l < length (entries_by us) → (x : positions.Position) → (entry_at (entries_by us) l).position ≡ x → IsSingle
              x →
              (holds_at ws us on_element k l ≡ false) × (holds_at ws us down k l ≡ false)
          not_down l a x e g =
              let h : l < m = omega (arith, entries_length us) in
              let z = not_union pre.fill.columns l h (single_kind us l x e g) in
              let d : holds_at ws us down k l ≡ false =
              sym (at_single ws us c down k l z refl) ∙ sym (down_is l h) ∙ any_up_to_false downs m no-down l h in (
                (or_neither _ _ (sym (down_step ws us pre.fill.first.lower pre.fill.second.lower k l low
                    (cells l h) s i operand_low at_k x e g) ∙ d)).0,
                d,
              )

          not_leaf : (l : ℕ) → l < length (entries_by us) → (x : positions.Position) → (entry_at (entries_by us) l).position ≡ x → IsSingle
              x →
              holds_at ws us on_leaf k l ≡ false
          not_leaf l a x e g =
              let h : l < m = omega (arith, entries_length us) in
              let z = not_union pre.fill.columns l h (single_kind us l x e g) in
              sym (at_single ws us c on_leaf k l z refl) ∙ sym (both_on l h).1 ∙ any_up_to_false (step_leaves s c ps) m no_leaf l h

          step_apart : Apart ws us k
          step_apart r l h g =
              let n = apart ws us pre.fill.first.lower pre.fill.second.lower k low
              (positions.over s i) at_k tt not_down l (cells l g) in
              none_holds ws us k l n
              (leafless ws us pre.fill.first.lower pre.fill.second.lower k low (positions.over s i)
              at_k tt not_leaf l (cells l g)) r h

        pub step_done : {t₄ : List ℕ} → RestPost ws us t₃ k t₄ → (x y : Bool) → x ≡ any_up_to (step_leaves s c ps) m →
            y ≡ any_up_to (down_by t₂ m c i k a d) m → RowPost ws us t k t₄ (x || y)
        step_done {t₄} post x y e f =
            record {
              size = post.size ∙ all_kept.size;
              filled = filled_next pre.filled (kept_then all_kept (kept_rest post)) post.row;
              apart = λ g. let n = or_neither x y g in
                  step_apart (sym e ∙ n.0) (ap (λ (b : Bool). any_up_to (down_by t₂ m c i k b (is_deep s)) m) (sym passing) ∙
                  ap (λ (b : Bool). any_up_to (down_by t₂ m c i k a b) m) (sym deep) ∙ sym f ∙ n.1);
            }

  -- a step from a row without anything in common
  pub dead_row : Apart ws us i → Apart ws us k
  dead_row none r l h g =
      let n = below_apart ws us pre.fill.first.lower pre.fill.second.lower s i k low operand_low at_k
      (λ j a. let b : j < m = omega (arith, entries_length us) in
      record { on = none on_element j (omega arith) b; down = none down j (omega arith) b; up = none up j (omega arith) b }) l
      (cells l g) in
      none_holds ws us k l n.0 n.1 r h
