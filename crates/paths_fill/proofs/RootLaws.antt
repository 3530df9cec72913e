-- A root's row: an element on both exactly where a root of the second script is the same document's, and it is down as well.
use mathlib.Core.Path.{◌≡◌, refl, ap, sym, ◌∙◌}
use mathlib.Core.Bool.{Bool, true, false, ◌&&◌, false≢true, or-false}
use mathlib.Core.List.{List}
use Prim.Native.Nat.{ℕ, ◌/◌, ◌%◌, ◌<◌}
use native.Mathlib.Omega.{arith}
use lib.Dec.{eqb}
use lib.ListN.{length, get_or}
use borrow.Author.Tests.{ne_eqb, eq-eqb}
use Rattle.model.specs.Base.{bit}
use Rattle.model.specs.Meeting.{Cell}
use Rattle.model.proofs.BoolLaws.{eq_cases}
use Rattle.paths_positions.specs.Positions as positions
use Rattle.paths_positions.specs.Positions.{entry_at}
use Rattle.paths_positions.specs.Answer.{any_up_to}
use Rattle.paths_positions.specs.declared.packed.Fields.{Fields as Position}
use Rattle.paths_positions.specs.Packed.{step_in, position_by, fields_of, entries_by, kept_of, kept_entries_by, root_kind, union_kind}
use Rattle.paths_positions.proofs.AnyUpToLaws.{any_up_to_false}
use Rattle.paths_positions.proofs.RelationLaws.{IsSingle}
use Rattle.paths_cells.specs.Pairs.{on_element, down, up, on_leaf, relations, mark_at, is_marked}
use Rattle.paths_cells.proofs.MarkLaws.{marked_is}
use Rattle.paths_rows.specs.Columns.{column_at, kind_field}
use Rattle.paths_rows.specs.Rows.{RowMarked, PassPre, label_is, root_by, DownPre, down_by}
use Rattle.paths_fill.specs.Filling.{holds_at, before_rest, RestPre, RestPost, KindRowPre, Apart, RowPost}
use Rattle.paths_fill.proofs.KindLaws.{KindOf, is_nowhere, is_root, is_over, is_union, kind_of, kind_low, position_at, entries_length}
use Rattle.paths_fill.proofs.KindLaws.{kept_position_at, kept_length}
use Rattle.paths_fill.proofs.KeptLaws.{second_nowhere, on_roots, on_root_step, down_root, root_leaf, apart, leafless}
use Rattle.paths_fill.proofs.KindLaws.{kind_at, is_union_lem, not_union, labels_at}
use Rattle.paths_fill.proofs.RestLaws.{single_at}
use Rattle.paths_fill.proofs.RowLaws.{by_relation, Kept, kept_row, kept_rest, kept_then, filled_next, row_room, clear, pass}
use Rattle.paths_fill.proofs.RowLaws.{rest_asked, none_holds, single_kind, at_union, at_single, at_up, before_none}

module _ {ws us c t : List ℕ} {k : ℕ} {p : Position} (pre : KindRowPre ws us c t k p root_kind) where
  abbrev m : ℕ
  m = length us

  is : position_by (kept_of (get_or ws k 0)) ≡ positions.root p.label
  is = ap position_by (sym pre.position) ∙ rw pre.kind

  at_k : (entry_at (kept_entries_by ws) k).position ≡ positions.root p.label
  at_k = kept_position_at ws k ∙ is

  low : k < length (kept_entries_by ws)
  low = omega (arith, kept_length ws, pre.fill.row)

  cells : (l : ℕ) → l < m → l < length (entries_by us)
  cells l h = omega (arith, entries_length us)

  pub roots_asks : PassPre t m on_element k c
  roots_asks = pass pre.fill pre.filled on_element (omega arith) refl (λ l g. refl)

  abbrev roots : ℕ → Bool
  roots = root_by c (p.label % 256) (p.label / 256)

  -- AN ELEMENT ON BOTH
  module _ (l : ℕ) (h : l < m) where
    abbrev q : Position
    q = fields_of (get_or us l 0)

    not_root : (q.kind ≡ root_kind → ⊥) → roots l ≡ false
    not_root n =
        ap (λ (x : ℕ). eqb x root_kind && label_is c (p.label % 256) (p.label / 256) l) (kind_at pre.fill.columns l h) ∙
        ap (λ (x : Bool). x && label_is c (p.label % 256) (p.label / 256) l) (ne_eqb q.kind root_kind n)

    on_is : roots l ≡ before_rest ws us c on_element k l
    on_is = go (kind_of q (kind_low (get_or us l 0)))
      where
        single : (q.kind ≡ union_kind → ⊥) → roots l ≡ holds_at ws us on_element k l → roots l ≡ before_rest ws us c on_element k l
        single n e = e ∙ sym (at_single ws us c on_element k l (not_union pre.fill.columns l h n) refl)

        go : KindOf q → roots l ≡ before_rest ws us c on_element k l
        go (is_nowhere e f) =
            single (λ g. omega arith) (not_root (λ g. omega arith) ∙
            sym (ap (λ (x : Cell). x.on_element) (second_nowhere ws us pre.fill.first.lower
            pre.fill.second.lower k l low (cells l h) (position_at us l ∙ f))))
        go (is_root e f) =
            single (λ g. omega arith)
            (ap (λ (x : Bool). x && label_is c (p.label % 256) (p.label / 256) l)
            (eq-eqb (column_at c kind_field l) root_kind (kind_at pre.fill.columns l h ∙ e)) ∙
            labels_at pre.fill.columns l h p.label ∙
            sym (on_roots ws us pre.fill.first.lower pre.fill.second.lower k l low (cells l h)
            p.label q.label at_k (position_at us l ∙ f)))
        go (is_over e f) =
            single (λ g. omega arith) (not_root (λ g. omega arith) ∙
            sym (on_root_step ws us pre.fill.first.lower pre.fill.second.lower k l low (cells l h)
            p.label at_k (step_in q) q.first (position_at us l ∙ f)))
        go (is_union e f) =
            not_root (λ g. omega arith) ∙ sym (at_union ws us c on_element k l (is_union_lem pre.fill.columns l h e))

  -- DOWN as well
  module _ {t₁ : List ℕ} (one : RowMarked t m on_element k roots m t₁) where
    pub down_asks : DownPre t₁ m k c k
    down_asks =
        record {
          pass = pass pre.fill pre.filled down (omega arith) one.size
              (λ l g. one.others down k l (omega arith) g (λ x y z. omega arith));
          source = row_room pre.fill pre.filled k (omega arith) t₁ one.size;
        }

    abbrev downs : ℕ → Bool
    downs = down_by t₁ m c k k false false

    down_before : (l : ℕ) → l < m → downs l ≡ before_rest ws us c on_element k l
    down_before l h =
        or-false (is_marked t₁ m on_element k l) ∙ marked_is t₁ m on_element k l (one.here l h ∙ ap bit (on_is l h))

    down_single : (l : ℕ) → l < m → ((fields_of (get_or us l 0)).kind ≡ union_kind → ⊥) →
        holds_at ws us down k l ≡ holds_at ws us on_element k l
    down_single l h n =
        down_root ws us pre.fill.first.lower pre.fill.second.lower k l low (cells l h) p.label at_k
        (position_by (fields_of (get_or us l 0))) (position_at us l) (single_at (fields_of (get_or us l 0)) (kind_low (get_or us l 0)) n)

    down_is : (l : ℕ) → l < m → downs l ≡ before_rest ws us c down k l
    down_is l h = down_before l h ∙ eq_cases (fields_of (get_or us l 0)).kind union_kind union single
      where
        single : ((fields_of (get_or us l 0)).kind ≡ union_kind → ⊥) → before_rest ws us c on_element k l ≡ before_rest ws us c down k l
        single n =
            let z = not_union pre.fill.columns l h n in
            at_single ws us c on_element k l z refl ∙ sym (down_single l h n) ∙ sym (at_single ws us c down k l z refl)

        union : (fields_of (get_or us l 0)).kind ≡ union_kind → before_rest ws us c on_element k l ≡ before_rest ws us c down k l
        union e =
            let z = is_union_lem pre.fill.columns l h e in
            at_union ws us c on_element k l z ∙ sym (at_union ws us c down k l z)

    -- no leaf
    no_leaf : (l : ℕ) → l < length (entries_by us) → holds_at ws us on_leaf k l ≡ false
    no_leaf =
        leafless ws us pre.fill.first.lower pre.fill.second.lower k low (positions.root p.label)
        at_k tt
        (λ l a x e g. root_leaf ws us pre.fill.first.lower pre.fill.second.lower k l low a p.label
        at_k x e g)

    module _ {t₂ : List ℕ} (two : RowMarked t₁ m down k downs m t₂) where
      kept : Kept t m k t₂
      kept = kept_then (kept_row one) (kept_row two)

      started : (l : ℕ) → l < m → (r : ℕ) → r < relations → mark_at t₂ m r k l ≡ bit (before_rest ws us c r k l)
      started l h =
          by_relation (λ (r : ℕ). mark_at t₂ m r k l ≡ bit (before_rest ws us c r k l))
          (two.others on_element k l (omega arith) h (λ x y z. omega arith) ∙ one.here l h ∙ ap bit (on_is l h))
          (two.here l h ∙ ap bit (down_is l h))
          (as_before up (omega arith) (λ e. omega arith) (λ e. omega arith) ∙ ap bit (sym (at_up ws us c k l)))
          (as_before on_leaf (omega arith) (λ e. omega arith) (λ e. omega arith) ∙
          ap bit (sym (before_none ws us c on_leaf k l (no_leaf l (cells l h)) ∙ no_leaf l (cells l h))))
        where
          as_before : (r : ℕ) → r < relations → (r ≡ on_element → ⊥) → (r ≡ down → ⊥) → mark_at t₂ m r k l ≡ 0
          as_before r a n o =
              two.others r k l a h (λ x y z. o x) ∙ one.others r k l a h (λ x y z. n x) ∙ clear pre.fill pre.filled r l a h

      pub rest_asks : RestPre ws us c t₂ k
      rest_asks =
          rest_asked pre.fill pre.filled
          (λ e. omega (arith, ap (λ (x : Position). x.kind) pre.position, pre.kind)) kept started

      pub root_done : {t₃ : List ℕ} → RestPost ws us t₂ k t₃ → RowPost ws us t k t₃ true
      root_done post =
          record {
            size = post.size ∙ kept.size;
            filled = filled_next pre.filled (kept_then kept (kept_rest post)) post.row;
            apart = λ e. absurd (false≢true (sym e));
          }

      -- nothing seen: nothing in common
      pub root_none : any_up_to downs m ≡ false → RowPost ws us t k t₂ false
      root_none none =
          record {
            size = kept.size;
            filled = filled_next pre.filled kept
                (λ r l h g. started l g r h ∙ ap bit (before_none ws us c r k l (root_apart r l h g)));
            apart = λ e. root_apart;
          }
        where
          not_down : (l : ℕ) → l < length (entries_by us) → (x : positions.Position) → (entry_at (entries_by us) l).position ≡ x → IsSingle
              x →
              (holds_at ws us on_element k l ≡ false) × (holds_at ws us down k l ≡ false)
          not_down l a x e g =
              let h : l < m = omega (arith, entries_length us) in
              let n = single_kind us l x e g in
              let d : holds_at ws us down k l ≡ false =
              sym (at_single ws us c down k l (not_union pre.fill.columns l h n) refl) ∙ sym (down_is l h) ∙ any_up_to_false downs m none
              l h in
              (sym (down_single l h n) ∙ d, d)

          root_apart : Apart ws us k
          root_apart r l h g =
              let n = apart ws us pre.fill.first.lower pre.fill.second.lower k low
              (positions.root p.label) at_k tt not_down l (cells l g) in
              none_holds ws us k l n (no_leaf l (cells l g)) r h
