-- A swept table is well formed and swept already, and which rows a sweep keeps.
use mathlib.Core.Path.{◌≡◌, refl, sym, ap, ap₂, ◌∙◌, subst}
use mathlib.Core.Bool.{true, false}
use mathlib.Core.Logic.{inl, inr}
use mathlib.Core.Option.{Option, none, some}
use Prim.Native.Nat.{ℕ, zero, suc, ◌<◌}
use native.Mathlib.Nat.{not-suc-le-zero, zero-add}
use native.Mathlib.Omega.{arith}
use lib.ListN.{get_or, length-map, get_or-map}
use lib.Seq.{ext_get_or}
use Rattle.model.specs.Table.{Row, Table, table, row_at, count, tag_fits, ParentLower, IsRoot, Tree}
use Rattle.model.specs.Sweep.{is_kept, new_number, renumbered, swept}
use Rattle.model.specs.Promise.{SweepsWell, SweepKeeps}
use Rattle.model.proofs.TableLaws.{any_at, any_by, parent_count, Well, is_well_at, is_well_by}
use Rattle.model.proofs.SweepLaws.{is_kept_unrolled, is_kept_marked, is_kept_below, is_kept_cases, is_kept_parent, new_number_le}
use Rattle.model.proofs.SweepLaws.{new_number_strict, new_number_once, new_number_all, swept_row, length_swept_rows, swept_rows_at}
use Rattle.model.proofs.SweepLaws.{swept_rows_from, renumbered_some, swept_rows_same}

module _ (x : Table) (t : Tree x) where
  -- THE SWEPT TABLE by index
  count_swept : count (swept x) ≡ new_number x (count x)
  count_swept = length_swept_rows x 0 x.rows

  row_at_swept : (i : ℕ) → i < count x → is_kept x i ≡ true → row_at (swept x) (new_number x i) ≡ swept_row x (row_at x i)
  row_at_swept i l h = swept_rows_at x 0 x.rows i l (rw zero-add h)

  new_number_within : (i : ℕ) → i < count x → is_kept x i ≡ true → new_number x i < count (swept x)
  new_number_within i l h = omega (arith, count_swept, new_number_strict x i (count x) h l)

  -- each of its rows is a kept row's
  swept_row_lem : (P : ℕ → Row → Type 0) → ((i : ℕ) → i < count x → is_kept x i ≡ true → P (new_number x i) (swept_row x (row_at x i))) →
      (j : ℕ) → j < count (swept x) → P j (row_at (swept x) j)
  swept_row_lem P f j l =
      let o = swept_rows_from x 0 x.rows j l in
      let h : is_kept x o.row ≡ true = rw zero-add at o.kept in
      subst (λ (k : ℕ). P k (row_at (swept x) k)) o.counted
      (subst (P (new_number x o.row)) (sym (row_at_swept o.row o.within h)) (f o.row o.within h))

  -- IT IS A TREE
  swept_parent : (i : ℕ) → i < count x → is_kept x i ≡ true → ParentLower (swept x) (new_number x i) (swept_row x (row_at x i))
  swept_parent i l h p e =
      let w = renumbered_some x (row_at x i).parent p e in
      let k = is_kept_parent x t i w.0 w.1.0 h in
      let q = t.parents i w.0 w.1.0 in (
        omega (arith, new_number_strict x w.0 i k q.0, w.1.1),
        subst (λ (n : ℕ). (row_at (swept x) n).is_leaf ≡ false) w.1.1
            (ap (λ (r : Row). r.is_leaf) (row_at_swept w.0 (omega (arith, q.0)) k) ∙ q.1),
      )

  marked_kept : (d i : ℕ) → get_or x.marks d none ≡ some i → is_kept x i ≡ true
  marked_kept d i e = is_kept_marked x t i (any_by i x.marks d e)

  swept_root : (i : ℕ) → IsRoot x i → is_kept x i ≡ true → IsRoot (swept x) (new_number x i)
  swept_root i r h =
      let e = row_at_swept i r.0 h in
      (new_number_within i r.0 h, ap (λ (q : Row). q.is_leaf) e ∙ r.1, ap (λ (q : Row). q.parent) e ∙ ap (renumbered x) r.2)

  swept_tree : Tree (swept x)
  swept_tree = record {
    tags = swept_row_lem (λ j r. tag_fits r ≡ true) (λ i l h. t.tags i l);
    parents = λ j p e. swept_row_lem (ParentLower (swept x)) swept_parent j (parent_count (swept x) j p e) p e;
    roots = root;
    once = once;
  }
    where
      origin : (d j : ℕ) → get_or (swept x).marks d none ≡ some j → (i : ℕ) × ((get_or x.marks d none ≡ some i) × (new_number x i ≡ j))
      origin d j e = renumbered_some x (get_or x.marks d none) j (sym (get_or-map (renumbered x) x.marks d none) ∙ e)

      root : (d j : ℕ) → get_or (swept x).marks d none ≡ some j → IsRoot (swept x) j
      root d j e =
          let w = origin d j e in
          subst (IsRoot (swept x)) w.1.1 (swept_root w.0 (t.roots d w.0 w.1.0) (marked_kept d w.0 w.1.0))

      once : (d e j : ℕ) → get_or (swept x).marks d none ≡ some j → get_or (swept x).marks e none ≡ some j → d ≡ e
      once d e j p q =
          let v = origin d j p in
          let w = origin e j q in
          let s : v.0 ≡ w.0 =
          new_number_once x v.0 w.0 (marked_kept d v.0 v.1.0) (marked_kept e w.0 w.1.0)
          (v.1.1 ∙ sym w.1.1) in
          t.once d e v.0 v.1.0 (w.1.0 ∙ ap {B = Option ℕ} some (sym s))

  -- EVERY ROW OF IT IS KEPT; fuel: more than the row's number
  swept_kept : (n i : ℕ) → i < n → i < count x → is_kept x i ≡ true → is_kept (swept x) (new_number x i) ≡ true
  swept_kept zero i m l h = absurd (not-suc-le-zero m)
  swept_kept (suc n) i m l h = elim (is_kept_cases x t i h) [
    | inl k ↦
        let w = any_at i x.marks k in
        is_kept_marked (swept x) swept_tree (new_number x i)
        (any_by (new_number x i) (swept x).marks w.0 (get_or-map (renumbered x) x.marks w.0 none ∙ ap (renumbered x) w.1))
    | inr w ↦
        let q = (t.parents i w.0 w.1.0).0 in
        is_kept_below (swept x) swept_tree (new_number x i) (new_number x w.0)
        (ap (λ (r : Row). r.parent) (row_at_swept i l h) ∙ ap (renumbered x) w.1.0)
        (swept_kept n w.0 (omega arith) (omega arith) w.1.1)
  ]

  swept_all : (j : ℕ) → j < count (swept x) → is_kept (swept x) j ≡ true
  swept_all = swept_row_lem (λ j r. is_kept (swept x) j ≡ true) (λ i l h. swept_kept (suc i) i (omega arith) l h)

  renumbered_same : (q : Option ℕ) → ((p : ℕ) → q ≡ some p → p < count (swept x)) → renumbered (swept x) q ≡ q
  renumbered_same none h = refl
  renumbered_same (some p) h =
      ap {B = Option ℕ} some (new_number_all (swept x) p (λ i l. swept_all i (omega (arith, h p refl))))

  swept_twice : swept (swept x) ≡ swept x
  swept_twice =
      ap₂ table
      (swept_rows_same (swept x) 0 (swept x).rows (λ j l. (rw zero-add (swept_all j l), renumbered_same _ (parent j l))))
      (ext_get_or none _ _ (length-map (swept x).marks (renumbered (swept x))) (λ d l.
      get_or-map (renumbered (swept x)) (swept x).marks d none ∙ renumbered_same _ (λ p e. (swept_tree.roots d p e).0)))
    where
      parent : (j : ℕ) → j < count (swept x) → (p : ℕ) → (row_at (swept x) j).parent ≡ some p → p < count (swept x)
      parent j l p e = omega (arith, (swept_tree.parents j p e).0)

  swept_well : Well x → Well (swept x)
  swept_well w = record {
    few = omega (arith, count_swept, new_number_le x (count x), w.few);
    eight = length-map x.marks (renumbered x) ∙ w.eight;
    tree = swept_tree;
  }

pub sweeps_well : SweepsWell
sweeps_well x h = let w = is_well_at x h in (is_well_by (swept x) (swept_well x w.tree w), swept_twice x w.tree)

pub sweep_keeps : SweepKeeps
sweep_keeps x h =
    let t = (is_well_at x h).tree in (
      is_kept_unrolled x t,
      λ i l k. (new_number_within x t i l k, row_at_swept x t i l k),
      is_kept_parent x t,
      from,
      new_number_strict x,
      λ d. get_or-map (renumbered x) x.marks d none,
    )
  where
    from : (j : ℕ) → j < count (swept x) → (i : ℕ) × ((i < count x) × (is_kept x i ≡ true) × (new_number x i ≡ j))
    from j l = let o = swept_rows_from x 0 x.rows j l in (o.row, (o.within, rw zero-add at o.kept, o.counted))
