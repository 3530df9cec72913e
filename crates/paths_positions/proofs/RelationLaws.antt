-- The cell of two positions, relation by relation: each from the others of the pair and from those of lower pairs. So a row of which
-- nothing is down has no element in common with any position.
use mathlib.Core.Path.{◌≡◌, refl, ap, sym, ◌∙◌, subst}
use mathlib.Core.Bool.{Bool, false, ◌&&◌, ◌||◌, and-false, or-false}
use mathlib.Core.List.{List}
use Prim.Native.Nat.{ℕ, zero, suc, ◌<◌}
use native.Mathlib.Omega.{arith}
use lib.Dec.{eqb}
use lib.ListN.{length}
use Rattle.model.specs.Script.{Step}
use Rattle.model.specs.Meeting.{Cell, no_cell, join_cell, is_parent, share_element, share_leaf, is_deep, admits_element}
use Rattle.paths_positions.specs.Positions.{Position, nowhere, root, over, union, Entry, entry_at, IsLower, AreLower}
use Rattle.paths_positions.specs.Answer.{NoElement, cell_at}
use Rattle.paths_positions.proofs.PositionLaws.{first_nowhere, second_nowhere, second_union, root_root, root_step, step_root}
use Rattle.paths_positions.proofs.PositionLaws.{step_step}

-- a position that is not two together
abbrev pub IsSingle : Position → Type 0
IsSingle nowhere = Unit
IsSingle (root d) = Unit
IsSingle (over s i) = Unit
IsSingle (union a b) = ⊥

-- neither is it a step
abbrev pub IsStart : Position → Type 0
IsStart nowhere = Unit
IsStart (root d) = Unit
IsStart (over s i) = ⊥
IsStart (union a b) = ⊥

-- what a step makes of two tests of the pair it starts from
abbrev pub passes : (element deep near far : Bool) → Bool
passes e d x y = e && (x || (d && y))

passes_none : (e d : Bool) → passes e d false false ≡ false
passes_none e d = ap (λ (x : Bool). e && x) (and-false d) ∙ and-false e

-- no element in common
no_element : (c : Cell) → c ≡ no_cell → NoElement c
no_element c e =
    record {
      on = ap (λ (x : Cell). x.on_element) e;
      down = ap (λ (x : Cell). x.down_element) e;
      up = ap (λ (x : Cell). x.up_element) e;
    }

joined : (c d e : Cell) → c ≡ join_cell d e → NoElement d → NoElement e → NoElement c
joined c d e h x y =
    record {
      on = ap (λ (z : Cell). z.on_element) h ∙ ap (λ (t : Bool). t || e.on_element) x.on ∙ y.on;
      down = ap (λ (z : Cell). z.down_element) h ∙ ap (λ (t : Bool). t || e.down_element) x.down ∙ y.down;
      up = ap (λ (z : Cell). z.up_element) h ∙ ap (λ (t : Bool). t || e.up_element) x.up ∙ y.up;
    }

module _ (es fs : List Entry) (lower : AreLower es) (lower₂ : AreLower fs) where
  module _ (k l : ℕ) (low : k < length es) (low₂ : l < length fs) where
    abbrev here : Cell
    here = cell_at es fs k l

    -- the one where either is nothing
    none : here ≡ no_cell → (f g : Cell → Bool) → f no_cell ≡ g no_cell → f here ≡ g here
    none e f g h = ap f e ∙ h ∙ sym (ap g e)

    -- UP: an element on both, or, from a step over j, one below what is up there
    pub up_step : (p : Position) → (entry_at es k).position ≡ p → IsSingle p → (u : Step) (j : ℕ) → j < l → (entry_at fs l).position ≡ over
        u j →
        here.up_element ≡
        (here.on_element || passes (admits_element u) (is_deep u) (cell_at es fs k j).up_element (cell_at es fs k j).down_element)
    up_step nowhere e h u j b f =
        let n = no_element (cell_at es fs k j) (first_nowhere es fs lower lower₂ k j low (omega arith) e) in
        let m = no_element here (first_nowhere es fs lower lower₂ k l low low₂ e) in
        m.up ∙
        sym (ap (λ (x : Bool). x || passes (admits_element u) (is_deep u) (cell_at es fs k j).up_element (cell_at es fs k j).down_element)
        m.on ∙
        ap (λ (x : Bool). passes (admits_element u) (is_deep u) x (cell_at es fs k j).down_element) n.up ∙
        ap (λ (x : Bool). passes (admits_element u) (is_deep u) false x) n.down ∙ passes_none (admits_element u) (is_deep u))
    up_step (root d) e h u j b f =
        let r = root_step es fs lower lower₂ k l low low₂ e f in
        ap (λ (c : Cell). c.up_element) r ∙
        sym (ap (λ (c : Cell). c.on_element || passes (admits_element u) (is_deep u) (cell_at es fs k j).up_element
        (cell_at es fs k j).down_element) r)
    up_step (over s i) e h u j b f =
        let r = step_step es fs lower lower₂ k l low low₂ e f in
        let x = passes (admits_element u) (is_deep u) (cell_at es fs k j).up_element (cell_at es fs k j).down_element in
        ap (λ (c : Cell). c.up_element) r ∙
        sym (ap (λ (c : Cell). c.on_element || x) r ∙ ap (λ (y : Bool). y || x)
        (or-false (is_parent s u (cell_at es fs i j) && share_element s u)))
    up_step (union a b) e h u j b' f = absurd h

    pub up_start : (p : Position) → (entry_at es k).position ≡ p → IsSingle p → (q : Position) → (entry_at fs l).position ≡ q → IsStart q →
        here.up_element ≡ here.on_element
    up_start p e h nowhere f g =
        none (second_nowhere es fs lower lower₂ k l low low₂ f) (λ (c : Cell). c.up_element) (λ (c : Cell). c.on_element) refl
    up_start nowhere e h (root d) f g =
        none (first_nowhere es fs lower lower₂ k l low low₂ e) (λ (c : Cell). c.up_element) (λ (c : Cell). c.on_element) refl
    up_start (root b) e h (root d) f g =
        let r = root_root es fs lower lower₂ k l low low₂ e f in
        ap (λ (c : Cell). c.up_element) r ∙ sym (ap (λ (c : Cell). c.on_element) r)
    up_start (over s i) e h (root d) f g =
        let r = step_root es fs lower lower₂ k l low low₂ e f in
        ap (λ (c : Cell). c.up_element) r ∙ sym (ap (λ (c : Cell). c.on_element) r)
    up_start (union a b) e h (root d) f g = absurd h
    up_start p e h (over u j) f g = absurd g
    up_start p e h (union a b) f g = absurd g

    -- DOWN: an element on both, or, from a step over i, one below what is down from there
    pub down_step : (s : Step) (i : ℕ) → i < k → (entry_at es k).position ≡ over s i → (q : Position) → (entry_at fs l).position ≡ q →
        IsSingle q →
        here.down_element ≡
        (here.on_element || passes (admits_element s) (is_deep s) (cell_at es fs i l).down_element (cell_at es fs i l).up_element)
    down_step s i b e nowhere f h =
        let n = no_element (cell_at es fs i l) (second_nowhere es fs lower lower₂ i l (omega arith) low₂ f) in
        let m = no_element here (second_nowhere es fs lower lower₂ k l low low₂ f) in
        m.down ∙
        sym (ap (λ (x : Bool). x || passes (admits_element s) (is_deep s) (cell_at es fs i l).down_element (cell_at es fs i l).up_element)
        m.on ∙
        ap (λ (x : Bool). passes (admits_element s) (is_deep s) x (cell_at es fs i l).up_element) n.down ∙
        ap (λ (x : Bool). passes (admits_element s) (is_deep s) false x) n.up ∙ passes_none (admits_element s) (is_deep s))
    down_step s i b e (root d) f h =
        let r = step_root es fs lower lower₂ k l low low₂ e f in
        ap (λ (c : Cell). c.down_element) r ∙
        sym (ap (λ (c : Cell). c.on_element || passes (admits_element s) (is_deep s) (cell_at es fs i l).down_element
        (cell_at es fs i l).up_element) r)
    down_step s i b e (over u j) f h =
        let r = step_step es fs lower lower₂ k l low low₂ e f in
        let x = passes (admits_element s) (is_deep s) (cell_at es fs i l).down_element (cell_at es fs i l).up_element in
        let y = is_parent s u (cell_at es fs i j) && share_element s u in
        ap (λ (c : Cell). c.down_element) r ∙ ap (λ (z : Bool). y || z) (or-false x) ∙
        sym (ap (λ (c : Cell). c.on_element || x) r ∙ ap (λ (z : Bool). z || x) (or-false y))
    down_step s i b e (union a a') f h = absurd h

    pub down_root : (d : ℕ) → (entry_at es k).position ≡ root d → (q : Position) → (entry_at fs l).position ≡ q → IsSingle q →
        here.down_element ≡ here.on_element
    down_root d e nowhere f h =
        none (second_nowhere es fs lower lower₂ k l low low₂ f) (λ (c : Cell). c.down_element) (λ (c : Cell). c.on_element) refl
    down_root d e (root b) f h =
        let r = root_root es fs lower lower₂ k l low low₂ e f in
        ap (λ (c : Cell). c.down_element) r ∙ sym (ap (λ (c : Cell). c.on_element) r)
    down_root d e (over u j) f h =
        let r = root_step es fs lower lower₂ k l low low₂ e f in
        ap (λ (c : Cell). c.down_element) r ∙ sym (ap (λ (c : Cell). c.on_element) r)
    down_root d e (union a b) f h = absurd h

    -- ON BOTH: two steps, from what their operands have in common; a step and none: nothing; two roots, if they are one
    pub on_steps : (s : Step) (i : ℕ) → (entry_at es k).position ≡ over s i → (u : Step) (j : ℕ) → (entry_at fs l).position ≡ over u j →
        (here.on_element ≡ (is_parent s u (cell_at es fs i j) && share_element s u)) ×
        (here.on_leaf ≡ (is_parent s u (cell_at es fs i j) && share_leaf s u))
    on_steps s i e u j f =
        let r = step_step es fs lower lower₂ k l low low₂ e f in
        (ap (λ (c : Cell). c.on_element) r ∙ or-false _, ap (λ (c : Cell). c.on_leaf) r ∙ or-false _)

    pub on_step_start : (s : Step) (i : ℕ) → (entry_at es k).position ≡ over s i → (q : Position) → (entry_at fs l).position ≡ q →
        IsStart q →
        (here.on_element ≡ false) × (here.on_leaf ≡ false)
    on_step_start s i e nowhere f h =
        let r = second_nowhere es fs lower lower₂ k l low low₂ f in (ap (λ (c : Cell). c.on_element) r, ap (λ (c : Cell). c.on_leaf) r)
    on_step_start s i e (root d) f h =
        let r = step_root es fs lower lower₂ k l low low₂ e f in (ap (λ (c : Cell). c.on_element) r, ap (λ (c : Cell). c.on_leaf) r)
    on_step_start s i e (over u j) f h = absurd h
    on_step_start s i e (union a b) f h = absurd h

    pub on_roots : (d b : ℕ) → (entry_at es k).position ≡ root d → (entry_at fs l).position ≡ root b → here.on_element ≡ eqb d b
    on_roots d b e f = ap (λ (c : Cell). c.on_element) (root_root es fs lower lower₂ k l low low₂ e f)

    pub on_root_step : (d : ℕ) → (entry_at es k).position ≡ root d → (u : Step) (j : ℕ) → (entry_at fs l).position ≡ over u j →
        here.on_element ≡ false
    on_root_step d e u j f = ap (λ (c : Cell). c.on_element) (root_step es fs lower lower₂ k l low low₂ e f)

    pub root_leaf : (d : ℕ) → (entry_at es k).position ≡ root d → (q : Position) → (entry_at fs l).position ≡ q → IsSingle q →
        here.on_leaf ≡ false
    root_leaf d e nowhere f h = ap (λ (c : Cell). c.on_leaf) (second_nowhere es fs lower lower₂ k l low low₂ f)
    root_leaf d e (root b) f h = ap (λ (c : Cell). c.on_leaf) (root_root es fs lower lower₂ k l low low₂ e f)
    root_leaf d e (over u j) f h = ap (λ (c : Cell). c.on_leaf) (root_step es fs lower lower₂ k l low low₂ e f)
    root_leaf d e (union a b) f h = absurd h

  -- A UNION of the second script: either's
  pub union_of : (k l : ℕ) → k < length es → l < length fs → (a b : ℕ) → (entry_at fs l).position ≡ union a b →
      cell_at es fs k l ≡ join_cell (cell_at es fs k a) (cell_at es fs k b)
  union_of k l low low₂ a b e = second_union es fs lower lower₂ k l low low₂ e

  -- NOTHING DOWN: a row of which no single position has an element on both or down has no element in common with any
  module _ (k : ℕ) (low : k < length es) (p : Position) (is : (entry_at es k).position ≡ p) (single : IsSingle p) where
    module _
        (none : (l : ℕ) → l < length fs → (q : Position) → (entry_at fs l).position ≡ q → IsSingle q →
        ((cell_at es fs k l).on_element ≡ false) × ((cell_at es fs k l).down_element ≡ false)) where
      row_apart : (n l : ℕ) → l < n → l < length fs → NoElement (cell_at es fs k l)
      row_apart zero l h low₂ = absurd (omega arith)
      row_apart (suc n) l h low₂ = go (row_apart n) (entry_at fs l).position refl (lower₂ l low₂)
        where
          start : (q : Position) → (entry_at fs l).position ≡ q → IsSingle q → IsStart q → NoElement (cell_at es fs k l)
          start q e s t =
              let x = none l low₂ q e s in
              record { on = x.0; down = x.1; up = up_start k l low low₂ p is single q e t ∙ x.0 }

          go : ((j : ℕ) → j < n → j < length fs → NoElement (cell_at es fs k j)) → (q : Position) → (entry_at fs l).position ≡ q →
              IsLower l q → NoElement (cell_at es fs k l)
          go before nowhere e b = start nowhere e tt tt
          go before (root d) e b = start (root d) e tt tt
          go before (over u j) e b =
              let x = none l low₂ (over u j) e tt in
              let y = before j (omega arith) (omega arith) in
              record {
                on = x.0;
                down = x.1;
                up = up_step k l low low₂ p is single u j b e ∙
                    ap (λ (z : Bool). z || passes (admits_element u) (is_deep u) (cell_at es fs k j).up_element
                    (cell_at es fs k j).down_element) x.0 ∙
                    ap (λ (z : Bool). passes (admits_element u) (is_deep u) z (cell_at es fs k j).down_element) y.up ∙
                    ap (λ (z : Bool). passes (admits_element u) (is_deep u) false z) y.down ∙ passes_none (admits_element u) (is_deep u);
              }
          go before (union a c) e b =
              joined (cell_at es fs k l) (cell_at es fs k a) (cell_at es fs k c) (union_of k l low low₂ a c e)
              (before a (omega (arith, b.0)) (omega (arith, b.0))) (before c (omega (arith, b.1)) (omega (arith, b.1)))

      pub apart : (l : ℕ) → l < length fs → NoElement (cell_at es fs k l)
      apart l h = row_apart (suc l) l (omega arith) h

    -- no leaf on both with any single position: none with any
    module _
        (none : (l : ℕ) → l < length fs → (q : Position) → (entry_at fs l).position ≡ q → IsSingle q → (cell_at es fs k l).on_leaf ≡ false)
      where
        row_leafless : (n l : ℕ) → l < n → l < length fs → (cell_at es fs k l).on_leaf ≡ false
        row_leafless zero l h low₂ = absurd (omega arith)
        row_leafless (suc n) l h low₂ = go (row_leafless n) (entry_at fs l).position refl (lower₂ l low₂)
          where
            go : ((j : ℕ) → j < n → j < length fs → (cell_at es fs k j).on_leaf ≡ false) → (q : Position) → (entry_at fs l).position ≡ q →
                IsLower l q → (cell_at es fs k l).on_leaf ≡ false
            go before nowhere e b = none l low₂ nowhere e tt
            go before (root d) e b = none l low₂ (root d) e tt
            go before (over u j) e b = none l low₂ (over u j) e tt
            go before (union a c) e b =
                ap (λ (x : Cell). x.on_leaf) (union_of k l low low₂ a c e) ∙
                ap (λ (x : Bool). x || (cell_at es fs k c).on_leaf) (before a (omega (arith, b.0)) (omega (arith, b.0))) ∙
                before c (omega (arith, b.1)) (omega (arith, b.1))

        pub leafless : (l : ℕ) → l < length fs → (cell_at es fs k l).on_leaf ≡ false
        leafless l h = row_leafless (suc l) l (omega arith) h

  -- A STEP from a row without has nothing in common
  module _ (s : Step) (i k : ℕ) (low : k < length es) (b : i < k) (is : (entry_at es k).position ≡ over s i)
      (none : (l : ℕ) → l < length fs → NoElement (cell_at es fs i l)) where
    no_parent : (u : Step) (j : ℕ) → j < length fs → is_parent s u (cell_at es fs i j) ≡ false
    no_parent u j h =
        let x = none j h in
        ap (λ (z : Bool). z || (is_deep u && (cell_at es fs i j).down_element) || (is_deep s && (cell_at es fs i j).up_element)) x.on ∙
        ap (λ (z : Bool). (is_deep u && z) || (is_deep s && (cell_at es fs i j).up_element)) x.down ∙
        ap (λ (z : Bool). (is_deep u && false) || (is_deep s && z)) x.up ∙
        ap (λ (z : Bool). z || (is_deep s && false)) (and-false (is_deep u)) ∙ and-false (is_deep s)

    not_on : (l : ℕ) → l < length fs → (q : Position) → (entry_at fs l).position ≡ q → IsSingle q →
        ((cell_at es fs k l).on_element ≡ false) × ((cell_at es fs k l).on_leaf ≡ false)
    not_on l h nowhere e t = on_step_start k l low h s i is nowhere e tt
    not_on l h (root d) e t = on_step_start k l low h s i is (root d) e tt
    not_on l h (over u j) e t =
        let j_low : j < length fs = omega (arith, subst (IsLower l) e (lower₂ l h)) in
        let x = on_steps k l low h s i is u j e in (
          x.0 ∙ ap (λ (z : Bool). z && share_element s u) (no_parent u j j_low),
          x.1 ∙ ap (λ (z : Bool). z && share_leaf s u) (no_parent u j j_low),
        )
    not_on l h (union a c) e t = absurd t

    not_down : (l : ℕ) → l < length fs → (q : Position) → (entry_at fs l).position ≡ q → IsSingle q →
        ((cell_at es fs k l).on_element ≡ false) × ((cell_at es fs k l).down_element ≡ false)
    not_down l h q e t =
        let x = none l h in
        let y = (not_on l h q e t).0 in (
          y,
          down_step k l low h s i b is q e t ∙
              ap (λ (z : Bool). z || passes (admits_element s) (is_deep s) (cell_at es fs i l).down_element (cell_at es fs i l).up_element)
              y ∙
              ap (λ (z : Bool). passes (admits_element s) (is_deep s) z (cell_at es fs i l).up_element) x.down ∙
              ap (λ (z : Bool). passes (admits_element s) (is_deep s) false z) x.up ∙ passes_none (admits_element s) (is_deep s),
        )

    pub below_apart : (l : ℕ) → l < length fs → NoElement (cell_at es fs k l) × ((cell_at es fs k l).on_leaf ≡ false)
    below_apart l h =
        (apart k low (over s i) is tt not_down l h, leafless k low (over s i) is tt (λ j g q e t. (not_on j g q e t).1) l h)
