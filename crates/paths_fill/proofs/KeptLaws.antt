-- The laws of cells where the first script's position is known by the fields that its kind has: its cells are those by all fields.
use mathlib.Core.Path.{◌≡◌, sym, ◌∙◌, subst}
use mathlib.Core.Bool.{false, ◌&&◌, ◌||◌}
use mathlib.Core.List.{List}
use Prim.Native.Nat.{ℕ, ◌<◌}
use lib.Dec.{eqb}
use lib.ListN.{length}
use Rattle.model.specs.Script.{Step}
use Rattle.model.specs.Meeting.{Cell, no_cell, join_cell, is_parent, share_element, share_leaf, admits_element, is_deep}
use Rattle.paths_positions.specs.Positions.{Position, nowhere, root, over, union, entry_at, AreLower}
use Rattle.paths_positions.specs.Answer.{NoElement, cell_at}
use Rattle.paths_positions.specs.Packed.{entries_by, kept_entries_by}
use Rattle.paths_positions.proofs.PositionLaws as lower_laws
use Rattle.paths_positions.proofs.RelationLaws as relation_laws
use Rattle.paths_positions.proofs.RelationLaws.{IsSingle, IsStart, passes}
use Rattle.paths_positions.proofs.CleanMeetLaws.{cell_at_first, lower_kept}

module _ (ws us : List ℕ) (first : AreLower (entries_by ws)) (second : AreLower (entries_by us)) where
  abbrev kept_cells : ℕ → ℕ → Cell
  kept_cells k l = cell_at (kept_entries_by ws) (entries_by us) k l

  abbrev all_cells : ℕ → ℕ → Cell
  all_cells k l = cell_at (entries_by ws) (entries_by us) k l

  same : kept_cells ≡ all_cells
  same = λ i k l. cell_at_first ws (entries_by us) k l i

  -- position k of the first, by the fields that its kind has, and position l of the second
  abbrev At : (k : ℕ) → Position → Type 0
  At k p = (entry_at (kept_entries_by ws) k).position ≡ p

  abbrev AtSecond : (l : ℕ) → Position → Type 0
  AtSecond l q = (entry_at (entries_by us) l).position ≡ q

  kept : AreLower (kept_entries_by ws)
  kept = lower_kept ws first

  module _ (k l : ℕ) (low : k < length (kept_entries_by ws)) (low₂ : l < length (entries_by us)) where
    pub first_nowhere : At k nowhere → all_cells k l ≡ no_cell
    first_nowhere e =
        sym (cell_at_first ws (entries_by us) k l) ∙
        lower_laws.first_nowhere (kept_entries_by ws) (entries_by us) kept second k l low low₂ e

    pub second_nowhere : AtSecond l nowhere → all_cells k l ≡ no_cell
    second_nowhere e =
        sym (cell_at_first ws (entries_by us) k l) ∙
        lower_laws.second_nowhere (kept_entries_by ws) (entries_by us) kept second k l low low₂ e

    pub first_union : {a b : ℕ} → At k (union a b) → all_cells k l ≡ join_cell (all_cells a l) (all_cells b l)
    first_union {a} {b} e =
        subst (λ (c : ℕ → ℕ → Cell). c k l ≡ join_cell (c a l) (c b l)) same
        (lower_laws.first_union (kept_entries_by ws) (entries_by us) kept second k l low low₂ e)

    pub union_of : (a b : ℕ) → AtSecond l (union a b) → all_cells k l ≡ join_cell (all_cells k a) (all_cells k b)
    union_of a b e =
        subst (λ (c : ℕ → ℕ → Cell). c k l ≡ join_cell (c k a) (c k b)) same
        (relation_laws.union_of (kept_entries_by ws) (entries_by us) kept second k l low low₂ a b e)

    -- UP
    abbrev UpStep : (c : ℕ → ℕ → Cell) → Step → (j : ℕ) → Type 0
    UpStep c u j =
        (c k l).up_element ≡
        ((c k l).on_element || passes (admits_element u) (is_deep u) (c k j).up_element (c k j).down_element)

    pub up_step : (p : Position) → At k p → IsSingle p → (u : Step) (j : ℕ) → j < l → AtSecond l (over u j) → UpStep all_cells u j
    up_step p e h u j b f =
        subst (λ (c : ℕ → ℕ → Cell). UpStep c u j) same
        (relation_laws.up_step (kept_entries_by ws) (entries_by us) kept second k l low low₂ p e h u j b f)

    pub up_start : (p : Position) → At k p → IsSingle p → (q : Position) → AtSecond l q → IsStart q →
        (all_cells k l).up_element ≡ (all_cells k l).on_element
    up_start p e h q f g =
        subst (λ (c : ℕ → ℕ → Cell). (c k l).up_element ≡ (c k l).on_element) same
        (relation_laws.up_start (kept_entries_by ws) (entries_by us) kept second k l low low₂ p e h q f g)

    -- DOWN
    abbrev DownStep : (c : ℕ → ℕ → Cell) → Step → (i : ℕ) → Type 0
    DownStep c s i =
        (c k l).down_element ≡
        ((c k l).on_element || passes (admits_element s) (is_deep s) (c i l).down_element (c i l).up_element)

    pub down_step : (s : Step) (i : ℕ) → i < k → At k (over s i) → (q : Position) → AtSecond l q → IsSingle q → DownStep all_cells s i
    down_step s i b e q f h =
        subst (λ (c : ℕ → ℕ → Cell). DownStep c s i) same
        (relation_laws.down_step (kept_entries_by ws) (entries_by us) kept second k l low low₂ s i b e q f h)

    pub down_root : (d : ℕ) → At k (root d) → (q : Position) → AtSecond l q → IsSingle q →
        (all_cells k l).down_element ≡ (all_cells k l).on_element
    down_root d e q f h =
        subst (λ (c : ℕ → ℕ → Cell). (c k l).down_element ≡ (c k l).on_element) same
        (relation_laws.down_root (kept_entries_by ws) (entries_by us) kept second k l low low₂ d e q f h)

    -- ON BOTH
    abbrev OnSteps : (c : ℕ → ℕ → Cell) → (s u : Step) → (i j : ℕ) → Type 0
    OnSteps c s u i j =
        ((c k l).on_element ≡ (is_parent s u (c i j) && share_element s u)) ×
        ((c k l).on_leaf ≡ (is_parent s u (c i j) && share_leaf s u))

    pub on_steps : (s : Step) (i : ℕ) → At k (over s i) → (u : Step) (j : ℕ) → AtSecond l (over u j) → OnSteps all_cells s u i j
    on_steps s i e u j f =
        subst (λ (c : ℕ → ℕ → Cell). OnSteps c s u i j) same
        (relation_laws.on_steps (kept_entries_by ws) (entries_by us) kept second k l low low₂ s i e u j f)

    abbrev NoneOn : (c : ℕ → ℕ → Cell) → Type 0
    NoneOn c = ((c k l).on_element ≡ false) × ((c k l).on_leaf ≡ false)

    pub on_step_start : (s : Step) (i : ℕ) → At k (over s i) → (q : Position) → AtSecond l q → IsStart q → NoneOn all_cells
    on_step_start s i e q f h =
        subst (λ (c : ℕ → ℕ → Cell). NoneOn c) same
        (relation_laws.on_step_start (kept_entries_by ws) (entries_by us) kept second k l low low₂ s i e q f h)

    pub on_roots : (d b : ℕ) → At k (root d) → AtSecond l (root b) → (all_cells k l).on_element ≡ eqb d b
    on_roots d b e f =
        subst (λ (c : ℕ → ℕ → Cell). (c k l).on_element ≡ eqb d b) same
        (relation_laws.on_roots (kept_entries_by ws) (entries_by us) kept second k l low low₂ d b e f)

    pub on_root_step : (d : ℕ) → At k (root d) → (u : Step) (j : ℕ) → AtSecond l (over u j) → (all_cells k l).on_element ≡ false
    on_root_step d e u j f =
        subst (λ (c : ℕ → ℕ → Cell). (c k l).on_element ≡ false) same
        (relation_laws.on_root_step (kept_entries_by ws) (entries_by us) kept second k l low low₂ d e u j f)

    pub root_leaf : (d : ℕ) → At k (root d) → (q : Position) → AtSecond l q → IsSingle q → (all_cells k l).on_leaf ≡ false
    root_leaf d e q f h =
        subst (λ (c : ℕ → ℕ → Cell). (c k l).on_leaf ≡ false) same
        (relation_laws.root_leaf (kept_entries_by ws) (entries_by us) kept second k l low low₂ d e q f h)

  -- NOTHING in common
  module _ (k : ℕ) (low : k < length (kept_entries_by ws)) where
    abbrev Apart : (c : ℕ → ℕ → Cell) → Type 0
    Apart c =
        ((l : ℕ) → l < length (entries_by us) → (q : Position) → AtSecond l q → IsSingle q →
        ((c k l).on_element ≡ false) × ((c k l).down_element ≡ false)) →
        (l : ℕ) → l < length (entries_by us) → NoElement (c k l)

    pub apart : (p : Position) → At k p → IsSingle p → Apart all_cells
    apart p e h =
        subst (λ (c : ℕ → ℕ → Cell). Apart c) same
        (relation_laws.apart (kept_entries_by ws) (entries_by us) kept second k low p e h)

    abbrev Leafless : (c : ℕ → ℕ → Cell) → Type 0
    Leafless c =
        ((l : ℕ) → l < length (entries_by us) → (q : Position) → AtSecond l q → IsSingle q → (c k l).on_leaf ≡ false) →
        (l : ℕ) → l < length (entries_by us) → (c k l).on_leaf ≡ false

    pub leafless : (p : Position) → At k p → IsSingle p → Leafless all_cells
    leafless p e h =
        subst (λ (c : ℕ → ℕ → Cell). Leafless c) same
        (relation_laws.leafless (kept_entries_by ws) (entries_by us) kept second k low p e h)

  module _ (s : Step) (i k : ℕ) (low : k < length (kept_entries_by ws)) where
    abbrev BelowApart : (c : ℕ → ℕ → Cell) → Type 0
    BelowApart c =
        ((l : ℕ) → l < length (entries_by us) → NoElement (c i l)) →
        (l : ℕ) → l < length (entries_by us) → NoElement (c k l) × ((c k l).on_leaf ≡ false)

    pub below_apart : i < k → At k (over s i) → BelowApart all_cells
    below_apart b e =
        subst (λ (c : ℕ → ℕ → Cell). BelowApart c) same
        (relation_laws.below_apart (kept_entries_by ws) (entries_by us) kept second s i k low b e)
