-- Packed positions meet exactly where they do by the fields alone that their kind has, whatever the numbers: a name beside a test that is
-- for none is in no path's cell, a role counts only where it is one of the three, and nothing meets nothing.
use mathlib.Core.Path.{◌≡◌, refl, ap, sym, ◌∙◌, subst}
use mathlib.Core.Bool.{Bool, true, false, ◌&&◌, ◌||◌, not, and-false, cond}
use mathlib.Core.List.{List, [], ◌∷◌, ◌++◌, map, map-append}
use Prim.Native.Nat.{ℕ, ◌<◌}
use native.Mathlib.Omega.{arith}
use lib.Dec.{eqb}
use lib.ListN.{length, get_or, length-map, get_or-map, take}
use Rattle.model.specs.Script.{Step, step_by}
use Rattle.model.specs.Paths.{Path, start, ◌▸◌, with_step}
use Rattle.model.specs.Meeting.{Cell, on_cell, no_cell, join_cell, is_named, admits_element, share_leaf, is_parent, on_step}
use Rattle.model.specs.Meeting.{down_step, up_step, start_cells, step_cells, cell, sum, between, is_met}
use Rattle.model.proofs.BoolLaws.{eq_cases}
use Rattle.model.proofs.CellLaws.{sum_same, between_none}
use Rattle.paths_positions.specs.Positions as positions
use Rattle.paths_positions.specs.Positions.{nowhere, root, over, union, Entry, entry_at, IsLower, AreLower}
use Rattle.paths_positions.specs.Positions.{paths_at, paths_from, paths_by, paths_on}
use Rattle.paths_positions.specs.Answer.{any_up_to, is_tested, cell_at, meet_at, row_meets, positions_meet}
use Rattle.paths_positions.specs.declared.packed.Fields.{Fields as Position}
use Rattle.paths_positions.specs.Packed.{position_by, tests, known_name, fields_of, cleaned, entry_of, entries_by}
use Rattle.paths_positions.specs.Packed.{kept_entry, kept_entries_by}
use Rattle.paths_positions.proofs.AnyUpToLaws.{any_up_to_below, any_up_to_same}
use Rattle.paths_positions.proofs.PositionLaws.{paths_on_split}
use Rattle.paths_positions.proofs.CleanLaws.{by_kind, accessed_cleaned, modified_cleaned}

-- A STEP with a name only where its test is for one
abbrev pub known : Step → Step
known s = step_by s.axis s.test (cond (is_named s) s.name 0)

unfoldable known_path : Path → Path
known_path (start p) = start p
known_path (p ▸ s) = known_path p ▸ known s

-- where one of two steps has no name, their names are not compared
first_name : (b c : Bool) (n m : ℕ) → (not (b && c) || eqb (cond b n 0) m) ≡ (not (b && c) || eqb n m)
first_name true c n m = refl
first_name false c n m = refl

second_name : (b c : Bool) (n m : ℕ) → (not (b && c) || eqb n (cond c m 0)) ≡ (not (b && c) || eqb n m)
second_name true true n m = refl
second_name true false n m = refl
second_name false c n m = refl

on_first : (s t : Step) (c : Cell) → on_step (known s) t c ≡ on_step s t c
on_first s t c =
    ap (λ (x : Bool). on_cell (is_parent s t c && (admits_element s && admits_element t && x)) (is_parent s t c && share_leaf s t))
    (first_name (is_named s) (is_named t) s.name t.name)

on_second : (s t : Step) (c : Cell) → on_step s (known t) c ≡ on_step s t c
on_second s t c =
    ap (λ (x : Bool). on_cell (is_parent s t c && (admits_element s && admits_element t && x)) (is_parent s t c && share_leaf s t))
    (second_name (is_named s) (is_named t) s.name t.name)

-- CELLS of such paths
step_first : (s : Step) (f g : Path → Cell) → ((q : Path) → f q ≡ g q) → (q : Path) → step_cells (known s) f q ≡ step_cells s g q
unfolding step_cells
step_first s f g h (start q) = ap (down_step s) (h (start q))
step_first s f g h (q ▸ t) =
    ap (λ (c : Cell). join_cell (on_step (known s) t c) (join_cell (down_step s (f (q ▸ t))) (up_step t (step_cells (known s) f q))))
    (h q) ∙
    ap (λ (c : Cell). join_cell c (join_cell (down_step s (f (q ▸ t))) (up_step t (step_cells (known s) f q)))) (on_first s t (g q)) ∙
    ap (λ (c : Cell). join_cell (on_step s t (g q)) (join_cell (down_step s c) (up_step t (step_cells (known s) f q)))) (h (q ▸ t)) ∙
    ap (λ (c : Cell). join_cell (on_step s t (g q)) (join_cell (down_step s (g (q ▸ t))) (up_step t c))) (step_first s f g h q)

cell_first : (p q : Path) → cell (known_path p) q ≡ cell p q
unfolding cell known_path
cell_first (start p) q = refl
cell_first (p ▸ s) q = step_first s (cell (known_path p)) (cell p) (cell_first p) q

cell_second : (p q : Path) → cell p (known_path q) ≡ cell p q
unfolding cell start_cells step_cells known_path
cell_second (start p) (start q) = refl
cell_second (start p) (q ▸ t) = ap (up_step t) (cell_second (start p) q)
cell_second (p ▸ s) (start q) = refl
cell_second (p ▸ s) (q ▸ t) =
    ap (λ (c : Cell). join_cell (on_step s (known t) c) (join_cell (down_step s (cell p (known_path (q ▸ t))))
    (up_step t (cell (p ▸ s) (known_path q))))) (cell_second p q) ∙
    ap (λ (c : Cell). join_cell c (join_cell (down_step s (cell p (known_path (q ▸ t)))) (up_step t (cell (p ▸ s) (known_path q)))))
    (on_second s t (cell p q)) ∙
    ap (λ (c : Cell). join_cell (on_step s t (cell p q)) (join_cell (down_step s c) (up_step t (cell (p ▸ s) (known_path q)))))
    (cell_second p (q ▸ t)) ∙
    ap (λ (c : Cell). join_cell (on_step s t (cell p q)) (join_cell (down_step s (cell p (q ▸ t))) (up_step t c)))
    (cell_second (p ▸ s) q)

sum_known : (f g : Path → Cell) → ((p : Path) → f (known_path p) ≡ g p) → (ps : List Path) → sum f (map known_path ps) ≡ sum g ps
unfolding sum
sum_known f g h [] = refl
sum_known f g h (p ∷ ps) =
    ap (λ (c : Cell). join_cell c (sum f (map known_path ps))) (h p) ∙ ap (join_cell (g p)) (sum_known f g h ps)

between_first : (ps qs : List Path) → between (map known_path ps) qs ≡ between ps qs
between_first ps qs =
    sum_known (λ (p : Path). sum (cell p) qs) (λ (p : Path). sum (cell p) qs)
    (λ p. sum_same (cell (known_path p)) (cell p) (cell_first p) qs) ps

between_second : (ps qs : List Path) → between ps (map known_path qs) ≡ between ps qs
between_second ps qs =
    sum_same (λ (p : Path). sum (cell p) (map known_path qs)) (λ (p : Path). sum (cell p) qs)
    (λ p. sum_known (cell p) (cell p) (cell_second p) qs) ps

-- POSITIONS with such steps, and their paths
abbrev pub known_position : positions.Position → positions.Position
known_position nowhere = nowhere
known_position (root d) = root d
known_position (over s i) = over (known s) i
known_position (union i j) = union i j

with_known : (s : Step) (ps : List Path) → with_step (known s) (map known_path ps) ≡ map known_path (with_step s ps)
unfolding known_path
with_known s [] = refl
with_known s (p ∷ ps) = ap (λ (l : List Path). (known_path p ▸ known s) ∷ l) (with_known s ps)

abbrev known_paths : List Path → List Path
known_paths ps = map known_path ps

paths_at_known : (ps : List (List Path)) (p : positions.Position) →
    paths_at (map known_paths ps) (known_position p) ≡ known_paths (paths_at ps p)
unfolding known_path
paths_at_known ps nowhere = refl
paths_at_known ps (root d) = refl
paths_at_known ps (over s i) = ap (with_step (known s)) (get_or-map known_paths ps i []) ∙ with_known s (get_or ps i [])
paths_at_known ps (union i j) =
    ap (λ (l : List Path). l ++ get_or (map known_paths ps) j []) (get_or-map known_paths ps i []) ∙
    ap (λ (l : List Path). known_paths (get_or ps i []) ++ l) (get_or-map known_paths ps j []) ∙
    sym (map-append known_path (get_or ps i []) (get_or ps j []))

-- A POSITION by the fields that its kind has is that by all of them, with such a step
pub name_known : (a t n : ℕ) → t < tests → known_name t n ≡ cond (is_named (step_by a t n)) n 0
name_known a t n h =
    eq_cases t 0 (λ e. rw e)
    (λ b. eq_cases t 1 (λ e. rw e)
    (λ c. eq_cases t 2 (λ e. rw e) (λ d. let e : t ≡ 3 = omega (arith, b, c, d, h) in rw e)))

position_cleaned : (p : Position) → p.test < tests → position_by (cleaned p) ≡ known_position (position_by p)
position_cleaned p h =
    by_kind p.kind (λ k. rw k) (λ k. rw k)
    (λ k. rw k (ap (λ (n : ℕ). over (step_by p.axis p.test n) p.first) (name_known p.axis p.test p.label h))) (λ a b c. rw (a, b, c))

position_known : (w : ℕ) → (kept_entry w).position ≡ known_position (entry_of w).position
position_known w = position_cleaned (fields_of w) (omega arith)

-- PATHS of a list of them
paths_from_known : (ps : List (List Path)) (ws : List ℕ) →
    paths_from (map known_paths ps) (kept_entries_by ws) ≡ map known_paths (paths_from ps (entries_by ws))
unfolding paths_from
paths_from_known ps [] = refl
paths_from_known ps (w ∷ ws) =
    ap (λ (l : List (List Path)). paths_from (map known_paths ps ++ l) (kept_entries_by ws)) one ∙
    ap (λ (l : List (List Path)). paths_from l (kept_entries_by ws)) (sym (map-append known_paths ps (new ∷ []))) ∙
    paths_from_known (ps ++ (new ∷ [])) ws
  where
    new : List Path
    new = paths_at ps (entry_of w).position

    one : (paths_at (map known_paths ps) (kept_entry w).position ∷ []) ≡ (known_paths new ∷ [])
    one =
        ap (λ (l : List Path). l ∷ [])
        (ap (paths_at (map known_paths ps)) (position_known w) ∙ paths_at_known ps (entry_of w).position)

paths_on_known : (ws : List ℕ) (k : ℕ) → paths_on (kept_entries_by ws) k ≡ known_paths (paths_on (entries_by ws) k)
paths_on_known ws k =
    ap (λ (l : List (List Path)). get_or l k []) (paths_from_known [] ws) ∙ get_or-map known_paths (paths_by (entries_by ws)) k []

-- CELLS of two of them
pub cell_at_first : (ws : List ℕ) (es : List Entry) (k l : ℕ) → cell_at (kept_entries_by ws) es k l ≡ cell_at (entries_by ws) es k l
cell_at_first ws es k l =
    ap (λ (ps : List Path). between ps (paths_on es l)) (paths_on_known ws k) ∙
    between_first (paths_on (entries_by ws) k) (paths_on es l)

pub cell_at_second : (es : List Entry) (us : List ℕ) (k l : ℕ) → cell_at es (kept_entries_by us) k l ≡ cell_at es (entries_by us) k l
cell_at_second es us k l =
    ap (between (paths_on es k)) (paths_on_known us l) ∙ between_second (paths_on es k) (paths_on (entries_by us) l)

-- NOTHING has no paths
nothing_on : (ws : List ℕ) (k : ℕ) → k < length ws → (fields_of (get_or ws k 0)).kind ≡ 0 → paths_on (entries_by ws) k ≡ []
nothing_on ws k h e =
    paths_on_split (entries_by ws) k (omega (arith, length-map ws entry_of)) ∙
    ap (λ (x : Entry). paths_at (paths_by (take k (entries_by ws))) x.position) (get_or-map entry_of ws k 0) ∙
    ap (paths_at (paths_by (take k (entries_by ws)))) nothing
  where
    nothing : position_by (fields_of (get_or ws k 0)) ≡ nowhere
    nothing = rw e

-- ENTRIES in the same roles are tested alike
tested_first : (x y z : Entry) → x.accessed ≡ y.accessed → x.modified ≡ y.modified → is_tested x z ≡ is_tested y z
tested_first x y z e f =
    ap (λ (b : Bool). (b && z.accessed) || (x.accessed && z.modified)) f ∙
    ap (λ (b : Bool). (y.modified && z.accessed) || (b && z.modified)) e

tested_second : (x y z : Entry) → x.accessed ≡ y.accessed → x.modified ≡ y.modified → is_tested z x ≡ is_tested z y
tested_second x y z e f =
    ap (λ (b : Bool). (z.modified && b) || (z.accessed && x.modified)) e ∙
    ap (λ (b : Bool). (z.modified && y.accessed) || (z.accessed && b)) f

same_roles : (ws : List ℕ) (k : ℕ) → ((fields_of (get_or ws k 0)).kind ≡ 0 → ⊥) →
    ((entry_at (kept_entries_by ws) k).accessed ≡ (entry_at (entries_by ws) k).accessed) ×
    ((entry_at (kept_entries_by ws) k).modified ≡ (entry_at (entries_by ws) k).modified)
same_roles ws k some =
    let p = fields_of (get_or ws k 0) in
    let e = get_or-map kept_entry ws k 0 in
    let f = get_or-map entry_of ws k 0 in (
      ap (λ (x : Entry). x.accessed) e ∙ accessed_cleaned p some ∙ ap (λ (x : Entry). x.accessed) (sym f),
      ap (λ (x : Entry). x.modified) e ∙ modified_cleaned p some ∙ ap (λ (x : Entry). x.modified) (sym f),
    )

-- MEETING: one of the first script's positions, or one of the second's
met_none : (t : Bool) (c : Cell) → c ≡ no_cell → (t && is_met c) ≡ false
met_none t c e = ap (λ (x : Cell). t && is_met x) e ∙ and-false t

pub meet_at_first : (ws : List ℕ) (es : List Entry) (k l : ℕ) → k < length ws →
    meet_at (kept_entries_by ws) es k l ≡ meet_at (entries_by ws) es k l
unfolding sum
meet_at_first ws es k l h =
    eq_cases (fields_of (get_or ws k 0)).kind 0
    (λ e. met_none _ _ (cell_at_first ws es k l ∙ none e) ∙ sym (met_none _ _ (none e)))
    (λ n. ap (λ (t : Bool). t && is_met (cell_at (kept_entries_by ws) es k l))
    (tested_first (entry_at (kept_entries_by ws) k) (entry_at (entries_by ws) k) (entry_at es l) (same_roles ws k n).0
    (same_roles ws k n).1) ∙
    ap (λ (c : Cell). is_tested (entry_at (entries_by ws) k) (entry_at es l) && is_met c) (cell_at_first ws es k l))
  where
    none : (fields_of (get_or ws k 0)).kind ≡ 0 → cell_at (entries_by ws) es k l ≡ no_cell
    none e = ap (λ (ps : List Path). between ps (paths_on es l)) (nothing_on ws k h e)

pub meet_at_second : (es : List Entry) (us : List ℕ) (k l : ℕ) → l < length us →
    meet_at es (kept_entries_by us) k l ≡ meet_at es (entries_by us) k l
meet_at_second es us k l h =
    eq_cases (fields_of (get_or us l 0)).kind 0
    (λ e. met_none _ _ (cell_at_second es us k l ∙ none e) ∙ sym (met_none _ _ (none e)))
    (λ n. ap (λ (t : Bool). t && is_met (cell_at es (kept_entries_by us) k l))
    (tested_second (entry_at (kept_entries_by us) l) (entry_at (entries_by us) l) (entry_at es k) (same_roles us l n).0
    (same_roles us l n).1) ∙
    ap (λ (c : Cell). is_tested (entry_at es k) (entry_at (entries_by us) l) && is_met c) (cell_at_second es us k l))
  where
    none : (fields_of (get_or us l 0)).kind ≡ 0 → cell_at es (entries_by us) k l ≡ no_cell
    none e = ap (between (paths_on es k)) (nothing_on us l h e) ∙ between_none (paths_on es k)

-- one with any
pub row_meets_first : (ws : List ℕ) (es : List Entry) (k n : ℕ) → k < length ws →
    row_meets (kept_entries_by ws) es k n ≡ row_meets (entries_by ws) es k n
row_meets_first ws es k n h =
    any_up_to_same (meet_at (kept_entries_by ws) es k) (meet_at (entries_by ws) es k) n (λ l. meet_at_first ws es k l h)

-- all of them
meet_first : (ws : List ℕ) (es : List Entry) → positions_meet (kept_entries_by ws) es ≡ positions_meet (entries_by ws) es
meet_first ws es =
    ap (any_up_to (λ (k : ℕ). row_meets (kept_entries_by ws) es k (length es))) (length-map ws kept_entry ∙ sym (length-map ws entry_of)) ∙
    any_up_to_below _ _ (length (entries_by ws))
    (λ k h. row_meets_first ws es k (length es) (omega (arith, h, length-map ws entry_of)))

meet_second : (es : List Entry) (us : List ℕ) → positions_meet es (kept_entries_by us) ≡ positions_meet es (entries_by us)
meet_second es us =
    any_up_to_same _ _ (length es)
    (λ k. ap (row_meets es (kept_entries_by us) k) (length-map us kept_entry ∙ sym (length-map us entry_of)) ∙
    any_up_to_below (meet_at es (kept_entries_by us) k) (meet_at es (entries_by us) k) (length (entries_by us))
    (λ l h. meet_at_second es us k l (omega (arith, h, length-map us entry_of))))

pub positions_meet_kept : (ws us : List ℕ) →
    positions_meet (kept_entries_by ws) (kept_entries_by us) ≡ positions_meet (entries_by ws) (entries_by us)
positions_meet_kept ws us = meet_first ws (kept_entries_by us) ∙ meet_second (entries_by ws) us

-- LOWER ones only: each way
lower_known : (k : ℕ) (p : positions.Position) →
    (IsLower k p → IsLower k (known_position p)) × (IsLower k (known_position p) → IsLower k p)
lower_known k nowhere = (λ h. h, λ h. h)
lower_known k (root d) = (λ h. h, λ h. h)
lower_known k (over s i) = (λ h. h, λ h. h)
lower_known k (union i j) = (λ h. h, λ h. h)

kept_at : (ws : List ℕ) (k : ℕ) → (entry_at (kept_entries_by ws) k).position ≡ known_position (entry_at (entries_by ws) k).position
kept_at ws k =
    ap (λ (x : Entry). x.position) (get_or-map kept_entry ws k 0) ∙ position_known (get_or ws k 0) ∙
    ap (λ (x : Entry). known_position x.position) (sym (get_or-map entry_of ws k 0))

pub lower_kept : (ws : List ℕ) → AreLower (entries_by ws) → AreLower (kept_entries_by ws)
lower_kept ws lower k h =
    subst (IsLower k) (sym (kept_at ws k))
    ((lower_known k (entry_at (entries_by ws) k).position).0
    (lower k (omega (arith, h, length-map ws kept_entry, length-map ws entry_of))))

pub lower_all : (ws : List ℕ) → AreLower (kept_entries_by ws) → AreLower (entries_by ws)
lower_all ws lower k h =
    (lower_known k (entry_at (entries_by ws) k).position).1
    (subst (IsLower k) (kept_at ws k) (lower k (omega (arith, h, length-map ws kept_entry, length-map ws entry_of))))
