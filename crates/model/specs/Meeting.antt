-- Document 01, 'The paths': when some plan has a node on two paths that go down only, and the answer.
use Rattle.std.specs.Prelude.{Bool, false, ◌&&◌, ◌||◌, not, cond, List, [], ◌∷◌, eqb}
use Rattle.model.specs.Base.{any}
use Rattle.model.specs.Script.{Step, Expr}
use Rattle.model.specs.Paths.{Place, Path, start, ◌▸◌, Paths, paths_of, traversed, has_up}

-- What a step's test lets through: some element, some leaf; and two tests together
abbrev pub admits_element : Step → Bool
admits_element s = not (eqb s.test 2)

-- some leaf passes
abbrev pub admits_leaf : Step → Bool
admits_leaf s = eqb s.test 0 || eqb s.test 2

-- the test names an element
abbrev pub is_named : Step → Bool
is_named s = not (eqb s.test 0) && not (eqb s.test 1) && not (eqb s.test 2)

-- some element passes both tests
abbrev pub share_element : Step → Step → Bool
share_element s t = admits_element s && admits_element t && (not (is_named s && is_named t) || eqb s.name t.name)

-- some leaf passes both tests
abbrev pub share_leaf : Step → Step → Bool
share_leaf s t = admits_leaf s && admits_leaf t

-- the descendant axis
abbrev pub is_deep : Step → Bool
is_deep s = eqb s.axis 1

-- CELLS: what two paths p and q can have in common, over plans of any size. on: an element, or a leaf, on p and on q.
-- down: an element on p, at or below a node on q. up: an element on q, at or below a node on p. Neither is said of a leaf: only an element
-- has nodes below it
pub record Cell : Type 0 where
  pub on_element : Bool
  pub on_leaf : Bool
  pub down_element : Bool
  pub up_element : Bool

-- an element on both is also down and up
abbrev pub on_cell : (element leaf : Bool) → Cell
on_cell e l = record { on_element = e; on_leaf = l; down_element = e; up_element = e }

-- down alone
abbrev pub down_cell : (element : Bool) → Cell
down_cell e = record { on_element = false; on_leaf = false; down_element = e; up_element = false }

-- up alone
abbrev pub up_cell : (element : Bool) → Cell
up_cell e = record { on_element = false; on_leaf = false; down_element = false; up_element = e }

-- what either has in common
abbrev pub join_cell : Cell → Cell → Cell
join_cell c d =
    record {
      on_element = c.on_element || d.on_element;
      on_leaf = c.on_leaf || d.on_leaf;
      down_element = c.down_element || d.down_element;
      up_element = c.up_element || d.up_element;
    }

-- nothing in common
abbrev pub no_cell : Cell
no_cell = on_cell false false

-- SUMS of cells
unfoldable pub sum : {A : Type 0} → (A → Cell) → List A → Cell
sum f [] = no_cell
sum f (x ∷ xs) = join_cell (f x) (sum f xs)

-- No node is at two places; a document's root is an element, a constructor's place holds elements or leaves
abbrev pub same_place : Place → Place → Bool
same_place p q = eqb p.owner q.owner && eqb p.number q.number

-- a constructor record's place
abbrev pub is_constructor : Place → Bool
is_constructor p = not (eqb p.owner 0)

-- of two places: a node at both, if they are one
abbrev pub start_cell : Place → Place → Cell
start_cell p q = on_cell (same_place p q) (same_place p q && is_constructor p)

-- from the cell of p and q to that of p ▸ s and q ▸ t, a node on both: its parent is on p, or with a descendant step at or below a node
-- on p, and likewise for q
abbrev pub is_parent : Step → Step → Cell → Bool
is_parent s t c = c.on_element || (is_deep t && c.down_element) || (is_deep s && c.up_element)

-- and it passes both tests
abbrev pub on_step : Step → Step → Cell → Cell
on_step s t c = on_cell (is_parent s t c && share_element s t) (is_parent s t c && share_leaf s t)

-- from the cell of p and q to that of p ▸ s and q, an element on p ▸ s below a node on q: its parent on p is at or below one, or the step
-- leads down past one
abbrev pub down_step : Step → Cell → Cell
down_step s c = down_cell (admits_element s && (c.down_element || (is_deep s && c.up_element)))

-- the mirror image: from the cell of p and q to that of p and q ▸ t
abbrev pub up_step : Step → Cell → Cell
up_step t c = up_cell (admits_element t && (c.up_element || (is_deep t && c.down_element)))

-- the cells of a place, and of p ▸ s from those of p, with every path
unfoldable pub start_cells : Place → Path → Cell
start_cells p (start q) = start_cell p q
start_cells p (q ▸ t) = up_step t (start_cells p q)

-- on both, down and up joined
unfoldable pub step_cells : Step → (Path → Cell) → Path → Cell
step_cells s f (start q) = down_step s (f (start q))
step_cells s f (q ▸ t) = join_cell (on_step s t (f q)) (join_cell (down_step s (f (q ▸ t))) (up_step t (step_cells s f q)))

-- the cell of two paths
unfoldable pub cell : Path → Path → Cell
cell (start p) = start_cells p
cell (p ▸ s) = step_cells s (cell p)

-- what the paths of two lists have in common
abbrev pub between : List Path → List Path → Cell
between ps qs = sum (λ (p : Path). sum (cell p) qs) ps

-- MEETING: some plan has a node on both
abbrev pub is_met : Cell → Bool
is_met c = c.on_element || c.on_leaf

-- of two paths
abbrev pub meets : Path → Path → Bool
meets p q = is_met (cell p q)

-- of two unions
abbrev pub any_meet : List Path → List Path → Bool
any_meet ps qs = any (λ (p : Path). any (meets p) qs) ps

-- a path that one modifies meets a path that the other traverses
abbrev pub paths_meet : Paths → Paths → Bool
paths_meet x y = any_meet x.modified (traversed y) || any_meet y.modified (traversed x)

-- THE ANSWER
pub data Answer : Type 0 where
  free upward meet : Answer

-- `upward` where either script holds axis 2 or 3, else `meet` where their paths meet, else `free`
abbrev pub answer : (first second : Expr) → Answer
answer e f = cond (has_up e || has_up f) upward (cond (paths_meet (paths_of 1 e) (paths_of 2 f)) meet free)
