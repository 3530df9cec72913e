-- Document 01, 'The scripts': evaluation with its history.
use Rattle.std.specs.Prelude.{Bool, true, false, ◌&&◌, cond, List, [], ◌∷◌, ◌++◌, ℕ, ◌+◌, ◌<◌, ltb, eqb, length, get_or}
use Rattle.std.proofs.Math.Option.{Option, none, some}
use Rattle.model.specs.Base.{All}
use Rattle.model.specs.Limits.{max_rows, max_items}
use Rattle.model.specs.Refusal.{Refusal, target_at, items_at, table_at}
use Rattle.model.specs.Table.{Row, Table, row_at, count, is_element, with_row, with_parent, linked}
use Rattle.model.specs.Script.{Expr, nil, document, var, step, both, let_in, for_in, if_in, element, leaf, delete, insert, pick}
use Rattle.model.specs.Step.{is_below, collect, stepped, picked}
use Rattle.model.specs.History.{Record, made, cut}

-- a run's state: table and history so far
pub record State : Type 0 where
  pub plan : Table
  pub history : List Record

abbrev pub state : Table → List Record → State
state x h = record { plan = x; history = h }

-- a refusal; or a value, which is a list of row numbers, and the state after it
pub data Out : Type 0 where
  refused : Refusal → Out
  gives : (items : List ℕ) → State → Out

-- VALUES: rows of a table that has so many
abbrev pub AreRows : (rows : ℕ) → List ℕ → Type 0
AreRows n = All (λ (i : ℕ). i < n)

-- values of variables
abbrev pub AreValues : (rows : ℕ) → List (List ℕ) → Type 0
AreValues n = All (AreRows n)

-- what follows a value, unless it is refused
abbrev pub and_then : Out → (List ℕ → State → Out) → Out
and_then (refused x) next = refused x
and_then (gives v s) next = next v s

-- joined in order, repeats kept; 8 past 512 items
abbrev pub join_items : (place : ℕ) → (one other : List ℕ) → State → Out
join_items z v w s = cond (ltb max_items (length v + length w)) (refused (items_at z)) (gives (v ++ w) s)

-- NEW ROWS take the next numbers: a row made, with its record
abbrev pub with_made : State → Row → State
with_made s r = state (with_row s.plan r) (s.history ++ (made (count s.plan) r ∷ []))

-- a new row, 10 past 512; the answer is its number
abbrev pub new_row : (place : ℕ) → Row → State → Out
new_row z r s = cond (ltb (count s.plan) max_rows) (gives (count s.plan ∷ []) (with_made s r)) (refused (table_at z))

-- a row without parent
abbrev pub loose : (is_leaf : Bool) → (tag : ℕ) → Row
loose z t = record { is_leaf = z; tag = t; parent = none }

-- DELETE cuts each row of its value from its parent, and does nothing to a row without one: a link cut, with its record
abbrev pub cut_row : State → (row parent : ℕ) → State
cut_row s i p = state (linked s.plan i none) (s.history ++ (cut i p ∷ []))

-- the state once a row with this parent, or without one, is cut
abbrev pub cut_by : (row : ℕ) → State → Option ℕ → State
cut_by i s none = s
cut_by i s (some p) = cut_row s i p

-- row after row; a delete's answer is empty
unfoldable pub cut_all : (items : List ℕ) → State → State
cut_all [] s = s
cut_all (i ∷ is) s = cut_all is (cut_by i s (row_at s.plan i).parent)

-- INSERT copies each item in order, the item first and then its descendants in rising number, as the table was before the insert;
-- the copy of an item is a child of the target. The rows copied so far, and their copies, newest first
pub record Copied : Type 0 where
  pub old : ℕ
  pub new : ℕ

-- the copy of a row, if it is copied
unfoldable pub copy_of : (row : ℕ) → List Copied → Option ℕ
copy_of i [] = none
copy_of i (c ∷ cs) = cond (eqb c.old i) (some c.new) (copy_of i cs)

-- the parent of a copy: the target for the top, else the copy of the parent
abbrev pub copy_parent : (is_top : Bool) → (target : ℕ) → Option ℕ → List Copied → Option ℕ
copy_parent true t p cs = some t
copy_parent false t none cs = none
copy_parent false t (some p) cs = copy_of p cs

-- the copy of a row
abbrev pub copy_row : Table → (top target row : ℕ) → List Copied → Row
copy_row x t g i cs = with_parent (row_at x i) (copy_parent (eqb i t) g (row_at x i).parent cs)

-- the rows below a top, of so many from a row on, in rising number
abbrev pub descendants_from : Table → (top row : ℕ) → ℕ → List ℕ
descendants_from x t i n = collect (is_below x t) i n

-- the item first and then its descendants in rising number
abbrev pub subtree : Table → (top : ℕ) → List ℕ
subtree x t = t ∷ descendants_from x t 0 (count x)

-- what follows an update, unless it is refused
abbrev pub then_row : Out → (State → Out) → Out
then_row (refused x) next = refused x
then_row (gives v s) next = next s

-- row after row of one item
unfoldable pub copy_each : (place : ℕ) → (before : Table) → (top target : ℕ) → (rows : List ℕ) → List Copied → State → Out
copy_each z x t g [] cs s = gives [] s
copy_each z x t g (i ∷ is) cs s =
    then_row (new_row z (copy_row x t g i cs) s)
    (λ (u : State). copy_each z x t g is (record { old = i; new = count s.plan } ∷ cs) u)

-- item after item, each from the table before the insert
unfoldable pub copy_all : (place : ℕ) → (before : Table) → (items : List ℕ) → (target : ℕ) → State → Out
copy_all z x [] g s = gives [] s
copy_all z x (i ∷ is) g s = then_row (copy_each z x i g (subtree x i) [] s) (λ (u : State). copy_all z x is g u)

-- 7: a target value of exactly one item, an element, even when there is nothing to copy
abbrev pub inserted : (place : ℕ) → (items targets : List ℕ) → State → Out
inserted z v w s =
    cond (eqb (length w) 1 && is_element s.plan (get_or w 0 0)) (copy_all z s.plan v (get_or w 0 0) s) (refused (target_at z))

-- A 'FOR' runs its second expression once for each item of the first and joins the results; 8 after the item that passes the limit
abbrev pub join_for : (place : ℕ) → (sofar : List ℕ) → Out → (List ℕ → State → Out) → Out
join_for z v (refused x) next = refused x
join_for z v (gives w s) next = cond (ltb max_items (length v + length w)) (refused (items_at z)) (next (v ++ w) s)

-- item after item, with the results so far
unfoldable pub loop : (place : ℕ) → (ℕ → State → Out) → (items sofar : List ℕ) → State → Out
loop z f [] v s = gives v s
loop z f (i ∷ is) v s = join_for z v (f i s) (λ (w : List ℕ) (t : State). loop z f is w t)

-- a document's marked row, or empty
abbrev pub marked : Option ℕ → List ℕ
marked none = []
marked (some i) = i ∷ []

-- EVALUATION: operands run left to right and updates act immediately. The variables' values, the outermost binder first
unfoldable pub run : Expr → (bound : List (List ℕ)) → State → Out
run (nil z) b s = gives [] s
run (document z d) b s = gives (marked (get_or s.plan.marks d none)) s
run (var z v) b s = gives (get_or b v []) s
run (step z t e) b s = and_then (run e b s) (λ (v : List ℕ) (u : State). gives (stepped u.plan t v) u)
run (both z e f) b s =
    and_then (run e b s) (λ (v : List ℕ) (u : State). and_then (run f b u) (λ (w : List ℕ) (q : State). join_items z v w q))
run (let_in z e f) b s = and_then (run e b s) (λ (v : List ℕ) (u : State). run f (b ++ (v ∷ [])) u)
run (for_in z e f) b s =
    and_then (run e b s) (λ (v : List ℕ) (u : State). loop z (λ (i : ℕ) (q : State). run f (b ++ ((i ∷ []) ∷ [])) q) v [] u)
run (if_in z e f g) b s =
    and_then (run e b s) (λ (v : List ℕ) (u : State). cond (eqb (length v) 0) (run g b u) (run f b u))
run (element z n) b s = new_row z (loose false n) s
run (leaf z v) b s = new_row z (loose true v) s
run (delete z e) b s = and_then (run e b s) (λ (v : List ℕ) (u : State). gives [] (cut_all v u))
run (insert z e f) b s =
    and_then (run e b s) (λ (v : List ℕ) (u : State). and_then (run f b u) (λ (w : List ℕ) (q : State). inserted z v w q))
run (pick z r c e) b s = and_then (run e b s) (λ (v : List ℕ) (u : State). gives (picked u.plan r c v) u)

-- a run starts with nothing bound and an empty history
abbrev pub run_on : Table → Expr → Out
run_on x e = run e [] (state x [])
