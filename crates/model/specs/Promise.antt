-- What is promised of every plan and every two scripts. Each promise is a type; a term of that type in proofs/ is its proof.
use Rattle.std.specs.Prelude.{◌≡◌, ◌↔◌, Bool, true, false, ◌&&◌, ◌||◌, cond, List, [], ◌∷◌, ◌++◌, map, ℕ, zero, suc, ◌+◌, ◌-◌, ◌≤◌, ◌<◌}
use Rattle.std.specs.Prelude.{ltb, eqb, length, get_or}
use Rattle.std.proofs.Math.Option.{Option, none, some}
use Rattle.model.specs.Base.{All, any, among, are_bytes}
use Rattle.model.specs.Limits.{documents, max_history, history_need}
use Rattle.model.specs.Table.{Row, Table, empty, row_at, count, has_parent, is_the, is_marked, is_tree, is_well, with_parent}
use Rattle.model.specs.Stored.{got, read_plan, stored}
use Rattle.model.specs.Sweep.{through, is_kept, new_number, renumbered, swept}
use Rattle.model.specs.Script.{Expr, nil, document, var, step, both, let_in, for_in, if_in, element, leaf, delete, insert, pick}
use Rattle.model.specs.Script.{parsed, read_script}
use Rattle.model.specs.Step.{stepped, compares, unsurveyed, is_surveyed, is_picked}
use Rattle.model.specs.History.{Record, made, cut, is_made, is_cut, makes, cuts, times, history_bytes, replay_all}
use Rattle.model.specs.Run.{State, Out, refused, gives, loose, run_on}
use Rattle.model.specs.Undo.{back, undo}
use Rattle.model.specs.Paths.{Place, document_place, Path, start, ◌▸◌, paths_of, traversed, has_up}
use Rattle.model.specs.Meeting.{answer, free, upward, meet}

-- what some bytes are read as
abbrev pub IsScript : Expr → Type 0
IsScript e =
    (b : List ℕ) × (are_bytes b ≡ true) × ((i : ℕ) × ((n : ℕ) × ((c : List ℕ) × (read_script b ≡ parsed e i n c))))

-- DEMAND 2, stored plans: table to bytes to table, and bytes to table to bytes
abbrev pub StoredBack : Type 0
StoredBack =
    ((x : Table) → is_well x ≡ true → read_plan (stored x) ≡ got x) ×
    ((b : List ℕ) (x : Table) → are_bytes b ≡ true → read_plan b ≡ got x → (is_well x ≡ true) × (stored x ≡ b))

-- DEMAND 2, sweeping: a table stays well formed, and a second sweep changes nothing
abbrev pub SweepsWell : Type 0
SweepsWell = (x : Table) → is_well x ≡ true → (is_well (swept x) ≡ true) × (swept (swept x) ≡ swept x)

-- DEMAND 2, which rows a sweep keeps: a row is kept when it is marked or its parent is kept; a kept row stands at its new number with its
-- kind, tag and renumbered parent, which is kept too; every row left is a kept one; their order stays; marks are renumbered
abbrev pub SweepKeeps : Type 0
SweepKeeps =
    (x : Table) → is_well x ≡ true →
    ((i : ℕ) → is_kept x i ≡ (is_marked x i || through (is_kept x) (row_at x i).parent)) ×
    ((i : ℕ) → i < count x → is_kept x i ≡ true →
    (new_number x i < count (swept x)) ×
    (row_at (swept x) (new_number x i) ≡ with_parent (row_at x i) (renumbered x (row_at x i).parent))) ×
    ((i p : ℕ) → (row_at x i).parent ≡ some p → is_kept x i ≡ true → is_kept x p ≡ true) ×
    ((j : ℕ) → j < count (swept x) → (i : ℕ) × ((i < count x) × (is_kept x i ≡ true) × (new_number x i ≡ j))) ×
    ((i j : ℕ) → is_kept x i ≡ true → i < j → new_number x i < new_number x j) ×
    ((d : ℕ) → get_or (swept x).marks d none ≡ renumbered x (get_or x.marks d none))

-- DEMAND 2, running and undo: a run keeps the table well formed; replaying gives the later table, undo the earlier
abbrev pub RunsBack : Type 0
RunsBack =
    (e : Expr) (x : Table) (v : List ℕ) (s : State) → IsScript e → is_well x ≡ true → run_on x e ≡ gives v s →
    (is_well s.plan ≡ true) × (replay_all x s.history ≡ s.plan) × (undo s.plan (history_bytes s.history) ≡ back x)

-- REQUEST (h), a run's history: no two of its records make the same row, and no two cut the same row's link. So it has at most 512 of
-- each, 1,024 records in all, of 5,632 bytes: no more than undo reads, and no more than the lent area holds
abbrev pub HistoryFits : Type 0
HistoryFits =
    (e : Expr) (x : Table) (v : List ℕ) (s : State) → is_well x ≡ true → run_on x e ≡ gives v s →
    ((i : ℕ) → times (makes i) s.history ≤ 1) × ((i : ℕ) → times (cuts i) s.history ≤ 1) ×
    (times is_made s.history ≤ 512) × (times is_cut s.history ≤ 512) ×
    (length s.history ≤ 1024) × (1024 ≤ max_history) × (length (history_bytes s.history) ≤ 5632) × (5632 ≤ history_need)

-- REQUEST (a), a leaf of −128: pick keeps it only for relation 0 with constant −128; so relations 1 and 2 never keep it
abbrev pub UnsurveyedKept : Type 0
UnsurveyedKept =
    (x : Table) (r c i : ℕ) → (row_at x i).is_leaf ≡ true → is_surveyed (row_at x i).tag ≡ false →
    is_picked x r c i ≡ (eqb r 0 && eqb c unsurveyed)

-- REQUEST (a), a constant of −128: with relation 2 pick keeps every surveyed leaf, with relation 1 nothing
abbrev pub UnsurveyedConstant : Type 0
UnsurveyedConstant =
    (x : Table) (i : ℕ) → (is_picked x 2 unsurveyed i ≡ ((row_at x i).is_leaf && is_surveyed (row_at x i).tag)) ×
    (is_picked x 1 unsurveyed i ≡ false)

-- a row that is no leaf of −128
abbrev pub Surveyed : Row → Type 0
Surveyed r = r.is_leaf ≡ true → is_surveyed r.tag ≡ true

-- REQUEST (a), every other row: pick keeps the leaves that compare so with the constant, as before
abbrev pub PicksAsBefore : Type 0
PicksAsBefore =
    (x : Table) (r c i : ℕ) → Surveyed (row_at x i) → is_picked x r c i ≡ ((row_at x i).is_leaf && compares r c (row_at x i).tag)

-- the rows that an expression's constructors make
unfoldable pub constructed : Expr → List Row
constructed (nil z) = []
constructed (document z d) = []
constructed (var z v) = []
constructed (step z s e) = constructed e
constructed (both z e f) = constructed e ++ constructed f
constructed (let_in z e f) = constructed e ++ constructed f
constructed (for_in z e f) = constructed e ++ constructed f
constructed (if_in z e f g) = constructed e ++ (constructed f ++ constructed g)
constructed (element z n) = loose false n ∷ []
constructed (leaf z v) = loose true v ∷ []
constructed (delete z e) = constructed e
constructed (insert z e f) = constructed e ++ constructed f
constructed (pick z r c e) = constructed e

-- REQUEST (a), old plans and scripts: where the table has no −128 and the constructors make none, the table that is left has none
abbrev pub StaysSurveyed : Type 0
StaysSurveyed =
    (e : Expr) (x : Table) (v : List ℕ) (s : State) → IsScript e → is_well x ≡ true → All Surveyed (constructed e) →
    All Surveyed x.rows → run_on x e ≡ gives v s → All Surveyed s.plan.rows

-- DEMAND 2, undo of any bytes that fit leaves a well-formed table
abbrev pub UndoKeeps : Type 0
UndoKeeps = (x y : Table) (b : List ℕ) → is_well x ≡ true → undo x b ≡ back y → is_well y ≡ true

-- DEMAND 2, what free means. Which rows each place holds
abbrev pub Places : Type 0
Places = Place → (row : ℕ) → Bool

-- a document's place holds its root; a constructor's any rows without parent; no row is at two places
abbrev pub ArePlaces : Table → Places → Type 0
ArePlaces x h =
    ((d i : ℕ) → i < count x → h (document_place d) i ≡ is_the i (get_or x.marks d none)) ×
    ((p : Place) (i : ℕ) → i < count x → h p i ≡ true → has_parent (row_at x i).parent ≡ false) ×
    ((p q : Place) (i : ℕ) → i < count x → h p i ≡ true → h q i ≡ true → p ≡ q)

-- the rows that a place holds, of so many from a row on
unfoldable pub rows_at : Table → Places → Place → (row : ℕ) → ℕ → List ℕ
rows_at x h p i zero = []
rows_at x h p i (suc n) = cond (h p i) (i ∷ rows_at x h p (suc i) n) (rows_at x h p (suc i) n)

-- the rows on a path: those at its place; those that the step reaches from a row on the path
unfoldable pub rows_on : Table → Places → Path → List ℕ
rows_on x h (start p) = rows_at x h p 0 (count x)
rows_on x h (p ▸ s) = stepped x s (rows_on x h p)

-- on a union where it is on one of its parts
abbrev pub is_on : Table → Places → (row : ℕ) → List Path → Bool
is_on x h i ps = any (λ (p : Path). among i (rows_on x h p)) ps

-- a row on a path that one script modifies and on a path that the other traverses
abbrev pub is_touched : Table → Places → (row : ℕ) → Expr → Expr → Bool
is_touched x h i e f =
    (is_on x h i (paths_of 1 e).modified && is_on x h i (traversed (paths_of 2 f))) ||
    (is_on x h i (paths_of 2 f).modified && is_on x h i (traversed (paths_of 1 e)))

-- no plan has such a row
abbrev pub NeverTouched : (one two : Expr) → Type 0
NeverTouched e f = (x : Table) (h : Places) (i : ℕ) → is_tree x ≡ true → ArePlaces x h → i < count x → is_touched x h i e f ≡ false

-- some plan has such a row
abbrev pub SomewhereTouched : (one two : Expr) → Type 0
SomewhereTouched e f =
    (x : Table) × ((h : Places) × ((i : ℕ) × ((is_tree x ≡ true) × ArePlaces x h × (i < count x) × (is_touched x h i e f ≡ true))))

-- `upward` exactly where a script leads up; `free`, and no plan has such a row; `meet`, and some plan has one
abbrev pub FreeMeans : Type 0
FreeMeans =
    (e f : Expr) → IsScript e → IsScript f →
    ((answer e f ≡ upward) ↔ ((has_up e || has_up f) ≡ true)) × (answer e f ≡ free → NeverTouched e f) ×
    (answer e f ≡ meet → SomewhereTouched e f)

-- DEMAND 3, the two orders: what a run leaves if it ends; of a refused one these are empty, and no promise looks at them
abbrev pub table_of : Out → Table
table_of (refused x) = empty
table_of (gives v s) = s.plan

-- its answer
abbrev pub answer_of : Out → List ℕ
answer_of (refused x) = []
answer_of (gives v s) = v

-- its history
abbrev pub history_of : Out → List Record
history_of (refused x) = []
history_of (gives v s) = s.history

-- it is not refused
abbrev pub ends : Out → Bool
ends (refused x) = false
ends (gives v s) = true

-- the first run of an order
abbrev pub first_run : Table → Expr → Out
first_run x e = run_on x e

-- The second run gets the table as the first left it
abbrev pub second_run : Table → (first second : Expr) → Out
second_run x e f = run_on (table_of (first_run x e)) f

-- An order ends without refusal when neither of its runs is refused
abbrev pub order_ends : Table → (first second : Expr) → Bool
order_ends x e f = ends (first_run x e) && ends (second_run x e f)

-- new rows that a run made
abbrev pub new_rows : (before : Table) → Out → ℕ
new_rows x o = count (table_of o) - count x

-- MATCHING from the order one-two to the order two-one, with n rows at first, a made by script one and b by script two
abbrev pub matched : (n a b row : ℕ) → ℕ
matched n a b i = cond (ltb i n) i (cond (ltb i (n + a)) (i + b) (i - a))

-- none matches none
abbrev pub matched_parent : (n a b : ℕ) → Option ℕ → Option ℕ
matched_parent n a b none = none
matched_parent n a b (some p) = some (matched n a b p)

-- item for item
unfoldable pub matched_all : (n a b : ℕ) → List ℕ → List ℕ
matched_all n a b [] = []
matched_all n a b (i ∷ is) = matched n a b i ∷ matched_all n a b is

-- the same kind, the same name or value, a matching parent
abbrev pub matched_row : (n a b : ℕ) → Row → Row
matched_row n a b r = with_parent r (matched_parent n a b r.parent)

-- the same kind, the same name or value, matching rows and parents
abbrev pub matched_record : (n a b : ℕ) → Record → Record
matched_record n a b (made i r) = made (matched n a b i) (matched_row n a b r)
matched_record n a b (cut i p) = cut (matched n a b i) (matched n a b p)

-- record for record
abbrev pub matched_history : (n a b : ℕ) → List Record → List Record
matched_history n a b rs = map (matched_record n a b) rs

-- as many rows, matching rows alike, and each document marks matching rows or none in both
abbrev pub PlansEqual : (n a b : ℕ) → (one two : Table) → Type 0
PlansEqual n a b x y =
    (count x ≡ count y) × ((i : ℕ) → i < count x → row_at y (matched n a b i) ≡ matched_row n a b (row_at x i)) ×
    ((d : ℕ) → d < documents → get_or y.marks d none ≡ matched_parent n a b (get_or x.marks d none))

-- new rows that a script makes when it runs first
abbrev pub made_by : Table → Expr → ℕ
made_by x e = new_rows x (first_run x e)

-- each script makes as many new rows in both orders; answers, histories and plans are equal under the matching
abbrev pub OrdersEqual : Table → (one two : Expr) → Type 0
OrdersEqual x e f =
    (new_rows (table_of (first_run x f)) (second_run x f e) ≡ made_by x e) ×
    (new_rows (table_of (first_run x e)) (second_run x e f) ≡ made_by x f) ×
    (answer_of (second_run x f e) ≡ matched_all (count x) (made_by x e) (made_by x f) (answer_of (first_run x e))) ×
    (answer_of (first_run x f) ≡ matched_all (count x) (made_by x e) (made_by x f) (answer_of (second_run x e f))) ×
    (history_of (second_run x f e) ≡ matched_history (count x) (made_by x e) (made_by x f) (history_of (first_run x e))) ×
    (history_of (first_run x f) ≡ matched_history (count x) (made_by x e) (made_by x f) (history_of (second_run x e f))) ×
    PlansEqual (count x) (made_by x e) (made_by x f) (table_of (second_run x e f)) (table_of (second_run x f e))

-- DEMAND 3: for every two free scripts and every well-formed plan
abbrev pub FreeCommutes : Type 0
FreeCommutes =
    (e f : Expr) (x : Table) → answer e f ≡ free → is_well x ≡ true →
    (order_ends x e f ≡ order_ends x f e) × (order_ends x e f ≡ true → OrdersEqual x e f)
