-- Document 01, 'Worked on plan P': the starred cases as one statement.
use Rattle.std.specs.Prelude.{◌≡◌, true, false, List, [], ◌∷◌, ◌++◌, ℕ}
use Rattle.std.proofs.Math.Option.{Option, none, some}
use Rattle.model.specs.Refusal.{fine, short_at}
use Rattle.model.specs.Table.{Row, Table, empty, row_at, count}
use Rattle.model.specs.Stored.{Read, refused, got, read_plan}
use Rattle.model.specs.Script.{Expr, nil, Parsed, refused, parsed, read_script, refusal_by}
use Rattle.model.specs.Run.{run_on}
use Rattle.model.specs.Meeting.{answer, free, meet}
use Rattle.model.specs.Promise.{table_of, answer_of, history_of, ends}

-- what bytes are read as: a plan, a script
abbrev pub table_by : Read → Table
table_by (refused f) = empty
table_by (got x) = x

abbrev pub expr_by : Parsed → Expr
expr_by (refused f) = nil 0
expr_by (parsed e i n c) = e

abbrev pub script : List ℕ → Expr
script b = expr_by (read_script b)

-- plan P
abbrev pub bytes_p : List ℕ
bytes_p =
    0x11 ∷ 0x01 ∷ 0xFF ∷ 0xFF ∷ 0x11 ∷ 0x02 ∷ 0x00 ∷ 0x00 ∷ 0x12 ∷ 0xFE ∷ 0x01 ∷ 0x00 ∷ 0x11 ∷ 0x03 ∷ 0x00 ∷ 0x00 ∷ 0x13 ∷ 0x00 ∷ 0x00 ∷
    0x00 ∷ []

abbrev pub plan_p : Table
plan_p = table_by (read_plan bytes_p)

-- children of document 0's root named 2, and named 3
abbrev pub twos : List ℕ
twos = 0x04 ∷ 0x00 ∷ 0x03 ∷ 0x02 ∷ 0x02 ∷ 0x00 ∷ []

abbrev pub threes : List ℕ
threes = 0x04 ∷ 0x00 ∷ 0x03 ∷ 0x03 ∷ 0x02 ∷ 0x00 ∷ []

-- script A, and its relation 2 twin
abbrev pub bytes_a : List ℕ
bytes_a = 0x0D ∷ 0x01 ∷ 0x00 ∷ 0x04 ∷ 0x00 ∷ 0x02 ∷ 0x00 ∷ twos

abbrev pub bytes_twin : List ℕ
bytes_twin = 0x0D ∷ 0x02 ∷ 0x00 ∷ 0x04 ∷ 0x00 ∷ 0x02 ∷ 0x00 ∷ twos

abbrev pub bytes_b : List ℕ
bytes_b = 0x0C ∷ 0x09 ∷ 0x04 ∷ threes

abbrev pub bytes_delete_twos : List ℕ
bytes_delete_twos = 0x0B ∷ twos

-- descendant leaves of document 0's root
abbrev pub bytes_leaves_below : List ℕ
bytes_leaves_below = 0x04 ∷ 0x01 ∷ 0x02 ∷ 0x00 ∷ 0x02 ∷ 0x00 ∷ []

-- let x be the children named 2, join (delete x, leaves under x)
abbrev pub bytes_let_x : List ℕ
bytes_let_x = 0x06 ∷ (twos ++ (0x05 ∷ 0x0B ∷ 0x03 ∷ 0x00 ∷ 0x04 ∷ 0x00 ∷ 0x02 ∷ 0x00 ∷ 0x03 ∷ 0x00 ∷ []))

-- a copy of the children named 2, against a delete of the leaves below them
abbrev pub bytes_copy_twos : List ℕ
bytes_copy_twos = 0x0C ∷ (twos ++ threes)

abbrev pub bytes_delete_leaves : List ℕ
bytes_delete_leaves = 0x0B ∷ 0x04 ∷ 0x00 ∷ 0x02 ∷ 0x00 ∷ twos

abbrev pub bytes_delete_root : List ℕ
bytes_delete_root = 0x0B ∷ 0x02 ∷ 0x00 ∷ []

-- insert of row 1 twice into row 3; and of row 3 twice into itself, where a second copy could take in the first
abbrev pub bytes_twice : List ℕ
bytes_twice = 0x0C ∷ 0x05 ∷ (twos ++ twos ++ threes)

abbrev pub bytes_into_itself : List ℕ
bytes_into_itself = 0x0C ∷ 0x05 ∷ (threes ++ threes ++ threes)

-- a script is accepted
abbrev pub accepted : List ℕ → Type 0
accepted b = refusal_by (read_script b) ≡ fine

abbrev pub script_a : Expr
script_a = script bytes_a

abbrev pub script_twin : Expr
script_twin = script bytes_twin

abbrev pub script_b : Expr
script_b = script bytes_b

abbrev pub delete_twos : Expr
delete_twos = script bytes_delete_twos

abbrev pub leaves_below : Expr
leaves_below = script bytes_leaves_below

abbrev pub let_x : Expr
let_x = script bytes_let_x

abbrev pub copy_twos : Expr
copy_twos = script bytes_copy_twos

abbrev pub delete_leaves : Expr
delete_leaves = script bytes_delete_leaves

abbrev pub delete_root : Expr
delete_root = script bytes_delete_root

abbrev pub twice : Expr
twice = script bytes_twice

abbrev pub into_itself : Expr
into_itself = script bytes_into_itself

-- an element with a name and a parent
abbrev pub element_row : (name : ℕ) → (parent : Option ℕ) → Row
element_row n p = record { is_leaf = false; tag = n; parent = p }

abbrev pub parent_at : Table → (row : ℕ) → Option ℕ
parent_at x i = (row_at x i).parent

-- the plans that the runs leave
abbrev pub after_b : Table
after_b = table_of (run_on plan_p script_b)

abbrev pub after_twice : Table
after_twice = table_of (run_on plan_p twice)

abbrev pub after_itself : Table
after_itself = table_of (run_on plan_p into_itself)

-- every script here is accepted
abbrev pub AllAccepted : Type 0
AllAccepted =
    accepted bytes_a × accepted bytes_twin × accepted bytes_b × accepted bytes_delete_twos × accepted bytes_leaves_below ×
    accepted bytes_let_x ×
    accepted bytes_copy_twos × accepted bytes_delete_leaves × accepted bytes_delete_root × accepted bytes_twice ×
    accepted bytes_into_itself

-- the cases, in the order of document 01; three more beside them
abbrev pub Cases : Type 0
Cases =
    AllAccepted ×
    (count plan_p ≡ 4) × (answer_of (run_on plan_p script_a) ≡ 2 ∷ []) ×
    ((answer_of (run_on plan_p script_twin) ≡ []) × (ends (run_on plan_p script_twin) ≡ true)) ×
    ((count after_b ≡ 6) × (row_at after_b 4 ≡ element_row 4 none) × (row_at after_b 5 ≡ element_row 4 (some 3))) ×
    (answer delete_twos script_a ≡ meet) × (answer delete_twos leaves_below ≡ meet) × (answer copy_twos delete_leaves ≡ meet) ×
    (answer script_b script_b ≡ free) × (answer script_a script_b ≡ free) × (answer_of (run_on plan_p let_x) ≡ 2 ∷ []) ×
    ((history_of (run_on plan_p delete_root) ≡ []) × (ends (run_on plan_p delete_root) ≡ true)) ×
    ((count after_twice ≡ 8) × (parent_at after_twice 4 ≡ some 3) × (parent_at after_twice 5 ≡ some 4) ×
    (parent_at after_twice 6 ≡ some 3) ×
    (parent_at after_twice 7 ≡ some 6)) ×
    ((count after_itself ≡ 6) × (parent_at after_itself 4 ≡ some 3) × (parent_at after_itself 5 ≡ some 3)) ×
    (refusal_by (read_script []) ≡ short_at 0) × (read_plan [] ≡ got empty)
