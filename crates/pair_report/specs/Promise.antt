-- What is promised of the lines that `pair` prints. Each promise is a type; a term of that type in proofs/ is its proof.
use Rattle.std.specs.Prelude.{◌≡◌, true, List, ◌⊎◌, ℕ, take}
use Rattle.model.specs.Base.{are_bytes}
use Rattle.model.specs.Refusal.{values}
use Rattle.model.specs.Stored.{got, read_plan}
use Rattle.model.specs.Table.{Table}
use Rattle.paths.specs.Analysis.{Free, analysed, values_of, answer_text}
use Rattle.pair_text.specs.Text.{ascii}
use Rattle.pair_files.specs.Promise.{file_bytes}
use Rattle.pair_orders.specs.Orders.{Order, Refused, Ended}
use Rattle.pair_report.specs.Pair.{lines_of, pair_text}

-- It reads at most 4,096 bytes of each file, which is enough: the lines are those for the whole files
abbrev pub FilesByFront : Type 0
FilesByFront =
    (p b c : List ℕ) → pair_text (take file_bytes p) (take file_bytes b) (take file_bytes c) ≡ pair_text p b c

-- THE LINES of two scripts that are free
abbrev pub free_text : (oneTwo twoOne : Order) → List ℕ
free_text x y = lines_of (ascii (answer_text Free)) x y

-- both orders end with the same three numbers, or both are refused
abbrev pub BothOrders : (text : List ℕ) → Type 0
BothOrders t =
    ((i : ℕ) × ((j : ℕ) × ((r : ℕ) × (t ≡ free_text (Ended i j r) (Ended i j r))))) ⊎
    ((s : ℕ) × ((n : ℕ) × ((s' : ℕ) × ((n' : ℕ) × (t ≡ free_text (Refused s n) (Refused s' n'))))))

-- DEMAND 3 on what is printed, for every plan that is read and every two scripts that the analysis calls free, 0
abbrev pub FreeLines : Type 0
FreeLines =
    (p b c : List ℕ) (x : Table) → are_bytes p ≡ true → are_bytes b ≡ true → are_bytes c ≡ true → read_plan p ≡ got x →
    values_of (analysed b c) ≡ values 0 0 0 → BothOrders (pair_text p b c)
