-- The check of a table handed in, as the code makes it: row by row over the packed rows.
use Rattle.std.specs.Prelude.{◌≡◌, Bool, true, ◌&&◌, ◌||◌, not, cond, List, [], ◌∷◌, map, ℕ, zero, suc, ◌-◌, ltb, leb, eqb, length, get_or}
use Rattle.model.specs.Limits.{max_rows, documents}
use Rattle.model.specs.Base.{any, max_byte}
use Rattle.model.specs.Table.{is_the}
use Rattle.plan_table.specs.Packed.{of_link, kind_in, link_in, tag_in, leaf_bits, element_bits}

-- rows and marks as they stand in a table
pub record TableSizes (ws ms : List ℕ) : Type 0 where
  pub rows : length ws ≡ max_rows
  pub marks : length ms ≡ documents

-- a packed row, with its name or value in range
abbrev pub tag_fits : (packed : ℕ) → Bool
tag_fits w = leb (tag_in w) max_byte && cond (eqb (kind_in w) element_bits) (ltb 0 (tag_in w)) (eqb (kind_in w) leaf_bits)

-- the row is an element below a bound
abbrev pub is_element_below : (packed : List ℕ) → (bound row : ℕ) → Bool
is_element_below ws n i = ltb i n && not (eqb (kind_in (get_or ws i 0)) leaf_bits)

-- without parent
abbrev pub is_root_below : (packed : List ℕ) → (bound row : ℕ) → Bool
is_root_below ws n i = is_element_below ws n i && eqb (link_in (get_or ws i 0)) 0

-- a parent's link fits at a row: none, or that of a lower element
abbrev pub link_fits : (packed : List ℕ) → (row link : ℕ) → Bool
link_fits ws i l = eqb l 0 || is_element_below ws i (l - 1)

-- a row fits: its tag, and its parent's link
abbrev pub row_fits : (packed : List ℕ) → (row : ℕ) → Bool
row_fits ws i = tag_fits (get_or ws i 0) && link_fits ws i (link_in (get_or ws i 0))

-- row after row
unfoldable pub rows_fit : (packed : List ℕ) → (row : ℕ) → ℕ → Bool
rows_fit ws i zero = true
rows_fit ws i (suc n) = row_fits ws i && rows_fit ws (suc i) n

-- a mark fits: none, or the link of an element without parent
abbrev pub mark_fits : (packed : List ℕ) → (count link : ℕ) → Bool
mark_fits ws n l = eqb l 0 || is_root_below ws n (l - 1)

-- a row's link stands again among marks
abbrev pub is_repeated : (link : ℕ) → (marks : List ℕ) → Bool
is_repeated l ms = not (eqb l 0) && any (is_the (l - 1)) (map of_link ms)

-- every mark fits, and none stands again behind it
unfoldable pub marks_fit : (packed : List ℕ) → (count : ℕ) → (marks : List ℕ) → Bool
marks_fit ws n [] = true
marks_fit ws n (m ∷ ms) = mark_fits ws n m && not (is_repeated m ms) && marks_fit ws n ms
