-- How a table of the model stands in the type Table: rows packed into numbers, marks as links.
use Rattle.std.specs.Prelude.{◌≡◌, Bool, ◌&&◌, cond, ◌⊎◌, List, ◌++◌, map, ℕ, ◌+◌, ◌*◌, ◌-◌, ◌/◌, ◌%◌, ◌<◌, leb, eqb}
use Rattle.std.proofs.Math.Option.{Option, none, some}
use lib.ListN.{get_or, take, drop, replicate}
use Rattle.model.specs.Base.{is_in, all, max_byte}
use Rattle.model.specs.Limits.{max_rows}
use Rattle.model.specs.Table as model
use Rattle.plan_table.specs.declared.Table.{Table}

-- A LINK is a row number plus one, or 0 for none; it stands for a parent in a packed row, and for a mark
abbrev pub link_of : Option ℕ → ℕ
link_of none = 0
link_of (some p) = p + 1

-- the parent or mark of a link
abbrev pub of_link : ℕ → Option ℕ
of_link n = cond (eqb n 0) none (some (n - 1))

-- PACKED, a row is a number: its kind (1 element, 2 leaf) in 2 bits, the parent's link in 10, name or value above
abbrev pub element_bits : ℕ
element_bits = 1

-- a leaf's kind in a packed row
abbrev pub leaf_bits : ℕ
leaf_bits = 2

-- links that a packed row has room for
abbrev pub link_room : ℕ
link_room = 1024

-- the kind in a packed row
abbrev pub kind_in : (packed : ℕ) → ℕ
kind_in w = w % 4

-- the link in a packed row
abbrev pub link_in : (packed : ℕ) → ℕ
link_in w = w / 4 % link_room

-- the name or value in a packed row
abbrev pub tag_in : (packed : ℕ) → ℕ
tag_in w = w / 4096

-- packed rows whose name or value is a byte are below this
abbrev pub byte_tags : ℕ
byte_tags = 4096 * (max_byte + 1)

-- a row, packed
abbrev pub pack_row : model.Row → ℕ
pack_row r = cond r.is_leaf leaf_bits element_bits + 4 * link_of r.parent + 4096 * r.tag

-- the row that a packed one is
abbrev pub row_of : ℕ → model.Row
row_of w = record { is_leaf = eqb (kind_in w) leaf_bits; tag = tag_in w; parent = of_link (link_in w) }

-- a packed row, by its kind
abbrev pub is_packed_row : ℕ → Bool
is_packed_row w = is_in element_bits leaf_bits (kind_in w)

-- a packed row with another link to the parent
abbrev pub with_link : (packed link : ℕ) → ℕ
with_link w l = kind_in w + 4 * l + 4096 * tag_in w

-- ENCODED: rows past the count are zero
abbrev pub pack_rows : List model.Row → List ℕ
pack_rows rs = map pack_row rs ++ replicate (max_rows - lib.ListN.length rs) 0

-- a packed table
abbrev pub encode : model.Table → Table
encode x = record { count = model.count x; rows = pack_rows x.rows; marks = map link_of x.marks }

-- DECODED
abbrev pub rows_of : (count : ℕ) → (packed : List ℕ) → List model.Row
rows_of n ws = map row_of (take n ws)

-- the table of a count, packed rows and marks
abbrev pub decode_parts : (count : ℕ) → (packed marks : List ℕ) → model.Table
decode_parts n ws ms = model.table (rows_of n ws) (map of_link ms)

-- the same, as a table handed in
abbrev pub table_of : (count : ℕ) → (packed marks : List ℕ) → Table
table_of n ws ms = record { count = n; rows = ws; marks = ms }

-- the table that its packed rows stand for
abbrev pub decode : Table → model.Table
decode t = decode_parts t.count t.rows t.marks

-- CANONICAL: packed rows that encode the rows that they decode to
abbrev pub Canonical : (count : ℕ) → (packed : List ℕ) → Type 0
Canonical n ws = pack_rows (rows_of n ws) ≡ ws

-- LINKS ONLY CUT: each of the first rows has the link that it had, or none
pub record LinksCut (n : ℕ) (ws ws' : List ℕ) : Type 0 where
  pub each : (i : ℕ) → i < n → (link_in (get_or ws' i 0) ≡ link_in (get_or ws i 0)) ⊎ (link_in (get_or ws' i 0) ≡ 0)

-- WELL FORMED as it is handed in: packed rows up to the count, zeros past it, and the table is well formed
abbrev pub is_zero : ℕ → Bool
is_zero w = eqb w 0

-- a count, packed rows and marks fit
abbrev pub parts_fit : (count : ℕ) → (packed marks : List ℕ) → Bool
parts_fit n ws ms =
    leb n max_rows && all is_packed_row (take n ws) && all is_zero (drop n ws) && model.is_well (decode_parts n ws ms)

-- a table fits
abbrev pub fits : Table → Bool
fits t = parts_fit t.count t.rows t.marks
