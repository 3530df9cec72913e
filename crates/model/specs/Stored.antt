-- Document 01, 'Stored plan': written, and read with number and place of a refusal.
use Rattle.std.specs.Prelude.{◌≡◌, Bool, ◌&&◌, ◌||◌, not, cond, List, [], ◌∷◌, ◌++◌, ℕ, zero, suc, ◌+◌, ◌*◌, ◌/◌, ◌%◌, ◌<◌, ltb, leb, eqb}
use Rattle.std.specs.Prelude.{length, get_or, drop}
use Rattle.std.proofs.Math.Option.{Option, none, some}
use Rattle.model.specs.Limits.{max_rows, documents}
use Rattle.model.specs.Refusal.{Refusal, is_fine, or_else, unless, kind_at, short_at, field_at, size_at, link_at}
use Rattle.model.specs.Kinds.{Kind, kind_by, kind_of, is_found, body_by}
use Rattle.model.specs.Table.{Row, Table, empty, row_at, count, is_element}
use Rattle.model.specs.Table.{is_marked, has_parent, with_row, with_mark, tag_fits, parent_fits}

-- NUMBERS of the kinds: element and leaf (body: name or value, parent), mark (body: document, row)
abbrev pub element_kind : ℕ
element_kind = 0x11

abbrev pub leaf_kind : ℕ
leaf_kind = 0x12

abbrev pub mark_kind : ℕ
mark_kind = 0x13

-- KINDS: a row of document 01's table each, with the bytes of its body; no record has operands
unfoldable pub stored_kinds : List Kind
stored_kinds =
    kind_by element_kind 3 0 ∷
    kind_by leaf_kind 3 0 ∷
    kind_by mark_kind 3 0 ∷
    []

-- the byte is a kind
abbrev pub is_stored_kind : (byte : ℕ) → Bool
is_stored_kind k = is_found (kind_of stored_kinds k)

-- bytes of a record: its kind and its body
abbrev pub stored_size : (kind : ℕ) → ℕ
stored_size k = 1 + body_by (kind_of stored_kinds k)

-- every stored record has four bytes, by that table
abbrev pub record_size : ℕ
record_size = 4

-- two-byte numbers have the low byte first
abbrev pub number_bytes : ℕ → List ℕ
number_bytes n = n % 256 ∷ n / 256 ∷ []

-- Parent 0xFFFF means none
abbrev pub no_parent : ℕ
no_parent = 0xFFFF

-- the two bytes of a parent
abbrev pub parent_bytes : Option ℕ → List ℕ
parent_bytes none = number_bytes no_parent
parent_bytes (some p) = number_bytes p

-- WRITTEN: a row's record
abbrev pub row_bytes : Row → List ℕ
row_bytes r = cond r.is_leaf leaf_kind element_kind ∷ r.tag ∷ parent_bytes r.parent

-- rows in number order
unfoldable pub rows_bytes : List Row → List ℕ
rows_bytes [] = []
rows_bytes (r ∷ rs) = row_bytes r ++ rows_bytes rs

-- a document that marks no row has no record
abbrev pub mark_bytes : (document : ℕ) → Option ℕ → List ℕ
mark_bytes d none = []
mark_bytes d (some i) = mark_kind ∷ d ∷ number_bytes i

-- marks with rising document
unfoldable pub marks_bytes : (document : ℕ) → List (Option ℕ) → List ℕ
marks_bytes d [] = []
marks_bytes d (m ∷ ms) = mark_bytes d m ++ marks_bytes (suc d) ms

-- a whole plan
abbrev pub stored : Table → List ℕ
stored x = rows_bytes x.rows ++ marks_bytes 0 x.marks

-- READ: a refusal, or a table
pub data Read : Type 0 where
  refused : Refusal → Read
  got : Table → Read

-- the two-byte number at a place
abbrev pub number_at : (bytes : List ℕ) → (place : ℕ) → ℕ
number_at b i = get_or b i 0 + 256 * get_or b (i + 1) 0

-- 0xFFFF means none, so a parent is below it
abbrev pub IsStorable : Option ℕ → Type 0
IsStorable p = (i : ℕ) → p ≡ some i → i < no_parent

-- Parent 0xFFFF means none
abbrev pub parent_in : (number : ℕ) → Option ℕ
parent_in w = cond (eqb w no_parent) none (some w)

-- the row of the record at the front
abbrev pub row_in : (bytes : List ℕ) → Row
row_in b = record { is_leaf = eqb (get_or b 0 0) leaf_kind; tag = get_or b 1 0; parent = parent_in (number_at b 2) }

-- the record at the front is a mark
abbrev pub is_mark : (bytes : List ℕ) → Bool
is_mark b = eqb (get_or b 0 0) mark_kind

-- one more than the last document that marks a row, 0 where none does
unfoldable pub last_marked : (from : ℕ) → List (Option ℕ) → ℕ
last_marked d [] = 0
last_marked d (none ∷ ms) = last_marked (suc d) ms
last_marked d (some i ∷ ms) = cond (eqb (last_marked (suc d) ms) 0) (suc d) (last_marked (suc d) ms)

-- 6: a row after a mark breaks the row order; the parent is a lower element
abbrev pub row_links : Table → Row → Bool
row_links x r = eqb (last_marked 0 x.marks) 0 && parent_fits x (count x) r.parent

-- 6: documents rise; the row is an element without parent and without mark
abbrev pub mark_links : Table → (document row : ℕ) → Bool
mark_links x d i = leb (last_marked 0 x.marks) d && is_element x i && not (has_parent (row_at x i).parent) && not (is_marked x i)

-- of a row at the front: 4, then 6
abbrev pub row_refusal : Table → (place : ℕ) → (bytes : List ℕ) → Refusal
row_refusal x i b = or_else (unless (tag_fits (row_in b)) (field_at i)) (unless (row_links x (row_in b)) (link_at i))

-- of a mark at the front: 4, then 6
abbrev pub mark_refusal : Table → (place : ℕ) → (bytes : List ℕ) → Refusal
mark_refusal x i b =
    or_else (unless (ltb (get_or b 1 0) documents) (field_at i)) (unless (mark_links x (get_or b 1 0) (number_at b 2)) (link_at i))

-- of the record at the front: 1, 5, 2, 4, 6
abbrev pub record_refusal : Table → (place : ℕ) → (bytes : List ℕ) → Refusal
record_refusal x i b =
    or_else (unless (is_stored_kind (get_or b 0 0)) (kind_at i))
    (or_else (unless (is_mark b || ltb (count x) max_rows) (size_at i))
    (or_else (unless (leb (stored_size (get_or b 0 0)) (length b)) (short_at i))
    (cond (is_mark b) (mark_refusal x i b) (row_refusal x i b))))

-- the table with the record at the front
abbrev pub recorded : Table → (bytes : List ℕ) → Table
recorded x b = cond (is_mark b) (with_mark x (get_or b 1 0) (number_at b 2)) (with_row x (row_in b))

-- record by record; fuel: more than there are bytes
unfoldable pub read_from : ℕ → Table → (place : ℕ) → (bytes : List ℕ) → Read
read_from zero x i b = got x
read_from (suc n) x i b =
    cond (eqb (length b) 0) (got x)
    (cond (is_fine (record_refusal x i b))
    (read_from n (recorded x b) (i + stored_size (get_or b 0 0)) (drop (stored_size (get_or b 0 0)) b))
    (refused (record_refusal x i b)))

-- No bytes is the plan without rows
abbrev pub read_plan : (bytes : List ℕ) → Read
read_plan b = read_from (length b + 1) empty 0 b
