-- Document 01, 'The history': its records, as bytes, read, and replayed.
use Rattle.std.specs.Prelude.{◌≡◌, Bool, true, false, ◌||◌, cond, List, [], ◌∷◌, ◌++◌, ℕ, ◌+◌, eqb, get_or}
use Rattle.std.proofs.Math.Option.{none}
use Rattle.model.specs.Base.{All, bit}
use Rattle.model.specs.Table.{Row, Table, linked, with_row, tag_fits, is_name}
use Rattle.model.specs.Stored.{IsStorable, number_bytes, number_at, parent_bytes, parent_in}

-- A RECORD: a row made, with its number; or a link cut, with the row and its old parent
pub data Record : Type 0 where
  made : (row : ℕ) → Row → Record
  cut : (row parent : ℕ) → Record

-- of a row made
abbrev pub is_made : Record → Bool
is_made (made i r) = true
is_made (cut i p) = false

-- of a link cut
abbrev pub is_cut : Record → Bool
is_cut (made i r) = false
is_cut (cut i p) = true

-- of this row made, and of this row's link cut
abbrev pub makes : (row : ℕ) → Record → Bool
makes i (made j r) = eqb j i
makes i (cut j p) = false

abbrev pub cuts : (row : ℕ) → Record → Bool
cuts i (made j r) = false
cuts i (cut j p) = eqb j i

-- how many pass a test
unfoldable pub times : (Record → Bool) → List Record → ℕ
times f [] = 0
times f (r ∷ rs) = bit (f r) + times f rs

-- A RECORD IN RANGE: the row's name or value fits, and its parent is not 0xFFFF, which means none; a cut always is
pub data IsInRange : Record → Type 0 where
  made_in : {i : ℕ} {r : Row} → tag_fits r ≡ true → IsStorable r.parent → IsInRange (made i r)
  cut_in : {i p : ℕ} → IsInRange (cut i p)

abbrev pub AllInRange : List Record → Type 0
AllInRange = All IsInRange

-- KINDS: element made, leaf made (body: row, name or value, parent), link cut (body: row, old parent)
abbrev pub made_element_kind : ℕ
made_element_kind = 0x41

abbrev pub made_leaf_kind : ℕ
made_leaf_kind = 0x42

abbrev pub cut_kind : ℕ
cut_kind = 0x43

-- WRITTEN
abbrev pub record_bytes : Record → List ℕ
record_bytes (made i r) =
    (cond r.is_leaf made_leaf_kind made_element_kind ∷ number_bytes i) ++ (r.tag ∷ parent_bytes r.parent)
record_bytes (cut i p) = (cut_kind ∷ number_bytes i) ++ number_bytes p

-- record after record
unfoldable pub history_bytes : List Record → List ℕ
history_bytes [] = []
history_bytes (r ∷ rs) = record_bytes r ++ history_bytes rs

-- READ. The form of a record: how many bytes it has, whether its fields are in range, and what it says, from its kind byte on
pub record Form : Type 0 where
  pub size : ℕ
  pub fits : (bytes : List ℕ) → Bool
  pub entry : (bytes : List ℕ) → Record

-- bytes of the record of a row made, and of a link cut
abbrev pub made_size : ℕ
made_size = 6

abbrev pub cut_size : ℕ
cut_size = 5

-- the row in the record of a row made
abbrev pub made_row : (is_leaf : Bool) → (bytes : List ℕ) → Row
made_row z b = record { is_leaf = z; tag = get_or b 3 0; parent = parent_in (number_at b 4) }

-- of a row made: an element's name is 1 to 255
abbrev pub made_form : (is_leaf : Bool) → Form
made_form z =
    record { size = made_size; fits = λ b. z || is_name (get_or b 3 0); entry = λ b. made (number_at b 1) (made_row z b) }

-- of a link cut
abbrev pub cut_form : Form
cut_form = record { size = cut_size; fits = λ b. true; entry = λ b. cut (number_at b 1) (number_at b 3) }

-- of a byte that is no kind: a record without bytes, which is never read
abbrev pub no_form : Form
no_form = record { size = 0; fits = λ b. false; entry = λ b. cut 0 0 }

-- which byte is a kind, and the form of its record
abbrev pub history_form : (kind : ℕ) → Form
history_form k =
    cond (eqb k made_element_kind) (made_form false)
    (cond (eqb k made_leaf_kind) (made_form true) (cond (eqb k cut_kind) cut_form no_form))

-- the bytes of a record of this kind
abbrev pub history_size : (kind : ℕ) → ℕ
history_size k = (history_form k).size

-- the record at the front
abbrev pub record_in : (bytes : List ℕ) → Record
record_in b = (history_form (get_or b 0 0)).entry b

-- REPLAYED: replaying a history on the earlier table gives the later one
abbrev pub replayed : Table → Record → Table
replayed x (made i r) = with_row x r
replayed x (cut i p) = linked x i none

-- record after record, in order
unfoldable pub replay_all : Table → List Record → Table
replay_all x [] = x
replay_all x (r ∷ rs) = replay_all (replayed x r) rs
