-- Contracts of the reader's parts: what each asks and what it leaves.
use Rattle.std.specs.Prelude.{◌≡◌, true, false, cond, List, map, ℕ, ◌+◌, ◌≤◌, ◌<◌, eqb, length, get_or, set, replicate, Result, Ok, Err}
use Rattle.model.specs.Limits.{max_rows, documents}
use Rattle.model.specs.Refusal.{refusal, refusal_at}
use Rattle.model.specs.Stored.{is_stored_kind, record_size, Read, refused, got, read_plan, number_at, row_in, last_marked}
use Rattle.model.specs.Stored.{is_mark, row_refusal, mark_refusal, record_refusal, recorded}
use Rattle.plan_table.specs.Packed.{link_of, of_link, pack_row, decode_parts, Canonical, link_room}
use Rattle.plan_table.specs.Refusals.{number_of}
use Rattle.plan_table.specs.Results.{End}
use Rattle.plan_table.specs.declared.Reason.{Reason}
use Rattle.plan_reader.specs.declared.read.RecordRead as declared

-- the last document that marks a row, and one
abbrev pub last_of : (marks : List ℕ) → ℕ
last_of ms = last_marked 0 (map of_link ms)

pub record RowPre (s ws : List ℕ) (n : ℕ) : Type 0 where
  pub whole : record_size ≤ length s
  pub kind : is_stored_kind (get_or s 0 0) ≡ true
  pub row : is_mark s ≡ false
  pub room : n < max_rows
  pub size : length ws ≡ max_rows

pub record RowPost (s ws : List ℕ) (n last : ℕ) (ws' : List ℕ) (r : ℕ) : Type 0 where
  pub refusal : (ms : List ℕ) (i : ℕ) → last ≡ last_of ms → row_refusal (decode_parts n ws ms) i s ≡ refusal_at r i
  pub rows : ws' ≡ cond (eqb r 0) (set ws n (pack_row (row_in s))) ws
  pub link : r ≡ 0 → link_of (row_in s).parent < link_room

pub record MarkPre (s ws ms : List ℕ) (n : ℕ) : Type 0 where
  pub whole : record_size ≤ length s
  pub room : n ≤ max_rows
  pub size : length ws ≡ max_rows
  pub documents : length ms ≡ documents

pub record MarkPost (s ws ms : List ℕ) (n last : ℕ) (ms' : List ℕ) (r : ℕ) : Type 0 where
  pub refusal : (i : ℕ) → last ≡ last_of ms → mark_refusal (decode_parts n ws ms) i s ≡ refusal_at r i
  pub marks : ms' ≡ cond (eqb r 0) (set ms (get_or s 1 0) (number_at s 2 + 1)) ms
  pub document : r ≡ 0 → get_or s 1 0 < documents
  pub order : r ≡ 0 → last ≤ get_or s 1 0

-- the table so far, packed, and its marks: `last` is one more than the last document that marks a row
pub record Held (ws ms : List ℕ) (n last : ℕ) : Type 0 where
  pub room : n ≤ max_rows
  pub size : length ws ≡ max_rows
  pub documents : length ms ≡ documents
  pub canonical : Canonical n ws
  pub latest : last ≡ last_of ms

pub record RecordPre (s ws ms : List ℕ) (n last : ℕ) : Type 0 where
  pub nonempty : 0 < length s
  pub held : Held ws ms n last

-- the record is whole, and the table has it
pub record Recorded (s ws ms : List ℕ) (n : ℕ) (ws' ms' : List ℕ) (n' last' : ℕ) : Type 0 where
  pub whole : record_size ≤ length s
  pub table : decode_parts n' ws' ms' ≡ recorded (decode_parts n ws ms) s
  pub held : Held ws' ms' n' last'

-- after a record: its refusal's number, or 0; rows so far; one more than the last document that marks a row
pub record RecordRead : Type 0 where
  pub number : ℕ
  pub count : ℕ
  pub last : ℕ

-- as a result says it
abbrev pub record_by : Result declared.RecordRead Reason → RecordRead
record_by (Ok r) = record { number = 0; count = r.count; last = r.last }
record_by (Err r) = record { number = number_of r; count = 0; last = 0 }

pub record RecordPost (s ws ms : List ℕ) (n : ℕ) (ws' ms' : List ℕ) (r : RecordRead) : Type 0 where
  pub refusal : (i : ℕ) → record_refusal (decode_parts n ws ms) i s ≡ refusal_at r.number i
  pub fine : r.number ≡ 0 → Recorded s ws ms n ws' ms' r.count r.last

pub record ReadPre (ws ms : List ℕ) : Type 0 where
  pub rows : ws ≡ replicate max_rows 0
  pub marks : ms ≡ replicate documents 0

abbrev pub read_end : (ws ms : List ℕ) → End → Read
read_end ws ms r = cond (eqb r.number 0) (got (decode_parts r.count ws ms)) (refused (refusal r.number r.place))

pub record ReadPost (b ws ms : List ℕ) (r : End) : Type 0 where
  pub result : read_end ws ms r ≡ read_plan b
  pub canonical : r.number ≡ 0 → Canonical r.count ws
  pub room : r.number ≡ 0 → r.count ≤ length ws
