-- What writing a plan answers and leaves, for every input; contracts of the writer's parts.
use Rattle.std.specs.Prelude.{◌≡◌, cond, List, map, ℕ, ◌+◌, ◌*◌, ◌≤◌, ◌<◌, leb, length, get_or}
use Rattle.model.specs.Base.{at_front}
use Rattle.model.specs.Limits.{max_rows, documents}
use Rattle.model.specs.Refusal as refusal
use Rattle.model.specs.Stored.{record_size, marks_bytes, stored}
use Rattle.plan_table.specs.Results.{refusal_of, Written}
use Rattle.plan_table.specs.Packed.{of_link, byte_tags, decode, fits}
use Rattle.plan_table.specs.declared.Table.{Table}

-- WRITING: 6 before 11; bytes past the stored length stay; refused, nothing is written
abbrev pub write_refusal : Table → (room : ℕ) → refusal.Refusal
write_refusal t n =
    refusal.or_else (refusal.unless (fits t) (refusal.link_at 0)) (refusal.unless (leb (length (stored (decode t))) n) refusal.lent_short)

-- what writing answers: the refusal, or the bytes written
abbrev pub plan_written : Table → (out : List ℕ) → Written
plan_written t o =
    record {
      refusal = refusal_of (write_refusal t (length o));
      bytes = cond (refusal.is_fine (write_refusal t (length o))) (length (stored (decode t))) 0;
    }

-- the area after it
abbrev pub written_out : Table → (out : List ℕ) → List ℕ
written_out t o = cond (refusal.is_fine (write_refusal t (length o))) (at_front (stored (decode t)) o) o

-- room for the rows below the count, whose tags are bytes
pub record RowsPre (ws o : List ℕ) (n : ℕ) : Type 0 where
  pub rows : n ≤ length ws
  pub few : n ≤ max_rows
  pub tags : (k : ℕ) → k < n → get_or ws k 0 < byte_tags
  pub room : record_size * n ≤ length o

-- room for the marks from a place on
pub record MarksPre (ms o : List ℕ) (start : ℕ) : Type 0 where
  pub documents : length ms ≡ documents
  pub room : start + length (marks_bytes 0 (map of_link ms)) ≤ length o
