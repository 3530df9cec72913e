-- Reading a plan, record by record: each turn, the start and the end.
use mathlib.Core.Path.{◌≡◌, ap, sym, ◌∙◌}
use mathlib.Core.List.{List, [], map}
use Prim.Native.Nat.{ℕ, suc, ◌+◌, ◌-◌, ◌≤◌, ◌<◌}
use native.Mathlib.Omega.{arith}
use lib.ListN.{length, length-drop, take, drop}
use lib.Seq.{drop-drop}
use borrow.Author.Tests.{ne_eqb}
use Rattle.model.specs.Refusal.{refusal, fine, is_fine, refusal_at}
use Rattle.model.specs.Table as model
use Rattle.model.specs.Stored.{record_size, last_marked, record_refusal, recorded, read_from, read_plan, refused, got}
use Rattle.model.proofs.BoolLaws.{cond_ne}
use Rattle.model.proofs.ListLaws.{drop_all}
use Rattle.model.proofs.StoredLaws.{read_from_end, read_from_fine, read_from_refused, read_from_fuel}
use Rattle.plan_table.specs.Packed.{of_link, decode_parts}
use Rattle.plan_reader.specs.Reading.{last_of, RecordRead, RecordPost, Held, ReadPre, ReadPost}

-- reading goes on from what is held, at a place
module _ (b ws ms : List ℕ) (n at : ℕ) (h : at < length b)
    (held : read_from (length b - at) (decode_parts n ws ms) at (drop at b) ≡ read_plan b) where
  more : 0 < length (drop at b)
  more = omega (arith, length-drop at b)

  fuel : length b - at ≡ suc (length b - at - 1)
  fuel = omega arith

  module _ (ws' ms' : List ℕ) (r : RecordRead) (post : RecordPost (take (length b - at) (drop at b)) ws ms n ws' ms' r) where
    refusals : record_refusal (decode_parts n ws ms) at (drop at b) ≡ refusal_at r.number at
    refusals = ap (record_refusal (decode_parts n ws ms) at) (sym (drop_all b at)) ∙ post.refusal at

    pub reading_refused : (r.number ≡ 0 → ⊥) → ReadPost b ws' ms' (record { number = r.number; place = at; count = 0 })
    reading_refused z =
        let e : record_refusal (decode_parts n ws ms) at (drop at b) ≡ refusal r.number at = refusals ∙ rw (ne_eqb r.number 0 z) in
        record {
          result =
              cond_ne (got (decode_parts 0 ws' ms')) (refused (refusal r.number at)) z ∙
              sym (read_from_refused (length b - at - 1) (decode_parts n ws ms) at (drop at b) more (ap is_fine e ∙ ne_eqb r.number 0
              z) ∙
              ap refused e) ∙
              ap (λ (j : ℕ). read_from j (decode_parts n ws ms) at (drop at b)) (sym fuel) ∙ held;
          canonical = λ k. absurd (z k);
          room = λ k. absurd (z k);
        }

    pub reading_on : r.number ≡ 0 → (at + record_size ≤ length b) × (read_from (length b - (at + record_size))
        (decode_parts r.count ws' ms') (at + record_size) (drop (at + record_size) b) ≡ read_plan b)
    reading_on z =
        let w : record_size ≤ length (take (length b - at) (drop at b)) = (post.fine z).whole in
        let e : record_refusal (decode_parts n ws ms) at (drop at b) ≡ fine = refusals ∙ rw z in
        let l : at + record_size ≤ length b = omega (arith, ap length (drop_all b at), length-drop at b) in (
          l,
          read_from_fuel (length b - (at + record_size)) (length b - at - 1) (decode_parts r.count ws' ms') (at + record_size)
              (drop (at + record_size) b) (omega (arith, length-drop (at + record_size) b))
              (omega (arith, length-drop (at + record_size) b)) ∙
              ap (λ (x : model.Table). read_from (length b - at - 1) x (at + record_size) (drop (at + record_size) b))
              ((post.fine z).table ∙ ap (recorded (decode_parts n ws ms)) (drop_all b at)) ∙
              ap (read_from (length b - at - 1) (recorded (decode_parts n ws ms) (drop at b)) (at + record_size))
              (sym (drop-drop record_size at b)) ∙
              sym (read_from_fine (length b - at - 1) (decode_parts n ws ms) at (drop at b) more (ap is_fine e)) ∙
              ap (λ (j : ℕ). read_from j (decode_parts n ws ms) at (drop at b)) (sym fuel) ∙ held,
        )

-- the start: the empty table
module _ (ws ms : List ℕ) (pre : ReadPre ws ms) where
  pub held_empty : Held ws ms 0 0
  unfolding last_marked
  held_empty =
      record {
        room = omega arith;
        size = ap length pre.rows;
        documents = ap length pre.marks;
        canonical = sym pre.rows;
        latest = sym (ap last_of pre.marks);
      }

  pub reading_all : (b : List ℕ) → read_from (length b - 0) (decode_parts 0 ws ms) 0 b ≡ read_plan b
  reading_all b =
      read_from_fuel (length b - 0) (length b + 1) (decode_parts 0 ws ms) 0 b (omega arith) (omega arith) ∙
      ap (λ (v : List ℕ). read_from (length b + 1) (model.table [] (map of_link v)) 0 b) pre.marks

-- the end
pub reading_end : (b ws ms : List ℕ) (n at : ℕ) → length b ≤ at →
    read_from (length b - at) (decode_parts n ws ms) at (drop at b) ≡ read_plan b → got (decode_parts n ws ms) ≡ read_plan b
reading_end b ws ms n at h held =
    sym (read_from_end (length b - at) (decode_parts n ws ms) at (drop at b) (omega (arith, length-drop at b))) ∙ held
