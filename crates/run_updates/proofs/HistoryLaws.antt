-- Records written and read back: the bytes of the records read are the bytes, and a record appended is one record more.
use mathlib.Core.Path.{◌≡◌, refl, ap, ap₂, sym, ◌∙◌}
use mathlib.Core.Bool.{true, false, cond}
use mathlib.Core.List.{List, [], ◌∷◌, ◌++◌, append-nil, append_assoc}
use Prim.Native.Nat.{ℕ, zero, suc, ◌+◌, ◌-◌, ◌≤◌}
use native.Mathlib.Omega.{arith}
use lib.ListN.{length, take, drop, length-append}
use lib.Seq.{drop_at, take_at, drop-drop, length-take-le}
use borrow.Author.Tests.{ne_eqb}
use Rattle.model.specs.Base.{over, also}
use Rattle.model.specs.History.{Record, is_cut, times, IsInRange, AllInRange, record_bytes, history_bytes}
use Rattle.model.proofs.FormLaws.{record_bytes_some, size_back, record_in_back}
use Rattle.model.proofs.All.{all_snoc}
use Rattle.model.proofs.HistoryLaws.{times_snoc}
use Rattle.run_updates.specs.Tallying.{plus_made, plus_cut}
use Rattle.run_updates.specs.declared.tally.Tally.{Tally}
use Rattle.run_updates.specs.State.{records_from, records_in, Recorded}

-- RECORDS written and read back
records_from_step : (k : ℕ) (r : Record) (c : List ℕ) → IsInRange r → records_from (suc k) (record_bytes r ++ c) ≡ r ∷ records_from k c
unfolding records_from
records_from_step k r c f =
    let b = record_bytes r ++ c in
    rw (ne_eqb (length b) 0 (λ e. omega (arith, record_bytes_some r, length-append (record_bytes r) c)))
    (ap₂ (λ (q : Record) (j : ℕ). q ∷ records_from k (drop j b)) (record_in_back r f c) (size_back r c) ∙
    ap (λ (d : List ℕ). r ∷ records_from k d) (drop_at (record_bytes r) c (length (record_bytes r)) refl))

records_from_bytes : (k : ℕ) (rs : List Record) → AllInRange rs → length (history_bytes rs) ≤ k → records_from k (history_bytes rs) ≡ rs
unfolding records_from history_bytes
records_from_bytes zero [] a h = refl
records_from_bytes (suc k) [] a h = refl
records_from_bytes zero (r ∷ rs) a h =
    absurd (omega (arith, record_bytes_some r, length-append (record_bytes r) (history_bytes rs)))
records_from_bytes (suc k) (r ∷ rs) (also f a) h =
    records_from_step k r (history_bytes rs) f ∙
    ap (λ (qs : List Record). r ∷ qs)
    (records_from_bytes k rs a (omega (arith, record_bytes_some r, length-append (record_bytes r) (history_bytes rs))))

records_in_bytes : (rs : List Record) → AllInRange rs → records_in (history_bytes rs) ≡ rs
records_in_bytes rs a = records_from_bytes (length (history_bytes rs)) rs a (omega arith)

history_bytes_snoc : (rs : List Record) (r : Record) → history_bytes (rs ++ (r ∷ [])) ≡ history_bytes rs ++ record_bytes r
unfolding history_bytes
history_bytes_snoc [] r = append-nil (record_bytes r)
history_bytes_snoc (q ∷ rs) r =
    ap (λ (b : List ℕ). record_bytes q ++ b) (history_bytes_snoc rs r) ∙
    sym (append_assoc (record_bytes q) (history_bytes rs) (record_bytes r))

-- ONE RECORD MORE
module _ (b : List ℕ) (t : Tally) (h : Recorded b t) (r : Record) (f : IsInRange r) where
  grown_bytes : b ++ record_bytes r ≡ history_bytes (records_in b ++ (r ∷ []))
  grown_bytes = sym (history_bytes_snoc (records_in b) r ∙ ap (λ (l : List ℕ). l ++ record_bytes r) h.bytes)

  pub records_in_push : records_in (b ++ record_bytes r) ≡ records_in b ++ (r ∷ [])
  records_in_push = ap records_in grown_bytes ∙ records_in_bytes (records_in b ++ (r ∷ [])) (all_snoc h.ranges f)

  recorded_more : (u : Tally) → u.records ≡ t.records + 1 → u.made + u.cut ≡ u.records → t.cut + cond (is_cut r) 1 0 ≡ u.cut →
      Recorded (b ++ record_bytes r) u
  recorded_more u e s g =
      record {
        ranges = rw records_in_push (all_snoc h.ranges f);
        bytes = ap history_bytes records_in_push ∙ sym grown_bytes;
        records = ap length records_in_push ∙ omega (arith, length-append (records_in b) (r ∷ []), h.records);
        cuts = ap (times is_cut) records_in_push ∙ omega (arith, times_snoc is_cut (records_in b) r, h.cuts);
        sum = s;
      }

  pub recorded_made : is_cut r ≡ false → Recorded (b ++ record_bytes r) (plus_made t)
  recorded_made e = recorded_more (plus_made t) refl (omega (arith, h.sum)) (rw e (omega arith))

  pub recorded_cut : is_cut r ≡ true → Recorded (b ++ record_bytes r) (plus_cut t)
  recorded_cut e = recorded_more (plus_cut t) refl (omega (arith, h.sum)) (rw e (omega arith))

  -- how many bytes and records there are then
  pub grown_length : length b + length (record_bytes r) ≡ length (history_bytes (records_in b ++ (r ∷ [])))
  grown_length = omega (arith, length-append b (record_bytes r), ap length grown_bytes)

  pub grown_records : t.records + 1 ≡ length (records_in b ++ (r ∷ []))
  grown_records = omega (arith, length-append (records_in b) (r ∷ []), h.records)

-- in its area
module _ (h : List ℕ) (n : ℕ) (b : List ℕ) (room : n + length b ≤ length h) where
  front : length (take n h ++ b) ≡ n + length b
  front = omega (arith, length-append (take n h) b, length-take-le n h (omega arith))

  pub take_over : take (n + length b) (over n b h) ≡ take n h ++ b
  take_over = take_at (take n h ++ b) (drop (n + length b) h) (n + length b) front

  pub drop_over : (k : ℕ) → n + length b ≤ k → drop k (over n b h) ≡ drop k h
  drop_over k l =
      let e : k ≡ n + length b + (k - (n + length b)) = omega arith in
      ap (λ (j : ℕ). drop j (over n b h)) e ∙ sym (drop-drop (k - (n + length b)) (n + length b) (over n b h)) ∙
      ap (drop (k - (n + length b))) (drop_at (take n h ++ b) (drop (n + length b) h) (n + length b) front) ∙
      drop-drop (k - (n + length b)) (n + length b) h ∙ ap (λ (j : ℕ). drop j h) (sym e)
