-- The first 4,096 bytes of a file are read as the whole file is, and a longer file is refused: ReadByFront, LongerRefused.
use mathlib.Core.Path.{◌≡◌, refl, sym, ap, ◌∙◌, subst}
use mathlib.Core.Bool.{true, cond}
use mathlib.Core.Logic.{inl, inr}
use mathlib.Core.List.{List, [], ◌∷◌}
use mathlib.Core.Option.{Option, none, some, some-ne-none}
use Prim.Native.Nat.compare
use Prim.Native.Nat.{ℕ, zero, suc, ◌+◌, ◌*◌, ◌-◌, ◌≤◌, ◌<◌}
use native.Mathlib.Omega.{arith}
use lib.Dec.{leb, eqb}
use lib.ListN.{length, get_or, take, drop, set, length-append, length-take, length-drop}
use lib.Seq.{get_or-take, get_or-set_same, take_all}
use borrow.Author.Tests.{leb-true, leb-false, le-leb, eqb-true, ne_eqb}
use Rattle.model.specs.Limits.{max_rows, documents, max_records, max_depth}
use Rattle.model.specs.Refusal.{Refusal, is_fine, tail_at}
use Rattle.model.specs.Table.{Table, count, empty}
use Rattle.model.specs.Stored.{stored_size, record_size, Read, refused, got, number_at, row_in, last_marked, record_refusal, recorded}
use Rattle.model.specs.Stored.{read_from, read_plan}
use Rattle.model.specs.Script.{Expr, Parsed, refused, parsed, then_parse, one, two, three, operands, body_size, expr_refusal, parse_from}
use Rattle.model.specs.Script.{whole, both, let_in, for_in, if_in, delete, insert, nil_kind, document_kind, variable_kind, step_kind}
use Rattle.model.specs.Script.{join_kind, let_kind, for_kind, if_kind, new_element_kind, new_leaf_kind, delete_kind, insert_kind}
use Rattle.pair_files.specs.Promise.{file_bytes, ReadByFront, LongerRefused}
use Rattle.model.proofs.BoolLaws.{bool_iff, by_cases, cond_cases, cond_related}
use Rattle.model.proofs.KindLaws.{size_most, stored_most}
use Rattle.model.proofs.ListLaws.{drop_take}
use Rattle.model.proofs.TableLaws.{Well, well_empty}
use Rattle.model.proofs.BytesLaws.{last_marked_at}
use Rattle.model.proofs.StoredLaws.{read_from_fuel, fine_size, record_cases, recorded_row, recorded_mark, well_recorded}
use Rattle.model.proofs.ScriptLaws.{passed}

-- THE FIRST m BYTES: whether so many are there, and what is left behind some of them
leb_take : (j m : ℕ) (b : List ℕ) → j ≤ m → leb j (length (take m b)) ≡ leb j (length b)
leb_take j m b h =
    bool_iff _ _ (λ e. le-leb j (length b) (omega (arith, leb-true j (length (take m b)) e, length-take m b)))
    (λ e. le-leb j (length (take m b)) (omega (arith, leb-true j (length b) e, length-take m b)))

eqb_take : (m : ℕ) (b : List ℕ) → 0 < m → eqb (length (take m b)) 0 ≡ eqb (length b) 0
eqb_take zero b h = absurd (omega arith)
eqb_take (suc m) [] h = refl
eqb_take (suc m) (a ∷ b) h = simp compare.suc-zero

-- A PLAN: a step of the reader looks at the record at the front, of four bytes at most
abbrev long : List ℕ → ℕ
long b = stored_size (get_or b 0 0)

read_from_step : (n m : ℕ) (x : Table) (i : ℕ) (b : List ℕ) → record_size ≤ m →
    read_from (suc n) x i (take m b) ≡
    cond (eqb (length b) 0) (got x)
    (cond (is_fine (record_refusal x i b)) (read_from n (recorded x b) (i + long b) (take (m - long b) (drop (long b) b)))
    (refused (record_refusal x i b)))
unfolding read_from
read_from_step n m x i b h =
    let h₀ : 0 < m = omega arith in
    let h₁ : 1 < m = omega arith in
    let h₂ : 2 < m = omega arith in
    let h₃ : 3 < m = omega arith in
    let l : long b ≤ m = omega (arith, stored_most (get_or b 0 0)) in
    simp (eqb_take, leb_take, get_or-take, drop_take)

-- rows and documents left; a fine record has four bytes and leaves one of either less
abbrev due : Table → ℕ
due x = (max_rows - count x) + (documents - last_marked 0 x.marks)

last_marked_set : (ms : List (Option ℕ)) (d i : ℕ) → d < length ms → d < last_marked 0 (set ms d (some i))
last_marked_set ms d i h =
    by_cases (leb (last_marked 0 (set ms d (some i))) d)
    (λ e.
    absurd (some-ne-none i
    (sym (get_or-set_same ms d (some i) none h) ∙ last_marked_at 0 (set ms d (some i)) d (leb-true _ _ e) d (omega arith))))
    (leb-false (last_marked 0 (set ms d (some i))) d)

fine_due : (x : Table) (i : ℕ) (b : List ℕ) → Well x → is_fine (record_refusal x i b) ≡ true →
    (due (recorded x b) < due x) × (record_size ≤ length b)
fine_due x i b w h = elim (record_cases x i b h) [
  | inl r ↦ (rw (recorded_row x b r) (omega (arith, length-append x.rows (row_in b ∷ []), r.room)), r.long)
  | inr r ↦ (
    rw (recorded_mark x b r)
        (omega
        (arith, last_marked_set x.marks (get_or b 1 0) (number_at b 2) (omega (arith, r.document, w.eight)), r.rises, r.document)),
    r.long,
  )
]

read_from_take : (n m : ℕ) (x : Table) (i : ℕ) (b : List ℕ) → Well x → record_size * due x + record_size ≤ m →
    read_from n x i (take m b) ≡ read_from n x i b
unfolding read_from
read_from_take zero m x i b w h = refl
read_from_take (suc n) m x i b w h =
    read_from_step n m x i b (omega arith) ∙
    ap (cond (eqb (length b) 0) (got x))
    (cond_related ◌≡◌ (is_fine (record_refusal x i b))
    (λ e.
    read_from_take n (m - long b) (recorded x b) (i + long b) (drop (long b) b) (well_recorded x i b w e)
    (omega (arith, fine_due x i b w e, stored_most (get_or b 0 0))))
    (λ e. refl))

read_from_long : (n : ℕ) (x : Table) (i : ℕ) (b : List ℕ) → Well x → length b ≤ n → record_size * due x < length b →
    (f : Refusal) × (read_from n x i b ≡ refused f)
unfolding read_from
read_from_long zero x i b w l h = absurd (omega arith)
read_from_long (suc n) x i b w l h =
    rw (ne_eqb (length b) 0 (λ e. omega arith))
    (cond_cases (λ (r : Read). (f : Refusal) × (r ≡ refused f)) (is_fine (record_refusal x i b))
    (λ e.
    let k = fine_due x i b w e in
    let z = fine_size x i b e in
    let d = length-drop (long b) b in
    read_from_long n (recorded x b) (i + long b) (drop (long b) b) (well_recorded x i b w e) (omega arith) (omega arith))
    (λ e. (record_refusal x i b, refl)))

read_plan_take : (b : List ℕ) → read_plan (take file_bytes b) ≡ read_plan b
unfolding last_marked
read_plan_take b =
    read_from_fuel _ (length b + 1) empty 0 (take file_bytes b) (omega arith) (omega (arith, length-take file_bytes b)) ∙
    read_from_take (length b + 1) file_bytes empty 0 b well_empty (omega arith)

read_plan_long : (b : List ℕ) → file_bytes < length b → (f : Refusal) × (read_plan b ≡ refused f)
unfolding last_marked
read_plan_long b h = read_from_long (length b + 1) empty 0 b well_empty (omega arith) (omega arith)

-- A SCRIPT: a step of the reader looks at the record at the front, of four bytes at most
abbrev size : List ℕ → ℕ
size b = 1 + body_size (get_or b 0 0)

size_few : (b : List ℕ) → size b ≤ 4
size_few b = omega (arith, size_most (get_or b 0 0))

parse_from_step : (k d i n v m : ℕ) (b : List ℕ) → 4 ≤ m →
    parse_from (suc k) d i n v (take m b) ≡
    cond (is_fine (expr_refusal i n d v b))
    (operands (parse_from k (d + 1)) i (i + size b) (n + 1) v b (take (m - size b) (drop (size b) b)))
    (refused (expr_refusal i n d v b))
unfolding parse_from
parse_from_step k d i n v m b h =
    let h₀ : 0 < m = omega arith in
    let h₁ : 1 < m = omega arith in
    let h₂ : 2 < m = omega arith in
    let h₃ : 3 < m = omega arith in
    let l : size b ≤ m = omega (arith, size_few b) in
    simp (leb_take, get_or-take, drop_take)

-- of a script of l bytes, n records are read and b is left: at most four bytes were taken by each, and the first m of b are enough
record Front (l n m : ℕ) (b : List ℕ) : Type 0 where
  few : n ≤ max_records
  taken : l ≤ 4 * n + length b
  enough : 4 * max_records + 4 ≤ 4 * n + m

-- what is read of some first bytes, and what of all: the same refusal, or the same expression with such first bytes left
data Alike (l : ℕ) : Parsed → Parsed → Type 0 where
  both_ill : {x : Refusal} → Alike l (refused x) (refused x)
  both_read : {e : Expr} {i n m : ℕ} {b : List ℕ} → Front l n m b → Alike l (parsed e i n (take m b)) (parsed e i n b)

abbrev Reader : Type 0
Reader = ℕ → ℕ → ℕ → List ℕ → Parsed

abbrev ReadsAlike : ℕ → Reader → Type 0
ReadsAlike l f = (i n v m : ℕ) (b : List ℕ) → Front l n m b → Alike l (f i n v (take m b)) (f i n v b)

module _ (l : ℕ) (f : Reader) (r : ReadsAlike l f) where
  then_alike : {p q : Parsed} → Alike l p q → (next : Expr → ℕ → ℕ → List ℕ → Parsed) →
      ((e : Expr) (i n m : ℕ) (b : List ℕ) → Front l n m b → Alike l (next e i n (take m b)) (next e i n b)) →
      Alike l (then_parse p next) (then_parse q next)
  then_alike both_ill next h = both_ill
  then_alike (both_read g) next h = h _ _ _ _ _ g

  one_alike : (i n v m : ℕ) (b : List ℕ) (make : Expr → Expr) → Front l n m b →
      Alike l (one f i n v (take m b) make) (one f i n v b make)
  one_alike i n v m b make h = then_alike (r i n v m b h) _ (λ e j k o c g. both_read g)

  two_alike : (i n v w m : ℕ) (b : List ℕ) (make : Expr → Expr → Expr) → Front l n m b →
      Alike l (two f i n v w (take m b) make) (two f i n v w b make)
  two_alike i n v w m b make h = then_alike (r i n v m b h) _ (λ e j k o c g. one_alike j k w o c (make e) g)

  three_alike : (i n v m : ℕ) (b : List ℕ) (make : Expr → Expr → Expr → Expr) → Front l n m b →
      Alike l (three f i n v (take m b) make) (three f i n v b make)
  three_alike i n v m b make h = then_alike (r i n v m b h) _ (λ e j k o c g. two_alike j k v v o c (make e) g)

  operands_alike : (z i n v : ℕ) (a : List ℕ) (m : ℕ) (b : List ℕ) → Front l n m b →
      Alike l (operands f z i n v a (take m b)) (operands f z i n v a b)
  operands_alike z i n v a m b h =
      kind nil_kind (both_read h)
      (kind document_kind (both_read h)
      (kind variable_kind (both_read h)
      (kind step_kind (one_alike i n v m b _ h)
      (kind join_kind (two_alike i n v v m b (both z) h)
      (kind let_kind (two_alike i n v (v + 1) m b (let_in z) h)
      (kind for_kind (two_alike i n v (v + 1) m b (for_in z) h)
      (kind if_kind (three_alike i n v m b (if_in z) h)
      (kind new_element_kind (both_read h)
      (kind new_leaf_kind (both_read h)
      (kind delete_kind (one_alike i n v m b (delete z) h)
      (kind insert_kind (two_alike i n v v m b (insert z) h)
      (one_alike i n v m b _ h))))))))))))
    where
      kind : (k : ℕ) {p p' q q' : Parsed} → Alike l p p' → Alike l q q' →
          Alike l (cond (eqb (get_or a 0 0) k) p q) (cond (eqb (get_or a 0 0) k) p' q')
      kind k s t = cond_related (Alike l) (eqb (get_or a 0 0) k) (λ e. s) (λ e. t)

parse_from_alike : (l k d : ℕ) → ReadsAlike l (parse_from k d)
unfolding parse_from
parse_from_alike l zero d i n v m b h = both_ill
parse_from_alike l (suc k) d i n v m b h =
    subst (λ (p : Parsed). Alike l p (parse_from (suc k) d i n v b)) (sym (parse_from_step k d i n v m b (omega arith)))
    (cond_related (Alike l) (is_fine (expr_refusal i n d v b))
    (λ e.
    operands_alike l (parse_from k (d + 1)) (parse_from_alike l k (d + 1)) i _ (n + 1) v b (m - size b) (drop (size b) b)
    (front (passed i n d v b e).few))
    (λ e. both_ill))
  where
    front : n < max_records → Front l (n + 1) (m - size b) (drop (size b) b)
    front f =
        let s = size_few b in
        let t = length-drop (size b) b in
        record { few = omega arith; taken = omega arith; enough = omega arith }

-- all of it: nothing is left of either, or something of both
whole_alike : (l : ℕ) (p q : Parsed) → Alike l p q → whole p ≡ whole q
whole_alike l p q both_ill = refl
whole_alike l p q (both_read {e} {i} {n} {m} {b} f) =
    rw (eqb_take m b (omega arith))
    (cond_related ◌≡◌ (eqb (length b) 0) (λ z. ap (parsed e i n) (take_all m b (omega (arith, eqb-true (length b) 0 z)))) (λ z. refl))

whole_long : (l : ℕ) (p q : Parsed) → 4 * max_records < l → Alike l p q → (f : Refusal) × (whole q ≡ refused f)
whole_long l p q h (both_ill {x}) = (x, refl)
whole_long l p q h (both_read {e} {i} {n} {m} {b} f) =
    (tail_at i, rw (ne_eqb (length b) 0 (λ z. omega arith)))

read_script_alike : (b : List ℕ) →
    Alike (length b) (parse_from (max_depth + 2) 1 0 0 0 (take file_bytes b)) (parse_from (max_depth + 2) 1 0 0 0 b)
read_script_alike b =
    parse_from_alike (length b) (max_depth + 2) 1 0 0 0 file_bytes b
    (record { few = omega arith; taken = omega arith; enough = omega arith })

-- THE PROMISES
pub read_by_front : ReadByFront
read_by_front = (read_plan_take, λ b. whole_alike (length b) _ _ (read_script_alike b))

pub longer_refused : LongerRefused
longer_refused = (read_plan_long, λ b h. whole_long (length b) _ _ (omega arith) (read_script_alike b))
