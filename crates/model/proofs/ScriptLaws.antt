-- A script that is read has its fields in range and at most 64 records, all counted; one that is not is refused by a number from 1 to 5.
use mathlib.Core.Path.{◌≡◌, refl, ◌∙◌, subst}
use mathlib.Core.Bool.{Bool, true, false, ◌&&◌, not, true≢false, false≢true, cond}
use mathlib.Core.List.{List}
use Prim.Native.Nat.{ℕ, zero, suc, ◌+◌, ◌≤◌, ◌<◌}
use native.Mathlib.Omega.{arith}
use lib.Dec.{ltb, leb, eqb}
use lib.ListN.{length, get_or}
use borrow.Author.Tests.{eqb-true, le-leb, leb-true, ltb-true, not-true}
use Rattle.model.specs.Base.{is_in, are_bytes}
use Rattle.model.specs.Limits.{max_records, max_depth, max_binders}
use Rattle.model.specs.Refusal.{Refusal, is_fine, or_else, unless, kind_at, short_at, field_at, size_at}
use Rattle.model.specs.Table.{is_name, tag_fits}
use Rattle.model.specs.Script.{Expr, nil, document, var, step, both, let_in, for_in, if_in, element, leaf, delete, insert, pick}
use Rattle.model.specs.Script.{nil_kind, document_kind, variable_kind, step_kind, join_kind, let_kind, for_kind, if_kind, new_element_kind}
use Rattle.model.specs.Script.{new_leaf_kind, delete_kind, insert_kind, is_script_kind, body_size, test_fits, body_fits}
use Rattle.model.specs.Script.{is_binder, expr_refusal}
use Rattle.model.specs.Script.{records_of, Parsed, refused, parsed, then_parse, one, two, three, operands, parse_from, whole}
use Rattle.model.specs.Script.{read_script}
use Rattle.model.specs.Run.{loose}
use Rattle.model.specs.Promise.{IsScript}
use Rattle.model.proofs.BoolLaws.{and_left, and_right, cond_cases}
use Rattle.model.proofs.TestLaws.{is_in_some}
use Rattle.model.proofs.BytesLaws.{are_bytes_at, are_bytes_drop}

-- every constructor's tag and every step's test fits
unfoldable pub FieldsFit : Expr → Type 0
FieldsFit (nil z) = Unit
FieldsFit (document z d) = Unit
FieldsFit (var z v) = Unit
FieldsFit (step z s e) = (test_fits s.test s.name ≡ true) × FieldsFit e
FieldsFit (both z e f) = FieldsFit e × FieldsFit f
FieldsFit (let_in z e f) = FieldsFit e × FieldsFit f
FieldsFit (for_in z e f) = FieldsFit e × FieldsFit f
FieldsFit (if_in z e f g) = FieldsFit e × FieldsFit f × FieldsFit g
FieldsFit (element z n) = tag_fits (loose false n) ≡ true
FieldsFit (leaf z v) = tag_fits (loose true v) ≡ true
FieldsFit (delete z e) = FieldsFit e
FieldsFit (insert z e f) = FieldsFit e × FieldsFit f
FieldsFit (pick z r c e) = FieldsFit e

-- WHAT IS READ of b, n records before it, leaves c and m records: all are counted, at most 64; where b are bytes, the fields fit and c are
pub record ExprRead (n : ℕ) (b : List ℕ) (e : Expr) (m : ℕ) (c : List ℕ) : Type 0 where
  pub counted : m ≡ n + records_of e
  pub few : m ≤ max_records
  pub fields : are_bytes b ≡ true → FieldsFit e
  pub rest : are_bytes b ≡ true → are_bytes c ≡ true

-- or it is refused by a number of the reader's
abbrev pub ReadsWell : (records : ℕ) → (bytes : List ℕ) → Parsed → Type 0
ReadsWell n b (refused f) = is_in 1 5 f.number ≡ true
ReadsWell n b (parsed e i m c) = ExprRead n b e m c

abbrev Reader : Type 0
Reader = ℕ → ℕ → ℕ → List ℕ → Parsed

abbrev ReaderWell : Reader → Type 0
ReaderWell f = (i n v : ℕ) (b : List ℕ) → ReadsWell n b (f i n v b)

-- OPERANDS of the record at the front of b, in the bytes c behind m records
module _ (f : Reader) (r : ReaderWell f) (n : ℕ) (b : List ℕ) where
  then_well : (i m v : ℕ) (c : List ℕ) (next : Expr → ℕ → ℕ → List ℕ → Parsed) →
      ((e : Expr) (j k : ℕ) (d : List ℕ) → ExprRead m c e k d → ReadsWell n b (next e j k d)) → ReadsWell n b (then_parse (f i m v c) next)
  then_well i m v c next h = go (f i m v c) (r i m v c)
    where
      go : (p : Parsed) → ReadsWell m c p → ReadsWell n b (then_parse p next)
      go (refused x) k = k
      go (parsed e j k d) l = h e j k d l

  one_well : (i m v : ℕ) (c : List ℕ) (make : Expr → Expr) → (are_bytes b ≡ true → are_bytes c ≡ true) →
      ((e : Expr) → m + records_of e ≡ n + records_of (make e)) → (are_bytes b ≡ true → (e : Expr) → FieldsFit e → FieldsFit (make e)) →
      ReadsWell n b (one f i m v c make)
  one_well i m v c make a s t =
      then_well i m v c _ λ e j k d h.
      record { counted = h.counted ∙ s e; few = h.few; fields = λ y. t y e (h.fields (a y)); rest = λ y. h.rest (a y) }

  two_well : (i m v w : ℕ) (c : List ℕ) (make : Expr → Expr → Expr) → (are_bytes b ≡ true → are_bytes c ≡ true) →
      ((e g : Expr) → m + records_of e + records_of g ≡ n + records_of (make e g)) →
      (are_bytes b ≡ true → (e g : Expr) → FieldsFit e → FieldsFit g → FieldsFit (make e g)) → ReadsWell n b (two f i m v w c make)
  two_well i m v w c make a s t =
      then_well i m v c _ λ e j k d h.
      one_well j k w d (make e) (λ y. h.rest (a y)) (λ g. omega (arith, s e g, h.counted)) (λ y g. t y e g (h.fields (a y)))

  three_well : (i m v : ℕ) (c : List ℕ) (make : Expr → Expr → Expr → Expr) → (are_bytes b ≡ true → are_bytes c ≡ true) →
      ((e g q : Expr) → m + records_of e + records_of g + records_of q ≡ n + records_of (make e g q)) →
      (are_bytes b ≡ true → (e g q : Expr) → FieldsFit e → FieldsFit g → FieldsFit q → FieldsFit (make e g q)) →
      ReadsWell n b (three f i m v c make)
  three_well i m v c make a s t =
      then_well i m v c _ λ e j k d h.
      two_well j k v v d (make e) (λ y. h.rest (a y)) (λ g q. omega (arith, s e g q, h.counted))
      (λ y g q. t y e g q (h.fields (a y)))

  operands_well : (z i v : ℕ) (c : List ℕ) → (are_bytes b ≡ true → are_bytes c ≡ true) → n < max_records → body_fits v b ≡ true →
      ReadsWell n b (operands f z i (n + 1) v b c)
  unfolding FieldsFit records_of
  operands_well z i v c a l g =
      kind nil_kind _ _ (λ q. none (nil z) (omega arith) (λ y. tt))
      (kind document_kind _ _ (λ q. none (document z _) (omega arith) (λ y. tt))
      (kind variable_kind _ _ (λ q. none (var z _) (omega arith) (λ y. tt))
      (kind step_kind _ _ (λ q. one_well i (n + 1) v c _ a (λ e. omega arith) (λ y e t. (test q, t)))
      (kind join_kind _ _ (λ q. two_well i (n + 1) v v c (both z) a (λ e e'. omega arith) (λ y e e' t u. (t, u)))
      (kind let_kind _ _ (λ q. two_well i (n + 1) v (v + 1) c (let_in z) a (λ e e'. omega arith) (λ y e e' t u. (t, u)))
      (kind for_kind _ _ (λ q. two_well i (n + 1) v (v + 1) c (for_in z) a (λ e e'. omega arith) (λ y e e' t u. (t, u)))
      (kind if_kind _ _ (λ q. three_well i (n + 1) v c (if_in z) a (λ e e' e''. omega arith) (λ y e e' e'' t u w. (t, u, w)))
      (kind new_element_kind _ _ (λ q. none (element z _) (omega arith) (λ y. name q))
      (kind new_leaf_kind _ _ (λ q. none (leaf z _) (omega arith) (λ y. le-leb _ _ (are_bytes_at b y 1)))
      (kind delete_kind _ _ (λ q. one_well i (n + 1) v c (delete z) a (λ e. omega arith) (λ y e t. t))
      (kind insert_kind _ _ (λ q. two_well i (n + 1) v v c (insert z) a (λ e e'. omega arith) (λ y e e' t u. (t, u)))
      (one_well i (n + 1) v c _ a (λ e. omega arith) (λ y e t. t)))))))))))))
    where
      kind : (k : ℕ) (p p' : Parsed) → (eqb (get_or b 0 0) k ≡ true → ReadsWell n b p) → ReadsWell n b p' →
          ReadsWell n b (cond (eqb (get_or b 0 0) k) p p')
      kind k p p' h h' = cond_cases (ReadsWell n b) (eqb (get_or b 0 0) k) h (λ q. h')

      none : (e : Expr) → records_of e ≡ 1 → (are_bytes b ≡ true → FieldsFit e) → ReadsWell n b (parsed e i (n + 1) c)
      none e s t = record { counted = omega arith; few = omega arith; fields = t; rest = a }

      test : eqb (get_or b 0 0) step_kind ≡ true → test_fits (get_or b 2 0) (get_or b 3 0) ≡ true
      test e = and_right (ltb (get_or b 1 0) 4) _ (rw (eqb-true (get_or b 0 0) step_kind e) at g)

      name : eqb (get_or b 0 0) new_element_kind ≡ true → is_name (get_or b 1 0) ≡ true
      name e = rw (eqb-true (get_or b 0 0) new_element_kind e) at g

-- THE FIVE TESTS of the record at the front: all hold, or it is refused with one of the five numbers
abbrev first_of : Bool → Bool → Bool → Bool → Bool → (place : ℕ) → Refusal
first_of p q r s t i =
    or_else (unless p (short_at i))
    (or_else (unless q (kind_at i)) (or_else (unless r (size_at i)) (or_else (unless s (short_at i)) (unless t (field_at i)))))

tests_hold : (p q r s t : Bool) (i : ℕ) → is_fine (first_of p q r s t i) ≡ true →
    (p ≡ true) × (q ≡ true) × (r ≡ true) × (s ≡ true) × (t ≡ true)
tests_hold true true true true true i e = (refl, refl, refl, refl, refl)
tests_hold true true true true false i e = absurd (false≢true e)
tests_hold true true true false t i e = absurd (false≢true e)
tests_hold true true false s t i e = absurd (false≢true e)
tests_hold true false r s t i e = absurd (false≢true e)
tests_hold false q r s t i e = absurd (false≢true e)

tests_refuse : (p q r s t : Bool) (i : ℕ) → is_fine (first_of p q r s t i) ≡ false → is_in 1 5 (first_of p q r s t i).number ≡ true
tests_refuse true true true true true i e = absurd (true≢false e)
tests_refuse true true true true false i e = refl
tests_refuse true true true false t i e = refl
tests_refuse true true false s t i e = refl
tests_refuse true false r s t i e = refl
tests_refuse false q r s t i e = refl

pub record Passed (n d v : ℕ) (b : List ℕ) : Type 0 where
  pub some : 0 < length b
  pub kind : is_script_kind (get_or b 0 0) ≡ true
  pub few : n < max_records
  pub deep : d ≤ max_depth
  pub scope : (is_binder (get_or b 0 0) && leb max_binders v) ≡ false
  pub whole : 1 + body_size (get_or b 0 0) ≤ length b
  pub fits : body_fits v b ≡ true

module _ (i n d v : ℕ) (b : List ℕ) where
  abbrev has_room : Bool
  has_room = ltb n max_records && leb d max_depth && not (is_binder (get_or b 0 0) && leb max_binders v)

  pub passed : is_fine (expr_refusal i n d v b) ≡ true → Passed n d v b
  passed e =
      let t = tests_hold (ltb 0 (length b)) (is_script_kind (get_or b 0 0)) has_room (leb (1 + body_size (get_or b 0 0)) (length b))
      (body_fits v b) i e in
      let room = and_left (ltb n max_records && leb d max_depth) _ t.2 in
      record {
        some = ltb-true 0 (length b) t.0;
        kind = t.1;
        few = ltb-true n max_records (and_left _ (leb d max_depth) room);
        deep = leb-true d max_depth (and_right (ltb n max_records) _ room);
        scope = not-true _ (and_right (ltb n max_records && leb d max_depth) _ t.2);
        whole = leb-true (1 + body_size (get_or b 0 0)) (length b) t.3;
        fits = t.4;
      }

  fails : is_fine (expr_refusal i n d v b) ≡ false → is_in 1 5 (expr_refusal i n d v b).number ≡ true
  fails = tests_refuse (ltb 0 (length b)) (is_script_kind (get_or b 0 0)) has_room (leb (1 + body_size (get_or b 0 0)) (length b))
      (body_fits v b) i

-- THE READER
parse_from_well : (k d : ℕ) → ReaderWell (parse_from k d)
unfolding parse_from
parse_from_well zero d i n v b = refl
parse_from_well (suc k) d i n v b =
    cond_cases (ReadsWell n b) (is_fine (expr_refusal i n d v b))
    (λ e.
    operands_well (parse_from k (d + 1)) (parse_from_well k (d + 1)) n b i _ v _ (are_bytes_drop (1 + body_size (get_or b 0 0)) b)
    (passed i n d v b e).few (passed i n d v b e).fits)
    (fails i n d v b)

pub read_script_well : (b : List ℕ) → ReadsWell 0 b (read_script b)
read_script_well b = go (parse_from (max_depth + 2) 1 0 0 0 b) (parse_from_well (max_depth + 2) 1 0 0 0 b)
  where
    go : (p : Parsed) → ReadsWell 0 b p → ReadsWell 0 b (whole p)
    go (refused x) h = h
    go (parsed e i n c) h = cond_cases (ReadsWell 0 b) (eqb (length c) 0) (λ q. h) (λ q. refl)

pub is_script_fields : (e : Expr) → IsScript e → FieldsFit e
is_script_fields e (b, a, (i, (n, (c, q)))) = (subst (ReadsWell 0 b) q (read_script_well b)).fields a

-- A REFUSAL has a number from 1 to 5, so not 0
pub record Sound (x : Parsed) : Type 0 where
  pub ranged : (f : Refusal) → x ≡ refused f → is_in 1 5 f.number ≡ true

pub sound_numbered : {x : Parsed} → Sound x → (f : Refusal) → x ≡ refused f → f.number ≡ 0 → ⊥
sound_numbered s f e = is_in_some 0 5 f.number (s.ranged f e)

well_sound : (n : ℕ) (b : List ℕ) (x : Parsed) → ReadsWell n b x → Sound x
well_sound n b x h = record { ranged = λ f e. subst (ReadsWell n b) e h }

pub parse_sound : (k d i n v : ℕ) (b : List ℕ) → Sound (parse_from k d i n v b)
parse_sound k d i n v b = well_sound n b (parse_from k d i n v b) (parse_from_well k d i n v b)

pub read_script_sound : (b : List ℕ) → Sound (read_script b)
read_script_sound b = well_sound 0 b (read_script b) (read_script_well b)
