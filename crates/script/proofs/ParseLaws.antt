-- The model's reader at a place, its operands by arity: the record is refused, or the operands are read one after another.
use mathlib.Core.Path.{◌≡◌, refl, ap, ◌∙◌}
use mathlib.Core.Bool.{true, cond}
use mathlib.Core.List.{List}
use Prim.Native.Nat.{ℕ, suc, ◌+◌, ◌-◌, ◌<◌}
use native.Mathlib.Omega.{arith}
use lib.Dec.{eqb}
use lib.ListN.{get_or, drop}
use lib.Seq.{get_or-drop, drop-drop}
use borrow.Author.Tests.{ne_eqb}
use Rattle.model.specs.Limits.{max_depth}
use Rattle.model.specs.Refusal.{Refusal, refusal, is_fine, refusal_at}
use Rattle.model.specs.Script.{script_kinds, is_script_kind}
use Rattle.model.specs.Script.{Expr, Parsed, refused, parsed, then_parse, operands, parse_from, expr_refusal, body_size, arity}
use Rattle.model.proofs.ListLaws.{drop_first}
use Rattle.model.proofs.BoolLaws.{by_cases}
use Rattle.script_records.specs.Walk.{inner, first_at, second_at, third_at, expr_of, expr_at}
use Rattle.model.proofs.KindLaws.{by_kind}
use Rattle.script.specs.Reading.{parse_at}
use Rattle.script.specs.Accepted.{RecordFits}
use Rattle.script.proofs.HeadLaws.{fine_fits}

-- OPERANDS BY ARITY: what is read after the record of a kind at a place, and after its first, its second and its third operand.
-- For an operand that the record does not have stands what is at its place
abbrev pub reader : (left place records bound : ℕ) → List ℕ → Parsed
reader k = parse_from (suc (suc k)) (max_depth + 1 - k)

abbrev pub after_third : (kind : ℕ) → List ℕ → (at : ℕ) → (first second third : Expr) → (place records : ℕ) → List ℕ → Parsed
after_third q b i x y z j m c = parsed (expr_of q b i x y z) j m c

abbrev pub after_second : (left kind : ℕ) → List ℕ → (at bound : ℕ) → (first second : Expr) → (place records : ℕ) → List ℕ → Parsed
after_second k q b i v x y j m c =
    cond (eqb (arity q) 2) (parsed (expr_of q b i x y (expr_at k b (third_at b i))) j m c)
    (then_parse (reader k j m v c) (after_third q b i x y))

abbrev pub after_first : (left kind : ℕ) → List ℕ → (at bound : ℕ) → (first : Expr) → (place records : ℕ) → List ℕ → Parsed
after_first k q b i v x j m c =
    cond (eqb (arity q) 1) (parsed (expr_of q b i x (expr_at k b (second_at b i)) (expr_at k b (third_at b i))) j m c)
    (then_parse (reader k j m (inner q v) c) (after_second k q b i v x))

abbrev pub after_record : (left kind : ℕ) → List ℕ → (at bound place records : ℕ) → List ℕ → Parsed
after_record k q b i v j m c =
    cond (eqb (arity q) 0)
    (parsed (expr_of q b i (expr_at k b (first_at b i)) (expr_at k b (second_at b i)) (expr_at k b (third_at b i))) j m c)
    (then_parse (reader k j m v c) (after_first k q b i v))

module _ (k q : ℕ) (b : List ℕ) (i v j m : ℕ) (c : List ℕ) where
  pub after_none : arity q ≡ 0 → after_record k q b i v j m c ≡
      parsed (expr_of q b i (expr_at k b (first_at b i)) (expr_at k b (second_at b i)) (expr_at k b (third_at b i))) j m c
  after_none e = rw e

  pub after_record_lem : 0 < arity q → after_record k q b i v j m c ≡ then_parse (reader k j m v c) (after_first k q b i v)
  after_record_lem h = let g : arity q ≡ 0 → ⊥ = λ z. omega arith in rw (ne_eqb (arity q) 0 g)

  module _ (x : Expr) where
    pub after_one : arity q ≡ 1 →
        after_first k q b i v x j m c ≡ parsed (expr_of q b i x (expr_at k b (second_at b i)) (expr_at k b (third_at b i))) j m c
    after_one e = rw e

    pub after_first_lem : 1 < arity q → after_first k q b i v x j m c ≡ then_parse (reader k j m (inner q v) c) (after_second k q b i v x)
    after_first_lem h = let g : arity q ≡ 1 → ⊥ = λ z. omega arith in rw (ne_eqb (arity q) 1 g)

    module _ (y : Expr) where
      pub after_two : arity q ≡ 2 → after_second k q b i v x y j m c ≡ parsed (expr_of q b i x y (expr_at k b (third_at b i))) j m c
      after_two e = rw e

      pub after_second_lem : 2 < arity q → after_second k q b i v x y j m c ≡ then_parse (reader k j m v c) (after_third q b i x y)
      after_second_lem h = let g : arity q ≡ 2 → ⊥ = λ z. omega arith in rw (ne_eqb (arity q) 2 g)

operands_by : (k : ℕ) (b : List ℕ) (i j m v : ℕ) (c : List ℕ) → is_script_kind (get_or b i 0) ≡ true →
    operands (reader k) i j m v (drop i b) c ≡ after_record k (get_or b i 0) b i v j m c
unfolding script_kinds inner expr_of
operands_by k b i j m v c kind =
    by_kind (get_or b i 0) kind
    (λ e. rw (drop_first b i, e))
    (λ e. rw (drop_first b i, get_or-drop i b 1 0, e))
    (λ e. rw (drop_first b i, get_or-drop i b 1 0, e))
    (λ e. rw (drop_first b i, get_or-drop i b 1 0, get_or-drop i b 2 0, get_or-drop i b 3 0, e))
    (λ e. rw (drop_first b i, e))
    (λ e. rw (drop_first b i, e))
    (λ e. rw (drop_first b i, e))
    (λ e. rw (drop_first b i, e))
    (λ e. rw (drop_first b i, get_or-drop i b 1 0, e))
    (λ e. rw (drop_first b i, get_or-drop i b 1 0, e))
    (λ e. rw (drop_first b i, e))
    (λ e. rw (drop_first b i, e))
    (λ e. rw (drop_first b i, get_or-drop i b 1 0, get_or-drop i b 2 0, e))

-- THE RECORD at a place: refused, or its operands are read
pub parse_refused : (b : List ℕ) (i left n v r : ℕ) → (r ≡ 0 → ⊥) → expr_refusal i n (max_depth + 1 - left) v (drop i b) ≡ refusal_at r i →
    parse_at b i left n v ≡ refused (refusal r i)
unfolding parse_from
parse_refused b i left n v r h e = rw (e, ne_eqb r 0 h) (rw (ne_eqb r 0 h))

parse_fine : (k d i n v : ℕ) (s : List ℕ) → is_fine (expr_refusal i n d v s) ≡ true → parse_from (suc k) d i n v s ≡
    operands (parse_from k (d + 1)) i (i + (1 + body_size (get_or s 0 0))) (n + 1) v s (drop (1 + body_size (get_or s 0 0)) s)
unfolding parse_from
parse_fine k d i n v s e = rw e

-- one level deeper is one level less to go
deeper : (k i j n v : ℕ) (s c : List ℕ) → k < max_depth →
    operands (parse_from (suc (suc k)) (max_depth + 1 - suc k + 1)) i j n v s c ≡ operands (reader k) i j n v s c
deeper k i j n v s c h =
    let e : max_depth + 1 - suc k + 1 ≡ max_depth + 1 - k =
    omega arith in ap (λ (d : ℕ). operands (parse_from (suc (suc k)) d) i j n v s c) e

pub parse_operands : (b : List ℕ) (i k n v : ℕ) → k < max_depth → is_fine (expr_refusal i n (max_depth + 1 - suc k) v (drop i b)) ≡ true →
    parse_at b i (suc k) n v ≡ after_record k (get_or b i 0) b i v (first_at b i) (n + 1) (drop (first_at b i) b)
parse_operands b i k n v shallow e =
    let f : RecordFits b i (suc k) v = fine_fits b i (suc k) n v i e in
    parse_fine (suc (suc k)) (max_depth + 1 - suc k) i n v (drop i b) e ∙
    deeper k i (i + (1 + body_size (get_or (drop i b) 0 0))) (n + 1) v (drop i b) (drop (1 + body_size (get_or (drop i b) 0 0)) (drop i b))
    shallow ∙
    ap (λ (q : ℕ). operands (reader k) i (i + (1 + body_size q)) (n + 1) v (drop i b) (drop (1 + body_size q) (drop i b)))
    (drop_first b i) ∙
    ap (operands (reader k) i (first_at b i) (n + 1) v (drop i b)) (drop-drop (1 + body_size (get_or b i 0)) i b) ∙
    operands_by k b i (first_at b i) (n + 1) v (drop (first_at b i) b) f.kind

-- ACCEPTED: the record passed its tests, and what was read first was accepted
refused_parsed : {f : Refusal} {e : Expr} {j m : ℕ} {c : List ℕ} → refused f ≡ parsed e j m c → ⊥
refused_parsed h = let z : ◌≡◌ {A = ℕ} 0 1 = cc in omega arith

pub parsed_fine : (k d i n v : ℕ) (s : List ℕ) {e : Expr} {j m : ℕ} {c : List ℕ} → parse_from (suc k) d i n v s ≡ parsed e j m c →
    is_fine (expr_refusal i n d v s) ≡ true
unfolding parse_from
parsed_fine k d i n v s h = by_cases (is_fine (expr_refusal i n d v s)) (λ t. t) (λ t. absurd (refused_parsed (rw t at h)))

pub record Then (x : Parsed) (next : Expr → ℕ → ℕ → List ℕ → Parsed) (e : Expr) (j m : ℕ) (c : List ℕ) : Type 0 where
  pub expr : Expr
  pub place : ℕ
  pub records : ℕ
  pub bytes : List ℕ
  pub is : x ≡ parsed expr place records bytes
  pub rest : next expr place records bytes ≡ parsed e j m c

pub then_parsed : (x : Parsed) (next : Expr → ℕ → ℕ → List ℕ → Parsed) {e : Expr} {j m : ℕ} {c : List ℕ} →
    then_parse x next ≡ parsed e j m c → Then x next e j m c
then_parsed (refused f) next h = absurd (refused_parsed h)
then_parsed (parsed e j m c) next h = record { expr = e; place = j; records = m; bytes = c; is = refl; rest = h }
