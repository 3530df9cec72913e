-- What the model's reader accepts at a place is the expression there, `expr_at`, and ends at `end_at`: by induction over the depth left.
use mathlib.Core.Path.{◌≡◌, refl, ap, sym, ◌∙◌}
use mathlib.Core.List.{List}
use Prim.Native.Nat.{ℕ, zero, suc, ◌+◌, ◌-◌, ◌≤◌, ◌<◌}
use native.Mathlib.Omega.{arith}
use lib.ListN.{length, get_or, drop}
use Rattle.model.specs.Limits.{max_depth}
use Rattle.model.specs.Script.{Expr, parsed, then_parse, body_size, arity}
use Rattle.model.proofs.BoolLaws.{eq_cases, below}
use Rattle.model.proofs.KindLaws.{arity_most}
use Rattle.script_records.specs.Walk.{inner, past, end_at, first_at, second_at, third_at, expr_of, expr_at}
use Rattle.script.specs.Reading.{parse_at}
use Rattle.script.specs.Accepted.{RecordFits}
use Rattle.script_records.proofs.WalkLaws.{past_record, past_none}
use Rattle.script.proofs.HeadLaws.{fine_fits}
use Rattle.script.proofs.ParseLaws.{reader, after_record, after_first, after_second, after_third}
use Rattle.script.proofs.ParseLaws.{after_none, after_record_lem, after_one, after_first_lem, after_two, after_second_lem}
use Rattle.script.proofs.ParseLaws.{parse_operands, parsed_fine, Then, then_parsed}

-- THE EXPRESSION READ at a place, the place past it, and the bytes there
pub record Reads (b : List ℕ) (i left : ℕ) (e : Expr) (j : ℕ) (c : List ℕ) : Type 0 where
  pub expr : e ≡ expr_at left b i
  pub ends : (p : ℕ) → past (suc p) b i ≡ past p b j
  pub rest : c ≡ drop j b
  pub within : j ≤ length b

pub reads_end : {b : List ℕ} {i left : ℕ} {e : Expr} {j : ℕ} {c : List ℕ} → Reads b i left e j c → j ≡ end_at b i
reads_end {b} {j = j} r = sym (r.ends 0 ∙ past_none b j)

-- the same result, read as the same
reads_same : {b : List ℕ} {i left : ℕ} {e e' : Expr} {j j' m m' : ℕ} {c c' : List ℕ} → parsed e' j' m' c' ≡ parsed e j m c →
    Reads b i left e' j' c' → Reads b i left e j c
reads_same {b} {e = e} {e' = e'} {j = j} {j' = j'} {c = c} {c' = c'} h r =
    let eq_e : e ≡ e' = cc in
    let eq_j : j' ≡ j = cc in
    let eq_c : c ≡ c' = cc in
    record {
      expr = eq_e ∙ r.expr;
      ends = λ p. r.ends p ∙ ap (past p b) eq_j;
      rest = eq_c ∙ r.rest ∙ ap (λ (q : ℕ). drop q b) eq_j;
      within = omega (arith, r.within);
    }

-- A RECORD and the operands that it has
module _ (b : List ℕ) (i k : ℕ) (whole : i + body_size (get_or b i 0) < length b) where
  pub pending : (p q : ℕ) → p + arity (get_or b i 0) ≡ q → past (suc p) b i ≡ past q b (first_at b i)
  pending p q e =
      let g : suc p - 1 + arity (get_or b i 0) ≡ q = omega arith in
      past_record b (suc p) i (omega arith) (omega arith) whole ∙ ap (λ (r : ℕ). past r b (first_at b i)) g

  reads_none : arity (get_or b i 0) ≡ 0 → Reads b i (suc k) (expr_at (suc k) b i) (first_at b i) (drop (first_at b i) b)
  reads_none a = record { expr = refl; ends = λ p. pending p p (omega arith); rest = refl; within = omega arith }

  module _ {x : Expr} {j : ℕ} {c : List ℕ} (first : Reads b (first_at b i) k x j c) where
    reads_one : arity (get_or b i 0) ≡ 1 →
        Reads b i (suc k) (expr_of (get_or b i 0) b i x (expr_at k b (second_at b i)) (expr_at k b (third_at b i))) j c
    unfolding expr_at
    reads_one a =
        record {
          expr = ap (λ (w : Expr). expr_of (get_or b i 0) b i w (expr_at k b (second_at b i)) (expr_at k b (third_at b i))) first.expr;
          ends = λ p. pending p (suc p) (omega arith) ∙ first.ends p;
          rest = first.rest;
          within = first.within;
        }

    module _ {y : Expr} {j' : ℕ} {c' : List ℕ} (second : Reads b j k y j' c') where
      second_expr : y ≡ expr_at k b (second_at b i)
      second_expr = second.expr ∙ ap (expr_at k b) (reads_end first)

      reads_two : arity (get_or b i 0) ≡ 2 → Reads b i (suc k) (expr_of (get_or b i 0) b i x y (expr_at k b (third_at b i))) j' c'
      unfolding expr_at
      reads_two a =
          record {
            expr =
                ap (λ (w : Expr). expr_of (get_or b i 0) b i w y (expr_at k b (third_at b i))) first.expr ∙
                ap (λ (w : Expr). expr_of (get_or b i 0) b i (expr_at k b (first_at b i)) w (expr_at k b (third_at b i))) second_expr;
            ends = λ p. pending p (suc (suc p)) (omega arith) ∙ first.ends (suc p) ∙ second.ends p;
            rest = second.rest;
            within = second.within;
          }

      third_at_lem : j' ≡ third_at b i
      third_at_lem = reads_end second ∙ ap (end_at b) (reads_end first)

      reads_three : {z : Expr} {j'' : ℕ} {c'' : List ℕ} → Reads b j' k z j'' c'' → arity (get_or b i 0) ≡ 3 →
          Reads b i (suc k) (expr_of (get_or b i 0) b i x y z) j'' c''
      unfolding expr_at
      reads_three {z} third a =
          record {
            expr =
                ap (λ (w : Expr). expr_of (get_or b i 0) b i w y z) first.expr ∙
                ap (λ (w : Expr). expr_of (get_or b i 0) b i (expr_at k b (first_at b i)) w z) second_expr ∙
                ap (expr_of (get_or b i 0) b i (expr_at k b (first_at b i)) (expr_at k b (second_at b i)))
                (third.expr ∙ ap (expr_at k b) third_at_lem);
            ends = λ p. pending p (suc (suc (suc p))) (omega arith) ∙ first.ends (suc (suc p)) ∙ second.ends (suc p) ∙ third.ends p;
            rest = third.rest;
            within = third.within;
          }

-- THE OPERANDS of an accepted expression were accepted, one after another; `known` is what is known one level below
pub accepted_fits : (b : List ℕ) (i k n v : ℕ) {e : Expr} {j m : ℕ} {c : List ℕ} → parse_at b i k n v ≡ parsed e j m c → RecordFits b i k v
accepted_fits b i k n v h = fine_fits b i k n v i (parsed_fine (suc k) (max_depth + 1 - k) i n v (drop i b) h)

abbrev pub Known : (bytes : List ℕ) → (left : ℕ) → Type 0
Known b k = (i n v : ℕ) (e : Expr) (j m : ℕ) (c : List ℕ) → parse_at b i k n v ≡ parsed e j m c → Reads b i k e j c

module _ (b : List ℕ) (i k n v : ℕ) (shallow : k < max_depth) (known : Known b k) {e : Expr} {j m : ℕ} {c : List ℕ}
    (h : parse_at b i (suc k) n v ≡ parsed e j m c) where
  after : after_record k (get_or b i 0) b i v (first_at b i) (n + 1) (drop (first_at b i) b) ≡ parsed e j m c
  after = sym (parse_operands b i k n v shallow (parsed_fine (suc (suc k)) (max_depth + 1 - suc k) i n v (drop i b) h)) ∙ h

  whole : i + body_size (get_or b i 0) < length b
  whole = (accepted_fits b i (suc k) n v h).whole

  read_none : arity (get_or b i 0) ≡ 0 → Reads b i (suc k) e j c
  unfolding expr_at
  read_none a =
      reads_same (sym (after_none k (get_or b i 0) b i v (first_at b i) (n + 1) (drop (first_at b i) b) a) ∙ after)
      (reads_none b i k whole a)

  pub first_operand : 0 < arity (get_or b i 0) → Then (parse_at b (first_at b i) k (n + 1) v) (after_first k (get_or b i 0) b i v) e j m c
  first_operand a =
      then_parsed (parse_at b (first_at b i) k (n + 1) v) (after_first k (get_or b i 0) b i v)
      (sym (after_record_lem k (get_or b i 0) b i v (first_at b i) (n + 1) (drop (first_at b i) b) a) ∙ after)

  module _ (t : Then (parse_at b (first_at b i) k (n + 1) v) (after_first k (get_or b i 0) b i v) e j m c) where
    pub first_reads : Reads b (first_at b i) k t.expr t.place t.bytes
    first_reads = known (first_at b i) (n + 1) v t.expr t.place t.records t.bytes t.is

    read_one : arity (get_or b i 0) ≡ 1 → Reads b i (suc k) e j c
    read_one a =
        reads_same (sym (after_one k (get_or b i 0) b i v t.place t.records t.bytes t.expr a) ∙ t.rest)
        (reads_one b i k whole first_reads a)

    pub second_operand : 1 < arity (get_or b i 0) →
        Then (parse_at b t.place k t.records (inner (get_or b i 0) v)) (after_second k (get_or b i 0) b i v t.expr) e j m c
    second_operand a =
        then_parsed (parse_at b t.place k t.records (inner (get_or b i 0) v)) (after_second k (get_or b i 0) b i v t.expr)
        (ap (λ (s : List ℕ). then_parse (reader k t.place t.records (inner (get_or b i 0) v) s)
        (after_second k (get_or b i 0) b i v t.expr)) (sym first_reads.rest) ∙
        sym (after_first_lem k (get_or b i 0) b i v t.place t.records t.bytes t.expr a) ∙ t.rest)

    module _ (u : Then (parse_at b t.place k t.records (inner (get_or b i 0) v))
        (after_second k (get_or b i 0) b i v t.expr) e j m c) where
      pub second_reads : Reads b t.place k u.expr u.place u.bytes
      second_reads = known t.place t.records (inner (get_or b i 0) v) u.expr u.place u.records u.bytes u.is

      read_two : arity (get_or b i 0) ≡ 2 → Reads b i (suc k) e j c
      read_two a =
          reads_same (sym (after_two k (get_or b i 0) b i v u.place u.records u.bytes t.expr u.expr a) ∙ u.rest)
          (reads_two b i k whole first_reads second_reads a)

      pub third_operand : 2 < arity (get_or b i 0) →
          Then (parse_at b u.place k u.records v) (after_third (get_or b i 0) b i t.expr u.expr) e j m c
      third_operand a =
          then_parsed (parse_at b u.place k u.records v) (after_third (get_or b i 0) b i t.expr u.expr)
          (ap (λ (s : List ℕ). then_parse (reader k u.place u.records v s) (after_third (get_or b i 0) b i t.expr u.expr))
          (sym second_reads.rest) ∙
          sym (after_second_lem k (get_or b i 0) b i v u.place u.records u.bytes t.expr u.expr a) ∙ u.rest)

      read_three : arity (get_or b i 0) ≡ 3 → Reads b i (suc k) e j c
      read_three a =
          let w = third_operand (omega arith) in
          reads_same w.rest
          (reads_three b i k whole first_reads second_reads
          (known u.place u.records v w.expr w.place w.records w.bytes w.is) a)

    read_more : 1 < arity (get_or b i 0) → Reads b i (suc k) e j c
    read_more a =
        below (arity (get_or b i 0)) 2 (arity_most (get_or b i 0)) (λ q. read_three (second_operand a) q)
        (λ q. read_two (second_operand a) (omega arith))

  read_some : 0 < arity (get_or b i 0) → Reads b i (suc k) e j c
  read_some a =
      eq_cases (arity (get_or b i 0)) 1 (λ q. read_one (first_operand a) q)
      (λ q. read_more (first_operand a) (omega (arith, q)))

  read_all : Reads b i (suc k) e j c
  read_all =
      eq_cases (arity (get_or b i 0)) 0 read_none
      (λ q. read_some (omega (arith, q)))

pub reads : (b : List ℕ) (left : ℕ) → left ≤ max_depth → Known b left
reads b zero s i n v e j m c h = let d : 0 < 0 = (accepted_fits b i 0 n v h).depth in absurd (omega arith)
reads b (suc k) s i n v e j m c h = read_all b i k n v (omega arith) (reads b k (omega arith)) h
