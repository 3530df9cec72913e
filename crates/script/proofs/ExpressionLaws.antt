-- The expression at a place, from what is read of its record and operands: one law for each way out of the reader.
use mathlib.Core.Path.{◌≡◌, refl, ap, sym, ◌∙◌}
use mathlib.Core.Bool.{true}
use mathlib.Core.List.{List}
use Prim.Native.Nat.{ℕ, suc, ◌+◌, ◌-◌, ◌≤◌, ◌<◌}
use native.Mathlib.Omega.{arith}
use lib.ListN.{length, get_or, take, drop}
use Rattle.std.specs.Prelude.{Result, Ok}
use Rattle.model.specs.Limits.{max_records, max_depth}
use Rattle.model.specs.Refusal.{is_fine, refusal_at}
use Rattle.model.specs.Script.{Expr, nil, Parsed, refused, parsed, then_parse, expr_refusal, body_size, arity}
use Rattle.model.proofs.ListLaws.{drop_all, drop_first}
use Rattle.model.proofs.ScriptLaws.{Sound, sound_numbered, parse_sound}
use Rattle.script_records.specs.Walk.{inner, first_at, second_at, third_at, expr_of, expr_at}
use Rattle.script_records.specs.Kinds.{byte_of}
use Rattle.script_records.specs.declared.kinds.Kind.{Kind}
use Rattle.script.specs.Reading.{parse_at, end_by, end_of, expression_read, HeadKind, HeadPost, ExpressionPre, ExpressionPost}
use Rattle.script.specs.Accepted.{RecordFits}
use Rattle.plan_table.specs.Refusals.{number_of}
use Rattle.plan_table.specs.Results.{End, number_by}
use Rattle.plan_table.specs.declared.Reason.{Reason}
use Rattle.plan_table.proofs.ReasonLaws.{some_number}
use Rattle.script.proofs.HeadLaws.{fine_fits, fine_records}
use Rattle.script.proofs.ParseLaws.{reader, after_record, after_first, after_second, after_third, parse_refused, parse_operands}
use Rattle.script.proofs.ParseLaws.{after_none, after_record_lem, after_one, after_first_lem, after_two, after_second_lem}
use Rattle.script.proofs.PlaceLaws.{Reads, reads}

-- THE END of what is read first, and of the whole
pub record Ended (x : Parsed) (r : End) : Type 0 where
  pub expr : Expr
  pub bytes : List ℕ
  pub is : x ≡ parsed expr r.place r.count bytes

pub ended : (x : Parsed) (r : End) → Sound x → r ≡ end_of x → r.number ≡ 0 → Ended x r
ended (refused f) r s h z = absurd (sound_numbered s f refl (sym (ap (λ (q : End). q.number) h) ∙ z))
ended (parsed e j m c) r s h z =
    let p : r.place ≡ j = ap (λ (q : End). q.place) h in
    let n : r.count ≡ m = ap (λ (q : End). q.count) h in
    record { expr = e; bytes = c; is = cc }

then_refused : (x : Parsed) (next : Expr → ℕ → ℕ → List ℕ → Parsed) (r : End) → r ≡ end_of x → (r.number ≡ 0 → ⊥) →
    r ≡ end_of (then_parse x next)
then_refused (refused f) next r h g = h
then_refused (parsed e j m c) next r h g = absurd (g (ap (λ (q : End). q.number) h))

then_last : (x : Parsed) (next : Expr → ℕ → ℕ → List ℕ → Parsed) (make : Expr → Expr) (r : End) → r ≡ end_of x →
    ((e : Expr) (j m : ℕ) (c : List ℕ) → next e j m c ≡ parsed (make e) j m c) → r ≡ end_of (then_parse x next)
then_last (refused f) next make r h g = h
then_last (parsed e j m c) next make r h g = h ∙ sym (ap end_of (g e j m c))

-- AFTER THE RECORD: it is refused, or it passed its tests
head_refusal : (b : List ℕ) (i left n v r : ℕ) → i ≤ length b → HeadPost (take (length b - i) (drop i b)) left n v r →
    expr_refusal i n (max_depth + 1 - left) v (drop i b) ≡ refusal_at r i
head_refusal b i left n v r h p =
    ap (expr_refusal i n (max_depth + 1 - left) v) (sym (drop_all b i)) ∙ p.refusal i

pub record_refused : {b : List ℕ} {i left n v r : ℕ} → ExpressionPre b i left → HeadPost (take (length b - i) (drop i b)) left n v r →
    (r ≡ 0 → ⊥) → ExpressionPost b i left n v (record { number = r; place = i; count = 0 })
record_refused {b} {i} {left} {n} {v} {r} pre p h =
    record { read = sym (ap end_of (parse_refused b i left n v r h (head_refusal b i left n v r pre.within p))) }

pub record Headed (b : List ℕ) (i left n v : ℕ) (k : Kind) : Type 0 where
  pub deep : left ≤ max_depth
  pub fine : is_fine (expr_refusal i n (max_depth + 1 - left) v (drop i b)) ≡ true
  pub is : byte_of k ≡ get_or b i 0

pub headed : {b : List ℕ} {i left n v : ℕ} {k : Kind} {x : Result Kind Reason} → ExpressionPre b i left →
    HeadPost (take (length b - i) (drop i b)) left n v (number_by x) → HeadKind (take (length b - i) (drop i b)) x → x ≡ Ok k →
    Headed b i left n v k
headed {b} {i} {left} {n} {v} {k} pre p q e =
    record {
      deep = pre.depth;
      fine = ap is_fine (head_refusal b i left n v 0 pre.within (rw e at p));
      is = (rw e at q) ∙ ap (λ (c : List ℕ). get_or c 0 0) (drop_all b i) ∙ drop_first b i;
    }

module _ {b : List ℕ} {i left n v : ℕ} {k : Kind} (h : Headed b i left n v k) where
  pub record_fits : RecordFits b i left v
  record_fits = fine_fits b i left n v i h.fine

  pub record_room : n < max_records
  record_room = fine_records b i left n v i h.fine

  operands_at : parse_at b i left n v ≡ after_record (left - 1) (get_or b i 0) b i v (first_at b i) (n + 1) (drop (first_at b i) b)
  operands_at =
      let e : left ≡ suc (left - 1) = omega (arith, record_fits.depth) in
      ap (λ (q : ℕ). parse_at b i q n v) e ∙
      parse_operands b i (left - 1) n v (omega (arith, record_fits.depth, h.deep))
      (ap (λ (q : ℕ). is_fine (expr_refusal i n (max_depth + 1 - q) v (drop i b))) (sym e) ∙ h.fine)

  -- its body and its operands
  pub body_is : body_size (byte_of k) ≡ body_size (get_or b i 0)
  body_is = ap body_size h.is

  pub arity_is : arity (byte_of k) ≡ arity (get_or b i 0)
  arity_is = ap arity h.is

  pub ends_none : {body : ℕ} → body ≡ body_size (byte_of k) → arity (byte_of k) ≡ 0 →
      ExpressionPost b i left n v (end_by 0 (i + (1 + body)) (n + 1))
  ends_none e a =
      let z : arity (get_or b i 0) ≡ 0 = omega (arith, arity_is, a) in
      record {
        read =
            ap (λ (s : ℕ). end_of (parsed (nil i) (i + (1 + s)) (n + 1) b)) (e ∙ body_is) ∙
            sym (ap end_of (operands_at ∙ after_none (left - 1) (get_or b i 0) b i v (first_at b i) (n + 1) (drop (first_at b i) b) z));
      }

-- AFTER THE FIRST OPERAND
pub record FirstRead (b : List ℕ) (i left n v : ℕ) (k : Kind) (r : End) : Type 0 where
  pub head : Headed b i left n v k
  pub some : 0 < arity (get_or b i 0)
  pub read : r ≡ expression_read b (first_at b i) (left - 1) (n + 1) v

pub first_read : {b : List ℕ} {i left n v body : ℕ} {k : Kind} {r : End} → Headed b i left n v k → body ≡ body_size (byte_of k) →
    0 < arity (byte_of k) → ExpressionPost b (i + (1 + body)) (left - 1) (n + 1) v r → FirstRead b i left n v k r
first_read {b} {i} {left} {n} {v} h e a p =
    record {
      head = h;
      some = omega (arith, arity_is h, a);
      read = p.read ∙ ap (λ (s : ℕ). expression_read b (i + (1 + s)) (left - 1) (n + 1) v) (e ∙ body_is h);
    }

module _ {b : List ℕ} {i left n v : ℕ} {k : Kind} {r : End} (f : FirstRead b i left n v k r) where
  after_record_read : parse_at b i left n v ≡
      then_parse (parse_at b (first_at b i) (left - 1) (n + 1) v) (after_first (left - 1) (get_or b i 0) b i v)
  after_record_read =
      operands_at f.head ∙
      after_record_lem (left - 1) (get_or b i 0) b i v (first_at b i) (n + 1) (drop (first_at b i) b) f.some

  pub ends_first : arity (get_or b i 0) ≡ 1 → ExpressionPost b i left n v r
  ends_first a =
      record {
        read =
            then_last (parse_at b (first_at b i) (left - 1) (n + 1) v) (after_first (left - 1) (get_or b i 0) b i v)
            (λ (e : Expr). expr_of (get_or b i 0) b i e (expr_at (left - 1) b (second_at b i)) (expr_at (left - 1) b (third_at b i)))
            r f.read
            (λ e j m c. after_one (left - 1) (get_or b i 0) b i v j m c e a) ∙ sym (ap end_of after_record_read);
      }

pub first_failed : {b : List ℕ} {i left n v p : ℕ} {k : Kind} (y : Reason) →
    FirstRead b i left n v k (end_by (number_of y) p 0) → ExpressionPost b i left n v (end_by (number_of y) p 0)
first_failed {b} {i} {left} {n} {v} {p} y f =
    record {
      read =
          then_refused (parse_at b (first_at b i) (left - 1) (n + 1) v) (after_first (left - 1) (get_or b i 0) b i v)
          (end_by (number_of y) p 0) f.read (some_number y) ∙ sym (ap end_of (after_record_read f));
    }

module _ {b : List ℕ} {i left n v p m : ℕ} {k : Kind} (f : FirstRead b i left n v k (end_by 0 p m)) where
  first_ended : Ended (parse_at b (first_at b i) (left - 1) (n + 1) v) (end_by 0 p m)
  first_ended =
      ended (parse_at b (first_at b i) (left - 1) (n + 1) v) (end_by 0 p m)
      (parse_sound (suc (suc (left - 1))) (max_depth + 1 - (left - 1)) (first_at b i) (n + 1) v (drop (first_at b i) b)) f.read refl

  first_reads : Reads b (first_at b i) (left - 1) first_ended.expr p first_ended.bytes
  first_reads =
      reads b (left - 1) (omega (arith, f.head.deep)) (first_at b i) (n + 1) v first_ended.expr p m
      first_ended.bytes first_ended.is

  pub first_within : p ≤ length b
  first_within = first_reads.within

-- AFTER THE SECOND
pub record SecondRead (b : List ℕ) (i left n v : ℕ) (k : Kind) (p m : ℕ) (s : End) : Type 0 where
  pub first : FirstRead b i left n v k (end_by 0 p m)
  pub more : 1 < arity (get_or b i 0)
  pub read : s ≡ expression_read b p (left - 1) m (inner (get_or b i 0) v)

pub second_read : {b : List ℕ} {i left n v p m w : ℕ} {k : Kind} {s : End} → FirstRead b i left n v k (end_by 0 p m) →
    1 < arity (byte_of k) → w ≡ inner (byte_of k) v → ExpressionPost b p (left - 1) m w s →
    SecondRead b i left n v k p m s
second_read {b} {left = left} {v = v} {p = p} {m = m} f a e post =
    record {
      first = f;
      more = omega (arith, arity_is f.head, a);
      read = post.read ∙ ap (expression_read b p (left - 1) m) (e ∙ ap (λ (k : ℕ). inner k v) f.head.is);
    }

module _ {b : List ℕ} {i left n v p m : ℕ} {k : Kind} {s : End} (f : SecondRead b i left n v k p m s) where
  abbrev x : Expr
  x = (first_ended f.first).expr

  after_first_read : parse_at b i left n v ≡
      then_parse (parse_at b p (left - 1) m (inner (get_or b i 0) v)) (after_second (left - 1) (get_or b i 0) b i v x)
  after_first_read =
      let e = first_ended f.first in
      after_record_read f.first ∙ ap (λ (q : Parsed). then_parse q (after_first (left - 1) (get_or b i 0) b i v)) e.is ∙
      after_first_lem (left - 1) (get_or b i 0) b i v p m e.bytes x f.more ∙
      ap (λ (c : List ℕ). then_parse (reader (left - 1) p m (inner (get_or b i 0) v) c)
      (after_second (left - 1) (get_or b i 0) b i v x))
      (first_reads f.first).rest

  pub ends_second : arity (get_or b i 0) ≡ 2 → ExpressionPost b i left n v s
  ends_second a =
      record {
        read =
            then_last (parse_at b p (left - 1) m (inner (get_or b i 0) v)) (after_second (left - 1) (get_or b i 0) b i v x)
            (λ (e : Expr). expr_of (get_or b i 0) b i x e (expr_at (left - 1) b (third_at b i))) s f.read
            (λ e j m c. after_two (left - 1) (get_or b i 0) b i v j m c x e a) ∙ sym (ap end_of after_first_read);
      }

pub second_failed : {b : List ℕ} {i left n v p m j : ℕ} {k : Kind} (y : Reason) →
    SecondRead b i left n v k p m (end_by (number_of y) j 0) → ExpressionPost b i left n v (end_by (number_of y) j 0)
second_failed {b} {i} {left} {n} {v} {p} {m} {j} y f =
    record {
      read =
          then_refused (parse_at b p (left - 1) m (inner (get_or b i 0) v)) (after_second (left - 1) (get_or b i 0) b i v (x f))
          (end_by (number_of y) j 0) f.read (some_number y) ∙ sym (ap end_of (after_first_read f));
    }

module _ {b : List ℕ} {i left n v p m j l : ℕ} {k : Kind} (f : SecondRead b i left n v k p m (end_by 0 j l)) where
  second_ended : Ended (parse_at b p (left - 1) m (inner (get_or b i 0) v)) (end_by 0 j l)
  second_ended =
      ended (parse_at b p (left - 1) m (inner (get_or b i 0) v)) (end_by 0 j l)
      (parse_sound (suc (suc (left - 1))) (max_depth + 1 - (left - 1)) p m (inner (get_or b i 0) v) (drop p b))
      f.read refl

  second_reads : Reads b p (left - 1) second_ended.expr j second_ended.bytes
  second_reads =
      reads b (left - 1) (omega (arith, f.first.head.deep)) p m (inner (get_or b i 0) v) second_ended.expr
      j l second_ended.bytes second_ended.is

  pub second_within : j ≤ length b
  second_within = second_reads.within

  after_second_read : 2 < arity (get_or b i 0) → parse_at b i left n v ≡
      then_parse (parse_at b j (left - 1) l v) (after_third (get_or b i 0) b i (x f) second_ended.expr)
  after_second_read a =
      after_first_read f ∙ ap (λ (q : Parsed). then_parse q (after_second (left - 1) (get_or b i 0) b i v (x f))) second_ended.is ∙
      after_second_lem (left - 1) (get_or b i 0) b i v j l second_ended.bytes (x f) second_ended.expr a ∙
      ap (λ (c : List ℕ). then_parse (reader (left - 1) j l v c) (after_third (get_or b i 0) b i (x f) second_ended.expr))
      second_reads.rest

  -- AFTER THE THIRD
  pub ends_third : 2 < arity (get_or b i 0) → {t : End} → ExpressionPost b j (left - 1) l v t →
      ExpressionPost b i left n v t
  ends_third a {t} post =
      record {
        read =
            then_last (parse_at b j (left - 1) l v) (after_third (get_or b i 0) b i (x f) second_ended.expr)
            (expr_of (get_or b i 0) b i (x f) second_ended.expr) t post.read (λ e j m c. refl) ∙ sym (ap end_of (after_second_read a));
      }
