-- The whole script: one law for each way out of its reader, and what its answer says of the model's reader.
use mathlib.Core.Path.{◌≡◌, refl, ap, sym, ◌∙◌}
use mathlib.Core.Bool.{false}
use mathlib.Core.List.{List, []}
use Prim.Native.Nat.{ℕ, ◌+◌, ◌-◌, ◌≤◌, ◌<◌}
use native.Mathlib.Omega.{arith}
use lib.Dec.{eqb}
use lib.ListN.{length, length-drop, drop_of_length-le}
use borrow.Author.Tests.{eq-eqb, ne_eqb, eqb-true}
use Rattle.model.specs.Limits.{max_depth}
use Rattle.model.specs.Refusal as refusal
use Rattle.model.specs.Refusal.{Refusal}
use Rattle.model.specs.Script.{Expr, Parsed, refused, parsed, whole, read_script, refusal_by}
use Rattle.model.proofs.BoolLaws.{by_cases}
use Rattle.model.proofs.ScriptLaws.{Sound, sound_numbered, parse_sound}
use Rattle.plan_table.specs.Results.{End, refusal_of}
use Rattle.script_records.specs.Walk.{expr_at}
use Rattle.script.specs.Reading.{script_read, parse_at, end_of, ExpressionPost}
use Rattle.script.specs.Accepted.{Accepted}
use Rattle.script.proofs.PlaceLaws.{reads}
use Rattle.script.proofs.ExpressionLaws.{Ended, ended}

-- WAYS OUT of the reader of a script, from what it found of the expression at its start
whole_refused : (x : Parsed) (r : End) → r ≡ end_of x → (r.number ≡ 0 → ⊥) →
    ◌≡◌ {A = Refusal} (record { number = r.number; place = r.place }) (refusal_of (refusal_by (whole x)))
whole_refused (refused f) r h g = ap (λ (q : End). record { number = q.number; place = q.place }) h
whole_refused (parsed e j m c) r h g = absurd (g (ap (λ (q : End). q.number) h))

module _ {b : List ℕ} {r : End} (found : ExpressionPost b 0 max_depth 0 0 r) where
  pub script_refused : (r.number ≡ 0 → ⊥) → ◌≡◌ {A = Refusal} (record { number = r.number; place = r.place }) (script_read b)
  script_refused h = whole_refused (parse_at b 0 max_depth 0 0) r found.read h

  module _ (accepted : r.number ≡ 0) where
    end : Ended (parse_at b 0 max_depth 0 0) r
    end = ended (parse_at b 0 max_depth 0 0) r (parse_sound (max_depth + 2) 1 0 0 0 b) found.read accepted

    rest : length end.bytes ≡ length b - r.place
    rest =
        let e = reads b max_depth (omega arith) 0 0 0 end.expr r.place r.count end.bytes end.is in
        ap length e.rest ∙ length-drop r.place b

    pub script_tail : r.place < length b → ◌≡◌ {A = Refusal} (record { number = 3; place = r.place }) (script_read b)
    script_tail h =
        let g : length end.bytes ≡ 0 → ⊥ = λ q. omega (arith, rest) in
        sym (ap (λ (x : Parsed). refusal_of (refusal_by (whole x))) end.is ∙ rw (ne_eqb (length end.bytes) 0 g))

    pub script_fine : length b ≤ r.place → ◌≡◌ {A = Refusal} (record { number = 0; place = 0 }) (script_read b)
    script_fine h =
        let g : length end.bytes ≡ 0 = omega (arith, rest) in
        sym (ap (λ (x : Parsed). refusal_of (refusal_by (whole x))) end.is ∙ rw (eq-eqb (length end.bytes) 0 g))

-- THE ANSWER: an accepted script is the expression at place 0, whole
record Whole (x : Parsed) : Type 0 where
  expr : Expr
  place : ℕ
  records : ℕ
  bytes : List ℕ
  is : x ≡ parsed expr place records bytes
  empty : length bytes ≡ 0

whole_fine : (x : Parsed) → Sound x → (refusal_by (whole x)).number ≡ 0 → Whole x
whole_fine (refused f) s h = absurd (sound_numbered s f refl h)
whole_fine (parsed e j m c) s h =
    by_cases (eqb (length c) 0)
    (λ q. record { expr = e; place = j; records = m; bytes = c; is = refl; empty = eqb-true (length c) 0 q })
    (λ q. absurd (three q))
  where
    three : eqb (length c) 0 ≡ false → ⊥
    three q = let z : ◌≡◌ {A = ℕ} 3 0 = rw q at h in omega arith

module _ (b : List ℕ) (h : (script_read b).number ≡ 0) where
  found_whole : Whole (parse_at b 0 max_depth 0 0)
  found_whole = whole_fine (parse_at b 0 max_depth 0 0) (parse_sound (max_depth + 2) 1 0 0 0 b) h

  pub script_accepted : Accepted b 0 max_depth 0
  script_accepted =
      record {
        deep = omega arith;
        records = 0;
        expr = found_whole.expr;
        place = found_whole.place;
        after = found_whole.records;
        rest = found_whole.bytes;
        read = found_whole.is;
      }

  pub script_parsed : (n : ℕ) × (read_script b ≡ parsed (expr_at max_depth b 0) (length b) n [])
  script_parsed =
      let w = found_whole in
      let r = reads b max_depth (omega arith) 0 0 0 w.expr w.place w.records w.bytes w.is in
      let l : length w.bytes ≡ length b - w.place = ap length r.rest ∙ length-drop w.place b in
      let p : w.place ≡ length b = omega (arith, r.within, w.empty) in
      let e : w.expr ≡ expr_at max_depth b 0 = r.expr in
      let g : length b ≤ w.place = omega arith in
      let c : w.bytes ≡ [] = r.rest ∙ drop_of_length-le b g in
      let i : parse_at b 0 max_depth 0 0 ≡ parsed (expr_at max_depth b 0) (length b) w.records [] = w.is ∙ cc in
      (w.records, ap whole i)

-- a refused one is refused so
pub read_refused : (b : List ℕ) → ((script_read b).number ≡ 0 → ⊥) →
    read_script b ≡ refused (refusal.refusal (script_read b).number (script_read b).place)
read_refused b h = go (read_script b) h
  where
    go : (x : Parsed) → ((refusal_by x).number ≡ 0 → ⊥) → x ≡ refused (refusal.refusal (refusal_by x).number (refusal_by x).place)
    go (refused f) g = refl
    go (parsed e j m c) g = absurd (g refl)
