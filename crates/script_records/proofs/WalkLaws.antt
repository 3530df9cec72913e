-- Where expressions end: a step over one record, what is cut off, and the walk past an expression.
use mathlib.Core.Path.{◌≡◌, refl, ap, sym, ◌∙◌}
use mathlib.Core.Bool.{true, false}
use mathlib.Core.List.{List, [], ◌∷◌}
use Prim.Native.Nat.{ℕ, zero, suc, ◌+◌, ◌-◌, ◌≤◌, ◌<◌}
use native.Mathlib.Omega.{arith}
use lib.Dec.{eqb}
use lib.ListN.{length, length-drop, get_or, drop, drop_of_length-le}
use lib.Seq.{drop-cons, drop-drop}
use borrow.Author.Tests.{ne_eqb, eqb-true, eqb-false}
use Rattle.model.specs.Script.{body_size, arity}
use Rattle.model.proofs.BoolLaws.{by_cases}
use Rattle.script_records.specs.Walk.{span, past, end_at, first_at}

-- nothing is pending
span_none : (b : List ℕ) → span 0 0 b ≡ 0
unfolding span
span_none [] = refl
span_none (x ∷ b) = refl

-- more is pending than there are bytes
span_short : (b : List ℕ) (p s : ℕ) → length b < p + s → span p s b ≡ length b
unfolding span
span_short [] p s h = refl
span_short (x ∷ b) p s h =
    by_cases (eqb s 0)
    (λ e. front e (eqb-true s 0 e) (span_short b (p - 1 + arity x) (body_size x)))
    (λ e. within e (eqb-false s 0 e) (span_short b p (s - 1)))
  where
    front : eqb s 0 ≡ true → s ≡ 0 →
        (length b < p - 1 + arity x + body_size x → span (p - 1 + arity x) (body_size x) b ≡ length b) → span p s (x ∷ b) ≡ length (x ∷ b)
    front e z f = let g : p ≡ 0 → ⊥ = λ q. omega arith in rw (e, ne_eqb p 0 g, f (omega arith)) (omega arith)

    within : eqb s 0 ≡ false → (s ≡ 0 → ⊥) → (length b < p + (s - 1) → span p (s - 1) b ≡ length b) → span p s (x ∷ b) ≡ length (x ∷ b)
    within e g f = rw (e, f (omega (arith, g))) (omega arith)

-- over the rest of a body
span_body : (b : List ℕ) (p s : ℕ) → s ≤ length b → span p s b ≡ s + span p 0 (drop s b)
unfolding span
span_body b p zero h = omega arith
span_body [] p (suc s) h = absurd (omega arith)
span_body (x ∷ b) p (suc s) h =
    let e : suc s - 1 ≡ s = omega arith in
    let f : suc s ≡ 0 → ⊥ = λ q. omega arith in
    rw (ne_eqb (suc s) 0 f, e, span_body b p s (omega arith)) (omega arith)

-- over a record
module _ (b : List ℕ) (p at : ℕ) (pending : 0 < p) (here : at < length b) where
  span_record : span p 0 (drop at b) ≡ 1 + span (p - 1 + arity (get_or b at 0)) (body_size (get_or b at 0)) (drop (suc at) b)
  unfolding span
  span_record = let f : p ≡ 0 → ⊥ = λ q. omega arith in rw (drop-cons b at 0 here, ne_eqb p 0 f)

  pub past_record : at + body_size (get_or b at 0) < length b → past p b at ≡ past (p - 1 + arity (get_or b at 0)) b (first_at b at)
  past_record h =
      let l : body_size (get_or b at 0) ≤ length (drop (suc at) b) = omega (arith, length-drop (suc at) b) in
      let i : suc at + body_size (get_or b at 0) ≡ first_at b at = omega arith in
      omega (
        arith,
        span_record,
        span_body (drop (suc at) b) (p - 1 + arity (get_or b at 0)) (body_size (get_or b at 0)) l,
        ap (span (p - 1 + arity (get_or b at 0)) 0) (drop-drop (body_size (get_or b at 0)) (suc at) b ∙ ap (λ (j : ℕ). drop j b) i),
      )

  past_short : length b < at + p + (body_size (get_or b at 0) + arity (get_or b at 0)) → past p b at ≡ length b
  past_short h =
      let l : length (drop (suc at) b) < p - 1 + arity (get_or b at 0) + body_size (get_or b at 0) =
      omega (arith, length-drop (suc at) b) in
      omega (
        arith,
        span_record,
        span_short (drop (suc at) b) (p - 1 + arity (get_or b at 0)) (body_size (get_or b at 0)) l,
        length-drop (suc at) b,
      )

pub past_none : (b : List ℕ) (at : ℕ) → past 0 b at ≡ at
past_none b at = omega (arith, span_none (drop at b))

pub past_empty : (b : List ℕ) (at : ℕ) → length b ≤ at → past 1 b at ≡ at
unfolding span
past_empty b at h = rw (drop_of_length-le b h) (omega arith)

-- THE WALK from one expression on: the place reached and how many are pending, with bytes left for each
pub record Walked (b : List ℕ) (at next pending : ℕ) : Type 0 where
  pub within : next + pending ≤ length b
  pub ends : past pending b next ≡ end_at b at

module _ {b : List ℕ} {at i p : ℕ} (w : Walked b at i p) where
  pub walk_ends : p ≡ 0 → i ≡ end_at b at
  walk_ends e = sym (past_none b i) ∙ ap (λ (q : ℕ). past q b i) (sym e) ∙ w.ends

  module _ {s a : ℕ} (pending : 0 < p) (body : s ≡ body_size (get_or b i 0)) (operands : a ≡ arity (get_or b i 0)) where
    pub walk_short : length b - i - p < s + a → length b ≡ end_at b at
    walk_short h = sym (past_short b p i pending (omega (arith, w.within)) (omega (arith, w.within, body, operands))) ∙ w.ends

    pub walk_on : s + a ≤ length b - i - p → Walked b at (i + (1 + s)) (p - 1 + a)
    walk_on h =
        record {
          within = omega (arith, w.within);
          ends =
              ap (λ (q : ℕ). past (p - 1 + a) b (i + (1 + q))) body ∙ ap (λ (q : ℕ). past (p - 1 + q) b (first_at b i)) operands ∙
              sym (past_record b p i pending (omega (arith, w.within)) (omega (arith, w.within, body))) ∙ w.ends;
        }
