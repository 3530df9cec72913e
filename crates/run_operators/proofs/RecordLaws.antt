-- The small parts of an answer: the limit of items, one item written, a variable bound.
use mathlib.Core.Path.{◌≡◌, sym, subst, ◌∙◌}
use mathlib.Core.Bool.{true, false}
use mathlib.Core.Option.{Option, none, some}
use mathlib.Core.List.{List, [], ◌∷◌}
use Prim.Native.Nat.{ℕ, ◌+◌, ◌-◌, ◌≤◌, ◌<◌}
use native.Mathlib.Omega.{arith}
use lib.Dec.{ltb}
use lib.ListN.{length, set, length-set}
use borrow.Author.Tests.{lt-ltb, le-ltb}
use Rattle.std.specs.Prelude.{Err}
use Rattle.model.specs.Limits.{max_items}
use Rattle.model.specs.Script.{is_binder}
use Rattle.model.specs.Run.{marked}
use Rattle.model.proofs.BoolLaws.{cond_true, cond_false, cond_eq, cond_ne}
use Rattle.script_records.proofs.BindLaws.{with_bound_set, with_bound_same}
use Rattle.plan_table.specs.Packed.{of_link}
use Rattle.plan_table.specs.declared.Reason.TheVariants.{Items}
use Rattle.run_query.specs.Values.{Appended}
use Rattle.run_query.proofs.ValueLaws.{appended_none, appended_if}
use Rattle.run_operators.specs.Machine.{Evaluated, came_out, span_of}
use Rattle.run_operators.specs.Evaluating.{BindPre, BindPost, limited_by}
use Rattle.run_operators.specs.declared.value.Span.{Span}

-- LIMITED to max_items items
module _ (x : Evaluated) (top at : ℕ) where
  abbrev over : Evaluated
  over = came_out (Err (record { reason = Items; place = at }))

  pub limited_few : x.end - top ≤ max_items → limited_by x top at ≡ x
  limited_few h = cond_false (ltb max_items (x.end - top)) over x (le-ltb max_items (x.end - top) h)

  pub limited_many : max_items < x.end - top → limited_by x top at ≡ over
  limited_many h = cond_true (ltb max_items (x.end - top)) over x (lt-ltb max_items (x.end - top) h)

-- ONE ITEM written, or none
pub appended_one : (w : List ℕ) (top a : ℕ) → top < length w → Appended (a ∷ []) w top (set w top a) (top + 1)
appended_one w top a l = appended_if true a [] w w top top l (appended_none w top)

module _ (w : List ℕ) (top : ℕ) where
  pub document_none : (m : ℕ) → m ≡ 0 → Appended (marked (of_link m)) w top w top
  document_none m h =
      subst (λ (o : Option ℕ). Appended (marked o) w top w top) (sym (cond_eq none (some (m - 1)) h)) (appended_none w top)

  pub document_some : (m : ℕ) → (m ≡ 0 → ⊥) → top < length w → Appended (marked (of_link m)) w top (set w top (m - 1)) (top + 1)
  document_some m h l =
      subst (λ (o : Option ℕ). Appended (marked o) w top (set w top (m - 1)) (top + 1))
      (sym (cond_ne none (some (m - 1)) h)) (appended_one w top (m - 1) l)

-- BOUND: a binder's first value is one variable more
module _ (k : ℕ) (env : List Span) (n i j : ℕ) (p : BindPre k env n i j) where
  pub bound_more : is_binder k ≡ true → BindPost k env n i j (set env n (span_of i j))
  bound_more e =
      record {
        size = length-set env n (span_of i j) ∙ p.size;
        is = with_bound_set k env n (span_of i j) e (omega (arith, p.scope e, p.size));
      }

  pub bound_same : is_binder k ≡ false → BindPost k env n i j env
  bound_same e = record { size = p.size; is = with_bound_same k env n (span_of i j) e }
