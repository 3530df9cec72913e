-- What a part of an expression yields: after an update, past the limit, one part after another, refused; its value stands for the next.
use mathlib.Core.Path.{◌≡◌, refl, ap, sym, subst, ◌∙◌}
use mathlib.Core.List.{List}
use Prim.Native.Nat.{ℕ, ◌+◌, ◌-◌, ◌≤◌, ◌<◌}
use native.Mathlib.Omega.{arith}
use lib.Dec.{ltb}
use lib.ListN.{length, take}
use borrow.Author.Tests.{lt-ltb, le-ltb, ltb-true, ltb-false}
use Rattle.std.specs.Prelude.{Err}
use Rattle.model.specs.Limits.{max_items, max_binders}
use Rattle.model.specs.Refusal.{refusal}
use Rattle.model.specs.Run.{State, Out, refused, gives, join_items, AreRows}
use Rattle.model.proofs.BoolLaws.{by_cases, cond_true, cond_false, cond_eq, cond_ne, eq_cases}
use Rattle.model.proofs.ValueLaws.{are_rows_more}
use Rattle.model.proofs.All.{all_append}
use Rattle.plan_table.specs.declared.Reason.{Reason}
use Rattle.plan_table.proofs.ReasonLaws.{some_number}
use Rattle.run_updates.specs.State.{Progress, came, Held, Updated}
use Rattle.run_query.specs.Values.{value_at, Appended}
use Rattle.run_updates.proofs.StateLaws.{after_self, after_then, outcome_gives, outcome_refused}
use Rattle.run_operators.specs.Machine.{Evaluated, came_out, Machine, Frame, frame, machine, begun, evaluated, came_to}
use Rattle.run_operators.specs.Machine.{state_in, value_in, outcome_in}
use Rattle.run_operators.specs.Evaluating.{ended_by, limited_by, moved_to, HeldIn, AfterIn, Fine, Yields, ValuePre, BinaryPre}
use Rattle.run_operators.specs.declared.value.Span.{Span}
use Rattle.run_operators.proofs.ValueLaws.{value_same, value_append, length_value, below_same, appended_value, appended_below}
use Rattle.run_operators.proofs.RecordLaws.{limited_few, limited_many}

-- AFTER AN UPDATE g of a machine, with the value u written from a frame's top on
module _ (f : Frame) (s : Machine) {g : ℕ → State → Out} {v u ws' h' w' : List ℕ} {q : Progress} {e : ℕ}
    (up : Updated g v s.rows s.history s.progress ws' h' q) (a : Appended u s.work f.top w' e)
    (is : q.number ≡ 0 → u ≡ v) (size : length w' ≡ length s.work) (room : f.top ≤ length s.work) (few : length u ≤ max_items)
    (rows : q.number ≡ 0 → AreRows q.count u) where
  pub yields_updated : {at next : ℕ} {r : Evaluated} → length s.env ≡ max_binders → r ≡ ended_by q at next e s.env →
      Yields (g at (state_in f s)) next f s (machine ws' h' w' r)
  yields_updated {at} {next} {r} spans eq =
      subst (λ (x : Evaluated). Yields (g at (state_in f s)) next f s (machine ws' h' w' x)) (sym eq)
      (record {
        same = eq_cases q.number 0 good not_good;
        fine = λ k. record {
          after = up.after k;
          size = size;
          below = appended_below a room;
          order = omega (arith, a.end);
          short = omega (arith, a.end, few);
          rows = subst (AreRows q.count) (sym (appended_value a room)) (rows k);
          place = cond_eq next at k;
          spans = spans;
          scope = refl;
        };
      })
    where
      left : Machine
      left = machine ws' h' w' (ended_by q at next e s.env)

      good : q.number ≡ 0 → outcome_in f left ≡ g at (state_in f s)
      good k =
          outcome_gives left.place (value_in f left) ws' f.marks h' q k ∙
          ap (λ (x : List ℕ). gives x (state_in f left)) (appended_value a room ∙ is k) ∙
          sym (outcome_gives at v ws' f.marks h' q k) ∙ up.same at f.marks

      not_good : (q.number ≡ 0 → ⊥) → outcome_in f left ≡ g at (state_in f s)
      not_good k =
          outcome_refused left.place (value_in f left) ws' f.marks h' q k ∙
          ap (λ (z : ℕ). refused (refusal q.number z)) (cond_ne next at k) ∙
          sym (outcome_refused at v ws' f.marks h' q k) ∙ up.same at f.marks

-- REFUSED, the areas may be anything
pub refused_yields : {goal : Out} {next : ℕ} {f : Frame} {s s' : Machine} → (s'.progress.number ≡ 0 → ⊥) →
    goal ≡ refused (refusal s'.progress.number s'.place) → Yields goal next f s s'
refused_yields {f = f} {s' = s'} k e =
    record {
      same = outcome_refused s'.place (value_in f s') s'.rows f.marks s'.history s'.progress k ∙ sym e;
      fine = λ q. absurd (k q);
    }

-- AN UPDATE REFUSED: at its place, whatever the areas are then
pub refused_updated : (f : Frame) (s : Machine) {g : ℕ → State → Out} {v ws' h' : List ℕ} (r : Reason) →
    Updated g v s.rows s.history s.progress ws' h' (came (Err r)) → (w' : List ℕ) {at next : ℕ} →
    Yields (g at (state_in f s)) next f s (machine ws' h' w' (came_out (Err (record { reason = r; place = at }))))
refused_updated f s {g} {v} {ws'} {h'} r up w' {at} {next} =
    refused_yields (some_number r)
    (sym (up.same at f.marks) ∙ outcome_refused at v ws' f.marks h' (came (Err r)) (some_number r))

-- no update at all
pub updated_none : {v ws h : List ℕ} {p : Progress} → Held ws h p → Updated (λ z s. gives v s) v ws h p ws h p
updated_none {v} {ws} {h} {p} held =
    record { same = λ z ms. outcome_gives z v ws ms h p held.fine; after = λ k. after_self held }

-- the same, told otherwise
pub yields_as : {goal goal' : Out} {next next' : ℕ} {f : Frame} {s s' : Machine} → goal ≡ goal' → next ≡ next' →
    Yields goal next f s s' → Yields goal' next' f s s'
yields_as {f = f} {s = s} {s' = s'} e g y =
    record { same = y.same ∙ e; fine = λ k. subst (λ (j : ℕ). Fine j f s s') g (y.fine k) }

-- WHAT IT YIELDS, as an outcome of the model
module _ {goal : Out} {next : ℕ} {f : Frame} {s s' : Machine} (y : Yields goal next f s s') where
  pub yields_gives : s'.progress.number ≡ 0 → goal ≡ gives (value_in f s') (state_in f s')
  yields_gives k = sym y.same ∙ outcome_gives s'.place (value_in f s') s'.rows f.marks s'.history s'.progress k

  pub yields_refused : (s'.progress.number ≡ 0 → ⊥) → goal ≡ refused (refusal s'.progress.number s'.place)
  yields_refused k = sym y.same ∙ outcome_refused s'.place (value_in f s') s'.rows f.marks s'.history s'.progress k

-- MOVED past what follows
pub moved_yields : {goal : Out} {next : ℕ} {f : Frame} {s s₁ : Machine} (j : ℕ) {r : Evaluated} → Yields goal next f s s₁ →
    s₁.progress.number ≡ 0 → r ≡ moved_to j (evaluated s₁) → Yields goal j f s (came_to r s₁)
moved_yields {goal} {f = f} {s = s} {s₁ = s₁} j y k e =
    let o = y.fine k in
    subst (λ (z : Evaluated). Yields goal j f s (came_to z s₁)) (sym e)
    (record {
      same = outcome_gives j (value_in f s₁) s₁.rows f.marks s₁.history s₁.progress k ∙ sym (yields_gives y k);
      fine = λ q. record {
        after = o.after;
        size = o.size;
        below = o.below;
        order = o.order;
        short = o.short;
        rows = o.rows;
        place = refl;
        spans = o.spans;
        scope = o.scope;
      };
    })

-- ONE PART AFTER ANOTHER: what lies between
pub record Between (top : ℕ) (s s₁ : Machine) : Type 0 where
  pub after : AfterIn s s₁
  pub size : length s₁.work ≡ length s.work
  pub below : take top s₁.work ≡ take top s.work

-- the first part may have had other variables
abbrev pub with_env : List Span → Machine → Machine
with_env env s = came_to (begun s.progress s.place s.end env) s

pub fine_between : (s : Machine) {env : List Span} {next : ℕ} {f : Frame} {s₁ : Machine} {top : ℕ} → top ≤ f.top →
    Fine next f (with_env env s) s₁ → Between top s s₁
fine_between s {f = f} {s₁ = s₁} {top = top} l o =
    record { after = o.after; size = o.size; below = below_same s.work s₁.work f.top top o.below l }

pub yields_after : {goal goal' : Out} {next : ℕ} {f : Frame} {s s₁ s' : Machine} → Between f.top s s₁ → Yields goal' next f s₁ s' →
    goal ≡ goal' → take f.bound s₁.env ≡ take f.bound s.env → Yields goal next f s s'
yields_after a y e b =
    record {
      same = y.same ∙ sym e;
      fine = λ k.
          let o = y.fine k in
          record {
            after = after_then a.after o.after;
            size = o.size ∙ a.size;
            below = o.below ∙ a.below;
            order = o.order;
            short = o.short;
            rows = o.rows;
            place = o.place;
            spans = o.spans;
            scope = o.scope ∙ b;
          };
    }

-- where it starts does not matter: the machine at another place, with another end
abbrev pub placed_at : (place end : ℕ) → Machine → Machine
placed_at i j s = came_to (begun s.progress i j s.env) s

pub yields_from : {goal : Out} {next i j : ℕ} {f : Frame} {s s' : Machine} → HeldIn s →
    Yields goal next f (placed_at i j s) s' → Yields goal next f s s'
yields_from held y = yields_after (record { after = after_self held; size = refl; below = refl }) y refl refl

-- A VALUE that stands is yielded as it is
pub value_yields : {f : Frame} {s : Machine} → ValuePre f.top s → Yields (gives (value_in f s) (state_in f s)) s.place f s s
value_yields {f} {s} pre =
    record {
      same = outcome_gives s.place (value_in f s) s.rows f.marks s.history s.progress pre.held.fine;
      fine = λ k. record {
        after = after_self pre.held;
        size = refl;
        below = refl;
        order = pre.order;
        short = pre.short;
        rows = pre.rows;
        place = refl;
        spans = pre.spans;
        scope = refl;
      };
    }

-- and one that was yielded, from mid on, stands
module _ {next : ℕ} {f : Frame} {s s₁ : Machine} (fine : Fine next f s s₁) where
  abbrev mid : ℕ
  mid = f.top

  pub value_asks : mid + max_items ≤ length s.work → ValuePre mid s₁
  value_asks room =
      record {
        held = fine.after.held;
        order = fine.order;
        short = fine.short;
        room = omega (arith, room, fine.size);
        rows = fine.rows;
        spans = fine.spans;
      }

  -- behind a first value, from top on
  module _ (top : ℕ) (order : top ≤ mid) where
    pub first_kept : value_at s₁.work top mid ≡ value_at s.work top mid
    first_kept = value_same s.work s₁.work mid top mid fine.below (omega arith)

    pub pair_asks : mid ≤ top + max_items → AreRows s.progress.count (value_at s.work top mid) → mid + max_items ≤ length s.work →
        BinaryPre top mid s₁
    pair_asks short rows room =
        record {
          value = value_asks room;
          order = order;
          short = short;
          rows = subst (AreRows s₁.progress.count) (sym first_kept) (are_rows_more fine.after.rows rows);
        }

-- LIMITED: joined where the first value stands from top and the second from mid
module _ {top mid : ℕ} {s : Machine} (pre : BinaryPre top mid s) (within : s.end ≤ length s.work) where
  abbrev first : List ℕ
  first = value_at s.work top mid

  abbrev second : List ℕ
  second = value_at s.work mid s.end

  lengths : length first + length second ≡ s.end - top
  lengths =
      omega (
        arith,
        pre.order,
        pre.value.order,
        within,
        length_value s.work top mid pre.order (omega (arith, pre.value.order)),
        length_value s.work mid s.end pre.value.order within,
      )

  pub limited_yields : (at : ℕ) {n : ℕ} {ms : List ℕ} {r : Evaluated} → r ≡ limited_by (evaluated s) top at →
      Yields (join_items at (value_at s.work top mid) (value_at s.work mid s.end) (state_in (frame n ms top) s)) s.place
      (frame n ms top) s (came_to r s)
  limited_yields at {n} {ms} {r} e =
      by_cases (ltb max_items (s.end - top)) (λ t. many (ltb-true max_items (s.end - top) t))
      (λ t. few (ltb-false max_items (s.end - top) t))
    where
      f : Frame
      f = frame n ms top

      Goal : Evaluated → Type 0
      Goal x = Yields (join_items at first second (state_in f s)) s.place f s (came_to x s)

      few : s.end - top ≤ max_items → Goal r
      few l =
          let j = value_append s.work top mid s.end pre.order pre.value.order in
          subst Goal (sym (e ∙ limited_few (evaluated s) top at l))
          (record {
            same = outcome_gives s.place (value_in f s) s.rows ms s.history s.progress pre.value.held.fine ∙
                ap (λ (v : List ℕ). gives v (state_in f s)) (sym j) ∙
                sym (cond_false (ltb max_items (length first + length second)) _ _ (le-ltb max_items (length first + length second)
                (omega (arith, lengths))));
            fine = λ q. record {
              after = after_self pre.value.held;
              size = refl;
              below = refl;
              order = omega (arith, pre.order, pre.value.order);
              short = omega arith;
              rows = subst (AreRows s.progress.count) j (all_append pre.rows pre.value.rows);
              place = refl;
              spans = pre.value.spans;
              scope = refl;
            };
          })

      many : max_items < s.end - top → Goal r
      many l =
          subst Goal (sym (e ∙ limited_many (evaluated s) top at l))
          (refused_yields (λ q. omega arith)
          (cond_true (ltb max_items (length first + length second)) _ _
          (lt-ltb max_items (length first + length second) (omega (arith, lengths)))))
