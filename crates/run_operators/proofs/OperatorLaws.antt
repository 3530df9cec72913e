-- Records with one or two operands, on their values: each call's needs, and what each way out yields.
use mathlib.Core.Path.{◌≡◌, refl}
use mathlib.Core.Logic.{inl}
use mathlib.Core.List.{List, [], ◌∷◌}
use Prim.Native.Nat.{ℕ, suc, ◌+◌, ◌-◌, ◌≤◌, ◌<◌}
use native.Mathlib.Omega.{arith}
use lib.ListN.{length, get_or}
use borrow.Author.Tests.{ne_eqb}
use Rattle.std.specs.Prelude.{Err}
use Rattle.model.specs.Limits.{max_items}
use Rattle.model.specs.Base.{nothing, filtered}
use Rattle.model.specs.Table as model
use Rattle.model.specs.Script as rules
use Rattle.model.specs.Script.{step_kind, delete_kind, pick_kind, join_kind, insert_kind, step_by}
use Rattle.model.specs.Step.{is_reached, is_picked, stepped, picked}
use Rattle.model.proofs.BoolLaws.{cond_cases}
use Rattle.model.proofs.ValueLaws.{collect_rows}
use Rattle.model.proofs.All.{all_filtered}
use Rattle.plan_table.specs.Packed.{decode_parts}
use Rattle.plan_table.specs.declared.Reason.{Reason}
use Rattle.run_updates.specs.State.{Progress, came, Held}
use Rattle.run_updates.specs.Updating.{DeletePre, DeletePost}
use Rattle.run_insert.specs.Inserting.{InsertPre, InsertPost}
use Rattle.run_pick.specs.Picking.{PickPre, PickPost}
use Rattle.run_query.specs.Values.{value_at, Appended, StepPre, StepPost}
use Rattle.run_updates.proofs.StateLaws.{held_count}
use Rattle.run_query.proofs.ValueLaws.{appended_none, length_collect}
use Rattle.run_operators.specs.Machine.{Evaluated, came_out, Machine, frame, machine, evaluated, came_to}
use Rattle.run_operators.specs.Evaluating.{CopyPre, ended_by, limited_by, ValuePre, UnaryPost, BinaryPre, BinaryPost}
use Rattle.script_records.specs.Steps.{step_of, axis_number}
use Rattle.script_records.specs.declared.step.Axis.{Axis}
use Rattle.script_records.specs.declared.step.Axis.TheVariants as axes
use Rattle.script_records.specs.Relations.{relation_number}
use Rattle.script_records.specs.declared.step.Step as step
use Rattle.script_records.specs.declared.pick.Relation.{Relation}
use Rattle.script_records.specs.declared.kinds.Kind.{Kind}
use Rattle.script_records.specs.declared.kinds.Kind.TheVariants as kinds
use Rattle.script_records.specs.Kinds.{byte_of}
use Rattle.script_records.proofs.KindLaws.{other_byte}
use Rattle.run_operators.specs.declared.record.Operator.{Operator}
use Rattle.run_operators.specs.declared.record.Operator.TheVariants.{Step, Delete, Pick}
use Rattle.run_operators.proofs.ValueLaws.{length_value, rows_within}
use Rattle.run_updates.proofs.UpdateLaws.{deleted_updated}
use Rattle.run_operators.proofs.YieldLaws.{yields_updated, refused_updated, updated_none, yields_as, limited_yields}

-- FEW: neither a pick nor a step passes max_items items
picked_few : (x : model.Table) (r c : ℕ) (v : List ℕ) → length (picked x r c v) ≤ length v
unfolding filtered
picked_few x r c [] = omega arith
picked_few x r c (i ∷ is) =
    let l = picked_few x r c is in
    cond_cases (λ (v : List ℕ). length v ≤ suc (length is)) (is_picked x r c i) (λ e. omega arith) (λ e. omega arith)

stepped_few : {ws h : List ℕ} {p : Progress} → Held ws h p → (ms v : List ℕ) (d : rules.Step) →
    length (stepped (decode_parts p.count ws ms) d v) ≤ max_items
stepped_few {ws} {h} {p} held ms v d =
    let x = decode_parts p.count ws ms in
    omega (arith, length_collect (is_reached x d v) 0 (model.count x), held_count held ms, held.few)

-- A VALUE from top on
module _ {top : ℕ} {s : Machine} (pre : ValuePre top s) where
  pub value_within : s.end ≤ length s.work
  value_within = omega (arith, pre.short, pre.room)

  value_length : length (value_at s.work top s.end) ≡ s.end - top
  value_length = length_value s.work top s.end pre.order value_within

  value_few : length (value_at s.work top s.end) ≤ max_items
  value_few = omega (arith, value_length, pre.short)

  value_low : (k : ℕ) → k < s.end - top → get_or (value_at s.work top s.end) k 0 < s.progress.count
  value_low k l = rows_within pre.rows k (omega (arith, value_length))

-- WITH ONE OPERAND
axis_low : (a : Axis) → axis_number a < 4
axis_low axes.Child = omega arith
axis_low axes.Descendant = omega arith
axis_low axes.Parent = omega arith
axis_low axes.Ancestor = omega arith

module _ {top : ℕ} {s : Machine} (pre : ValuePre top s) where
  pub delete_asks : DeletePre s.rows s.history s.progress (value_at s.work top s.end)
  delete_asks = record { held = pre.held; items = rows_within pre.rows }

  pub pick_asks : PickPre s.rows s.work top s.end
  pick_asks =
      record {
        rows = pre.held.rows;
        order = pre.order;
        within = value_within pre;
        low = λ k l. omega (arith, value_low pre k l, pre.held.few);
      }

  pub step_asks : (a : Axis) → StepPre s.rows s.progress.count (axis_number a) s.work top s.end
  step_asks a =
      record {
        held = record {
          rows = pre.held.rows;
          few = pre.held.few;
          lower = λ i p k. (pre.held.tree.parents i p k).0;
        };
        axes = axis_low a;
        order = pre.order;
        within = value_within pre;
        room = pre.room;
        low = value_low pre;
      }

  pub delete_yields : {o : Operator} → o ≡ Delete → {ws' h' : List ℕ} {q : Progress} →
      DeletePost s.rows s.history s.progress (value_at s.work top s.end) ws' h' q →
      {r : Evaluated} → r ≡ ended_by q s.place s.place top s.env → UnaryPost o top s (machine ws' h' s.work r)
  delete_yields is post eq n ms =
      rw is
      (yields_updated (frame n ms top) s (deleted_updated post) (appended_none s.work top) (λ q. refl) refl
      (omega (arith, pre.room)) (omega arith) (λ q. nothing) pre.spans eq)

  module _ {w' : List ℕ} {e : ℕ} (size : length w' ≡ length s.work) {r : Evaluated}
      (eq : r ≡ ended_by s.progress s.place s.place e s.env) where
    pub pick_yields : {o : Operator} {d : Relation} {k : ℕ} → o ≡ Pick d k →
        PickPost s.rows (relation_number d) k s.work top s.end w' e →
        UnaryPost o top s (machine s.rows s.history w' r)
    pick_yields {d = d} {k = k} is post n ms =
        let c = s.progress.count in
        let v = value_at s.work top s.end in
        rw is
        (yields_updated (frame n ms top) s (updated_none pre.held)
        (post.value c ms pre.held.few (value_low pre)) (λ q. refl) size (omega (arith, pre.room))
        (omega (arith, picked_few (decode_parts c s.rows ms) (relation_number d) k v, value_few pre))
        (λ q. all_filtered _ pre.rows) pre.spans eq)

    pub step_yields : {o : Operator} {d : step.Step} → o ≡ Step d → StepPost s.rows s.progress.count (step_of d) s.work top s.end w' e →
        UnaryPost o top s (machine s.rows s.history w' r)
    step_yields {d = d} is post n ms =
        let c = s.progress.count in
        let v = value_at s.work top s.end in
        let t = decode_parts c s.rows ms in
        let few : length (stepped t (step_of d) v) ≤ max_items = stepped_few pre.held ms v (step_of d) in
        let l : 0 + model.count t ≤ c = omega (arith, held_count pre.held ms) in
        rw is
        (yields_updated (frame n ms top) s (updated_none pre.held) (post.value ms) (λ q. refl) size
        (omega (arith, pre.room)) few (λ q. collect_rows _ 0 (model.count t) c l) pre.spans eq)

-- WITH TWO OPERANDS
module _ {top mid : ℕ} {s : Machine} (pre : BinaryPre top mid s) where
  pub binary_within : s.end ≤ length s.work
  binary_within = value_within pre.value

  pub insert_asks : InsertPre s.rows s.history s.progress (value_at s.work top mid) (value_at s.work mid s.end)
  insert_asks =
      record { held = pre.value.held; items = rows_within pre.rows; targets = rows_within pre.value.rows }

  pub copy_asks : CopyPre s.work mid s.end top
  copy_asks =
      record {
        order = pre.value.order;
        within = binary_within;
        room = omega (arith, pre.order, pre.value.order, binary_within);
        apart = inl pre.order;
      }

  pub join_yields : (k at : ℕ) → k ≡ join_kind → {r : Evaluated} → r ≡ limited_by (evaluated s) top at →
      BinaryPost k at top mid s (came_to r s)
  join_yields k at e eq n ms = yields_as (rw e) refl (limited_yields pre binary_within at eq)

  pub insert_yields : (k at : ℕ) → k ≡ insert_kind → {ws' h' : List ℕ} {q : Progress} →
      InsertPost s.rows s.history s.progress (value_at s.work top mid) (value_at s.work mid s.end) ws' h' q →
      {r : Evaluated} → r ≡ ended_by q at s.place top s.env → BinaryPost k at top mid s (machine ws' h' s.work r)
  insert_yields k at e up eq n ms =
      yields_as (rw e) refl
      (yields_updated (frame n ms top) s up (appended_none s.work top) (λ q. refl) refl (omega (arith, pre.order, pre.value.room))
      (omega arith) (λ q. nothing) pre.value.spans eq)

  pub insert_refused : (k at : ℕ) → k ≡ insert_kind → {ws' h' : List ℕ} (q : Reason) →
      InsertPost s.rows s.history s.progress (value_at s.work top mid) (value_at s.work mid s.end) ws' h' (came (Err q)) →
      BinaryPost k at top mid s (machine ws' h' s.work (came_out (Err (record { reason = q; place = at }))))
  insert_refused k at e q up n ms = yields_as (rw e) refl (refused_updated (frame n ms top) s q up s.work)

  pub body_yields : (k : Kind) (at : ℕ) → (k ≡ kinds.Join → ⊥) → (k ≡ kinds.Insert → ⊥) →
      {w' : List ℕ} {e : ℕ} → length w' ≡ length s.work →
      Appended (value_at s.work mid s.end) s.work top w' e →
      {r : Evaluated} → r ≡ ended_by s.progress at s.place e s.env →
      BinaryPost (byte_of k) at top mid s (machine s.rows s.history w' r)
  body_yields k at f g size a eq n ms =
      let j = ne_eqb (byte_of k) join_kind (other_byte k kinds.Join f) in
      let i = ne_eqb (byte_of k) insert_kind (other_byte k kinds.Insert g) in
      yields_as (rw (j, i)) refl
      (yields_updated (frame n ms top) s (updated_none pre.value.held) a (λ q. refl) size (omega (arith, pre.order, pre.value.room))
      (value_few pre.value) (λ q. pre.value.rows) pre.value.spans eq)
