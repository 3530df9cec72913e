-- The contract of a loop over the items of a 'for'.
use Rattle.std.specs.Prelude.{List, [], ◌∷◌, ◌++◌, ℕ, ◌+◌, ◌≤◌, ◌<◌, length}
use Rattle.model.specs.Limits.{max_items, max_binders}
use Rattle.model.specs.Run.{State, Out, loop, run, AreRows}
use Rattle.script_records.specs.Walk.{end_at, expr_at}
use Rattle.script.specs.Accepted.{Accepted}
use Rattle.run_query.specs.Values.{value_at}
use Rattle.run_operators.specs.Machine.{max_place, Machine, Frame, state_in, bound_in, value_in}
use Rattle.run_operators.specs.Evaluating.{ScopeIn, HeldIn, Yields, room_of, MarksHeld}

-- A LOOP under way: the items that remain
pub record Loop : Type 0 where
  pub for : ℕ  -- the place of the 'for', where 8 is refused
  pub from : ℕ  -- where they start in the work area
  pub to : ℕ  -- and where they end

-- from a function's parameters
abbrev pub loop_of : (for from to : ℕ) → Loop
loop_of z i j = record { for = z; from = i; to = j }

-- their values
abbrev pub items_in : Loop → Machine → List ℕ
items_in l s = value_at s.work l.from l.to

-- the body, at a place, for one item
abbrev pub body_run : (bytes : List ℕ) → (at left : ℕ) → (bound : List (List ℕ)) → ℕ → State → Out
body_run b i k vs = λ (j : ℕ) (s : State). run (expr_at k b i) (vs ++ ((j ∷ []) ∷ [])) s

-- THE REMAINING ITEMS, the body at the machine's place, the results so far standing from the frame's top on
pub record EachPre (b : List ℕ) (left : ℕ) (l : Loop) (f : Frame) (s : Machine) : Type 0 where
  pub accepted : Accepted b s.place left (f.bound + 1)
  pub held : HeldIn s
  pub marks : MarksHeld f.marks s.progress.count
  pub scope : ScopeIn f s
  pub binder : f.bound < max_binders
  pub some : l.from < l.to
  pub items : l.to ≤ f.top
  pub many : l.to ≤ l.from + max_items
  pub rows : AreRows s.progress.count (items_in l s)
  pub order : f.top ≤ s.end
  pub short : s.end ≤ f.top + max_items
  pub sofar : AreRows s.progress.count (value_in f s)
  pub room : f.top + max_items + room_of left ≤ length s.work
  pub small : f.top + max_items + room_of left ≤ max_place

-- come to the model's loop over them
abbrev pub EachPost : (bytes : List ℕ) → (left : ℕ) → Loop → Frame → (before after : Machine) → Type 0
EachPost b k l f s s' =
    Yields (loop l.for (body_run b s.place k (bound_in f s)) (items_in l s) (value_in f s) (state_in f s)) (end_at b s.place) f s s'
