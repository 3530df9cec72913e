-- Emission from a script's bytes, in place: what each part asks and leaves.
use Rattle.std.specs.Prelude.{◌≡◌, true, cond, List, ℕ, ◌+◌, ◌*◌, ◌≤◌, ◌<◌, eqb, length, get_or, take}
use Rattle.model.specs.Limits.{max_binders}
use Rattle.model.specs.Script.{document_kind, variable_kind, step_kind, join_kind, delete_kind}
use Rattle.model.specs.Script.{insert_kind, step_by, test_fits, records_of, is_binder, body_size}
use Rattle.script_records.specs.Walk.{with_bound, inner, end_at, expr_at}
use Rattle.script.specs.Accepted.{Accepted}
use Rattle.paths_positions.specs.Positions as positions
use Rattle.paths_positions.specs.Packed.{with_role, entries_in}
use Rattle.paths_positions.specs.Steps.{max_positions}

-- what packed positions, how many there are so far and the number answered say together
abbrev pub out_of : (packed : List ℕ) → (count result : ℕ) → positions.Emitted
out_of ws n r = positions.emitted r (entries_in ws n)

-- BY ARITY: the emission of a record at a place, from those of its operands
abbrev pub nullary_of : (bytes : List ℕ) → (at : ℕ) → (bound : List ℕ) → List positions.Entry → positions.Emitted
nullary_of b i ns es =
    cond (eqb (get_or b i 0) document_kind) (positions.push es (positions.accessing (positions.root (get_or b (i + 1) 0))))
    (cond (eqb (get_or b i 0) variable_kind) (positions.emitted (get_or ns (get_or b (i + 1) 0) 0) es) (positions.emitted 0 es))

abbrev pub unary_of : (bytes : List ℕ) → (at : ℕ) → positions.Emitted → positions.Emitted
unary_of b i x =
    cond (eqb (get_or b i 0) step_kind) (positions.push_step (step_by (get_or b (i + 1) 0) (get_or b (i + 2) 0) (get_or b (i + 3) 0)) x)
    (cond (eqb (get_or b i 0) delete_kind) (positions.push_delete x) x)

abbrev pub binary_of : (kind first : ℕ) → positions.Emitted → positions.Emitted
binary_of k r y =
    cond (eqb k join_kind) (positions.push_union r y) (cond (eqb k insert_kind) (positions.push_insert r y) y)

-- room for the entries of one record more
pub record GrowPre (ws : List ℕ) (n x : ℕ) : Type 0 where
  pub size : length ws ≡ max_positions
  pub room : n + 2 ≤ max_positions
  pub low : x < n

pub record PairedPre (ws : List ℕ) (n x y : ℕ) : Type 0 where
  pub grow : GrowPre ws n y
  pub low : x < n

-- all below a position, in a role
pub record BelowPre (ws : List ℕ) (n x : ℕ) : Type 0 where
  pub size : length ws ≡ max_positions
  pub room : n < max_positions
  pub low : x < n

pub record BelowPost (ws : List ℕ) (n role x : ℕ) (ws' : List ℕ) (n' : ℕ) : Type 0 where
  pub size : length ws' ≡ max_positions
  pub is : entries_in ws' n' ≡ positions.push_below (with_role role) x (entries_in ws n)
  pub more : n ≤ n'
  pub few : n' ≤ n + 1

pub record UnaryPre (b : List ℕ) (at : ℕ) (ws : List ℕ) (n x : ℕ) : Type 0 where
  pub grow : GrowPre ws n x
  pub whole : at + body_size (get_or b at 0) < length b
  pub axis : get_or b at 0 ≡ step_kind → get_or b (at + 1) 0 < 4
  pub test : get_or b at 0 ≡ step_kind → test_fits (get_or b (at + 2) 0) (get_or b (at + 3) 0) ≡ true

pub record NullaryPre (b : List ℕ) (at : ℕ) (env ws : List ℕ) (n : ℕ) : Type 0 where
  pub size : length ws ≡ max_positions
  pub room : n < max_positions
  pub some : 0 < n
  pub whole : at + body_size (get_or b at 0) < length b
  pub variable : get_or b at 0 ≡ variable_kind → get_or b (at + 1) 0 < length env
  pub low : get_or b at 0 ≡ variable_kind → get_or env (get_or b (at + 1) 0) 0 < n

pub record NullaryPost (b : List ℕ) (at : ℕ) (env ws : List ℕ) (n : ℕ) (ws' : List ℕ) (n' r : ℕ) : Type 0 where
  pub size : length ws' ≡ max_positions
  pub is : out_of ws' n' r ≡ nullary_of b at env (entries_in ws n)
  pub low : r < n'
  pub more : n ≤ n'
  pub few : n' ≤ n + 1

-- at most two entries more, and the result is among them or nothing
pub record Grown (goal : positions.Emitted) (n : ℕ) (ws' : List ℕ) (n' r : ℕ) : Type 0 where
  pub size : length ws' ≡ max_positions
  pub is : out_of ws' n' r ≡ goal
  pub low : r < n'
  pub more : n ≤ n'
  pub few : n' ≤ n + 2

-- THE VARIABLES of a second operand
pub record BindPre (kind : ℕ) (env : List ℕ) (bound result : ℕ) : Type 0 where
  pub size : length env ≡ max_binders
  pub few : result < 256
  pub scope : is_binder kind ≡ true → bound < max_binders

pub record BindPost (kind : ℕ) (env : List ℕ) (bound result : ℕ) (env' : List ℕ) : Type 0 where
  pub size : length env' ≡ max_binders
  pub is : take (inner kind bound) env' ≡ with_bound kind (take bound env) result
  pub low : (n : ℕ) → result < n → ((v : ℕ) → v < bound → get_or env v 0 < n) → (v : ℕ) → v < inner kind bound → get_or env' v 0 < n

-- THE EMITTER at one moment
pub record Emitter : Type 0 where
  pub place : ℕ  -- in the script
  pub area : List ℕ  -- the packed positions, and behind them the rest of the area
  pub count : ℕ  -- how many positions there are

-- from a function's parameters
abbrev pub emitter : (place : ℕ) → (packed : List ℕ) → (count : ℕ) → Emitter
emitter i ws n = record { place = i; area = ws; count = n }

-- AN EXPRESSION at the emitter's place, with the positions of the variables bound around it
pub record EmitPre (b : List ℕ) (left bound : ℕ) (env : List ℕ) (e : Emitter) : Type 0 where
  pub accepted : Accepted b e.place left bound
  pub scope : bound ≤ max_binders
  pub size : length e.area ≡ max_positions
  pub variables : length env ≡ max_binders
  pub some : 0 < e.count
  pub room : e.count + 2 * records_of (expr_at left b e.place) ≤ max_positions + 1
  pub low : (v : ℕ) → v < bound → get_or env v 0 < e.count

-- emits its positions behind those that were there, answers its own, and comes to the place past it
pub record EmitPost (b : List ℕ) (left bound : ℕ) (env : List ℕ) (e e' : Emitter) (r : ℕ) : Type 0 where
  pub size : length e'.area ≡ max_positions
  pub is : out_of e'.area e'.count r ≡ positions.emit (expr_at left b e.place) (take bound env) (entries_in e.area e.count)
  pub place : e'.place ≡ end_at b e.place
  pub low : r < e'.count
  pub more : e.count ≤ e'.count
  pub few : e'.count + 1 ≤ e.count + 2 * records_of (expr_at left b e.place)
