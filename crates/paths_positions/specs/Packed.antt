-- A position packed into a number, and what a list of them says.
use Rattle.std.specs.Prelude.{◌≡◌, Bool, cond, List, [], ◌∷◌, ◌++◌, map, ℕ, ◌+◌, ◌*◌, ◌/◌, ◌%◌, ◌<◌, eqb, length, take}
use Rattle.model.specs.Script as model
use Rattle.model.specs.Script.{step_by}
use Rattle.script_records.specs.Steps.{axis_number, test_number, test_name, step_of}
use Rattle.script_records.specs.declared.step.Step.{Step}
use Rattle.paths_positions.specs.Positions as positions
use Rattle.paths_positions.specs.Answer.{any_up_to}
use Rattle.paths_positions.specs.declared.packed.Fields.{Fields as Position}
use Rattle.paths_positions.specs.declared.packed.Role.{Role}
use Rattle.paths_positions.specs.declared.packed.Role.TheVariants.{Plain, Accessed, Modified}
use Rattle.paths_positions.specs.declared.packed.Position as declared
use Rattle.paths_positions.specs.declared.packed.Position.TheVariants.{Nothing, Root, Over, Union}
use Rattle.paths_positions.specs.Steps.{max_positions}

-- THE FIELDS of a position, here under its name; those that its kind does not have are 0. The label is the name of its step, or its
-- document. The step of a position
abbrev pub step_in : Position → model.Step
step_in p = step_by p.axis p.test p.label

-- KINDS: a root, whose label is its document; a step over a position, whose label is its name; a union; 0 is nowhere
abbrev pub root_kind : ℕ
root_kind = 1

abbrev pub over_kind : ℕ
over_kind = 2

abbrev pub union_kind : ℕ
union_kind = 3

-- ROLES
abbrev pub plain_role : ℕ
plain_role = 0

abbrev pub accessed_role : ℕ
accessed_role = 1

abbrev pub modified_role : ℕ
modified_role = 2

-- the position that the fields are
abbrev pub position_by : Position → positions.Position
position_by p =
    cond (eqb p.kind 0) positions.nowhere
    (cond (eqb p.kind root_kind) (positions.root p.label)
    (cond (eqb p.kind over_kind) (positions.over (step_in p) p.first) (positions.union p.first p.second)))

-- a position with its role
abbrev pub with_role : (role : ℕ) → positions.Position → positions.Entry
with_role m p = record { position = p; accessed = eqb m accessed_role; modified = eqb m modified_role }

abbrev pub entry_by : Position → positions.Entry
entry_by p = with_role p.role (position_by p)

-- the fields of a document's root, accessed; of a root, of a step over a position, and of two positions, in a role
abbrev pub root_by : (document : ℕ) → Position
root_by d = record { kind = root_kind; role = accessed_role; axis = 0; test = 0; label = d; first = 0; second = 0 }

abbrev pub root_as : (role document : ℕ) → Position
root_as m d = record { kind = root_kind; role = m; axis = 0; test = 0; label = d; first = 0; second = 0 }

abbrev pub over_by : (role : ℕ) → model.Step → (operand : ℕ) → Position
over_by m s i = record { kind = over_kind; role = m; axis = s.axis; test = s.test; label = s.name; first = i; second = 0 }

abbrev pub union_by : (role first second : ℕ) → Position
union_by m i j = record { kind = union_kind; role = m; axis = 0; test = 0; label = 0; first = i; second = j }

-- nothing, only there for others to refer to
abbrev pub no_fields : Position
no_fields = record { kind = 0; role = plain_role; axis = 0; test = 0; label = 0; first = 0; second = 0 }

-- THE CODE's roles and positions, as fields
abbrev pub role_number : Role → ℕ
role_number Plain = plain_role
role_number Accessed = accessed_role
role_number Modified = modified_role

abbrev pub fields_in : declared.Position → Position
fields_in Nothing = no_fields
fields_in (Root m d) = root_as (role_number m) d
fields_in (Over m s i) = over_by (role_number m) (step_of s) i
fields_in (Union m i j) = union_by (role_number m) i j

-- PACKED: how many numbers each field has room for; an operand has max_positions
abbrev pub kinds : ℕ
kinds = 4

abbrev pub roles : ℕ
roles = 16

abbrev pub axes : ℕ
axes = 4

abbrev pub tests : ℕ
tests = 4

abbrev pub labels : ℕ
labels = 65536

-- each field above the one before it, the kind lowest
abbrev pub pack_position : Position → ℕ
pack_position p =
    p.kind + kinds * (p.role + roles * (p.axis + axes * (p.test + tests *
    (p.label + labels * (p.first + max_positions * p.second)))))

-- the fields of a step among them
abbrev pub step_number : Step → ℕ
step_number s = axis_number s.axis + axes * (test_number s.test + tests * test_name s.test)

-- and taken out again
abbrev pub fields_of : (packed : ℕ) → Position
fields_of w =
    record {
      kind = w % kinds;
      role = w / kinds % roles;
      axis = w / kinds / roles % axes;
      test = w / kinds / roles / axes % tests;
      label = w / kinds / roles / axes / tests % labels;
      first = w / kinds / roles / axes / tests / labels % max_positions;
      second = w / kinds / roles / axes / tests / labels / max_positions % max_positions;
    }

-- a role of the three, and a name where the test is for one
abbrev pub known_role : (role : ℕ) → ℕ
known_role m = cond (eqb m accessed_role) accessed_role (cond (eqb m modified_role) modified_role plain_role)

abbrev pub known_name : (test label : ℕ) → ℕ
known_name t n = cond (eqb t 3) n 0

-- only those that their kind has: so they are those of one of the code's positions
abbrev pub cleaned : Position → Position
cleaned p =
    cond (eqb p.kind 0) no_fields
    (cond (eqb p.kind root_kind) (root_as (known_role p.role) p.label)
    (cond (eqb p.kind over_kind) (over_by (known_role p.role) (step_by p.axis p.test (known_name p.test p.label)) p.first)
    (union_by (known_role p.role) p.first p.second)))

abbrev pub kept_of : (packed : ℕ) → Position
kept_of w = cleaned (fields_of w)

-- operands that are numbers of positions
abbrev pub OperandsFit : declared.Position → Type 0
OperandsFit Nothing = Unit
OperandsFit (Root m d) = Unit
OperandsFit (Over m s i) = i < max_positions
OperandsFit (Union m i j) = (i < max_positions) × (j < max_positions)

-- fields that fit their room
pub record PositionFits (p : Position) : Type 0 where
  pub kind : p.kind < kinds
  pub role : p.role < roles
  pub axis : p.axis < axes
  pub test : p.test < tests
  pub label : p.label < labels
  pub first : p.first < max_positions
  pub second : p.second < max_positions

-- the entry that a packed position is
abbrev pub entry_of : (packed : ℕ) → positions.Entry
entry_of w = entry_by (fields_of w)

-- and by the fields that its kind has
abbrev pub kept_entry : (packed : ℕ) → positions.Entry
kept_entry w = entry_by (kept_of w)

-- the entries that the first ones are
abbrev pub entries_in : (packed : List ℕ) → (count : ℕ) → List positions.Entry
entries_in ws n = map entry_of (take n ws)

-- one packed position more: how many there are then, and its number
pub record PushPre (ws : List ℕ) (n : ℕ) (p : declared.Position) : Type 0 where
  pub room : n < length ws
  pub fits : OperandsFit p

pub record PushPost (ws : List ℕ) (n : ℕ) (p : Position) (ws' : List ℕ) (n' r : ℕ) : Type 0 where
  pub size : length ws' ≡ length ws
  pub entries : entries_in ws' (n + 1) ≡ entries_in ws n ++ (entry_by p ∷ [])
  pub count : n' ≡ n + 1
  pub result : r ≡ n

-- the entries that packed positions are
abbrev pub entries_by : (packed : List ℕ) → List positions.Entry
entries_by ws = map entry_of ws

abbrev pub kept_entries_by : (packed : List ℕ) → List positions.Entry
kept_entries_by ws = map kept_entry ws

-- UPWARD: a position among them leads up
abbrev pub leads_up_at : (packed : List ℕ) → (number : ℕ) → Bool
leads_up_at ws k = positions.leads_up (positions.entry_at (entries_by ws) k).position

-- some position does
abbrev pub some_leads_up : (packed : List ℕ) → Bool
some_leads_up ws = any_up_to (leads_up_at ws) (length ws)
