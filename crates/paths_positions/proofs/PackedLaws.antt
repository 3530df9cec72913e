-- Packed positions and the entries they are: a position packed and unpacked is the same, and one packed more is one entry more.
use mathlib.Core.Path.{◌≡◌, refl, ap, sym, ◌∙◌}
use mathlib.Core.List.{List, [], ◌∷◌, ◌++◌, map, map-append}
use Prim.Native.Nat.{ℕ, ◌+◌, ◌*◌, ◌/◌, ◌%◌, ◌<◌, ◌≤◌}
use native.Mathlib.Nat.{add_comm, mul_comm, mod-eq_of_lt}
use native.Mathlib.Omega.{arith}
use lib.Dec.{eqb}
use lib.Arith.{digits_div, digits_mod}
use lib.ListN.{length, take, set, length-set, length-map}
use lib.Seq.{length-take-le}
use Rattle.model.proofs.BoolLaws.{cond_cases}
use Rattle.model.proofs.ListLaws.{take_set}
use Rattle.paths_positions.specs.Steps.{max_positions}
use Rattle.paths_positions.specs.declared.packed.Fields.{Fields as Position}
use Rattle.paths_positions.specs.Packed.{entry_by, kinds, roles, axes, tests, labels, pack_position, fields_of, PositionFits}
use Rattle.paths_positions.specs.Packed.{root_kind, over_kind, accessed_role, modified_role, known_role, fields_in, kept_of}
use Rattle.paths_positions.specs.Packed.{cleaned, entry_of, entries_in, PushPost}
use Rattle.paths_positions.specs.declared.packed.Role.{Role}
use Rattle.paths_positions.specs.declared.packed.Role.TheVariants.{Plain, Accessed, Modified}
use Rattle.paths_positions.specs.declared.packed.Position as declared
use Rattle.paths_positions.specs.declared.packed.Position.TheVariants.{Nothing, Root, Over, Union}
use Rattle.script_records.specs.declared.step.Axis.{Axis}
use Rattle.script_records.specs.declared.step.Test.{Test}
use Rattle.script_records.specs.declared.step.Test.TheVariants.{Node, Element, Leaf, Named}

turned : (n x q : ℕ) → x + n * q ≡ q * n + x
turned n x q = add_comm x (n * q) ∙ ap (λ (v : ℕ). v + x) (mul_comm n q)

-- A FIELD below the others: it is the rest by its room, and the others are what is above
low : (n : ℕ) {x : ℕ} (q : ℕ) → x < n → (x + n * q) % n ≡ x
low n {x} q h = ap (λ (v : ℕ). v % n) (turned n x q) ∙ digits_mod q h

above : (n : ℕ) {x : ℕ} (q : ℕ) → x < n → (x + n * q) / n ≡ q
above n {x} q h = ap (λ (v : ℕ). v / n) (turned n x q) ∙ digits_div q h

module _ (p : Position) (f : PositionFits p) where
  fields_packed : fields_of (pack_position p) ≡ p
  fields_packed =
      let operands = p.first + max_positions * p.second in
      let label = p.label + labels * operands in
      let test = p.test + tests * label in
      let axis = p.axis + axes * test in
      let role = p.role + roles * axis in
      let above_kind : pack_position p / kinds ≡ role = above kinds role f.kind in
      let above_role : pack_position p / kinds / roles ≡ axis = ap (λ (v : ℕ). v / roles) above_kind ∙ above roles axis f.role in
      let above_axis : pack_position p / kinds / roles / axes ≡ test = ap (λ (v : ℕ). v / axes) above_role ∙ above axes test f.axis in
      let above_test : pack_position p / kinds / roles / axes / tests ≡ label =
      ap (λ (v : ℕ). v / tests) above_axis ∙ above tests label f.test in
      let above_label : pack_position p / kinds / roles / axes / tests / labels ≡ operands =
      ap (λ (v : ℕ). v / labels) above_test ∙ above labels operands f.label in
      let above_first : pack_position p / kinds / roles / axes / tests / labels / max_positions ≡ p.second =
      ap (λ (v : ℕ). v / max_positions) above_label ∙ above max_positions p.second f.first in
      let k : pack_position p % kinds ≡ p.kind = low kinds role f.kind in
      let r = ap (λ (v : ℕ). v % roles) above_kind ∙ low roles axis f.role in
      let a = ap (λ (v : ℕ). v % axes) above_role ∙ low axes test f.axis in
      let t = ap (λ (v : ℕ). v % tests) above_axis ∙ low tests label f.test in
      let n = ap (λ (v : ℕ). v % labels) above_test ∙ low labels operands f.label in
      let i = ap (λ (v : ℕ). v % max_positions) above_label ∙ low max_positions p.second f.first in
      let j = ap (λ (v : ℕ). v % max_positions) above_first ∙ mod-eq_of_lt f.second in
      λ z. record { kind = k z; role = r z; axis = a z; test = t z; label = n z; first = i z; second = j z }

  pub position_pushed : (ws : List ℕ) (n : ℕ) → n < length ws → PushPost ws n p (set ws n (pack_position p)) (n + 1) n
  position_pushed ws n h =
      let w = pack_position p in
      record {
        size = length-set ws n w;
        entries =
            ap (map entry_of) (take_set ws n w h) ∙ map-append entry_of (take n ws) (w ∷ []) ∙
            ap (λ (q : Position). entries_in ws n ++ (entry_by q ∷ [])) fields_packed;
        count = refl;
        result = refl;
      }

-- THE CODE's positions have no fields but those of their kind
over_clean : (m : Role) (a : Axis) (t : Test) (i : ℕ) →
    cleaned (fields_in (Over m (record { axis = a; test = t }) i)) ≡ fields_in (Over m (record { axis = a; test = t }) i)
over_clean Plain a Node i = refl
over_clean Plain a Element i = refl
over_clean Plain a Leaf i = refl
over_clean Plain a (Named n) i = refl
over_clean Accessed a Node i = refl
over_clean Accessed a Element i = refl
over_clean Accessed a Leaf i = refl
over_clean Accessed a (Named n) i = refl
over_clean Modified a Node i = refl
over_clean Modified a Element i = refl
over_clean Modified a Leaf i = refl
over_clean Modified a (Named n) i = refl

pub cleaned_in : (p : declared.Position) → cleaned (fields_in p) ≡ fields_in p
cleaned_in Nothing = refl
cleaned_in (Root Plain d) = refl
cleaned_in (Root Accessed d) = refl
cleaned_in (Root Modified d) = refl
cleaned_in (Over m s i) = over_clean m s.axis s.test i
cleaned_in (Union Plain i j) = refl
cleaned_in (Union Accessed i j) = refl
cleaned_in (Union Modified i j) = refl

-- so what is packed of them is kept
module _ (p : declared.Position) (f : PositionFits (fields_in p)) where
  pub kept_packed : kept_of (pack_position (fields_in p)) ≡ fields_in p
  kept_packed = ap cleaned (fields_packed (fields_in p) f) ∙ cleaned_in p

  pub kept_same : kept_of (pack_position (fields_in p)) ≡ fields_of (pack_position (fields_in p))
  kept_same = kept_packed ∙ sym (fields_packed (fields_in p) f)

-- FIELDS of any number fit their room
role_fits : (m : ℕ) → known_role m < roles
role_fits m =
    cond_cases (λ x. x < roles) (eqb m accessed_role) (λ _. omega arith)
    (λ _. cond_cases (λ x. x < roles) (eqb m modified_role) (λ _. omega arith) (λ _. omega arith))

cleaned_fits : (p : Position) → PositionFits p → PositionFits (cleaned p)
cleaned_fits p f =
    cond_cases PositionFits (eqb p.kind 0) (λ _. fitting (omega arith) (omega arith) (omega arith) (omega arith) (omega arith)
    (omega arith) (omega arith))
    (λ _. cond_cases PositionFits (eqb p.kind root_kind) (λ _. fitting (omega arith) (role_fits p.role) (omega arith) (omega arith) f.label
    (omega arith) (omega arith))
    (λ _. cond_cases PositionFits (eqb p.kind over_kind) (λ _. fitting (omega arith) (role_fits p.role) f.axis f.test
    (cond_cases (λ x. x < labels) (eqb p.test 3) (λ _. f.label) (λ _. omega arith)) f.first (omega arith))
    (λ _. fitting (omega arith) (role_fits p.role) (omega arith) (omega arith) (omega arith) f.first f.second)))
  where
    fitting : {q : Position} → q.kind < kinds → q.role < roles → q.axis < axes → q.test < tests → q.label < labels →
        q.first < max_positions → q.second < max_positions → PositionFits q
    fitting k m a t n i j = record { kind = k; role = m; axis = a; test = t; label = n; first = i; second = j }

pub fields_low : (w : ℕ) → PositionFits (fields_of w)
fields_low w =
    record {
      kind = omega arith;
      role = omega arith;
      axis = omega arith;
      test = omega arith;
      label = omega arith;
      first = omega arith;
      second = omega arith;
    }

pub kept_low : (w : ℕ) → PositionFits (kept_of w)
kept_low w = cleaned_fits (fields_of w) (fields_low w)

-- the entries of some of them
pub entries_in_length : (ws : List ℕ) (n : ℕ) → n ≤ length ws → length (entries_in ws n) ≡ n
entries_in_length ws n h = length-map (take n ws) entry_of ∙ length-take-le n ws h
