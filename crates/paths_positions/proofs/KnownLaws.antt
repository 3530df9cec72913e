-- A packed position's entry by the fields that its kind has is that by all of them, with a name only where its step's test is for one, and
-- without a role where it is nothing. So `push` puts the same entry behind the others by either reading.
use mathlib.Core.Path.{◌≡◌, refl, ap, sym, ◌∙◌}
use mathlib.Core.Bool.{Bool}
use mathlib.Core.List.{List, [], ◌∷◌, ◌++◌, map, map-append}
use Prim.Native.Nat.{ℕ, ◌+◌, ◌<◌}
use native.Mathlib.Omega.{arith}
use lib.ListN.{take}
use Rattle.model.specs.Script.{step_by}
use Rattle.script_records.specs.declared.step.Test.{Test}
use Rattle.script_records.specs.declared.step.Test.TheVariants.{Node, Element, Leaf, Named}
use Rattle.script_records.specs.Steps.{test_number}
use Rattle.paths_positions.specs.Positions as positions
use Rattle.paths_positions.specs.Positions.{nowhere, root, over, union, Entry, plain}
use Rattle.paths_positions.specs.declared.packed.Fields.{Fields as Position}
use Rattle.paths_positions.specs.declared.packed.Position as declared
use Rattle.paths_positions.specs.declared.packed.Position.TheVariants.{Nothing, Root, Over, Union}
use Rattle.paths_positions.specs.Packed.{tests, entry_by, fields_in, fields_of, cleaned, entry_of, kept_entry, entries_in, PushPost}
use Rattle.paths_positions.proofs.CleanLaws.{by_kind, known_accessed, known_modified}
use Rattle.paths_positions.proofs.CleanMeetLaws.{known_position, name_known}
use Rattle.paths_positions.proofs.PackedLaws.{cleaned_in}

-- AN ENTRY with such a position; nothing has no role
abbrev pub known_as : positions.Position → (accessed modified : Bool) → Entry
known_as nowhere a m = plain nowhere
known_as p a m = record { position = known_position p; accessed = a; modified = m }

abbrev pub known_entry : Entry → Entry
known_entry x = known_as x.position x.accessed x.modified

entry_cleaned : (p : Position) → p.test < tests → entry_by (cleaned p) ≡ known_entry (entry_by p)
entry_cleaned p h =
    let a = known_accessed p.role in
    let m = known_modified p.role in
    by_kind p.kind (λ k. rw k)
    (λ k. rw k (λ z. record { position = root p.label; accessed = a z; modified = m z }))
    (λ k. rw k (λ z. record {
      position = over (step_by p.axis p.test (name_known p.axis p.test p.label h z)) p.first;
      accessed = a z;
      modified = m z;
    }))
    (λ k l n. rw (k, l, n) (λ z. record { position = union p.first p.second; accessed = a z; modified = m z }))

kept_known : (w : ℕ) → kept_entry w ≡ known_entry (entry_of w)
kept_known w = entry_cleaned (fields_of w) (omega arith)

-- ENTRIES
pub kept_all : (ws : List ℕ) → map kept_entry ws ≡ map known_entry (map entry_of ws)
kept_all [] = refl
kept_all (w ∷ ws) = λ z. kept_known w z ∷ kept_all ws z

-- the first ones
abbrev pub kept_entries_in : (packed : List ℕ) → (count : ℕ) → List Entry
kept_entries_in ws n = map kept_entry (take n ws)

-- PUSHED: the code's positions have no other fields
test_low : (t : Test) → test_number t < tests
test_low Node = omega arith
test_low Element = omega arith
test_low Leaf = omega arith
test_low (Named n) = omega arith

pushed_known : (p : declared.Position) → known_entry (entry_by (fields_in p)) ≡ entry_by (fields_in p)
pushed_known p = sym (entry_cleaned (fields_in p) (low p)) ∙ ap entry_by (cleaned_in p)
  where
    low : (q : declared.Position) → (fields_in q).test < tests
    low Nothing = omega arith
    low (Root m d) = omega arith
    low (Over m s i) = test_low s.test
    low (Union m i j) = omega arith

pub push_kept : {ws ws' : List ℕ} {n n' r : ℕ} (p : declared.Position) → PushPost ws n (fields_in p) ws' n' r →
    kept_entries_in ws' (n + 1) ≡ kept_entries_in ws n ++ (entry_by (fields_in p) ∷ [])
push_kept {ws} {ws'} {n} p post =
    kept_all (take (n + 1) ws') ∙ ap (map known_entry) post.entries ∙
    map-append known_entry (entries_in ws n) (entry_by (fields_in p) ∷ []) ∙
    ap (λ (es : List Entry). es ++ (known_entry (entry_by (fields_in p)) ∷ [])) (sym (kept_all (take n ws))) ∙
    ap (λ (x : Entry). kept_entries_in ws n ++ (x ∷ [])) (pushed_known p)
