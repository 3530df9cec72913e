-- The fields that the kind has say what all of them say, for any number: whether it leads up; the role, of each kind but nothing; and the
-- position, but for a name that is stored where the test is for none.
use mathlib.Core.Path.{◌≡◌, refl, ap, sym, ◌∙◌}
use mathlib.Core.Bool.{Bool, false}
use mathlib.Core.List.{List}
use Prim.Native.Nat.{ℕ}
use lib.Dec.{eqb}
use lib.ListN.{length, get_or, get_or-map}
use borrow.Author.Tests.{ne_eqb}
use Rattle.model.proofs.BoolLaws.{eq_cases, cond_cases}
use Rattle.model.specs.Script.{step_by}
use Rattle.paths_positions.specs.Positions.{over, Entry, leads_up, entry_at}
use Rattle.paths_positions.specs.Answer.{any_up_to}
use Rattle.paths_positions.specs.declared.packed.Fields.{Fields as Position}
use Rattle.paths_positions.specs.Packed.{position_by, entry_by, root_kind, over_kind, accessed_role, modified_role}
use Rattle.paths_positions.specs.Packed.{known_role, known_name, fields_of, cleaned, entry_of, kept_entry, kept_entries_by}
use Rattle.paths_positions.specs.Packed.{leads_up_at, some_leads_up}
use Rattle.paths_positions.proofs.AnyUpToLaws.{any_up_to_same}

-- BY KIND
pub by_kind : {P : Type 0} (k : ℕ) → (k ≡ 0 → P) → (k ≡ root_kind → P) → (k ≡ over_kind → P) →
    (eqb k 0 ≡ false → eqb k root_kind ≡ false → eqb k over_kind ≡ false → P) → P
by_kind k f g h i =
    eq_cases k 0 f
    (λ a. eq_cases k root_kind g
    (λ b. eq_cases k over_kind h (λ c. i (ne_eqb k 0 a) (ne_eqb k root_kind b) (ne_eqb k over_kind c))))

-- ROLES
pub known_accessed : (m : ℕ) → eqb (known_role m) accessed_role ≡ eqb m accessed_role
known_accessed m =
    eq_cases m accessed_role (λ e. rw e)
    (λ n. eq_cases m modified_role (λ e. rw e) (λ o. rw (ne_eqb m accessed_role n, ne_eqb m modified_role o)))

pub known_modified : (m : ℕ) → eqb (known_role m) modified_role ≡ eqb m modified_role
known_modified m =
    eq_cases m accessed_role (λ e. rw e)
    (λ n. eq_cases m modified_role (λ e. rw e) (λ o. rw (ne_eqb m accessed_role n, ne_eqb m modified_role o)))

module _ (p : Position) where
  pub leads_up_cleaned : leads_up (position_by (cleaned p)) ≡ leads_up (position_by p)
  leads_up_cleaned = by_kind p.kind (λ e. rw e) (λ e. rw e) (λ e. rw e) (λ a b c. rw (a, b, c))

  pub accessed_cleaned : (p.kind ≡ 0 → ⊥) → (entry_by (cleaned p)).accessed ≡ (entry_by p).accessed
  accessed_cleaned some =
      by_kind p.kind (λ e. absurd (some e)) (λ e. rw e (known_accessed p.role)) (λ e. rw e (known_accessed p.role))
      (λ a b c. rw (a, b, c) (known_accessed p.role))

  pub modified_cleaned : (p.kind ≡ 0 → ⊥) → (entry_by (cleaned p)).modified ≡ (entry_by p).modified
  modified_cleaned some =
      by_kind p.kind (λ e. absurd (some e)) (λ e. rw e (known_modified p.role)) (λ e. rw e (known_modified p.role))
      (λ a b c. rw (a, b, c) (known_modified p.role))

  -- a step's name is what is stored where its test is for a name, and where no name is stored
  name_known : known_name p.test p.label ≡ p.label → position_by (cleaned p) ≡ position_by p
  name_known e =
      by_kind p.kind (λ k. rw k) (λ k. rw k)
      (λ k. rw k (ap (λ (n : ℕ). over (step_by p.axis p.test n) p.first) e)) (λ a b c. rw (a, b, c))

  pub named_cleaned : p.test ≡ 3 → position_by (cleaned p) ≡ position_by p
  named_cleaned e = name_known (rw e)

  pub nameless_cleaned : p.label ≡ 0 → position_by (cleaned p) ≡ position_by p
  nameless_cleaned e =
      name_known (cond_cases (λ (n : ℕ). n ≡ p.label) (eqb p.test 3) (λ _. refl) (λ _. sym e))

-- A LIST of packed positions: one of them leads up where one does by the fields that its kind has
abbrev pub kept_leads_up_at : (packed : List ℕ) → (number : ℕ) → Bool
kept_leads_up_at ws k = leads_up (entry_at (kept_entries_by ws) k).position

kept_leads_up_same : (ws : List ℕ) (k : ℕ) → leads_up_at ws k ≡ kept_leads_up_at ws k
kept_leads_up_same ws k =
    ap (λ (x : Entry). leads_up x.position) (get_or-map entry_of ws k 0) ∙ sym (leads_up_cleaned (fields_of (get_or ws k 0))) ∙
    ap (λ (x : Entry). leads_up x.position) (sym (get_or-map kept_entry ws k 0))

pub some_leads_up_kept : (ws : List ℕ) → some_leads_up ws ≡ any_up_to (kept_leads_up_at ws) (length ws)
some_leads_up_kept ws = any_up_to_same (leads_up_at ws) (kept_leads_up_at ws) (length ws) (kept_leads_up_same ws)
