-- The fields of an accepted record are in range.
use mathlib.Core.Path.{◌≡◌}
use mathlib.Core.Bool.{true, ◌&&◌}
use mathlib.Core.List.{List}
use Prim.Native.Nat.{ℕ, ◌+◌, ◌≤◌, ◌<◌}
use lib.Dec.{ltb}
use lib.ListN.{get_or}
use lib.Seq.{get_or-drop}
use borrow.Author.Tests.{ltb-true}
use Rattle.model.specs.Limits.{documents, max_name}
use Rattle.model.specs.Script.{document_kind, variable_kind, step_kind, new_element_kind, pick_kind, test_fits}
use Rattle.model.proofs.ListLaws.{drop_first}
use Rattle.model.proofs.BoolLaws.{and_left, and_right}
use Rattle.model.proofs.TestLaws.{is_in_at}
use Rattle.script.specs.Accepted.{RecordFits}

module _ {b : List ℕ} {at left v : ℕ} (f : RecordFits b at left v) where
  pub document_number : get_or b at 0 ≡ document_kind → get_or b (at + 1) 0 < documents
  document_number e =
      ltb-true (get_or b (at + 1) 0) documents (rw (drop_first b at, e, get_or-drop at b 1 0) at f.fields)

  pub variable_number : get_or b at 0 ≡ variable_kind → get_or b (at + 1) 0 < v
  variable_number e = ltb-true (get_or b (at + 1) 0) v (rw (drop_first b at, e, get_or-drop at b 1 0) at f.fields)

  step_fields : get_or b at 0 ≡ step_kind → (ltb (get_or b (at + 1) 0) 4 && test_fits (get_or b (at + 2) 0) (get_or b (at + 3) 0)) ≡ true
  step_fields e = rw (drop_first b at, e, get_or-drop at b 1 0, get_or-drop at b 2 0, get_or-drop at b 3 0) at f.fields

  pub step_axis : get_or b at 0 ≡ step_kind → get_or b (at + 1) 0 < 4
  step_axis e =
      let h = and_left (ltb (get_or b (at + 1) 0) 4) (test_fits (get_or b (at + 2) 0) (get_or b (at + 3) 0)) (step_fields e) in
      ltb-true (get_or b (at + 1) 0) 4 h

  pub step_test : get_or b at 0 ≡ step_kind → test_fits (get_or b (at + 2) 0) (get_or b (at + 3) 0) ≡ true
  step_test e = and_right (ltb (get_or b (at + 1) 0) 4) (test_fits (get_or b (at + 2) 0) (get_or b (at + 3) 0)) (step_fields e)

  pub element_name : get_or b at 0 ≡ new_element_kind → (1 ≤ get_or b (at + 1) 0) × (get_or b (at + 1) 0 ≤ max_name)
  element_name e = is_in_at 1 max_name (get_or b (at + 1) 0) (rw (drop_first b at, e, get_or-drop at b 1 0) at f.fields)

  pub pick_relation : get_or b at 0 ≡ pick_kind → get_or b (at + 1) 0 < 3
  pick_relation e = ltb-true (get_or b (at + 1) 0) 3 (rw (drop_first b at, e, get_or-drop at b 1 0) at f.fields)
