-- What a run can do to a state: a new row where there is room, cuts, one after the other; and the states that are come to by it.
use mathlib.Core.Path.{◌≡◌, refl}
use mathlib.Core.List.{List, [], ◌∷◌}
use mathlib.Core.Option.{Option, none, some}
use Prim.Native.Nat.{ℕ, ◌≤◌, ◌<◌}
use native.Mathlib.Omega.{arith}
use borrow.Author.Tests.{lt-ltb, le-ltb}
use Rattle.model.specs.Limits.{max_rows}
use Rattle.model.specs.Refusal.{table_at}
use Rattle.model.specs.Table.{Row, Table, row_at, count}
use Rattle.model.specs.Run.{State, state, refused, gives, new_row, with_made, cut_row, cut_by, cut_all}
use Rattle.model.specs.Leads.{Leads, begun, row_made, link_cut, AnyRow, Attained}
use Rattle.model.proofs.GrowLaws.{count_with_row, count_linked}

-- A NEW ROW, with room and without
module _ (z : ℕ) (r : Row) (s : State) where
  pub new_row_full : max_rows ≤ count s.plan → new_row z r s ≡ refused (table_at z)
  new_row_full h = rw (le-ltb (count s.plan) max_rows h)

  pub new_row_room : count s.plan < max_rows → new_row z r s ≡ gives (count s.plan ∷ []) (with_made s r)
  new_row_room h = rw (lt-ltb (count s.plan) max_rows h)

-- FROM A STATE TO A LATER ONE
module _ {F : Table → Row → Type 0} {a : State} where
  pub leads_then : {b c : State} → Leads F a b → Leads F b c → Leads F a c
  leads_then r begun = r
  leads_then r (row_made s w q l f) = row_made s w (leads_then r q) l f
  leads_then r (link_cut s i p q e) = link_cut s i p (leads_then r q) e

  -- rows are only added, and never past the limit
  pub leads_more : {s : State} → Leads F a s → count a.plan ≤ count s.plan
  leads_more begun = omega arith
  leads_more (row_made s w q l f) = omega (arith, leads_more q, count_with_row s.plan w)
  leads_more (link_cut s i p q e) = omega (arith, leads_more q, count_linked s.plan i none)

  pub leads_few : {s : State} → count a.plan ≤ max_rows → Leads F a s → count s.plan ≤ max_rows
  leads_few h begun = h
  leads_few h (row_made s w q l f) = omega (arith, count_with_row s.plan w)
  leads_few h (link_cut s i p q e) = omega (arith, leads_few h q, count_linked s.plan i none)

-- what is admitted by one is admitted by the other
pub leads_imp : {F G : Table → Row → Type 0} {a s : State} → ((x : Table) (r : Row) → F x r → G x r) → Leads F a s → Leads G a s
leads_imp h begun = begun
leads_imp h (row_made s r q l f) = row_made s r (leads_imp h q) l (h s.plan r f)
leads_imp h (link_cut s i p q e) = link_cut s i p (leads_imp h q) e

-- cuts lead on
module _ {F : Table → Row → Type 0} where
  pub cut_leads : (i : ℕ) (s : State) (o : Option ℕ) → (row_at s.plan i).parent ≡ o → Leads F s (cut_by i s o)
  cut_leads i s none e = begun
  cut_leads i s (some p) e = link_cut s i p begun e

  pub cuts_lead : (v : List ℕ) (s : State) → Leads F s (cut_all v s)
  unfolding cut_all
  cuts_lead [] s = begun
  cuts_lead (i ∷ is) s = leads_then (cut_leads i s (row_at s.plan i).parent refl) (cuts_lead is _)

-- STATES COME TO: at the start; later ones; after a row more, after a cut
pub attained_start : (x : Table) → count x ≤ max_rows → Attained (state x [])
attained_start x h = (x, (h, begun))

module _ {s : State} (a : Attained s) where
  pub attained_then : {t : State} → Leads AnyRow s t → Attained t
  attained_then r = let (x, q) = a in (x, (q.0, leads_then q.1 r))

  pub attained_row : (r : Row) → count s.plan < max_rows → Attained (with_made s r)
  attained_row r l = attained_then (row_made s r begun l tt)

  pub attained_cut : (i p : ℕ) → (row_at s.plan i).parent ≡ some p → Attained (cut_row s i p)
  attained_cut i p e = attained_then (link_cut s i p begun e)
