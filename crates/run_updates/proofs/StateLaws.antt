-- What is held, and how it goes on: a record appended, the start; updates one after the other, and refused.
use mathlib.Core.Path.{◌≡◌, refl, ap, ap₂, sym, ◌∙◌, subst}
use mathlib.Core.Bool.{true}
use mathlib.Core.List.{List, [], ◌∷◌, ◌++◌}
use mathlib.Core.Option.{none-ne-some}
use Prim.Native.Nat.{ℕ, ◌+◌, ◌*◌, ◌≤◌, ◌<◌}
use native.Mathlib.Omega.{arith}
use lib.ListN.{length, take, drop}
use lib.Seq.{length-take-le}
use Rattle.model.specs.Refusal.{refusal}
use Rattle.model.specs.Table as model
use Rattle.model.specs.History.{Record, record_bytes, history_bytes, IsInRange, times}
use Rattle.model.specs.Run.{State, state, Out, refused, gives, then_row}
use Rattle.model.proofs.BoolLaws.{cond_eq, cond_ne}
use Rattle.model.specs.Leads.{Attained}
use Rattle.model.proofs.LeadsLaws.{attained_start}
use Rattle.model.proofs.HistoryLaws.{attained_length, attained_bytes}
use Rattle.model.specs.Table.{Tree}
use Rattle.model.specs.Base.{nothing, over}
use Rattle.plan_table.specs.Packed.{decode_parts, parts_fit, Canonical, LinksCut}
use Rattle.plan_table.proofs.PackedLaws.{count_decode}
use Rattle.plan_table.proofs.LinkLaws.{links_same, links_then}
use Rattle.model.proofs.ListLaws.{length_over}
use Rattle.model.specs.Limits.{max_rows, history_need}
use Rattle.plan_table.proofs.FittedLaws.{fits_at}
use Rattle.run_updates.specs.declared.tally.Tally.{Tally}
use Rattle.run_updates.specs.State.{Progress, records_from, records_in, started, state_of, outcome, Recorded, Held, After, Updated}
use Rattle.run_updates.proofs.HistoryLaws.{records_in_push, grown_length, grown_records, take_over, drop_over}

-- A RECORD APPENDED to what is held, where the state after it is one come to: so there is room for it
module _ {ws h : List ℕ} {p : Progress} (held : Held ws h p) (r : Record) (f : IsInRange r) (n : ℕ)
    (size : length (record_bytes r) ≡ n) {y : model.Table} (a : Attained (state y (records_in (take p.bytes h) ++ (r ∷ [])))) where
  pub append_room : p.bytes + n ≤ length h
  append_room =
      omega (
        arith,
        held.area,
        size,
        length-take-le p.bytes h held.written,
        grown_length (take p.bytes h) p.tally held.history r f,
        attained_bytes a,
      )

  pub append_few : p.tally.records < 2 * max_rows
  append_few = omega (arith, grown_records (take p.bytes h) p.tally held.history r f, attained_length a)

  room : p.bytes + length (record_bytes r) ≤ length h
  room = omega (arith, append_room, size)

  append_area : length (over p.bytes (record_bytes r) h) ≡ length h
  append_area = length_over p.bytes (record_bytes r) h room

  append_rest : (k : ℕ) → p.bytes + n ≤ k → drop k (over p.bytes (record_bytes r) h) ≡ drop k h
  append_rest k g = drop_over h p.bytes (record_bytes r) room k (omega (arith, size))

  append_written : take (p.bytes + n) (over p.bytes (record_bytes r) h) ≡ take p.bytes h ++ record_bytes r
  append_written =
      ap (λ (j : ℕ). take (p.bytes + j) (over p.bytes (record_bytes r) h)) (sym size) ∙ take_over h p.bytes (record_bytes r) room

  pub append_records : records_in (take (p.bytes + n) (over p.bytes (record_bytes r) h)) ≡ records_in (take p.bytes h) ++ (r ∷ [])
  append_records = ap records_in append_written ∙ records_in_push (take p.bytes h) p.tally held.history r f

  -- beside it the rows are others, and no fewer
  pub append_after : {t : Tally} → Recorded (take p.bytes h ++ record_bytes r) t → {ws' : List ℕ} {c : ℕ} → length ws' ≡ length ws →
      p.count ≤ c → LinksCut p.count ws ws' → c ≤ max_rows → Canonical c ws' → Tree (decode_parts c ws' []) →
      decode_parts c ws' [] ≡ y →
      After ws h p ws' (over p.bytes (record_bytes r) h) (record { number = 0; count = c; bytes = p.bytes + n; tally = t })
  append_after {t} recorded rows grown links few canonical tree table =
      record {
        held =
            record {
              fine = refl;
              rows = rows ∙ held.rows;
              area = omega (arith, held.area, append_area);
              few = few;
              canonical = canonical;
              tree = tree;
              attained = subst Attained (sym (ap₂ state table append_records)) a;
              written = omega (arith, append_room, append_area);
              history = subst (λ (b : List ℕ). Recorded b t) (sym append_written) recorded;
            };
        rows = grown;
        links = links;
        bytes = omega arith;
        area = append_area;
        rest = append_rest;
      }

-- THE START on a table that fits, with an empty history
tree_rows : (n : ℕ) (ws ms : List ℕ) → Tree (decode_parts n ws ms) → Tree (decode_parts n ws [])
tree_rows n ws ms t =
    record {
      tags = t.tags;
      parents = t.parents;
      roots = λ d i e. absurd (none-ne-some i e);
      once = λ d e i p q. absurd (none-ne-some i p);
    }

pub held_start : (n : ℕ) (ws ms h : List ℕ) → parts_fit n ws ms ≡ true → length ws ≡ max_rows → history_need ≤ length h →
    Held ws h (started n)
unfolding records_from history_bytes times
held_start n ws ms h f l a =
    let k = fits_at n ws ms f in
    record {
      fine = refl;
      rows = l;
      area = omega (arith, a);
      few = k.few;
      canonical = k.canonical l;
      tree = tree_rows n ws ms k.well.tree;
      attained = attained_start (decode_parts n ws []) (omega (arith, count_decode n ws [] (omega (arith, k.few, l)), k.few));
      written = omega arith;
      history = record { ranges = nothing; bytes = refl; records = refl; cuts = refl; sum = refl };
    }

pub state_start : (n : ℕ) (ws ms h : List ℕ) → state_of ws ms h (started n) ≡ state (decode_parts n ws ms) []
unfolding records_from
state_start n ws ms h = refl

-- ONE AFTER THE OTHER
pub after_self : {ws h : List ℕ} {p : Progress} → Held ws h p → After ws h p ws h p
after_self {ws} {h} {p} a =
    record { held = a; rows = omega arith; links = links_same p.count ws; bytes = omega arith; area = refl; rest = λ k l. refl }

pub after_then : {ws₀ h₀ : List ℕ} {p₀ : Progress} {ws h : List ℕ} {p : Progress} {ws' h' : List ℕ} {r : Progress} →
    After ws₀ h₀ p₀ ws h p → After ws h p ws' h' r → After ws₀ h₀ p₀ ws' h' r
after_then {p = p} a b =
    record {
      held = b.held;
      rows = omega (arith, a.rows, b.rows);
      links = links_then a.rows a.links b.links;
      bytes = omega (arith, a.bytes, b.bytes);
      area = b.area ∙ a.area;
      rest = λ k l. let g : p.bytes ≤ k = omega (arith, b.bytes) in b.rest k l ∙ a.rest k g;
    }

-- the rows that are held: in their area, and as a number of the model
pub held_within : {ws h : List ℕ} {p : Progress} → Held ws h p → p.count ≤ length ws
held_within held = omega (arith, held.few, held.rows)

pub held_count : {ws h : List ℕ} {p : Progress} → Held ws h p → (ms : List ℕ) → model.count (decode_parts p.count ws ms) ≡ p.count
held_count {ws} {h} {p} held ms = count_decode p.count ws ms (held_within held)

-- WHAT AN OUTCOME IS: a value and a state, or a refusal
pub outcome_gives : (z : ℕ) (v ws ms h : List ℕ) (p : Progress) → p.number ≡ 0 → outcome z v ws ms h p ≡ gives v (state_of ws ms h p)
outcome_gives z v ws ms h p e = cond_eq _ _ e

pub outcome_refused : (z : ℕ) (v ws ms h : List ℕ) (p : Progress) → (p.number ≡ 0 → ⊥) →
    outcome z v ws ms h p ≡ refused (refusal p.number z)
outcome_refused z v ws ms h p e = cond_ne _ _ e

-- an outcome, and then the rest: as the rest goes on from the state
pub then_goes : (f : State → Out) (z : ℕ) (v ws ms h : List ℕ) (p : Progress) → p.number ≡ 0 → {y : Out} →
    then_row (outcome z v ws ms h p) f ≡ y → f (state_of ws ms h p) ≡ y
then_goes f z v ws ms h p n e = sym (ap (λ (o : Out). then_row o f) (outcome_gives z v ws ms h p n)) ∙ e

-- REFUSED, the areas may be anything
module _ {f : ℕ → State → Out} {v ws h : List ℕ} {p : Progress} {ws' h' : List ℕ} {r : Progress} where
  -- then the rest is not reached
  pub then_refused : (g : ℕ → List ℕ → State → Out) (u : List ℕ) → (r.number ≡ 0 → ⊥) →
      ((z : ℕ) (ms : List ℕ) → then_row (outcome z u ws' ms h' r) (g z ms) ≡ f z (state_of ws ms h p)) → Updated f v ws h p ws' h' r
  then_refused g u n e =
      record {
        same = λ z ms.
            outcome_refused z v ws' ms h' r n ∙ sym (ap (λ (o : Out). then_row o (g z ms)) (outcome_refused z u ws' ms h' r n)) ∙ e z ms;
        after = λ q. absurd (n q);
      }
