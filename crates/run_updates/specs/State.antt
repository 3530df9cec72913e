-- What the updates pass on, and the model's state that it stands for.
use Rattle.std.specs.Prelude.{◌≡◌, cond, List, [], ◌∷◌, ℕ, zero, suc, ◌+◌, ◌≤◌, eqb, length, get_or, take, drop, Result, Ok, Err}
use Rattle.model.specs.Limits.{max_rows, history_need}
use Rattle.model.specs.Refusal.{refusal}
use Rattle.model.specs.History.{Record, is_cut, times, AllInRange, history_bytes, history_size, record_in}
use Rattle.model.specs.Run.{State, state, Out, refused, gives}
use Rattle.model.specs.Leads.{Attained}
use Rattle.model.specs.Table.{Tree}
use Rattle.plan_table.specs.Packed.{decode_parts, Canonical, LinksCut}
use Rattle.plan_table.specs.Refusals.{number_of}
use Rattle.plan_table.specs.declared.Reason.{Reason}
use Rattle.run_updates.specs.Tallying.{none_yet}
use Rattle.run_updates.specs.declared.tally.Tally.{Tally}
use Rattle.run_updates.specs.declared.state.Progress as declared

-- RECORDS read off bytes, one after the other; fuel: as many as there are bytes
unfoldable pub records_from : ℕ → (bytes : List ℕ) → List Record
records_from zero b = []
records_from (suc k) b = cond (eqb (length b) 0) [] (record_in b ∷ records_from k (drop (history_size (get_or b 0 0)) b))

abbrev pub records_in : (bytes : List ℕ) → List Record
records_in b = records_from (length b) b

-- PROGRESS: the refusal's number, or 0; rows now; history bytes written; the tally so far
pub record Progress : Type 0 where
  pub number : ℕ
  pub count : ℕ
  pub bytes : ℕ
  pub tally : Tally

-- at a run's start, and with a refusal
abbrev pub started : (count : ℕ) → Progress
started n = record { number = 0; count = n; bytes = 0; tally = none_yet }

abbrev pub refused_with : Progress → (number : ℕ) → Progress
refused_with p n = record { number = n; count = p.count; bytes = p.bytes; tally = p.tally }

-- as the functions pass it on and answer it: nothing refused; or a reason, and for the rest the numbers of a start
abbrev pub going : declared.Progress → Progress
going p = record { number = 0; count = p.count; bytes = p.bytes; tally = p.tally }

abbrev pub came : Result declared.Progress Reason → Progress
came (Ok p) = going p
came (Err r) = refused_with (started 0) (number_of r)

-- THE STATE that rows, marks and history stand for
abbrev pub state_of : (rows marks history : List ℕ) → Progress → State
state_of ws ms h p = state (decode_parts p.count ws ms) (records_in (take p.bytes h))

-- the outcome: a value and the state after it, or the refusal at the place
abbrev pub outcome : (place : ℕ) → (items rows marks history : List ℕ) → Progress → Out
outcome z v ws ms h p = cond (eqb p.number 0) (gives v (state_of ws ms h p)) (refused (refusal p.number z))

-- WHAT EVERY UPDATE NEEDS AND KEEPS. The bytes written are records in range and nothing else, as many as the tally says
pub record Recorded (b : List ℕ) (t : Tally) : Type 0 where
  pub ranges : AllInRange (records_in b)
  pub bytes : history_bytes (records_in b) ≡ b
  pub records : length (records_in b) ≡ t.records
  pub cuts : times is_cut (records_in b) ≡ t.cut
  pub sum : t.made + t.cut ≡ t.records

-- the areas have their sizes, the rows their form; rows and records are a state come to by making rows and cutting links, which
-- bounds the records (the model's HistoryLaws); the marks are not in question
pub record Held (ws h : List ℕ) (p : Progress) : Type 0 where
  pub fine : p.number ≡ 0
  pub rows : length ws ≡ max_rows
  pub area : history_need ≤ length h
  pub few : p.count ≤ max_rows
  pub canonical : Canonical p.count ws
  pub tree : Tree (decode_parts p.count ws [])
  pub attained : Attained (state_of ws [] h p)
  pub written : p.bytes ≤ length h
  pub history : Recorded (take p.bytes h) p.tally

-- AFTER some updates: rows and records are only added, links only cut, and the area past the records is as it was
pub record After (ws h : List ℕ) (p : Progress) (ws' h' : List ℕ) (r : Progress) : Type 0 where
  pub held : Held ws' h' r
  pub rows : p.count ≤ r.count
  pub links : LinksCut p.count ws ws'
  pub bytes : p.bytes ≤ r.bytes
  pub area : length h' ≡ length h
  pub rest : (k : ℕ) → r.bytes ≤ k → drop k h' ≡ drop k h

-- UPDATED: what an update f of the model leaves, with the value v, for every place and all marks
pub record Updated (f : (place : ℕ) → State → Out) (v ws h : List ℕ) (p : Progress) (ws' h' : List ℕ) (r : Progress) : Type 0 where
  pub same : (z : ℕ) (ms : List ℕ) → outcome z v ws' ms h' r ≡ f z (state_of ws ms h p)
  pub after : r.number ≡ 0 → After ws h p ws' h' r
