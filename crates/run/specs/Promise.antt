-- The demands on what the call `run` gives back and leaves. Each is a type; its proof is in proofs/Promised.
use Rattle.std.specs.Prelude.{◌≡◌, true, false, List, ℕ, length, replicate}
use Rattle.model.specs.Base.{are_bytes}
use Rattle.model.specs.Meeting.{free}
use Rattle.model.specs.Refusal.{lent_short}
use Rattle.model.specs.Call.{Ran, answered, analyse, areas_fit, run_call, unfit_run, TallyFits, is_of_call, OrdersAgree, Areas, AllSuffice}
use Rattle.plan_table.specs.Results.{refusal_of}
use Rattle.plan_table.specs.Packed.{decode, fits}
use Rattle.plan_table.specs.declared.Table.{Table}
use Rattle.run.specs.Calls.{ran, run_result}

-- DEMAND 2: on a table that fits, what the call leaves is the model's call on the table that it stands for
abbrev pub RunsAsCalled : Type 0
RunsAsCalled = (t : Table) (b a h w : List ℕ) → fits t ≡ true → ran t b a h w ≡ run_call (decode t) b a h w

-- a table that does not fit: 11 first, then 6 at place 0, as document 03 has it of a grid
abbrev pub RunsUnfit : Type 0
RunsUnfit = (t : Table) (b a h w : List ℕ) → fits t ≡ false → ran t b a h w ≡ unfit_run (decode t) a h w

-- and the table given back fits and stands for the model's
abbrev pub RunsOn : Type 0
RunsOn =
    (t : Table) (b a h w : List ℕ) → are_bytes b ≡ true → fits t ≡ true →
    (fits (run_result t b a h w).table ≡ true) × (decode (run_result t b a h w).table ≡ (run_call (decode t) b a h w).plan)

-- REQUEST (h): whatever the call is given, the tally and the bytes that it tells of are within the bound
abbrev pub RunsFit : Type 0
RunsFit = (t : Table) (b a h w : List ℕ) → TallyFits (ran t b a h w)

-- DEMAND 1: refused, the table is as it was handed in, well formed or not
abbrev pub RefusedGivesBack : Type 0
RefusedGivesBack = (t : Table) (b a h w : List ℕ) → ((run_result t b a h w).refusal.number ≡ 0 → ⊥) → (run_result t b a h w).table ≡ t

-- in areas of which one is too short, the refusal is 11 at place 0 and the areas are as they were; else answer, history and work are zero,
-- and the refusal is another one of the table: 1 to 8, or 10
abbrev pub RefusedLeaves : Type 0
RefusedLeaves =
    (t : Table) (b a h w : List ℕ) →
    (areas_fit a h w ≡ false →
    ((run_result t b a h w).refusal ≡ refusal_of lent_short) ×
    ((ran t b a h w).answer ≡ a) × ((ran t b a h w).history ≡ h) × ((ran t b a h w).work ≡ w)) ×
    (areas_fit a h w ≡ true → ((run_result t b a h w).refusal.number ≡ 0 → ⊥) →
    (is_of_call (run_result t b a h w).refusal.number ≡ true) ×
    ((ran t b a h w).answer ≡ replicate (length a) 0) × ((ran t b a h w).history ≡ replicate (length h) 0) ×
    ((ran t b a h w).work ≡ replicate (length w) 0))

-- DEMAND 3: what a call in these areas leaves, and the table that it gives back
abbrev pub ran_in : Table → (script : List ℕ) → Areas → Ran
ran_in t b k = ran t b k.answer k.history k.work

-- the table
abbrev pub table_after : Table → (script : List ℕ) → Areas → Table
table_after t b k = (run_result t b k.answer k.history k.work).table

-- both orders of two scripts' calls, the second on the table that the first gave back
abbrev pub EitherRun : (first second : List ℕ) → Table → (one oneThen two twoThen : Areas) → Type 0
EitherRun b c t k k' l l' =
    OrdersAgree (decode t) (ran_in t b k) (ran_in (table_after t b k) c k') (ran_in t c l) (ran_in (table_after t c l) b l')

-- of two scripts of which the analysis says free, each of the four calls in areas of its own
abbrev pub RunsCommute : Type 0
RunsCommute =
    (b c : List ℕ) (t : Table) (k k' l l' : Areas) → are_bytes b ≡ true → are_bytes c ≡ true → analyse b c ≡ answered free →
    fits t ≡ true → AllSuffice k k' l l' → EitherRun b c t k k' l l'
