-- What the analysis of two scripts answers, for every input.
use Rattle.std.specs.Prelude.{◌≡◌, List, ℕ, ◌≤◌, length, get_or, Result, Ok, Err}
use Prim.Native.String.{String}
use Rattle.model.specs.Limits.{max_depth}
use Rattle.model.specs.Script.{Expr}
use Rattle.model.specs.Meeting.{Answer, free, upward, meet, answer}
use Rattle.model.specs.Call as model
use Rattle.model.specs.Refusal.{Refusal, Values, values}
use Rattle.plan_table.specs.Refusals.{refusal_in, script_number}
use Rattle.plan_table.specs.Results.{refusal_of}
use Rattle.script_records.specs.Walk.{expr_at}
use Rattle.script.specs.Reading.{script_read}
use Rattle.paths_positions.specs.Positions.{entries_of}
use Rattle.paths_positions.specs.Packed.{entries_in, entries_by}
use Rattle.paths_positions.specs.Steps.{max_positions}
use Rattle.paths.specs.declared.Answer as declared
use Rattle.paths.specs.declared.Answer.TheVariants as said
use Rattle.paths.specs.declared.ScriptRefused.{ScriptRefused}

-- WHAT THE CALL SAYS: the script refused, 1 or 2, with its refusal; or whether the two are free of one another
pub data Analysis : Type 0 where
  Refused : (script : ℕ) → Refusal → Analysis
  Free : Analysis
  Upward : Analysis
  Meet : Analysis

-- by the answer that the code gives
abbrev pub answer_by : declared.Answer → Analysis
answer_by said.Free = Free
answer_by said.Upward = Upward
answer_by said.Meet = Meet

-- by its result
abbrev pub analysis_by : Result declared.Answer ScriptRefused → Analysis
analysis_by (Ok a) = answer_by a
analysis_by (Err x) = Refused (script_number x.script) (refusal_in x.refusal)

-- the case of each answer
abbrev pub by_answer : Answer → Analysis
by_answer free = Free
by_answer upward = Upward
by_answer meet = Meet

-- the case of each of the model's analyses: the script refused with its refusal, or the answer
abbrev pub analysis_of : model.Analysis → Analysis
analysis_of (model.refused_by s x) = Refused s (refusal_of x)
analysis_of (model.answered a) = by_answer a

-- THE ANALYSIS of the bytes of two scripts is the model's
abbrev pub analysed : (first second : List ℕ) → Analysis
analysed b c = analysis_of (model.analyse b c)

-- DOCUMENT 01 for each case: a refusal's number, which script is refused, and the place; else number 0, and which answer it is
abbrev pub values_of : Analysis → Values
values_of (Refused s f) = values f.number s f.place
values_of Free = values 0 0 0
values_of Upward = values 0 1 0
values_of Meet = values 0 2 0

-- and an answer's text
abbrev pub answer_text : Analysis → String
answer_text (Refused s f) = ""
answer_text Free = "free"
answer_text Upward = "upward"
answer_text Meet = "meet"

-- THE POSITIONS of an accepted script, packed, where only the first was there, zero
pub record ScriptPre (b ws : List ℕ) (n : ℕ) : Type 0 where
  pub accepted : (script_read b).number ≡ 0
  pub size : length ws ≡ max_positions
  pub zero : get_or ws 0 0 ≡ 0
  pub count : n ≡ 1

pub record ScriptPost (b ws' : List ℕ) (n : ℕ) : Type 0 where
  pub size : length ws' ≡ max_positions
  pub few : n ≤ max_positions
  pub entries : entries_in ws' n ≡ entries_of (expr_at max_depth b 0)

-- THE ANSWER from the positions of two expressions
pub record AnswerPost (ws us : List ℕ) (r : Analysis) : Type 0 where
  pub is : (e f : Expr) → entries_by ws ≡ entries_of e → entries_by us ≡ entries_of f → r ≡ by_answer (answer e f)
