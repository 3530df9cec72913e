-- The whole analysis: what each call asks is there, and each way out is the model's answer.
use mathlib.Core.Path.{◌≡◌, ap, sym, ◌∙◌, subst}
use mathlib.Core.Bool.{Bool, true, false, ◌||◌, cond, false≢true}
use mathlib.Core.List.{List, [], ◌∷◌, map}
use Prim.Native.Nat.{ℕ, ◌*◌, ◌≤◌}
use native.Mathlib.Nat.{mul_comm, mul_assoc, mul-le-mul_left}
use native.Mathlib.Omega.{arith}
use lib.ListN.{length, get_or, take}
use lib.Seq.{take-suc, length-take-le}
use Rattle.std.specs.Prelude.{Result, Ok, Err}
use Rattle.std.specs.Result.{is_ok}
use Rattle.plan_table.specs.Results.{refusal_by}
use Rattle.plan_table.specs.declared.Refusal as error
use Rattle.model.specs.Script.{Expr, Parsed, read_script}
use Rattle.model.specs.Paths.{has_up}
use Rattle.model.specs.Meeting.{free, meet, answer}
use Rattle.model.specs.Call.{first_by, second_by}
use Rattle.model.specs.Limits.{max_depth, max_binders}
use Rattle.model.specs.Refusal.{Refusal}
use Rattle.script_records.specs.Walk.{expr_at}
use Rattle.script.specs.Reading.{script_read}
use Rattle.script.proofs.ScriptLaws.{script_accepted, script_parsed, read_refused}
use Rattle.paths_positions.specs.Positions.{Entry, Emitted, emit, AreLower, entries_before, entries_of, paths_from}
use Rattle.paths_positions.specs.Answer.{positions_meet}
use Rattle.paths_positions.specs.Packed.{entry_of, entries_in, entries_by, some_leads_up}
use Rattle.paths_cells.specs.Pairs.{relations, cleared}
use Rattle.paths_cells.proofs.MarkLaws.{has_rows, cleared_at}
use Rattle.paths_positions.specs.Steps.{max_positions}
use Rattle.paths_fill.specs.Filling.{PositionsPre, TablePre}
use Rattle.paths_emit.specs.Emitting.{emitter, EmitPre, EmitPost}
use Rattle.paths.specs.Analysis.{Analysis, Refused, Upward, by_answer, analysis_of, analysed, ScriptPre, ScriptPost, AnswerPost}
use Rattle.paths_positions.proofs.AnswerLaws.{emitted_right, answer_by_lem, answer_turned}
use Rattle.paths_positions.proofs.UpLaws.{some_leads_up_is}
use Rattle.paths_emit.proofs.SizeLaws.{script_records}

-- THE POSITIONS of an accepted script
module _ {b ws : List ℕ} {n₀ : ℕ} (pre : ScriptPre b ws n₀) {env : List ℕ} where
  pub positions_asks : length env ≡ max_binders → EmitPre b max_depth 0 env (emitter 0 ws n₀)
  positions_asks e =
      rw pre.count (record {
        accepted = script_accepted b pre.accepted;
        scope = omega arith;
        size = pre.size;
        variables = e;
        some = omega arith;
        room = omega (arith, script_records b pre.accepted);
        low = λ v h. absurd (omega arith);
      })

  pub positions_done : {p : ℕ} {ws' : List ℕ} {n r : ℕ} → EmitPost b max_depth 0 env (emitter 0 ws n₀) (emitter p ws' n) r →
      ScriptPost b ws' n
  positions_done post =
      record {
        size = post.size;
        few = omega (arith, pre.count, post.few, script_records b pre.accepted);
        entries = ap (λ (x : Emitted). x.entries) post.is ∙ ap (λ (es : List Entry). (emit (expr_at max_depth b 0) [] es).entries) before;
      }
    where
      before : entries_in ws n₀ ≡ entries_before
      before =
          ap (entries_in ws) pre.count ∙ ap (map entry_of) (take-suc ws 0 0 (omega (arith, pre.size))) ∙ ap (λ (w : ℕ). entry_of w ∷ [])
          pre.zero

-- what the answer asks of them
pub fronts_asks : (b : List ℕ) {ws : List ℕ} {n : ℕ} → ScriptPost b ws n → PositionsPre (take n ws)
unfolding paths_from
fronts_asks b {ws} {n} post =
    let right = emitted_right 1 (λ q. omega arith) (expr_at max_depth b 0) in
    let within : n ≤ length ws = omega (arith, post.size, post.few) in
    record {
      few = omega (arith, length-take-le n ws within, post.few);
      lower = subst AreLower (sym post.entries) right.lower;
    }

-- room for all pairs, and how many these are at most
pairs_are : (m n : ℕ) → m * (relations * n) ≡ n * m * relations
pairs_are m n =
    ap (λ (x : ℕ). m * x) (mul_comm relations n) ∙ sym (mul_assoc m n relations) ∙ ap (λ (x : ℕ). x * relations) (mul_comm m n)

pub pairs_most : {ws us : List ℕ} → PositionsPre ws → PositionsPre us → length ws * length us ≤ max_positions * max_positions
pairs_most {ws} {us} one two =
    let e : length ws * length us ≤ length ws * max_positions = mul-le-mul_left (length ws) two.few in
    let f : max_positions * length ws ≤ max_positions * max_positions = mul-le-mul_left max_positions one.few in
    omega (arith, e, f, mul_comm (length ws) max_positions)

pub few_pairs : (b c : List ℕ) {ws : List ℕ} {n : ℕ} {us : List ℕ} {m : ℕ} → ScriptPost b ws n → ScriptPost c us m →
    length (take n ws) * length (take m us) ≡ n * m
few_pairs b c {ws} {n} {us} {m} one two =
    rw (length-take-le n ws (omega (arith, one.size, one.few)), length-take-le m us (omega (arith, two.size, two.few)))

pub clear_all : (t : List ℕ) {t' : List ℕ} → t' ≡ cleared t → (i : ℕ) → get_or t' i 0 ≡ 0
clear_all t e i = ap (λ (x : List ℕ). get_or x i 0) e ∙ cleared_at t i

pub table_asks : {ws us : List ℕ} → PositionsPre ws → PositionsPre us → (t : List ℕ) → length ws * length us * relations ≤ length t →
    ((i : ℕ) → get_or t i 0 ≡ 0) → TablePre ws us t
table_asks {ws} {us} one two t room clear =
    record {
      first = one;
      second = two;
      room = has_rows t (length us) (length ws) (omega (arith, pairs_are (length us) (length ws)));
      clear = clear;
    }

-- the answer is that of the scripts in the other order
pub answer_swapped : {ws us : List ℕ} {r : Analysis} → AnswerPost us ws r → AnswerPost ws us r
answer_swapped post = record { is = λ e f g h. post.is f e h g ∙ ap by_answer (answer_turned e f) }

upward_is : (e f : Expr) → (has_up e || has_up f) ≡ true → Upward ≡ by_answer (answer e f)
upward_is e f h = rw h

-- THE ANSWER, from the packed positions of each script
module _ (ws us : List ℕ) {x : Bool} (up : x ≡ some_leads_up ws) where
  pub answer_first : x ≡ true → AnswerPost ws us Upward
  answer_first h =
      record { is = λ e f g i. upward_is e f (ap (λ (y : Bool). y || has_up f) (sym (some_leads_up_is ws e g) ∙ sym up ∙ h)) }

  module _ (not : x ≡ false) {y : Bool} (up₂ : y ≡ some_leads_up us) where
    ups : (e f : Expr) → entries_by ws ≡ entries_of e → entries_by us ≡ entries_of f → (has_up e || has_up f) ≡ y
    ups e f g i =
        ap (λ (z : Bool). z || has_up f) (sym (some_leads_up_is ws e g) ∙ sym up ∙ not) ∙ sym (some_leads_up_is us f i) ∙ sym up₂

    pub answer_second : y ≡ true → AnswerPost ws us Upward
    answer_second h = record { is = λ e f g i. upward_is e f (ups e f g i ∙ h) }

    module _ (neither : y ≡ false) {z : Bool} (meets : z ≡ positions_meet (entries_by ws) (entries_by us)) where
      pub answer_last : {q : Bool} → z ≡ q → AnswerPost ws us (by_answer (cond q meet free))
      answer_last h = record { is = λ e f g i. rw (← answer_by_lem e f, ups e f g i, neither, ← g, ← i, ← meets, h) }

-- THE CALL. A script that its reader does not refuse is accepted
pub accepted : {A : Type 0} (x : Result A error.Refusal) (b : List ℕ) → refusal_by x ≡ script_read b → true ≡ is_ok x →
    (script_read b).number ≡ 0
accepted (Ok a) b e t = sym (ap (λ (y : Refusal). y.number) e)
accepted (Err r) b e t = absurd (false≢true (sym t))

module _ (b c : List ℕ) where
  pub first_refused : (x : Refusal) → x ≡ script_read b → (x.number ≡ 0 → ⊥) → Refused 1 x ≡ analysed b c
  first_refused x e h =
      ap (Refused 1) e ∙
      sym (ap (λ (p : Parsed). analysis_of (first_by p (read_script c))) (read_refused b (λ q. h (ap (λ (y : Refusal). y.number) e ∙ q))))

  module _ (accepted : (script_read b).number ≡ 0) where
    pub second_refused : (x : Refusal) → x ≡ script_read c → (x.number ≡ 0 → ⊥) → Refused 2 x ≡ analysed b c
    second_refused x e h =
        ap (Refused 2) e ∙
        sym (ap (λ (p : Parsed). analysis_of (first_by p (read_script c))) (script_parsed b accepted).1 ∙
        ap (λ (p : Parsed). analysis_of (second_by (expr_at max_depth b 0) p))
        (read_refused c (λ q. h (ap (λ (y : Refusal). y.number) e ∙ q))))

    pub both_accepted : (script_read c).number ≡ 0 → {ws : List ℕ} {n : ℕ} {us : List ℕ} {m : ℕ} {r : Analysis} → ScriptPost b ws n →
        ScriptPost c us m → AnswerPost (take n ws) (take m us) r → r ≡ analysed b c
    both_accepted h one two post =
        post.is (expr_at max_depth b 0) (expr_at max_depth c 0) one.entries two.entries ∙
        sym (ap (λ (p : Parsed). analysis_of (first_by p (read_script c))) (script_parsed b accepted).1 ∙
        ap (λ (p : Parsed). analysis_of (second_by (expr_at max_depth b 0) p)) (script_parsed c h).1)
