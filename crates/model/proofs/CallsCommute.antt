-- Demand 3 on what callers see: the results of the public run in both orders, from bytes, a table and lent areas.
use mathlib.Core.Path.{◌≡◌, refl, ap, ap₂, sym, ◌∙◌, transport}
use mathlib.Core.Bool.{Bool, true, ◌&&◌, false≢true}
use mathlib.Core.List.{List, [], ◌∷◌}
use Prim.Native.Nat.{ℕ, suc, ◌+◌, ◌-◌}
use native.Mathlib.Omega.{arith}
use lib.ListN.{length, take, replicate, length-map}
use lib.Seq.{take_at}
use Rattle.model.specs.Base.{bit, are_bytes}
use Rattle.model.specs.Refusal.{is_fine}
use Rattle.model.specs.Table.{Table, count, is_well}
use Rattle.model.specs.Script.{Expr, Parsed, refused, parsed, read_script}
use Rattle.model.specs.History.{Record, made, cut, is_made, is_cut, times, history_bytes, replay_all}
use Rattle.model.specs.Run.{State, Out, refused, gives, run_on}
use Rattle.model.specs.Meeting.{free, answer}
use Rattle.model.specs.Promise.{IsScript, ends, table_of, order_ends, matched_all, matched_record, matched_history}
use Rattle.model.specs.Call.{answered, analyse, first_by, Ran, filled, run_by}
use Rattle.model.specs.Call.{ran_by, areas_fit, run_call, calls_end, CallsMatch, CallsEqual, Areas, run_in, Suffices}
use Rattle.model.specs.Call.{EitherOrder, CallsCommute}
use Rattle.model.proofs.BoolLaws.{cond_true, and_left}
use Rattle.model.proofs.RefusedRuns.{refused_not_fine}
use Rattle.model.proofs.RunsBack.{runs_back}
use Rattle.model.proofs.FreeCommutes.{OrdersBy, free_commutes}

-- UNDER THE MATCHING lengths and cases stay
pub length_matched_all : (n a b : ℕ) (v : List ℕ) → length (matched_all n a b v) ≡ length v
unfolding matched_all
length_matched_all n a b [] = refl
length_matched_all n a b (i ∷ v) = ap suc (length_matched_all n a b v)

times_matched : (f : Record → Bool) (n a b : ℕ) → ((r : Record) → f (matched_record n a b r) ≡ f r) → (h : List Record) →
    times f (matched_history n a b h) ≡ times f h
unfolding times
times_matched f n a b e [] = refl
times_matched f n a b e (r ∷ h) = ap₂ (λ (t : Bool) (k : ℕ). bit t + k) (e r) (times_matched f n a b e h)

is_made_matched : (n a b : ℕ) (r : Record) → is_made (matched_record n a b r) ≡ is_made r
is_made_matched n a b (made i r) = refl
is_made_matched n a b (cut i p) = refl

is_cut_matched : (n a b : ℕ) (r : Record) → is_cut (matched_record n a b r) ≡ is_cut r
is_cut_matched n a b (made i r) = refl
is_cut_matched n a b (cut i p) = refl

-- what a run that came to this outcome leaves in its areas
abbrev leaves : Table → Areas → Out → Ran
leaves x k o = ran_by x (length k.answer) (length k.history) (length k.work) o

-- a run's results match where its answer and history do
calls_match : (n a b : ℕ) (x y : Table) (k l : Areas) (v v' : List ℕ) (s s' : State) → v' ≡ matched_all n a b v →
    s'.history ≡ matched_history n a b s.history → replay_all x s.history ≡ s.plan → replay_all y s'.history ≡ s'.plan →
    CallsMatch n a b x y (leaves x k (gives v s)) (leaves y l (gives v' s'))
calls_match n a b x y k l v v' s s' e f p q = (
  ap length e ∙ length_matched_all n a b v,
  ap (times is_made) f ∙ times_matched is_made n a b (is_made_matched n a b) s.history,
  ap (times is_cut) f ∙ times_matched is_cut n a b (is_cut_matched n a b) s.history,
  ap length f ∙ length-map s.history _,
  front v' (length l.answer) ∙ e ∙ ap (matched_all n a b) (sym (front v (length k.answer))),
  (
    s.history,
    (
      refl,
      front (history_bytes s.history) (length k.history),
      p,
      front (history_bytes s'.history) (length l.history) ∙ ap history_bytes f,
      ap (replay_all y) (sym f) ∙ q,
    ),
  ),
)
  where
    front : (w : List ℕ) (size : ℕ) → take (length w) (filled size w) ≡ w
    front w size = take_at w (replicate (size - length w) 0) (length w) refl

-- replaying a run's history on the table before gives that after
abbrev Replays : Table → Out → Type 0
Replays x (refused f) = x ≡ x
Replays x (gives v s) = replay_all x s.history ≡ s.plan

run_replays : (e : Expr) → IsScript e → (x : Table) → is_well x ≡ true → (o : Out) → run_on x e ≡ o → Replays x o
run_replays e i x w (refused f) k = refl
run_replays e i x w (gives v s) k = (runs_back e x v s i w k).1

-- A RUN on a well-formed table, in areas that fit, leaves what it comes to
pub run_call_by : (x : Table) (b a h w : List ℕ) (q : Out) → areas_fit a h w ≡ true → is_well x ≡ true → run_by x (read_script b) ≡ q →
    run_call x b a h w ≡ ran_by x (length a) (length h) (length w) q
run_call_by x b a h w q fits well e =
    cond_true (areas_fit a h w) _ _ fits ∙ ap (ran_by x (length a) (length h) (length w)) (cond_true (is_well x) _ _ well ∙ e)

module _ (e : Expr) (b : List ℕ) (i n : ℕ) (r : List ℕ) (E : read_script b ≡ parsed e i n r) (k : Areas) (fits : Suffices k) where
  call_runs : (x : Table) → is_well x ≡ true → run_in x b k ≡ leaves x k (run_on x e)
  call_runs x well = run_call_by x b k.answer k.history k.work (run_on x e) fits well (ap (run_by x) E)

  call_ends : (x : Table) → is_well x ≡ true → (o : Out) → run_on x e ≡ o → is_fine (run_in x b k).refusal ≡ ends o
  call_ends x well o y = ap (λ (t : Ran). is_fine t.refusal) (call_runs x well ∙ ap (leaves x k) y) ∙ go o y
    where
      go : (q : Out) → run_on x e ≡ q → is_fine (leaves x k q).refusal ≡ ends q
      go (refused f) z = refused_not_fine e x f z
      go (gives v s) z = refl

  -- it leaves the model's table, well formed
  call_plan : are_bytes b ≡ true → (x : Table) → is_well x ≡ true → (v : List ℕ) (s : State) → run_on x e ≡ gives v s →
      ((run_in x b k).plan ≡ s.plan) × (is_well s.plan ≡ true)
  call_plan bytes x well v s y = (
    ap (λ (t : Ran). t.plan) (call_runs x well ∙ ap (leaves x k) y),
    (runs_back e x v s (b, bytes, (i, (n, (r, E)))) well y).0,
  )

-- ONE ORDER of two calls is the model's order
module _ (e f : Expr) (b c : List ℕ) (i n j m : ℕ) (r q : List ℕ) (E : read_script b ≡ parsed e i n r) (F : read_script c ≡ parsed f j m q)
    (bytes : are_bytes b ≡ true) (k k' : Areas) (fits : Suffices k) (fits' : Suffices k') (x : Table) (well : is_well x ≡ true) where
  order_ends_lem : calls_end (run_in x b k) (run_in (run_in x b k).plan c k') ≡ order_ends x e f
  order_ends_lem = go (run_on x e) refl
    where
      go : (o : Out) → run_on x e ≡ o → calls_end (run_in x b k) (run_in (run_in x b k).plan c k') ≡ (ends (run_on x e) &&
          ends (run_on (table_of (run_on x e)) f))
      go (refused y) z =
          ap (λ (t : Bool). t && is_fine (run_in (run_in x b k).plan c k').refusal) (call_ends e b i n r E k fits x well (refused y) z) ∙
          sym (ap (λ (o : Out). ends o && ends (run_on (table_of (run_on x e)) f)) z)
      go (gives v s) z =
          let P = call_plan e b i n r E k fits bytes x well v s z in
          ap (λ (t : Bool). t && is_fine (run_in (run_in x b k).plan c k').refusal) (call_ends e b i n r E k fits x well (gives v s) z) ∙
          ap (λ (t : Table). is_fine (run_in t c k').refusal) P.0 ∙
          call_ends f c j m q F k' fits' s.plan P.1 (run_on s.plan f) refl ∙
          sym (ap (λ (o : Out). ends o && ends (run_on (table_of o) f)) z)

  -- the second call of an order that ends is the model's second run
  second_runs : ends (run_on x e) ≡ true →
      run_in (run_in x b k).plan c k' ≡ leaves (table_of (run_on x e)) k' (run_on (table_of (run_on x e)) f)
  second_runs g = go (run_on x e) refl
    where
      go : (o : Out) → run_on x e ≡ o →
          run_in (run_in x b k).plan c k' ≡ leaves (table_of (run_on x e)) k' (run_on (table_of (run_on x e)) f)
      go (refused z) y = absurd (false≢true (sym (ap ends y) ∙ g))
      go (gives v s) y =
          let P = call_plan e b i n r E k fits bytes x well v s y in
          call_runs f c j m q F k' fits' (run_in x b k).plan (ap is_well P.0 ∙ P.1) ∙
          ap (λ (t : Table). leaves t k' (run_on t f)) (P.0 ∙ sym (ap table_of y))

-- the four outcomes are values, and they match
module _ (x : Table) (k k' l l' : Areas) where
  matching_by : (o q o₂ q₂ : Out) → (ends o && ends o₂) ≡ true → (ends q && ends q₂) ≡ true → OrdersBy x o q o₂ q₂ →
      Replays x o → Replays x q → Replays (table_of o) o₂ → Replays (table_of q) q₂ →
      CallsEqual x (leaves x k o) (leaves (table_of o) k' o₂) (leaves x l q) (leaves (table_of q) l' q₂)
  matching_by (refused z) q o₂ q₂ g g' O A B C D = absurd (false≢true g)
  matching_by (gives v s) q (refused z) q₂ g g' O A B C D = absurd (false≢true g)
  matching_by (gives v s) (refused z) (gives v₂ s₂) q₂ g g' O A B C D = absurd (false≢true g')
  matching_by (gives v s) (gives u t) (gives v₂ s₂) (refused z) g g' O A B C D = absurd (false≢true g')
  matching_by (gives v s) (gives u t) (gives v₂ s₂) (gives u₂ t₂) g g' O A B C D = (
    calls_match (count x) (count s.plan - count x) (count t.plan - count x) x t.plan k l' v u₂ s t₂ O.2 O.4 A D,
    calls_match (count x) (count s.plan - count x) (count t.plan - count x) s.plan x k' l v₂ u s₂ t O.3 O.5 C B,
    O.6,
  )

-- a run that ends leaves a well-formed table
well_after : (e : Expr) → IsScript e → (x : Table) → is_well x ≡ true → ends (run_on x e) ≡ true → is_well (table_of (run_on x e)) ≡ true
well_after e i x w g = go (run_on x e) refl
  where
    go : (o : Out) → run_on x e ≡ o → is_well (table_of (run_on x e)) ≡ true
    go (refused f) k = absurd (false≢true (sym (ap ends k) ∙ g))
    go (gives v s) k = ap (λ (t : Out). is_well (table_of t)) k ∙ (runs_back e x v s i w k).0

-- THE ANALYSIS says free of two scripts that are read
pub free_scripts : {P : Type 0} (b c : List ℕ) → analyse b c ≡ answered free →
    ((e f : Expr) (i n j m : ℕ) (r q : List ℕ) → read_script b ≡ parsed e i n r → read_script c ≡ parsed f j m q → answer e f ≡ free → P) →
    P
free_scripts {P} b c h k = go (read_script b) (read_script c) refl refl h
  where
    go : (p q : Parsed) → read_script b ≡ p → read_script c ≡ q → first_by p q ≡ answered free → P
    go (refused z) q E F a = let y : ◌≡◌ {A = ℕ} 0 1 = cc in absurd (omega arith)
    go (parsed e i n r) (refused z) E F a = let y : ◌≡◌ {A = ℕ} 0 1 = cc in absurd (omega arith)
    go (parsed e i n r) (parsed f j m q) E F a = let y : answer e f ≡ free = cc in k e f i n j m r q E F y

pub calls_commute : CallsCommute
calls_commute b c x k k' l l' bytes bytes' an well fit = free_scripts b c an scripts
  where
    Claim : Type 0
    Claim = EitherOrder b c x k k' l l'

    scripts : (e f : Expr) (i n j m : ℕ) (r q : List ℕ) → read_script b ≡ parsed e i n r → read_script c ≡ parsed f j m q → answer e f ≡
        free → Claim
    scripts e f i n j m r q E F h₀ =
        let first : IsScript e = (b, bytes, (i, (n, (r, E)))) in
        let second : IsScript f = (c, bytes', (j, (m, (q, F)))) in
        let C = free_commutes e f x h₀ well in
        let one = order_ends_lem e f b c i n j m r q E F bytes k k' fit.0 fit.1 x well in
        let two = order_ends_lem f e c b j m i n q r F E bytes' l l' fit.2 fit.3 x well in (
          one ∙ C.0 ∙ sym two,
          λ y.
              let g : order_ends x e f ≡ true = sym one ∙ y in
              let g' : order_ends x f e ≡ true = sym C.0 ∙ g in
              let h = and_left (ends (run_on x e)) _ g in
              let h' = and_left (ends (run_on x f)) _ g' in
              transport (λ z.
              CallsEqual x (sym (call_runs e b i n r E k fit.0 x well) z)
              (sym (second_runs e f b c i n j m r q E F bytes k k' fit.0 fit.1 x well h) z)
              (sym (call_runs f c j m q F l fit.2 x well) z)
              (sym (second_runs f e c b j m i n q r F E bytes' l l' fit.2 fit.3 x well h') z))
              (matching_by x k k' l l' (run_on x e) (run_on x f) (run_on (table_of (run_on x e)) f) (run_on (table_of (run_on x f)) e) g g'
              (C.1 g)
              (run_replays e first x well (run_on x e) refl)
              (run_replays f second x well (run_on x f) refl)
              (run_replays f second (table_of (run_on x e)) (well_after e first x well h) (run_on (table_of (run_on x e)) f) refl)
              (run_replays e first (table_of (run_on x f)) (well_after f second x well h') (run_on (table_of (run_on x f)) e) refl)),
        )
