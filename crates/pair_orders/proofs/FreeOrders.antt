-- Both orders of two free scripts have the same numbers, or both are refused: FreeOrders.
use mathlib.Core.Path.{◌≡◌, refl, ap, sym, ◌∙◌}
use mathlib.Core.Bool.{true, ◌&&◌, false≢true}
use mathlib.Core.List.{List}
use Prim.Native.Nat.{ℕ}
use lib.ListN.{length}
use Rattle.model.specs.Base.{are_bytes}
use Rattle.model.specs.Refusal.{is_fine}
use Rattle.model.specs.Table.{Table, count, is_well}
use Rattle.model.specs.Script.{Expr, parsed, read_script}
use Rattle.model.specs.Run.{State, Out, refused, gives, run_on}
use Rattle.model.specs.Meeting.{answer, free}
use Rattle.model.specs.Call.{run_by}
use Rattle.model.specs.Promise.{ends, table_of, answer_of, order_ends}
use Rattle.model.proofs.RefusedRuns.{refused_not_fine}
use Rattle.model.proofs.RunsBack.{runs_back}
use Rattle.model.proofs.StoredBack.{stored_back}
use Rattle.model.proofs.CallsCommute.{length_matched_all, free_scripts}
use Rattle.model.proofs.FreeCommutes.{free_commutes}
use Rattle.plan_table.specs.Packed.{encode}
use Rattle.pair_orders.specs.Orders.{Ending, Order, Refused, Ended, ending_by, ending, order_then, order_from, order, swap}
use Rattle.pair_orders.specs.Promise.{has_ended, FreeOrders}
use Rattle.run.proofs.OutcomeLaws.{outcome_well}
use Rattle.model.proofs.BoolLaws.{cond_false}

-- AN ORDER by the endings of its two runs
order_by : (leads follows : Out) → Order
order_by (refused f) q = Refused 1 f.number
order_by (gives v s) (refused f) = Refused 2 f.number
order_by (gives v s) (gives w u) = Ended (length v) (length w) (count u.plan)

-- a run on a packed well-formed table is the model's
module _ (b : List ℕ) (e : Expr) (i n : ℕ) (r : List ℕ) (E : read_script b ≡ parsed e i n r) where
  ending_runs : (x : Table) → is_well x ≡ true → ending (encode x) b ≡ ending_by (encode x) (run_on x e)
  unfolding ending
  ending_runs x well = ap (ending_by (encode x)) (outcome_well x well b ∙ ap (run_by x) E)

module _ (b c : List ℕ) (e f : Expr) (i n j m : ℕ) (r q : List ℕ) (E : read_script b ≡ parsed e i n r) (F : read_script c ≡ parsed f j m q)
    (bytes : are_bytes b ≡ true) (x : Table) (well : is_well x ≡ true) where
  follows_run : (v : List ℕ) (s : State) (o : Out) → run_on s.plan f ≡ o →
      order_then (length v) (ending_by (encode s.plan) o) ≡ order_by (gives v s) o
  unfolding order_by
  follows_run v s (refused z) k = cond_false (is_fine z) _ (Refused 2 z.number) (refused_not_fine f s.plan z k)
  follows_run v s (gives w u) k = refl

  order_runs : order (encode x) b c ≡ order_by (run_on x e) (run_on (table_of (run_on x e)) f)
  unfolding order order_by
  order_runs = ap (λ (y : Ending). order_from y c) (ending_runs b e i n r E x well) ∙ go (run_on x e) refl
    where
      go : (o : Out) → run_on x e ≡ o → order_from (ending_by (encode x) o) c ≡ order_by o (run_on (table_of o) f)
      go (refused z) k = cond_false (is_fine z) _ (Refused 1 z.number) (refused_not_fine e x z k)
      go (gives v s) k =
          ap (order_then (length v))
          (ending_runs c f j m q F s.plan (runs_back e x v s (b, bytes, (i, (n, (r, E)))) well k).0) ∙
          follows_run v s (run_on s.plan f) refl

-- it has ended where both runs have
ended_by : (o q : Out) → has_ended (order_by o q) ≡ (ends o && ends q)
unfolding order_by
ended_by (refused f) q = refl
ended_by (gives v s) (refused f) = refl
ended_by (gives v s) (gives w u) = refl

ended_swap : (y : Order) → has_ended (swap y) ≡ has_ended y
ended_swap (Refused s n) = refl
ended_swap (Ended i j r) = refl

alike : (o o₂ q q₂ : Out) → (ends o && ends o₂) ≡ true → (ends q && ends q₂) ≡ true → length (answer_of q₂) ≡ length (answer_of o) →
    length (answer_of q) ≡ length (answer_of o₂) → count (table_of o₂) ≡ count (table_of q₂) → order_by o o₂ ≡ swap (order_by q q₂)
unfolding order_by
alike (refused z) o₂ q q₂ g h i j k = absurd (false≢true g)
alike (gives v s) (refused z) q q₂ g h i j k = absurd (false≢true g)
alike (gives v s) (gives w u) (refused z) q₂ g h i j k = absurd (false≢true h)
alike (gives v s) (gives w u) (gives v' s') (refused z) g h i j k = absurd (false≢true h)
alike (gives v s) (gives w u) (gives v' s') (gives w' u') g h i j k =
    ap (λ (n : ℕ). Ended n (length w) (count u.plan)) (sym i) ∙ ap (λ (n : ℕ). Ended (length w') n (count u.plan)) (sym j) ∙
    ap (Ended (length w') (length v')) k

pub free_orders : FreeOrders
free_orders p b c x bytes bytes_b bytesC read says = free_scripts b c says both
  where
    well : is_well x ≡ true
    well = (stored_back.1 p x bytes read).0

    Claim : Type 0
    Claim =
        (has_ended (order (encode x) b c) ≡ has_ended (swap (order (encode x) c b))) ×
        (has_ended (order (encode x) b c) ≡ true → order (encode x) b c ≡ swap (order (encode x) c b))

    both : (e f : Expr) (i n j m : ℕ) (r q : List ℕ) → read_script b ≡ parsed e i n r → read_script c ≡ parsed f j m q →
        answer e f ≡ free → Claim
    both e f i n j m r q E F a =
        let one : order (encode x) b c ≡ order_by (run_on x e) (run_on (table_of (run_on x e)) f) =
        order_runs b c e f i n j m r q E F bytes_b x well in
        let two : order (encode x) c b ≡ order_by (run_on x f) (run_on (table_of (run_on x f)) e) =
        order_runs c b f e j m i n q r F E bytesC x well in
        let C = free_commutes e f x a well in
        let ends_one : has_ended (order (encode x) b c) ≡ order_ends x e f = ap has_ended one ∙ ended_by _ _ in
        let ends_two : has_ended (order (encode x) c b) ≡ order_ends x f e = ap has_ended two ∙ ended_by _ _ in (
          ends_one ∙ C.0 ∙ sym ends_two ∙ sym (ended_swap (order (encode x) c b)),
          λ h.
              let g : order_ends x e f ≡ true = sym ends_one ∙ h in
              let O = C.1 g in
              one ∙
              alike (run_on x e) (run_on (table_of (run_on x e)) f) (run_on x f) (run_on (table_of (run_on x f)) e) g (sym C.0 ∙ g)
              (ap length O.2 ∙ length_matched_all _ _ _ _) (ap length O.3 ∙ length_matched_all _ _ _ _) O.6.0 ∙
              sym (ap swap two),
        )
