-- A run of whatever expression does nothing but make rows and cut links, and stops only with a refusal of its own: 7, 8 or 10.
use mathlib.Core.Path.{◌≡◌, refl}
use mathlib.Core.Bool.{true, ◌&&◌}
use mathlib.Core.List.{List, [], ◌∷◌, ◌++◌}
use Prim.Native.Nat.{ℕ, ◌+◌}
use lib.Dec.{ltb, eqb}
use lib.ListN.{length, get_or}
use borrow.Author.Tests.{ltb-true}
use Rattle.model.specs.Limits.{max_rows, max_items}
use Rattle.model.specs.Refusal.{Refusal, is_of_run}
use Rattle.model.specs.Table.{Row, Table, count, is_element}
use Rattle.model.specs.Script.{Expr, nil, document, var, step, both, let_in, for_in, if_in, element, leaf, delete, insert, pick}
use Rattle.model.specs.Run.{State, Out, refused, gives, and_then, then_row, join_items, join_for, new_row}
use Rattle.model.specs.Run.{cut_all, Copied, copy_row, subtree, copy_each, copy_all, inserted, loop, run}
use Rattle.model.specs.Leads.{Leads, begun, row_made, AnyRow}
use Rattle.model.proofs.BoolLaws.{cond_cases}
use Rattle.model.proofs.LeadsLaws.{leads_then, cuts_lead}

-- AN OUTCOME from the state a: a refusal of the run's own, or a value and a state that a leads to
pub data Grows (a : State) : Out → Type 0 where
  refuses : {z : Refusal} → is_of_run z.number ≡ true → Grows a (refused z)
  keeps : {v : List ℕ} {s : State} → Leads AnyRow a s → Grows a (gives v s)

grows_from : {a b : State} {o : Out} → Leads AnyRow a b → Grows b o → Grows a o
grows_from r (refuses e) = refuses e
grows_from r (keeps q) = keeps (leads_then r q)

pub grows_gives : (v : List ℕ) (s : State) → Grows s (gives v s)
grows_gives v s = keeps begun

pub grows_then : {a : State} {o : Out} (next : List ℕ → State → Out) → Grows a o → ((v : List ℕ) (s : State) → Grows s (next v s)) →
    Grows a (and_then o next)
grows_then next (refuses e) h = refuses e
grows_then next (keeps {v} {s} r) h = grows_from r (h v s)

pub grows_row : {a : State} {o : Out} (next : State → Out) → Grows a o → ((s : State) → Grows s (next s)) → Grows a (then_row o next)
grows_row next (refuses e) h = refuses e
grows_row next (keeps {s = s} r) h = grows_from r (h s)

grows_for : {a : State} {o : Out} (z : ℕ) (v : List ℕ) (next : List ℕ → State → Out) → Grows a o →
    ((v : List ℕ) (s : State) → Grows s (next v s)) → Grows a (join_for z v o next)
grows_for z v next (refuses e) h = refuses e
grows_for {a} z v next (keeps {v = w} {s} r) h =
    cond_cases (Grows a) (ltb max_items (length v + length w)) (λ e. refuses refl) (λ e. grows_from r (h (v ++ w) s))

pub grows_new : (z : ℕ) (r : Row) (s : State) → Grows s (new_row z r s)
grows_new z r s =
    cond_cases (Grows s) (ltb (count s.plan) max_rows)
    (λ e. keeps (row_made s r begun (ltb-true (count s.plan) max_rows e) tt)) (λ e. refuses refl)

pub grows_cut : (v : List ℕ) (s : State) → Grows s (gives [] (cut_all v s))
grows_cut v s = keeps (cuts_lead v s)

pub grows_each : (z : ℕ) (x : Table) (t g : ℕ) (is : List ℕ) (cs : List Copied) (s : State) →
    Grows s (copy_each z x t g is cs s)
unfolding copy_each
grows_each z x t g [] cs s = grows_gives [] s
grows_each z x t g (i ∷ is) cs s = grows_row _ (grows_new z (copy_row x t g i cs) s) (λ u. grows_each z x t g is _ u)

pub grows_copy : (z : ℕ) (x : Table) (v : List ℕ) (g : ℕ) (s : State) → Grows s (copy_all z x v g s)
unfolding copy_all
grows_copy z x [] g s = grows_gives [] s
grows_copy z x (i ∷ is) g s = grows_row _ (grows_each z x i g (subtree x i) [] s) (λ u. grows_copy z x is g u)

pub grows_insert : (z : ℕ) (v w : List ℕ) (s : State) → Grows s (inserted z v w s)
grows_insert z v w s =
    cond_cases (Grows _) (eqb (length w) 1 && is_element s.plan (get_or w 0 0))
    (λ e. grows_copy z s.plan v (get_or w 0 0) s) (λ e. refuses refl)

pub grows_loop : (z : ℕ) (f : ℕ → State → Out) → ((i : ℕ) (s : State) → Grows s (f i s)) → (v w : List ℕ) (s : State) →
    Grows s (loop z f v w s)
unfolding loop
grows_loop z f h [] w s = grows_gives w s
grows_loop z f h (i ∷ is) w s = grows_for z w _ (h i s) (λ w t. grows_loop z f h is w t)

pub grows_join : (z : ℕ) (v w : List ℕ) (s : State) → Grows s (join_items z v w s)
grows_join z v w s =
    cond_cases (Grows _) (ltb max_items (length v + length w)) (λ e. refuses refl) (λ e. grows_gives (v ++ w) s)

pub run_grows : (e : Expr) (b : List (List ℕ)) (s : State) → Grows s (run e b s)
unfolding run
run_grows (nil z) b s = grows_gives _ s
run_grows (document z d) b s = grows_gives _ s
run_grows (var z v) b s = grows_gives _ s
run_grows (step z t e) b s = grows_then _ (run_grows e b s) (λ v u. grows_gives _ u)
run_grows (both z e f) b s =
    grows_then _ (run_grows e b s) (λ v u. grows_then _ (run_grows f b u) (λ w q. grows_join z v w q))
run_grows (let_in z e f) b s = grows_then _ (run_grows e b s) (λ v u. run_grows f (b ++ (v ∷ [])) u)
run_grows (for_in z e f) b s =
    grows_then _ (run_grows e b s) (λ v u. grows_loop z _ (λ i q. run_grows f (b ++ ((i ∷ []) ∷ [])) q) v [] u)
run_grows (if_in z e f g) b s =
    grows_then _ (run_grows e b s)
    (λ v u. cond_cases (Grows _) (eqb (length v) 0) (λ e. run_grows g b u) (λ e. run_grows f b u))
run_grows (element z n) b s = grows_new z _ s
run_grows (leaf z v) b s = grows_new z _ s
run_grows (delete z e) b s = grows_then _ (run_grows e b s) (λ v u. grows_cut v u)
run_grows (insert z e f) b s =
    grows_then _ (run_grows e b s) (λ v u. grows_then _ (run_grows f b u) (λ w q. grows_insert z v w q))
run_grows (pick z r c e) b s = grows_then _ (run_grows e b s) (λ v u. grows_gives _ u)
