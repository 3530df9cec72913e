-- In a world, the two runs of any expression without upward steps have outcomes alike.
use mathlib.Core.Path.{◌≡◌, refl, sym, subst}
use mathlib.Core.Bool.{true, false, ◌||◌, cond}
use mathlib.Core.List.Memᴰ
use mathlib.Core.List.Memᴰ.{head as here}
use mathlib.Core.List.{List, [], ◌∷◌, ◌++◌, map, map-append, Memᴰ as In}
use Prim.Native.Nat.{ℕ}
use lib.Dec.{eqb}
use lib.ListN.{length, get_or, length-map, get_or-map}
use Rattle.model.specs.Base.{nothing, also}
use Rattle.model.specs.Script.{Step, Expr, nil, document, var, step, both, let_in, for_in, if_in, element, leaf, delete, insert, pick}
use Rattle.model.specs.Step.{stepped, picked}
use Rattle.model.specs.Run.{State, Out, gives, and_then, join_items, inserted, loop, cut_all, run}
use Rattle.model.specs.Paths.{Path, start, ◌▸◌, with_step, any_below, document_place, Paths, paths, after, join_paths, infer, paths_of}
use Rattle.model.specs.Paths.{is_up, has_up}
use Rattle.model.proofs.BoolLaws.{or_neither, cond_cases, cond_related}
use Rattle.model.proofs.Labels.{Label}
use Rattle.model.proofs.All.{all_append}
use Rattle.model.proofs.Pointwise.{Pointwise, ended, pointwise_snoc, pointwise_imp, pointwise_read}
use Rattle.model.proofs.Grows.{Grows, grows_gives, grows_then, grows_join, grows_cut, grows_insert, grows_loop, run_grows}
use Rattle.model.proofs.Twin.{World, φ, Twin, Vals, Sim}
use Rattle.model.proofs.TwinLaws.{in_step}
use Rattle.model.proofs.TwinCut.{cut_sim}
use Rattle.model.proofs.TwinCopy.{insert_sim}
use Rattle.model.proofs.SimLaws.{vals_more, vals_left, vals_right, sim_paths, sim_gives, sim_then}
use Rattle.model.proofs.SimOperands.{sim_document, sim_new, sim_step, sim_pick, sim_join, sim_loop}

module _ (W : World) where
  -- BOUND VARIABLES: each value is on its variable's paths
  abbrev Env : List Label → List (List Path) → List (List ℕ) → Type 0
  Env news = Pointwise (λ r v. Vals W r news v)

  env_more : (news more : List Label) {b : List (List Path)} {e : List (List ℕ)} → Env news b e → Env (news ++ more) b e
  env_more news more = pointwise_imp (λ r v a. vals_more W r news more a)

  -- values, renumbered for the second run
  abbrev φs : List (List ℕ) → List (List ℕ)
  φs e = map (map (φ W)) e

  -- PATHS inside the script's
  abbrev Inside : Paths → Type 0
  Inside x = ((p : Path) → In p x.accessed → W.script.accessed p) × ((p : Path) → In p x.modified → W.script.modified p)

  inside_first : (x : Paths) (r a m : List Path) → Inside (after x r a m) → Inside x
  inside_first x r a m h = (
    (λ p i. h.0 p (Memᴰ.append_left a i)),
    (λ p i. h.1 p (Memᴰ.append_left m i)),
  )

  inside_rest : (x : Paths) (q r a m : List Path) → Inside (after x q a m) → Inside (paths r a m)
  inside_rest x q r a m h = (
    (λ p i. h.0 p (Memᴰ.append_right x.accessed i)),
    (λ p i. h.1 p (Memᴰ.append_right x.modified i)),
  )

  -- SIMULATED: for all bound variables and in every twin, the outcomes are alike
  abbrev Simulated : Expr → Type 0
  Simulated e =
      (b : List (List Path)) (v : List (List ℕ)) (news : List Label) (s t : State) → has_up e ≡ false →
      Inside (infer W.script.owner e b) →
      Env news b v → Twin W news s t → Sim W (infer W.script.owner e b).result news (run e v s) (run e (φs v) t)

  -- EMPTY VALUE, DOCUMENT, VARIABLE
  nil_simulated : (z : ℕ) → Simulated (nil z)
  unfolding run infer has_up
  nil_simulated z b v news s t u h k T = sim_gives W [] news [] s t T nothing

  document_simulated : (z d : ℕ) → Simulated (document z d)
  unfolding run infer has_up
  document_simulated z d b v news s t u h k T = sim_document W d (h.0 (start (document_place d)) (here refl)) news s t T

  variable_simulated : (z i : ℕ) → Simulated (var z i)
  unfolding run infer has_up
  variable_simulated z i b v news s t u h k T =
      subst (λ w. Sim W (get_or b i []) news (gives (get_or v i []) s) (gives w t)) (sym (get_or-map (map (φ W)) v i []))
      (sim_gives W (get_or b i []) news (get_or v i []) s t T (pointwise_read [] [] nothing k i))

  -- STEP
  step_simulated : (z : ℕ) (c : Step) (e : Expr) → Simulated e → Simulated (step z c e)
  unfolding run infer has_up
  step_simulated z c e E b v news s t u h k T =
      sim_then W r (with_step c r) news (λ w q. gives (stepped q.plan c w) q)
      (λ w q. gives (stepped q.plan c w) q)
      (E b v news s t ups.1 (inside_first x (with_step c r) (with_step c r) [] h) k T)
      (λ more w s t T a.
      sim_step W r c ups.0 (λ p i. h.0 (p ▸ c) (Memᴰ.append_right x.accessed (in_step c i)))
      (news ++ more) w s t T a)
      (λ w q. grows_gives (stepped q.plan c w) q)
    where
      x : Paths
      x = infer W.script.owner e b

      r : List Path
      r = x.result

      ups : (is_up c ≡ false) × (has_up e ≡ false)
      ups = or_neither (is_up c) (has_up e) u

  -- TWO OPERANDS, and what is done with their values
  operands_sim : (e f : Expr) → Simulated e → Simulated f → (r : List Path) (act : List ℕ → List ℕ → State → Out) (b : List (List Path))
      (v : List (List ℕ)) (news : List Label) (s t : State) → (has_up e || has_up f) ≡ false →
      Inside (join_paths (infer W.script.owner e b) (infer W.script.owner f b) []) → Env news b v → Twin W news s t →
      ((news : List Label) (w w' : List ℕ) (s t : State) → Twin W news s t → Vals W (infer W.script.owner e b).result news w →
      Vals W (infer W.script.owner f b).result news w' → Sim W r news (act w w' s) (act (map (φ W) w) (map (φ W) w') t)) →
      ((w w' : List ℕ) (q : State) → Grows q (act w w' q)) →
      Sim W r news (and_then (run e v s) (λ w q. and_then (run f v q) (λ w' q. act w w' q)))
      (and_then (run e (φs v) t) (λ w q. and_then (run f (φs v) q) (λ w' q. act w w' q)))
  operands_sim e f E F r act b v news s t u h k T sim grows =
      let x = infer W.script.owner e b in
      let y = infer W.script.owner f b in
      let ups = or_neither (has_up e) (has_up f) u in
      sim_then W x.result r news (λ w q. and_then (run f v q) (λ w' q. act w w' q))
      (λ w q. and_then (run f (φs v) q) (λ w' q. act w w' q))
      (E b v news s t ups.0 (inside_first x [] y.accessed y.modified h) k T)
      (λ more w s t T a.
      sim_then W y.result r (news ++ more) (λ w' q. act w w' q) (λ w' q. act (map (φ W) w) w' q)
      (F b v (news ++ more) s t ups.1 (inside_rest x [] y.result y.accessed y.modified h) (env_more news more k) T)
      (λ rest w' s t T a'. sim (news ++ more ++ rest) w w' s t T (vals_more W x.result (news ++ more) rest a) a')
      (λ w' q. grows w w' q))
      (λ w q. grows_then (λ w' q. act w w' q) (run_grows f v q) (λ w' q. grows w w' q))

  -- JOIN
  join_simulated : (z : ℕ) (e f : Expr) → Simulated e → Simulated f → Simulated (both z e f)
  unfolding run infer has_up
  join_simulated z e f E F b v news s t u h k T =
      let x = (infer W.script.owner e b).result in
      let y = (infer W.script.owner f b).result in
      operands_sim e f E F (x ++ y) (λ w w' q. join_items z w w' q) b v news s t u h k T
      (λ n w w' s t T a a'. sim_join W (x ++ y) z n w w' s t T (all_append (vals_left W x y n a) (vals_right W x y n a')))
      (λ w w' q. grows_join z w w' q)

  -- LET AND FOR: the paths of both expressions; the body has one more variable, whose values are on the first's paths
  module _ (z : ℕ) (e f : Expr) (E : Simulated e) (F : Simulated f) where
    abbrev first : List (List Path) → Paths
    first b = infer W.script.owner e b

    abbrev body : List (List Path) → Paths
    body b = infer W.script.owner f (b ++ ((first b).result ∷ []))

    module _ (b : List (List Path)) (v : List (List ℕ)) (u : (has_up e || has_up f) ≡ false)
        (h : Inside (after (first b) (body b).result (body b).accessed (body b).modified)) where
      first_sim : (news : List Label) (s t : State) → Env news b v → Twin W news s t →
          Sim W (first b).result news (run e v s) (run e (φs v) t)
      first_sim news s t k T =
          E b v news s t (or_neither (has_up e) (has_up f) u).0
          (inside_first (first b) (body b).result (body b).accessed (body b).modified h) k T

      body_sim : (news : List Label) (w : List ℕ) (s t : State) → Env news b v → Twin W news s t → Vals W (first b).result news w →
          Sim W (body b).result news (run f (v ++ (w ∷ [])) s) (run f (φs v ++ (map (φ W) w ∷ [])) t)
      body_sim news w s t k T a =
          subst (λ l. Sim W (body b).result news (run f (v ++ (w ∷ [])) s) (run f l t)) (map-append (map (φ W)) v (w ∷ []))
          (F (b ++ ((first b).result ∷ [])) (v ++ (w ∷ [])) news s t (or_neither (has_up e) (has_up f) u).1
          (inside_rest (first b) (body b).result (body b).result (body b).accessed (body b).modified h) (pointwise_snoc k a) T)

    let_simulated : Simulated (let_in z e f)
    unfolding run infer has_up
    let_simulated b v news s t u h k T =
        sim_then W (first b).result (body b).result news (λ w q. run f (v ++ (w ∷ [])) q) (λ w q. run f (φs v ++ (w ∷ [])) q)
        (first_sim b v u h news s t k T)
        (λ more w s t T a. body_sim b v u h (news ++ more) w s t (env_more news more k) T a)
        (λ w q. run_grows f (v ++ (w ∷ [])) q)

    for_simulated : Simulated (for_in z e f)
    unfolding run infer has_up
    for_simulated b v news s t u h k T =
        sim_then W (first b).result (body b).result news (λ w q. loop z (one v) w [] q) (λ w q. loop z (one (φs v)) w [] q)
        (first_sim b v u h news s t k T)
        (λ more w s t T a.
        sim_loop W (λ l. Env l b v) (λ l m c. env_more l m c) (first b).result (body b).result z (one v) (one (φs v))
        (λ l i s t c T a. body_sim b v u h l (i ∷ []) s t c T (also a nothing))
        (λ i q. run_grows f (v ++ ((i ∷ []) ∷ [])) q) w (news ++ more) [] s t (env_more news more k) T a nothing)
        (λ w q. grows_loop z (one v) (λ i q. run_grows f (v ++ ((i ∷ []) ∷ [])) q) w [] q)
      where
        one : List (List ℕ) → ℕ → State → Out
        one v i q = run f (v ++ ((i ∷ []) ∷ [])) q

  -- IF
  if_simulated : (z : ℕ) (e f g : Expr) → Simulated e → Simulated f → Simulated g → Simulated (if_in z e f g)
  unfolding run infer has_up
  if_simulated z e f g E F G b v news s t u h k T =
      sim_then W x.result (y.result ++ w.result) news (λ l q. cond (eqb (length l) 0) (run g v q) (run f v q))
      (λ l q. cond (eqb (length l) 0) (run g (φs v) q) (run f (φs v) q))
      (E b v news s t ups.0 (inside_first x (y.result ++ w.result) yw.accessed yw.modified h) k T)
      (λ more l s t T a.
      subst
      (λ n.
      Sim W (y.result ++ w.result) (news ++ more) (cond (eqb (length l) 0) (run g v s) (run f v s))
      (cond (eqb n 0) (run g (φs v) t) (run f (φs v) t)))
      (sym (length-map l (φ W)))
      (cond_related (Sim W (y.result ++ w.result) (news ++ more)) (eqb (length l) 0)
      (λ c. sim_paths W w.result (y.result ++ w.result)
      (λ n l a. vals_right W y.result w.result n a)
      (news ++ more) (G b v (news ++ more) s t ups.2 (inside_rest y [] w.result w.accessed w.modified inner)
      (env_more news more k) T))
      (λ c. sim_paths W y.result (y.result ++ w.result)
      (λ n l a. vals_left W y.result w.result n a)
      (news ++ more) (F b v (news ++ more) s t ups.1 (inside_first y [] w.accessed w.modified inner)
      (env_more news more k) T))))
      (λ l q. cond_cases (Grows _) (eqb (length l) 0) (λ e. run_grows g v q) (λ e. run_grows f v q))
    where
      x : Paths
      x = infer W.script.owner e b

      y : Paths
      y = infer W.script.owner f b

      w : Paths
      w = infer W.script.owner g b

      yw : Paths
      yw = join_paths y w []

      inner : Inside yw
      inner = inside_rest x (y.result ++ w.result) [] yw.accessed yw.modified h

      ups : (has_up e ≡ false) × (has_up f ≡ false) × (has_up g ≡ false)
      ups =
          let (c, d) = or_neither (has_up e || has_up f) (has_up g) u in
          let (a, b) = or_neither (has_up e) (has_up f) c in
          (a, b, d)

  -- CONSTRUCTORS
  element_simulated : (z n : ℕ) → Simulated (element z n)
  unfolding run infer has_up
  element_simulated z n b v news s t u h k T = sim_new W _ z false n news s t T

  leaf_simulated : (z n : ℕ) → Simulated (leaf z n)
  unfolding run infer has_up
  leaf_simulated z n b v news s t u h k T = sim_new W _ z true n news s t T

  -- DELETE
  delete_simulated : (z : ℕ) (e : Expr) → Simulated e → Simulated (delete z e)
  unfolding run infer has_up
  delete_simulated z e E b v news s t u h k T =
      sim_then W x.result [] news (λ w q. gives [] (cut_all w q)) (λ w q. gives [] (cut_all w q))
      (E b v news s t u (inside_first x [] [] (x.result ++ with_step any_below x.result) h) k T)
      (λ more w s t T a.
      cut_sim W (news ++ more) x.result
      (λ p i. (
        h.1 p (Memᴰ.append_right x.modified (Memᴰ.append_left (with_step any_below x.result) i)),
        h.1 (p ▸ any_below) (Memᴰ.append_right x.modified (Memᴰ.append_right x.result (in_step any_below i))),
      ))
      w s t T a)
      (λ w q. grows_cut w q)
    where
      x : Paths
      x = infer W.script.owner e b

  -- INSERT
  insert_simulated : (z : ℕ) (e f : Expr) → Simulated e → Simulated f → Simulated (insert z e f)
  unfolding run infer has_up
  insert_simulated z e f E F b v news s t u h k T =
      let x = infer W.script.owner e b in
      let y = infer W.script.owner f b in
      let xy = join_paths x y [] in
      operands_sim e f E F [] (λ w w' q. inserted z w w' q) b v news s t u
      (inside_first xy [] (with_step any_below x.result) (with_step any_below y.result) h) k T
      (λ n w w' s t T a a'.
      insert_sim W n s t T x.result y.result
      (λ p i. h.0 (p ▸ any_below) (Memᴰ.append_right xy.accessed (in_step any_below i)))
      (λ p i. h.1 (p ▸ any_below) (Memᴰ.append_right xy.modified (in_step any_below i))) z w w' a a')
      (λ w w' q. grows_insert z w w' q)

  -- PICK
  pick_simulated : (z y c : ℕ) (e : Expr) → Simulated e → Simulated (pick z y c e)
  unfolding run infer has_up
  pick_simulated z y c e E b v news s t u h k T =
      sim_then W r r news (λ w q. gives (picked q.plan y c w) q)
      (λ w q. gives (picked q.plan y c w) q)
      (E b v news s t u h k T)
      (λ more w s t T a.
      sim_pick W r y c (news ++ more) w s t T a)
      (λ w q. grows_gives (picked q.plan y c w) q)
    where
      r : List Path
      r = (infer W.script.owner e b).result

  -- THE INDUCTION
  simulation : (e : Expr) → Simulated e
  simulation (nil z) = nil_simulated z
  simulation (document z d) = document_simulated z d
  simulation (var z i) = variable_simulated z i
  simulation (step z c e) = step_simulated z c e (simulation e)
  simulation (both z e f) = join_simulated z e f (simulation e) (simulation f)
  simulation (let_in z e f) = let_simulated z e f (simulation e) (simulation f)
  simulation (for_in z e f) = for_simulated z e f (simulation e) (simulation f)
  simulation (if_in z e f g) = if_simulated z e f g (simulation e) (simulation f) (simulation g)
  simulation (element z n) = element_simulated z n
  simulation (leaf z n) = leaf_simulated z n
  simulation (delete z e) = delete_simulated z e (simulation e)
  simulation (insert z e f) = insert_simulated z e f (simulation e) (simulation f)
  simulation (pick z y c e) = pick_simulated z y c e (simulation e)

  -- a whole script
  pub script_sim : (e : Expr) (s t : State) → has_up e ≡ false →
      ((p : Path) → In p (paths_of W.script.owner e).accessed → W.script.accessed p) →
      ((p : Path) → In p (paths_of W.script.owner e).modified → W.script.modified p) → Twin W [] s t →
      Sim W (paths_of W.script.owner e).result [] (run e [] s) (run e [] t)
  script_sim e s t u a m T = simulation e [] [] [] s t u (a, m) ended T
