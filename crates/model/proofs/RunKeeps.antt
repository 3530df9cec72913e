-- Every run of an expression whose fields fit does nothing but make fitting rows and cut links, and its values are rows of its table. What
-- the table's rows and those that constructors make have in common, whatever their parents, every row made has too.
use mathlib.Core.Path.{◌≡◌, refl, sym, ap, ◌∙◌, subst}
use mathlib.Core.Bool.{Bool, true, false, ◌&&◌, cond}
use mathlib.Core.List.{List, [], ◌∷◌, ◌++◌}
use mathlib.Core.Option.{Option, none, some, none-ne-some}
use Prim.Native.Nat.{ℕ, ◌+◌, ◌≤◌, ◌<◌}
use native.Mathlib.Omega.{arith}
use lib.Dec.{ltb, eqb}
use lib.ListN.{length, get_or}
use borrow.Author.Tests.{ltb-true, eqb-true, lt-ltb}
use Rattle.model.specs.Base.{All, nothing, also}
use Rattle.model.specs.Limits.{max_rows, max_items}
use Rattle.model.specs.Refusal.{table_at}
use Rattle.model.specs.Table.{Row, Table, no_row, row_at, count, is_element, with_row, with_parent, linked, tag_fits, parent_fits, Tree}
use Rattle.model.specs.Script.{Expr, nil, document, var, step, both, let_in, for_in, if_in, element, leaf, delete, insert, pick}
use Rattle.model.specs.Run.{State, state, Out, refused, gives, and_then, join_items, with_made, new_row, loose}
use Rattle.model.specs.Run.{cut_all, Copied, copy_of, copy_parent, copy_row, subtree, then_row, copy_each, copy_all, inserted, join_for}
use Rattle.model.specs.Run.{loop, run, run_on, AreRows, AreValues}
use Rattle.model.specs.Leads.{Leads, begun, row_made, link_cut}
use Rattle.model.specs.Promise.{constructed}
use Rattle.model.proofs.BoolLaws.{and_right, and_both, cond_cases}
use Rattle.model.proofs.TableLaws.{is_element_at, is_element_by, parent_count, Well}
use Rattle.model.proofs.GrowLaws.{count_with_row, row_at_with_row_old, row_at_with_row_new, count_linked, is_leaf_linked}
use Rattle.model.proofs.LeadsLaws.{leads_then, leads_imp, cuts_lead}
use Rattle.model.proofs.HistoryLaws.{Fits, ComesTo, ran_well}
use Rattle.model.proofs.ScriptLaws.{FieldsFit}
use Rattle.model.proofs.ValueLaws.{are_rows_more, are_values_more, collect_rows, marked_rows}
use Rattle.model.proofs.All.{all_append, all_snoc, all_set, all_at, all_front, all_back, all_read, all_filtered}

-- A TABLE ENLARGED: no row goes, and none changes its kind
pub record Enlarged (y z : Table) : Type 0 where
  pub more : count y ≤ count z
  pub kinds : (i : ℕ) → i < count y → (row_at z i).is_leaf ≡ (row_at y i).is_leaf

enlarged_self : (y : Table) → Enlarged y y
enlarged_self y = record { more = omega arith; kinds = λ i l. refl }

enlarged_then : {x y z : Table} → Enlarged x y → Enlarged y z → Enlarged x z
enlarged_then g h = record {
  more = omega (arith, g.more, h.more);
  kinds = λ i l. h.kinds i (omega (arith, g.more)) ∙ g.kinds i l;
}

enlarged_with_row : (y : Table) (r : Row) → Enlarged y (with_row y r)
enlarged_with_row y r = record {
  more = omega (arith, count_with_row y r);
  kinds = λ i l. ap (λ (q : Row). q.is_leaf) (row_at_with_row_old y r i l);
}

enlarged_cut : (y : Table) (i p : ℕ) → (row_at y i).parent ≡ some p → Enlarged y (linked y i none)
enlarged_cut y i p e = record {
  more = omega (arith, count_linked y i none);
  kinds = λ j l. is_leaf_linked y i none (parent_count y i p e) j;
}

enlarged_element : {y z : Table} (i : ℕ) → Enlarged y z → is_element y i ≡ true → is_element z i ≡ true
enlarged_element {y} {z} i g h =
    let k = is_element_at y i h in
    is_element_by z i (omega (arith, g.more, k.0)) (g.kinds i k.0 ∙ k.1)

enlarged_leads : {F : Table → Row → Type 0} {a b : State} → Leads F a b → Enlarged a.plan b.plan
enlarged_leads {a = a} begun = enlarged_self a.plan
enlarged_leads (row_made s r q c f) = enlarged_then (enlarged_leads q) (enlarged_with_row s.plan r)
enlarged_leads (link_cut s i p q e) = enlarged_then (enlarged_leads q) (enlarged_cut s.plan i p e)

-- A PROPERTY of a row's kind and tag
module _ (Q : Row → Type 0) (moved : (r : Row) (p : Option ℕ) → Q r → Q (with_parent r p)) where
  -- the states that a run on x can come to by rows that fit and have it
  abbrev pub ComesBy : Table → State → Type 0
  ComesBy x s = Leads (λ (y : Table) (r : Row). Fits y r × Q r) (state x []) s

  pub comes_to : (x : Table) {s : State} → ComesBy x s → ComesTo x s
  comes_to x = leads_imp (λ y r f. f.0)

  -- every row of theirs has it
  pub comes_all : (x : Table) {s : State} → All Q x.rows → ComesBy x s → All Q s.plan.rows
  comes_all x a begun = a
  comes_all x a (row_made s r q c f) = all_snoc (comes_all x a q) f.1
  comes_all x a (link_cut s i p q e) =
      let b = comes_all x a q in
      all_set i b (moved (row_at s.plan i) none (all_at no_row i b (parent_count s.plan i p e)))

  -- AN OUTCOME from a state with table y: a refusal, or rows of an enlarged table that a run on x can come to
  abbrev Keeps : (x y : Table) → Out → Type 0
  Keeps x y (refused f) = Unit
  Keeps x y (gives v u) = ComesBy x u × AreRows (count u.plan) v × Enlarged y u.plan

  keeps_from : (x y z : Table) (o : Out) → Enlarged y z → Keeps x z o → Keeps x y o
  keeps_from x y z (refused f) g k = tt
  keeps_from x y z (gives v u) g k = (k.0, k.1, enlarged_then g k.2)

  and_then_keeps : (x y : Table) (o : Out) (next : List ℕ → State → Out) → Keeps x y o →
      ((v : List ℕ) (u : State) → ComesBy x u → AreRows (count u.plan) v → Enlarged y u.plan → Keeps x u.plan (next v u)) →
      Keeps x y (and_then o next)
  and_then_keeps x y (refused f) next k h = tt
  and_then_keeps x y (gives v u) next k h = keeps_from x y u.plan (next v u) k.2 (h v u k.0 k.1 k.2)

  then_row_keeps : (x y : Table) (o : Out) (next : State → Out) → Keeps x y o →
      ((u : State) → ComesBy x u → Enlarged y u.plan → Keeps x u.plan (next u)) → Keeps x y (then_row o next)
  then_row_keeps x y (refused f) next k h = tt
  then_row_keeps x y (gives v u) next k h = keeps_from x y u.plan (next u) k.2 (h u k.0 k.2)

  gives_keeps : (x : Table) (v : List ℕ) (s : State) → ComesBy x s → AreRows (count s.plan) v → Keeps x s.plan (gives v s)
  gives_keeps x v s r a = (r, a, enlarged_self s.plan)

  -- NEW ROWS
  new_row_keeps : (x : Table) (z : ℕ) (r : Row) (s : State) → ComesBy x s → tag_fits r ≡ true →
      parent_fits s.plan (count s.plan) r.parent ≡ true → Q r → Keeps x s.plan (new_row z r s)
  new_row_keeps x z r s q f g k =
      cond_cases (Keeps x s.plan) (ltb (count s.plan) max_rows)
      (λ e.
      let l : count s.plan < count (with_row s.plan r) = omega (arith, count_with_row s.plan r) in
      (row_made s r q (ltb-true (count s.plan) max_rows e) ((f, g), k), also l nothing, enlarged_with_row s.plan r))
      (λ e. tt)

  -- DELETE
  cut_all_keeps : (x : Table) (v : List ℕ) (s : State) → ComesBy x s → Keeps x s.plan (gives [] (cut_all v s))
  cut_all_keeps x v s r = (leads_then r (cuts_lead v s), nothing, enlarged_leads (cuts_lead {F = Fits} v s))

  -- INSERT. A copy stands at its new number, with the kind of what it copies; y: the table as it was before the insert
  abbrev CopiesWell : (y z : Table) → List Copied → Type 0
  CopiesWell y z cs = (p q : ℕ) → copy_of p cs ≡ some q → (q < count z) × ((row_at z q).is_leaf ≡ (row_at y p).is_leaf)

  copies_none : (y z : Table) → CopiesWell y z []
  unfolding copy_of
  copies_none y z p q e = absurd (none-ne-some q e)

  copies_more : (y z : Table) (i : ℕ) (r : Row) (cs : List Copied) → r.is_leaf ≡ (row_at y i).is_leaf → CopiesWell y z cs →
      CopiesWell y (with_row z r) (record { old = i; new = count z } ∷ cs)
  unfolding copy_of
  copies_more y z i r cs h c p q e = go (eqb i p) refl
    where
      go : (t : Bool) → eqb i p ≡ t → (q < count (with_row z r)) × ((row_at (with_row z r) q).is_leaf ≡ (row_at y p).is_leaf)
      go true k =
          let m : count z ≡ q = cc (rw k at e) in
          let l : i ≡ p = eqb-true i p k in (
            omega (arith, count_with_row z r),
            ap (λ (n : ℕ). (row_at (with_row z r) n).is_leaf) (sym m) ∙ ap (λ (w : Row). w.is_leaf) (row_at_with_row_new z r) ∙ h ∙
                ap (λ (n : ℕ). (row_at y n).is_leaf) l,
          )
      go false k =
          let m = c p q (rw k at e) in
          (omega (arith, count_with_row z r, m.0), ap (λ (w : Row). w.is_leaf) (row_at_with_row_old z r q m.0) ∙ m.1)

  module _ (x y : Table) (ty : Tree y) (qy : All Q y.rows) (place t g : ℕ) where
    copy_parent_fits : (z : Table) (i : ℕ) (cs : List Copied) → CopiesWell y z cs → is_element z g ≡ true →
        parent_fits z (count z) (copy_row y t g i cs).parent ≡ true
    copy_parent_fits z i cs c h = go (eqb i t) (row_at y i).parent refl
      where
        copied : (p : ℕ) → (row_at y i).parent ≡ some p → (q : Option ℕ) → copy_of p cs ≡ q → parent_fits z (count z) q ≡ true
        copied p e none k = refl
        copied p e (some q) k =
            let m = c p q k in
            and_both _ _ (lt-ltb _ _ m.0) (is_element_by z q m.0 (m.1 ∙ (ty.parents i p e).1))

        go : (top : Bool) (p : Option ℕ) → (row_at y i).parent ≡ p → parent_fits z (count z) (copy_parent top g p cs) ≡ true
        go true p e = and_both _ _ (lt-ltb _ _ (is_element_at z g h).0) h
        go false none e = refl
        go false (some p) e = copied p e (copy_of p cs) refl

    copy_each_keeps : {is : List ℕ} → AreRows (count y) is → (cs : List Copied) (s : State) → ComesBy x s → CopiesWell y s.plan cs →
        is_element s.plan g ≡ true → Keeps x s.plan (copy_each place y t g is cs s)
    unfolding copy_each
    copy_each_keeps nothing cs s r c h = gives_keeps x [] s r nothing
    copy_each_keeps (also {a = i} {l = is} l a) cs s r c h = go (ltb (count s.plan) max_rows) refl (copy_each_keeps a)
      where
        w : Row
        w = copy_row y t g i cs

        ds : List Copied
        ds = record { old = i; new = count s.plan } ∷ cs

        go : (b : Bool) → ltb (count s.plan) max_rows ≡ b →
            ((cs : List Copied) (u : State) → ComesBy x u → CopiesWell y u.plan cs → is_element u.plan g ≡ true →
            Keeps x u.plan (copy_each place y t g is cs u)) →
            Keeps x s.plan
            (then_row (cond b (gives (count s.plan ∷ []) (with_made s w)) (refused (table_at place)))
            (λ (u : State). copy_each place y t g is ds u))
        go true e next =
            let f = enlarged_with_row s.plan w in
            keeps_from x s.plan (with_row s.plan w) (copy_each place y t g is ds (with_made s w)) f
            (next ds (with_made s w)
            (row_made s w r (ltb-true (count s.plan) max_rows e)
            ((ty.tags i l, copy_parent_fits s.plan i cs c h), moved (row_at y i) _ (all_at no_row i qy l)))
            (copies_more y s.plan i w cs refl c) (enlarged_element g f h))
        go false e next = tt

  copy_all_keeps : (x y : Table) → Tree y → All Q y.rows → (place g : ℕ) {is : List ℕ} → AreRows (count y) is → (s : State) →
      ComesBy x s → is_element s.plan g ≡ true → Keeps x s.plan (copy_all place y is g s)
  unfolding copy_all
  copy_all_keeps x y ty qy place g nothing s r h = gives_keeps x [] s r nothing
  copy_all_keeps x y ty qy place g (also {a = i} {l = is} l a) s r h =
      then_row_keeps x s.plan (copy_each place y i g (subtree y i) [] s) _
      (copy_each_keeps x y ty qy place i g (also l (collect_rows _ 0 (count y) (count y) (omega arith))) [] s r
      (copies_none y s.plan) h)
      (λ u q f. copy_all_keeps x y ty qy place g a u q (enlarged_element g f h))

  inserted_keeps : (x : Table) → Well x → All Q x.rows → (place : ℕ) (v w : List ℕ) (s : State) → ComesBy x s →
      AreRows (count s.plan) v → Keeps x s.plan (inserted place v w s)
  inserted_keeps x well rows place v w s r a =
      cond_cases (Keeps x s.plan) (eqb (length w) 1 && is_element s.plan (get_or w 0 0))
      (λ e. copy_all_keeps x s.plan (ran_well x well (comes_to x r)).tree (comes_all x rows r) place (get_or w 0 0) a s r
      (and_right (eqb (length w) 1) _ e)) (λ e. tt)

  -- JOIN AND FOR
  join_items_keeps : (x : Table) (z : ℕ) (v w : List ℕ) (s : State) → ComesBy x s → AreRows (count s.plan) v →
      AreRows (count s.plan) w →
      Keeps x s.plan (join_items z v w s)
  join_items_keeps x z v w s r a b =
      cond_cases (Keeps x s.plan) (ltb max_items (length v + length w)) (λ e. tt) (λ e. gives_keeps x (v ++ w) s r (all_append a b))

  loop_keeps : (x y : Table) (z : ℕ) (f : ℕ → State → Out) →
      ((i : ℕ) (u : State) → ComesBy x u → Enlarged y u.plan → i < count u.plan → Keeps x u.plan (f i u)) →
      (is v : List ℕ) (s : State) → AreRows (count s.plan) is → AreRows (count s.plan) v → ComesBy x s → Enlarged y s.plan →
      Keeps x s.plan (loop z f is v s)
  unfolding loop
  loop_keeps x y z f h [] v s a b r g = gives_keeps x v s r b
  loop_keeps x y z f h (i ∷ is) v s (also l a) b r g = joined (f i s) (h i s r g l) (loop_keeps x y z f h is)
    where
      joined : (o : Out) → Keeps x s.plan o →
          ((w : List ℕ) (u : State) → AreRows (count u.plan) is → AreRows (count u.plan) w → ComesBy x u → Enlarged y u.plan →
          Keeps x u.plan (loop z f is w u)) →
          Keeps x s.plan (join_for z v o (λ (w : List ℕ) (u : State). loop z f is w u))
      joined (refused q) k next = tt
      joined (gives w u) k next =
          cond_cases (Keeps x s.plan) (ltb max_items (length v + length w)) (λ e. tt)
          (λ e.
          keeps_from x s.plan u.plan (loop z f is (v ++ w) u) k.2
          (next (v ++ w) u (are_rows_more k.2.more a) (all_append (are_rows_more k.2.more b) k.1) k.0
          (enlarged_then g k.2)))

  -- EVALUATION, over the expression
  module _ (x : Table) (well : Well x) (rows : All Q x.rows) where
    run_keeps : (e : Expr) → FieldsFit e → All Q (constructed e) → (b : List (List ℕ)) (s : State) → ComesBy x s →
        AreValues (count s.plan) b → Keeps x s.plan (run e b s)
    unfolding run FieldsFit constructed
    run_keeps (nil z) t m b s r a = gives_keeps x [] s r nothing
    run_keeps (document z d) t m b s r a = gives_keeps x _ s r (marked_rows s.plan (ran_well x well (comes_to x r)).tree d)
    run_keeps (var z v) t m b s r a = gives_keeps x _ s r (all_read [] nothing a v)
    run_keeps (step z q e) t m b s r a =
        and_then_keeps x s.plan (run e b s) _ (run_keeps e t.1 m b s r a)
        (λ v u w c g. gives_keeps x _ u w (collect_rows _ 0 (count u.plan) (count u.plan) (omega arith)))
    run_keeps (both z e f) t m b s r a =
        and_then_keeps x s.plan (run e b s) _ (run_keeps e t.0 (all_front (constructed e) _ m) b s r a)
        (λ v u w c g.
        and_then_keeps x u.plan (run f b u) _
        (run_keeps f t.1 (all_back (constructed e) _ m) b u w (are_values_more g.more a))
        (λ v' u' w' c' g'. join_items_keeps x z v v' u' w' (are_rows_more g'.more c) c'))
    run_keeps (let_in z e f) t m b s r a =
        and_then_keeps x s.plan (run e b s) _ (run_keeps e t.0 (all_front (constructed e) _ m) b s r a)
        (λ v u w c g.
        run_keeps f t.1 (all_back (constructed e) _ m) (b ++ (v ∷ [])) u w (all_snoc (are_values_more g.more a) c))
    run_keeps (for_in z e f) t m b s r a =
        and_then_keeps x s.plan (run e b s) _ (run_keeps e t.0 (all_front (constructed e) _ m) b s r a)
        (λ v u w c g.
        loop_keeps x s.plan z _
        (λ i u' w' g' l.
        run_keeps f t.1 (all_back (constructed e) _ m) (b ++ ((i ∷ []) ∷ [])) u' w'
        (all_snoc (are_values_more g'.more a) (also l nothing)))
        v [] u c nothing w g)
    run_keeps (if_in z e f g) t m b s r a =
        and_then_keeps x s.plan (run e b s) _ (run_keeps e t.0 (all_front (constructed e) _ m) b s r a)
        (λ v u w c h.
        let n = all_back (constructed e) (constructed f ++ constructed g) m in
        cond_cases (Keeps x u.plan) (eqb (length v) 0)
        (λ q. run_keeps g t.2 (all_back (constructed f) (constructed g) n) b u w (are_values_more h.more a))
        (λ q. run_keeps f t.1 (all_front (constructed f) (constructed g) n) b u w (are_values_more h.more a)))
    run_keeps (element z n) t (also k m) b s r a = new_row_keeps x z (loose false n) s r t refl k
    run_keeps (leaf z v) t (also k m) b s r a = new_row_keeps x z (loose true v) s r t refl k
    run_keeps (delete z e) t m b s r a =
        and_then_keeps x s.plan (run e b s) _ (run_keeps e t m b s r a) (λ v u w c g. cut_all_keeps x v u w)
    run_keeps (insert z e f) t m b s r a =
        and_then_keeps x s.plan (run e b s) _ (run_keeps e t.0 (all_front (constructed e) _ m) b s r a)
        (λ v u w c g.
        and_then_keeps x u.plan (run f b u) _
        (run_keeps f t.1 (all_back (constructed e) _ m) b u w (are_values_more g.more a))
        (λ v' u' w' c' g'. inserted_keeps x well rows z v v' u' w' (are_rows_more g'.more c)))
    run_keeps (pick z q c e) t m b s r a =
        and_then_keeps x s.plan (run e b s) _ (run_keeps e t m b s r a) (λ v u w d g. gives_keeps x _ u w (all_filtered _ d))

    -- a run that ends
    pub run_on_comes : (e : Expr) → FieldsFit e → All Q (constructed e) → (v : List ℕ) (s : State) → run_on x e ≡ gives v s → ComesBy x s
    run_on_comes e t m v s q = (subst (Keeps x x) q (run_keeps e t m [] (state x []) begun nothing)).0
