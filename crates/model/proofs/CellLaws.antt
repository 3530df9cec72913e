-- Cells join as a commutative monoid, and every step between cells respects that; so the cells of two lists of paths obey the
-- equations of the cells of two paths.
use mathlib.Core.Path.{◌≡◌, refl, ap, sym, ◌∙◌}
use mathlib.Core.Bool.{Bool, true, false, ◌&&◌, ◌||◌, and-false, or-false, or_assoc, and-or_distrib_left, and-or_distrib_right}
use mathlib.Core.List.{List, [], ◌∷◌, ◌++◌}
use Prim.Native.Nat.{ℕ}
use lib.Dec.{eqb}
use Rattle.model.specs.Base.{any}
use Rattle.model.specs.Script.{Step}
use Rattle.model.specs.Paths.{Place, Path, start, ◌▸◌, with_step, document_place}
use Rattle.model.specs.Meeting.{Cell, on_cell, down_cell, up_cell, join_cell, is_deep, is_parent, admits_element, share_element}
use Rattle.model.specs.Meeting.{share_leaf}
use Rattle.model.specs.Meeting.{on_step, down_step, up_step, start_cell, start_cells, step_cells, cell, is_met, meets, any_meet}
use Rattle.model.proofs.BoolLaws.{or_swap}
use Rattle.model.proofs.MirrorLaws.{cell_equal}
use Rattle.model.specs.Meeting.{no_cell, sum, between, same_place}

-- DOCUMENTS: their root, if they are one
pub roots_are : (d e : ℕ) → on_cell (eqb d e) false ≡ start_cell (document_place d) (document_place e)
roots_are d e = ap (on_cell (eqb d e)) (sym (and-false (eqb d e)))

-- JOINING
join_none : (c : Cell) → join_cell c no_cell ≡ c
join_none c =
    cell_equal (join_cell c no_cell) c (or-false c.on_element) (or-false c.on_leaf) (or-false c.down_element) (or-false c.up_element)

join_assoc : (c d e : Cell) → join_cell (join_cell c d) e ≡ join_cell c (join_cell d e)
join_assoc c d e =
    cell_equal (join_cell (join_cell c d) e) (join_cell c (join_cell d e))
    (or_assoc c.on_element d.on_element e.on_element)
    (or_assoc c.on_leaf d.on_leaf e.on_leaf)
    (or_assoc c.down_element d.down_element e.down_element)
    (or_assoc c.up_element d.up_element e.up_element)

join_swap : (a b c d : Cell) → join_cell (join_cell a b) (join_cell c d) ≡ join_cell (join_cell a c) (join_cell b d)
join_swap a b c d =
    cell_equal (join_cell (join_cell a b) (join_cell c d)) (join_cell (join_cell a c) (join_cell b d))
    (or_swap a.on_element b.on_element c.on_element d.on_element)
    (or_swap a.on_leaf b.on_leaf c.on_leaf d.on_leaf)
    (or_swap a.down_element b.down_element c.down_element d.down_element)
    (or_swap a.up_element b.up_element c.up_element d.up_element)

-- a map of cells that respects joining
pub record Respects (h : Cell → Cell) : Type 0 where
  pub none : h no_cell ≡ no_cell
  pub join : (c d : Cell) → h (join_cell c d) ≡ join_cell (h c) (h d)

-- a node's parent: on, or past it
abbrev past : (deep a b : Bool) → Bool
past t a b = a || (t && b)

past_none : (t : Bool) → past t false false ≡ false
past_none t = and-false t

past_join : (t a b c d : Bool) → past t (a || b) (c || d) ≡ (past t a c || past t b d)
past_join t a b c d = ap (λ (x : Bool). (a || b) || x) (and-or_distrib_left t c d) ∙ or_swap a b (t && c) (t && d)

admit_join : (e t a b c d : Bool) → (e && past t (a || b) (c || d)) ≡ ((e && past t a c) || (e && past t b d))
admit_join e t a b c d = ap (λ (x : Bool). e && x) (past_join t a b c d) ∙ and-or_distrib_left e (past t a c) (past t b d)

admit_none : (e t : Bool) → (e && past t false false) ≡ false
admit_none e t = ap (λ (x : Bool). e && x) (past_none t) ∙ and-false e

pub down_respects : (s : Step) → Respects (down_step s)
down_respects s =
    record {
      none = ap down_cell (admit_none (admits_element s) (is_deep s));
      join = λ c d.
          ap down_cell (admit_join (admits_element s) (is_deep s) c.down_element d.down_element c.up_element d.up_element);
    }

pub up_respects : (t : Step) → Respects (up_step t)
up_respects t =
    record {
      none = ap up_cell (admit_none (admits_element t) (is_deep t));
      join = λ c d.
          ap up_cell (admit_join (admits_element t) (is_deep t) c.up_element d.up_element c.down_element d.down_element);
    }

parent_join : (s t : Step) (c d : Cell) → is_parent s t (join_cell c d) ≡ (is_parent s t c || is_parent s t d)
parent_join s t c d =
    ap (λ (x : Bool). x || (is_deep s && (c.up_element || d.up_element)))
    (past_join (is_deep t) c.on_element d.on_element c.down_element d.down_element) ∙
    past_join (is_deep s) (past (is_deep t) c.on_element c.down_element) (past (is_deep t) d.on_element d.down_element) c.up_element
    d.up_element

parent_none : (s t : Step) → is_parent s t no_cell ≡ false
parent_none s t = ap (λ (x : Bool). x || (is_deep s && false)) (past_none (is_deep t)) ∙ past_none (is_deep s)

share_join : (s t : Step) (e : Bool) (c d : Cell) →
    (is_parent s t (join_cell c d) && e) ≡ ((is_parent s t c && e) || (is_parent s t d && e))
share_join s t e c d = ap (λ (x : Bool). x && e) (parent_join s t c d) ∙ and-or_distrib_right (is_parent s t c) (is_parent s t d) e

pub on_respects : (s t : Step) → Respects (on_step s t)
on_respects s t =
    record {
      none = ap (λ (x : Bool). on_cell (x && share_element s t) (x && share_leaf s t)) (parent_none s t);
      join = λ c d. ap (λ (x : Bool). on_cell x (is_parent s t (join_cell c d) && share_leaf s t))
          (share_join s t (share_element s t) c d) ∙
          ap (λ (x : Bool). on_cell ((is_parent s t c && share_element s t) || (is_parent s t d && share_element s t)) x)
          (share_join s t (share_leaf s t) c d);
    }

-- SUMS
module _ {A : Type 0} where
  pub sum_same : (f g : A → Cell) → ((a : A) → f a ≡ g a) → (l : List A) → sum f l ≡ sum g l
  unfolding sum
  sum_same f g h [] = refl
  sum_same f g h (x ∷ xs) = ap (λ (c : Cell). join_cell c (sum f xs)) (h x) ∙ ap (join_cell (g x)) (sum_same f g h xs)

  sum_append : (f : A → Cell) (k l : List A) → sum f (k ++ l) ≡ join_cell (sum f k) (sum f l)
  unfolding sum
  sum_append f [] l = refl
  sum_append f (x ∷ k) l = ap (join_cell (f x)) (sum_append f k l) ∙ sym (join_assoc (f x) (sum f k) (sum f l))

  pub sum_join : (f g : A → Cell) (l : List A) → sum (λ (a : A). join_cell (f a) (g a)) l ≡ join_cell (sum f l) (sum g l)
  unfolding sum
  sum_join f g [] = refl
  sum_join f g (x ∷ xs) =
      ap (join_cell (join_cell (f x) (g x))) (sum_join f g xs) ∙ join_swap (f x) (g x) (sum f xs) (sum g xs)

  pub sum_through : (h : Cell → Cell) → Respects h → (f : A → Cell) (l : List A) → sum (λ (a : A). h (f a)) l ≡ h (sum f l)
  unfolding sum
  sum_through h r f [] = sym r.none
  sum_through h r f (x ∷ xs) = ap (join_cell (h (f x))) (sum_through h r f xs) ∙ sym (r.join (f x) (sum f xs))

  pub sum_none : (l : List A) → sum (λ (a : A). no_cell) l ≡ no_cell
  unfolding sum
  sum_none [] = refl
  sum_none (x ∷ xs) = sum_none xs

sum_steps : (f : Path → Cell) (s : Step) (ps : List Path) → sum f (with_step s ps) ≡ sum (λ (p : Path). f (p ▸ s)) ps
unfolding sum
sum_steps f s [] = refl
sum_steps f s (p ∷ ps) = ap (join_cell (f (p ▸ s))) (sum_steps f s ps)

-- BETWEEN two lists of paths
pub between_none : (ps : List Path) → between ps [] ≡ no_cell
unfolding sum
between_none ps = sum_none ps

pub between_first : (ps ps' qs : List Path) → between (ps ++ ps') qs ≡ join_cell (between ps qs) (between ps' qs)
between_first ps ps' qs = sum_append (λ (p : Path). sum (cell p) qs) ps ps'

pub between_second : (ps qs qs' : List Path) → between ps (qs ++ qs') ≡ join_cell (between ps qs) (between ps qs')
between_second ps qs qs' =
    sum_same (λ (p : Path). sum (cell p) (qs ++ qs')) (λ (p : Path). join_cell (sum (cell p) qs) (sum (cell p) qs'))
    (λ p. sum_append (cell p) qs qs') ps ∙
    sum_join (λ (p : Path). sum (cell p) qs) (λ (p : Path). sum (cell p) qs') ps

pub between_starts : (p q : Place) → between (start p ∷ []) (start q ∷ []) ≡ start_cell p q
unfolding sum cell start_cells
between_starts p q = join_none (join_cell (start_cell p q) no_cell) ∙ join_none (start_cell p q)

pub between_up : (p : Place) (t : Step) (qs : List Path) →
    between (start p ∷ []) (with_step t qs) ≡ up_step t (between (start p ∷ []) qs)
unfolding sum cell start_cells
between_up p t qs =
    join_none (sum (cell (start p)) (with_step t qs)) ∙ sum_steps (cell (start p)) t qs ∙
    sum_through (up_step t) (up_respects t) (cell (start p)) qs ∙ ap (up_step t) (sym (join_none (sum (cell (start p)) qs)))

pub between_down : (s : Step) (ps : List Path) (q : Place) →
    between (with_step s ps) (start q ∷ []) ≡ down_step s (between ps (start q ∷ []))
unfolding sum cell step_cells
between_down s ps q =
    sum_steps (λ (p : Path). sum (cell p) (start q ∷ [])) s ps ∙
    sum_same (λ (p : Path). sum (cell (p ▸ s)) (start q ∷ [])) (λ (p : Path). down_step s (sum (cell p) (start q ∷ [])))
    (λ p. join_none (down_step s (cell p (start q))) ∙ ap (down_step s) (sym (join_none (cell p (start q))))) ps ∙
    sum_through (down_step s) (down_respects s) (λ (p : Path). sum (cell p) (start q ∷ [])) ps

abbrev row : List Path → Path → Cell
row qs p = sum (cell p) qs

module _ (s t : Step) where
  -- one path more, with a list
  row_steps : (p : Path) (qs : List Path) → sum (cell (p ▸ s)) (with_step t qs) ≡
      join_cell (on_step s t (sum (cell p) qs))
      (join_cell (down_step s (sum (cell p) (with_step t qs))) (up_step t (sum (cell (p ▸ s)) qs)))
  unfolding cell step_cells
  row_steps p qs =
      sum_steps (cell (p ▸ s)) t qs ∙
      sum_join (λ (q : Path). on_step s t (cell p q))
      (λ (q : Path). join_cell (down_step s (cell p (q ▸ t))) (up_step t (cell (p ▸ s) q))) qs ∙
      ap (join_cell (sum (λ (q : Path). on_step s t (cell p q)) qs))
      (sum_join (λ (q : Path). down_step s (cell p (q ▸ t))) (λ (q : Path). up_step t (cell (p ▸ s) q)) qs) ∙
      ap
      (λ (c : Cell). join_cell c
      (join_cell (sum (λ (q : Path). down_step s (cell p (q ▸ t))) qs) (sum (λ (q : Path). up_step t (cell (p ▸ s) q)) qs)))
      (sum_through (on_step s t) (on_respects s t) (cell p) qs) ∙
      ap (λ (c : Cell). join_cell (on_step s t (sum (cell p) qs)) (join_cell c (sum (λ (q : Path). up_step t (cell (p ▸ s) q)) qs)))
      (sum_through (down_step s) (down_respects s) (λ (q : Path). cell p (q ▸ t)) qs ∙ ap (down_step s) (sym (sum_steps (cell p) t qs))) ∙
      ap (λ (c : Cell). join_cell (on_step s t (sum (cell p) qs)) (join_cell (down_step s (sum (cell p) (with_step t qs))) c))
      (sum_through (up_step t) (up_respects t) (cell (p ▸ s)) qs)

  pub between_steps : (ps qs : List Path) → between (with_step s ps) (with_step t qs) ≡
      join_cell (on_step s t (between ps qs))
      (join_cell (down_step s (between ps (with_step t qs))) (up_step t (between (with_step s ps) qs)))
  between_steps ps qs =
      sum_steps (λ (p : Path). sum (cell p) (with_step t qs)) s ps ∙
      sum_same (λ (p : Path). sum (cell (p ▸ s)) (with_step t qs))
      (λ (p : Path). join_cell (on_step s t (row qs p)) (join_cell (down_step s (row (with_step t qs) p)) (up_step t (row qs (p ▸ s)))))
      (λ p. row_steps p qs) ps ∙
      sum_join (λ (p : Path). on_step s t (row qs p))
      (λ (p : Path). join_cell (down_step s (row (with_step t qs) p)) (up_step t (row qs (p ▸ s)))) ps ∙
      ap (join_cell (sum (λ (p : Path). on_step s t (row qs p)) ps))
      (sum_join (λ (p : Path). down_step s (row (with_step t qs) p)) (λ (p : Path). up_step t (row qs (p ▸ s))) ps) ∙
      ap
      (λ (c : Cell). join_cell c
      (join_cell (sum (λ (p : Path). down_step s (row (with_step t qs) p)) ps) (sum (λ (p : Path). up_step t (row qs (p ▸ s))) ps)))
      (sum_through (on_step s t) (on_respects s t) (row qs) ps) ∙
      ap (λ (c : Cell). join_cell (on_step s t (between ps qs)) (join_cell c (sum (λ (p : Path). up_step t (row qs (p ▸ s))) ps)))
      (sum_through (down_step s) (down_respects s) (row (with_step t qs)) ps) ∙
      ap (λ (c : Cell). join_cell (on_step s t (between ps qs)) (join_cell (down_step s (between ps (with_step t qs))) c))
      (sum_through (up_step t) (up_respects t) (λ (p : Path). row qs (p ▸ s)) ps ∙
      ap (up_step t) (sym (sum_steps (λ (p : Path). sum (cell p) qs) s ps)))

-- AN ELEMENT ON BOTH is also up
abbrev OnUp : Cell → Type 0
OnUp c = (c.on_element || c.up_element) ≡ c.up_element

or_same : (x : Bool) → (x || x) ≡ x
or_same true = refl
or_same false = refl

join_on_up : (c d : Cell) → OnUp c → OnUp d → OnUp (join_cell c d)
join_on_up c d e f =
    or_swap c.on_element d.on_element c.up_element d.up_element ∙
    ap (λ (x : Bool). x || (d.on_element || d.up_element)) e ∙ ap (λ (x : Bool). c.up_element || x) f

start_on_up : (p : Place) (q : Path) → OnUp (start_cells p q)
unfolding start_cells
start_on_up p (start q) = or_same (same_place p q)
start_on_up p (q ▸ t) = refl

step_on_up : (s : Step) (f : Path → Cell) (q : Path) → OnUp (step_cells s f q)
unfolding step_cells
step_on_up s f (start q) = refl
step_on_up s f (q ▸ t) =
    join_on_up (on_step s t (f q)) (join_cell (down_step s (f (q ▸ t))) (up_step t (step_cells s f q)))
    (or_same (is_parent s t (f q) && share_element s t)) (join_on_up (down_step s (f (q ▸ t))) (up_step t (step_cells s f q)) refl refl)

cell_on_up : (p q : Path) → OnUp (cell p q)
unfolding cell
cell_on_up (start p) q = start_on_up p q
cell_on_up (p ▸ s) q = step_on_up s (cell p) q

sum_on_up : {A : Type 0} (f : A → Cell) → ((a : A) → OnUp (f a)) → (l : List A) → OnUp (sum f l)
unfolding sum
sum_on_up f h [] = refl
sum_on_up f h (x ∷ xs) = join_on_up (f x) (sum f xs) (h x) (sum_on_up f h xs)

pub between_on_up : (ps qs : List Path) → ((between ps qs).on_element || (between ps qs).up_element) ≡ (between ps qs).up_element
between_on_up ps qs = sum_on_up (λ (p : Path). sum (cell p) qs) (λ p. sum_on_up (cell p) (cell_on_up p) qs) ps

-- MEETING of lists is that of their cell
pub is_met_join : (c d : Cell) → is_met (join_cell c d) ≡ (is_met c || is_met d)
is_met_join c d = or_swap c.on_element d.on_element c.on_leaf d.on_leaf

is_met_sum : {A : Type 0} (f : A → Cell) (g : A → Bool) → ((a : A) → is_met (f a) ≡ g a) → (l : List A) → is_met (sum f l) ≡ any g l
unfolding sum any
is_met_sum f g h [] = refl
is_met_sum f g h (x ∷ xs) =
    is_met_join (f x) (sum f xs) ∙ ap (λ (t : Bool). t || is_met (sum f xs)) (h x) ∙ ap (λ (t : Bool). g x || t) (is_met_sum f g h xs)

pub is_met_between : (ps qs : List Path) → is_met (between ps qs) ≡ any_meet ps qs
is_met_between ps qs =
    is_met_sum (λ (p : Path). sum (cell p) qs) (λ (p : Path). any (meets p) qs) (λ p. is_met_sum (cell p) (meets p) (λ q. refl) qs) ps
