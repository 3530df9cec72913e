-- What free means. 'upward': a script has an upward step. 'free': no row of any plan is on a path that one script modifies and on one
-- that the other traverses. 'meet': some plan has such a row.
use mathlib.Core.Path.{◌≡◌, refl, sym, ap, ◌∙◌}
use mathlib.Core.Bool.{Bool, true, false, ◌&&◌, ◌||◌, cond}
use mathlib.Core.Logic.{◌⊎◌, inl, inr}
use mathlib.Core.List.{List, Memᴰ as In}
use Prim.Native.Nat.{ℕ, ◌<◌}
use native.Mathlib.Omega.{arith}
use lib.ListN.{length}
use Rattle.model.specs.Base.{any, among, All}
use Rattle.model.specs.Table.{Table, count, is_tree, Tree}
use Rattle.model.specs.Script.{Expr}
use Rattle.model.specs.Paths.{Place, document_place, Path, paths_of, traversed, has_up, place_of}
use Rattle.model.specs.Meeting.{meets, any_meet, free, upward, meet, answer}
use Rattle.model.specs.Promise.{IsScript, Places, ArePlaces, rows_on, is_on, is_touched, NeverTouched, SomewhereTouched, FreeMeans}
use Rattle.model.proofs.BoolLaws.{and_both, or_cases, or_left, or_right, or_neither, true_false}
use Rattle.model.proofs.TestLaws.{and_parts}
use Rattle.model.proofs.TableLaws.{is_tree_at, is_tree_by}
use Rattle.model.proofs.ScriptLaws.{is_script_fields}
use Rattle.model.proofs.All.{all_in}
use Rattle.model.proofs.ListLaws.{any_in, in_any, among_in, in_among}
use Rattle.model.proofs.Words.{same}
use Rattle.model.proofs.WordsMeet.{meets_apart}
use Rattle.model.proofs.PathLaws.{PathFits, starts, steps, paths_of_fits}
use Rattle.model.proofs.Labels.{Label, label_at, fit_proper}
use Rattle.model.proofs.Start.{Started, started_by}
use Rattle.model.proofs.RowsOn.{placed_once, row_on}
use Rattle.model.proofs.CellsFound.{Meets, meets_found}
use Rattle.model.proofs.Chain.{chain, count_chain, chain_tree, by_marks, by_marks_places, spells_row}

-- THE ANSWER, by its two tests
answer_upward : (u m : Bool) → cond u upward (cond m meet free) ≡ upward → u ≡ true
answer_upward true m e = refl
answer_upward false true e = let z : ◌≡◌ {A = ℕ} 0 1 = cc in absurd (omega arith)
answer_upward false false e = let z : ◌≡◌ {A = ℕ} 0 1 = cc in absurd (omega arith)

answer_free : (u m : Bool) → cond u upward (cond m meet free) ≡ free → (u ≡ false) × (m ≡ false)
answer_free true m e = let z : ◌≡◌ {A = ℕ} 0 1 = cc in absurd (omega arith)
answer_free false true e = let z : ◌≡◌ {A = ℕ} 0 1 = cc in absurd (omega arith)
answer_free false false e = (refl, refl)

answer_meet : (u m : Bool) → cond u upward (cond m meet free) ≡ meet → (u ≡ false) × (m ≡ true)
answer_meet true m e = let z : ◌≡◌ {A = ℕ} 0 1 = cc in absurd (omega arith)
answer_meet false true e = (refl, refl)
answer_meet false false e = let z : ◌≡◌ {A = ℕ} 0 1 = cc in absurd (omega arith)

-- two scripts share no place but documents
path_owner : {o : ℕ} {p : Path} → PathFits o p → ((place_of p).owner ≡ 0) ⊎ ((place_of p).owner ≡ o)
unfolding place_of
path_owner (starts h) = h
path_owner (steps h f) = path_owner h

shared_document : {n o : ℕ} {p q : Path} → (n ≡ o → ⊥) → PathFits n p → PathFits o q → place_of p ≡ place_of q → (place_of p).owner ≡ 0
shared_document {n} {o} {p} {q} d f g e = go (path_owner f) (path_owner g)
  where
    k : (place_of p).owner ≡ (place_of q).owner
    k = ap (λ (z : Place). z.owner) e

    go : ((place_of p).owner ≡ 0) ⊎ ((place_of p).owner ≡ n) → ((place_of q).owner ≡ 0) ⊎ ((place_of q).owner ≡ o) → (place_of p).owner ≡ 0
    go (inl a) b = a
    go (inr a) (inl b) = k ∙ b
    go (inr a) (inr b) = absurd (d (sym a ∙ k ∙ b))

-- a test that cannot hold
false_by : (t : Bool) → (t ≡ true → ⊥) → t ≡ false
false_by true n = absurd (n refl)
false_by false n = refl

-- FREE: a row on two paths makes them meet
module _ {ls : List Label} (x : Table) (S : Started ls x) (h : Places) (a : ArePlaces x h) where
  row_meets : {n o : ℕ} {p q : Path} → PathFits n p → PathFits o q → (i : ℕ) → i < count x → In i (rows_on x h p) → In i (rows_on x h q) →
      meets p q ≡ false → ⊥
  row_meets {p} {q} f g i l y z e =
      let v = row_on x S h a f i y in
      let u = row_on x S h a g i z in
      meets_apart p q (label_at ls i).word (placed_once a v.root u.root) e (fit_proper S.fit i l) v.spells u.spells

  is_on_apart : {n o : ℕ} {ps qs : List Path} → All (PathFits n) ps → All (PathFits o) qs → any_meet ps qs ≡ false → (i : ℕ) →
      i < count x →
      (is_on x h i ps && is_on x h i qs) ≡ true → ⊥
  is_on_apart {ps} {qs} f g e i l k =
      let b = and_parts (is_on x h i ps) (is_on x h i qs) k in
      let (p, y, v) = any_in (λ (p : Path). among i (rows_on x h p)) ps b.0 in
      let (q, z, w) = any_in (λ (q : Path). among i (rows_on x h q)) qs b.1 in
      row_meets (all_in f y) (all_in g z) i l (among_in i _ v) (among_in i _ w)
      (false_by (meets p q) (λ m. true_false _ (in_any _ y (in_any _ z m)) e))

-- MEET: a plan with a row on a path of each list
is_on_in : (x : Table) (h : Places) (i : ℕ) {p : Path} {ps : List Path} → In p ps → In i (rows_on x h p) → is_on x h i ps ≡ true
is_on_in x h i y z = in_any (λ (r : Path). among i (rows_on x h r)) y (in_among z)

record Plan (ps qs : List Path) : Type 0 where
  plan : Table
  places : Places
  row : ℕ
  is_plan : is_tree plan ≡ true
  are_places : ArePlaces plan places
  within : row < count plan
  on_both : (is_on plan places row ps && is_on plan places row qs) ≡ true

meets_plan : (n o : ℕ) (ps qs : List Path) → (n ≡ o → ⊥) → All (PathFits n) ps → All (PathFits o) qs → any_meet ps qs ≡ true → Plan ps qs
meets_plan n o ps qs d f g e =
    let (p, y, v) = any_in (λ (p : Path). any (meets p) qs) ps e in
    let (q, z, w) = any_in (meets p) qs v in
    let (k, m) = meets_found (all_in f y) (all_in g z) w in
    found p q y z k m (shared_document d (all_in f y) (all_in g z) m.together)
  where
    found : (p q : Path) → In p ps → In q qs → (k : Bool) (m : Meets k p q) → (place_of p).owner ≡ 0 → Plan ps qs
    found p q y z k m b =
        let d : ℕ = (place_of p).number in
        let c : place_of p ≡ document_place d = λ j. record { owner = b j; number = d } in
        let x : Table = chain d m.word in
        let t : Tree x = chain_tree d (m.leads b) in
        let i : ℕ = length m.word in
        record {
          plan = x;
          places = by_marks x.marks;
          row = i;
          is_plan = is_tree_by x t;
          are_places = by_marks_places x t;
          within = omega (arith, count_chain d m.word);
          on_both =
              and_both _ _ (is_on_in x (by_marks x.marks) i y (spells_row d m.word t m.one same c))
              (is_on_in x (by_marks x.marks) i z (spells_row d m.word t m.two same (sym m.together ∙ c)));
        }

-- THE THEOREM
one_two : ◌≡◌ {A = ℕ} 1 2 → ⊥
one_two k = omega arith

two_one : ◌≡◌ {A = ℕ} 2 1 → ⊥
two_one k = omega arith

module _ (e f : Expr) where
  -- modified by one and traversed by the other, both ways round
  abbrev first_modifies : Table → Places → ℕ → Bool
  first_modifies x h i = is_on x h i (paths_of 1 e).modified && is_on x h i (traversed (paths_of 2 f))

  abbrev second_modifies : Table → Places → ℕ → Bool
  second_modifies x h i = is_on x h i (paths_of 2 f).modified && is_on x h i (traversed (paths_of 1 e))

  abbrev first_meets : Bool
  first_meets = any_meet (paths_of 1 e).modified (traversed (paths_of 2 f))

  abbrev second_meets : Bool
  second_meets = any_meet (paths_of 2 f).modified (traversed (paths_of 1 e))

module _ (e f : Expr) (s : IsScript e) (r : IsScript f) where
  free_untouched : answer e f ≡ free → NeverTouched e f
  free_untouched q x h i t a l =
      let (ls, S) = started_by x (is_tree_at x t) in
      let k = answer_free (has_up e || has_up f) (first_meets e f || second_meets e f) q in
      let u = or_neither (has_up e) (has_up f) k.0 in
      let m = or_neither (first_meets e f) (second_meets e f) k.1 in
      let b = paths_of_fits 1 e (is_script_fields e s) u.0 in
      let c = paths_of_fits 2 f (is_script_fields f r) u.1 in
      false_by (is_touched x h i e f)
      (λ z.
      elim (or_cases (first_modifies e f x h i) (second_modifies e f x h i) z) [
        | inl y ↦ is_on_apart x S h a b.0 c.1 m.0 i l y
        | inr y ↦ is_on_apart x S h a c.0 b.1 m.1 i l y
      ])

  some_touched : (ps qs : List Path) →
      ((x : Table) (h : Places) (i : ℕ) → (is_on x h i ps && is_on x h i qs) ≡ true → is_touched x h i e f ≡ true) → Plan ps qs →
      SomewhereTouched e f
  some_touched ps qs k p =
      (p.plan, (p.places, (p.row, (p.is_plan, p.are_places, p.within, k p.plan p.places p.row p.on_both))))

  meet_touched : answer e f ≡ meet → SomewhereTouched e f
  meet_touched q =
      let k = answer_meet (has_up e || has_up f) (first_meets e f || second_meets e f) q in
      let u = or_neither (has_up e) (has_up f) k.0 in
      let b = paths_of_fits 1 e (is_script_fields e s) u.0 in
      let c = paths_of_fits 2 f (is_script_fields f r) u.1 in
      elim (or_cases (first_meets e f) (second_meets e f) k.1) [
        | inl m ↦
            some_touched _ _ (λ x h i z. or_left (first_modifies e f x h i) (second_modifies e f x h i) z)
            (meets_plan 1 2 (paths_of 1 e).modified (traversed (paths_of 2 f)) one_two b.0 c.1 m)
        | inr m ↦
            some_touched _ _ (λ x h i z. or_right (first_modifies e f x h i) (second_modifies e f x h i) z)
            (meets_plan 2 1 (paths_of 2 f).modified (traversed (paths_of 1 e)) two_one c.0 b.1 m)
      ]

pub free_means : FreeMeans
free_means e f s r = (
  (answer_upward (has_up e || has_up f) (first_meets e f || second_meets e f), λ k. rw k),
  free_untouched e f s r,
  meet_touched e f s r,
)
