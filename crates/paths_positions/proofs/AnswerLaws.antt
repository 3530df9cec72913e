-- The answer by positions is the model's answer, for every two expressions.
use mathlib.Core.Path.{◌≡◌, refl, ap, sym, ◌∙◌}
use mathlib.Core.Bool.{Bool, true, false, ◌&&◌, ◌||◌, and_comm, or_comm, cond}
use mathlib.Core.Logic.{inl, inr}
use mathlib.Core.List.{List, [], ◌∷◌, ◌++◌}
use Prim.Native.Nat.{ℕ, zero, suc, ◌<◌, ◌≤◌}
use native.Mathlib.Omega.{arith}
use lib.ListN.{length, take}
use lib.Seq.{take-suc, take_all}
use borrow.Author.Tests.{ne_eqb}
use Rattle.model.specs.Base.{any, All, nothing, also}
use Rattle.model.specs.Script.{Expr}
use Rattle.model.specs.Paths.{place_of, Path, start, place, paths_of, traversed, has_up}
use Rattle.model.specs.Meeting.{is_met, meets, any_meet, paths_meet, free, upward, meet, answer, between}
use Rattle.model.proofs.All.{all_in}
use Rattle.model.proofs.Pointwise.{ended}
use Rattle.model.proofs.ListLaws.{any_append, any_same}
use Rattle.paths_positions.specs.Positions.{Entry, plain, nowhere, entry_at, AreLower, emit, entries_before, entries_of, paths_from}
use Rattle.paths_positions.specs.Positions.{paths_on}
use Rattle.paths_positions.specs.Answer.{any_up_to, is_tested, meet_at, positions_meet, answer_by}
use Rattle.model.proofs.CellLaws.{is_met_between, is_met_join, between_second}
use Rattle.model.proofs.BetweenLaws.{any_meet_mirror}
use Rattle.paths_positions.proofs.AnyUpToLaws.{any_up_to_same, any_up_to_or, any_up_to_and, any_up_to_swap}
use Rattle.paths_positions.proofs.PositionLaws.{paths_on_split}
use Rattle.paths_positions.proofs.DocumentLaws.{from_documents, owners_apart}
use Rattle.paths_positions.proofs.EmitLaws.{paths_with_from, paths_with, is_accessed, is_modified, paths_with_push, Ready, Right, emits}
use Rattle.paths_positions.proofs.TraverseLaws.{any_traversed, Own, modified_own, accessed_own, any_documents, documents_are}

-- POSITIONS WITH A ROLE: a test of lists of paths, that of a joined list being either's, at each such position
module _ (h : List Path → Bool) (none : h [] ≡ false) (append : (ps qs : List Path) → h (ps ++ qs) ≡ (h ps || h qs)) (f : Entry → Bool)
    (es : List Entry) where
  paths_with_next : (k : ℕ) → k < length es →
      h (paths_with f (take (suc k) es)) ≡ (h (paths_with f (take k es)) || (f (entry_at es k) && h (paths_on es k)))
  paths_with_next k l =
      ap (λ (v : List Entry). h (paths_with f v)) (take-suc es k (plain nowhere) l) ∙
      ap h (paths_with_push f (take k es) (entry_at es k)) ∙
      append (paths_with f (take k es)) _ ∙
      ap (λ (v : List Path). h (paths_with f (take k es)) || h (cond (f (entry_at es k)) v [])) (sym (paths_on_split es k l)) ∙
      ap (λ (t : Bool). h (paths_with f (take k es)) || t) (chosen (f (entry_at es k)))
    where
      chosen : (t : Bool) → h (cond t (paths_on es k) []) ≡ (t && h (paths_on es k))
      chosen true = refl
      chosen false = none

  paths_with_take : (n : ℕ) → n ≤ length es →
      h (paths_with f (take n es)) ≡ any_up_to (λ (k : ℕ). f (entry_at es k) && h (paths_on es k)) n
  unfolding any_up_to paths_with_from
  paths_with_take zero l = none
  paths_with_take (suc n) l =
      paths_with_next n (omega arith) ∙ ap (λ (t : Bool). t || (f (entry_at es n) && h (paths_on es n))) (paths_with_take n (omega arith))

  paths_with_any : h (paths_with f es) ≡ any_up_to (λ (k : ℕ). f (entry_at es k) && h (paths_on es k)) (length es)
  paths_with_any =
      sym (ap (λ (v : List Entry). h (paths_with f v)) (take_all (length es) es (omega arith))) ∙ paths_with_take (length es) (omega arith)

any_meet_none : (ps : List Path) → any_meet ps [] ≡ false
unfolding any
any_meet_none [] = refl
any_meet_none (p ∷ ps) = any_meet_none ps

any_meet_append : (ps qs qs' : List Path) → any_meet ps (qs ++ qs') ≡ (any_meet ps qs || any_meet ps qs')
any_meet_append ps qs qs' =
    sym (is_met_between ps (qs ++ qs')) ∙ ap is_met (between_second ps qs qs') ∙ is_met_join (between ps qs) (between ps qs') ∙
    ap (λ (t : Bool). t || is_met (between ps qs')) (is_met_between ps qs) ∙ ap (λ (t : Bool). any_meet ps qs || t) (is_met_between ps qs')

-- two roles: some position with one meets some position with the other
module _ (es fs : List Entry) where
  roles_meet : (f g : Entry → Bool) → any_meet (paths_with f es) (paths_with g fs) ≡
      any_up_to (λ (k : ℕ). any_up_to (λ (l : ℕ). f (entry_at es k) && (g (entry_at fs l) && any_meet (paths_on es k) (paths_on fs l)))
      (length fs))
      (length es)
  unfolding any
  roles_meet f g =
      paths_with_any (λ (ps : List Path). any_meet ps (paths_with g fs)) refl (any_append (λ (p : Path). any (meets p) (paths_with g fs)))
      f es ∙
      any_up_to_same _ _ (length es) (λ k.
      ap (λ (t : Bool). f (entry_at es k) && t)
      (paths_with_any (any_meet (paths_on es k)) (any_meet_none (paths_on es k)) (any_meet_append (paths_on es k)) g fs) ∙
      any_up_to_and (f (entry_at es k)) (λ (l : ℕ). g (entry_at fs l) && any_meet (paths_on es k) (paths_on fs l)) (length fs))

  tested : (a b c d t : Bool) → ((a && (b && t)) || (c && (d && t))) ≡ (((a && b) || (c && d)) && t)
  tested true true c d true = refl
  tested true true true true false = refl
  tested true true true false false = refl
  tested true true false d false = refl
  tested true false true d t = refl
  tested true false false d t = refl
  tested false b true d t = refl
  tested false b false d t = refl

  pub positions_meet_lem :
      (any_meet (paths_with is_modified es) (paths_with is_accessed fs) ||
      any_meet (paths_with is_modified fs) (paths_with is_accessed es)) ≡
      positions_meet es fs
  positions_meet_lem =
      ap (λ (t : Bool). t || any_meet (paths_with is_modified fs) (paths_with is_accessed es)) (roles_meet is_modified is_accessed) ∙
      ap (λ (t : Bool). any_up_to (λ (k : ℕ). any_up_to (one k) (length fs)) (length es) || t)
      (any_meet_mirror (paths_with is_accessed es) (paths_with is_modified fs) ∙ roles_meet is_accessed is_modified) ∙
      any_up_to_or (λ (k : ℕ). any_up_to (one k) (length fs)) (λ (k : ℕ). any_up_to (two k) (length fs)) (length es) ∙
      any_up_to_same _ _ (length es) (λ k.
      any_up_to_or (one k) (two k) (length fs) ∙
      any_up_to_same _ _ (length fs) (λ l.
      tested (entry_at es k).modified (entry_at fs l).accessed (entry_at es k).accessed (entry_at fs l).modified
      (any_meet (paths_on es k) (paths_on fs l)) ∙
      ap (λ (t : Bool). is_tested (entry_at es k) (entry_at fs l) && t) (sym (is_met_between (paths_on es k) (paths_on fs l)))))
    where
      one : ℕ → ℕ → Bool
      one k l = (entry_at es k).modified && ((entry_at fs l).accessed && any_meet (paths_on es k) (paths_on fs l))

      two : ℕ → ℕ → Bool
      two k l = (entry_at es k).accessed && ((entry_at fs l).modified && any_meet (paths_on es k) (paths_on fs l))

-- TWO SCRIPTS: what one modifies and the other traverses
module _ (o o' : ℕ) (first : o ≡ 0 → ⊥) (second : o' ≡ 0 → ⊥) (other : o ≡ o' → ⊥) where
  own_apart : (p : Path) → Own o p → (q : Path) → (place_of q).owner ≡ o' → meets p q ≡ false
  own_apart p (inl e) q f = owners_apart p q (ne_eqb (place_of p).owner (place_of q).owner (λ g. second (sym f ∙ sym g ∙ e)))
  own_apart p (inr e) q f = owners_apart p q (ne_eqb (place_of p).owner (place_of q).owner (λ g. other (sym e ∙ g ∙ f)))

  traversed_met : (p : Path) → Own o p →
      (f : Expr) → any (meets p) (traversed (paths_of o' f)) ≡ any (meets p) (from_documents (paths_of o' f).accessed)
  unfolding place_of
  traversed_met p h f =
      any_traversed (meets p) o' (λ z. own_apart p h (start (place o' z)) refl) f ∙
      any_documents (meets p) o' (own_apart p h) (paths_of o' f).accessed (accessed_own o' f)

  any_false : (p : Path) → (place_of p).owner ≡ o → {qs : List Path} → All (λ (q : Path). (place_of q).owner ≡ 0) qs →
      any (meets p) qs ≡ false
  unfolding any
  any_false p e nothing = refl
  any_false p e (also {a} {l} h all) =
      ap (λ (t : Bool). t || any (meets p) l)
      (owners_apart p a (ne_eqb (place_of p).owner (place_of a).owner (λ g. first (sym e ∙ g ∙ h)))) ∙
      any_false p e all

  scripts_meet : (e f : Expr) → any_meet (paths_of o e).modified (traversed (paths_of o' f)) ≡
      any_meet (from_documents (paths_of o e).modified) (from_documents (paths_of o' f).accessed)
  scripts_meet e f =
      any_same (λ (p : Path). any (meets p) (traversed (paths_of o' f)))
      (λ (p : Path). any (meets p) (from_documents (paths_of o' f).accessed))
      (paths_of o e).modified (λ p i. traversed_met p (all_in (modified_own o e) i) f) ∙
      any_documents (λ (p : Path). any (meets p) (from_documents (paths_of o' f).accessed)) o
      (λ p h. any_false p h (documents_are (paths_of o' f).accessed))
      (paths_of o e).modified (modified_own o e)

-- THE POSITIONS of a script
ready_before : Ready entries_before
unfolding paths_from
ready_before = record { some = omega arith; zero = refl; lower = only }
  where
    only : AreLower entries_before
    only zero h = tt
    only (suc k) h = tt

pub emitted_right : (o : ℕ) → (o ≡ 0 → ⊥) → (e : Expr) →
    Right entries_before (paths_of o e).result (paths_of o e).accessed (paths_of o e).modified (emit e [] entries_before)
emitted_right o own e = emits o own e [] [] entries_before ready_before ended

accessed_are : (o : ℕ) → (o ≡ 0 → ⊥) → (e : Expr) → paths_with is_accessed (entries_of e) ≡ from_documents (paths_of o e).accessed
unfolding paths_with_from
accessed_are o own e = (emitted_right o own e).accessed

modified_are : (o : ℕ) → (o ≡ 0 → ⊥) → (e : Expr) → paths_with is_modified (entries_of e) ≡ from_documents (paths_of o e).modified
unfolding paths_with_from
modified_are o own e = (emitted_right o own e).modified

paths_meet_lem : (e f : Expr) → paths_meet (paths_of 1 e) (paths_of 2 f) ≡ positions_meet (entries_of e) (entries_of f)
paths_meet_lem e f =
    ap (λ (t : Bool). t || any_meet (paths_of 2 f).modified (traversed (paths_of 1 e)))
    (scripts_meet 1 2 one two (λ q. omega arith) e f ∙ both 1 2 one two e f) ∙
    ap (λ (t : Bool). any_meet (paths_with is_modified (entries_of e)) (paths_with is_accessed (entries_of f)) || t)
    (scripts_meet 2 1 two one (λ q. omega arith) f e ∙ both 2 1 two one f e) ∙
    positions_meet_lem (entries_of e) (entries_of f)
  where
    one : ◌≡◌ {A = ℕ} 1 0 → ⊥
    one q = omega arith

    two : ◌≡◌ {A = ℕ} 2 0 → ⊥
    two q = omega arith

    both : (o o' : ℕ) → (o ≡ 0 → ⊥) → (o' ≡ 0 → ⊥) →
        (e f : Expr) → any_meet (from_documents (paths_of o e).modified) (from_documents (paths_of o' f).accessed) ≡
        any_meet (paths_with is_modified (entries_of e)) (paths_with is_accessed (entries_of f))
    both o o' g h e f =
        ap (λ (v : List Path). any_meet v (from_documents (paths_of o' f).accessed)) (sym (modified_are o g e)) ∙
        ap (any_meet (paths_with is_modified (entries_of e))) (sym (accessed_are o' h f))

pub answer_by_lem : (e f : Expr) → answer_by e f ≡ answer e f
answer_by_lem e f = ap (λ (t : Bool). cond (has_up e || has_up f) upward (cond t meet free)) (sym (paths_meet_lem e f))

-- IN EITHER ORDER: two scripts' answer does not depend on which is the first
tested_turned : (a b c d : Bool) → ((a && b) || (c && d)) ≡ ((d && c) || (b && a))
tested_turned a b c d =
    ap (λ (t : Bool). t || (c && d)) (and_comm a b) ∙ ap (λ (t : Bool). (b && a) || t) (and_comm c d) ∙ or_comm (b && a) (d && c)

meet_turned : (es fs : List Entry) (k l : ℕ) → meet_at es fs k l ≡ meet_at fs es l k
meet_turned es fs k l =
    ap (λ (t : Bool). t && is_met (between (paths_on es k) (paths_on fs l)))
    (tested_turned (entry_at es k).modified (entry_at fs l).accessed (entry_at es k).accessed (entry_at fs l).modified) ∙
    ap (λ (t : Bool). is_tested (entry_at fs l) (entry_at es k) && t)
    (is_met_between (paths_on es k) (paths_on fs l) ∙ any_meet_mirror (paths_on fs l) (paths_on es k) ∙
    sym (is_met_between (paths_on fs l) (paths_on es k)))

positions_turned : (es fs : List Entry) → positions_meet es fs ≡ positions_meet fs es
positions_turned es fs =
    any_up_to_swap (meet_at es fs) (length es) (length fs) ∙
    any_up_to_same _ _ (length fs) (λ l. any_up_to_same _ _ (length es) (λ k. meet_turned es fs k l))

pub answer_turned : (e f : Expr) → answer f e ≡ answer e f
answer_turned e f =
    sym (answer_by_lem f e) ∙ ap (λ (t : Bool). cond t upward (cond (positions_meet (entries_of f) (entries_of e)) meet free))
    (or_comm (has_up f) (has_up e)) ∙
    ap (λ (t : Bool). cond (has_up e || has_up f) upward (cond t meet free)) (positions_turned (entries_of f) (entries_of e)) ∙
    answer_by_lem e f
