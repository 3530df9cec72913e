-- The paths of a script without upward steps: each step leads down and names 1 to 255, each place is a document's or the script's own.
use mathlib.Core.Path.{◌≡◌, refl}
use mathlib.Core.Bool.{Bool, true, false, ◌&&◌, ◌||◌, not, false≢true, cond}
use mathlib.Core.Logic.{◌⊎◌, inl, inr}
use mathlib.Core.List.{List, [], ◌∷◌, ◌++◌}
use Prim.Native.Nat.{ℕ}
use native.Mathlib.Omega.{arith}
use native.Mathlib.Decide.{ℕ_discrete}
use lib.Dec.{ltb, eqb}
use borrow.Author.Tests.{leb-false, ltb-true, eqb-false, not-true}
use Rattle.model.specs.Base.{All, nothing, also}
use Rattle.model.specs.Table.{is_name}
use Rattle.model.specs.Script.{Step, test_fits, Expr, nil, document, var, step, both, let_in, for_in, if_in, element, leaf, delete}
use Rattle.model.specs.Script.{insert, pick}
use Rattle.model.specs.Paths.{Place, Path, start, ◌▸◌, with_step, any_below, Paths, infer, prefixes_of, prefixed, traversed, is_up}
use Rattle.model.specs.Paths.{has_up, paths_of, after, join_paths}
use Rattle.model.specs.Meeting.{is_named}
use Rattle.model.proofs.BoolLaws.{and_left, or_neither}
use Rattle.model.proofs.TestLaws.{and_three}
use Rattle.model.proofs.All.{all_read, all_append, all_snoc, all_map}
use Rattle.model.proofs.ScriptLaws.{FieldsFit}

-- A STEP that does not lead up leads to children or to descendants
pub down_axis : (s : Step) → is_up s ≡ false → (s.axis ≡ 0) ⊎ (s.axis ≡ 1)
down_axis s e = go (ℕ_discrete s.axis 0)
  where
    go : Dec (s.axis ≡ 0) → (s.axis ≡ 0) ⊎ (s.axis ≡ 1)
    go (yes h) = inl h
    go (no h) = inr (omega (arith, leb-false 2 s.axis e))

-- A STEP down whose name, where its test has one, is in range
pub record StepFits (s : Step) : Type 0 where
  pub down : is_up s ≡ false
  pub name_in : is_named s ≡ true → is_name s.name ≡ true

step_fits : (s : Step) → test_fits s.test s.name ≡ true → is_up s ≡ false → StepFits s
step_fits s f u = record { down = u; name_in = λ n. go (eqb s.test 3) refl n f }
  where
    go : (t : Bool) → eqb s.test 3 ≡ t → is_named s ≡ true →
        cond t (is_name s.name) (ltb s.test 3 && eqb s.name 0) ≡ true → is_name s.name ≡ true
    go true e n h = h
    go false e n h =
        let k = and_three (not (eqb s.test 0)) (not (eqb s.test 1)) (not (eqb s.test 2)) n in
        let l = ltb-true s.test 3 (and_left _ (eqb s.name 0) h) in
        let a = eqb-false s.test 0 (not-true _ k.0) in
        let b = eqb-false s.test 1 (not-true _ k.1) in
        let c = eqb-false s.test 2 (not-true _ k.2) in
        absurd (omega arith)

any_below_fits : StepFits any_below
any_below_fits = record { down = refl; name_in = λ e. absurd (false≢true e) }

-- A PROPERTY of every path inferred
pub record PathsAll (P : Path → Type 0) (x : Paths) : Type 0 where
  pub result : All P x.result
  pub accessed : All P x.accessed
  pub modified : All P x.modified

module _ {P : Path → Type 0} {x : Paths} where
  pub after_all : {r a m : List Path} → PathsAll P x → All P r → All P a → All P m → PathsAll P (after x r a m)
  after_all h r a m = record { result = r; accessed = all_append h.accessed a; modified = all_append h.modified m }

  pub join_all : {y : Paths} {r : List Path} → PathsAll P x → PathsAll P y → All P r → PathsAll P (join_paths x y r)
  join_all h i r = after_all h r i.accessed i.modified

-- A PATH of such steps from a place of the documents or of the owner
pub data PathFits (o : ℕ) : Path → Type 0 where
  starts : {p : Place} → (p.owner ≡ 0) ⊎ (p.owner ≡ o) → PathFits o (start p)
  steps : {p : Path} {s : Step} → PathFits o p → StepFits s → PathFits o (p ▸ s)

with_step_fits : {o : ℕ} {s : Step} {ps : List Path} → StepFits s → All (PathFits o) ps → All (PathFits o) (with_step s ps)
with_step_fits {s = s} f a = all_map (λ (p : Path). p ▸ s) (λ p h. steps h f) a

infer_fits : (o : ℕ) (e : Expr) (b : List (List Path)) → FieldsFit e → has_up e ≡ false → All (All (PathFits o)) b →
    PathsAll (PathFits o) (infer o e b)
unfolding infer FieldsFit has_up
infer_fits o (nil z) b f u a = record { result = nothing; accessed = nothing; modified = nothing }
infer_fits o (document z d) b f u a =
    record { result = also (starts (inl refl)) nothing; accessed = also (starts (inl refl)) nothing; modified = nothing }
infer_fits o (var z v) b f u a = record { result = all_read [] nothing a v; accessed = nothing; modified = nothing }
infer_fits o (step z s e) b f u a =
    let k = or_neither (is_up s) (has_up e) u in
    let h = infer_fits o e b f.1 k.1 a in
    let g = with_step_fits (step_fits s f.0 k.0) h.result in
    after_all h g g nothing
infer_fits o (both z e g) b f u a =
    let k = or_neither (has_up e) (has_up g) u in
    let h = infer_fits o e b f.0 k.0 a in
    let j = infer_fits o g b f.1 k.1 a in
    join_all h j (all_append h.result j.result)
infer_fits o (let_in z e g) b f u a =
    let k = or_neither (has_up e) (has_up g) u in
    let h = infer_fits o e b f.0 k.0 a in
    let j = infer_fits o g (b ++ ((infer o e b).result ∷ [])) f.1 k.1 (all_snoc a h.result) in
    join_all h j j.result
infer_fits o (for_in z e g) b f u a =
    let k = or_neither (has_up e) (has_up g) u in
    let h = infer_fits o e b f.0 k.0 a in
    let j = infer_fits o g (b ++ ((infer o e b).result ∷ [])) f.1 k.1 (all_snoc a h.result) in
    join_all h j j.result
infer_fits o (if_in z e g q) b f u a =
    let k = or_neither (has_up e || has_up g) (has_up q) u in
    let l = or_neither (has_up e) (has_up g) k.0 in
    let i = infer_fits o g b f.1 l.1 a in
    let j = infer_fits o q b f.2 k.1 a in
    join_all (infer_fits o e b f.0 l.0 a) (join_all {r = []} i j nothing) (all_append i.result j.result)
infer_fits o (element z n) b f u a =
    record { result = also (starts (inr refl)) nothing; accessed = nothing; modified = also (starts (inr refl)) nothing }
infer_fits o (leaf z v) b f u a =
    record { result = also (starts (inr refl)) nothing; accessed = nothing; modified = also (starts (inr refl)) nothing }
infer_fits o (delete z e) b f u a =
    let h = infer_fits o e b f u a in
    after_all h nothing nothing (all_append h.result (with_step_fits any_below_fits h.result))
infer_fits o (insert z e g) b f u a =
    let k = or_neither (has_up e) (has_up g) u in
    let h = infer_fits o e b f.0 k.0 a in
    let j = infer_fits o g b f.1 k.1 a in
    after_all (join_all {r = []} h j nothing) nothing (with_step_fits any_below_fits h.result) (with_step_fits any_below_fits j.result)
infer_fits o (pick z r c e) b f u a = infer_fits o e b f u a

-- TRAVERSED paths fit too
prefixes_of_fits : {o : ℕ} {p : Path} → PathFits o p → All (PathFits o) (prefixes_of p)
unfolding prefixes_of
prefixes_of_fits (starts h) = also (starts h) nothing
prefixes_of_fits (steps h f) = also (steps h f) (prefixes_of_fits h)

prefixed_fits : {o : ℕ} {ps : List Path} → All (PathFits o) ps → All (PathFits o) (prefixed ps)
unfolding prefixed
prefixed_fits nothing = nothing
prefixed_fits (also h a) = all_append (prefixes_of_fits h) (prefixed_fits a)

pub paths_of_fits : (o : ℕ) (e : Expr) → FieldsFit e → has_up e ≡ false →
    All (PathFits o) (paths_of o e).modified × All (PathFits o) (traversed (paths_of o e))
paths_of_fits o e f u = let h = infer_fits o e [] f u nothing in (h.modified, prefixed_fits h.accessed)
