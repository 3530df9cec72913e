-- Pick over the work area: one item more, and that what is kept is what the model keeps.
use Rattle.std.proofs.Common.{◌≡◌, ℕ, suc, ◌+◌, ◌-◌, ◌<◌, ◌≤◌, Bool, cond, ◌&&◌, List, [], ◌∷◌, ◌++◌, length, get_or, take, drop, set}
use Rattle.std.proofs.Common.{sym, refl, ap, ◌∙◌, subst, arith, length-drop, get_or-drop, take-suc, drop-drop, drop-set-lt}
use Rattle.model.specs.Base.{filtered}
use Rattle.model.specs.Table as model
use Rattle.model.specs.Step.{relates, is_picked, picked}
use Rattle.model.proofs.ListLaws.{filtered_append}
use Rattle.plan_table.specs.Packed.{row_of, decode_parts}
use Rattle.plan_table.proofs.PackedLaws.{row_at_decode}
use Rattle.run_query.specs.Values.{value_at, Appended}
use Rattle.run_query.proofs.ValueLaws.{value_none, appended_none, appended_if}

-- the packed row at a number is picked
abbrev pub picked_row : (rows : List ℕ) → (relation constant row : ℕ) → Bool
picked_row ws r c i = (row_of (get_or ws i 0)).is_leaf && relates r c (row_of (get_or ws i 0)).tag

-- the value up to one place more
value_next : (w : List ℕ) (from k : ℕ) → from ≤ k → k < length w → value_at w from (k + 1) ≡ value_at w from k ++ (get_or w k 0 ∷ [])
value_next w from k l h =
    let e : k + 1 - from ≡ suc (k - from) = omega arith in
    let f : from + (k - from) ≡ k = omega arith in
    let g : k - from < length (drop from w) = omega (arith, length-drop from w) in
    ap (λ (j : ℕ). take j (drop from w)) e ∙ take-suc (drop from w) (k - from) 0 g ∙
    ap (λ (a : ℕ). take (k - from) (drop from w) ++ (a ∷ [])) (get_or-drop from w (k - from) 0 ∙ ap (λ (j : ℕ). get_or w j 0) f)

pub filtered_none : (f : ℕ → Bool) (w : List ℕ) (from : ℕ) → Appended (filtered f (value_at w from from)) w from w from
unfolding filtered
filtered_none f w from = subst (λ (v : List ℕ). Appended (filtered f v) w from w from) (sym (value_none w from)) (appended_none w from)

pub filtered_by : (f : ℕ → Bool) (w w' : List ℕ) (from k r : ℕ) → from ≤ k → k < length w → r < length w' → Appended (filtered f (value_at
    w from k)) w from w' r →
    (t : Bool) (a : ℕ) (w'' : List ℕ) (r'' : ℕ) → a ≡ get_or w k 0 → t ≡ f (get_or w k 0) → w'' ≡ set w' r a → r'' ≡ cond t (r + 1) r →
    Appended (filtered f (value_at w from (k + 1))) w from w'' r''
unfolding filtered
filtered_by f w w' from k r l h b s t a w'' r'' same e p q =
    let v : filtered f (value_at w from (k + 1)) ≡ filtered f (value_at w from k) ++ cond (f (get_or w k 0)) (get_or w k 0 ∷ []) [] =
    ap (filtered f) (value_next w from k l h) ∙ filtered_append f (value_at w from k) (get_or w k 0 ∷ []) in
    let here : w'' ≡ set w' r (get_or w k 0) = p ∙ ap (set w' r) same in
    let past : r'' ≡ cond (f (get_or w k 0)) (r + 1) r = q ∙ ap (λ (u : Bool). cond u (r + 1) r) e in
    subst (λ (m : List ℕ). Appended m w from w'' r'') (sym v)
    (rw (here, past) (appended_if (f (get_or w k 0)) (get_or w k 0) (filtered f (value_at w from k)) w w' from r b s))

-- what is still to be read stays
pub rest_kept : (w w' : List ℕ) (k r a : ℕ) → r ≤ k → drop k w' ≡ drop k w → drop (k + 1) (set w' r a) ≡ drop (k + 1) w
rest_kept w w' k r a l e =
    drop-set-lt (k + 1) w' r a (omega arith) ∙ sym (drop-drop 1 k w') ∙ ap (drop 1) e ∙ drop-drop 1 k w

pub rest_at : (w w' : List ℕ) (k : ℕ) → drop k w' ≡ drop k w → get_or w' k 0 ≡ get_or w k 0
rest_at w w' k e =
    let z : k + 0 ≡ k = omega arith in
    ap (λ (j : ℕ). get_or w' j 0) (sym z) ∙ sym (get_or-drop k w' 0 0) ∙ ap (λ (l : List ℕ). get_or l 0 0) e ∙ get_or-drop k w 0 0 ∙
    ap (λ (j :
    ℕ). get_or w j 0) z

-- the model's pick
pub picked_rows : (ws : List ℕ) (n r c : ℕ) (v ms : List ℕ) → n ≤ length ws → ((k : ℕ) → k < length v → get_or v k 0 < n) →
    filtered (picked_row ws r c) v ≡ picked (decode_parts n ws ms) r c v
unfolding filtered
picked_rows ws n r c [] ms w h = refl
picked_rows ws n r c (i ∷ v) ms w h =
    let e : picked_row ws r c i ≡ is_picked (decode_parts n ws ms) r c i =
    ap (λ (q : model.Row). q.is_leaf && relates r c q.tag) (sym (row_at_decode n ws ms w i (h 0 (omega arith)))) in
    ap (λ (t : Bool). cond t (i ∷ filtered (picked_row ws r c) v) (filtered (picked_row ws r c) v)) e ∙
    ap (λ (l : List ℕ). cond (is_picked (decode_parts n ws ms) r c i) (i ∷ l) l) (picked_rows ws n r c v ms w (λ k b. h (suc k) (omega
    arith)))
