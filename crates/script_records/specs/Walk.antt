-- A script walked in place: where an expression and its operands stand, and which it is.
use Rattle.std.specs.Prelude.{cond, List, [], ◌∷◌, ◌++◌, ℕ, zero, suc, ◌+◌, ◌-◌, eqb, get_or, drop}
use Rattle.model.specs.Script.{Expr, nil, document, var, step, both, let_in, for_in, if_in, element, leaf, delete, insert, pick, step_by}
use Rattle.model.specs.Script.{nil_kind, document_kind, variable_kind, step_kind, join_kind, let_kind, for_kind, if_kind}
use Rattle.model.specs.Script.{new_element_kind, new_leaf_kind, delete_kind, insert_kind, body_size, arity, is_binder}

-- A binder binds in its second operand only: the variables in scope there
unfoldable pub inner : (kind bound : ℕ) → ℕ
inner k v = cond (is_binder k) (v + 1) v

-- and what they stand for there: a binder's own is one more, behind those bound around it
abbrev pub with_bound : {A : Type 0} → (kind : ℕ) → (bound : List A) → A → List A
with_bound k xs x = cond (is_binder k) (xs ++ (x ∷ [])) xs

-- PLACES. The bytes that the next expressions take, so many pending, behind what is left of a body; all of them where they are cut off
unfoldable pub span : (pending body : ℕ) → (bytes : List ℕ) → ℕ
span p s [] = 0
span p s (x ∷ b) =
    cond (eqb s 0) (cond (eqb p 0) 0 (1 + span (p - 1 + arity x) (body_size x) b)) (1 + span p (s - 1) b)

-- the place past the next expressions
abbrev pub past : (pending : ℕ) → (bytes : List ℕ) → (at : ℕ) → ℕ
past p b i = i + span p 0 (drop i b)

-- the place past the expression at a place
abbrev pub end_at : (bytes : List ℕ) → (at : ℕ) → ℕ
end_at b i = past 1 b i

-- the operands of the expression at a place
abbrev pub first_at : (bytes : List ℕ) → (at : ℕ) → ℕ
first_at b i = i + (1 + body_size (get_or b i 0))

abbrev pub second_at : (bytes : List ℕ) → (at : ℕ) → ℕ
second_at b i = end_at b (first_at b i)

abbrev pub third_at : (bytes : List ℕ) → (at : ℕ) → ℕ
third_at b i = end_at b (second_at b i)

-- THE EXPRESSION of a record of this kind at a place, with these operands
unfoldable pub expr_of : (kind : ℕ) → (bytes : List ℕ) → (at : ℕ) → (first second third : Expr) → Expr
expr_of k b i x y z =
    cond (eqb k nil_kind) (nil i)
    (cond (eqb k document_kind) (document i (get_or b (i + 1) 0))
    (cond (eqb k variable_kind) (var i (get_or b (i + 1) 0))
    (cond (eqb k step_kind) (step i (step_by (get_or b (i + 1) 0) (get_or b (i + 2) 0) (get_or b (i + 3) 0)) x)
    (cond (eqb k join_kind) (both i x y)
    (cond (eqb k let_kind) (let_in i x y)
    (cond (eqb k for_kind) (for_in i x y)
    (cond (eqb k if_kind) (if_in i x y z)
    (cond (eqb k new_element_kind) (element i (get_or b (i + 1) 0))
    (cond (eqb k new_leaf_kind) (leaf i (get_or b (i + 1) 0))
    (cond (eqb k delete_kind) (delete i x)
    (cond (eqb k insert_kind) (insert i x y)
    (pick i (get_or b (i + 1) 0) (get_or b (i + 2) 0) x))))))))))))

-- the expression at a place; fuel: how deep it may be
unfoldable pub expr_at : ℕ → (bytes : List ℕ) → (at : ℕ) → Expr
expr_at zero b i = nil i
expr_at (suc k) b i =
    expr_of (get_or b i 0) b i (expr_at k b (first_at b i)) (expr_at k b (second_at b i)) (expr_at k b (third_at b i))
