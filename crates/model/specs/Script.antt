-- Document 01, 'The scripts': expressions in prefix order, read with a refusal's number and place.
use Rattle.std.specs.Prelude.{Bool, true, ◌&&◌, ◌||◌, not, cond, List, [], ◌∷◌, ℕ, zero, suc, ◌+◌, ltb, leb, eqb, length, get_or, drop}
use Rattle.model.specs.Limits.{documents, max_records, max_depth, max_binders}
use Rattle.model.specs.Refusal.{Refusal, fine, is_fine, or_else, unless, kind_at, short_at, tail_at, field_at, size_at}
use Rattle.model.specs.Table.{is_name}
use Rattle.model.specs.Kinds.{Kind, kind_by, kind_of, is_found, body_by, operands_by}

-- Axis: 0 child, 1 descendant, 2 parent, 3 ancestor. Test: 0 any node, 1 any element, 2 any leaf, 3 the named element
pub record Step : Type 0 where
  pub axis : ℕ
  pub test : ℕ
  pub name : ℕ

abbrev pub step_by : (axis test name : ℕ) → Step
step_by a t n = record { axis = a; test = t; name = n }

-- an expression carries the place of its kind byte
pub data Expr : Type 0 where
  nil : (place : ℕ) → Expr
  document : (place number : ℕ) → Expr
  var : (place number : ℕ) → Expr
  step : (place : ℕ) → Step → Expr → Expr
  both : (place : ℕ) → Expr → Expr → Expr
  let_in : (place : ℕ) → Expr → Expr → Expr
  for_in : (place : ℕ) → Expr → Expr → Expr
  if_in : (place : ℕ) → Expr → Expr → Expr → Expr
  element : (place name : ℕ) → Expr
  leaf : (place value : ℕ) → Expr
  delete : (place : ℕ) → Expr → Expr
  insert : (place : ℕ) → Expr → Expr → Expr
  pick : (place relation value : ℕ) → Expr → Expr

-- RECORDS of an expression
unfoldable pub records_of : Expr → ℕ
records_of (nil z) = 1
records_of (document z d) = 1
records_of (var z v) = 1
records_of (step z s e) = 1 + records_of e
records_of (both z e f) = 1 + records_of e + records_of f
records_of (let_in z e f) = 1 + records_of e + records_of f
records_of (for_in z e f) = 1 + records_of e + records_of f
records_of (if_in z e f g) = 1 + records_of e + records_of f + records_of g
records_of (element z n) = 1
records_of (leaf z v) = 1
records_of (delete z e) = 1 + records_of e
records_of (insert z e f) = 1 + records_of e + records_of f
records_of (pick z r c e) = 1 + records_of e

-- NUMBERS of the kinds
abbrev pub nil_kind : ℕ
nil_kind = 0x01

abbrev pub document_kind : ℕ
document_kind = 0x02

abbrev pub variable_kind : ℕ
variable_kind = 0x03

abbrev pub step_kind : ℕ
step_kind = 0x04

abbrev pub join_kind : ℕ
join_kind = 0x05

abbrev pub let_kind : ℕ
let_kind = 0x06

abbrev pub for_kind : ℕ
for_kind = 0x07

abbrev pub if_kind : ℕ
if_kind = 0x08

abbrev pub new_element_kind : ℕ
new_element_kind = 0x09

abbrev pub new_leaf_kind : ℕ
new_leaf_kind = 0x0A

abbrev pub delete_kind : ℕ
delete_kind = 0x0B

abbrev pub insert_kind : ℕ
insert_kind = 0x0C

abbrev pub pick_kind : ℕ
pick_kind = 0x0D

-- KINDS: a row of document 01's table each, with the bytes of its body and its operands
unfoldable pub script_kinds : List Kind
script_kinds =
    kind_by nil_kind 0 0 ∷
    kind_by document_kind 1 0 ∷
    kind_by variable_kind 1 0 ∷
    kind_by step_kind 3 1 ∷
    kind_by join_kind 0 2 ∷
    kind_by let_kind 0 2 ∷
    kind_by for_kind 0 2 ∷
    kind_by if_kind 0 3 ∷
    kind_by new_element_kind 1 0 ∷
    kind_by new_leaf_kind 1 0 ∷
    kind_by delete_kind 0 1 ∷
    kind_by insert_kind 0 2 ∷
    kind_by pick_kind 2 1 ∷
    []

-- the byte is a kind
abbrev pub is_script_kind : (byte : ℕ) → Bool
is_script_kind k = is_found (kind_of script_kinds k)

-- bytes of a body
abbrev pub body_size : (kind : ℕ) → ℕ
body_size k = body_by (kind_of script_kinds k)

-- operands of a record; none for a byte that is no kind
abbrev pub arity : (kind : ℕ) → ℕ
arity k = operands_by (kind_of script_kinds k)

-- name is 0 unless the test is 3, and then 1 to 255
abbrev pub test_fits : (test name : ℕ) → Bool
test_fits t n = cond (eqb t 3) (is_name n) (ltb t 3 && eqb n 0)

-- 4: the fields of the record at the front are in range, its variable is bound
abbrev pub body_fits : (bound : ℕ) → (bytes : List ℕ) → Bool
body_fits v b =
    cond (eqb (get_or b 0 0) document_kind) (ltb (get_or b 1 0) documents)
    (cond (eqb (get_or b 0 0) variable_kind) (ltb (get_or b 1 0) v)
    (cond (eqb (get_or b 0 0) step_kind) (ltb (get_or b 1 0) 4 && test_fits (get_or b 2 0) (get_or b 3 0))
    (cond (eqb (get_or b 0 0) new_element_kind) (is_name (get_or b 1 0))
    (cond (eqb (get_or b 0 0) pick_kind) (ltb (get_or b 1 0) 3) true))))

-- let and for bind a variable
abbrev pub is_binder : (kind : ℕ) → Bool
is_binder k = eqb k let_kind || eqb k for_kind

-- of the record at the front: 2 where an operand is due and no byte is left; then 1, 5, 2, 4
abbrev pub expr_refusal : (place records depth bound : ℕ) → (bytes : List ℕ) → Refusal
expr_refusal i n d v b =
    or_else (unless (ltb 0 (length b)) (short_at i))
    (or_else (unless (is_script_kind (get_or b 0 0)) (kind_at i))
    (or_else (unless (ltb n max_records && leb d max_depth && not (is_binder (get_or b 0 0) && leb max_binders v)) (size_at i))
    (or_else (unless (leb (1 + body_size (get_or b 0 0)) (length b)) (short_at i)) (unless (body_fits v b) (field_at i)))))

-- READ: a refusal; or an expression, and the place, records and bytes behind it
pub data Parsed : Type 0 where
  refused : Refusal → Parsed
  parsed : Expr → (place records : ℕ) → (bytes : List ℕ) → Parsed

-- what follows an expression, unless it is refused
abbrev pub then_parse : Parsed → (Expr → ℕ → ℕ → List ℕ → Parsed) → Parsed
then_parse (refused x) next = refused x
then_parse (parsed e i n b) next = next e i n b

-- one operand
abbrev pub one : (ℕ → ℕ → ℕ → List ℕ → Parsed) → (place records bound : ℕ) → (bytes : List ℕ) → (Expr → Expr) → Parsed
one f i n v b make = then_parse (f i n v b) (λ (e : Expr) (j m : ℕ) (c : List ℕ). parsed (make e) j m c)

-- two operands, one after the other; the second may bind one variable more
abbrev pub two : (ℕ → ℕ → ℕ → List ℕ → Parsed) → (place records first second : ℕ) → (bytes : List ℕ) → (Expr → Expr → Expr) → Parsed
two f i n v w b make =
    then_parse (f i n v b) (λ (e : Expr) (j m : ℕ) (c : List ℕ). one f j m w c (make e))

-- three operands
abbrev pub three : (ℕ → ℕ → ℕ → List ℕ → Parsed) → (place records bound : ℕ) → (bytes : List ℕ) → (Expr → Expr → Expr → Expr) → Parsed
three f i n v b make =
    then_parse (f i n v b) (λ (e : Expr) (j m : ℕ) (c : List ℕ). two f j m v v c (make e))

-- the expression whose record, at place z, stands at the front of b; its operands, read by f, start at place i with the bytes c
abbrev pub operands : (ℕ → ℕ → ℕ → List ℕ → Parsed) → (at place records bound : ℕ) → (bytes rest : List ℕ) → Parsed
operands f z i n v b c =
    cond (eqb (get_or b 0 0) nil_kind) (parsed (nil z) i n c)
    (cond (eqb (get_or b 0 0) document_kind) (parsed (document z (get_or b 1 0)) i n c)
    (cond (eqb (get_or b 0 0) variable_kind) (parsed (var z (get_or b 1 0)) i n c)
    (cond (eqb (get_or b 0 0) step_kind) (one f i n v c (step z (step_by (get_or b 1 0) (get_or b 2 0) (get_or b 3 0))))
    (cond (eqb (get_or b 0 0) join_kind) (two f i n v v c (both z))
    (cond (eqb (get_or b 0 0) let_kind) (two f i n v (v + 1) c (let_in z))
    (cond (eqb (get_or b 0 0) for_kind) (two f i n v (v + 1) c (for_in z))
    (cond (eqb (get_or b 0 0) if_kind) (three f i n v c (if_in z))
    (cond (eqb (get_or b 0 0) new_element_kind) (parsed (element z (get_or b 1 0)) i n c)
    (cond (eqb (get_or b 0 0) new_leaf_kind) (parsed (leaf z (get_or b 1 0)) i n c)
    (cond (eqb (get_or b 0 0) delete_kind) (one f i n v c (delete z))
    (cond (eqb (get_or b 0 0) insert_kind) (two f i n v v c (insert z))
    (one f i n v c (pick z (get_or b 1 0) (get_or b 2 0))))))))))))))

-- the expression at the front; fuel: more than the depths left
unfoldable pub parse_from : ℕ → (depth place records bound : ℕ) → (bytes : List ℕ) → Parsed
parse_from zero d i n v b = refused (size_at i)
parse_from (suc k) d i n v b =
    cond (is_fine (expr_refusal i n d v b))
    (operands (parse_from k (d + 1)) i (i + (1 + body_size (get_or b 0 0))) (n + 1) v b (drop (1 + body_size (get_or b 0 0)) b))
    (refused (expr_refusal i n d v b))

-- 3 comes last, at the first spare byte
abbrev pub whole : Parsed → Parsed
whole (refused x) = refused x
whole (parsed e i n b) = cond (eqb (length b) 0) (parsed e i n b) (refused (tail_at i))

-- a whole script: the outermost expression at depth 1
abbrev pub read_script : (bytes : List ℕ) → Parsed
read_script b = whole (parse_from (max_depth + 2) 1 0 0 0 b)

-- its refusal, or none
abbrev pub refusal_by : Parsed → Refusal
refusal_by (refused f) = f
refusal_by (parsed e i n c) = fine
