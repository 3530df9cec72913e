-- Document 01, 'The paths': result, accessed, modified and traversed paths of an expression.
use Rattle.std.specs.Prelude.{Bool, false, ◌||◌, List, [], ◌∷◌, ◌++◌, map, ℕ, leb, get_or}
use Rattle.model.specs.Script.{Step, step_by, Expr, nil, document, var, step, both}
use Rattle.model.specs.Script.{let_in, for_in, if_in, element, leaf, delete, insert, pick}

-- PLACES: documents 0 to 7 (owner 0), and the constructor records of each script (owner 1 or 2, by the record's place)
pub record Place : Type 0 where
  pub owner : ℕ
  pub number : ℕ

-- a place of an owner
abbrev pub place : (owner number : ℕ) → Place
place o n = record { owner = o; number = n }

-- the place of a document
abbrev pub document_place : (number : ℕ) → Place
document_place d = place 0 d

-- A path is a place, or a path and a step; a union is a list of paths, and nothing the empty list
infixl 60 ◌▸◌
pub data Path : Type 0 where
  start : Place → Path
  ◌▸◌ : Path → Step → Path

-- the place a path starts at
unfoldable pub place_of : Path → Place
place_of (start p) = p
place_of (p ▸ s) = place_of p

-- each path with the step
abbrev pub with_step : Step → List Path → List Path
with_step s ps = map (λ (p : Path). p ▸ s) ps

-- the step r/descendant any node
abbrev pub any_below : Step
any_below = step_by 1 0 0

-- Each expression has a result r, accessed paths and modified paths
pub record Paths : Type 0 where
  pub result : List Path
  pub accessed : List Path
  pub modified : List Path

abbrev pub paths : (result accessed modified : List Path) → Paths
paths r a m = record { result = r; accessed = a; modified = m }

-- operands' accessed and modified paths are always included
abbrev pub after : Paths → (result accessed modified : List Path) → Paths
after x r a m = paths r (x.accessed ++ a) (x.modified ++ m)

-- the paths of two operands
abbrev pub join_paths : Paths → Paths → (result : List Path) → Paths
join_paths x y r = after x r y.accessed y.modified

-- Document: r is its place, also accessed
abbrev pub accessed_place : Place → Paths
accessed_place p = paths (start p ∷ []) (start p ∷ []) []

-- Constructor: r is its place, also modified
abbrev pub modified_place : Place → Paths
modified_place p = paths (start p ∷ []) [] (start p ∷ [])

-- Step: r is the operand's r with the step, also accessed
abbrev pub stepping : Step → Paths → Paths
stepping s x = after x (with_step s x.result) (with_step s x.result) []

-- Delete: modified r1 and r1/descendant any node
abbrev pub deleting : Paths → Paths
deleting x = after x [] [] (x.result ++ with_step any_below x.result)

-- Insert: accessed r1/descendant any node; modified r2/descendant any node
abbrev pub inserting : Paths → Paths → Paths
inserting x y = after (join_paths x y []) [] (with_step any_below x.result) (with_step any_below y.result)

-- Let, for: the result of the body, in which a variable stands for its binder's r
abbrev pub binding : Paths → (List Path → Paths) → Paths
binding x body = join_paths x (body x.result) (body x.result).result

-- THE PATHS of an expression; variables stand for the results of their binders, the outermost first
unfoldable pub infer : (owner : ℕ) → Expr → (bound : List (List Path)) → Paths
infer o (nil z) b = paths [] [] []
infer o (document z d) b = accessed_place (document_place d)
infer o (var z v) b = paths (get_or b v []) [] []
infer o (step z s e) b = stepping s (infer o e b)
infer o (both z e f) b = join_paths (infer o e b) (infer o f b) ((infer o e b).result ++ (infer o f b).result)
infer o (let_in z e f) b = binding (infer o e b) (λ (r : List Path). infer o f (b ++ (r ∷ [])))
infer o (for_in z e f) b = binding (infer o e b) (λ (r : List Path). infer o f (b ++ (r ∷ [])))
infer o (if_in z e f g) b =
    join_paths (infer o e b) (join_paths (infer o f b) (infer o g b) []) ((infer o f b).result ++ (infer o g b).result)
infer o (element z n) b = modified_place (place o z)
infer o (leaf z v) b = modified_place (place o z)
infer o (delete z e) b = deleting (infer o e b)
infer o (insert z e f) b = inserting (infer o e b) (infer o f b)
infer o (pick z r c e) b = infer o e b

-- of a whole script, owner 1 or 2
abbrev pub paths_of : (owner : ℕ) → Expr → Paths
paths_of o e = infer o e []

-- TRAVERSED means each accessed path and all its prefixes
unfoldable pub prefixes_of : Path → List Path
prefixes_of (start p) = start p ∷ []
prefixes_of (p ▸ s) = (p ▸ s) ∷ prefixes_of p

-- of a union
unfoldable pub prefixed : List Path → List Path
prefixed [] = []
prefixed (p ∷ ps) = prefixes_of p ++ prefixed ps

-- of an expression's paths
abbrev pub traversed : Paths → List Path
traversed x = prefixed x.accessed

-- UPWARD: axis 2 or 3, even in a branch never run
abbrev pub is_up : Step → Bool
is_up s = leb 2 s.axis

-- a script that holds such a step
unfoldable pub has_up : Expr → Bool
has_up (nil z) = false
has_up (document z d) = false
has_up (var z v) = false
has_up (step z s e) = is_up s || has_up e
has_up (both z e f) = has_up e || has_up f
has_up (let_in z e f) = has_up e || has_up f
has_up (for_in z e f) = has_up e || has_up f
has_up (if_in z e f g) = has_up e || has_up f || has_up g
has_up (element z n) = false
has_up (leaf z v) = false
has_up (delete z e) = has_up e
has_up (insert z e f) = has_up e || has_up f
has_up (pick z r c e) = has_up e
