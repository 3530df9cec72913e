-- Positions stand for the paths of a script's expressions, numbered in one pass over it.
use Rattle.std.specs.Prelude.{Bool, true, false, ◌&&◌, not, cond, List, [], ◌∷◌, ◌++◌, ℕ, ◌<◌, eqb, length, get_or}
use Rattle.model.specs.Script.{Step, Expr, nil, document, var, step, both, let_in, for_in, if_in, element, leaf, delete, insert, pick}
use Rattle.model.specs.Paths.{document_place, Path, start, with_step, any_below, is_up}

-- A POSITION is nothing, a document, a step over a lower position, or two lower positions together
pub data Position : Type 0 where
  nowhere : Position
  root : (document : ℕ) → Position
  over : Step → (operand : ℕ) → Position
  union : (first second : ℕ) → Position

-- a numbered position, and whether the script accesses and modifies it
pub record Entry : Type 0 where
  pub position : Position
  pub accessed : Bool
  pub modified : Bool

-- only there for others to refer to; accessed; modified
abbrev pub plain : Position → Entry
plain p = record { position = p; accessed = false; modified = false }

abbrev pub accessing : Position → Entry
accessing p = record { position = p; accessed = true; modified = false }

abbrev pub modifying : Position → Entry
modifying p = record { position = p; accessed = false; modified = true }

-- it refers to positions below a number
abbrev pub IsLower : (number : ℕ) → Position → Type 0
IsLower k nowhere = Unit
IsLower k (root d) = Unit
IsLower k (over s i) = i < k
IsLower k (union i j) = (i < k) × (j < k)

-- a position by a step that leads up
abbrev pub leads_up : Position → Bool
leads_up nowhere = false
leads_up (root d) = false
leads_up (over s i) = is_up s
leads_up (union i j) = false

-- EMISSION: the number of an expression's position, and the entries up to there
pub record Emitted : Type 0 where
  pub result : ℕ
  pub entries : List Entry

-- both
abbrev pub emitted : (result : ℕ) → (entries : List Entry) → Emitted
emitted r es = record { result = r; entries = es }

-- one entry more, whose number is the result
abbrev pub push : (entries : List Entry) → Entry → Emitted
push es x = emitted (length es) (es ++ (x ∷ []))

-- a step over x, accessed. A step from nothing is nothing; it has a position only where it leads up, to be seen
abbrev pub push_step : Step → Emitted → Emitted
push_step s x = cond (eqb x.result 0 && not (is_up s)) x (push x.entries (accessing (over s x.result)))

-- two results together; with nothing it is the other
abbrev pub push_union : (first : ℕ) → (second : Emitted) → Emitted
push_union r y =
    cond (eqb r 0) y (cond (eqb y.result 0) (emitted r y.entries) (push y.entries (plain (union r y.result))))

-- Delete: all below r1, and r1 with that, modified
abbrev pub push_delete : Emitted → Emitted
push_delete x =
    cond (eqb x.result 0) x
    (emitted 0 (x.entries ++ (plain (over any_below x.result) ∷ []) ++ (modifying (union x.result (length x.entries)) ∷ [])))

-- all below a position, in a role; below nothing is nothing
abbrev pub push_below : (role : Position → Entry) → (operand : ℕ) → List Entry → List Entry
push_below f i es = cond (eqb i 0) es (es ++ (f (over any_below i) ∷ []))

-- Insert: all below r1, accessed, and all below r2, modified
abbrev pub push_insert : (first : ℕ) → (second : Emitted) → Emitted
push_insert r y = emitted 0 (push_below modifying y.result (push_below accessing r y.entries))

-- from the numbers of the bound variables' positions and the entries before; position 0 is nothing
unfoldable pub emit : Expr → (bound : List ℕ) → (entries : List Entry) → Emitted
emit (nil z) b es = emitted 0 es
emit (document z d) b es = push es (accessing (root d))
emit (var z v) b es = emitted (get_or b v 0) es
emit (step z s e) b es = push_step s (emit e b es)
emit (both z e f) b es = push_union (emit e b es).result (emit f b (emit e b es).entries)
emit (let_in z e f) b es = emit f (b ++ ((emit e b es).result ∷ [])) (emit e b es).entries
emit (for_in z e f) b es = emit f (b ++ ((emit e b es).result ∷ [])) (emit e b es).entries
emit (if_in z e f g) b es =
    push_union (emit f b (emit e b es).entries).result (emit g b (emit f b (emit e b es).entries).entries)
emit (element z n) b es = emitted 0 es
emit (leaf z v) b es = emitted 0 es
emit (delete z e) b es = push_delete (emit e b es)
emit (insert z e f) b es = push_insert (emit e b es).result (emit f b (emit e b es).entries)
emit (pick z r c e) b es = emit e b es

-- the first entry of a script: position 0
abbrev pub entries_before : List Entry
entries_before = plain nowhere ∷ []

-- the entries of a script
abbrev pub entries_of : Expr → List Entry
entries_of e = (emit e [] entries_before).entries

-- the entry of a number
abbrev pub entry_at : List Entry → (number : ℕ) → Entry
entry_at es k = get_or es k (plain nowhere)

-- each refers to lower ones only
abbrev pub AreLower : List Entry → Type 0
AreLower es = (k : ℕ) → k < length es → IsLower k (entry_at es k).position

-- PATHS of a position that start at a document, from those of lower positions
abbrev pub paths_at : (lower : List (List Path)) → Position → List Path
paths_at ps nowhere = []
paths_at ps (root d) = start (document_place d) ∷ []
paths_at ps (over s i) = with_step s (get_or ps i [])
paths_at ps (union i j) = get_or ps i [] ++ get_or ps j []

-- those of each position, after lower ones
unfoldable pub paths_from : (lower : List (List Path)) → List Entry → List (List Path)
paths_from ps [] = ps
paths_from ps (x ∷ xs) = paths_from (ps ++ (paths_at ps x.position ∷ [])) xs

-- the paths of each position, and of one
abbrev pub paths_by : List Entry → List (List Path)
paths_by es = paths_from [] es

abbrev pub paths_on : List Entry → (number : ℕ) → List Path
paths_on es k = get_or (paths_by es) k []
