-- Document 01, 'Taking back', here called undo: the form front to back, then the records back to front.
use Rattle.std.specs.Prelude.{Bool, true, false, ◌&&◌, not, cond, List, [], ◌∷◌, ℕ, zero, suc, ◌+◌, ◌-◌, ltb, leb, eqb, length, get_or}
use Rattle.std.specs.Prelude.{take, drop}
use Rattle.std.proofs.Math.Option.{Option, none, some}
use Rattle.model.specs.Limits.{max_history}
use Rattle.model.specs.Refusal.{Refusal, is_fine, or_else, unless, kind_at, short_at, field_at, size_at, link_at}
use Rattle.model.specs.Table.{Row, Table, table, row_at, count, is_lower_element, is_marked, has_parent, linked}
use Rattle.model.specs.History.{Record, made, cut, Form, history_form, history_size, record_in}

-- THE FORM: a record with its place
pub record Placed : Type 0 where
  pub at : ℕ
  pub entry : Record

-- the form: a refusal, or the records with their places
pub data Formed : Type 0 where
  refused : Refusal → Formed
  formed : List Placed → Formed

-- of a record of this form at the front: 1, 5, 2, 4
abbrev pub form_refusal_by : Form → (place records : ℕ) → (bytes : List ℕ) → Refusal
form_refusal_by f i n b =
    or_else (unless (ltb 0 f.size) (kind_at i))
    (or_else (unless (ltb n max_history) (size_at i))
    (or_else (unless (leb f.size (length b)) (short_at i)) (unless (f.fits b) (field_at i))))

-- of the record at the front
abbrev pub form_refusal : (place records : ℕ) → (bytes : List ℕ) → Refusal
form_refusal i n b = form_refusal_by (history_form (get_or b 0 0)) i n b

-- a record before the others, unless they are refused
abbrev pub with_placed : Placed → Formed → Formed
with_placed p (refused x) = refused x
with_placed p (formed ps) = formed (p ∷ ps)

-- fuel: more than there are bytes
unfoldable pub form_from : ℕ → (place records : ℕ) → (bytes : List ℕ) → Formed
form_from zero i n b = formed []
form_from (suc k) i n b =
    cond (eqb (length b) 0) (formed [])
    (cond (is_fine (form_refusal i n b))
    (with_placed (record { at = i; entry = record_in b })
    (form_from k (i + history_size (get_or b 0 0)) (n + 1) (drop (history_size (get_or b 0 0)) b)))
    (refused (form_refusal i n b)))

-- THE FIT: two parents agree
abbrev pub same_parent : Option ℕ → Option ℕ → Bool
same_parent none none = true
same_parent none (some q) = false
same_parent (some p) none = false
same_parent (some p) (some q) = eqb p q

-- two tests agree
abbrev pub same_bool : Bool → Bool → Bool
same_bool true b = b
same_bool false b = not b

-- a made row must be the last row, unmarked, and equal its record
abbrev pub made_fits : Table → (row : ℕ) → Row → Bool
made_fits x i r =
    eqb (i + 1) (count x) && not (is_marked x i) && same_bool (row_at x i).is_leaf r.is_leaf && eqb (row_at x i).tag r.tag &&
    same_parent (row_at x i).parent r.parent

-- a cut row must exist, have no parent and no mark, and its old parent must be a lower element
abbrev pub cut_fits : Table → (row parent : ℕ) → Bool
cut_fits x i p =
    ltb i (count x) && not (has_parent (row_at x i).parent) && not (is_marked x i) && is_lower_element x i p

-- whether a record fits
abbrev pub undo_fits : Table → Record → Bool
undo_fits x (made i r) = made_fits x i r
undo_fits x (cut i p) = cut_fits x i p

-- UNDONE: the last row is gone, or the link is back
abbrev pub undone : Table → Record → Table
undone x (made i r) = table (take (count x - 1) x.rows) x.marks
undone x (cut i p) = linked x i (some p)

-- a refusal, or the table as it was
pub data Undo : Type 0 where
  refused : Refusal → Undo
  back : Table → Undo

-- the records in the order in which they are undone
unfoldable pub undo_all : Table → List Placed → Undo
undo_all x [] = back x
undo_all x (p ∷ ps) = cond (undo_fits x p.entry) (undo_all (undone x p.entry) ps) (refused (link_at p.at))

-- back to front
unfoldable pub backwards : List Placed → List Placed → List Placed
backwards [] ys = ys
backwards (x ∷ xs) ys = backwards xs (x ∷ ys)

-- the form first, then the records
abbrev pub undo_formed : Table → Formed → Undo
undo_formed x (refused f) = refused f
undo_formed x (formed ps) = undo_all x (backwards ps [])

-- TAKING BACK a history of any bytes
abbrev pub undo : Table → (history : List ℕ) → Undo
undo x b = undo_formed x (form_from (length b + 1) 0 0 b)
