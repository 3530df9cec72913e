-- Contracts of the updates of single rows.
use Rattle.std.specs.Prelude.{◌≡◌, Bool, true, cond, List, [], ◌∷◌, ◌++◌, ℕ, ◌≤◌, ◌<◌, eqb}
use Rattle.model.specs.Table.{tag_fits, parent_fits}
use Rattle.model.specs.Stored.{number_bytes, parent_bytes}
use Rattle.model.specs.Run.{new_row, loose, cut_all}
use Rattle.model.specs.History.{made_element_kind, made_leaf_kind}
use Rattle.model.specs.Limits.{max_name}
use Rattle.plan_table.specs.Flags.{Within}
use Rattle.plan_table.specs.Packed.{of_link, is_packed_row, row_of, decode_parts, kind_in, leaf_bits}
use Rattle.run_updates.specs.State.{Progress, state_of, Held, After, Updated}

-- RECORDS as bytes
abbrev pub made_kind : (packed : ℕ) → ℕ
made_kind w = cond (eqb (kind_in w) leaf_bits) made_leaf_kind made_element_kind

abbrev pub six_bytes : (kind row tag link : ℕ) → List ℕ
six_bytes k i t l = (k ∷ number_bytes i) ++ (t ∷ parent_bytes (of_link l))

-- A NEW ROW that fits, packed
pub record NewPre (ws h : List ℕ) (p : Progress) (w : ℕ) : Type 0 where
  pub held : Held ws h p
  pub packed : is_packed_row w ≡ true
  pub tag : tag_fits (row_of w) ≡ true
  pub parent : parent_fits (decode_parts p.count ws []) p.count (row_of w).parent ≡ true

abbrev pub NewPost : (ws h : List ℕ) → (p : Progress) → (packed : ℕ) → (ws' h' : List ℕ) → (r : Progress) → Type 0
NewPost ws h p w ws' h' r = Updated (λ z s. new_row z (row_of w) s) (p.count ∷ []) ws h p ws' h' r

-- WITHOUT PARENT: an element with a name, or a leaf with a value
pub record ElementPre (ws h : List ℕ) (p : Progress) (name : ℕ) : Type 0 where
  pub held : Held ws h p
  pub low : 1 ≤ name
  pub high : name ≤ max_name

abbrev pub LoosePost : (ws h : List ℕ) → (p : Progress) → (is_leaf : Bool) → (tag : ℕ) → (ws' h' : List ℕ) → (r : Progress) → Type 0
LoosePost ws h p b t ws' h' r = Updated (λ z s. new_row z (loose b t) s) (p.count ∷ []) ws h p ws' h' r

-- DELETE: one row of the table, and a value
pub record CutPre (ws h : List ℕ) (p : Progress) (i : ℕ) : Type 0 where
  pub held : Held ws h p
  pub row : i < p.count

pub record DeletePre (ws h : List ℕ) (p : Progress) (v : List ℕ) : Type 0 where
  pub held : Held ws h p
  pub items : Within v p.count

-- it is never refused
pub record DeletePost (ws h : List ℕ) (p : Progress) (v ws' h' : List ℕ) (r : Progress) : Type 0 where
  pub state : (ms : List ℕ) → state_of ws' ms h' r ≡ cut_all v (state_of ws ms h p)
  pub after : After ws h p ws' h' r
