-- The demands on what the call `analyse` says of two scripts' bytes. Each is a type; its proof is in proofs/Promised.
use Rattle.std.specs.Prelude.{◌≡◌, ◌↔◌, true, ◌||◌, List, ℕ}
use Rattle.model.specs.Base.{are_bytes}
use Rattle.model.specs.Table.{Table, is_well}
use Rattle.model.specs.Script.{Expr, parsed, read_script}
use Rattle.model.specs.Paths.{has_up}
use Rattle.model.specs.Call.{Areas, AllSuffice, EitherOrder}
use Rattle.model.specs.Refusal.{values}
use Rattle.model.specs.Promise.{NeverTouched, SomewhereTouched}
use Rattle.paths.specs.Analysis.{analysed, values_of}

-- the bytes are accepted, and read as the expression
abbrev pub ReadAs : (bytes : List ℕ) → Expr → Type 0
ReadAs b e = (i : ℕ) × ((n : ℕ) × ((l : List ℕ) × (read_script b ≡ parsed e i n l)))

-- DEMAND 2, what the call's answers mean, by their numbers: upward, 1, exactly where a script holds axis 2 or 3; free, 0, and no plan has
-- a row that one script modifies and the other traverses; meet, 2, and some plan has one
abbrev pub AnalysedMeans : Type 0
AnalysedMeans =
    (b c : List ℕ) (e f : Expr) → are_bytes b ≡ true → are_bytes c ≡ true → ReadAs b e → ReadAs c f →
    ((values_of (analysed b c) ≡ values 0 1 0) ↔ ((has_up e || has_up f) ≡ true)) ×
    (values_of (analysed b c) ≡ values 0 0 0 → NeverTouched e f) × (values_of (analysed b c) ≡ values 0 2 0 → SomewhereTouched e f)

-- DEMAND 3, the two orders of two scripts of which the call says free, 0
abbrev pub AnalysedCommute : Type 0
AnalysedCommute =
    (b c : List ℕ) (x : Table) (k k' l l' : Areas) → are_bytes b ≡ true → are_bytes c ≡ true →
    values_of (analysed b c) ≡ values 0 0 0 → is_well x ≡ true → AllSuffice k k' l l' → EitherOrder b c x k k' l l'
