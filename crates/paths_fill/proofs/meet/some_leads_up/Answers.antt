-- `meet::some_leads_up`: one of the positions, whichever it is, leads up.
use Rattle.std.proofs.Common.{◌≡◌, ℕ, Bool, List, [], ◌∷◌, ◌||◌, refl, ap, sym, ◌∙◌, arith, rules, length}
use Rattle.std.specs.List.{list_any}
use Rattle.std.proofs.lemmas.Iterator.{YieldsList-from_slice}
use Rattle.std.proofs.lemmas.Iterator.Search.{any_from_yields_List}
use Rattle.std.proofs.Math.ListN.{length-map}
use Rattle.std.proofs.Math.Seq.{take_all}
use Rattle.model.specs.Base.{any}
use Rattle.paths_positions.specs.Positions.{Entry, leads_up}
use Rattle.paths_positions.specs.Answer.{any_up_to}
use Rattle.paths_positions.specs.Packed.{position_by, fields_of, kept_of, entry_of, entries_by, leads_up_at, some_leads_up}
use Rattle.paths_positions.proofs.AnyUpToLaws.{any_up_to_any}
use Rattle.paths_positions.proofs.CleanLaws.{leads_up_cleaned}
use Rattle.paths_fill.proofs.meet.some_leads_up.Goals as goal

abbrev leads : Entry → Bool
leads x = leads_up x.position

abbrev up : ℕ → Bool
up w = leads_up (position_by (kept_of w))

any_packed : (ws : List ℕ) → any leads (entries_by ws) ≡ list_any up ws
unfolding any
any_packed [] = refl
any_packed (w ∷ ws) =
    ap (λ (t : Bool). t || any leads (entries_by ws)) (sym (leads_up_cleaned (fields_of w))) ∙
    ap (λ (t : Bool). up w || t) (any_packed ws)

some_is : (ws : List ℕ) → some_leads_up ws ≡ list_any up ws
some_is ws =
    ap (any_up_to (leads_up_at ws)) (sym (length-map ws entry_of)) ∙
    any_up_to_any leads (entries_by ws) (length (entries_by ws)) (omega arith) ∙
    ap (any leads) (take_all (length (entries_by ws)) (entries_by ws) (omega arith)) ∙ any_packed ws

pub returns : goal.returns
returns c =
    let ws = c.args.positions.now in
    any_from_yields_List up _ _ _ c.any.ensures.ran (YieldsList-from_slice ws cc) (λ x b q k. search (rules)) ∙ sym (some_is ws)
