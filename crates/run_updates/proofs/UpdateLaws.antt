-- A new row and a cut link, from the tests on each way out: the model's update, and what is held after it.
use mathlib.Core.Path.{◌≡◌, refl, ap, ap₂, sym, ◌∙◌, subst, subst₂}
use mathlib.Core.Bool.{true}
use mathlib.Core.List.{List, [], ◌∷◌, ◌++◌}
use mathlib.Core.Option.{none, some, none-ne-some}
use Prim.Native.Nat.{ℕ, ◌+◌, ◌*◌, ◌-◌, ◌≤◌, ◌<◌}
use native.Mathlib.Omega.{arith}
use lib.ListN.{length, get_or, take, drop, set, length-set, drop_of_length-le}
use Rattle.model.specs.Base.{over}
use Rattle.model.specs.Table as model
use Rattle.model.specs.History.{Record, made, cut, IsInRange, cut_in, record_bytes, made_size, cut_size}
use Rattle.model.specs.Run.{State, state, gives, new_row, with_made, cut_row, cut_by, cut_all}
use Rattle.model.specs.Leads.{Attained}
use Rattle.model.proofs.LeadsLaws.{new_row_room, attained_row, attained_cut}
use Rattle.model.proofs.ListLaws.{drop_next}
use Rattle.model.specs.Table.{Tree}
use Rattle.model.proofs.GrowLaws.{tree_with_row, tree_linked}
use Rattle.model.proofs.FormLaws.{length_record_bytes}
use Rattle.model.proofs.UndoLaws.{made_in_range}
use Rattle.model.specs.Limits.{max_rows}
use Rattle.plan_table.specs.Packed.{link_of, row_of, with_link, decode_parts, Canonical, link_in, link_room}
use Rattle.plan_table.proofs.PackedLaws.{link_of_of_link, pack_row_row_of, canonical_push}
use Rattle.plan_table.proofs.PackedLaws.{decode_linked, canonical_linked}
use Rattle.plan_table.proofs.DecodeLaws.{decode_row, parent_linked, parent_at}
use Rattle.plan_table.proofs.LinkLaws.{links_set, links_cut}
use Rattle.run_updates.specs.Tallying.{plus_made, plus_cut}
use Rattle.run_updates.specs.declared.tally.Tally.{Tally}
use Rattle.run_updates.specs.State.{Progress, records_in, state_of, After, Updated}
use Rattle.run_updates.specs.Updating.{NewPre, CutPre, DeletePost}
use Rattle.run_updates.proofs.HistoryLaws.{recorded_made, recorded_cut}
use Rattle.run_updates.proofs.StateLaws.{append_room, append_few, append_records, append_after, held_within, held_count}
use Rattle.run_updates.proofs.StateLaws.{after_self, after_then, outcome_gives}

-- A ROW MADE
module _ {ws h : List ℕ} {p : Progress} {w : ℕ} (pre : NewPre ws h p w) where
  new_link : link_of (row_of w).parent < link_room
  new_link = omega (arith, link_of_of_link (link_in w))

  module _ (l : p.count < max_rows) where
    abbrev entry : Record
    entry = made p.count (row_of w)

    abbrev rows' : List ℕ
    rows' = set ws p.count w

    abbrev history' : List ℕ
    history' = over p.bytes (record_bytes entry) h

    abbrev made_with : Tally → Progress
    made_with t = record { number = 0; count = p.count + 1; bytes = p.bytes + made_size; tally = t }

    abbrev after' : Progress
    after' = made_with (plus_made p.tally)

    parent_fits : model.parent_fits (decode_parts p.count ws []) (model.count (decode_parts p.count ws [])) (row_of w).parent ≡ true
    parent_fits =
        ap (λ (j : ℕ). model.parent_fits (decode_parts p.count ws []) j (row_of w).parent) (held_count pre.held []) ∙ pre.parent

    entry_range : IsInRange entry
    entry_range =
        let e : model.count (decode_parts p.count ws []) ≡ p.count = held_count pre.held [] in
        subst (λ (j : ℕ). IsInRange (made j (row_of w))) e
        (made_in_range (decode_parts p.count ws []) (row_of w) (omega arith) pre.tag parent_fits)

    entry_size : length (record_bytes entry) ≡ made_size
    entry_size = length_record_bytes entry

    abbrev made_state : (row : ℕ) → State
    made_state j =
        state (model.with_row (decode_parts p.count ws []) (row_of w)) (records_in (take p.bytes h) ++ (made j (row_of w) ∷ []))

    attained_made : Attained (made_state p.count)
    attained_made =
        let e : model.count (decode_parts p.count ws []) ≡ p.count = held_count pre.held [] in
        subst (λ (j : ℕ). Attained (made_state j)) e (attained_row pre.held.attained (row_of w) (omega arith))

    pub new_room : p.bytes + made_size ≤ length h
    new_room = append_room pre.held entry entry_range made_size entry_size attained_made

    pub new_few : p.tally.records < 2 * max_rows
    new_few = append_few pre.held entry entry_range made_size entry_size attained_made

    table_made : (ms : List ℕ) → decode_parts (p.count + 1) rows' ms ≡ model.with_row (decode_parts p.count ws ms) (row_of w)
    table_made ms =
        ap (λ (j : ℕ). decode_parts (p.count + 1) (set ws p.count j) ms) (sym (pack_row_row_of w pre.packed)) ∙
        decode_row p.count (row_of w) ws ms (omega (arith, pre.held.rows)) new_link

    state_made : (ms : List ℕ) → state_of rows' ms history' after' ≡ with_made (state_of ws ms h p) (row_of w)
    state_made ms =
        ap₂ state (table_made ms)
        (append_records pre.held entry entry_range made_size entry_size attained_made ∙
        ap (λ (j : ℕ). records_in (take p.bytes h) ++ (made j (row_of w) ∷ [])) (sym (held_count pre.held ms)))

    after_made : After ws h p rows' history' after'
    after_made =
        append_after pre.held entry entry_range made_size entry_size attained_made
        (recorded_made (take p.bytes h) p.tally pre.held.history entry entry_range refl)
        (length-set ws p.count w) (omega arith) (links_set p.count ws w) (omega arith)
        (subst (λ (j : ℕ). Canonical (p.count + 1) (set ws p.count j)) (pack_row_row_of w pre.packed)
        (canonical_push p.count ws (row_of w) l pre.held.rows new_link pre.held.canonical))
        (subst (λ (x : model.Table). Tree x) (sym (table_made []))
        (tree_with_row (decode_parts p.count ws []) (row_of w) pre.held.tree pre.tag parent_fits))
        (table_made [])

    pub new_made : {h' : List ℕ} {t : Tally} → h' ≡ history' → t ≡ plus_made p.tally →
        Updated (λ z s. new_row z (row_of w) s) (p.count ∷ []) ws h p rows' h' (made_with t)
    new_made e n =
        subst₂ (λ (v : List ℕ) (u : Tally). Updated (λ z s. new_row z (row_of w) s) (p.count ∷ []) ws h p rows' v (made_with u))
        (sym e) (sym n)
        (record {
          same = λ z ms.
              ap (λ (s : State). gives (p.count ∷ []) s) (state_made ms) ∙
              ap (λ (j : ℕ). gives (j ∷ []) (with_made (state_of ws ms h p) (row_of w))) (sym (held_count pre.held ms)) ∙
              sym (new_row_room z (row_of w) (state_of ws ms h p) (omega (arith, held_count pre.held ms)));
          after = λ z. after_made;
        })

-- A LINK CUT
module _ {ws h : List ℕ} {p : Progress} {i : ℕ} (pre : CutPre ws h p i) where
  abbrev packed : ℕ
  packed = get_or ws i 0

  abbrev link : ℕ
  link = link_in packed

  pub cut_root : link ≡ 0 → DeletePost ws h p (i ∷ []) ws h p
  unfolding cut_all
  cut_root e =
      record {
        state = λ ms.
            let q : (model.row_at (decode_parts p.count ws ms) i).parent ≡ none =
            parent_linked p.count ws ms (held_within pre.held) i pre.row ∙ rw e in
            ap (cut_by i (state_of ws ms h p)) (sym q);
        after = after_self pre.held;
      }

  -- it has a parent, by the link that the code comes to
  module _ {l : ℕ} (f : l ≡ link) (some_link : l ≡ 0 → ⊥) where
    n : link ≡ 0 → ⊥
    n q = some_link (f ∙ q)

    parent_here : (ms : List ℕ) → (model.row_at (decode_parts p.count ws ms) i).parent ≡ some (link - 1)
    parent_here ms = parent_at p.count ws ms (held_within pre.held) i pre.row n

    pub cut_low : l - 1 < max_rows
    cut_low = omega (arith, f, (pre.held.tree.parents i (link - 1) (parent_here [])).0, pre.row, pre.held.few)

    abbrev cut_entry : Record
    cut_entry = cut i (link - 1)

    attained_here : Attained (cut_row (state_of ws [] h p) i (link - 1))
    attained_here = attained_cut pre.held.attained i (link - 1) (parent_here [])

    pub cut_room : p.bytes + cut_size ≤ length h
    cut_room = append_room pre.held cut_entry cut_in cut_size refl attained_here

    pub cut_few : p.tally.records < 2 * max_rows
    cut_few = append_few pre.held cut_entry cut_in cut_size refl attained_here

    abbrev cut_packed : ℕ
    cut_packed = with_link packed 0

    abbrev cut_rows : List ℕ
    cut_rows = set ws i cut_packed

    abbrev cut_history : List ℕ
    cut_history = over p.bytes (record_bytes cut_entry) h

    abbrev cut_with : Tally → Progress
    cut_with t = record { number = 0; count = p.count; bytes = p.bytes + cut_size; tally = t }

    abbrev cut_after : Progress
    cut_after = cut_with (plus_cut p.tally)

    table_cut : (ms : List ℕ) → decode_parts p.count cut_rows ms ≡ model.linked (decode_parts p.count ws ms) i none
    table_cut = decode_linked p.count ws pre.held.canonical (held_within pre.held) i pre.row 0 (omega arith)

    state_cut : (ms : List ℕ) → state_of cut_rows ms cut_history cut_after ≡ cut_row (state_of ws ms h p) i (link - 1)
    state_cut ms = ap₂ state (table_cut ms) (append_records pre.held cut_entry cut_in cut_size refl attained_here)

    after_cut : After ws h p cut_rows cut_history cut_after
    after_cut =
        append_after pre.held cut_entry cut_in cut_size refl attained_here
        (recorded_cut (take p.bytes h) p.tally pre.held.history cut_entry cut_in refl)
        (length-set ws i cut_packed) (omega arith) (links_cut p.count ws i (omega (arith, held_within pre.held, pre.row)))
        pre.held.few
        (canonical_linked p.count ws pre.held.canonical (held_within pre.held) i pre.row 0 (omega arith))
        (subst (λ (x : model.Table). Tree x) (sym (table_cut []))
        (tree_linked (decode_parts p.count ws []) i none pre.held.tree
        (omega (arith, pre.row, held_count pre.held [])) (λ q e. absurd (none-ne-some q e)) (λ d e. refl)))
        (table_cut [])

    deleted_cut : DeletePost ws h p (i ∷ []) cut_rows cut_history cut_after
    unfolding cut_all
    deleted_cut =
        record {
          state = λ ms. state_cut ms ∙ ap (cut_by i (state_of ws ms h p)) (sym (parent_here ms));
          after = after_cut;
        }

    pub cut_done : {w' : ℕ} → w' ≡ cut_packed → {h' : List ℕ} → h' ≡ over p.bytes (record_bytes (cut i (l - 1))) h →
        {t : Tally} → t ≡ plus_cut p.tally → DeletePost ws h p (i ∷ []) (set ws i w') h' (cut_with t)
    cut_done e {h'} g {t} m =
        subst (λ (j : ℕ). DeletePost ws h p (i ∷ []) (set ws i j) h' (cut_with t)) (sym e)
        (subst₂ (λ (v : List ℕ) (t : Tally). DeletePost ws h p (i ∷ []) cut_rows v (cut_with t))
        (sym (g ∙ ap (λ (j : ℕ). over p.bytes (record_bytes (cut i (j - 1))) h) f)) (sym m) deleted_cut)

-- A VALUE, row by row: the rest from where it is comes to the whole from the start
pub record Deleting (ws₀ h₀ : List ℕ) (p₀ : Progress) (v ws h : List ℕ) (p : Progress) (k : ℕ) : Type 0 where
  pub after : After ws₀ h₀ p₀ ws h p
  pub within : k ≤ length v
  pub rest : (ms : List ℕ) → cut_all (drop k v) (state_of ws ms h p) ≡ cut_all v (state_of ws₀ ms h₀ p₀)

module _ {ws₀ h₀ : List ℕ} {p₀ : Progress} {v ws h : List ℕ} {p : Progress} {k : ℕ} (d : Deleting ws₀ h₀ p₀ v ws h p k) where
  pub delete_end : length v ≤ k → DeletePost ws₀ h₀ p₀ v ws h p
  unfolding cut_all
  delete_end l =
      record {
        state = λ ms. ap (λ (is : List ℕ). cut_all is (state_of ws ms h p)) (sym (drop_of_length-le v l)) ∙ d.rest ms;
        after = d.after;
      }

  pub delete_again : k < length v → {i : ℕ} → i ≡ get_or v k 0 → {ws' h' : List ℕ} {r : Progress} → DeletePost ws h p (i ∷ []) ws' h' r →
      Deleting ws₀ h₀ p₀ v ws' h' r (k + 1)
  unfolding cut_all
  delete_again l {i} e {ws'} {h'} {r} u =
      record {
        after = after_then d.after u.after;
        within = omega arith;
        rest = λ ms.
            ap (cut_all (drop (k + 1) v)) (u.state ms) ∙
            ap (λ (j : ℕ). cut_all (j ∷ drop (k + 1) v) (state_of ws ms h p)) e ∙
            ap (λ (is : List ℕ). cut_all is (state_of ws ms h p)) (sym (drop_next v k 0 l)) ∙ d.rest ms;
      }

-- as any update is left
pub deleted_updated : {ws h : List ℕ} {p : Progress} {v ws' h' : List ℕ} {r : Progress} → DeletePost ws h p v ws' h' r →
    Updated (λ z s. gives [] (cut_all v s)) [] ws h p ws' h' r
deleted_updated {ws' = ws'} {h'} {r} d =
    record {
      same = λ z ms. outcome_gives z [] ws' ms h' r d.after.held.fine ∙ ap (gives []) (d.state ms);
      after = λ q. d.after;
    }
