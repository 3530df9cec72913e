-- The start of any world is a twin. And the world of a script alone: a plan beside itself, nothing hidden.
use mathlib.Core.Path.{◌≡◌, refl, sym, ◌∙◌, ap, subst}
use mathlib.Core.Logic.{inl}
use mathlib.Core.List.{List, [], append-nil, Memᴰ as In}
use mathlib.Core.Option.{Option}
use Prim.Native.Nat.{ℕ, ◌<◌}
use native.Mathlib.Nat.{add-zero}
use native.Mathlib.Omega.{arith}
use Rattle.model.specs.Table.{Table, row_at, count}
use Rattle.model.specs.Script.{Expr}
use Rattle.model.specs.Run.{state}
use Rattle.model.specs.Paths.{paths_of}
use Rattle.model.proofs.Words.{first_made}
use Rattle.model.proofs.Labels.{Label, Fit}
use Rattle.model.specs.Base.{nothing}
use Rattle.model.proofs.Shift.{shift_low, shift_row_low}
use Rattle.model.proofs.Twin.{Side, Script, SideFits, World, RunFrom, φ, Twin, φRow}
use Rattle.model.proofs.Start.{Labelled}

-- THE START of any world is a twin
run_from_start : (c : Script) (d : Side) → SideFits c d → RunFrom c d [] (state d.plan [])
run_from_start c d F =
    record {
      fit = subst (λ ls. Fit ls d.plan) (sym (append-nil d.labels)) F.fit;
      marked = F.marked;
      room = F.room;
      closed = F.closed;
      kept = λ i h. inl refl;
      names = nothing;
    }

pub start_twin : (W : World) → Twin W [] (state W.one.plan []) (state W.two.plan [])
start_twin W =
    record {
      one = run_from_start W.script W.one W.one_fits;
      two = run_from_start W.script W.two W.two_fits;
      touched = nothing;
      alike = alike;
      histories = refl;
    }
  where
    alike : (i : ℕ) → i < count W.one.plan → (W.one.hidden i → ⊥) →
        row_at W.two.plan (φ W i) ≡ φRow W (row_at W.one.plan i)
    alike i h c =
        let k : i < W.n = omega (arith, W.one_count) in
        ap (row_at W.two.plan) (shift_low W.n W.m i k) ∙ (W.alike i k c).0 ∙
        sym
        (shift_row_low W.n W.m (row_at W.one.plan i)
        (λ p e. omega (arith, (W.one_fits.fit.links i p e).0)))

-- A SCRIPT by its owner and expression
abbrev pub script_of : (owner : ℕ) → Expr → List (Option ℕ) → Script
script_of o e marks =
    record {
      owner = o;
      accessed = λ p. In p (paths_of o e).accessed;
      modified = λ p. In p (paths_of o e).modified;
      marks = marks;
    }

-- ALONE: the plan beside itself, nothing hidden
abbrev pub alone_side : (x : Table) → List Label → Side
alone_side x ls = record { plan = x; labels = ls; hidden = λ i. ⊥ }

module _ (o : ℕ) (e : Expr) (x : Table) (w : Labelled x) where
  pub alone_fits : SideFits (script_of o e x.marks) (alone_side x w.labels)
  alone_fits =
      record {
        fit = w.started.fit;
        marked = refl;
        rooted = w.rooted;
        room = w.room;
        closed = λ i p e h. h;
        apart =
            λ i p h a q. h;
        early = λ i h. absurd h;
        foreign =
            λ i h q.
            first_made (w.started.firsts i h).0 o (sym (w.started.firsts i h).1 ∙ q);
      }

  abbrev pub alone : World
  alone =
      record {
        script = script_of o e x.marks;
        one = alone_side x w.labels;
        two = alone_side x w.labels;
        n = count x;
        m = 0;
        one_fits = alone_fits;
        two_fits = alone_fits;
        one_count = refl;
        two_count = sym (add-zero (count x));
        clear = λ i h c k. k;
        clear_back = λ i h c k. k;
        alike = λ i h c. (refl, refl);
        between = λ i h k. absurd (omega arith);
      }
