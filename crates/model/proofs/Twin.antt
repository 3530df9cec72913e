-- Two runs of one script from two tables that are alike but for hidden rows: what is assumed of the tables, and how the runs' states,
-- values and outcomes are related.
use mathlib.Core.Path.{◌≡◌}
use mathlib.Core.Logic.{◌⊎◌}
use mathlib.Core.List.{List, [], ◌++◌, map, Memᴰ as In}
use mathlib.Core.Option.{Option, none, some}
use Prim.Native.Nat.{ℕ, ◌+◌, ◌<◌, ◌≤◌}
use lib.ListN.{length, get_or}
use Rattle.model.specs.Limits.{max_rows}
use Rattle.model.specs.Refusal.{Refusal}
use Rattle.model.specs.Table.{Row, Table, row_at, count, with_parent}
use Rattle.model.specs.History.{Record, made, cut}
use Rattle.model.specs.Run.{State, Out, refused, gives}
use Rattle.model.specs.Paths.{Path}
use Rattle.model.proofs.Words.{Word, first, made, Grown}
use Rattle.model.proofs.Labels.{Label, label, label_at, Fit}
use Rattle.model.proofs.Below.{OnPath}
use Rattle.model.specs.Base.{All}
use Rattle.model.proofs.Shift.{shift, shift_parent, shift_row, shift_record}

-- ONE SIDE: the table before the run, its labels, and the rows hidden from the script
pub record Side : Type 1 where
  pub plan : Table
  pub labels : List Label
  pub hidden : ℕ → Type 0

-- the script: the owner of the rows that it makes, the paths that it accesses and modifies; and the marks of both tables
pub record Script : Type 1 where
  pub owner : ℕ
  pub accessed : Path → Type 0
  pub modified : Path → Type 0
  pub marks : List (Option ℕ)

-- a well-formed table with its labels, in which what is below a hidden row is hidden, and no accessed path leads to a hidden row
pub record SideFits (c : Script) (d : Side) : Type 0 where
  pub fit : Fit d.labels d.plan
  pub marked : d.plan.marks ≡ c.marks
  pub rooted : (e i : ℕ) → get_or c.marks e none ≡ some i → (i < count d.plan) × (label_at d.labels i ≡ label (first i) [])
  pub room : count d.plan ≤ max_rows
  pub closed : (i p : ℕ) → (row_at d.plan i).parent ≡ some p → d.hidden p → d.hidden i
  pub apart : (i : ℕ) (p : Path) → d.hidden i → c.accessed p → OnPath c.marks p (label_at d.labels i) → ⊥
  pub early : (i : ℕ) → d.hidden i → i < count d.plan
  pub foreign : (i : ℕ) → i < count d.plan → (label_at d.labels i).root ≡ made c.owner → ⊥

-- BOTH SIDES: the first table has n rows and the second m more, all hidden; of the first n rows the same are hidden, and the others alike
pub record World : Type 1 where
  pub script : Script
  pub one : Side
  pub two : Side
  pub n : ℕ
  pub m : ℕ
  pub one_fits : SideFits script one
  pub two_fits : SideFits script two
  pub one_count : count one.plan ≡ n
  pub two_count : count two.plan ≡ n + m
  pub clear : (i : ℕ) → i < n → (one.hidden i → ⊥) → two.hidden i → ⊥
  pub clear_back : (i : ℕ) → i < n → (two.hidden i → ⊥) → one.hidden i → ⊥
  pub alike : (i : ℕ) → i < n → (one.hidden i → ⊥) →
      (row_at two.plan i ≡ row_at one.plan i) × (label_at two.labels i ≡ label_at one.labels i)
  pub between : (i : ℕ) → n ≤ i → i < n + m → two.hidden i

-- a history names only rows that there are
abbrev pub Named : (rows : ℕ) → Record → Type 0
Named k (made i r) = (i < k) × ((p : ℕ) → r.parent ≡ some p → p < k)
Named k (cut i p) = (i < k) × (p < k)

module _ (c : Script) where
  -- LABELS: the script's own; on one of these paths, which is accessed; one that the script may change, with all below it
  abbrev pub Own : Label → Type 0
  Own l = l.root ≡ made c.owner

  abbrev pub Seen : List Path → Label → Type 0
  Seen r l = (p : Path) × In p r × c.accessed p × OnPath c.marks p l

  abbrev pub Changed : Label → Type 0
  Changed l = (w : Word) → Grown l.word w → (p : Path) × c.modified p × OnPath c.marks p (label l.root w)

  abbrev pub Item : List Path → Label → Type 0
  Item r l = Own l ⊎ Seen r l

  abbrev pub Touched : Label → Type 0
  Touched l = Own l ⊎ Changed l

  -- a row of the first table is as it was; or cut, on an accessed path and all below it on modified ones
  abbrev pub Kept : Label → (before after : Row) → Type 0
  Kept l r q = (q ≡ r) ⊎ ((q ≡ with_parent r none) × ((p : Path) × c.accessed p × OnPath c.marks p l) × Changed l)

  -- RUN FROM: a state in a run from one side's table; the labels of the rows made so far are given
  pub record RunFrom (d : Side) (news : List Label) (s : State) : Type 0 where
    pub fit : Fit (d.labels ++ news) s.plan
    pub marked : s.plan.marks ≡ c.marks
    pub room : count s.plan ≤ max_rows
    pub closed : (i p : ℕ) → (row_at s.plan i).parent ≡ some p → d.hidden p → d.hidden i
    pub kept : (i : ℕ) → i < count d.plan → Kept (label_at d.labels i) (row_at d.plan i) (row_at s.plan i)
    pub names : All (Named (count s.plan)) s.history

module _ (W : World) where
  -- THE LIKE in the second run: of a row's number, a parent, a row and a record of the first
  abbrev pub φ : ℕ → ℕ
  φ i = shift W.n W.m i

  abbrev pub φParent : Option ℕ → Option ℕ
  φParent o = shift_parent W.n W.m o

  abbrev pub φRow : Row → Row
  φRow r = shift_row W.n W.m r

  abbrev pub φRecord : Record → Record
  φRecord r = shift_record W.n W.m r

  -- the labels of each side's rows
  abbrev pub ones : List Label → List Label
  ones news = W.one.labels ++ news

  abbrev pub twos : List Label → List Label
  twos news = W.two.labels ++ news

  -- TWIN: rows that are not hidden are alike, and so are the histories
  pub record Twin (news : List Label) (s t : State) : Type 0 where
    pub one : RunFrom W.script W.one news s
    pub two : RunFrom W.script W.two news t
    pub touched : All (Touched W.script) news
    pub alike : (i : ℕ) → i < count s.plan → (W.one.hidden i → ⊥) →
        row_at t.plan (φ i) ≡ φRow (row_at s.plan i)
    pub histories : t.history ≡ map φRecord s.history

  -- a value whose paths are r
  abbrev pub Valued : List Path → List Label → (row : ℕ) → Type 0
  Valued r news i = (i < length (ones news)) × Item W.script r (label_at (ones news) i)

  abbrev pub Vals : List Path → List Label → List ℕ → Type 0
  Vals r news v = All (Valued r news) v

  -- no room for m rows more
  pub data Full : Out → Type 0 where
    is_refused : {z : Refusal} → Full (refused z)
    passed : {v : List ℕ} {s : State} → max_rows < count s.plan + W.m → Full (gives v s)

  -- SIM: both give alike; both stop alike; or the second stops where the first, with m rows more, would not fit
  pub data Sim (r : List Path) (news : List Label) : Out → Out → Type 0 where
    both : {v : List ℕ} {s t : State} (more : List Label) → Twin (news ++ more) s t → Vals r (news ++ more) v →
        Sim r news (gives v s) (gives (map φ v) t)
    alike : {z : Refusal} → Sim r news (refused z) (refused z)
    full : {o : Out} {z : Refusal} → 0 < W.m → Full o → Sim r news o (refused z)
